-- After a history of requests with texts, the entry of one more has a row.
use Rattle.std.specs.Prelude.{◌≡◌, ℕ, ◌++◌, ◌+◌, ◌*◌, ◌≤◌, List, [], ◌∷◌, length, refl}
use Rattle.std.specs.List.{AllZip}
use Rattle.std.proofs.Common.{subst, arith, ap, ◌∙◌}
use Rattle.sect_base.specs.declared.limit.Id.{Id}
use Rattle.sect_command.specs.declared.command.Command.{Command}
use Rattle.sect_command.specs.declared.reply.Reply.{Reply}
use Rattle.sect_model.specs.World.{State, empty_state}
use Rattle.sect_model.specs.Kept.{KeptState}
use Rattle.sect_model.proofs.StepLemmas.{step-keeps, history-keeps}
use Rattle.sect_once.specs.declared.entry.Entry.{Entry}
use Rattle.sect_once.specs.History.{HasRow, state_after}
use Rattle.sect_text.specs.Replies.{reply_text}
use Rattle.sect_text.specs.Rows.{row_text}
use Rattle.sect_text.specs.ToldRows.{IsRequestText}
use Rattle.sect_text.proofs.Sentences.{parts_row}
use Rattle.sect_wire.specs.Fits.{FitsList, FitsReply}
use Rattle.sect_wire.specs.Laws.{IsRow}
use Rattle.sect_rows.specs.States.{FitsState}
use Rattle.sect_history.specs.Step.{stepped}
use Rattle.sect_rows.specs.Laws.{EntryHasRow, HasCommand, HistoryHasRow}
use Rattle.sect_rows.proofs.Batches.{more-state}
use Rattle.sect_rows.proofs.Steps.{step-fits}

-- a state with at most so many tickets given
record Reached (most : ℕ) (s : State) : Type 0 where
  kept : KeptState s
  fits : FitsState most s

reached : (es : List (Entry Command Reply)) (s : State) (m n : ℕ) → FitsList HasCommand es → m + 2000 * length es ≤ n → n ≤ 18446744073709551615 → Reached m s → Reached n (state_after stepped s es)
reached [] s m n h few small r = record { kept = r.kept; fits = more-state m n s (omega (arith, few)) r.fits }
reached (e ∷ es) s m n h few small r =
    reached es (stepped s e.day e.id.caller e.command).0 (m + 2000) n h.1 (omega (arith, few)) small
    (record { kept = step-keeps s e.day e.id.caller e.command r.kept; fits = (step-fits s m e.day e.id.caller e.command r.kept r.fits h.0 (omega (arith, few, small))).0 })

first : Reached 1 empty_state
first = record { kept = history-keeps []; fits = record { world = record { offerings = tt; students = tt; reservations = tt; roster = tt }; entries = tt; next = omega arith } }

pub history-has-row : HistoryHasRow
history-has-row es e h few asked e_reply =
    let r = reached es empty_state 1 3000000000 h (omega (arith, few)) (omega arith) first in
    let reply = (step-fits (state_after stepped empty_state es) 3000000000 e.day e.id.caller e.command r.kept r.fits asked.2 (omega arith)).1 in
    (row_text e, ((asked.1, asked.0, asked.2, subst FitsReply e_reply reply), refl))

written : (es : List (Entry Command Reply)) (rows : List (List ℕ)) → AllZip IsRow es rows → FitsList HasCommand es
written [] [] h = tt
written [] (row ∷ rows) h = absurd h
written (e ∷ es) [] h = absurd h
written (e ∷ es) (row ∷ rows) h = (h.0.0.2, written es rows h.1)

pub entry-has-row : EntryHasRow
entry-has-row es rows e h few asked replied = history-has-row es e (written es rows h) few asked replied

-- the text of a request in a row, with the text of a reply behind it, is the row of their entry, if that has one
pub completed-row : (id : Id) (day : ℕ) (command : Command) (reply : Reply) (old new : List ℕ) → IsRequestText id day command old → HasRow IsRow (record { id = id; day = day; command = command; reply = reply })
    → new ≡ old ++ reply_text reply → IsRow (record { id = id; day = day; command = command; reply = reply }) new
completed-row id day command reply old new begun has told =
    (has.1.0, told ∙ ap (λ bytes. bytes ++ reply_text reply) begun ∙ parts_row (record { id = id; day = day; command = command; reply = reply }))
