-- The tables of the history of a log are read back.
use Rattle.std.specs.Prelude.{ℕ, ◌≤◌, ◌^◌, List, [], ◌∷◌, ◌++◌, length, refl}
use Rattle.std.specs.List.{AllZip}
use Rattle.std.proofs.Common.{sym, subst, append-nil, append_assoc, arith, inl, length-append}
use Rattle.std.proofs.Math.Nat.{lt_of_not-le}
use Rattle.sect_command.specs.declared.command.Command.{Command}
use Rattle.sect_command.specs.declared.reply.Reply.{Reply}
use Rattle.sect_once.specs.History.{NeverFull, history}
use Rattle.sect_once.specs.declared.entry.Entry.{Entry}
use Rattle.sect_once.specs.declared.entry.Note.{Note}
use Rattle.sect_once.specs.declared.entry.Note.TheVariants.{Acted, Faulted}
use Rattle.sect_read.specs.Fits.{FitsList}
use Rattle.sect_read.specs.Laws.{IsRow}
use Rattle.sect_rows.specs.Laws.{HasCommand}
use Rattle.sect_return.specs.States.{LogsReadBack}
use Rattle.sect_return.proofs.StateTables.{states_read_back}

-- a log that was never full is short
short_log : (front log : List (Note Command Reply)) → length front ≤ 2 ^ 20 → NeverFull IsRow (front ++ log) → length (front ++ log) ≤ 2 ^ 20
short_log front [] short never = subst (λ notes. length notes ≤ 2 ^ 20) (sym (append-nil front)) short
short_log front (note ∷ log) short never =
    let room = lt_of_not-le (λ (big : 2 ^ 20 ≤ length front). never front note log refl (inl big)) in
    subst (λ notes. length notes ≤ 2 ^ 20) (append_assoc front (note ∷ []) log)
    (short_log (front ++ note ∷ []) log (omega (arith, room, length-append front (note ∷ [])))
    (subst (NeverFull IsRow) (sym (append_assoc front (note ∷ []) log)) never))

-- so is its history
short_history : (log : List (Note Command Reply)) → length (history log) ≤ length log
short_history [] = omega arith
short_history (Acted e ∷ log) = omega (arith, short_history log)
short_history (Faulted id ∷ log) = omega (arith, short_history log)

-- the command of an entry with a row has a text
have_commands : (entries : List (Entry Command Reply)) (rows : List (List ℕ)) → AllZip IsRow entries rows → FitsList HasCommand entries
have_commands [] [] all = tt
have_commands [] (row ∷ rows) all = absurd all
have_commands (e ∷ entries) [] all = absurd all
have_commands (e ∷ entries) (row ∷ rows) all = (all.0.0.2, have_commands entries rows all.1)

-- the tables of a log's history
pub logs_read_back : LogsReadBack
logs_read_back log rows table replay never all =
    states_read_back (history log) table replay (have_commands (history log) rows all)
    (omega (arith, short_history log, short_log [] log (omega arith) never))
