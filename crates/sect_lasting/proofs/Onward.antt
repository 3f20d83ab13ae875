-- A desk over a journal, with one call more.
use Rattle.std.proofs.Common.{◌≡◌, ℕ, true, false, List, [], ◌∷◌, ◌++◌, Option, Some, refl, sym, ◌∙◌, ap, subst, arith, append-nil}
use Rattle.std.specs.List.{AllZip}
use Rattle.sect_base.specs.declared.limit.Caller.{Caller}
use Rattle.sect_journal.specs.Disk.{Told}
use Rattle.sect_journal.specs.Standing.{Standing as Journal, Leaves, told_rows}
use Rattle.sect_journal.specs.Runs.{Append, Call, IsRun, Look, Takes, begun, unanswered}
use Rattle.sect_once.specs.declared.entry.Entry.{Entry}
use Rattle.sect_once.specs.History.{history, TellsRows}
use Rattle.sect_once.specs.Desks.{IsSound, Standing}
use Rattle.sect_lasting.specs.Lasting.{AreNext}
use Rattle.sect_lasting.specs.Laws.{GoesOn, IsOver}
use Rattle.sect_lasting.proofs.Journals.{goes_on, has_run}

module _ {C R : Type 0} (is_row : Entry C R → List ℕ → Type 0) (one_entry : (a b : Entry C R) (row : List ℕ) → is_row a row → is_row b row → a ≡ b) where
  -- rows are of one list of entries
  same_entries : (es fs : List (Entry C R)) (all : List (List ℕ)) → AllZip is_row es all → AllZip is_row fs all → es ≡ fs
  same_entries [] [] [] h k = refl
  same_entries [] (f ∷ fs) [] h k = absurd k
  same_entries (e ∷ es) fs [] h k = absurd h
  same_entries [] fs (r ∷ all) h k = absurd h
  same_entries (e ∷ es) [] (r ∷ all) h k = absurd k
  same_entries (e ∷ es) (f ∷ fs) (r ∷ all) h k = let a = one_entry e f r h.0 k.0 in let b = same_entries es fs all h.1 k.1 in λ i. a i ∷ b i

module _ {D : Type 0} (told : D → Option Told) where
  run_more : (calls : List Call) (call : Call) (start end after : Journal D) → IsRun told calls start end → Takes told call end after → IsRun told (calls ++ call ∷ []) start after
  run_more [] call start end after same takes = (after, subst (λ (s : Journal D). Takes told call s after) (sym same) takes, refl)
  run_more (c ∷ calls) call start end after (next, here, rest) takes = (next, here, run_more calls call next end after rest takes)

-- what is unanswered behind one call more
unanswered_done : (groups : List (List (List ℕ))) (calls : List Call) (group : List (List ℕ)) → unanswered groups (calls ++ Append group true ∷ []) ≡ []
unanswered_done groups [] group = refl
unanswered_done groups (Append g true ∷ calls) group = unanswered_done [] calls group
unanswered_done groups (Append g false ∷ calls) group = unanswered_done (groups ++ g ∷ []) calls group
unanswered_done groups (Look ∷ calls) group = unanswered_done groups calls group

unanswered_failed : (groups : List (List (List ℕ))) (calls : List Call) (group : List (List ℕ)) → unanswered groups (calls ++ Append group false ∷ []) ≡ unanswered groups calls ++ group ∷ []
unanswered_failed groups [] group = refl
unanswered_failed groups (Append g true ∷ calls) group = unanswered_failed [] calls group
unanswered_failed groups (Append g false ∷ calls) group = unanswered_failed (groups ++ g ∷ []) calls group
unanswered_failed groups (Look ∷ calls) group = unanswered_failed groups calls group

unanswered_look : (groups : List (List (List ℕ))) (calls : List Call) → unanswered groups (calls ++ Look ∷ []) ≡ unanswered groups calls
unanswered_look groups [] = refl
unanswered_look groups (Append g true ∷ calls) = unanswered_look [] calls
unanswered_look groups (Append g false ∷ calls) = unanswered_look (groups ++ g ∷ []) calls
unanswered_look groups (Look ∷ calls) = unanswered_look groups calls

module _ {O C R D : Type 0} (start : O) (stepped : O → ℕ → Caller → C → O × R) (is_row : Entry C R → List ℕ → Type 0) (told : D → Option Told)
    (rows : Journal D → Option (List (List ℕ))) (faults : Journal D → ℕ) (rows_are : (journal : Journal D) → rows journal ≡ told_rows (told journal.disk) journal.rows)
    (one_entry : (a b : Entry C R) (row : List ℕ) → is_row a row → is_row b row → a ≡ b) where
  -- a call that leaves the rows leaves the history
  same_history : (desk after : Standing O C R (Journal D)) (t u : Told) → IsSound stepped is_row rows faults start desk → IsSound stepped is_row rows faults start after
      → told desk.keeper.disk ≡ Some t → told after.keeper.disk ≡ Some u → after.keeper.rows ≡ desk.keeper.rows → history desk.log ≡ history after.log
  same_history desk after t u before behind tells tells' same =
      let here : rows desk.keeper ≡ Some desk.keeper.rows = rows_are desk.keeper ∙ ap (λ (o : Option Told). told_rows o desk.keeper.rows) tells in
      let there : rows after.keeper ≡ Some desk.keeper.rows = rows_are after.keeper ∙ ap (λ (o : Option Told). told_rows o after.keeper.rows) tells' ∙ ap Some same in
      same_entries is_row one_entry (history desk.log) (history after.log) desk.keeper.rows
      (subst (λ (o : Option (List (List ℕ))). TellsRows is_row o (history desk.log)) here before.kept)
      (subst (λ (o : Option (List (List ℕ))). TellsRows is_row o (history after.log)) there behind.kept)

  next_on : (desk after : Standing O C R (Journal D)) (calls : List Call) (call : Call) → IsOver start stepped is_row told rows faults desk calls (unanswered [] calls ++ begun call)
      → Takes told call desk.keeper after.keeper → IsSound stepped is_row rows faults start after → AreNext start stepped is_row (history after.log) (unanswered [] (calls ++ call ∷ []))
  next_on desk after calls (Append group true) over takes sound =
      subst (AreNext start stepped is_row (history after.log)) (sym (unanswered_done [] calls group)) (λ g none. absurd (let lt = none.1 in omega (arith, lt)))
  next_on desk after calls (Append group false) over takes sound =
      let ran = has_run told calls over.first desk.keeper (record { now = _; past = _ }) over.opened.synced over.run in
      let on = goes_on (told desk.keeper.disk) (told after.keeper.disk) (Leaves desk.keeper.rows (desk.keeper.loose ++ group ∷ [])) ran.last ran.tells takes.moments in
      subst (λ (es : List (Entry C R)). AreNext start stepped is_row es (unanswered [] (calls ++ Append group false ∷ [])))
      (same_history desk after ran.last on.0 over.sound sound ran.tells on.1 takes.rows)
      (subst (AreNext start stepped is_row (history desk.log)) (sym (unanswered_failed [] calls group)) over.next)
  next_on desk after calls Look over takes sound =
      let ran = has_run told calls over.first desk.keeper (record { now = _; past = _ }) over.opened.synced over.run in
      subst (λ (es : List (Entry C R)). AreNext start stepped is_row es (unanswered [] (calls ++ Look ∷ [])))
      (same_history desk after ran.last ran.last over.sound sound ran.tells (takes.told_same ∙ ran.tells) (ap (λ (s : Journal D). s.rows) takes.same))
      (subst (AreNext start stepped is_row (history desk.log)) (append-nil (unanswered [] calls) ∙ sym (unanswered_look [] calls)) over.next)

  pub one_call_more : GoesOn start stepped is_row told rows faults
  one_call_more desk after calls call takes sound over = record {
    before = over.before;
    first = over.first;
    opened = over.opened;
    run = run_more told calls call over.first desk.keeper after.keeper over.run takes;
    sound = sound;
    next = next_on desk after calls call over takes sound;
  }
