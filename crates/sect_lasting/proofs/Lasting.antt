-- What a crash leaves of a desk's journal, as the desk opens to it.
use Rattle.std.proofs.Common.{◌≡◌, ◌⊎◌, inl, inr, ℕ, List, [], ◌∷◌, ◌++◌, Option, Some, Result, Ok, refl, sym, ◌∙◌, ap, subst}
use Rattle.std.specs.List.{AllZip}
use Rattle.sect_base.specs.declared.limit.Caller.{Caller}
use Rattle.sect_journal.specs.Disk.{Content, Told, Stays}
use Rattle.sect_journal.specs.Text.{journal_rows}
use Rattle.sect_journal.specs.Standing.{Standing as Journal, Leaves, LeavesNow, OpensTo, told_rows}
use Rattle.sect_journal.specs.Runs.{Call, acknowledged}
use Rattle.sect_once.specs.declared.entry.Entry.{Entry}
use Rattle.sect_once.specs.History.{history, TellsRows}
use Rattle.sect_once.specs.Desks.{Standing}
use Rattle.sect_once.proofs.Rows.{rows-append}
use Rattle.sect_lasting.specs.Lasting.{AtMostOneMore, ComesBack, LeavesDesk}
use Rattle.sect_lasting.specs.Laws.{IsOver}
use Rattle.sect_lasting.proofs.Journals.{has_run, none_is_bad, starts_with, stays_as}
use Rattle.sect_lasting.proofs.Logs.{opens_to}

module _ {O C R D : Type 0} (start : O) (stepped : O → ℕ → Caller → C → O × R) (is_row : Entry C R → List ℕ → Type 0) (told : D → Option Told)
    (rows : Journal D → Option (List (List ℕ))) (faults : Journal D → ℕ) (rows_are : (journal : Journal D) → rows journal ≡ told_rows (told journal.disk) journal.rows)
    (one_entry : (a b : Entry C R) (row : List ℕ) → is_row a row → is_row b row → a ≡ b) (desk : Standing O C R (Journal D)) (calls : List Call) (groups : List (List (List ℕ)))
    (over : IsOver start stepped is_row told rows faults desk calls groups) where
  -- bytes that are a journal with these rows
  comes_back : (bytes : List ℕ) (entries : List (Entry C R)) (all : List (List ℕ)) → AtMostOneMore start stepped is_row (history desk.log) entries
      → journal_rows bytes ≡ Ok all → AllZip is_row entries all → ComesBack start stepped is_row told rows faults (history desk.log) bytes
  comes_back bytes entries all at_most opens kept = record {
    entries = entries;
    at_most = at_most;
    all = all;
    opens = opens;
    are_rows = kept;
    starts = λ u place is bad. none_is_bad u place bytes all is opens bad;
    reopens = λ u journal result is opened answered. opens_to start stepped is_row rows faults one_entry journal desk.log entries all result
        over.sound.legal over.sound.roomy at_most (rows_are journal ∙ starts_with told u journal bytes all is opens opened) kept answered;
  }

  abbrev known : List (List ℕ)
  known = acknowledged over.first.rows calls

  -- the acknowledged rows are those of the history
  known_are : AllZip is_row (history desk.log) known
  known_are =
      let ran = has_run told calls over.first desk.keeper (record { now = _; past = _ }) over.opened.synced over.run in
      let tells : rows desk.keeper ≡ Some known = rows_are desk.keeper ∙ ap (λ (o : Option Told). told_rows o desk.keeper.rows) ran.tells ∙ ap Some ran.rows in
      subst (λ (o : Option (List (List ℕ))). TellsRows is_row o (history desk.log)) tells over.sound.kept

  image_back : (image : List ℕ) → OpensTo known groups image → ComesBack start stepped is_row told rows faults (history desk.log) image
  image_back image (Rattle.std.proofs.Common.inl opens) = comes_back image (history desk.log) known (inl refl) opens known_are
  image_back image (Rattle.std.proofs.Common.inr (group, has, opens)) =
      let n = over.next group has in
      comes_back image (history desk.log ++ n.0 ∷ []) (known ++ n.1 ∷ []) (inr (n.0, n.1, n.2, refl)) (opens ∙ ap (λ (more : List (List ℕ)). Ok (known ++ more)) n.3)
      (rows-append is_row (history desk.log) known n.0 n.1 known_are n.2.written)

  leaves_back : (c : Content) → Leaves known groups c → LeavesDesk start stepped is_row told rows faults (history desk.log) c
  leaves_back c leaves image is = image_back image (leaves image is)

  pub lasts_now : (t : Told) → told desk.keeper.disk ≡ Some t → LeavesNow known groups (told desk.keeper.disk)
      → LeavesDesk start stepped is_row told rows faults (history desk.log) t.now
  lasts_now t is leaves = leaves_back t.now (subst (λ (o : Option Told). LeavesNow known groups o) is leaves)

  pub lasts_on : (after : Journal D) → Stays (told desk.keeper.disk) (told after.disk) (Leaves known groups)
      → Stays (told desk.keeper.disk) (told after.disk) (LeavesDesk start stepped is_row told rows faults (history desk.log))
  lasts_on after stays =
      stays_as (told desk.keeper.disk) (told after.disk) (Leaves known groups) (LeavesDesk start stepped is_row told rows faults (history desk.log)) leaves_back stays
