-- What a run of a journal's calls keeps, and what a disk with a journal starts to.
use Rattle.std.proofs.Common.{◌≡◌, ℕ, Bool, true, false, List, [], ◌∷◌, ◌++◌, Option, Some, None, Ok, Err, length, eqb, sym, ◌∙◌, ap, subst, arith}
use Rattle.std.specs.Prelude.{if◌then◌else◌}
use Rattle.std.proofs.lemmas.Bool.{ne_eqb}
use Rattle.std.proofs.lemmas.List.Elements.{All-weaker}
use Rattle.sect_journal.specs.declared.journal.JournalFault.TheVariants.{BadJournal}
use Rattle.sect_journal.specs.Disk.{Content, Told, Stays, after_sync}
use Rattle.sect_journal.specs.Text.{journal_rows}
use Rattle.sect_journal.specs.Standing.{Standing, Leaves, told_rows, where_told}
use Rattle.sect_journal.specs.Opening.{IsBadAt, IsOpened, HoldsRows, formatted, prepared}
use Rattle.sect_journal.specs.Runs.{Append, Call, IsRun, Look, acknowledged}

-- a disk that tells goes on to tell
pub goes_on : (old new : Option Told) (P : Content → Type 0) (t : Told) → old ≡ Some t → Stays old new P → (u : Told) × (new ≡ Some u)
goes_on None new P t is stays = absurd cc
goes_on (Some s) new P t is (u, now, stays) = (u, now)

pub stays_as : (old new : Option Told) (P Q : Content → Type 0) → ((c : Content) → P c → Q c) → Stays old new P → Stays old new Q
stays_as None new P Q gives stays = stays
stays_as (Some t) new P Q gives (u, is, s) = (u, is, record { later = s.later; grows = s.grows; first = gives t.now s.first; each = All-weaker P Q gives s.later s.each })

module _ {D : Type 0} (told : D → Option Told) where
  -- where the disk tells, the rows after a run are the acknowledged ones
  pub record HasRun (start end : Standing D) (calls : List Call) : Type 0 where
    pub last : Told
    pub tells : told end.disk ≡ Some last
    pub rows : end.rows ≡ acknowledged start.rows calls

  pub has_run : (calls : List Call) (start end : Standing D) (t : Told) → told start.disk ≡ Some t → IsRun told calls start end → HasRun start end calls
  has_run [] start end t tells same = record {
    last = t;
    tells = subst (λ (s : Standing D). told s.disk ≡ Some t) same tells;
    rows = ap (λ (s : Standing D). s.rows) (sym same);
  }
  has_run (Append group true ∷ calls) start end t tells (next, takes, rest) =
      let u = goes_on (told start.disk) (told next.disk) (Leaves start.rows (start.loose ++ group ∷ [])) t tells takes.moments in
      let here : next.rows ≡ start.rows ++ group = takes.rows ∙ ap (λ (o : Option Told). start.rows ++ where_told o group) tells in
      let h = has_run calls next end u.0 u.1 rest in
      record { last = h.last; tells = h.tells; rows = h.rows ∙ ap (λ (rows : List (List ℕ)). acknowledged rows calls) here }
  has_run (Append group false ∷ calls) start end t tells (next, takes, rest) =
      let u = goes_on (told start.disk) (told next.disk) (Leaves start.rows (start.loose ++ group ∷ [])) t tells takes.moments in
      let h = has_run calls next end u.0 u.1 rest in
      record { last = h.last; tells = h.tells; rows = h.rows ∙ ap (λ (rows : List (List ℕ)). acknowledged rows calls) takes.rows }
  has_run (Look ∷ calls) start end t tells (next, takes, rest) =
      let here : next.rows ≡ start.rows = ap (λ (s : Standing D). s.rows) takes.same in
      let h = has_run calls next end t (takes.told_same ∙ tells) rest in
      record { last = h.last; tells = h.tells; rows = h.rows ∙ ap (λ (rows : List (List ℕ)). acknowledged rows calls) here }

-- a disk that has a journal isn't prepared anew
prepared_same : (u : Told) (bytes : List ℕ) (rows : List (List ℕ)) → u.now.seen ≡ bytes → journal_rows bytes ≡ Ok rows → prepared (Some u) ≡ Some u
prepared_same u [] rows is opens = absurd cc
prepared_same u (byte ∷ bytes) rows is opens =
    let some : eqb (length u.now.seen) 0 ≡ false = ne_eqb (length u.now.seen) 0 (λ (none : length u.now.seen ≡ 0). let long = ap length is in absurd (omega (arith, long, none))) in
    ap (λ (empty : Bool). if empty then formatted (Some u) else Some u) some

pub none_is_bad : (u : Told) (place : ℕ) (bytes : List ℕ) (rows : List (List ℕ)) → u.now.seen ≡ bytes → journal_rows bytes ≡ Ok rows → IsBadAt (prepared (Some u)) (BadJournal place) → ⊥
none_is_bad u place bytes rows is opens bad =
    let here : journal_rows u.now.seen ≡ Err place = subst (λ (o : Option Told). IsBadAt o (BadJournal place)) (prepared_same u bytes rows is opens) bad in
    absurd (let there : journal_rows u.now.seen ≡ Ok rows = ap journal_rows is ∙ opens in cc)

-- the journal that is started on it tells its rows
pub starts_with : {D : Type 0} (told : D → Option Told) (u : Told) (journal : Standing D) (bytes : List ℕ) (rows : List (List ℕ))
    → u.now.seen ≡ bytes → journal_rows bytes ≡ Ok rows → IsOpened told (prepared (Some u)) journal → told_rows (told journal.disk) journal.rows ≡ Some rows
starts_with told u journal bytes rows is opens opened =
    let same : prepared (Some u) ≡ Some u = prepared_same u bytes rows is opens in
    let here : journal_rows u.now.seen ≡ Ok journal.rows = subst (λ (o : Option Told). HoldsRows o journal.rows) same opened.rows in
    let rows_are : journal.rows ≡ rows = (let there : journal_rows u.now.seen ≡ Ok rows = ap journal_rows is ∙ opens in cc) in
    ap (λ (o : Option Told). told_rows o journal.rows) (opened.synced ∙ ap after_sync same) ∙ ap Some rows_are
