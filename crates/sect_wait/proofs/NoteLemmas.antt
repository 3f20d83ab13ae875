-- Tickets that are noted as spent: noting one more, and marking those that want an offering.
use Rattle.std.specs.Prelude.{◌≡◌, ℕ, ◌+◌, ◌<◌, Bool, true, false, ◌||◌, ◌&&◌, ◌==◌, List, [], ◌∷◌, ◌++◌, length, take, find, Some, None, refl}
use Rattle.std.specs.List.{list_any}
use Rattle.std.specs.Option.{is_some}
use Rattle.std.proofs.Common.{sym, ◌∙◌, ap, get_or}
use Rattle.std.proofs.lemmas.Bool.{eq-eqb, eqb-true}
use Rattle.std.proofs.lemmas.List.{take_more}
use Rattle.sect_catalog.specs.Catalogue.{has_course}
use Rattle.sect_catalog.specs.declared.row.OfferingRow.{OfferingRow}
use Rattle.sect_catalog.proofs.SearchLemmas.{any-append}
use Rattle.sect_model.specs.declared.held.Waiting.{Waiting}
use Rattle.sect_model.specs.Freer.{Among}
use Rattle.sect_model.specs.Kept.{tickets_rise}
use Rattle.sect_model.proofs.Members.{find-member, find-some, neither-left, not_both}
use Rattle.sect_model.proofs.FreerLemmas.{member}
use Rattle.sect_wait.specs.Indexed.{MarksTold}
use Rattle.sect_wait.specs.Marked.{Marked, MarksMore, NotesMore, is_noted, is_noted_in}
use Rattle.sect_wait.proofs.MarkLemmas.{off-and}
use Rattle.sect_wait.proofs.NeedLemmas.{all-kept, both-kept, second-off}
use Rattle.sect_wait.proofs.QueueLemmas.{one-entry}

-- ---- the entry of a ticket

pub the-entry : (es : List Waiting) (next ticket : ℕ) (f e : Waiting) → tickets_rise es next ≡ true → Some f ≡ find (λ d. d.ticket == ticket) es → Among es e → e.ticket ≡ ticket → f ≡ e
the-entry es next ticket f e rise found a same =
    let own = find-member (λ (d : Waiting). d.ticket == ticket) es f (sym found) in
    one-entry es next rise f e own.0 (member es e a) (eqb-true f.ticket ticket own.1 ∙ sym same)

pub no-entry : {P : Type 0} (es : List Waiting) (ticket : ℕ) (e : Waiting) → None ≡ find (λ (d : Waiting). d.ticket == ticket) es → Among es e → e.ticket ≡ ticket → P
no-entry es ticket e none a same =
    absurd (not_both (is_some (find (λ (d : Waiting). d.ticket == ticket) es)) (find-some (λ (d : Waiting). d.ticket == ticket) es e (member es e a) (eq-eqb e.ticket ticket same)) (ap is_some (sym none)))

-- ---- marking those that are noted

or-and : (a b c : Bool) → a && c ≡ false → b && c ≡ false → (a || (b || false)) && c ≡ false
or-and true b c h g = h
or-and false true c h g = g
or-and false false c h g = refl

module _ (row : OfferingRow) (es : List Waiting) where
  abbrev wanting : Waiting → Bool
  wanting e = list_any (has_course row) e.want.courses

  -- no ticket yet
  pub noted-none : (m : Marked) → MarksMore (is_noted_in [] (Some row)) es m m
  noted-none m = record { kept = all-kept m; added = λ e a u. refl }

  -- the tickets so far, and one more
  noted-one : (spent : List ℕ) (i d : ℕ) (m k n : Marked) → i < length spent → MarksMore (is_noted_in (take i spent) (Some row)) es m k → MarksMore (λ e. get_or spent i d == e.ticket && wanting e) es k n
      → MarksMore (is_noted_in (take (i + 1) spent) (Some row)) es m n
  noted-one spent i d m k n few so_far one = record {
    kept = both-kept m k n so_far.kept one.kept;
    added = λ e a u.
        ap (λ ts. is_noted ts e && wanting e) (take_more spent i d few) ∙ ap (λ b. b && wanting e) (any-append (λ t. t == e.ticket) (take i spent) (get_or spent i d ∷ []))
        ∙ or-and (is_noted (take i spent) e) (get_or spent i d == e.ticket) (wanting e) (so_far.added e a (one.kept.marks e u)) (one.added e a u);
  }

  -- it is marked
  pub noted-marked : (spent : List ℕ) (i d : ℕ) (m k n : Marked) → i < length spent → MarksMore (is_noted_in (take i spent) (Some row)) es m k → MarksTold (Some (get_or spent i d ∷ [])) k n
      → MarksMore (is_noted_in (take (i + 1) spent) (Some row)) es m n
  noted-marked spent i d m k n few so_far told =
      noted-one spent i d m k n few so_far (record { kept = told.kept; added = λ e a u. off-and (get_or spent i d == e.ticket) (wanting e) (neither-left (get_or spent i d == e.ticket) false (told.added e u)) })

  -- its entry doesn't want the offering
  pub noted-elsewhere : (spent : List ℕ) (i d : ℕ) (m k : Marked) → i < length spent → MarksMore (is_noted_in (take i spent) (Some row)) es m k
      → ((e : Waiting) → Among es e → e.ticket ≡ get_or spent i d → false ≡ wanting e) → MarksMore (is_noted_in (take (i + 1) spent) (Some row)) es m k
  noted-elsewhere spent i d m k few so_far away =
      noted-one spent i d m k k few so_far (record { kept = all-kept k; added = λ e a u. by_ticket e a (get_or spent i d == e.ticket) refl })
    where
      by_ticket : (e : Waiting) → Among es e → (b : Bool) → get_or spent i d == e.ticket ≡ b → b && wanting e ≡ false
      by_ticket e a true same = sym (away e a (sym (eqb-true (get_or spent i d) e.ticket same)))
      by_ticket e a false other = refl

-- no offering
pub noted-nowhere : (spent : List ℕ) (es : List Waiting) (m : Marked) → MarksMore (is_noted_in spent None) es m m
noted-nowhere spent es m = record { kept = all-kept m; added = λ e a u. second-off (is_noted spent e) false refl }

-- ---- noting more

pub notes-none : (m : Marked) → NotesMore [] m m
notes-none m = record { marks = refl; noted = λ e h. by_first (is_noted m.spent e) h }
  where
    by_first : (a : Bool) → a || false ≡ true → a ≡ true
    by_first true h = refl
    by_first false h = h

-- the tickets so far, and one that is noted already
pub notes-old : (ts : List ℕ) (i d : ℕ) (m k : Marked) → i < length ts → NotesMore (take i ts) m k → list_any (λ t. t == get_or ts i d) k.spent ≡ true → NotesMore (take (i + 1) ts) m k
notes-old ts i d m k few so_far has = record {
  marks = so_far.marks;
  noted = λ e h. by_test (is_noted m.spent e) (is_noted (take i ts) e) (get_or ts i d == e.ticket) (is_noted k.spent e) (so_far.noted e)
      (λ same. ap (λ n. list_any (λ t. t == n) k.spent) (sym (eqb-true (get_or ts i d) e.ticket same)) ∙ has)
      (sym (ap (λ xs. is_noted m.spent e || is_noted xs e) (take_more ts i d few) ∙ ap (λ b. is_noted m.spent e || b) (any-append (λ t. t == e.ticket) (take i ts) (get_or ts i d ∷ []))) ∙ h);
}
  where
    by_test : (a b c k : Bool) → (a || b ≡ true → k ≡ true) → (c ≡ true → k ≡ true) → a || (b || (c || false)) ≡ true → k ≡ true
    by_test true b c k f g h = f refl
    by_test false true c k f g h = f refl
    by_test false false true k f g h = g refl
    by_test false false false k f g h = absurd (not_both false h refl)

-- and one that is noted now
pub notes-new : (ts : List ℕ) (i d : ℕ) (m k n : Marked) → i < length ts → NotesMore (take i ts) m k → n ≡ record k { spent = k.spent ++ get_or ts i d ∷ [] } → NotesMore (take (i + 1) ts) m n
notes-new ts i d m k n few so_far is = record {
  marks = is ∙ ap (λ (x : Marked). record x { spent = k.spent ++ get_or ts i d ∷ [] }) so_far.marks ∙ ap {A = List ℕ} {B = Marked} (λ s. record m { spent = s }) (sym now);
  noted = λ e h. ap (λ xs. is_noted xs e) now ∙ any-append (λ t. t == e.ticket) k.spent (get_or ts i d ∷ [])
      ∙ by_test (is_noted m.spent e) (is_noted (take i ts) e) (get_or ts i d == e.ticket) (is_noted k.spent e) (so_far.noted e)
      (sym (ap (λ xs. is_noted m.spent e || is_noted xs e) (take_more ts i d few) ∙ ap (λ b. is_noted m.spent e || b) (any-append (λ t. t == e.ticket) (take i ts) (get_or ts i d ∷ []))) ∙ h);
}
  where
    now : n.spent ≡ k.spent ++ get_or ts i d ∷ []
    now = ap (λ (x : Marked). x.spent) is

    by_test : (a b c k : Bool) → (a || b ≡ true → k ≡ true) → a || (b || (c || false)) ≡ true → k || (c || false) ≡ true
    by_test a b c true f h = refl
    by_test true b c false f h = absurd (not_both false (f refl) refl)
    by_test false true c false f h = absurd (not_both false (f refl) refl)
    by_test false false c false f h = h
