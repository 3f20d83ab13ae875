-- Marking the tickets that the index tells marks the entries that the change concerns.
use Rattle.std.specs.Prelude.{◌≡◌, ℕ, ◌+◌, ◌<◌, Bool, true, false, ◌||◌, ◌&&◌, ◌==◌, List, [], ◌∷◌, ◌++◌, length, take, Option, Some, None, Result, OnOk, refl}
use Rattle.std.specs.List.{list_any}
use Rattle.std.proofs.Common.{sym, ◌∙◌, ap, get_or}
use Rattle.std.proofs.lemmas.Bool.{eqb-true}
use Rattle.std.proofs.lemmas.List.{take_more}
use Rattle.sect_base.specs.declared.ids.StudentId.{StudentId}
use Rattle.sect_catalog.specs.Catalogue.{has_course}
use Rattle.sect_catalog.specs.declared.row.OfferingRow.{OfferingRow}
use Rattle.sect_catalog.proofs.SearchLemmas.{any-append}
use Rattle.sect_model.specs.declared.held.Waiting.{Waiting}
use Rattle.sect_model.proofs.Members.{neither-left, neither-right, none-at, none-of, not_both}
use Rattle.sect_wait.specs.Marked.{Marked, is_marked, MarksMore, concerns, is_from, is_source, wants_some}
use Rattle.sect_wait.specs.Indexed.{has_ticket, AreTold, MarksTold}
use Rattle.sect_wait.proofs.MarkLemmas.{mark-kept, mark-marks, more-test, on-ok}
use Rattle.sect_wait.proofs.NeedLemmas.{all-kept, both-kept, neither}

-- ---- tickets

-- a ticket that is marked already
pub told-marked : (m : Marked) (ticket : ℕ) → list_any (λ t. t == ticket) m.tickets ≡ true → MarksTold (Some (ticket ∷ [])) m m
told-marked m ticket h = record { kept = all-kept m; added = λ e u. neither (ticket == e.ticket) false (by_test e u (ticket == e.ticket) refl) refl }
  where
    by_test : (e : Waiting) → is_marked m e ≡ false → (b : Bool) → ticket == e.ticket ≡ b → b ≡ false
    by_test e u true same =
        absurd (not_both (list_any (λ t. t == e.ticket) m.tickets) (ap (λ n. list_any (λ t. t == n) m.tickets) (sym (eqb-true ticket e.ticket same)) ∙ h) (neither-left _ (is_source m e && is_from m.from e) u))
    by_test e u false same = refl

-- a ticket that is marked now
pub told-now : (m n : Marked) (ticket : ℕ) → n ≡ record m { tickets = m.tickets ++ ticket ∷ [] } → MarksTold (Some (ticket ∷ [])) m n
told-now m n ticket is = record {
  kept = record { marks = λ e u. mark-kept m ticket e (ap (λ x. is_marked x e) (sym is) ∙ u); spent = ap (λ (x : Marked). x.spent) is };
  added = λ e u. neither (ticket == e.ticket) false (by_test e (ap (λ x. is_marked x e) (sym is) ∙ u) (ticket == e.ticket) refl) refl;
}
  where
    by_test : (e : Waiting) → is_marked (record m { tickets = m.tickets ++ ticket ∷ [] }) e ≡ false → (b : Bool) → ticket == e.ticket ≡ b → b ≡ false
    by_test e u true same = mark-marks m e (ap (λ t. is_marked (record m { tickets = m.tickets ++ t ∷ [] }) e) (sym (eqb-true ticket e.ticket same)) ∙ u)
    by_test e u false same = refl

-- all are marked
pub told-all : (m n : Marked) → n ≡ record m { all = true; from = None } → MarksTold None m n
told-all m n is = record { kept = record { marks = λ e u. absurd (off e u); spent = ap (λ (x : Marked). x.spent) is }; added = λ e u. absurd (off e u) }
  where
    off : (e : Waiting) → is_marked n e ≡ false → ⊥
    off e u = not_both true refl (neither-right (list_any (λ s. s == e.ticket) m.tickets) true (ap (λ x. is_marked x e) (sym is) ∙ u))

-- the tickets so far, and one more
pub told-more : (ts : List ℕ) (i d : ℕ) (m k n : Marked) → i < length ts → MarksTold (Some (take i ts)) m k → MarksTold (Some (get_or ts i d ∷ [])) k n → MarksTold (Some (take (i + 1) ts)) m n
told-more ts i d m k n few so_far one = record {
  kept = both-kept m k n so_far.kept one.kept;
  added = λ e u. ap (has_ticket e.ticket) (take_more ts i d few) ∙ any-append (λ x. x == e.ticket) (take i ts) (get_or ts i d ∷ [])
      ∙ neither (has_ticket e.ticket (take i ts)) (has_ticket e.ticket (get_or ts i d ∷ [])) (so_far.added e (one.kept.marks e u)) (one.added e u);
}

-- ---- entries

-- what is told of the entries is marked
pub told-marks : (test : Waiting → Bool) (es : List Waiting) (told : Option (List ℕ)) (m n : Marked) → AreTold test es told → MarksTold told m n → MarksMore test es m n
told-marks test es told m n are marks = record { kept = marks.kept; added = λ e a u. are e a (marks.added e u) }

-- nobody passes a test that is false
pub nobody-marked : (test : Waiting → Bool) (es : List Waiting) (m : Marked) → ((e : Waiting) → test e ≡ false) → MarksMore test es m m
nobody-marked test es m none = record { kept = all-kept m; added = λ e a u. none e }

-- those whom one of the things so far concerns, and those whom one more does
pub each-marked : {X : Type 0} (test : X → Waiting → Bool) (xs : List X) (i : ℕ) (d : X) (es : List Waiting) (m k n : Marked) → i < length xs
    → MarksMore (λ e. list_any (λ y. test y e) (take i xs)) es m k → MarksMore (test (get_or xs i d)) es k n → MarksMore (λ e. list_any (λ y. test y e) (take (i + 1) xs)) es m n
each-marked test xs i d es m k n few so_far one = record {
  kept = both-kept m k n so_far.kept one.kept;
  added = λ e a u. ap (list_any (λ y. test y e)) (take_more xs i d few) ∙ any-append (λ y. test y e) (take i xs) (get_or xs i d ∷ [])
      ∙ neither (list_any (λ y. test y e) (take i xs)) (test (get_or xs i d) e || false) (so_far.added e a (one.kept.marks e u)) (neither (test (get_or xs i d) e) false (one.added e a u) refl);
}

-- who wants one of an offering's courses, wants a course of the offering
pub row-marked : {A E : Type 0} (o : OfferingRow) (m n : Marked) (r : Result A E) → OnOk r ((es : List Waiting) → MarksMore (wants_some o.courses) es m n) → OnOk r ((es : List Waiting) → MarksMore (concerns None (Some o)) es m n)
row-marked o m n r marks = on-ok r (λ each es. more-test (concerns None (Some o)) (wants_some o.courses) es m n wants (each es)) marks
  where
    wants : (e : Waiting) → wants_some o.courses e ≡ false → list_any (has_course o) e.want.courses ≡ false
    wants e none = none-of (has_course o) e.want.courses (λ c m. none-of (λ d. d.id.0 == c.0) o.courses (λ d n.
        none-at (λ c. d.id.0 == c.0) e.want.courses (none-at (λ d. list_any (λ c. d.id.0 == c.0) e.want.courses) o.courses none d n) c m))

-- those of the student, and those of the offering
pub both-marked : {A E : Type 0} (student : Option StudentId) (row : Option OfferingRow) (es : List Waiting) (m k n : Marked) (r : Result A E) → MarksMore (concerns student None) es m k
    → OnOk r ((fs : List Waiting) → MarksMore (concerns None row) fs k n) → OnOk r (MarksMore (concerns student row) es m n)
both-marked student row es m k n r own marks = on-ok r (λ each. join (each es)) marks
  where
    join : MarksMore (concerns None row) es k n → MarksMore (concerns student row) es m n
    join wanting = record {
      kept = both-kept m k n own.kept wanting.kept;
      added = λ e a u. neither _ _ (neither-left _ false (own.added e a (wanting.kept.marks e u))) (neither-right false _ (wanting.added e a u));
    }
