-- Students changed and changed back.
use Rattle.std.specs.Prelude.{◌≡◌, ℕ, Bool, true, false, ◌==◌, cond, List, [], ◌∷◌, ◌++◌, map, Some, None, refl}
use Rattle.std.specs.Option.{option_map, is_some}
use Rattle.std.proofs.Common.{sym, ◌∙◌, ap}
use Rattle.std.proofs.lemmas.Bool.{eqb-true, eq-eqb}
use Rattle.sect_base.specs.declared.ids.StudentId.{StudentId}
use Rattle.sect_people.specs.declared.row.StudentRow.{StudentRow}
use Rattle.sect_people.specs.declared.row.Ask.{Ask}
use Rattle.sect_people.specs.Student.{Student, find_student}
use Rattle.sect_people.specs.Changes.{with_row, put_row, with_asks, put_asks}
use Rattle.sect_people.specs.Order.{all_differ}
use Rattle.sect_model.proofs.Members
use Rattle.sect_model.proofs.EnrolLeave.{find-own}
use Rattle.sect_space.specs.Back.{but_last}
use Rattle.sect_space.proofs.Lists.{but-last, map-back}

abbrev ids : List Student → List ℕ
ids students = map (λ s. s.row.id.0) students

-- a new student, taken off again
pub new-back : (ss : List Student) (row : StudentRow) → find_student ss row.id ≡ None → but_last (put_row ss row) ≡ ss
new-back ss row none =
    ap (λ o. but_last (cond (is_some o) (map (with_row row) ss) (ss ++ record { row = row; asks = [] } ∷ []))) none
    ∙ but-last ss (record { row = row; asks = [] })

-- the id of a student whose row is another one of this id
row-id : (row : StudentRow) (s : Student) → (with_row row s).row.id.0 ≡ s.row.id.0
row-id row s = by_test (s.row.id.0 == row.id.0) refl
  where
    by_test : (b : Bool) → s.row.id.0 == row.id.0 ≡ b → (cond b (record s { row = row }) s).row.id.0 ≡ s.row.id.0
    by_test true t = sym (eqb-true s.row.id.0 row.id.0 t)
    by_test false t = refl

-- another row for a student of its id
own-row : (row : StudentRow) (s : Student) → s.row.id.0 ≡ row.id.0 → with_row row s ≡ record s { row = row }
own-row row s e = λ i. cond (eq-eqb s.row.id.0 row.id.0 e i) (record s { row = row }) s

other-row : (row : StudentRow) (s : Student) (k : ℕ) → row.id.0 ≡ k → s.row.id.0 == k ≡ false → with_row row s ≡ s
other-row row s k e t = λ i. cond ((ap (λ n. s.row.id.0 == n) e ∙ t) i) (record s { row = row }) s

-- another row, and then the old one
pub row-back : (ss : List Student) (row : StudentRow) (s : Student) → all_differ (ids ss) ≡ true → find_student ss row.id ≡ Some s → put_row (put_row ss row) s.row ≡ ss
row-back ss row s differ found =
    ap (λ ts. put_row ts s.row) (known ss row s found)
    ∙ known (map (with_row row) ss) s.row (with_row row s)
    (Members.find-map (λ x. x.row.id.0 == s.row.id.0) (with_row row) ss (λ x. ap (λ n. n == s.row.id.0) (row-id row x))
    ∙ ap (option_map (with_row row)) (find-own (λ x. x.row.id.0) ss differ s m.0 s.row.id.0 refl))
    ∙ map-back (λ x. x.row.id.0) (with_row row) (with_row s.row) row.id.0 ss s differ found
    (ap (with_row s.row) (own-row row s same) ∙ own-row s.row (record s { row = row }) (sym same))
    (λ y t. ap (with_row s.row) (other-row row y row.id.0 refl t) ∙ other-row s.row y row.id.0 same t)
  where
    known : (ss : List Student) (row : StudentRow) (s : Student) → find_student ss row.id ≡ Some s → put_row ss row ≡ map (with_row row) ss
    known ss row s found = ap (λ o. cond (is_some o) (map (with_row row) ss) (ss ++ record { row = row; asks = [] } ∷ [])) found

    m : Members.Member ss s × (s.row.id.0 == row.id.0 ≡ true)
    m = Members.find-member (λ x. x.row.id.0 == row.id.0) ss s found

    same : s.row.id.0 ≡ row.id.0
    same = eqb-true s.row.id.0 row.id.0 m.1

-- other requests, and then the old ones
pub asks-back : (ss : List Student) (id : StudentId) (asks : List Ask) (s : Student) → all_differ (ids ss) ≡ true → find_student ss id ≡ Some s
    → put_asks (put_asks ss id asks) id s.asks ≡ ss
asks-back ss id asks s differ found =
    map-back (λ x. x.row.id.0) (with_asks id asks) (with_asks id s.asks) id.0 ss s differ found
    ((λ i. with_asks id s.asks (cond (own i) (record s { asks = asks }) s)) ∙ (λ i. cond (own i) (record s { asks = s.asks }) (record s { asks = asks })))
    (λ y t. (λ i. with_asks id s.asks (cond (t i) (record y { asks = asks }) y)) ∙ (λ i. cond (t i) (record y { asks = s.asks }) y))
  where
    own : s.row.id.0 == id.0 ≡ true
    own = (Members.find-member (λ x. x.row.id.0 == id.0) ss s found).1
