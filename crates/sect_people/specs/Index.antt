-- Where a student of an id stands, and what an index of the students keeps.
use Rattle.std.specs.Prelude.{◌≡◌, ℕ, suc, cond, ◌==◌, nat_lt, List, [], ◌∷◌, map, Option, Some, None, IsTrue}
use Rattle.std.specs.Option.{option_map}
use Rattle.sect_base.specs.declared.ids.StudentId.{StudentId}
use Rattle.sect_people.specs.Student.{Student}
use Rattle.sect_people.specs.Order.{sorted_by, all_differ}

-- how many stand before the first whose key is not below the number
abbrev pub rank : {X : Type 0} → (X → ℕ) → ℕ → List X → ℕ
rank key n [] = 0
rank key n (x ∷ xs) = cond (nat_lt (key x) n) (suc (rank key n xs)) 0

-- the first place of the key
abbrev pub place_of : {X : Type 0} → (X → ℕ) → List X → ℕ → Option ℕ
place_of key [] id = None
place_of key (x ∷ xs) id = cond (key x == id) (Some 0) (option_map (λ n. suc n) (place_of key xs id))

-- each id with its place, counted from a number
abbrev pub entries_from : ℕ → List Student → List (StudentId × ℕ)
entries_from n [] = []
entries_from n (s ∷ ss) = (s.row.id, n) ∷ entries_from (suc n) ss

-- each id with its place, in rising order
abbrev pub index_of : List Student → List (StudentId × ℕ)
index_of students = sorted_by (λ e. e.0.0) (entries_from 0 students)

-- no id stands twice, and the two lists are the index of the students
pub record Keeps (students : List Student) (ids : List StudentId) (places : List ℕ) : Type 0 where
  pub differ : IsTrue (all_differ (map (λ s. s.row.id.0) students))
  pub ids_right : ids ≡ map (λ e. e.0) (index_of students)
  pub places_right : places ≡ map (λ e. e.1) (index_of students)
