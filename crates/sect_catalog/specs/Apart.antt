-- Ids that rise within their kind: then none of them stands twice.
use Rattle.std.specs.Prelude.{◌≡◌, ℕ, ◌+◌, nat_lt, cond, false, List, [], ◌∷◌, slice_get, slice_set, Option, Some, None}
use Rattle.std.specs.Option.{option_and_then}
use Rattle.sect_catalog.specs.declared.row.OfferingRow.{OfferingRow}
use Rattle.sect_catalog.specs.Fault.{row_ids, stands_twice}

-- the least ids of the kinds that would still rise, behind an id; none where it doesn't rise itself
abbrev pub past : List ℕ → ℕ × ℕ → Option (List ℕ)
past floors id = option_and_then (λ floor. cond (nat_lt id.1 floor) None (Some (slice_set floors id.0 (id.1 + 1)))) (slice_get floors id.0)

-- the least ids of the kinds that would still rise, behind these; none where one of them doesn't rise
abbrev pub past_all : List ℕ → List (ℕ × ℕ) → Option (List ℕ)
past_all floors [] = Some floors
past_all floors (id ∷ ids) = option_and_then (λ f. past_all f ids) (past floors id)

-- before the first id of each of the five kinds
abbrev pub no_floors : List ℕ
no_floors = 0 ∷ 0 ∷ 0 ∷ 0 ∷ 0 ∷ []

-- no id stands twice in the row
abbrev pub AreApart : OfferingRow → Type 0
AreApart o = (id : ℕ × ℕ) → stands_twice (row_ids o) id ≡ false
