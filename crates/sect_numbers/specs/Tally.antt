-- The counts of ids.
use Rattle.std.specs.Prelude.{◌≡◌, ℕ, Bool, true, ◌+◌, ◌-◌, ◌==◌, ◌≤◌, not, ◌&&◌, cond, List, [], ◌∷◌, map, filter, slice_get, Option}
use Rattle.std.specs.List.{list_any}
use Rattle.std.specs.Option.{is_some, option_map_or, option_and_then}
use Rattle.std.specs.Bool.{then_some}
use Rattle.sect_base.specs.Table.{value_at}
use Rattle.sect_base.specs.declared.ids.SectionId.{SectionId}
use Rattle.sect_numbers.specs.declared.tally.Counts.{Counts}
use Rattle.sect_numbers.specs.declared.tally.Row.{Row}
use Rattle.sect_numbers.specs.declared.tally.Turn.{Turn}
use Rattle.sect_numbers.specs.declared.tally.Turn.TheVariants.{In, Out}
use Rattle.sect_numbers.specs.declared.tally.Tally.{Tally}

-- nothing counted
abbrev pub none : Counts
none = record { count = 0; counted = 0 }

-- the row at a place, where it is the id's
abbrev pub own_row : List Row → ℕ → Option ℕ → Option Row
own_row rows id place = option_and_then (λ i. option_and_then (λ r. then_some (r.id == id) r) (slice_get rows i)) place

-- the place, where its row is the id's
abbrev pub own_place : List Row → ℕ → Option ℕ → Option ℕ
own_place rows id place = option_and_then (λ i. option_and_then (λ r. then_some (r.id == id) i) (slice_get rows i)) place

-- the row of an id
abbrev pub row_of : Tally → ℕ → Option Row
row_of t id = own_row t.rows.items id (value_at t.places id)

-- the place of the row of an id
abbrev pub place_of : Tally → ℕ → Option ℕ
place_of t id = own_place t.rows.items id (value_at t.places id)

-- the counts of an id, none where it has no row
abbrev pub counts_at : Tally → ℕ → Counts
counts_at t id = option_map_or (λ r. r.counts) (row_of t id) none

-- the id has a row
abbrev pub has_row : Tally → ℕ → Bool
has_row t id = is_some (row_of t id)

-- the ids that have a row
abbrev pub ids_with_rows : Tally → List ℕ
ids_with_rows t = map (λ r. r.id) (filter (λ r. has_row t r.id) t.rows.items)

-- the counts with one enrolment more or less, which counts towards the limit unless it is over it
abbrev pub stepped : Turn → Bool → Counts → Counts
stepped In over c = record { count = c.count + 1; counted = c.counted + cond over 0 1 }
stepped Out over c = record { count = c.count - 1; counted = c.counted - cond over 0 1 }

-- one more can be counted
pub record IsSmall (c : Counts) : Type 0 where
  pub count : c.count ≤ 1000000000
  pub counted : c.counted ≤ 1000000000

-- the counts took the step at the ids that the test hits, and stay at the others
pub record Steps (t u : Tally) (turn : Turn) (over : Bool) (hit : ℕ → Bool) : Type 0 where
  pub counts : (q : ℕ) → counts_at u q ≡ cond (hit q) (stepped turn over (counts_at t q)) (counts_at t q)
  pub rows : (q : ℕ) → has_row u q ≡ has_row t q

-- the id is one of these
abbrev pub is_among : List SectionId → ℕ → Bool
is_among ids q = list_any (λ s. s.0 == q) ids

-- each is another than those behind it
abbrev pub are_apart : List SectionId → Bool
are_apart [] = true
are_apart (s ∷ ss) = not (is_among ss s.0) && are_apart ss

-- the counts stay, and no row goes
pub record Keeps (t u : Tally) : Type 0 where
  pub counts : (q : ℕ) → counts_at u q ≡ counts_at t q
  pub rows : (q : ℕ) → has_row t q ≡ true → has_row u q ≡ true
