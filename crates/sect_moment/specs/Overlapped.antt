-- The least of two, where there are any.
use Rattle.std.specs.Prelude.{ℕ, Bool, true, false, nat_le, nat_lt, ◌||◌, cond, List, [], map, filter, Option, Some, None}
use Rattle.sect_base.specs.Pattern.{lists_overlap}
use Rattle.sect_model.specs.Data.{SectionId, Choice, Reservation, Pattern}
use Rattle.sect_model.specs.World.{World, meetings_of}
use Rattle.sect_model.specs.Allowed.{permits_overlap}
use Rattle.std.specs.Option.{option_map_or}

-- the lesser of a number and another, where there is one
abbrev pub lesser : ℕ → Option ℕ → ℕ
lesser n later = option_map_or (λ m. cond (nat_le n m) n m) later n

-- the lesser of two, where there are any
abbrev pub lesser_of : Option ℕ → Option ℕ → Option ℕ
lesser_of None later = later
lesser_of (Some n) later = Some (lesser n later)

-- the number is below the least so far, or is the first
abbrev pub is_lesser : ℕ → Option ℕ → Bool
is_lesser n so_far = option_map_or (λ m. nat_lt n m) so_far true

-- the sections of a choice that these meetings overlap, where neither permits it
abbrev pub overlapped : World → Bool → List Pattern → Choice → List ℕ
overlapped w permitted meetings choice =
    cond (permitted || permits_overlap w choice) [] (map (λ s. s.0) (filter (λ s. lists_overlap meetings (meetings_of w s)) choice.sections))

-- the earlier sections of a choice that these meetings overlap, where its reservation doesn't permit it
abbrev pub own_overlapped : World → Option Reservation → List SectionId → List Pattern → List ℕ
own_overlapped w r earlier meetings =
    cond (option_map_or (λ r. r.overlap) r false) [] (map (λ s. s.0) (filter (λ s. lists_overlap (meetings_of w s) meetings) earlier))
