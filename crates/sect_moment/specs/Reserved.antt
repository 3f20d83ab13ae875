-- What reservations hold back at a level, taken one after another.
use Rattle.std.specs.Prelude.{ℕ, ◌-◌, Bool, true, not, ◌&&◌, ◌||◌, ◌==◌, cond, List, [], ◌∷◌, Option, Some}
use Rattle.std.specs.List.{list_all}
use Rattle.std.specs.Option.{option_map, option_map_or}
use Rattle.sect_catalog.specs.Catalogue.{places}
use Rattle.sect_reserve.specs.Audience.{active}
use Rattle.sect_model.specs.Data.{OfferingId, Level, Reservation}
use Rattle.sect_model.specs.World.{World}
use Rattle.sect_model.specs.Counts.{used_of}
use Rattle.sect_model.specs.Space.{names}

-- an active reservation that names the level
abbrev pub reserves : World → Level → Reservation → Bool
reserves w level r = active r w.day && names r level

-- what a reservation holds back at the level, or none where that is all
abbrev pub held_back : World → Level → Reservation → Option ℕ
held_back w level r = cond (reserves w level r) (option_map (λ limit. limit - used_of w r.id) (places r.limit)) (Some 0)

-- the reservations hold back all of so many places
abbrev pub takes_all : World → Level → ℕ → List Reservation → Bool
takes_all w level left [] = left == 0
takes_all w level left (r ∷ rs) = option_map_or (λ n. takes_all w level (left - n) rs) (held_back w level r) true

-- each reservation that names the level is of the offering
abbrev pub are_own : World → OfferingId → Level → Bool
are_own w offering level = list_all (λ r. not (names r level) || r.offering.0 == offering.0) w.reservations
