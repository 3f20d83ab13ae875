-- Settling and reserved space as they are where no entry has a class and no reservation a first day.
use Rattle.std.specs.Prelude.{ℕ, zero, suc, ◌+◌, ℤ, pos, ◌-ℤ◌, Bool, ◌&&◌, ◌==◌, nat_le, cond, List, [], ◌∷◌, length, filter, sum_by, Option, Some, None}
use Rattle.std.specs.List.{list_all}
use Rattle.std.specs.Option.{option_map, option_map_or, is_none}
use Rattle.sect_reserve.specs.Lasting.{lasts}
use Rattle.sect_model.specs.Data.{Waiting, Reservation, Level}
use Rattle.sect_model.specs.World.{World, State}
use Rattle.sect_model.specs.Space.{places_at, names, remaining, has_unlimited}
use Rattle.sect_model.specs.Counts.{count_of}
use Rattle.sect_model.specs.Settle.{Settled, settle_by, is_placeable, place}

-- ---- settling

-- the entry of least ticket
abbrev pub first_ticket : List Waiting → Option Waiting
first_ticket [] = None
first_ticket (e ∷ es) = Some (option_map_or (λ f. cond (nat_le e.ticket f.ticket) e f) (first_ticket es) e)

-- the entry of least ticket among those that can be placed
abbrev pub next_ticket : State → Option Waiting
next_ticket s = first_ticket (filter (is_placeable s.world) s.entries)

-- at most so many entries placed, one after another, by ticket alone
abbrev pub settle_by_ticket_within : ℕ → State → Settled
settle_by_ticket_within zero s = record { state = s; placed = [] }
settle_by_ticket_within (suc n) s = settle_by s (λ e. settle_by_ticket_within n (place s e)) (next_ticket s)

-- the entry of least ticket that can be placed is placed, until none can be
unfoldable pub settle_by_ticket : State → Settled
settle_by_ticket s = settle_by_ticket_within (length s.entries) s

-- each entry is of the class
abbrev pub are_of_class : ℕ → List Waiting → Bool
are_of_class class es = list_all (λ e. e.class == class) es

-- ---- reserved space

-- the reservations that name the level and aren't over
abbrev pub lasting_at : World → Level → List Reservation
lasting_at w level = filter (λ r. lasts r w.day && names r level) w.reservations

-- the unreserved space of a level with this many places, by the expiry days alone
abbrev pub space_by_expiry : World → Level → ℕ → ℤ
space_by_expiry w level limit =
    cond (has_unlimited (lasting_at w level)) (pos 0)
    (pos limit -ℤ pos (count_of w level + sum_by (remaining w) (lasting_at w level)))

-- the unreserved space by the expiry days alone
abbrev pub unreserved_by_expiry : World → Level → Option ℤ
unreserved_by_expiry w level = option_map (space_by_expiry w level) (places_at w level)

-- no reservation has a first day
abbrev pub have_no_first_day : List Reservation → Bool
have_no_first_day rs = list_all (λ r. is_none r.first) rs
