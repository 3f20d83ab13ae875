-- The two ends of a reservation, and that without a first day the expiry alone counts.
use Rattle.std.specs.Prelude.{◌≡◌, ℕ, Bool, true, nat_le, None}
use Rattle.std.specs.Option.{option_map_or}
use Rattle.sect_reserve.specs.declared.row.Reservation.{Reservation}
use Rattle.sect_reserve.specs.Audience.{active}

-- there is no first day, or it is at most the day
abbrev pub begun : Reservation → ℕ → Bool
begun r day = option_map_or (λ first. nat_le first day) r.first true

-- there is no expiry day, or the day is at most that one
abbrev pub lasts : Reservation → ℕ → Bool
lasts r day = option_map_or (nat_le day) r.expiry true

-- a reservation without a first day is active exactly while it lasts
abbrev pub ExpiryAlone : Reservation → ℕ → Type 0
ExpiryAlone r day = r.first ≡ None → active r day ≡ lasts r day
