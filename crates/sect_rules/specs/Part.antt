-- The obligatory reservations, and the others.
use Rattle.std.specs.Prelude.{Bool, true, not, cond, ◌&&◌, ◌==◌, List, count_by}
use Rattle.sect_reserve.specs.declared.row.Reservation.{Reservation}
use Rattle.sect_rules.specs.Rising.{rises}

-- whether the reservation is obligatory, or whether it isn't
abbrev pub is_of_part : Bool → Reservation → Bool
is_of_part must r = cond must r.must (not r.must)

-- none is obligatory, and they stand in rising order
abbrev pub are_plain : List Reservation → Bool
are_plain rs = rises (λ r. r.id.0) 0 rs && count_by (is_of_part true) rs == 0
