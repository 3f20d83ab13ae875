-- one row less
use Rattle.std.proofs.Common.{◌∙◌, ◌+◌, ◌==◌, ap, sym, arith, length, refl}
use Rattle.std.specs.List.{position_or_len}
use Rattle.std.specs.Option.{option_map_or}
use Rattle.std.proofs.lemmas.Bool.{eq-eqb}
use Rattle.sect_people.specs.Index.{rank}
use Rattle.sect_reserve.specs.declared.row.Reservation.{Reservation}
use Rattle.sect_model.specs.Allowed.{reservations_of}
use Rattle.sect_roster.specs.Slots.{rows_of}
use Rattle.sect_roster.proofs.FoundLemmas.{find-among}
use Rattle.sect_space.specs.declared.back.Back.TheVariants.{ReservationRemoved}
use Rattle.sect_space.specs.Back.{no_change}
use Rattle.sect_space.specs.Parts.{roomed_of}
use Rattle.sect_space.proofs.Lengths.{placed-at}
use Rattle.sect_space.proofs.RoomLemmas.{among-length, less-in}
use Rattle.sect_space.proofs.parts.Parts.remove_reservation.Goals as goal

pub returns : goal.returns
returns c =
    let old = c.args.self.now in
    let key = λ (r : Reservation). r.offering.0 in
    let left = c.remove-place.new.self in
    let place = c.remove-place.result.0 in
    let row = c.remove-place.result.1 in
    let n = ap length c.remove-place.ensures.back ∙ among-length key place row left.items c.remove-place.ensures.within in
    let w = (roomed_of old).world in
    let p = λ (r : Reservation). r.id.0 == c.args.id.0 in
    let among = find-among p (λ r. r.offering.0 == row.offering.0) old.reservations.items row (sym c.remove-place.ensures.row) (eq-eqb row.offering.0 row.offering.0 refl) in
    let at = placed-at p (rows_of key row.offering.0 old.reservations.items) place row (sym among) c.remove-place.ensures.place in
    record {
      world = λ i. record {
        catalogue = old.catalogue;
        students = old.people;
        reservations = c.remove-place.ensures.rest i;
        restrictions = old.restrictions.items;
        roster = old.roster.items;
        day = old.day;
      };
      recorded =
          (λ i. ReservationRemoved (at i) row)
          ∙ ap (λ o. option_map_or (λ r. ReservationRemoved (position_or_len p (reservations_of w r.offering)) r) o (no_change w)) c.remove-place.ensures.row;
      room = record {
        roster = λ n. omega arith;
        reservations = less-in key old.reservations.items left.items old.reservations.rooms left.rooms (rank key (key row) left.items + place) row c.remove-place.ensures.back c.remove-place.ensures.rooms c.remove-place.ensures.room;
        restrictions = λ n. omega arith;
        reservation_ids = omega (arith, n, c.remove-place.ensures.spare);
        restriction_ids = omega arith;
      };
    }
