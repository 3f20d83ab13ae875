-- one row less
use Rattle.std.proofs.Common.{◌∙◌, ◌+◌, ap, arith, length}
use Rattle.sect_people.specs.Index.{rank}
use Rattle.sect_reserve.specs.declared.row.Reservation.{Reservation}
use Rattle.sect_space.proofs.RoomLemmas.{among-length, less-in}
use Rattle.sect_space.proofs.parts.Parts.take_reservation.Goals as goal

pub returns : goal.returns
returns c =
    let old = c.args.self.now in
    let key = λ (r : Reservation). r.offering.0 in
    let left = c.remove.new.self in
    let place = c.remove.result.0 in
    let row = c.remove.result.1 in
    let n = ap length c.remove.ensures.back ∙ among-length key place row left.items c.remove.ensures.within in
    record {
      world = λ i. record {
        catalogue = old.catalogue;
        students = old.people;
        reservations = c.remove.ensures.rest i;
        restrictions = old.restrictions.items;
        roster = old.roster.items;
        day = old.day;
      };
      room = record {
        roster = λ n. omega arith;
        reservations = less-in key old.reservations.items left.items old.reservations.rooms left.rooms (rank key (key row) left.items + place) row c.remove.ensures.back c.remove.ensures.rooms c.remove.ensures.room;
        restrictions = λ n. omega arith;
        reservation_ids = omega (arith, n, c.remove.ensures.spare);
        restriction_ids = omega arith;
      };
    }
