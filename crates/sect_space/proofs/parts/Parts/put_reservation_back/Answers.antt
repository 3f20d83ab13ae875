-- one row more, at its place
use Rattle.std.proofs.Common.{◌∙◌, ◌≤◌, ◌+◌, ap, sym, subst, arith, length}
use Rattle.sect_people.specs.Index.{rank}
use Rattle.sect_reserve.specs.declared.row.Reservation.{Reservation}
use Rattle.sect_roster.specs.Slots.{capacity_of}
use Rattle.sect_space.proofs.RoomLemmas.{among-length, put-in}
use Rattle.sect_space.proofs.parts.Parts.put_reservation_back.Goals as goal

pub returns : goal.returns
returns c =
    let old = c.args.self.now in
    let key = λ (r : Reservation). r.offering.0 in
    let new = c.put_back.new.self in
    let row = c.args.row in
    let n = ap length c.put_back.ensures.items ∙ among-length key c.args.place row old.reservations.items c.requires.2 in
    record {
      world = λ i. record {
        catalogue = old.catalogue;
        students = old.people;
        reservations = c.put_back.ensures.items i;
        restrictions = old.restrictions.items;
        roster = old.roster.items;
        day = old.day;
      };
      room = record {
        roster = λ n. omega arith;
        reservations = λ n. put-in key old.reservations.items new.items old.reservations.rooms new.rooms (rank key (key row) old.reservations.items + c.args.place) row c.put_back.ensures.items n
            (subst (λ rs. capacity_of old.reservations.rooms n ≤ capacity_of rs n) (sym c.put_back.ensures.rooms) (same (capacity_of old.reservations.rooms n)));
        restrictions = λ n. omega arith;
        reservation_ids = omega (arith, n, c.put_back.ensures.spare);
        restriction_ids = omega arith;
      };
    }
  where
    same : (a : _) → a ≤ a
    same a = omega arith
