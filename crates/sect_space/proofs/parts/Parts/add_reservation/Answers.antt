-- one row more
use Rattle.std.proofs.Common.{◌≡◌, ◌+◌, ◌∙◌, ap, sym, arith, length, refl, suc}
use Rattle.sect_people.specs.Index.{rank}
use Rattle.sect_reserve.specs.declared.row.Reservation.{Reservation}
use Rattle.sect_roster.proofs.PlaceLemmas.{put-insert}
use Rattle.sect_space.proofs.Lengths.{length-put}
use Rattle.sect_space.proofs.RoomLemmas.{put-in}
use Rattle.sect_space.proofs.parts.Parts.add_reservation.Goals as goal

pub returns-clause-ok : goal.returns-clause-ok
returns-clause-ok c =
    let old = c.args.self.now in
    let key = λ (r : Reservation). r.offering.0 in
    let e = c.in_ok-insert.ensures.ok in
    let n : length c.insert.new.self.items ≡ length old.reservations.items + 1 = ap length e ∙ length-put key c.args.row old.reservations.items in
    record {
      world = λ i. record {
        catalogue = old.catalogue;
        students = old.people;
        reservations = e i;
        restrictions = old.restrictions.items;
        roster = old.roster.items;
        day = old.day;
      };
      recorded = refl;
      room = record {
        roster = λ n. omega arith;
        reservations = λ n. put-in key old.reservations.items c.insert.new.self.items old.reservations.rooms c.insert.new.self.rooms (rank key (suc (key c.args.row)) old.reservations.items) c.args.row
            (e ∙ sym (put-insert key c.args.row old.reservations.items)) n (c.insert.ensures.rooms n);
        restrictions = λ n. omega arith;
        reservation_ids = omega (arith, n, c.insert.ensures.spare);
        restriction_ids = omega arith;
      };
    }
