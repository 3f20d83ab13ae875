-- one row less
use Rattle.std.proofs.Common.{◌∙◌, ◌+◌, ap, arith, length}
use Rattle.sect_people.specs.Index.{rank}
use Rattle.sect_reserve.specs.declared.row.Restriction.{Restriction}
use Rattle.sect_space.proofs.RoomLemmas.{among-length, less-in}
use Rattle.sect_space.proofs.parts.Parts.take_restriction.Goals as goal

pub returns : goal.returns
returns c =
    let old = c.args.self.now in
    let key = λ (r : Restriction). r.offering.0 in
    let left = c.remove.new.self in
    let place = c.remove.result.0 in
    let row = c.remove.result.1 in
    let n = ap length c.remove.ensures.back ∙ among-length key place row left.items c.remove.ensures.within in
    record {
      world = λ i. record {
        catalogue = old.catalogue;
        students = old.people;
        reservations = old.reservations.items;
        restrictions = c.remove.ensures.rest i;
        roster = old.roster.items;
        day = old.day;
      };
      room = record {
        roster = λ n. omega arith;
        reservations = λ n. omega arith;
        restrictions = less-in key old.restrictions.items left.items old.restrictions.rooms left.rooms (rank key (key row) left.items + place) row c.remove.ensures.back c.remove.ensures.rooms c.remove.ensures.room;
        reservation_ids = omega arith;
        restriction_ids = omega (arith, n, c.remove.ensures.spare);
      };
    }
