-- one row more
use Rattle.std.proofs.Common.{◌≡◌, ◌+◌, ◌∙◌, ap, sym, arith, length, refl, suc}
use Rattle.sect_people.specs.Index.{rank}
use Rattle.sect_reserve.specs.declared.row.Restriction.{Restriction}
use Rattle.sect_roster.proofs.PlaceLemmas.{put-insert}
use Rattle.sect_space.proofs.Lengths.{length-put}
use Rattle.sect_space.proofs.RoomLemmas.{put-in}
use Rattle.sect_space.proofs.parts.Parts.add_restriction.Goals as goal

pub returns-clause-ok : goal.returns-clause-ok
returns-clause-ok c =
    let old = c.args.self.now in
    let key = λ (r : Restriction). r.offering.0 in
    let e = c.in_ok-insert.ensures.ok in
    let n : length c.insert.new.self.items ≡ length old.restrictions.items + 1 = ap length e ∙ length-put key c.args.row old.restrictions.items in
    record {
      world = λ i. record {
        catalogue = old.catalogue;
        students = old.people;
        reservations = old.reservations.items;
        restrictions = e i;
        roster = old.roster.items;
        day = old.day;
      };
      recorded = refl;
      room = record {
        roster = λ n. omega arith;
        reservations = λ n. omega arith;
        restrictions = λ n. put-in key old.restrictions.items c.insert.new.self.items old.restrictions.rooms c.insert.new.self.rooms (rank key (suc (key c.args.row)) old.restrictions.items) c.args.row
            (e ∙ sym (put-insert key c.args.row old.restrictions.items)) n (c.insert.ensures.rooms n);
        reservation_ids = omega arith;
        restriction_ids = omega (arith, n, c.insert.ensures.spare);
      };
    }
