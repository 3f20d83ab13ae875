-- The roster has one enrolment less, and its place.
use Rattle.std.proofs.Common.{◌≤◌, sym, subst, arith}
use Rattle.sect_numbers.specs.OneMore.{IsMore}
use Rattle.sect_numbers.proofs.MoreLemmas.{inserted}
use Rattle.sect_roster.specs.Slots.{capacity_of}
use Rattle.sect_roster.specs.Rostered.{number_held}
use Rattle.sect_space.specs.Parts.{roomed_of}
use Rattle.sect_space.proofs.RoomLemmas.{room-less}
use Rattle.sect_space.proofs.parts.Parts.remove_enrolment.Goals as goal

pub returns-clause-taken : goal.returns-clause-taken
returns-clause-taken c =
    let old = c.args.self.now in
    let last = c.remove_last_of.result in
    let more = subst (λ es. IsMore c.remove_last_of.new.self.items es last) (sym c.remove_last_of.ensures.back) (inserted last c.remove_last_of.new.self.items) in
    record {
      world = λ i. record {
        catalogue = old.catalogue;
        students = old.people;
        reservations = old.reservations.items;
        restrictions = old.restrictions.items;
        roster = (c.remove_last_of.ensures.rest i).items;
        day = old.day;
      };
      room = record {
        roster = room-less (roomed_of old) (roomed_of (record old { roster = c.remove_last_of.new.self })) last more (λ i. (c.remove_last_of.ensures.rest i).rooms)
            (subst (λ s. number_held s.0 old.roster.items ≤ capacity_of old.roster.rooms s.0) (sym c.remove_last_of.ensures.student) c.remove_last_of.ensures.room);
        reservations = λ n. omega arith;
        restrictions = λ n. omega arith;
        reservation_ids = omega arith;
        restriction_ids = omega arith;
      };
    }
