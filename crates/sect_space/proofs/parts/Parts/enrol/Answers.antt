-- One enrolment more, where there was room or room was made.
use Rattle.std.proofs.Common.{◌≤◌, sym, subst, arith}
use Rattle.sect_model.specs.World.{insert_enrolment}
use Rattle.sect_numbers.proofs.MoreLemmas.{inserted}
use Rattle.sect_roster.specs.Rostered.{number_held}
use Rattle.sect_space.specs.declared.back.Back.TheVariants.{Enrolled}
use Rattle.sect_space.specs.Parts.{roomed_of}
use Rattle.sect_space.proofs.RoomLemmas.{room-more, at-least}
use Rattle.sect_space.proofs.parts.Parts.enrol.Goals as goal

pub returns-clause-ok : goal.returns-clause-ok
returns-clause-ok c =
    let old = c.args.self.now in
    let e = c.in_ok-push.ensures.ok in
    record {
      world = λ i. record {
        catalogue = old.catalogue;
        students = old.people;
        reservations = old.reservations.items;
        restrictions = old.restrictions.items;
        roster = e i;
        day = old.day;
      };
      recorded = λ i. Enrolled c.args.enrolment.now.student (c.course_offering-offering.ensures i);
      room = record {
        roster = λ n. room-more (roomed_of old) (roomed_of (record old { roster = c.push.new.self })) n
            (subst (λ es. number_held n old.roster.items ≤ number_held n es) (sym e) (at-least n old.roster.items (insert_enrolment c.args.enrolment.now old.roster.items) c.args.enrolment.now (inserted c.args.enrolment.now old.roster.items)))
            (c.push.ensures.grows n);
        reservations = λ n. omega arith;
        restrictions = λ n. omega arith;
        reservation_ids = omega arith;
        restriction_ids = omega arith;
      };
    }
