-- The student holds the course once, and the roster has one enrolment less.
use Rattle.std.proofs.Common.{◌∙◌, ◌≤◌, ◌==◌, ap, sym, subst, arith}
use Rattle.std.specs.List.{position_or_len}
use Rattle.std.specs.Option.{option_map_or}
use Rattle.std.proofs.lemmas.Bool.{eqb-true}
use Rattle.sect_model.specs.World.{is_in}
use Rattle.sect_model.proofs.Members.{both-left, find-filter}
use Rattle.sect_model.proofs.ListLemmas.{found-passes}
use Rattle.sect_numbers.specs.OneMore.{IsMore}
use Rattle.sect_numbers.proofs.MoreLemmas.{left}
use Rattle.sect_roster.specs.Slots.{capacity_of}
use Rattle.sect_roster.specs.Rostered.{number_held, of_student}
use Rattle.sect_space.specs.declared.back.Back.TheVariants.{Left}
use Rattle.sect_space.specs.Back.{no_change, offering_id}
use Rattle.sect_space.specs.Parts.{roomed_of}
use Rattle.sect_space.proofs.Bounds.{held-once}
use Rattle.sect_space.proofs.Lengths.{placed-at}
use Rattle.sect_space.proofs.RoomLemmas.{room-less}
use Rattle.sect_space.proofs.parts.Parts.leave.Goals as goal

pub remove-place-requires : goal.remove-place-requires
remove-place-requires c = held-once (roomed_of c.args.self.now).world c.requires.kept c.args.student c.args.course c.requires.fits

pub returns-clause-made : goal.returns-clause-made
returns-clause-made c =
    let old = c.args.self.now in
    let w = (roomed_of old).world in
    let es = old.roster.items in
    let x = c.remove-place.result.1 in
    let p = is_in c.args.student c.args.course in
    let one = held-once w c.requires.kept c.args.student c.args.course c.requires.fits in
    let found = sym c.remove-place.ensures.enrolment in
    let mine = eqb-true x.student.0 c.args.student.0 (both-left (x.student.0 == c.args.student.0) _ (found-passes p es x found)) in
    let items = ap (λ v. v.items) c.remove-place.ensures.rest in
    let more = subst (λ fs. IsMore fs es x) (sym items) (left x es c.args.student c.args.course one found) in
    let own = find-filter p (λ e. e.student.0 == c.args.student.0) es (λ e h. both-left (e.student.0 == c.args.student.0) _ h) in
    let place = placed-at p (of_student c.args.student.0 es) c.remove-place.result.0 x (sym found ∙ sym own) c.remove-place.ensures.place in
    record {
      world = λ i. record {
        catalogue = old.catalogue;
        students = old.people;
        reservations = old.reservations.items;
        restrictions = old.restrictions.items;
        roster = items i;
        day = old.day;
      };
      recorded =
          (λ i. Left (place i) x (c.course_offering-offering.ensures i))
          ∙ ap (λ o. option_map_or (λ e. Left (position_or_len p (of_student c.args.student.0 es)) e (offering_id w c.args.course)) o (no_change w)) (sym found);
      room = record {
        roster = room-less (roomed_of old) (roomed_of (record old { roster = c.remove-place.new.self })) x more (ap (λ v. v.rooms) c.remove-place.ensures.rest)
            (subst (λ n. number_held n es ≤ capacity_of old.roster.rooms n) (sym mine) c.remove-place.ensures.room);
        reservations = λ n. omega arith;
        restrictions = λ n. omega arith;
        reservation_ids = omega arith;
        restriction_ids = omega arith;
      };
    }

pub returns-clause-within : goal.returns-clause-within
returns-clause-within c =
    let x = c.remove-place.result.1 in
    let p = is_in c.args.student c.args.course in
    let mine = eqb-true x.student.0 c.args.student.0 (both-left (x.student.0 == c.args.student.0) _ (found-passes p c.args.self.now.roster.items x (sym c.remove-place.ensures.enrolment))) in
    subst (λ n. c.remove-place.result.0 ≤ number_held n c.remove-place.new.self.items) (sym mine) c.remove-place.ensures.within
