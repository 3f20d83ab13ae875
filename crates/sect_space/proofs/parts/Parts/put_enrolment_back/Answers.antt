-- One enrolment more, at its place.
use Rattle.std.proofs.Common.{◌≤◌, ap, sym, subst, arith}
use Rattle.sect_roster.specs.Slots.{capacity_of}
use Rattle.sect_roster.specs.Rostered.{number_held, put_among}
use Rattle.sect_space.specs.Parts.{roomed_of}
use Rattle.sect_space.proofs.RoomLemmas.{among, at-least, room-more}
use Rattle.sect_space.proofs.parts.Parts.put_enrolment_back.Goals as goal

pub returns : goal.returns
returns c =
    let old = c.args.self.now in
    let es = old.roster.items in
    let e = c.args.enrolment in
    let items = ap (λ v. v.items) c.put_back.ensures in
    let rooms = ap (λ v. v.rooms) c.put_back.ensures in
    record {
      world = λ i. record {
        catalogue = old.catalogue;
        students = old.people;
        reservations = old.reservations.items;
        restrictions = old.restrictions.items;
        roster = items i;
        day = old.day;
      };
      room = record {
        roster = λ n. room-more (roomed_of old) (roomed_of (record old { roster = c.put_back.new.self })) n
            (subst (λ fs. number_held n es ≤ number_held n fs) (sym items) (at-least n es (put_among c.args.place e es) e (among e es c.args.place c.requires.1)))
            (subst (λ rs. capacity_of old.roster.rooms n ≤ capacity_of rs n) (sym rooms) (same (capacity_of old.roster.rooms n)));
        reservations = λ n. omega arith;
        restrictions = λ n. omega arith;
        reservation_ids = omega arith;
        restriction_ids = omega arith;
      };
    }
  where
    same : (a : _) → a ≤ a
    same a = omega arith
