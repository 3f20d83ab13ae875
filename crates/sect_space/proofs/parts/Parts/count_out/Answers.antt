-- one enrolment less than before
use Rattle.std.proofs.Common.{sym, ap, subst, ◌≤◌, length}
use Rattle.std.specs.Prelude.{◌==◌}
use Rattle.sect_numbers.specs.OneMore.{with_roster}
use Rattle.sect_weeks.specs.Enrolled.{TakesAnew}
use Rattle.sect_weeks.proofs.ToldLemmas.{left-is-told}
use Rattle.sect_space.specs.Parts.{roomed_of}
use Rattle.sect_space.proofs.WeekLemmas.{known-in, part-few}
use Rattle.sect_space.proofs.parts.Parts.count_out.Goals as goal

pub left-requires : goal.left-requires
left-requires c =
    let w = (roomed_of c.args.self.now).world in
    let a = c.requires in
    (w, a.more, a.told, record { is_more = a.is_more; kept = a.kept; its_offering = sym c.course_offering-offering.ensures; is_over = sym c.is_over_limit-over.ensures })

pub returns-clause-told : goal.returns-clause-told
returns-clause-told c =
    let w = (roomed_of c.args.self.now).world in
    let a = c.requires in
    c.left.ensures.told w a.more a.told (record { is_more = a.is_more; kept = a.kept; its_offering = sym c.course_offering-offering.ensures; is_over = sym c.is_over_limit-over.ensures })

pub left-requires-2 : goal.left-requires-2
left-requires-2 c =
    let w = (roomed_of c.args.self.now).world in
    let a = c.requires in
    record {
      row = a.weeks.students c.args.enrolment.now.student (known-in (with_roster w a.more) w.roster c.args.enrolment.now a.is_more a.kept);
      bound =
          subst (λ n. n ≤ 1000000000) (sym (ap length c.of_student-held.ensures))
          (part-few (with_roster w a.more) w.roster c.args.enrolment.now a.is_more a.kept (λ x. x.student.0 == c.args.enrolment.now.student.0));
    }

pub returns-clause-weeks : goal.returns-clause-weeks
returns-clause-weeks c =
    let w = (roomed_of c.args.self.now).world in
    let a = c.requires in
    left-is-told c.args.weeks.now c.left-2.new.self w a.more c.args.enrolment.now a.is_more a.weeks
    (subst (TakesAnew c.args.weeks.now c.left-2.new.self w.catalogue.rows c.args.enrolment.now.student.0) c.of_student-held.ensures c.left-2.ensures)
