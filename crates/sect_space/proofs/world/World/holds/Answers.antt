-- An enrolment in the course among the student's is one of the student in the course.
use Rattle.std.proofs.Common.{◌∙◌, ◌==◌, ap}
use Rattle.std.specs.List.{list_any}
use Rattle.sect_model.specs.declared.held.Enrolment.{Enrolment}
use Rattle.sect_model.proofs.ListLemmas.{any-filter-both}
use Rattle.sect_space.proofs.world.World.holds.Goals as goal

pub returns : goal.returns
returns c =
    let in_course = λ (e : Enrolment). e.choice.course.0 == c.args.course.0 in
    c.has_course.ensures ∙ ap (list_any in_course) c.enrolments.ensures ∙ any-filter-both (λ e. e.student.0 == c.args.student.0) in_course c.args.self.now.world.roster
