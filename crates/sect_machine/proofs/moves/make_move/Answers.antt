-- The courses are given up, and then the choices taken.
use Rattle.std.proofs.Common.{◌∙◌, ap, subst, sym, IsTrue}
use Rattle.std.specs.Option.{is_some}
use Rattle.sect_people.specs.Student.{find_student}
use Rattle.sect_space.proofs.Steps.{since-both}
use Rattle.sect_machine.proofs.MoveLemmas.{leave_all-students}
use Rattle.sect_machine.proofs.moves.make_move.Goals as goal

pub take-requires-clause-known : goal.take-requires-clause-known
take-requires-clause-known c =
    let student = c.student-student.result in
    let w = c.args.world.now.world in
    subst (λ ss. IsTrue (is_some (find_student ss student)))
    (sym (ap (λ w. w.students) c.in_ok-give_up.ensures.ok ∙ leave_all-students c.give.result.now w student))
    (subst (λ id. IsTrue (is_some (find_student w.students id))) (sym c.student-student.ensures) c.requires.fits.student)

pub returns-clause-since : goal.returns-clause-since
returns-clause-since c =
    since-both c.args.world.now.world c.give_up.new.world.world c.take.new.world.world c.args.undo.now.backs c.give_up.new.undo.backs c.take.new.undo.backs c.give_up.ensures.since c.take.ensures.since
