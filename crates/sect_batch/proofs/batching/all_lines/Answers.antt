-- Each turn tells the lines of the next student.
use Rattle.std.proofs.Common.{◌≡◌, ◌+◌, ◌++◌, [], ◌∷◌, ◌∙◌, arith, get_or, subst, sym, take}
use Rattle.std.proofs.lemmas.List.{take_more}
use Rattle.sect_base.specs.declared.ids.StudentId.{StudentId}
use Rattle.sect_model.specs.Batch.{Batched, batch_of, batch_students}
use Rattle.sect_space.proofs.Steps.{since-both}
use Rattle.sect_batch.specs.Lines.{Tells}
use Rattle.sect_batch.proofs.BatchLemmas.{all-told, told-student}
use Rattle.sect_batch.proofs.batching.all_lines.Goals as goal

pub returns-in_err-student_lines-clause-since : goal.returns-in_err-student_lines-clause-since
returns-in_err-student_lines-clause-since g c =
    since-both c.args.world.now.world c.loop-student.world.world c.student_lines.new.world.world c.args.undo.now.backs c.loop-student.undo.backs c.student_lines.new.undo.backs c.loop-student.invariant.1 c.student_lines.ensures.since

pub loop-student-preserved : goal.loop-student-preserved
loop-student-preserved g c =
    let w = c.args.world.now.world in
    let v = c.loop-student.world.world in
    let ss = c.args.students.now in
    let i = c.loop-student.student-index in
    let none : StudentId = record { 0 = 0 } in
    let start : Batched = record { world = w; answered = [] } in
    let more : take (i + 1) ss ≡ take i ss ++ get_or ss i none ∷ [] = take_more ss i none c.loop-student-test.true in (
      c.student_lines.ensures.students ∙ c.loop-student.invariant.0,
      since-both w v c.student_lines.new.world.world c.args.undo.now.backs c.loop-student.undo.backs c.student_lines.new.undo.backs c.loop-student.invariant.1 c.student_lines.ensures.since,
      c.student_lines.ensures.undoable,
      subst (λ xs. Tells c.student_lines.new.world.world c.student_lines.new.lines (batch_students start xs)) (sym more)
          (told-student v c.student_lines.new.world.world c.loop-student.lines c.student_lines.new.lines start (take i ss) (get_or ss i none) c.loop-student.invariant.3 c.in_ok-student_lines.ensures.told),
    )

pub returns-clause-world : goal.returns-clause-world
returns-clause-world g c =
    let w = c.args.world.now.world in
    let v = c.loop-student.world.world in
    let ss = c.args.students.now in
    let told : Tells v c.loop-student.lines (batch_of w ss) = all-told w v c.loop-student.lines ss c.loop-student.student-index (omega (arith, c.loop-student-test.false)) c.loop-student.invariant.3 in
    told.world

pub returns-clause-lines : goal.returns-clause-lines
returns-clause-lines g c =
    let w = c.args.world.now.world in
    let v = c.loop-student.world.world in
    let ss = c.args.students.now in
    let told : Tells v c.loop-student.lines (batch_of w ss) = all-told w v c.loop-student.lines ss c.loop-student.student-index (omega (arith, c.loop-student-test.false)) c.loop-student.invariant.3 in
    c.into_items.ensures ∙ told.lines
