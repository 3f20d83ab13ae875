-- Each turn gives up the next course.
use Rattle.std.proofs.Common.{◌≡◌, ◌+◌, ◌≤◌, ◌∷◌, ◌∙◌, arith, drop, get_or, length, refl, subst, sym, ap}
use Rattle.std.proofs.lemmas.List.{drop_more, drop_all}
use Rattle.sect_base.specs.declared.ids.CourseId.{CourseId}
use Rattle.sect_model.specs.World.{leave_all}
use Rattle.sect_space.proofs.Steps.{since-none, since-both}
use Rattle.sect_machine.proofs.MoveLemmas.{LeavesOn, leaves-next, leaves-more}
use Rattle.sect_machine.proofs.moves.give_up.Goals as goal

pub loop-course-init : goal.loop-course-init
loop-course-init c = (record { led = refl; held = c.requires.held; differ = c.requires.differ }, since-none c.args.world.now.world c.args.undo.now.backs, c.requires.undoable)

pub make-requires-clause-fits : goal.make-requires-clause-fits
make-requires-clause-fits c =
    let w = c.args.world.now.world in
    let v = c.loop-course.world.world in
    let cs = c.args.courses.now in
    let i = c.loop-course.course-index in
    let none : CourseId = record { 0 = 0 } in
    let at : drop i cs ≡ get_or cs i none ∷ drop (i + 1) cs = drop_more cs i none c.loop-course-test.true in
    leaves-next w v c.args.student cs (get_or cs i none) (drop (i + 1) cs) (subst (LeavesOn w v c.args.student cs) at c.loop-course.invariant.0)

pub loop-course-preserved : goal.loop-course-preserved
loop-course-preserved c =
    let w = c.args.world.now.world in
    let v = c.loop-course.world.world in
    let u = c.make.new.world.world in
    let cs = c.args.courses.now in
    let i = c.loop-course.course-index in
    let none : CourseId = record { 0 = 0 } in
    let at : drop i cs ≡ get_or cs i none ∷ drop (i + 1) cs = drop_more cs i none c.loop-course-test.true in (
      leaves-more w v u c.args.student cs (get_or cs i none) (drop (i + 1) cs) (subst (LeavesOn w v c.args.student cs) at c.loop-course.invariant.0) c.in_ok-make.ensures.ok,
      since-both w v u c.args.undo.now.backs c.loop-course.undo.backs c.make.new.undo.backs c.loop-course.invariant.1 c.make.ensures.since,
      c.make.ensures.undoable,
    )

pub returns-in_err-make-clause-since : goal.returns-in_err-make-clause-since
returns-in_err-make-clause-since c =
    since-both c.args.world.now.world c.loop-course.world.world c.make.new.world.world c.args.undo.now.backs c.loop-course.undo.backs c.make.new.undo.backs c.loop-course.invariant.1 c.make.ensures.since

pub returns-clause-ok : goal.returns-clause-ok
returns-clause-ok c =
    let v = c.loop-course.world.world in
    let cs = c.args.courses.now in
    let i = c.loop-course.course-index in
    let all : length cs ≤ i = omega (arith, c.loop-course-test.false) in
    sym (ap (leave_all v c.args.student) (drop_all i cs all)) ∙ c.loop-course.invariant.0.led
