-- Course by course.
use Rattle.std.proofs.Common.{◌∙◌, ◌+◌, arith, sym, true, false}
use Rattle.sect_people.specs.Fault.{courses_of_all}
use Rattle.sect_people.proofs.RepeatLemmas.{repeated-at}
use Rattle.sect_people.proofs.repeat.repeat_in.Goals as goal

pub returns-then-stands_before : goal.returns-then-stands_before
returns-then-stands_before c =
    repeated-at (courses_of_all c.args.earlier.now) c.args.courses.now c.loop-place.place (c.loop-place.place + 1) (record { 0 = 0 }) (omega arith) c.loop-place-test.true true c.if-stands_before.ensures
    ∙ sym c.loop-place.invariant

pub loop-place-preserved : goal.loop-place-preserved
loop-place-preserved c =
    c.loop-place.invariant
    ∙ sym (repeated-at (courses_of_all c.args.earlier.now) c.args.courses.now c.loop-place.place (c.loop-place.place + 1) (record { 0 = 0 }) (omega arith) c.loop-place-test.true false c.if-stands_before.ensures)
