-- Request by request.
use Rattle.std.proofs.Common.{◌∙◌, ◌+◌, arith, ap, sym, Some, None, take}
use Rattle.std.specs.Option.{option_map}
use Rattle.sect_people.specs.Fault.{courses_of_all, repeated_after}
use Rattle.sect_people.proofs.RepeatLemmas.{repeated-in}
use Rattle.sect_people.proofs.repeat.first_repeat.Goals as goal

pub returns-in-Some : goal.returns-in-Some
returns-in-Some c =
    repeated-in c.args.asks.now c.loop-place.place (c.loop-place.place + 1) c.index-asks-place.result (omega arith) c.loop-place-test.true c.index-asks-place.is (Some c.in-Some.course.0)
    (ap (option_map (λ c. c.0)) (sym c.in-Some.is) ∙ c.repeat_in.ensures ∙ ap (repeated_after (courses_of_all (take c.loop-place.place c.args.asks.now))) c.courses.ensures)
    ∙ sym c.loop-place.invariant

pub loop-place-preserved : goal.loop-place-preserved
loop-place-preserved c =
    c.loop-place.invariant
    ∙ sym (repeated-in c.args.asks.now c.loop-place.place (c.loop-place.place + 1) c.index-asks-place.result (omega arith) c.loop-place-test.true c.index-asks-place.is None
    (ap (option_map (λ c. c.0)) (sym c.in_default.is) ∙ c.repeat_in.ensures ∙ ap (repeated_after (courses_of_all (take c.loop-place.place c.args.asks.now))) c.courses.ensures))
