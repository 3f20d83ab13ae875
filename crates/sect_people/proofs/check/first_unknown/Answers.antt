-- Request by request.
use Rattle.std.proofs.Common.{◌∙◌, ◌+◌, arith, ap, sym, Some, None}
use Rattle.std.specs.Prelude.{find}
use Rattle.sect_people.specs.Fault.{is_unknown}
use Rattle.sect_people.proofs.RepeatLemmas.{found-in}
use Rattle.sect_people.proofs.check.first_unknown.Goals as goal

pub returns-in-Some : goal.returns-in-Some
returns-in-Some c =
    found-in (is_unknown c.args.known.now) c.args.asks.now c.loop-ask.ask-index (c.loop-ask.ask-index + 1) c.ask-item.result (omega arith) c.loop-ask-test.true c.ask-item.is (Some c.in-Some.course)
    (sym c.in-Some.is ∙ c.unknown_among.ensures ∙ ap (find (is_unknown c.args.known.now)) c.courses.ensures)
    ∙ sym c.loop-ask.invariant

pub loop-ask-preserved : goal.loop-ask-preserved
loop-ask-preserved c =
    c.loop-ask.invariant
    ∙ sym (found-in (is_unknown c.args.known.now) c.args.asks.now c.loop-ask.ask-index (c.loop-ask.ask-index + 1) c.ask-item.result (omega arith) c.loop-ask-test.true c.ask-item.is None
    (sym c.in_default.is ∙ c.unknown_among.ensures ∙ ap (find (is_unknown c.args.known.now)) c.courses.ensures))
