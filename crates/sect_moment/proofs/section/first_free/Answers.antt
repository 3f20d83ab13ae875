-- none from the rank on, and the first that meets before it
use Rattle.std.proofs.Common.{sym, ◌∙◌, arith, drop}
use Rattle.sect_moment.proofs.LeastLemmas.{free-past, free-here, free-later}
use Rattle.sect_moment.proofs.section.first_free.Goals as goal

pub returns-then-rank-number : goal.returns-then-rank-number
returns-then-rank-number c = sym (c.loop-ask.invariant ∙ free-past c.args.meetings.now c.args.rank c.loop-ask.number (drop c.loop-ask.ask-index c.args.asks.now) c.if-rank-number.true)

pub returns-then-meets_ask : goal.returns-then-meets_ask
returns-then-meets_ask c =
    sym (c.loop-ask.invariant ∙ free-here c.args.meetings.now c.args.rank c.loop-ask.number c.args.asks.now c.loop-ask.ask-index c.ask-item.result c.loop-ask-test.true c.ask-item.is
    (omega (arith, c.if-rank-number.false)) (sym c.meets_ask.ensures ∙ c.if-meets_ask.true))

pub loop-ask-preserved : goal.loop-ask-preserved
loop-ask-preserved c =
    c.loop-ask.invariant
    ∙ free-later c.args.meetings.now c.args.rank c.loop-ask.number c.args.asks.now c.loop-ask.ask-index c.ask-item.result c.loop-ask-test.true c.ask-item.is
    (sym c.meets_ask.ensures ∙ c.if-meets_ask.false)
