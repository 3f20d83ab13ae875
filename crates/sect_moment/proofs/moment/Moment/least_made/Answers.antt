-- one more choice
use Rattle.std.proofs.Common.{sym, ◌∙◌}
use Rattle.sect_model.specs.Rules.{least}
use Rattle.sect_moment.specs.Overlapped.{lesser_of, overlapped}
use Rattle.sect_moment.proofs.LeastLemmas.{least-more}
use Rattle.sect_moment.proofs.moment.Moment.least_made.Goals as goal

pub loop-choice-preserved : goal.loop-choice-preserved
loop-choice-preserved c =
    c.least_in-least.ensures
    ∙ (λ i. lesser_of (c.loop-choice.invariant i) (least (overlapped c.args.self.now.at c.args.permitted c.args.meetings.now c.choice-item.result)))
    ∙ sym (least-more (overlapped c.args.self.now.at c.args.permitted c.args.meetings.now) c.args.done.now c.loop-choice.choice-index c.choice-item.result c.loop-choice-test.true c.choice-item.is)
