-- one more enrolment
use Rattle.std.proofs.Common.{sym, ◌∙◌, cond, []}
use Rattle.sect_model.specs.Rules.{least}
use Rattle.sect_moment.specs.Moment.{is_given}
use Rattle.sect_moment.specs.Overlapped.{lesser_of, overlapped}
use Rattle.sect_moment.proofs.LeastLemmas.{least-more}
use Rattle.sect_moment.proofs.moment.Moment.least_kept.Goals as goal

pub loop-e-preserved : goal.loop-e-preserved
loop-e-preserved c =
    let a = c.args in
    c.least_where_kept-least.ensures
    ∙ (λ i. lesser_of (c.loop-e.invariant i) (least (cond (is_given a.give.now c.e-item.result.choice.course) [] (overlapped a.self.now.at a.permitted a.meetings.now c.e-item.result.choice))))
    ∙ sym (least-more (λ e. cond (is_given a.give.now e.choice.course) [] (overlapped a.self.now.at a.permitted a.meetings.now e.choice)) a.held.now c.loop-e.e-index c.e-item.result c.loop-e-test.true c.e-item.is)
