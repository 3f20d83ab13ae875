-- one more reservation
use Rattle.std.proofs.Common.{sym, ◌∙◌, cond, Some, None}
use Rattle.sect_model.specs.Allowed.{must_use}
use Rattle.sect_moment.specs.Overlapped.{lesser_of}
use Rattle.sect_moment.proofs.LeastLemmas.{least-one}
use Rattle.sect_moment.proofs.moment.Moment.least_must.Goals as goal

pub loop-r-preserved : goal.loop-r-preserved
loop-r-preserved c =
    let v = c.args.self.now in
    c.lesser_if-least.ensures
    ∙ (λ i. lesser_of (c.loop-r.invariant i) (cond (c.must_use-must.ensures i) (Some c.r-item.result.id.0) None))
    ∙ sym (least-one (λ r. r.id.0) (must_use v.at v.student c.args.course) c.args.rows.now c.loop-r.r-index c.r-item.result c.loop-r-test.true c.r-item.is)
