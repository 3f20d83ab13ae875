-- one more section
use Rattle.std.proofs.Common.{sym, ◌∙◌, cond, get_or, Some, None}
use Rattle.sect_base.specs.Pattern.{lists_overlap}
use Rattle.sect_model.specs.Data.{SectionId}
use Rattle.sect_model.specs.World.{meetings_of}
use Rattle.sect_moment.specs.Overlapped.{lesser_of}
use Rattle.sect_moment.proofs.LeastLemmas.{least-got}
use Rattle.sect_moment.proofs.moment.Moment.least_before.Goals as goal

pub loop-section-preserved : goal.loop-section-preserved
loop-section-preserved c =
    let a = c.args in
    let none : SectionId = record { 0 = 0 } in
    let s = get_or a.others.now c.loop-section.section-index none in
    c.before_with-least.ensures
    ∙ (λ i. lesser_of (c.loop-section.invariant i) (cond (lists_overlap (meetings_of a.self.now.at s) a.meetings.now) (Some s.0) None))
    ∙ sym (least-got (λ s. s.0) (λ s. lists_overlap (meetings_of a.self.now.at s) a.meetings.now) a.others.now c.loop-section.section-index none c.loop-section-test.true)
