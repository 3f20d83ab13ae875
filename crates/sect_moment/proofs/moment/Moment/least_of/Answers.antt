-- one more section
use Rattle.std.proofs.Common.{sym, ap, ◌∙◌, cond, take, get_or, Some, None}
use Rattle.std.specs.Prelude.{map, filter}
use Rattle.sect_base.specs.Pattern.{lists_overlap}
use Rattle.sect_model.specs.Data.{SectionId}
use Rattle.sect_model.specs.World.{meetings_of}
use Rattle.sect_model.specs.Rules.{least}
use Rattle.sect_moment.specs.Overlapped.{lesser_of}
use Rattle.sect_moment.proofs.LeastLemmas.{lesser-join, lesser-none, least-got}
use Rattle.sect_moment.proofs.moment.Moment.least_of.Goals as goal

pub loop-section-init : goal.loop-section-init
loop-section-init c = lesser-none c.args.so_far

pub loop-section-preserved : goal.loop-section-preserved
loop-section-preserved c =
    let a = c.args in
    let none : SectionId = record { 0 = 0 } in
    let s = get_or a.others.now c.loop-section.section-index none in
    let earlier = least (map (λ s. s.0) (filter (λ s. lists_overlap a.meetings.now (meetings_of a.self.now.at s)) (take c.loop-section.section-index a.others.now))) in
    let one = cond (lists_overlap a.meetings.now (meetings_of a.self.now.at s)) (Some s.0) None in
    c.least_with-least.ensures
    ∙ (λ i. lesser_of (c.loop-section.invariant i) one)
    ∙ lesser-join a.so_far earlier one
    ∙ ap (lesser_of a.so_far) (sym (least-got (λ s. s.0) (λ s. lists_overlap a.meetings.now (meetings_of a.self.now.at s)) a.others.now c.loop-section.section-index none c.loop-section-test.true))
