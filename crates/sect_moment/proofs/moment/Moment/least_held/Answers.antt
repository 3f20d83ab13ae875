-- of what stays and of what was made
use Rattle.std.proofs.Common.{◌≡◌, sym, ◌∙◌, ap, cond, []}
use Rattle.std.specs.Prelude.{flat_map}
use Rattle.sect_model.specs.World.{held_by}
use Rattle.sect_model.specs.Rules.{least}
use Rattle.sect_moment.specs.Moment.{is_given, enrolment}
use Rattle.sect_moment.specs.Overlapped.{lesser_of, overlapped}
use Rattle.sect_moment.proofs.ClearLemmas.{clear-least}
use Rattle.sect_moment.proofs.MomentLemmas.{held-moved}
use Rattle.sect_moment.proofs.LeastLemmas.{least-both}
use Rattle.sect_moment.proofs.moment.Moment.least_held.Goals.{then-is_clear, else-is_clear}
use Rattle.sect_moment.proofs.moment.Moment.least_held.Goals as goal

pub returns : goal.returns
returns c =
    let i = c.self.inside in
    let w = i.world.now.world in
    let v = c.args.self.now.at in
    let kept
    : c.if-is_clear.kept ≡ least (flat_map (λ e. cond (is_given i.give.now e.choice.course) [] (overlapped v c.args.permitted c.args.meetings.now e.choice)) (held_by w i.student))
    = elim c.if-is_clear.branch [
      | then-is_clear b ↦ b.kept-is
          ∙ clear-least w v i.student c.calendar.result.now c.calendar.ensures (ap (λ m. m.at.catalogue) c.self.view_is) c.args.permitted c.args.meetings.now
          (c.is_clear.ensures b.if-is_clear.true) i.give.now
      | else-is_clear b ↦ b.kept-is
          ∙ b.least_kept-kept.ensures
          ∙ (λ k. least (flat_map (λ e. cond (is_given i.give.now e.choice.course) [] (overlapped v c.args.permitted c.args.meetings.now e.choice)) (b.enrolments-held.ensures k)))
    ] in
    c.lesser_of.ensures
    ∙ (λ j. lesser_of (kept j) (c.least_made.ensures j))
    ∙ sym (least-both (λ e. overlapped v c.args.permitted c.args.meetings.now e.choice) (λ e. is_given i.give.now e.choice.course) (enrolment i.student) (held_by w i.student) i.done.now)
    ∙ ap (λ es. least (flat_map (λ e. overlapped v c.args.permitted c.args.meetings.now e.choice) es)) (sym (held-moved w i.student i.give.now i.done.now c.self.invariant.0.in_order))
    ∙ ap (λ m. least (flat_map (λ e. overlapped v c.args.permitted c.args.meetings.now e.choice) (held_by m.at m.student))) c.self.view_is
