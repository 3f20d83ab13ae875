-- an enrolment that stays, or a choice that was made
use Rattle.std.proofs.Common.{◌≡◌, sym, ◌∙◌, ap}
use Rattle.std.specs.Prelude.{Bool, true, false, not, ◌&&◌, ◌||◌, ◌==◌, Some, refl}
use Rattle.std.specs.List.{list_any}
use Rattle.sect_catalog.specs.Catalogue.{has_course}
use Rattle.sect_model.specs.World.{held_by, offering_of}
use Rattle.sect_model.specs.Allowed.{holds_offering}
use Rattle.sect_moment.specs.Moment.{is_given}
use Rattle.sect_model.proofs.Members.{not_both}
use Rattle.sect_moment.proofs.CourseLemmas.{held-listed}
use Rattle.sect_moment.proofs.moment.Moment.holds_offering.Goals as goal

first : (a b : Bool) → a ≡ true → a ≡ a || b
first true b h = refl
first false b h = absurd (not_both false h refl)

second : (a b : Bool) → a ≡ false → b ≡ a || b
second false b h = refl
second true b h = absurd (not_both true refl h)

pub returns-then-kept : goal.returns-then-kept
returns-then-kept c =
    let i = c.self.inside in
    let w = i.world.now.world in
    let o = c.args.offering.now in
    let its : offering_of w c.args.course ≡ Some o = ap (λ v. offering_of v.at c.args.course) c.self.view_is ∙ c.requires in
    let kept : c.holds_kept-kept.result ≡ list_any (λ e. not (is_given i.give.now e.choice.course) && has_course o e.choice.course) (held_by w i.student)
    = c.holds_kept-kept.ensures ∙ (λ j. list_any (λ e. not (is_given i.give.now e.choice.course) && list_any (λ x. x.id.0 == e.choice.course.0) (c.as_slice-courses.ensures j)) (c.enrolments-held.ensures j)) in
    kept ∙ first _ (list_any (λ d. has_course o d.course) i.done.now) (sym kept ∙ c.if-kept.true)
    ∙ sym (held-listed w c.self.invariant.0 i.student i.give.now i.done.now c.args.course o its)
    ∙ ap (λ v. holds_offering v.at v.student o.id) c.self.view_is

pub returns-else-kept : goal.returns-else-kept
returns-else-kept c =
    let i = c.self.inside in
    let w = i.world.now.world in
    let o = c.args.offering.now in
    let its : offering_of w c.args.course ≡ Some o = ap (λ v. offering_of v.at c.args.course) c.self.view_is ∙ c.requires in
    let kept : c.holds_kept-kept.result ≡ list_any (λ e. not (is_given i.give.now e.choice.course) && has_course o e.choice.course) (held_by w i.student)
    = c.holds_kept-kept.ensures ∙ (λ j. list_any (λ e. not (is_given i.give.now e.choice.course) && list_any (λ x. x.id.0 == e.choice.course.0) (c.as_slice-courses.ensures j)) (c.enrolments-held.ensures j)) in
    c.holds_made.ensures ∙ (λ j. list_any (λ d. list_any (λ x. x.id.0 == d.course.0) (c.as_slice-courses.ensures j)) i.done.now)
    ∙ second (list_any (λ e. not (is_given i.give.now e.choice.course) && has_course o e.choice.course) (held_by w i.student)) (list_any (λ d. has_course o d.course) i.done.now) (sym kept ∙ c.if-kept.false)
    ∙ sym (held-listed w c.self.invariant.0 i.student i.give.now i.done.now c.args.course o its)
    ∙ ap (λ v. holds_offering v.at v.student o.id) c.self.view_is
