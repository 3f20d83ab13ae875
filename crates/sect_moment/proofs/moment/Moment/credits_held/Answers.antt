-- the credits of what stays are at most the maximum
use Rattle.std.proofs.Common.{◌≡◌, ◌+◌, sym, ◌∙◌, ap, arith}
use Rattle.std.specs.Prelude.{sum_by}
use Rattle.std.specs.Option.{is_some}
use Rattle.sect_model.specs.World.{held_by, credits_of}
use Rattle.sect_model.specs.Allowed.{credits_held, max_credits}
use Rattle.sect_moment.proofs.MomentLemmas.{held-moved}
use Rattle.sect_moment.proofs.CreditLemmas.{sum-moved, kept-few}
use Rattle.sect_moment.proofs.moment.Moment.credits_held.Goals as goal

pub credits_staying-kept-requires : goal.credits_staying-kept-requires
credits_staying-kept-requires c =
    let i = c.self.inside in
    let w = i.world.now.world in
    let most : c.args.most ≡ max_credits w i.student = c.requires ∙ sym (ap (λ v. max_credits v.at v.student) c.self.view_is) in
    omega (arith, kept-few w i.student i.give.now c.self.invariant.0.good (ap is_some (sym c.self.invariant.1)), most, c.ranges.most.fits)

pub prove-unreachable-requires : goal.prove-unreachable-requires
prove-unreachable-requires c =
    let i = c.self.inside in
    let w = i.world.now.world in
    let most : c.args.most ≡ max_credits w i.student = c.requires ∙ sym (ap (λ v. max_credits v.at v.student) c.self.view_is) in
    omega (arith, c.credits_staying-kept.ensures, kept-few w i.student i.give.now c.self.invariant.0.good (ap is_some (sym c.self.invariant.1)), most, c.from.ensures, c.if-prove.true)

pub returns-clause-value : goal.returns-clause-value
returns-clause-value c =
    let i = c.self.inside in
    let w = i.world.now.world in
    (λ j. c.credits_staying-kept.ensures j + c.credits_made.ensures.value j)
    ∙ sym (ap (sum_by (λ e. credits_of w e.choice.course)) (held-moved w i.student i.give.now i.done.now c.self.invariant.0.in_order) ∙ sum-moved (λ d. credits_of w d.course) i.student i.give.now (held_by w i.student) i.done.now)
    ∙ ap (λ v. credits_held v.at v.student) c.self.view_is
