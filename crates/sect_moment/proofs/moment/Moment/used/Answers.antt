-- the world's number, less what leaves, and what was made
use Rattle.std.proofs.Common.{◌≡◌, ◌+◌, ◌-◌, ◌∙◌, ap, arith}
use Rattle.std.specs.Prelude.{count_by, ◌&&◌}
use Rattle.sect_model.specs.World.{held_by}
use Rattle.sect_model.specs.Counts.{used_of}
use Rattle.sect_moment.specs.Moment.{is_given, uses, moved}
use Rattle.sect_moment.proofs.MomentLemmas.{used-moved, left-few}
use Rattle.sect_moment.proofs.moment.Moment.used.Goals as goal

pub overflow_sub-result : goal.overflow_sub-result
overflow_sub-result c =
    let i = c.self.inside in
    let w = i.world.now.world in
    let left : c.given_by-left.result ≡ count_by (λ e. is_given i.give.now e.choice.course && uses c.args.id e.choice) (held_by w i.student)
    = c.given_by-left.ensures in
    omega (arith, left, left-few (uses c.args.id) i.student i.give.now w.roster, c.used.ensures, c.from.ensures)

pub returns : goal.returns
returns c =
    let i = c.self.inside in
    let w = i.world.now.world in
    let left : c.given_by-left.result ≡ count_by (λ e. is_given i.give.now e.choice.course && uses c.args.id e.choice) (held_by w i.student)
    = c.given_by-left.ensures in
    let made : c.made_by-made.result ≡ count_by (uses c.args.id) i.done.now = c.made_by-made.ensures in
    let all : c.from.result - c.given_by-left.result + c.made_by-made.result ≡ used_of (moved w i.student i.give.now i.done.now) c.args.id
    = omega (arith, left, left-few (uses c.args.id) i.student i.give.now w.roster, used-moved w i.student i.give.now i.done.now c.args.id, made, c.used.ensures, c.from.ensures) in
    all ∙ ap (λ v. used_of v.at c.args.id) c.self.view_is
