-- the world's number, less what leaves, and what was made
use Rattle.std.proofs.Common.{◌≡◌, ◌+◌, ◌-◌, ◌∙◌, ap, arith}
use Rattle.std.specs.Prelude.{count_by, ◌&&◌}
use Rattle.sect_model.specs.World.{held_by}
use Rattle.sect_model.specs.Counts.{count_of}
use Rattle.sect_moment.specs.Moment.{is_given, counts_at, moved}
use Rattle.sect_moment.proofs.MomentLemmas.{count-moved, left-few, count-by-choice}
use Rattle.sect_moment.proofs.moment.Moment.count.Goals as goal

pub overflow_sub-result : goal.overflow_sub-result
overflow_sub-result c =
    let i = c.self.inside in
    let w = i.world.now.world in
    let left : c.counts_given-left.result ≡ count_by (λ e. is_given i.give.now e.choice.course && counts_at w c.args.level e.choice) (held_by w i.student)
    = c.counts_given-left.ensures in
    omega (arith, left, left-few (counts_at w c.args.level) i.student i.give.now w.roster, count-by-choice w c.args.level, c.count.ensures, c.from.ensures)

pub returns : goal.returns
returns c =
    let i = c.self.inside in
    let w = i.world.now.world in
    let left : c.counts_given-left.result ≡ count_by (λ e. is_given i.give.now e.choice.course && counts_at w c.args.level e.choice) (held_by w i.student)
    = c.counts_given-left.ensures in
    let made : c.counts_made-made.result ≡ count_by (counts_at w c.args.level) i.done.now = c.counts_made-made.ensures in
    let all : c.from.result - c.counts_given-left.result + c.counts_made-made.result ≡ count_of (moved w i.student i.give.now i.done.now) c.args.level
    = omega (arith, left, left-few (counts_at w c.args.level) i.student i.give.now w.roster, count-by-choice w c.args.level, count-moved w i.student i.give.now i.done.now c.args.level, made, c.count.ensures, c.from.ensures) in
    all ∙ ap (λ v. count_of v.at c.args.level) c.self.view_is
