-- what doesn't count leaves the least so far
use Rattle.std.proofs.Common.{sym, ◌∙◌, cond, Some, None}
use Rattle.sect_moment.specs.Overlapped.{lesser_of}
use Rattle.sect_moment.proofs.LeastLemmas.{lesser-none}
use Rattle.sect_moment.proofs.overlap.lesser_if.Goals as goal

pub returns-else-counts : goal.returns-else-counts
returns-else-counts c = lesser-none c.args.so_far ∙ (λ i. lesser_of c.args.so_far (cond (sym c.if-counts.false i) (Some c.args.number) None))
