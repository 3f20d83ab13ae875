-- where nothing is made, nothing counts
use Rattle.std.proofs.Common.{sym, ◌∙◌}
use Rattle.sect_moment.specs.Moment.{counts_at}
use Rattle.sect_moment.proofs.CourseLemmas.{none-made}
use Rattle.sect_moment.proofs.held.counts_made.Goals as goal

pub returns-then-is_empty : goal.returns-then-is_empty
returns-then-is_empty c = none-made (counts_at c.args.world.now.world c.args.level) c.args.done.now (sym c.is_empty.ensures ∙ c.if-is_empty.true)
