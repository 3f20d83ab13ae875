-- where nothing is given up, none leaves
use Rattle.std.proofs.Common.{sym, ◌∙◌}
use Rattle.sect_model.specs.World.{held_by}
use Rattle.sect_moment.specs.Moment.{counts_at}
use Rattle.sect_moment.proofs.CourseLemmas.{none-given}
use Rattle.sect_moment.proofs.held.counts_given.Goals as goal

pub returns-then-is_empty : goal.returns-then-is_empty
returns-then-is_empty c = none-given (counts_at c.args.world.now.world c.args.level) c.args.give.now (held_by c.args.world.now.world c.args.student) (sym c.is_empty.ensures ∙ c.if-is_empty.true)
