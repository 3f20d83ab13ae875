-- where there are no reservations, they take all of nothing
use Rattle.std.proofs.Common.{sym, ◌∙◌}
use Rattle.sect_moment.proofs.ReservedLemmas.{taken-none}
use Rattle.sect_moment.proofs.moment.Moment.takes_all.Goals as goal

pub returns-then-is_empty : goal.returns-then-is_empty
returns-then-is_empty c = taken-none c.args.self.now.at c.args.level c.args.left c.args.rows.now (sym c.is_empty.ensures ∙ c.if-is_empty.true)
