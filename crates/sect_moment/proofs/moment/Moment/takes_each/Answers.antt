-- the reservations in turn take what is left
use Rattle.std.proofs.Common.{sym, ◌∙◌}
use Rattle.sect_moment.proofs.ReservedLemmas.{taken-all, taken-end}
use Rattle.sect_moment.proofs.moment.Moment.takes_each.Goals as goal

pub returns-in-None : goal.returns-in-None
returns-in-None c =
    sym (taken-all c.args.self.now.at c.args.level c.loop-r.left c.args.rows.now c.loop-r.r-index c.r-item.result c.loop-r-test.true c.r-item.is c.in-None.ensures)
    ∙ sym c.loop-r.invariant

pub returns : goal.returns
returns c = sym (taken-end c.args.self.now.at c.args.level c.loop-r.left c.args.rows.now c.loop-r.r-index c.loop-r-test.false) ∙ sym c.loop-r.invariant
