use Rattle.std.proofs.Common.{◌≡◌, arith, subst}
use Rattle.std.proofs.lemmas.Result.{err_from_is_err_and}
use Rattle.sect_edge.specs.Keeper.{CountsRows}
use Rattle.sect_once.proofs.Openings.{opened_cause, replayed_all, replayed_more, replayed_none}
use Rattle.sect_once.proofs.past.Past.replay.Goals as goal

pub loop-at-init : goal.loop-at-init
loop-at-init g c = rw c.in_ok-past.ensures (replayed_none g.O.Object.start g.O.Object.stepped g.O.Object.is_row (g.K.Keeper.rows c.args.keeper.now) (g.K.Keeper.rows c.len.new.self) (g.K.Keeper.faults c.args.keeper.now) (g.K.Keeper.faults c.len.new.self) c.len.ensures.rows c.len.ensures.cause.later)

pub loop-at-preserved : goal.loop-at-preserved
loop-at-preserved g c = replayed_more g.O.Object.start g.O.Object.stepped g.O.Object.is_row _ (g.K.Keeper.rows c.loop-at.keeper) _ _ (g.K.Keeper.faults c.loop-at.keeper) _ c.loop-at.past c.take_next.new.self c.loop-at.at
    c.loop-at.invariant c.in_ok-take_next.ensures.ok c.take_next.ensures.rows c.take_next.ensures.later

pub returns-clause-tells : goal.returns-clause-tells
returns-clause-tells g c = replayed_all g.O.Object.start g.O.Object.stepped g.O.Object.is_row (g.K.Keeper.rows c.args.keeper.now) (g.K.Keeper.rows c.loop-at.keeper) _ _ c.loop-at.past.entries c.loop-at.at (let e : c.in_ok-count.count ≡ c.loop-at.at = omega (arith, c.loop-at-test.false, c.loop-at.auto.at-end) in subst (CountsRows (g.K.Keeper.rows c.args.keeper.now)) e c.in_ok-count.ensures.count) c.loop-at.invariant

pub returns-in_err-take_next-clause-err : goal.returns-in_err-take_next-clause-err
returns-in_err-take_next-clause-err g c = let cause = opened_cause g.O.Object.start g.O.Object.stepped g.O.Object.is_row g.K.Keeper.rows g.K.Keeper.faults c.args.keeper.now c.loop-at.keeper c.take_next.new.keeper c.loop-at.past.entries c.loop-at.at c.in_ok-count.count
    c.in_err-take_next.field-0.0 c.loop-at.invariant c.in_ok-count.ensures.count c.loop-at-test.true c.in_err-take_next.ensures.err in
    let p = err_from_is_err_and c.from_residual-in_err-take_next.result c.from_residual-in_err-take_next.ensures.1 in rw (p.1, p.2) cause
