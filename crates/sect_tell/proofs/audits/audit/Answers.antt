use Rattle.std.proofs.Common.{[]}
use Rattle.sect_tell.proofs.Verified.{audits_or_shut}
use Rattle.sect_tell.proofs.audits.audit.Goals as goal

pub returns-clause-audits : goal.returns-clause-audits
returns-clause-audits g c = λ left.
    audits_or_shut g.K.Keeper.rows g.K.Keeper.faults c.replays_are_good.ensures c.steps_keep_the_world.ensures.step c.blocked_is_refuted.ensures.step
    (c.steps_keep_the_world.ensures.history []) c.args.keeper c.tell.result.1 left
    (g.T.Sink.taken c.args.sink.now) (g.T.Sink.taken c.tell.new.sink) c.tell.result.0 (c.tell.ensures.tells left)
