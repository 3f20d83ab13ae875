-- the pass is the office's
use Rattle.sect_turn.specs.Passes.{IsIdle, IsPassOf}
use Rattle.test_commands.proofs.serve.serve_each.Given as goal

abbrev pub invariant-loop-sent : goal.invariant-loop-sent
invariant-loop-sent g l = IsPassOf (λ d. d.log) (λ d. d.base) l.office.turn l.pass × IsIdle l.pass
