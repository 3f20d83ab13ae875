-- so many connections were talked over
use Rattle.std.proofs.Common.{◌≡◌, ◌≤◌, ◌*◌}
use mathlib.Core.List.{IsPrefix}
use Rattle.sect_answer.specs.Answering.{sitting}
use Rattle.sect_http.specs.Answers.{Answers}
use Rattle.sect_turn.specs.Passes.{front, opening, share, IsIdle, IsPassOf}
use Rattle.sect_serve.specs.Working.{Underway}
use Rattle.sect_serve.proofs.server.work.Given as goal

abbrev pub invariant-loop-count : goal.invariant-loop-count
invariant-loop-count g l = record {
  turn : IsPassOf (λ d. d.log) (λ d. d.base) l.office.turn l.pass × IsIdle l.pass;
  same : (share l.pass ≡ share l.fn.pass) × (opening l.pass ≡ opening l.fn.pass);
  grown : IsPrefix (front l.fn.pass) (front l.pass);
  underway : Underway (Answers g.O.Object.start g.O.Object.stepped g.O.Object.is_row g.O.Object.looked) g.L.In.Source.left g.L.Out.Sink.taken g.L.In.Source.faults g.L.Out.Sink.faults
      (g.L.Link.connections l.fn.link) (g.L.Link.connections l.link) (g.L.Link.faults l.fn.link) (g.L.Link.faults l.link)
      (sitting l.fn.pass (g.C.Clock.days l.fn.clock)) (sitting l.pass (g.C.Clock.days l.clock)) 0 l.step l.count;
  steps : l.step ≤ 2000000 * l.count;
}
