-- The requests before the next one were answered, and none of them closed the connection.
use Rattle.std.proofs.Common.{◌≡◌, ◌≤◌, ◌-◌, ◌+◌}
use Rattle.sect_answer.specs.Answering.{sitting}
use Rattle.sect_http.specs.Answers.{Answers}
use Rattle.sect_talk.specs.Asked.{LAST_REQUEST}
use Rattle.sect_talk.specs.Talk.{Progress}
use Rattle.sect_turn.specs.Passes.{opening, share, IsIdle, IsPassOf}
use Rattle.sect_http.proofs.sitting.talk.Given as goal

abbrev pub invariant-loop-end : goal.invariant-loop-end
invariant-loop-end g l = record {
  turn : IsPassOf (λ d. d.log) (λ d. d.base) l.office.turn l.pass × IsIdle l.pass;
  same : (share l.pass ≡ share l.fn.pass) × (opening l.pass ≡ opening l.fn.pass);
  number : l.number ≤ LAST_REQUEST;
  progress : Progress (Answers g.O.Object.start g.O.Object.stepped g.O.Object.is_row g.O.Object.looked) (g.S.Source.left l.fn.source) (g.S.Source.left l.source)
      (g.T.Sink.taken l.fn.sink) (g.T.Sink.taken l.sink) l.fn.step l.step
      (sitting l.fn.pass (g.C.Clock.days l.fn.clock)) (sitting l.pass (g.C.Clock.days l.clock)) l.number l.room;
  source_later : g.S.Source.faults l.fn.source ≤ g.S.Source.faults l.source;
  sink_later : g.T.Sink.faults l.fn.sink ≤ g.T.Sink.faults l.sink;
}

abbrev pub decreases-loop-end : goal.decreases-loop-end
decreases-loop-end g l = LAST_REQUEST + 1 - l.number
