-- Talks of a worker, from none to the last.
use Rattle.std.proofs.Common.{[], refl, ◌∙◌, append-nil, arith}
use Rattle.sect_answer.specs.Answering.{sitting}
use Rattle.sect_http.specs.Answers.{Answers}
use Rattle.sect_office.proofs.Running.{prefix_of_prefix}
use Rattle.sect_turn.specs.Passes.{front}
use Rattle.sect_serve.proofs.Attending.{begun, more_talks, worked}
use Rattle.sect_serve.proofs.server.work.Goals as goal

pub loop-count-init : goal.loop-count-init
loop-count-init g c = record {
  turn = (c.requires.turn, c.requires.between_turns);
  same = (refl, refl);
  grown = ([], append-nil (front c.args.pass.now));
  underway = begun (Answers g.O.Object.start g.O.Object.stepped g.O.Object.is_row g.O.Object.looked) g.L.In.Source.left g.L.Out.Sink.taken g.L.In.Source.faults g.L.Out.Sink.faults
      (g.L.Link.connections c.args.link.now) (g.L.Link.faults c.args.link.now) (sitting c.args.pass.now (g.C.Clock.days c.args.clock.now)) 0;
  steps = omega arith;
}

pub returns-in-Some-clause-works : goal.returns-in-Some-clause-works
returns-in-Some-clause-works g c =
    let h = c.loop-count.invariant in
    let now = c.attend-end.new in
    let test = c.loop-count-test.true in (
      now.step,
      worked (Answers g.O.Object.start g.O.Object.stepped g.O.Object.is_row g.O.Object.looked) g.L.In.Source.left g.L.Out.Sink.taken g.L.In.Source.faults g.L.Out.Sink.faults
          (g.L.Link.connections c.args.link.now) (g.L.Link.connections c.loop-count.link) (g.L.Link.connections now.link)
          (g.L.Link.faults c.args.link.now) (g.L.Link.faults c.loop-count.link) (g.L.Link.faults now.link)
          (sitting c.args.pass.now (g.C.Clock.days c.args.clock.now)) (sitting c.loop-count.pass (g.C.Clock.days c.loop-count.clock)) (sitting now.pass (g.C.Clock.days now.clock))
          0 c.loop-count.step now.step c.loop-count.count c.args.sessions c.in-Some.end h.underway (omega (arith, test)) c.in-Some.ensures.attends,
    )

pub loop-count-preserved : goal.loop-count-preserved
loop-count-preserved g c =
    let h = c.loop-count.invariant in
    let now = c.attend-end.new in
    let more = c.attend-end.ensures.steps in
    record {
      turn = c.attend-end.ensures.turn;
      same = (c.attend-end.ensures.same.0 ∙ h.same.0, c.attend-end.ensures.same.1 ∙ h.same.1);
      grown = prefix_of_prefix (front c.args.pass.now) (front c.loop-count.pass) (front now.pass) h.grown c.attend-end.ensures.grown;
      underway = more_talks (Answers g.O.Object.start g.O.Object.stepped g.O.Object.is_row g.O.Object.looked) g.L.In.Source.left g.L.Out.Sink.taken g.L.In.Source.faults g.L.Out.Sink.faults
          (g.L.Link.connections c.args.link.now) (g.L.Link.connections c.loop-count.link) (g.L.Link.connections now.link)
          (g.L.Link.faults c.args.link.now) (g.L.Link.faults c.loop-count.link) (g.L.Link.faults now.link)
          (sitting c.args.pass.now (g.C.Clock.days c.args.clock.now)) (sitting c.loop-count.pass (g.C.Clock.days c.loop-count.clock)) (sitting now.pass (g.C.Clock.days now.clock))
          0 c.loop-count.step now.step c.loop-count.count 1 h.underway c.in_default.ensures.attends;
      steps = omega (arith, h.steps, more);
    }
