-- A worker's talks, as it was asked to say them.
use Rattle.sect_answer.specs.Answering.{sitting}
use Rattle.sect_http.specs.Answers.{Answers}
use Rattle.sect_turn.specs.Passes.{front, own_calls}
use Rattle.sect_serve.proofs.Attending.{did_nothing, did_work}
use Rattle.sect_serve.proofs.server.ServerWorkDesk.run.Goals as goal

pub returns-in_default-clause-did : goal.returns-in_default-clause-did
returns-in_default-clause-did g c =
    did_nothing (Answers g.O.Object.start g.O.Object.stepped g.O.Object.is_row g.O.Object.looked) g.L.In.Source.left g.L.Out.Sink.taken g.L.In.Source.faults g.L.Out.Sink.faults
    (g.L.Link.connections c.args.self.link) (g.L.Link.faults c.args.self.link) (g.C.Clock.days c.args.self.clock) c.args.self.sessions (front c.args.pass.now) (own_calls c.args.pass.now) c.requires.fresh

pub returns-clause-did : goal.returns-clause-did
returns-clause-did g c =
    let it = c.work-end.new in
    did_work (Answers g.O.Object.start g.O.Object.stepped g.O.Object.is_row g.O.Object.looked) g.L.In.Source.left g.L.Out.Sink.taken g.L.In.Source.faults g.L.Out.Sink.faults
    (g.L.Link.connections c.args.self.link) (g.L.Link.connections it.link) (g.L.Link.faults c.args.self.link) (g.L.Link.faults it.link) (g.C.Clock.days c.args.self.clock)
    (own_calls c.args.pass.now) (front c.args.pass.now) (sitting it.pass (g.C.Clock.days it.clock)) c.work-end.ensures.works.0 c.args.self.sessions c.work-end.result c.requires.fresh c.work-end.ensures.works.1
