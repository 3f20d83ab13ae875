-- One connection more was talked over and handed back.
use Rattle.std.proofs.Common.{subst}
use Rattle.sect_answer.specs.Answering.{sitting}
use Rattle.sect_edge.specs.Link.{Accepts}
use Rattle.sect_http.specs.Answers.{Answers}
use Rattle.sect_serve.proofs.Attending.{attended}
use Rattle.sect_serve.proofs.server.attend.Goals as goal

pub returns-in-Ok-Some-clause-attends : goal.returns-in-Ok-Some-clause-attends
returns-in-Ok-Some-clause-attends g c =
    let told = g.L.Link.connections c.args.link.now in
    let mid = g.L.Link.connections c.accept.new.self in
    let talked = c.talk.ensures in
    attended (Answers g.O.Object.start g.O.Object.stepped g.O.Object.is_row g.O.Object.looked) g.L.In.Source.left g.L.Out.Sink.taken g.L.In.Source.faults g.L.Out.Sink.faults
    told mid (g.L.Link.connections c.finish.new.self) (g.L.Link.faults c.args.link.now) (g.L.Link.faults c.accept.new.self) (g.L.Link.faults c.finish.new.self)
    (sitting c.args.pass.now (g.C.Clock.days c.args.clock.now)) (sitting c.talk.new.pass (g.C.Clock.days c.talk.new.clock)) c.args.step.now c.talk.new.step c.talk.result
    (c.in-Ok-Some.source, c.in-Ok-Some.sink) (c.talk.new.source, c.talk.new.sink) (subst (Accepts told mid) c.in-Ok-Some.field-0-is c.in-Ok-Some.ensures.accepted) c.finish.ensures.back
    c.in-Ok-Some.ensures.cause.later c.finish.ensures.faults talked.talked talked.calls talked.later talked.read_fault talked.write_fault
