-- What the talk was, as a whole.
use Rattle.sect_answer.specs.Answering.{sitting}
use Rattle.sect_http.specs.Answers.{Answers}
use Rattle.sect_http.proofs.Along.{talked_leads, talked_steps}
use Rattle.sect_http.proofs.sitting.talk.Goals as goal

pub returns-in-Some-clause-grown : goal.returns-in-Some-clause-grown
returns-in-Some-clause-grown g c =
    let old = sitting c.args.pass.now (g.C.Clock.days c.args.clock.now) in
    let new = sitting c.turn-end.new.pass (g.C.Clock.days c.turn-end.new.clock) in
    (talked_leads g.O.Object.start g.O.Object.stepped g.O.Object.is_row g.O.Object.looked (g.S.Source.left c.args.source.now) (g.S.Source.left c.turn-end.new.source)
    (g.T.Sink.taken c.args.sink.now) (g.T.Sink.taken c.turn-end.new.sink) c.args.step.now c.turn-end.new.step old new c.in-Some.end
    (c.in-Some.ensures.goes (g.S.Source.left c.args.source.now) (g.T.Sink.taken c.args.sink.now) c.args.step.now old c.loop-end.invariant.progress)).0

pub returns-in-Some-clause-calls : goal.returns-in-Some-clause-calls
returns-in-Some-clause-calls g c =
    let old = sitting c.args.pass.now (g.C.Clock.days c.args.clock.now) in
    let new = sitting c.turn-end.new.pass (g.C.Clock.days c.turn-end.new.clock) in
    (talked_leads g.O.Object.start g.O.Object.stepped g.O.Object.is_row g.O.Object.looked (g.S.Source.left c.args.source.now) (g.S.Source.left c.turn-end.new.source)
    (g.T.Sink.taken c.args.sink.now) (g.T.Sink.taken c.turn-end.new.sink) c.args.step.now c.turn-end.new.step old new c.in-Some.end
    (c.in-Some.ensures.goes (g.S.Source.left c.args.source.now) (g.T.Sink.taken c.args.sink.now) c.args.step.now old c.loop-end.invariant.progress)).1

pub returns-in-Some-clause-steps : goal.returns-in-Some-clause-steps
returns-in-Some-clause-steps g c =
    let old = sitting c.args.pass.now (g.C.Clock.days c.args.clock.now) in
    let new = sitting c.turn-end.new.pass (g.C.Clock.days c.turn-end.new.clock) in
    talked_steps (Answers g.O.Object.start g.O.Object.stepped g.O.Object.is_row g.O.Object.looked) (g.S.Source.left c.args.source.now) (g.S.Source.left c.turn-end.new.source)
    (g.T.Sink.taken c.args.sink.now) (g.T.Sink.taken c.turn-end.new.sink) c.args.step.now c.turn-end.new.step old new c.in-Some.end
    (c.in-Some.ensures.goes (g.S.Source.left c.args.source.now) (g.T.Sink.taken c.args.sink.now) c.args.step.now old c.loop-end.invariant.progress)
