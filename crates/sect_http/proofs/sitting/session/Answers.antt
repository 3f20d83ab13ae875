-- Memory was wanted for a bench.
use Rattle.sect_answer.specs.Answering.{sitting}
use Rattle.sect_http.specs.Answers.{IsRefusedAtOnce}
use Rattle.sect_http.proofs.Along.{refused_talk, talked_steps}
use Rattle.sect_http.proofs.sitting.session.Goals as goal

pub returns-in-Err-clause-talked : goal.returns-in-Err-clause-talked
returns-in-Err-clause-talked g c =
    let left = g.S.Source.left c.args.source.now in
    let old = sitting c.args.pass.now (g.C.Clock.days c.args.clock.now) in
    refused_talk g.O.Object.start g.O.Object.stepped g.O.Object.is_row g.O.Object.looked left left (g.T.Sink.taken c.args.sink.now) (g.T.Sink.taken c.refuse.new.sink)
    c.args.step.now c.refuse.new.step old old c.refuse.result (c.refuse.ensures.talked left old)

pub returns-in-Err-clause-steps : goal.returns-in-Err-clause-steps
returns-in-Err-clause-steps g c =
    let left = g.S.Source.left c.args.source.now in
    let old = sitting c.args.pass.now (g.C.Clock.days c.args.clock.now) in
    talked_steps IsRefusedAtOnce left left (g.T.Sink.taken c.args.sink.now) (g.T.Sink.taken c.refuse.new.sink)
    c.args.step.now c.refuse.new.step old old c.refuse.result (c.refuse.ensures.talked left old)
