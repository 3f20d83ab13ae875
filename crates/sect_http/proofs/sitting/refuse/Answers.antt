-- Memory was wanted before anything was read.
use Rattle.std.proofs.Common.{arith}
use Rattle.sect_http.proofs.Along.{refused_broken, refused_closed}
use Rattle.sect_http.proofs.sitting.refuse.Goals as goal

pub returns-in-Ok-clause-talked : goal.returns-in-Ok-clause-talked
returns-in-Ok-clause-talked g c = λ left old.
    refused_closed left (g.T.Sink.taken c.args.sink.now) (g.T.Sink.taken c.write_all.new.sink) c.args.step.now c.pass_gate-in-Ok.new.step old c.no_memory.result.now c.no_memory.ensures
    c.in-Ok.ensures.ok (omega (arith, c.pass_gate.ensures, c.pass_gate-in-Ok.ensures))

pub returns-in-Err-clause-talked : goal.returns-in-Err-clause-talked
returns-in-Err-clause-talked g c = λ left old.
    refused_broken c.in-Err.ensures.err.0 left (g.T.Sink.taken c.args.sink.now) (g.T.Sink.taken c.write_all.new.sink) c.args.step.now c.pass_gate.new.step old c.no_memory.result.now c.no_memory.ensures
    c.in-Err.ensures.err.1 c.pass_gate.ensures
