-- A path of a report.
use Rattle.sect_wire.specs.Bodies.{command_of}
use Rattle.sect_answer.specs.declared.target.Target.TheVariants.{Look}
use Rattle.sect_answer.proofs.Targets.{errand_found, errand_only}
use Rattle.sect_answer.proofs.errand.read_errand.Goals as goal

pub returns-in-Some-Look-clause-found : goal.returns-in-Some-Look-clause-found
returns-in-Some-Look-clause-found c =
    let is = rw c.in-Some-Look.field-0-is at c.in-Some-Look.ensures.found in
    errand_found c.args.method.now c.args.target.now c.args.body.now c.path_of.result.now (Look c.in-Some-Look.query) c.look_errand.result c.path_of.ensures is
    (c.look_errand.ensures.errand (command_of c.args.body.now))

pub returns-in-Some-Look-clause-only : goal.returns-in-Some-Look-clause-only
returns-in-Some-Look-clause-only c = λ e h.
    let is = rw c.in-Some-Look.field-0-is at c.in-Some-Look.ensures.found in
    let only = rw c.in-Some-Look.field-0-is at c.in-Some-Look.ensures.only in
    errand_only c.args.method.now c.args.target.now c.args.body.now c.path_of.result.now (Look c.in-Some-Look.query) c.look_errand.result e c.path_of.ensures is only
    (c.look_errand.ensures.errand (command_of c.args.body.now)) h
