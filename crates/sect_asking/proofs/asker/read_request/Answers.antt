use Rattle.std.proofs.Common.{◌≡◌}
use Rattle.sect_script.specs.declared.script.LineFault.TheVariants as faults
use Rattle.sect_asking.proofs.Asking.{is_bad, line_fits}
use Rattle.sect_asking.proofs.asker.read_request.Goals as goal

pub returns-in-Err-clause-bad : goal.returns-in-Err-clause-bad
returns-in-Err-clause-bad c = λ said. let told : c.line_fault.result ≡ faults.Bad = cc in is_bad c.args.line.now c.in-Err.fault c.requires c.in-Err.ensures.only (c.line_fault.ensures told)

pub returns-in-Ok-clause-fits : goal.returns-in-Ok-clause-fits
returns-in-Ok-clause-fits c = line_fits c.args.line.now c.in-Ok.ask c.in-Ok.ensures.found
