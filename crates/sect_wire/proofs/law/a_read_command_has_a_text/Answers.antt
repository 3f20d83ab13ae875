-- What is read of a body has a text.
use Rattle.sect_wire.proofs.Fits.{body_fits}
use Rattle.sect_wire.proofs.law.a_read_command_has_a_text.Goals as goal

pub returns : goal.returns
returns c = body_fits
