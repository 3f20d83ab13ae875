use Rattle.std.proofs.Common.{arith}
use Rattle.sect_once.proofs.Cuts.{cut-length}
use Rattle.sect_once.proofs.texts.Texts.reserve.Goals as goal

pub returns-clause-room : goal.returns-clause-room
returns-clause-room c = omega (arith, c.in_ok-reserve.ensures.ok, c.reserve.new.self.ok.0, cut-length 0 c.reserve-2.new.self.items c.reserve.new.self.items)
