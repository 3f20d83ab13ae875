use Rattle.std.proofs.Common.{arith}
use Rattle.sect_once.proofs.Cuts.{cut-length}
use Rattle.sect_once.proofs.texts.Texts.len.Goals as goal

pub returns : goal.returns
returns c = rw (← c.self.view_is) (let n = cut-length 0 c.self.inside.bytes.items c.self.inside.ends.items in omega (arith, n))
