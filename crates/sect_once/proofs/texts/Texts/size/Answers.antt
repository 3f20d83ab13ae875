use Rattle.std.proofs.Common.{arith}
use Rattle.sect_once.proofs.Cuts.{cut-size}
use Rattle.sect_once.proofs.texts.Texts.size.Goals as goal

pub returns : goal.returns
returns c = rw (← c.self.view_is) (let n = cut-size 0 _ c.self.inside.bytes.items c.self.inside.ends.items (omega arith) c.self.invariant in omega (arith, n))
