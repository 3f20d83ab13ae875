-- the places so far are kept, and the others stay
use Rattle.sect_base.proofs.KeepLemmas.{KeepsBelow}
use Rattle.sect_base.proofs.slots.keep.Given as goal

abbrev pub invariant-slots : goal.invariant-slots
invariant-slots g l = KeepsBelow (g.T.Test.passes l.test) l.place l.initial.slots l.slots
