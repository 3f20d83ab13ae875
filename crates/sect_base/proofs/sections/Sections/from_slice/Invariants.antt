-- the sections so far
use Rattle.std.proofs.Common.{◌≡◌, take}
use Rattle.sect_base.proofs.sections.Sections.from_slice.Given as goal

abbrev pub invariant-loop-section : goal.invariant-loop-section
invariant-loop-section l = l.all ≡ take l.section-index l.sections
