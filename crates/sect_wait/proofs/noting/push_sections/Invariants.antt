-- the sections so far stand behind the levels before them
use Rattle.std.proofs.Common.{◌≡◌, ◌++◌, map, take}
use Rattle.sect_base.specs.declared.limit.Level.TheVariants.{Section}
use Rattle.sect_wait.proofs.noting.push_sections.Given as goal

abbrev pub invariant-loop-section : goal.invariant-loop-section
invariant-loop-section l = l.levels.items ≡ l.initial.levels.items ++ map Section (take l.section-index l.sections)
