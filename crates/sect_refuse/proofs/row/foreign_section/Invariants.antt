-- what is found is found in the rest
use Rattle.std.proofs.Common.{◌≡◌, drop}
use Rattle.std.specs.Prelude.{not, find}
use Rattle.sect_model.specs.Refusals.{section_fits}
use Rattle.sect_refuse.proofs.row.foreign_section.Given as goal

abbrev pub invariant-loop-section : goal.invariant-loop-section
invariant-loop-section l =
    find (λ s. not (section_fits l.offering l.configs s)) l.sections ≡ find (λ s. not (section_fits l.offering l.configs s)) (drop l.section-index l.sections)
