-- The rows written and those left make up the text.
use Rattle.std.proofs.Common.{◌≡◌, ◌++◌, drop}
use Rattle.std.specs.List.{flat_map}
use Rattle.sect_csv.specs.Tables.{section_fields, written}
use Rattle.sect_csv.proofs.catalog.write_subpart.Given as goal

abbrev pub invariant-loop-section : goal.invariant-loop-section
invariant-loop-section l = l.sheet ++ flat_map (λ s. written (section_fields l.offering l.config l.subpart s)) (drop l.section-index l.section-items) ≡ l.fn.sheet ++ flat_map (λ s. written (section_fields l.offering l.config l.subpart s)) l.section-items
