-- the ids so far are new
use Rattle.std.proofs.Common.{◌≡◌, find, map, drop}
use Rattle.std.specs.Option.{option_map}
use Rattle.sect_catalog.specs.Place.{is_taken}
use Rattle.sect_catalog.proofs.known.known_section.Given as goal

abbrev pub invariant-loop-section : goal.invariant-loop-section
invariant-loop-section l =
    option_map (λ id. id.1) (find (is_taken l.index l.row) (map (λ s. (4, s.id.0)) l.sections)) ≡ option_map (λ id. id.1) (find (is_taken l.index l.row) (map (λ s. (4, s.id.0)) (drop l.section-index l.sections)))
