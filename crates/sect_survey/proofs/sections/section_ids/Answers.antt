-- What the sort leaves is the ids of the sorted sections.
use Rattle.std.proofs.Common.{◌≡◌, map, ◌∙◌, ap}
use Rattle.std.proofs.lemmas.List.{take_all}
use Rattle.std.proofs.lemmas.List.Sorted.{IsNonDecreasingBy-from_sort}
use Rattle.sect_catalog.specs.Catalogue.{all_sections}
use Rattle.sect_roster.proofs.SortLemmas.{ids-sorted}
use Rattle.sect_survey.proofs.sections.section_ids.Goals as goal

pub returns : goal.returns
returns c =
    let all : c.loop-row.ids.items ≡ map (λ s. s.id) (all_sections c.args.rows.now) =
    c.loop-row.invariant ∙ ap (λ rows. map (λ s. s.id) (all_sections rows)) (take_all c.loop-row.row-index c.args.rows.now c.loop-row-test.false) in
    ids-sorted (λ s. s.id) (λ d. d.0) (λ x y e i. record { 0 = e i }) (all_sections c.args.rows.now) c.loop-row.ids.items c.sort_unstable.new.self.items all
    c.sort_unstable.ensures.permutation
    (IsNonDecreasingBy-from_sort (λ d. d.0) c.sort_unstable.new.self.items c.sort_unstable.ensures.sorted)
