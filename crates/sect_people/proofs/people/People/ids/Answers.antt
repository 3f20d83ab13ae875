-- The ids of the index are the sorted ids.
use Rattle.std.proofs.Common.{◌∙◌, ap, subst, sym}
use Rattle.std.specs.List.Sorted.{IsNonDecreasingBy}
use Rattle.sect_people.specs.Changes.{ids_of}
use Rattle.sect_people.proofs.IndexLemmas.{index-ids, ids-rise}
use Rattle.sect_people.proofs.people.People.ids.Goals as goal

pub returns-clause-value : goal.returns-clause-value
returns-clause-value c = c.as_slice.ensures.value ∙ c.self.invariant.ids_right ∙ index-ids c.self.inside.students.items ∙ ap ids_of c.self.view_is

pub returns-clause-rising : goal.returns-clause-rising
returns-clause-rising c =
    subst (IsNonDecreasingBy (λ d. d.0)) (sym (c.as_slice.ensures.value ∙ c.self.invariant.ids_right)) (ids-rise c.self.inside.students.items)
