-- the law stands in the lemmas
use Rattle.sect_search.proofs.NodeLemmas.{blocked-is-small}
use Rattle.sect_search.proofs.laws.a_tree_has_a_node_for_each_visit.Goals as goal

pub returns : goal.returns
returns c = blocked-is-small
