-- a tree is smaller than the trees in which it stands
use Rattle.sect_search.proofs.CoverLemmas.{size-at}
use Rattle.sect_search.proofs.verifying.tree_at.Goals as goal

pub returns-clause-smaller : goal.returns-clause-smaller
returns-clause-smaller c = size-at c.args.trees.now c.args.at c.tree_in.result c.tree_in.ensures
