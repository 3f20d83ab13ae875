-- the law stands in the lemmas
use Rattle.sect_search.proofs.TextLemmas.{blocked-has-text, cover-has-text}
use Rattle.sect_search.proofs.laws.a_tree_has_a_text.Goals as goal

pub returns-clause-blocked : goal.returns-clause-blocked
returns-clause-blocked c = blocked-has-text

pub returns-clause-covers : goal.returns-clause-covers
returns-clause-covers c = cover-has-text
