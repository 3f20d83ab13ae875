-- The tree of a word is the one whose text it is.
use Rattle.sect_words.proofs.Exact.{by_found, by_none}
use Rattle.sect_words.proofs.Values.{exact_tree}
use Rattle.sect_words.proofs.readable.BlockReadable.read.Goals as goal

pub returns-in-Some : goal.returns-in-Some
returns-in-Some c =
    let found = rw c.in-Some.is at c.in_ok-tree.ensures.found in
    by_found exact_tree c.args.word.now c.in-Some.tree found.0 found.1

pub returns-in-None : goal.returns-in-None
returns-in-None c = by_none exact_tree c.args.word.now (λ tree fits is. absurd (let found = c.in_ok-tree.ensures.only tree fits is in cc (found, c.in-None.is)))
