-- By the definitions.
use Rattle.sect_clerk_words.proofs.Worked.{plain_words}
use Rattle.sect_clerk_words.proofs.laws.plain_words_are_read.Goals as goal

pub returns : goal.returns
returns c = plain_words
