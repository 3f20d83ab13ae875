-- By the definitions.
use Rattle.sect_clerk_words.proofs.Worked.{worked}
use Rattle.sect_clerk_words.proofs.laws.words_are_read_as_written.Goals as goal

pub returns : goal.returns
returns c = worked
