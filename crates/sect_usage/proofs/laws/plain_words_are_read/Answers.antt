-- By the definitions.
use Rattle.sect_usage.proofs.SpellingLaws.{plain_words}
use Rattle.sect_usage.proofs.laws.plain_words_are_read.Goals as goal

pub returns : goal.returns
returns c = plain_words
