-- No text begins with a word that is longer.
use Rattle.std.proofs.Common.{sym}
use Rattle.sect_words.proofs.Fronts.{begins_short}
use Rattle.sect_words.proofs.parts.begins_with.Goals as goal

pub returns-then-text-word : goal.returns-then-text-word
returns-then-text-word c = sym (begins_short c.args.word.now c.args.mark c.args.text.now c.if-text-word.true)
