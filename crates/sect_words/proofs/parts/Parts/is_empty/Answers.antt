-- Nothing is left exactly where the last part was taken.
use Rattle.sect_words.proofs.Loops.{done_is}
use Rattle.sect_words.proofs.parts.Parts.is_empty.Goals as goal

pub returns : goal.returns
returns c = rw (← c.self.view_is) (done_is c.self.inside.done c.self.inside.mark c.self.inside.text.now)
