-- What is left behind the first part.
use Rattle.std.proofs.Common.{sym, ◌∙◌}
use Rattle.sect_words.proofs.Cuts.{rest_some, rest_none}
use Rattle.sect_words.proofs.parts.Parts.take.Goals as goal

pub returns-in-Some : goal.returns-in-Some
returns-in-Some c = rw (← c.self.view_is) (rest_some c.self.inside.done c.self.inside.mark c.self.inside.text.now c.behind-self-inside.result.now c.in-Some.at c.if-self.false (sym c.in-Some.is ∙ c.mark_in.ensures) c.behind-self-inside.ensures)

pub returns-in-None : goal.returns-in-None
returns-in-None c = rw (← c.self.view_is) (rest_none c.self.inside.done c.self.inside.mark c.self.inside.text.now c.if-self.false (sym c.in-None.is ∙ c.mark_in.ensures))
