-- A mark ends the first part, or the text does.
use Rattle.std.proofs.Common.{sym, ◌∙◌}
use Rattle.sect_words.proofs.Cuts.{first_some, first_all}
use Rattle.sect_words.proofs.parts.Parts.first.Goals as goal

pub returns-in-Some : goal.returns-in-Some
returns-in-Some c = rw (← c.self.view_is) (first_some c.self.inside.done c.self.inside.mark c.self.inside.text.now c.in-Some.at c.if-self.false (sym c.in-Some.is ∙ c.mark_in.ensures))

pub returns-in-None : goal.returns-in-None
returns-in-None c = rw (← c.self.view_is) (first_all c.self.inside.done c.self.inside.mark c.self.inside.text.now c.if-self.false (sym c.in-None.is ∙ c.mark_in.ensures))
