-- The first part and what is left behind it, of one look for the mark.
use Rattle.std.proofs.Common.{sym, ◌∙◌}
use Rattle.sect_words.proofs.Cuts.{first_some, first_all, rest_some, rest_none}
use Rattle.sect_words.proofs.parts.Parts.next.Goals as goal

pub returns-in-Some-clause-part : goal.returns-in-Some-clause-part
returns-in-Some-clause-part c = rw (← c.self.view_is) (first_some c.self.inside.done c.self.inside.mark c.self.inside.text.now c.in-Some.at c.if-self.false (sym c.in-Some.is ∙ c.mark_in.ensures))

pub returns-in-Some-clause-rest : goal.returns-in-Some-clause-rest
returns-in-Some-clause-rest c = rw (← c.self.view_is) (rest_some c.self.inside.done c.self.inside.mark c.self.inside.text.now c.behind-self-inside.result.now c.in-Some.at c.if-self.false (sym c.in-Some.is ∙ c.mark_in.ensures) c.behind-self-inside.ensures)

pub returns-in-None-clause-part : goal.returns-in-None-clause-part
returns-in-None-clause-part c = rw (← c.self.view_is) (first_all c.self.inside.done c.self.inside.mark c.self.inside.text.now c.if-self.false (sym c.in-None.is ∙ c.mark_in.ensures))

pub returns-in-None-clause-rest : goal.returns-in-None-clause-rest
returns-in-None-clause-rest c = rw (← c.self.view_is) (rest_none c.self.inside.done c.self.inside.mark c.self.inside.text.now c.if-self.false (sym c.in-None.is ∙ c.mark_in.ensures))
