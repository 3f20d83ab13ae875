use Rattle.std.proofs.Common.{◌∙◌, sym}
use Rattle.sect_once.proofs.Openings.{some_has}
use Rattle.sect_once.proofs.past.Past.has.Goals as goal

pub returns-clause-acted : goal.returns-clause-acted
returns-clause-acted g c = λ h. some_has c.place_of.result (sym c.is_some.ensures ∙ h) c.place_of.ensures.found (λ a p. p.0)
