-- the world at the choices
use Rattle.std.proofs.Common.{◌∙◌}
use Rattle.sect_rules.specs.Wanted.{met}
use Rattle.sect_rules.proofs.wanted.Wanted.moment.Goals as goal

pub returns : goal.returns
returns c = c.self.invariant.1 ∙ (λ i. record { at = met (c.self.view_is i); student = (c.self.view_is i).mv.student })
