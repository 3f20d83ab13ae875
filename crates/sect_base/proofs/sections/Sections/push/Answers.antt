-- the cells stay made up
use Rattle.std.proofs.Common.{arith}
use Rattle.sect_base.proofs.SectionLemmas.{is_padded-push}
use Rattle.sect_base.proofs.sections.Sections.push.Goals as goal

pub invariant_of-self : goal.invariant_of-self
invariant_of-self c =
    let room = rw (← c.self.view_is) at c.requires in
    is_padded-push _ _ _ c.self.invariant (omega (arith, c.self.invariant.first))
