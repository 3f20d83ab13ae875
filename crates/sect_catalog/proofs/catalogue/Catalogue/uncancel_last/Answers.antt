-- The last one goes, with its mark.
use Rattle.std.proofs.Common.{subst}
use Rattle.sect_catalog.specs.Rising.{Marks}
use Rattle.sect_catalog.proofs.MarksLemmas.{marks-less}
use Rattle.sect_catalog.proofs.catalogue.Catalogue.uncancel_last.Goals as goal

pub invariant_of-self : goal.invariant_of-self
invariant_of-self c =
    let i = c.self.inside in (
      c.self.invariant.0,
      marks-less c.pop.new.self.items c.in-Some.id i.marks c.remove.new.self (subst (λ ss. Marks ss i.marks) c.in-Some.ensures.items c.self.invariant.1) c.remove.ensures,
    )
