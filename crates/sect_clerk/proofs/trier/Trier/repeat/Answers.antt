use Rattle.std.proofs.Common.{◌≡◌, Some, inr, refl, slice_get, subst}
use Rattle.sect_once.specs.History.{history}
use Rattle.sect_clerk.proofs.trier.Trier.repeat.Goals as goal

pub returns-in-Ok : goal.returns-in-Ok
returns-in-Ok g c = inr (c.in-Ok.entry, subst (λ s. slice_get (history s.desk.log) c.args.place ≡ Some c.in-Ok.entry) c.self.view_is c.in-Ok.ensures, refl)
