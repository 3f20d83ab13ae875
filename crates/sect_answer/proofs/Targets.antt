-- A path is of one target, or of none.
use Rattle.std.proofs.Common.{◌≡◌, ℕ, List, Option, None, Some, refl, sym, ap, ◌∙◌, subst}
use Rattle.std.specs.Prelude.{Result}
use Rattle.sect_command.specs.declared.command.Command.{Command}
use Rattle.sect_command.specs.declared.view.Query.{Query}
use Rattle.sect_answer.specs.Targets.{IsTarget}
use Rattle.sect_answer.specs.declared.target.Target.{Target}
use Rattle.sect_answer.specs.declared.target.Target.TheVariants.{Look}
use Rattle.sect_wire.specs.Bodies.{command_of}
use Rattle.sect_answer.specs.Errands.{HasTarget, IsErrand, errand_for, path_of}
use Rattle.sect_answer.specs.declared.errand.Errand.{Errand}

same_target : (path : List ℕ) (t : Target) (at : Option Target) → ((u : Target) → IsTarget path u → Some t ≡ Some u) → IsTarget path t → HasTarget path at → Some t ≡ at
same_target path t None only is has = absurd (has t is)
same_target path t (Some u) only is has = only u has

-- the errand of a request whose path is this target's
pub errand_found : (method target body path : List ℕ) (t : Target) (result : Errand) → path ≡ path_of target → IsTarget path t → result ≡ errand_for method (command_of body) (Some t) → IsErrand method target body result
errand_found method target body path t result same is found = record { at = Some t; has_target = subst (λ p. IsTarget p t) same is; errand_is = found }

-- it has no other
pub errand_only : (method target body path : List ℕ) (t : Target) (result e : Errand) → path ≡ path_of target → IsTarget path t → ((u : Target) → IsTarget path u → Some t ≡ Some u)
    → result ≡ errand_for method (command_of body) (Some t) → IsErrand method target body e → result ≡ e
errand_only method target body path t result e same is only found h =
    found ∙ (ap (errand_for method (command_of body)) (same_target path t h.at only is (subst (λ p. HasTarget p h.at) (sym same) h.has_target)) ∙ sym h.errand_is)
