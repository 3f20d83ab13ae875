-- What follows from the definition of a survey.
use Rattle.std.specs.Prelude.{◌≡◌, ℕ, []}
use Rattle.sect_command.specs.declared.view.UnmetView.{UnmetView}
use Rattle.sect_model.specs.declared.pick.Outcome.TheVariants.{Found}
use Rattle.sect_model.specs.World.{World}
use Rattle.sect_model.specs.Outcome.{outcome_of}
use Rattle.sect_survey.specs.Survey.{unmet_move}

-- no search for a request finds a move without a choice
abbrev pub FoundHasAChoice : Type 0
FoundHasAChoice = (w : World) (u : UnmetView) (visits : ℕ) → outcome_of w (unmet_move u) 2000 ≡ Found [] visits → ⊥
