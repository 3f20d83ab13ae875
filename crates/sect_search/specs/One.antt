-- What a search for one want answers.
use Rattle.std.specs.Prelude.{[], ◌∷◌}
use Rattle.sect_model.specs.declared.pick.Outcome.{Outcome}
use Rattle.sect_model.specs.declared.pick.Outcome.TheVariants.{Found, Blocked, Spent}
use Rattle.sect_search.specs.declared.one.OneOutcome.{OneOutcome}
use Rattle.sect_search.specs.declared.one.OneOutcome.TheVariants.{Found as found_one, Blocked as blocked_one, Spent as spent_one}

-- the answer as that of a search for any move, with the choice as the only one of a list
abbrev pub listed : OneOutcome → Outcome
listed (found_one choice visits) = Found (choice ∷ []) visits
listed (blocked_one tree visits) = Blocked tree visits
listed (spent_one budget) = Spent budget
