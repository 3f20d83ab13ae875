-- Which of the requests are in a list of them, as truth values by position, and their order as words in a dictionary.
use Rattle.std.specs.Prelude.{Bool, true, false, not, List, [], ◌∷◌, map}
use Rattle.std.specs.List.{list_all}
use Rattle.sect_model.specs.Data.{Want}
use Rattle.sect_best.specs.declared.planned.Judged.{Judged}
use Rattle.sect_best.specs.declared.planned.Verdict.{Verdict}
use Rattle.sect_best.specs.declared.planned.Verdict.TheVariants.{Kept, Unmet, Spent}

-- the wants at the positions that are true
abbrev pub picked : List Bool → List Want → List Want
picked [] wants = []
picked (b ∷ bs) [] = []
picked (true ∷ bs) (want ∷ wants) = want ∷ picked bs wants
picked (false ∷ bs) (want ∷ wants) = picked bs wants

-- whether the first is greater at the first position at which they differ
abbrev pub is_greater : List Bool → List Bool → Bool
is_greater [] ys = false
is_greater (x ∷ xs) [] = false
is_greater (true ∷ xs) (true ∷ ys) = is_greater xs ys
is_greater (true ∷ xs) (false ∷ ys) = true
is_greater (false ∷ xs) (true ∷ ys) = false
is_greater (false ∷ xs) (false ∷ ys) = is_greater xs ys

-- whether the request is kept
abbrev pub is_kept : Verdict → Bool
is_kept Kept = true
is_kept (Unmet tree visits) = false
is_kept Spent = false

-- whether the budget was passed
abbrev pub is_spent : Verdict → Bool
is_spent Kept = false
is_spent (Unmet tree visits) = false
is_spent Spent = true

-- whether each request is kept, by position
abbrev pub kept_vector : List Judged → List Bool
kept_vector verdicts = map (λ j. is_kept j.verdict) verdicts

-- no request has passed the budget
abbrev pub never_spent : List Judged → Bool
never_spent verdicts = list_all (λ j. not (is_spent j.verdict)) verdicts
