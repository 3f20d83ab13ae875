-- The first free time that a section meets.
use Rattle.std.specs.Prelude.{ℕ, ◌+◌, Bool, false, ◌&&◌, nat_lt, cond, List, [], ◌∷◌, Option, Some, None}
use Rattle.sect_people.specs.declared.row.Ask.TheVariants.{Course as asks_course, Free}
use Rattle.sect_base.specs.Pattern.{Pattern, lists_overlap}
use Rattle.sect_model.specs.Data.{Ask}

-- the section of these meetings meets at the time that the request keeps free
abbrev pub meets_free : List Pattern → Ask → Bool
meets_free meetings (asks_course ask) = false
meets_free meetings (Free pattern) = lists_overlap meetings (pattern ∷ [])

-- the position of the first free time before the rank that the meetings overlap, counted from a number
abbrev pub first_free : List Pattern → ℕ → ℕ → List Ask → Option ℕ
first_free meetings rank n [] = None
first_free meetings rank n (ask ∷ asks) = cond (nat_lt n rank && meets_free meetings ask) (Some n) (first_free meetings rank (n + 1) asks)
