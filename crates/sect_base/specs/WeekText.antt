-- The text of a set of weeks.
use Rattle.std.specs.Prelude.{◌≡◌, ℕ, suc, zero, ◌+◌, ◌^◌, ◌<◌, ◌≤◌, ◌==◌, Bool, true, false, List, [], ◌∷◌, ◌++◌, map, if◌then◌else◌}
use Rattle.std.specs.List.{join_with_byte}
use Rattle.sect_base.specs.Digits.{short_digits}
use Rattle.sect_base.specs.Pattern.{has_bit}

-- weeks in a row, where 0 is week 1
pub record Run : Type 0 where
  pub first : ℕ
  pub last : ℕ

-- runs with a week put in front: it joins the first where it touches it
abbrev pub with_week : ℕ → List Run → List Run
with_week week [] = record { first = week; last = week } ∷ []
with_week week (run ∷ more) =
    (if run.first == week + 1 then record { first = week; last = run.last } ∷ more else record { first = week; last = week } ∷ run ∷ more)

-- the maximal runs in rising order among the `left` weeks from `week` on
unfoldable pub runs_from : ℕ → ℕ → ℕ → List Run
runs_from weeks week zero = []
runs_from weeks week (suc left) = (if has_bit weeks week then with_week week (runs_from weeks (week + 1) left) else runs_from weeks (week + 1) left)

-- the number of the week where it stands alone, and else the first and the last
abbrev pub run_text : Run → List ℕ
run_text run =
    (if run.first == run.last then short_digits (run.first + 1) else short_digits (run.first + 1) ++ 45 ∷ short_digits (run.last + 1))

-- the maximal runs of the set in rising order, joined by dots
unfoldable pub weeks_text : ℕ → List ℕ
weeks_text weeks = join_with_byte 46 (map run_text (runs_from weeks 0 60))

-- the text says these weeks, which are at least one
pub record IsWeeksText (text : List ℕ) (weeks : ℕ) : Type 0 where
  pub some_week : 0 < weeks
  pub sixty_weeks : weeks < 2 ^ 60
  pub is_text : text ≡ weeks_text weeks

-- the first week of the set from this one on
pub record IsFirstFrom (weeks from first : ℕ) : Type 0 where
  pub begins : from ≤ first
  pub is_in : has_bit weeks first ≡ true
  pub skipped : (week : ℕ) → from ≤ week → week < first → has_bit weeks week ≡ false

-- the last week of the run of the set that begins with this one
pub record IsLastFrom (weeks first last : ℕ) : Type 0 where
  pub order : first ≤ last
  pub ends : last < 60
  pub within : (week : ℕ) → first ≤ week → week ≤ last → has_bit weeks week ≡ true
  pub after : has_bit weeks (last + 1) ≡ false

-- the run, after a dot unless it is the first that is printed
abbrev pub next_run_text : Bool → Run → List ℕ
next_run_text starts run = (if starts then run_text run else 46 ∷ run_text run)
