-- The letters of weekdays.
use Rattle.std.specs.Prelude.{◌≡◌, ℕ, ◌+◌, ◌==◌, ◌<◌, ◌^◌, List, [], ◌∷◌, if◌then◌else◌}
use Rattle.sect_base.specs.Pattern.{has_bit}

-- M T W R F S U, from Monday to Sunday
abbrev pub WEEKDAY_LETTERS : List ℕ
WEEKDAY_LETTERS = 77 ∷ 84 ∷ 87 ∷ 82 ∷ 70 ∷ 83 ∷ 85 ∷ []

-- those of the letters whose weekdays are in the set, where the first letter is of weekday `day`
abbrev pub letters_of : ℕ → ℕ → List ℕ → List ℕ
letters_of days day [] = []
letters_of days day (letter ∷ more) = (if has_bit days day then letter ∷ letters_of days (day + 1) more else letters_of days (day + 1) more)

-- the letters of the set's weekdays
unfoldable pub days_text : ℕ → List ℕ
days_text days = letters_of days 0 WEEKDAY_LETTERS

-- the weekday of the letter as a set, or no weekday
abbrev pub weekday_of : ℕ → ℕ
weekday_of letter =
    (if letter == 77 then 1 else
    (if letter == 84 then 2 else
    (if letter == 87 then 4 else
    (if letter == 82 then 8 else
    (if letter == 70 then 16 else (if letter == 83 then 32 else (if letter == 85 then 64 else 0)))))))

-- the text says these weekdays, which are at least one
pub record IsDaysText (text : List ℕ) (days : ℕ) : Type 0 where
  pub some_day : 0 < days
  pub weekdays : days < 2 ^ 7
  pub is_text : text ≡ days_text days
