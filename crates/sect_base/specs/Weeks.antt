-- The weeks of a term, from 0.
use Rattle.std.specs.Prelude.{◌<◌, ◌≤◌, ℕ, ◌+◌, ◌-◌, ◌*◌, ◌^◌}

-- the day is one of the week's seven
abbrev pub IsInWeek : ℕ → ℕ → ℕ → Type 0
IsInWeek term week day = (term + 7 * week ≤ day) × (day < term + 7 * week + 7)

-- one of the days from the first to the last is in the week
abbrev pub MeetsWeek : ℕ → ℕ → ℕ → ℕ → Type 0
MeetsWeek term first last week = (day : ℕ) × (first ≤ day) × (day ≤ last) × IsInWeek term week day

-- the days come in order and lie within sixty weeks
pub record AreDaysOfTerm (term first last : ℕ) : Type 0 where
  pub begun : term ≤ first
  pub order : first ≤ last
  pub within : last ≤ term + 419

-- the set of the weeks from the first to the last
abbrev pub week_range : ℕ → ℕ → ℕ
week_range first last = 2 ^ (last + 1) - 2 ^ first
