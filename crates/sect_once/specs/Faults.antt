-- How many faults a log may have noted.
use Rattle.std.specs.Prelude.{ℕ, ◌+◌, ◌-◌, ◌≤◌, ◌^◌, min}

-- no more were noted than the count rose since the base, or the count stands at the end of its type
abbrev pub AtMostFaults : ℕ → ℕ → ℕ → Type 0
AtMostFaults noted base count = min (base + noted) (2 ^ 64 - 1) ≤ count
