-- Lines of a text, and where they leave the rows.
use Rattle.std.specs.Prelude.{ℕ, List, [], ◌∷◌, ◌++◌, ◌≡◌}
use Rattle.csv.specs.Machine.{line_feed}
use Rattle.csv.specs.Reading.{strip_bom}
use Rattle.sect_csv.specs.Rows.{at_start, place_after}

-- these bytes end in a line feed
abbrev pub AreLines : List ℕ → Type 0
AreLines bytes = (before : List ℕ) × (bytes ≡ before ++ (line_feed ∷ []))

-- nothing of a row is at hand behind these bytes
abbrev pub IsWhole : List ℕ → Type 0
IsWhole bytes = place_after at_start (strip_bom bytes) ≡ at_start
