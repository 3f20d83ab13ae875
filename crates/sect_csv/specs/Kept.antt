-- What the bytes that are kept say of the whole text.
use Rattle.std.specs.Prelude.{ℕ, List, ◌++◌, ◌≡◌}
use Rattle.sect_csv.specs.Rows.{shown_rows, all_rows}

-- whatever follows, the rows of the text are some that are gone by, and then the rows of the bytes that are kept
abbrev pub StandsFor : List ℕ → List ℕ → Type 0
StandsFor text kept = (gone : List (List (List ℕ))) × ((more : List ℕ) →
    (shown_rows (text ++ more) ≡ gone ++ shown_rows (kept ++ more)) × (all_rows (text ++ more) ≡ gone ++ all_rows (kept ++ more)))
