-- Texts in parts: words between single spaces, and the parts of a word between its marks.
use Rattle.std.specs.Prelude.{ℕ, ◌==◌, Bool, true, false, List, [], ◌∷◌, ◌++◌, flat_map}
use Rattle.std.specs.List.{slice_split}

-- each part behind the mark
abbrev pub behind : ℕ → List (List ℕ) → List ℕ
behind mark parts = flat_map (λ part. mark ∷ part) parts

-- the parts in a row, with the mark between each two
abbrev pub joined : ℕ → List (List ℕ) → List ℕ
joined mark [] = []
joined mark (part ∷ parts) = part ++ behind mark parts

-- the words behind each other, with single spaces between them
abbrev pub sentence : List (List ℕ) → List ℕ
sentence words = joined 32 words

-- the parts between the marks of a text
abbrev pub pieces : ℕ → List ℕ → List (List ℕ)
pieces mark text = slice_split (λ byte. byte == mark) text

-- what is left of a text in parts: the parts, or none where the last was taken
abbrev pub parts_left : Bool → ℕ → List ℕ → List (List ℕ)
parts_left true mark text = []
parts_left false mark text = pieces mark text
