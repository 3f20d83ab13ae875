-- Texts one behind another.
use Rattle.std.specs.Prelude.{◌≡◌, ℕ, ◌-◌, ◌≤◌, List, [], ◌∷◌, take, drop}

-- texts, how many there is room for, and the room for more bytes
pub record Shelf : Type 0 where
  pub texts : List (List ℕ)
  pub capacity : ℕ
  pub spare : ℕ

-- the texts of bytes that begin at a place, each with the place behind its last byte
abbrev pub cut : ℕ → List ℕ → List ℕ → List (List ℕ)
cut at bytes [] = []
cut at bytes (end ∷ ends) = take (end - at) bytes ∷ cut end (drop (end - at) bytes) ends

-- the places rise from the first on, and nothing stands behind the last
abbrev pub AreEnds : ℕ → ℕ → List ℕ → Type 0
AreEnds at last [] = at ≡ last
AreEnds at last (end ∷ ends) = (at ≤ end) × AreEnds end last ends
