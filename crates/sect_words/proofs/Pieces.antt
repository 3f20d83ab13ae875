-- Parts that were joined come apart again, and parts that came apart join again.
use Rattle.std.proofs.Common.{◌≡◌, ℕ, ◌==◌, false, List, [], ◌∷◌, ◌++◌, refl, ap, ◌∙◌, append-nil, arith, length}
use Rattle.std.specs.List.{join_with_byte, AllByRecursion}
use Rattle.std.proofs.lemmas.List.Splits.{slice_split_at, slice_split_none, length-slice_split, join_with_byte-slice_split}
use Rattle.std.proofs.lemmas.List.Elements.{All-from_recursion}
use Rattle.std.proofs.lemmas.Bool.{eq-eqb}
use Rattle.sect_words.specs.Parts.{joined, pieces}

-- the mark isn't in the text
abbrev pub Lacks : ℕ → List ℕ → Type 0
Lacks mark text = AllByRecursion (λ byte. (byte == mark) ≡ false) text

joined_is : (mark : ℕ) (part : List ℕ) (parts : List (List ℕ)) → joined mark (part ∷ parts) ≡ join_with_byte mark (part ∷ parts)
joined_is mark part [] = append-nil part
joined_is mark part (next ∷ parts) = ap (λ (bytes : List ℕ). part ++ (mark ∷ bytes)) (joined_is mark next parts)

same_joined : (mark : ℕ) (parts : List (List ℕ)) → joined mark parts ≡ join_with_byte mark parts
same_joined mark [] = refl
same_joined mark (part ∷ parts) = joined_is mark part parts

-- the parts of a text make it up
pub joined_pieces : (mark : ℕ) (text : List ℕ) → joined mark (pieces mark text) ≡ text
joined_pieces mark text = same_joined mark (pieces mark text) ∙ join_with_byte-slice_split mark text

-- the parts that a text was made of are its parts
pub pieces_joined : (mark : ℕ) (part : List ℕ) (parts : List (List ℕ)) → Lacks mark part → AllByRecursion (Lacks mark) parts → pieces mark (joined mark (part ∷ parts)) ≡ part ∷ parts
pieces_joined mark part [] lack each =
    ap (pieces mark) (append-nil part) ∙ slice_split_none (λ byte. byte == mark) part (All-from_recursion (λ byte. (byte == mark) ≡ false) part lack)
pieces_joined mark part (next ∷ parts) lack each =
    slice_split_at (λ byte. byte == mark) part mark (joined mark (next ∷ parts)) (All-from_recursion (λ byte. (byte == mark) ≡ false) part lack) (eq-eqb mark mark refl)
    ∙ ap (λ (ps : List (List ℕ)). part ∷ ps) (pieces_joined mark next parts each.0 each.1)

-- a text has a part
pub some_pieces : (mark : ℕ) (text : List ℕ) → pieces mark text ≡ [] → ⊥
some_pieces mark text none = absurd (omega (arith, length-slice_split (λ byte. byte == mark) text, ap length none))
