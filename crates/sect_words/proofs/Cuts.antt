-- A text is cut at its first mark.
use Rattle.std.proofs.Common.{◌≡◌, ℕ, ◌==◌, ◌+◌, Bool, false, List, [], ◌∷◌, length, take, drop, None, Some, ap, sym, ◌∙◌, arith, nat_lt}
use Rattle.std.specs.Prelude.{position}
use Rattle.std.specs.List.{position_or_len}
use Rattle.std.proofs.lemmas.Bool.{ltb-true}
use Rattle.std.proofs.lemmas.Option.{cond_some}
use Rattle.std.proofs.lemmas.List.Sums.{fails_before_first}
use Rattle.std.proofs.lemmas.List.Splits.{slice_split_first, slice_split_none}
use Rattle.sect_catalog.proofs.RisingLemmas.{no_place}
use Rattle.sect_words.specs.Parts.{pieces, parts_left}
use Rattle.sect_words.specs.Reading.{first_part, later_parts}

-- the first mark ends the first part
pub pieces_some : (mark : ℕ) (text : List ℕ) (at : ℕ) → Some at ≡ position (λ byte. byte == mark) text → pieces mark text ≡ take at text ∷ pieces mark (drop (at + 1) text)
pieces_some mark text at e =
    let test = cond_some (nat_lt (position_or_len (λ byte. byte == mark) text) (length text)) (position_or_len (λ byte. byte == mark) text) at (sym e) in
    slice_split_first (λ byte. byte == mark) text 0 (ltb-true _ _ test.0)
    ∙ ap (λ (k : ℕ). take k text ∷ pieces mark (drop (k + 1) text)) test.1

-- a text without a mark is one part
pub pieces_none : (mark : ℕ) (text : List ℕ) → None ≡ position (λ byte. byte == mark) text → pieces mark text ≡ text ∷ []
pieces_none mark text e =
    slice_split_none (λ byte. byte == mark) text (λ k d m. fails_before_first (λ byte. byte == mark) text k d (omega (arith, no_place (λ byte. byte == mark) text (sym e), m)))

-- the first part that is left, where a mark ends it
pub first_some : (done : Bool) (mark : ℕ) (text : List ℕ) (at : ℕ) → done ≡ false → Some at ≡ position (λ byte. byte == mark) text → Some (take at text) ≡ first_part (parts_left done mark text)
first_some done mark text at more e = sym (ap (λ b. first_part (parts_left b mark text)) more ∙ ap first_part (pieces_some mark text at e))

-- the last part
pub first_all : (done : Bool) (mark : ℕ) (text : List ℕ) → done ≡ false → None ≡ position (λ byte. byte == mark) text → Some text ≡ first_part (parts_left done mark text)
first_all done mark text more e = sym (ap (λ b. first_part (parts_left b mark text)) more ∙ ap first_part (pieces_none mark text e))

-- what is left behind the first part
pub rest_some : (done : Bool) (mark : ℕ) (text rest : List ℕ) (at : ℕ) → done ≡ false → Some at ≡ position (λ byte. byte == mark) text → rest ≡ drop (at + 1) text
    → parts_left done mark rest ≡ later_parts (parts_left done mark text)
rest_some done mark text rest at more e is =
    ap (λ b. parts_left b mark rest) more ∙ ap (pieces mark) is ∙ sym (ap (λ b. later_parts (parts_left b mark text)) more ∙ ap later_parts (pieces_some mark text at e))

pub rest_none : (done : Bool) (mark : ℕ) (text : List ℕ) → done ≡ false → None ≡ position (λ byte. byte == mark) text → [] ≡ later_parts (parts_left done mark text)
rest_none done mark text more e = sym (ap (λ b. later_parts (parts_left b mark text)) more ∙ ap later_parts (pieces_none mark text e))
