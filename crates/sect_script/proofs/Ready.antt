-- The bytes of a piece that stand ready.
use Rattle.std.proofs.Common.{◌≡◌, ℕ, suc, ◌+◌, ◌-◌, ◌<◌, ◌≤◌, List, [], ◌∷◌, ◌++◌, length, get_or, take, drop, sym, ap, ◌∙◌, arith, add-one, drop-cons, length-take, length-drop, take-append-drop}
use Rattle.std.specs.Prelude.{true}
use Rattle.std.proofs.lemmas.List.{drop-take, drop-drop, length-take-le, nil_from_length}
use Rattle.sect_script.specs.Lines.{IsOneLine}
use Rattle.sect_script.specs.Reading.{Moves}

-- those from one place of the piece to another
abbrev pub ready : List ℕ → ℕ → ℕ → List ℕ
ready piece start end = take (end - start) (drop start piece)

pub length-ready : (piece : List ℕ) (start end : ℕ) → start ≤ end → end ≤ length piece → length (ready piece start end) ≡ end - start
length-ready piece start end order within =
    length-take-le (end - start) (drop start piece) (omega (arith, length-drop start piece))

-- those behind the first n
pub drop-ready : (piece : List ℕ) (start end n : ℕ) → start + n ≤ end → drop n (ready piece start end) ≡ ready piece (start + n) end
drop-ready piece start end n order =
    let split : end - start ≡ n + (end - (start + n)) = omega arith in
    ap (λ m. drop n (take m (drop start piece))) split
    ∙ drop-take n (end - (start + n)) (drop start piece)
    ∙ ap (take (end - (start + n))) (drop-drop n start piece)

-- they are split at one of them
pub split_at : (bytes : List ℕ) (at : ℕ) → at < length bytes → get_or bytes at 0 ≡ 10 → bytes ≡ take at bytes ++ 10 ∷ drop (at + 1) bytes
split_at bytes at within is =
    sym (take-append-drop at bytes)
    ∙ ap (λ rest. take at bytes ++ rest) (drop-cons bytes at 0 within ∙ ap (λ b. b ∷ drop (suc at) bytes) is ∙ ap (λ n. 10 ∷ drop n bytes) (sym (add-one at)))

-- none stand ready exactly where the places are one
pub ready-nil : (piece : List ℕ) (start end : ℕ) → start ≡ end → ready piece start end ≡ []
ready-nil piece start end same = nil_from_length (ready piece start end) (omega (arith, length-take (end - start) (drop start piece)))

-- what stands before a line feed goes behind the line
pub moves_before : (now piece : List ℕ) (start end at : ℕ) (line longer : List ℕ) → now ≡ piece
    → at < length (ready now start end) → get_or (ready now start end) at 0 ≡ 10 → IsOneLine (take at (ready now start end))
    → start ≤ end → end ≤ length piece → longer ≡ line ++ take at (ready now start end)
    → Moves true (ready piece start end) (ready piece (start + (at + 1)) end) line longer
moves_before now piece start end at line longer same within is before order inside moved =
    let len : at < end - start = omega (arith, length-take (end - start) (drop start now)) in (
      take at (ready now start end),
      before,
      ap (λ p. ready p start end) (sym same)
          ∙ split_at (ready now start end) at within is
          ∙ ap (λ rest. take at (ready now start end) ++ 10 ∷ rest)
          (drop-ready now start end (at + 1) (omega arith) ∙ ap (λ p. ready p (start + (at + 1)) end) same),
      moved,
    )
