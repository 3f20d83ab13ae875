-- The bytes of a room, from one place to another.
use Rattle.std.proofs.Common.{◌≡◌, ℕ, ◌+◌, ◌-◌, ◌≤◌, List, ◌++◌, length, take, drop, sym, ap, ◌∙◌, arith, length-drop, take-add}
use Rattle.std.specs.List.{copy_within}
use Rattle.std.proofs.lemmas.List.{drop-take, drop-drop, length-take-le}
use Rattle.std.proofs.lemmas.List.Edits.{take-paste}

-- those from one place to another
abbrev pub stored : List ℕ → ℕ → ℕ → List ℕ
stored bytes start end = take (end - start) (drop start bytes)

pub length-stored : (bytes : List ℕ) (start end : ℕ) → start ≤ end → end ≤ length bytes → length (stored bytes start end) ≡ end - start
length-stored bytes start end order within =
    length-take-le (end - start) (drop start bytes) (omega (arith, length-drop start bytes))

-- those behind the first n
pub drop-stored : (bytes : List ℕ) (start end n : ℕ) → start ≤ end → end ≤ length bytes → n ≤ length (stored bytes start end)
    → drop n (stored bytes start end) ≡ stored bytes (start + n) end
drop-stored bytes start end n order within some =
    let fits : start + n ≤ end = omega (arith, length-stored bytes start end order within) in
    let split : end - start ≡ n + (end - (start + n)) = omega arith in
    ap (λ m. drop n (take m (drop start bytes))) split
    ∙ drop-take n (end - (start + n)) (drop start bytes)
    ∙ ap (take (end - (start + n))) (drop-drop n start bytes)

-- what stands before `end` is the same, so the bytes are the same
pub stored_same : (now old new : List ℕ) (start end : ℕ) → stored old start end ≡ now → start ≤ end → take end new ≡ take end old
    → stored new start end ≡ now
stored_same now old new start end is order same =
    let split : start + (end - start) ≡ end = omega arith in
    sym (drop-take start (end - start) new) ∙ ap (λ m. drop start (take m new)) split
    ∙ ap (drop start) same
    ∙ (ap (λ m. drop start (take m old)) (sym split) ∙ drop-take start (end - start) old) ∙ is

-- those that were read stand behind
pub stored_more : (now old new : List ℕ) (start end n : ℕ) → stored old start end ≡ now → start ≤ end → take end new ≡ take end old
    → stored new start (end + n) ≡ now ++ take n (drop end new)
stored_more now old new start end n is order same =
    let split : end + n - start ≡ (end - start) + n = omega arith in
    let place : start + (end - start) ≡ end = omega arith in
    ap (λ m. take m (drop start new)) split
    ∙ take-add (end - start) n (drop start new)
    ∙ ap (λ l. l ++ take n (drop (end - start) (drop start new))) (stored_same now old new start end is order same)
    ∙ ap (λ l. now ++ take n l) (drop-drop (end - start) start new ∙ ap (λ m. drop m new) place)

-- they were moved to the front
pub stored_moved : (now old new : List ℕ) (start end : ℕ) → stored old start end ≡ now → start ≤ end → end ≤ length old
    → new ≡ copy_within old start end 0 → stored new 0 (end - start) ≡ now
stored_moved now old new start end is order within moved =
    let n = end - start in
    let fits : n ≤ length (drop start old) = omega (arith, length-drop start old) in
    let all : n - 0 ≡ 0 + n = omega arith in
    ap (λ m. take m new) all ∙ ap (take (0 + n)) moved ∙ take-paste old 0 (drop start old) n (omega arith) fits ∙ is
