-- A comment that is cut.
use Rattle.std.proofs.Common.{◌≡◌, ℕ, suc, ◌+◌, ◌-◌, ◌≤◌, List, [], ◌∷◌, ◌++◌, length, length-append, take, take_all, append_assoc, ap, sym, ◌∙◌, arith}

-- a front of so many more elements
take_behind : (before more : List ℕ) (n : ℕ) → take (length before + n) (before ++ more) ≡ before ++ take n more
take_behind [] more n = ap (λ (k : ℕ). take k more) {x = 0 + n} {y = n} (omega arith)
take_behind (x ∷ before) more n =
    ap (λ (k : ℕ). take k (x ∷ (before ++ more))) {x = length (x ∷ before) + n} {y = suc (length before + n)} (omega arith)
    ∙ ap (λ (l : List ℕ). x ∷ l) (take_behind before more n)

-- what stands behind the start was longer
pub cut_long : (before comment old new : List ℕ) (start n : ℕ) → new ≡ take (start + n) old → old ≡ before ++ comment → start ≡ length before → new ≡ before ++ take n comment
cut_long before comment old new start n cut is at =
    cut ∙ ap (λ (l : List ℕ). take (start + n) l) is ∙ ap (λ (k : ℕ). take (k + n) (before ++ comment)) at ∙ take_behind before comment n

-- what stands behind the start is no longer
pub cut_short : (before comment old : List ℕ) (n start long : ℕ) → old ≡ before ++ comment → start ≡ length before → long ≡ length old → long - start ≤ n → old ≡ before ++ take n comment
cut_short before comment old n start long is at whole few =
    let count : length old ≡ length before + length comment = ap length is ∙ length-append before comment in
    let short : length comment ≤ n = omega (arith, count, at, whole, few) in
    is ∙ ap (λ (l : List ℕ). before ++ l) (sym (take_all n comment short))

-- ---- a request

regroup : (old a b c d : List ℕ) → (((((old ++ a) ++ b) ++ c) ++ 32 ∷ []) ++ d) ++ 10 ∷ [] ≡ old ++ ((a ++ (b ++ (c ++ 32 ∷ d))) ++ 10 ∷ [])
regroup old a b c d = simp append_assoc

-- words one behind another, a space, a text and a line feed
pub put_request : (old a b c d tail m1 m2 m3 m4 m5 m6 : List ℕ) → m1 ≡ old ++ a → m2 ≡ m1 ++ b → m3 ≡ m2 ++ c → m4 ≡ m3 ++ 32 ∷ [] → m5 ≡ m4 ++ d → m6 ≡ m5 ++ 10 ∷ [] → 32 ∷ d ≡ tail
    → m6 ≡ old ++ ((a ++ (b ++ (c ++ tail))) ++ 10 ∷ [])
put_request old a b c d tail m1 m2 m3 m4 m5 m6 e1 e2 e3 e4 e5 e6 same =
    let whole : m6 ≡ (((((old ++ a) ++ b) ++ c) ++ 32 ∷ []) ++ d) ++ 10 ∷ [] =
    e6 ∙ ap (λ (l : List ℕ). l ++ 10 ∷ []) (e5 ∙ ap (λ (l : List ℕ). l ++ d) (e4 ∙ ap (λ (l : List ℕ). l ++ 32 ∷ []) (e3 ∙ ap (λ (l : List ℕ). l ++ c) (e2 ∙ ap (λ (l : List ℕ). l ++ b) e1)))) in
    whole ∙ regroup old a b c d ∙ ap (λ (t : List ℕ). old ++ ((a ++ (b ++ (c ++ t))) ++ 10 ∷ [])) same
