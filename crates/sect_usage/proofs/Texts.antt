-- The values of options are texts where the words are.
use Rattle.std.proofs.Common.{◌≡◌, ◌==◌, ◌+◌, ◌-◌, ◌<◌, ℕ, Bool, List, Some, length, take, drop, get_or, nat_lt, sym, subst, arith}
use Rattle.std.specs.List.{position_or_len}
use Rattle.std.proofs.lemmas.Bool.{eqb-true, ltb-true}
use Rattle.std.proofs.lemmas.List.{take_rest}
use Rattle.std.proofs.lemmas.List.Sums.{passes_at_first}
use Rattle.std.proofs.lemmas.Option.{cond_some}
use Rattle.std.proofs.lemmas.Str.{IsCharBoundary-after_ascii, IsUtf8-drop}
use Rattle.std.specs.Str.{IsUtf8}
use Rattle.sect_usage.specs.Items.{equals_at}

-- what stands behind a first dash is a text
pub behind_dash : (word : List ℕ) → IsUtf8 word → 0 < length word → get_or word 0 0 ≡ 45 → IsUtf8 (take (length word - 1) (drop 1 word))
behind_dash word u some e =
    let low : get_or word 0 0 < 128 = omega (arith, e) in
    subst (λ (bs : List ℕ). IsUtf8 bs) (sym (take_rest word 1)) (IsUtf8-drop word 1 u (IsCharBoundary-after_ascii word 0 u some low))

-- what stands behind the first `=` is a text
pub behind_equals : (text : List ℕ) (at : ℕ) → IsUtf8 text → Some at ≡ equals_at text → IsUtf8 (take (length text - (at + 1)) (drop (at + 1) text))
behind_equals text at u e =
    let p : ℕ → Bool = λ byte. byte == 61 in
    let test = cond_some (nat_lt (position_or_len p text) (length text)) (position_or_len p text) at (sym e) in
    let within : position_or_len p text < length text = ltb-true _ _ test.0 in
    let is : get_or text (position_or_len p text) 0 ≡ 61 = eqb-true _ _ (passes_at_first p text 0 within) in
    let low : get_or text (position_or_len p text) 0 < 128 = omega (arith, is) in
    let rest = subst (λ (k : ℕ). IsUtf8 (drop (k + 1) text)) test.1 (IsUtf8-drop text (position_or_len p text + 1) u (IsCharBoundary-after_ascii text (position_or_len p text) u within low)) in
    subst (λ (bs : List ℕ). IsUtf8 bs) (sym (take_rest text (at + 1))) rest
