-- The digits of a number's text are read one after the other.
use Rattle.std.proofs.Common.{◌≡◌, ℕ, zero, suc, ◌+◌, ◌-◌, ◌*◌, ◌<◌, ◌≤◌, ◌^◌, List, [], ◌∷◌, refl, sym, ◌∙◌, ap, subst, arith, rules, decimal, drop}
use Rattle.std.specs.Prelude.{get_or, length}
use Rattle.std.proofs.Math.Nat.{pow-suc}
use Rattle.std.proofs.lemmas.Fmt.{decimal-digits_value, decimal_digit, decimal_nonempty, digits_decimal, digits_value-decimal, first_decimal}
use Rattle.std.proofs.lemmas.Str.Parse.{IsNumeralModel, numerals_by_fold, tells_digits}
use Rattle.std.specs.Str.Parse.{AllDigits}

-- the number that digits make after the number so far
abbrev pub read_on : ℕ → List ℕ → ℕ
read_on number [] = number
read_on number (digit ∷ rest) = read_on (number * 10 + (digit - 48)) rest

-- reading on is the value of digits
pub reads : IsNumeralModel (AllDigits 10) (read_on 0)
reads = numerals_by_fold (AllDigits 10) tells_digits read_on (search rules)

-- what is read so far is never lost
pub grows : (number : ℕ) (digits : List ℕ) → number ≤ read_on number digits
grows number [] = omega arith
grows number (digit ∷ rest) = omega (arith, grows (number * 10 + (digit - 48)) rest)

-- so with the next digit
pub past : (number at : ℕ) (digits : List ℕ) → at < length digits → number * 10 + (get_or digits at 0 - 48) ≤ read_on number (drop at digits)
past number at [] within = absurd (omega (arith, within))
past number zero (digit ∷ rest) within = grows (number * 10 + (digit - 48)) rest
past number (suc at) (digit ∷ rest) within = past number at rest (omega (arith, within))

-- there is a first byte, and it is no zero before others
abbrev pub IsPlain : List ℕ → Type 0
IsPlain digits = (0 < length digits) × (get_or digits 0 0 ≡ 48 → length digits ≡ 1)

plain_decimal : (n : ℕ) → n < 2 ^ 64 → IsPlain (decimal n)
plain_decimal zero small = subst IsPlain (sym (decimal_digit 0 (omega arith))) ((omega arith), (λ _. refl))
plain_decimal (suc n) small =
    let more = first_decimal (suc n) (omega arith) small in
    (decimal_nonempty (suc n) small, (λ e. omega (arith, e, more)))

-- so it is in the text of a number
pub plain : (n : ℕ) (digits : List ℕ) → n < 2 ^ 64 → decimal n ≡ digits → IsPlain digits
plain n digits small is = subst IsPlain is (plain_decimal n small)

-- the text of a number has digits alone, which make it
pub made : (n : ℕ) (digits : List ℕ) → n < 2 ^ 64 → decimal n ≡ digits → AllDigits 10 digits × (read_on 0 digits ≡ n)
made n digits small is = subst (λ ds. AllDigits 10 ds × (read_on 0 ds ≡ n)) is (digits_decimal reads n small, digits_value-decimal reads n small)

-- plain digits are the text of the number that they make
pub printed : (n : ℕ) (digits : List ℕ) → IsPlain digits → AllDigits 10 digits → n ≡ read_on 0 digits → n < 2 ^ 64 → decimal n ≡ digits
printed n digits is_plain all is small =
    ap decimal is ∙ decimal-digits_value reads digits all is_plain.0 is_plain.1 (subst (λ m. m < 2 ^ 64) is small)

-- a power of ten is at most a later one
tens : (i more later : ℕ) → i + more ≡ later → 10 ^ i ≤ 10 ^ later
tens i zero later is = let same : i ≡ later = omega (arith, is) in subst (λ k. 10 ^ i ≤ 10 ^ k) same (omega arith)
tens i (suc more) later is =
    let same : suc (i + more) ≡ later = omega (arith, is) in
    let step : 10 ^ suc (i + more) ≡ 10 ^ (i + more) * 10 = pow-suc 10 (i + more) in
    let before = tens i more (i + more) refl in
    subst (λ k. 10 ^ i ≤ 10 ^ k) same (omega (arith, step, before))

-- a number of fewer than twenty digits has 64 bits
pub few : (i number : ℕ) → number < 10 ^ i → i < 20 → number < 2 ^ 64
few i number below short =
    let most : 10 ^ i ≤ 10 ^ 19 = tens i (19 - i) 19 (omega arith) in
    omega (arith, most, below)

-- so with a digit more
longer : (i number digit : ℕ) → number < 10 ^ i → digit ≤ 9 → number * 10 + digit < 10 ^ (i + 1)
longer i number digit below small =
    let same : suc i ≡ i + 1 = omega arith in
    let step : 10 ^ suc i ≡ 10 ^ i * 10 = pow-suc 10 i in
    subst (λ k. number * 10 + digit < 10 ^ k) same (omega (arith, step, below, small))

-- so the next digit has room
pub room : (i number digit : ℕ) → number < 10 ^ i → i < 19 → digit ≤ 9 → number * 10 + digit < 2 ^ 64
room i number digit below short small = few (i + 1) (number * 10 + digit) (longer i number digit below small) (omega (arith, short))
