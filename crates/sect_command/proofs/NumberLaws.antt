-- What is read as a number is spelled so, and what is spelled so is read.
use Rattle.std.proofs.Common.{◌≡◌, ◌≢◌, ◌==◌, ℕ, zero, suc, ◌+◌, ◌-◌, ◌*◌, ◌/◌, ◌%◌, ◌^◌, ◌<◌, ◌≤◌, Bool, true, false, List, [], ◌∷◌, ◌++◌, Option, None, Some, refl, ap, sym, ◌∙◌, arith, append_assoc, nat_lt, decimal}
use Rattle.std.specs.Bool.{if◌then◌else◌}
use Rattle.std.specs.Char.{is_ascii_digit}
use Rattle.std.proofs.Math.Logic.{◌⊎◌, inl, inr}
use Rattle.std.proofs.lemmas.Bool.Decides.{nat_tests}
use Rattle.std.proofs.lemmas.Fmt.{decimal_digit, decimal_step, decimal_by_steps}
use Rattle.sect_command.specs.Reading.{digits_after, begins_with_digit, number_in}

-- which way a choice went
pub chosen : {A : Type 0} (b : Bool) (x y z : A) → (if b then x else y) ≡ z → ((b ≡ true) × (x ≡ z)) ⊎ ((b ≡ false) × (y ≡ z))
chosen true x y z e = inl (refl, e)
chosen false x y z e = inr (refl, e)

pub digit_range : (b : ℕ) → is_ascii_digit b ≡ true → (48 ≤ b) × (b ≤ 57)
digit_range b e = (grind (arith, nat_tests), grind (arith, nat_tests))

pub digit_test : (b : ℕ) → 48 ≤ b → b ≤ 57 → is_ascii_digit b ≡ true
digit_test b low high = grind (arith, nat_tests)

pub same_number : (a b : ℕ) → (a == b) ≡ true → a ≡ b
same_number a b e = grind (arith, nat_tests)

pub other_number : (a b : ℕ) → (a == b) ≡ false → a ≢ b
other_number a b e = grind (arith, nat_tests)

below_test : (a b : ℕ) → nat_lt a b ≡ true → a < b
below_test a b e = grind (arith, nat_tests)

test_below : (a b : ℕ) → a < b → nat_lt a b ≡ true
test_below a b h = grind (arith, nat_tests)

-- the last digit of a number stands behind those of its tenth
last_digit : (n b : ℕ) → 0 < n → n * 10 + (b - 48) < 2 ^ 32 → 48 ≤ b → b ≤ 57 → decimal (n * 10 + (b - 48)) ≡ decimal n ++ b ∷ []
last_digit n b pos fits low high =
    let q : (n * 10 + (b - 48)) / 10 ≡ n = omega arith in
    let r : 48 + (n * 10 + (b - 48)) % 10 ≡ b = omega arith in
    decimal_step (n * 10 + (b - 48)) (omega arith) (omega arith) ∙ (λ i. decimal (q i) ++ r i ∷ [])

-- this is read, with this rest
abbrev pub Reads : {A : Type 0} → Option (A × List ℕ) → A → List ℕ → Type 0
Reads read x rest = read ≡ Some (x, rest)

abbrev read_or : {A : Type 0} → A → Option (A × List ℕ) → A
read_or x None = x
read_or x (Some p) = p.0

abbrev rest_of : {A : Type 0} → Option (A × List ℕ) → List ℕ
rest_of None = []
rest_of (Some p) = p.1

pub same_read : {A : Type 0} (x : A) (xs : List ℕ) (y : A) (ys : List ℕ) → Reads (Some (x, xs)) y ys → x ≡ y
same_read x xs y ys e = ap (read_or x) e

pub same_rest : {A : Type 0} (x : A) (xs : List ℕ) (y : A) (ys : List ℕ) → Reads (Some (x, xs)) y ys → xs ≡ ys
same_rest x xs y ys e = ap rest_of e

-- what is found behind more digits
abbrev IsFound : ℕ → List ℕ → ℕ → List ℕ → Type 0
IsFound n bs m rest = (decimal n ++ bs ≡ decimal m ++ rest) × (m < 2 ^ 32)

found_end : (n : ℕ) (bs : List ℕ) (m : ℕ) (rest : List ℕ) → n < 2 ^ 32 → Reads (Some (n, bs)) m rest → IsFound n bs m rest
found_end n bs m rest fits e =
    let same = same_read n bs m rest e in
    let behind = same_rest n bs m rest e in
    ((λ i. decimal (same i) ++ behind i), omega arith)

found_more : (n b : ℕ) (bs : List ℕ) (m : ℕ) (rest : List ℕ) → 0 < n → n < 2 ^ 32
    → ((k : ℕ) → 0 < k → k < 2 ^ 32 → digits_after k bs ≡ Some (m, rest) → IsFound k bs m rest)
    → is_ascii_digit b ≡ true
    → ((nat_lt (n * 10 + (b - 48)) (2 ^ 32) ≡ true) × (digits_after (n * 10 + (b - 48)) bs ≡ Some (m, rest))) ⊎ ((nat_lt (n * 10 + (b - 48)) (2 ^ 32) ≡ false) × Reads None m rest)
    → IsFound n (b ∷ bs) m rest
found_more n b bs m rest pos fits later d (inl p) =
    let range = digit_range b d in
    let fits2 : n * 10 + (b - 48) < 2 ^ 32 = below_test _ _ p.0 in
    let found = later (n * 10 + (b - 48)) (omega arith) fits2 p.1 in
    let digit = last_digit n b pos fits2 range.0 range.1 in
    (sym (append_assoc (decimal n) (b ∷ []) bs) ∙ ap (λ (ds : List ℕ). ds ++ bs) (sym digit) ∙ found.0, found.1)
found_more n b bs m rest pos fits later d (inr p) = absurd (cc)

found_by : (n b : ℕ) (bs : List ℕ) (m : ℕ) (rest : List ℕ) → 0 < n → n < 2 ^ 32
    → ((k : ℕ) → 0 < k → k < 2 ^ 32 → digits_after k bs ≡ Some (m, rest) → IsFound k bs m rest)
    → ((is_ascii_digit b ≡ true) × ((if nat_lt (n * 10 + (b - 48)) (2 ^ 32) then digits_after (n * 10 + (b - 48)) bs else None) ≡ Some (m, rest))) ⊎ ((is_ascii_digit b ≡ false) × Reads (Some (n, b ∷ bs)) m rest)
    → IsFound n (b ∷ bs) m rest
found_by n b bs m rest pos fits later (inl p) = found_more n b bs m rest pos fits later p.0 (chosen (nat_lt (n * 10 + (b - 48)) (2 ^ 32)) (digits_after (n * 10 + (b - 48)) bs) None (Some (m, rest)) p.1)
found_by n b bs m rest pos fits later (inr p) = found_end n (b ∷ bs) m rest fits p.1

found_digits : (n : ℕ) (bs : List ℕ) (m : ℕ) (rest : List ℕ) → 0 < n → n < 2 ^ 32 → digits_after n bs ≡ Some (m, rest) → IsFound n bs m rest
found_digits n [] m rest pos fits e = found_end n [] m rest fits e
found_digits n (b ∷ bs) m rest pos fits e =
    found_by n b bs m rest pos fits (λ k p f q. found_digits k bs m rest p f q)
    (chosen (is_ascii_digit b) (if nat_lt (n * 10 + (b - 48)) (2 ^ 32) then digits_after (n * 10 + (b - 48)) bs else None) (Some (n, b ∷ bs)) (Some (m, rest)) e)

found_zero : (bs : List ℕ) (n : ℕ) (rest : List ℕ) → ((begins_with_digit bs ≡ true) × Reads None n rest) ⊎ ((begins_with_digit bs ≡ false) × Reads (Some (0, bs)) n rest) → (48 ∷ bs ≡ decimal n ++ rest) × (n < 2 ^ 32)
found_zero bs n rest (inl p) = absurd (cc)
found_zero bs n rest (inr p) =
    let found = found_end 0 bs n rest (omega arith) p.1 in
    (ap (λ (ds : List ℕ). ds ++ bs) (sym (decimal_digit 0 (omega arith))) ∙ found.0, found.1)

found_first : (b : ℕ) (bs : List ℕ) (n : ℕ) (rest : List ℕ) → b ≢ 48 → ((is_ascii_digit b ≡ true) × (digits_after (b - 48) bs ≡ Some (n, rest))) ⊎ ((is_ascii_digit b ≡ false) × Reads None n rest) → (b ∷ bs ≡ decimal n ++ rest) × (n < 2 ^ 32)
found_first b bs n rest other (inl p) =
    let range = digit_range b p.0 in
    let found = found_digits (b - 48) bs n rest (omega arith) (omega arith) p.1 in
    let same : 48 + (b - 48) ≡ b = omega arith in
    (ap (λ (c : ℕ). c ∷ bs) (sym same) ∙ ap (λ (ds : List ℕ). ds ++ bs) (sym (decimal_digit (b - 48) (omega arith))) ∙ found.0, found.1)
found_first b bs n rest other (inr p) = absurd (cc)

found_in : (b : ℕ) (bs : List ℕ) (n : ℕ) (rest : List ℕ)
    → (((b == 48) ≡ true) × Reads (if begins_with_digit bs then None else Some (0, bs)) n rest) ⊎ (((b == 48) ≡ false) × Reads (if is_ascii_digit b then digits_after (b - 48) bs else None) n rest)
    → (b ∷ bs ≡ decimal n ++ rest) × (n < 2 ^ 32)
found_in b bs n rest (inl p) =
    let found = found_zero bs n rest (chosen (begins_with_digit bs) None (Some (0, bs)) (Some (n, rest)) p.1) in
    (ap (λ (c : ℕ). c ∷ bs) (same_number b 48 p.0) ∙ found.0, found.1)
found_in b bs n rest (inr p) = found_first b bs n rest (other_number b 48 p.0) (chosen (is_ascii_digit b) (digits_after (b - 48) bs) None (Some (n, rest)) p.1)

-- what is read as a number is spelled so
pub found_number : (text : List ℕ) (n : ℕ) (rest : List ℕ) → number_in text ≡ Some (n, rest) → (text ≡ decimal n ++ rest) × (n < 2 ^ 32)
found_number [] n rest e = absurd (cc)
found_number (b ∷ bs) n rest e =
    found_in b bs n rest (chosen (b == 48) (if begins_with_digit bs then None else Some (0, bs)) (if is_ascii_digit b then digits_after (b - 48) bs else None) (Some (n, rest)) e)

-- behind a number that no digit follows there is none
digits_end : (n : ℕ) (rest : List ℕ) → begins_with_digit rest ≡ false → digits_after n rest ≡ Some (n, rest)
digits_end n [] e = refl
digits_end n (b ∷ bs) e = rw e refl

-- reading begins with these digits of the number
abbrev BeginsWith : ℕ → List ℕ → Type 0
BeginsWith n ds = (rest : List ℕ) → 0 < n → n < 2 ^ 32 → number_in (ds ++ rest) ≡ digits_after n rest

first_digit : (n : ℕ) → n < 10 → BeginsWith n ((48 + n) ∷ [])
first_digit n small rest pos fits =
    let other : ((48 + n) == 48) ≡ false = grind (arith, nat_tests) in
    let digit : is_ascii_digit (48 + n) ≡ true = digit_test (48 + n) (omega arith) (omega arith) in
    let same : (48 + n) - 48 ≡ n = omega arith in
    rw (other, digit, same) refl

more_digits : (n : ℕ) (ds : List ℕ) → 10 ≤ n → BeginsWith (n / 10) ds → BeginsWith n (ds ++ ((48 + n % 10) ∷ []))
more_digits n ds big before rest pos fits =
    let digit : is_ascii_digit (48 + n % 10) ≡ true = digit_test (48 + n % 10) (omega arith) (omega arith) in
    let same : n / 10 * 10 + ((48 + n % 10) - 48) ≡ n = omega arith in
    let small : nat_lt n (2 ^ 32) ≡ true = test_below n (2 ^ 32) fits in
    let step : digits_after (n / 10) ((48 + n % 10) ∷ rest) ≡ digits_after n rest = rw (digit, same, small) refl in
    ap number_in (append_assoc ds ((48 + n % 10) ∷ []) rest) ∙ before ((48 + n % 10) ∷ rest) (omega arith) (omega arith) ∙ step

again_positive : (n : ℕ) (rest : List ℕ) → 0 < n → n < 2 ^ 32 → begins_with_digit rest ≡ false → number_in (decimal n ++ rest) ≡ Some (n, rest)
again_positive n rest pos fits e = decimal_by_steps BeginsWith first_digit more_digits n (omega arith) rest pos fits ∙ digits_end n rest e

-- what is spelled as a number is read so
pub again_number : (n : ℕ) (rest : List ℕ) → n < 2 ^ 32 → begins_with_digit rest ≡ false → number_in (decimal n ++ rest) ≡ Some (n, rest)
again_number zero rest fits e = ap (λ (ds : List ℕ). number_in (ds ++ rest)) (decimal_digit 0 (omega arith)) ∙ (rw e refl)
again_number (suc n) rest fits e = again_positive (suc n) rest (omega arith) fits e
