-- The number whose text it is.
use Rattle.std.proofs.Common.{◌≡◌, ℕ, ◌+◌, ◌<◌, ◌≤◌, ◌^◌, List, Option, None, Some, refl, ap, sym, ◌∙◌, subst, arith, decimal}
use Rattle.std.specs.Prelude.{if◌then◌else◌}
use Rattle.std.specs.Str.{bytes_eq}
use Rattle.std.specs.Option.{option_map}
use Rattle.std.proofs.lemmas.Fmt.{decimal_injective}
use Rattle.std.proofs.lemmas.Option.{cond_some}
use Rattle.sect_words.proofs.DayLaws.{found_at, some_found}
use Rattle.sect_words.specs.Reading.{number_if, number_with}
use Rattle.sect_words.specs.ReadingWords.{number_of}
use Rattle.sect_words.proofs.Exact.{Exact, same_word, word_same}

-- no two numbers below the bound have one text
abbrev pub Apart : (ℕ → List ℕ) → ℕ → Type 0
Apart text bound = (m n : ℕ) → m < bound → n < bound → text m ≡ text n → m ≡ n

number_found : (text : ℕ → List ℕ) (bound : ℕ) (word : List ℕ) (n : ℕ) → number_with text bound word ≡ Some n → (n < bound) × (word ≡ text n)
number_found text bound word n e =
    let found = found_at (number_if text word) bound n e in
    let test = cond_some (bytes_eq (text found.0) word) found.0 n found.2 in
    let below : n < bound = omega (arith, found.1, test.1) in
    (below, sym (same_word (text found.0) word test.0) ∙ ap text test.1)

number_again : (text : ℕ → List ℕ) (bound : ℕ) → Apart text bound → (n : ℕ) → n < bound → number_with text bound (text n) ≡ Some n
number_again text bound apart n below =
    let hit : number_if text (text n) n ≡ Some n = ap (λ b. if b then Some n else None) (word_same (text n) (text n) refl) in
    let found = some_found (number_if text (text n)) bound n n below hit in
    let is = number_found text bound (text n) found.0 found.1 in
    found.1 ∙ ap Some (sym (apart n found.0 below is.0 is.1))

-- the number of a text is read exactly
pub exact_number : (text : ℕ → List ℕ) (bound : ℕ) → Apart text bound → Exact (number_with text bound) text (λ n. n < bound)
exact_number text bound apart = record { found = number_found text bound; again = number_again text bound apart }

-- a reader of one value gives another, which stands for it
pub exact_map : {X Y : Type 0} {of : List ℕ → Option X} {text : X → List ℕ} {Fits : X → Type 0} (make : X → Y) (take : Y → X) → Exact of text Fits
    → ((x : X) → take (make x) ≡ x) → ((y : Y) → make (take y) ≡ y)
    → Exact (λ w. option_map make (of w)) (λ y. text (take y)) (λ y. Fits (take y))
exact_map {X = X} {Y = Y} {of = of} {text = text} {Fits = Fits} make take exact back forth = record {
  found = λ w y e. by w y (of w) refl e;
  again = λ y fits. ap (option_map make) (exact.again (take y) fits) ∙ ap Some (forth y);
}
  where
    by : (w : List ℕ) (y : Y) (o : Option X) → of w ≡ o → option_map make o ≡ Some y → Fits (take y) × (w ≡ text (take y))
    by w y None is e = absurd (cc)
    by w y (Some x) is e =
        let p = exact.found w x is in
        let made : make x ≡ y = cc in
        let same : x ≡ take y = sym (back x) ∙ ap take made in
        (subst Fits same p.0, p.1 ∙ ap text same)

decimal_apart : (bound : ℕ) → bound ≤ 2 ^ 64 → Apart decimal bound
decimal_apart bound small m n a b same = decimal_injective m n (omega (arith, a, small)) (omega (arith, b, small)) same

-- a number of at most `most` is read exactly
pub exact_upto : (most : ℕ) → most < 2 ^ 64 → Exact (number_of most) decimal (λ n. n ≤ most)
unfolding number_of
exact_upto most small =
    let exact = exact_number decimal (most + 1) (decimal_apart (most + 1) (omega (arith, small))) in
    record {
      found = λ word n e. let p = exact.found word n e in (omega (arith, p.0), p.1);
      again = λ n fits. exact.again n (omega (arith, fits));
    }
