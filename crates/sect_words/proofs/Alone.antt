-- A word of digits is a list of one number.
use Rattle.std.proofs.Common.{◌≡◌, ℕ, ◌==◌, Bool, true, false, List, [], ◌∷◌, Option, None, Some, refl, ap, ◌∙◌, subst, arith}
use Rattle.std.specs.Prelude.{IfSome, if◌then◌else◌}
use Rattle.std.specs.Option.{option_map}
use Rattle.std.specs.Str.{bytes_eq}
use Rattle.std.specs.Str.Parse.{AllDigits}
use Rattle.std.proofs.lemmas.List.Elements.{All-from_recursion}
use Rattle.std.proofs.lemmas.List.Splits.{slice_split_none}
use Rattle.std.proofs.lemmas.Str.Parse.{digit_from_value}
use Rattle.sect_words.specs.Parts.{pieces}
use Rattle.sect_words.specs.Reading.{◌>>=◌, first_part, all_of, with_rest, word_at}
use Rattle.sect_words.specs.ReadingWords.{list_of}
use Rattle.sect_words.specs.Words.{dash}
use Rattle.sect_words.proofs.Exact.{same_word}
use Rattle.sect_words.proofs.Fronts.{digits_lack}

-- digits aren't a dash
no_dash : (word : List ℕ) (b : Bool) → bytes_eq word dash ≡ b → AllDigits 10 word → b ≡ false
no_dash word false e all = refl
no_dash word true e all =
    let dashed : AllDigits 10 dash = subst (AllDigits 10) (same_word word dash e) all in
    let digit = digit_from_value 45 dashed.0 in
    absurd (omega (arith, digit))

-- digits have no part but themselves
one_piece : (word : List ℕ) → AllDigits 10 word → pieces 43 word ≡ word ∷ []
one_piece word all =
    let lack = digits_lack 43 word (λ range. omega (arith, range)) all in
    slice_split_none (λ byte. byte == 43) word (All-from_recursion (λ byte. (byte == 43) ≡ false) word lack)

module _ {X : Type 0} (of : List ℕ → Option ℕ) (id : ℕ → X) where
  -- the only value of a list
  by_value : (rest ps : List (List ℕ)) (n : ℕ) (o : Option ℕ) → with_rest ps o ≡ Some (n, rest) → with_rest ps (option_map id o >>= λ x. Some (x ∷ [])) ≡ Some (id n ∷ [], rest)
  by_value rest ps n None e = absurd (cc)
  by_value rest ps n (Some m) e =
      let same : (m, ps) ≡ (n, rest) = cc in
      ap (λ (p : ℕ × List (List ℕ)). Some (id p.0 ∷ [], p.1)) same

  list_is : (word : List ℕ) → AllDigits 10 word → list_of 43 (λ w. option_map id (of w)) word ≡ (option_map id (of word) >>= λ x. Some (x ∷ []))
  unfolding list_of
  list_is word all =
      ap (λ b. if b then Some [] else all_of (λ w. option_map id (of w)) (pieces 43 word)) (no_dash word (bytes_eq word dash) refl all)
      ∙ ap (λ (ps : List (List ℕ)). all_of (λ w. option_map id (of w)) ps) (one_piece word all)

  -- the number of the digits is the list's
  pub digits_alone : (parts rest : List (List ℕ)) (n : ℕ) → word_at of parts ≡ Some (n, rest) → IfSome (first_part parts) (AllDigits 10)
      → word_at (list_of 43 (λ w. option_map id (of w))) parts ≡ Some (id n ∷ [], rest)
  digits_alone [] rest n e all = absurd (cc)
  digits_alone (word ∷ ps) rest n e all = ap (with_rest ps) (list_is word all) ∙ by_value rest ps n (of word) e
