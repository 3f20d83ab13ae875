-- Words that stand for one value are read exactly.
use Rattle.std.proofs.Common.{◌≡◌, ℕ, ◌==◌, ◌<◌, ◌≤◌, ◌^◌, false, List, [], ◌∷◌, map, Option, None, Some, refl, ap, sym, ◌∙◌, subst, arith, decimal, nat_le, lit<}
use Rattle.std.specs.Prelude.{if◌then◌else◌}
use Rattle.std.specs.Str.{bytes_eq}
use Rattle.std.specs.Option.{option_map}
use Rattle.std.specs.List.{AllByRecursion}
use Rattle.std.proofs.lemmas.Option.{cond_some}
use Rattle.std.proofs.lemmas.Bool.{leb-true, le-leb}
use Rattle.sect_words.specs.Parts.{joined, pieces}
use Rattle.sect_words.specs.Words.{dash, list_text, optional_text}
use Rattle.sect_read.specs.Fits.{Fits8, Fits16, Fits32, Fits64, FitsList, FitsOptional}
use Rattle.sect_words.specs.Reading.{◌>>=◌, all_of}
use Rattle.sect_words.specs.ReadingWords.{number_of, between_of, u8_of, u16_of, u32_of, u64_of, list_of, optional_of}
use Rattle.sect_read.proofs.Steps.{Exact, bind_found, if_found, same_word}
use Rattle.sect_words.proofs.Numbers.{exact_upto}
use Rattle.sect_words.proofs.Pieces.{Lacks, joined_pieces, pieces_joined, some_pieces}
use Rattle.sect_read.proofs.Bytes.{NoDash, each_text}

pub exact_u8 : Exact u8_of decimal Fits8
exact_u8 = exact_upto 255 (lit< tt)

pub exact_u16 : Exact u16_of decimal Fits16
exact_u16 = exact_upto 65535 (lit< tt)

pub exact_u32 : Exact u32_of decimal Fits32
exact_u32 = exact_upto 4294967295 (lit< tt)

pub exact_u64 : Exact u64_of decimal Fits64
exact_u64 = exact_upto 18446744073709551615 (lit< tt)

pub small32 : (n : ℕ) → Fits32 n → n < 2 ^ 64
small32 n fits = omega (arith, fits)

-- a number from `least` to `most` is read exactly
pub exact_between : (least most : ℕ) → most < 2 ^ 64 → Exact (between_of least most) decimal (λ n. (least ≤ n) × (n ≤ most))
unfolding between_of
exact_between least most small = record {
  found = λ word n e. bind_found (number_of most word) _ _ e (λ m is e.
      let test = cond_some (nat_le least m) m n e in
      let low = leb-true least m test.0 in
      let p = (exact_upto most small).found word m is in
      ((omega (arith, low, test.1), omega (arith, p.0, test.1)), p.1 ∙ ap decimal test.1));
  again = λ n fits. ap (λ o. o >>= λ m. if nat_le least m then Some m else None) ((exact_upto most small).again n fits.1)
      ∙ ap (λ b. if b then Some n else None) (le-leb least n fits.0);
}

-- ---- lists and what may be missing

module _ {X : Type 0} {of : List ℕ → Option X} {text : X → List ℕ} {Fits : X → Type 0} (exact : Exact of text Fits) where
  all_found : (words : List (List ℕ)) (xs : List X) → all_of of words ≡ Some xs → AllByRecursion Fits xs × (words ≡ map text xs)
  all_found [] [] e = (tt, refl)
  all_found [] (x ∷ xs) e = absurd (cc)
  all_found (word ∷ words) xs e = bind_found (of word) _ _ e (λ y is e. bind_found (all_of of words) _ _ e (λ ys more e.
      let same : y ∷ ys ≡ xs = cc in
      let p = exact.found word y is in
      let q = all_found words ys more in
      subst (λ zs. AllByRecursion Fits zs × (word ∷ words ≡ map text zs)) same ((p.0, q.0), λ i. p.1 i ∷ q.1 i)))

  all_again : (xs : List X) → AllByRecursion Fits xs → all_of of (map text xs) ≡ Some xs
  all_again [] fits = refl
  all_again (x ∷ xs) fits =
      ap (λ o. o >>= λ y. all_of of (map text xs) >>= λ ys. Some (y ∷ ys)) (exact.again x fits.0)
      ∙ ap (λ o. o >>= λ ys. Some (x ∷ ys)) (all_again xs fits.1)

  list_found : (word : List ℕ) (xs : List X) → list_of 43 of word ≡ Some xs → FitsList Fits xs × (word ≡ list_text 43 text xs)
  unfolding list_of
  list_found word [] e = if_found (bytes_eq word dash) (Some []) (all_of of (pieces 43 word)) [] e
      (λ b e. (tt, same_word word dash b))
      (λ b e. absurd (some_pieces 43 word (all_found (pieces 43 word) [] e).1))
  list_found word (x ∷ xs) e = if_found (bytes_eq word dash) (Some []) (all_of of (pieces 43 word)) (x ∷ xs) e
      (λ b e. absurd (cc))
      (λ b e. let p = all_found (pieces 43 word) (x ∷ xs) e in (p.0, sym (joined_pieces 43 word) ∙ ap (joined 43) p.1))

  list_again : ((x : X) → Fits x → Lacks 43 (text x)) → ((x : X) → Fits x → NoDash (text x)) → (xs : List X) → FitsList Fits xs → list_of 43 of (list_text 43 text xs) ≡ Some xs
  unfolding list_of
  list_again plain start [] fits = refl
  list_again plain start (x ∷ xs) fits =
      ap (λ b. if b then Some [] else all_of of (pieces 43 (joined 43 (map text (x ∷ xs))))) (start x fits.0 _)
      ∙ ap (all_of of) (pieces_joined 43 (text x) (map text xs) (plain x fits.0) (each_text (λ byte. (byte == 43) ≡ false) text plain xs fits.1))
      ∙ all_again (x ∷ xs) fits

  -- a list is read exactly
  pub exact_list : ((x : X) → Fits x → Lacks 43 (text x)) → ((x : X) → Fits x → NoDash (text x)) → Exact (list_of 43 of) (list_text 43 text) (FitsList Fits)
  exact_list plain start = record { found = list_found; again = list_again plain start }

  optional_found : (word : List ℕ) (o : Option X) → optional_of of word ≡ Some o → FitsOptional Fits o × (word ≡ optional_text text o)
  unfolding optional_of
  optional_found word o e = if_found (bytes_eq word dash) (Some None) (option_map Some (of word)) o e
      (λ b e. let same : None ≡ o = cc in subst (λ p. FitsOptional Fits p × (word ≡ optional_text text p)) same (tt, same_word word dash b))
      (λ b e. by (of word) refl e)
    where
      by : (p : Option X) → of word ≡ p → option_map Some p ≡ Some o → FitsOptional Fits o × (word ≡ optional_text text o)
      by None is e = absurd (cc)
      by (Some x) is e = let same : Some x ≡ o = cc in subst (λ p. FitsOptional Fits p × (word ≡ optional_text text p)) same (exact.found word x is)

  optional_again : ((x : X) → Fits x → bytes_eq (text x) dash ≡ false) → (o : Option X) → FitsOptional Fits o → optional_of of (optional_text text o) ≡ Some o
  unfolding optional_of
  optional_again start None fits = refl
  optional_again start (Some x) fits =
      ap (λ b. if b then Some None else option_map Some (of (text x))) (start x fits) ∙ ap (option_map Some) (exact.again x fits)

  -- what may be missing is read exactly
  pub exact_optional : ((x : X) → Fits x → bytes_eq (text x) dash ≡ false) → Exact (optional_of of) (optional_text text) (FitsOptional Fits)
  exact_optional start = record { found = optional_found; again = optional_again start }
