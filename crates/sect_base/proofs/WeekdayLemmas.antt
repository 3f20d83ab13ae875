-- Letters of weekdays, printed and read.
use Rattle.std.specs.Prelude.{◌≡◌, ℕ, ◌==◌, ◌<◌, ◌≤◌, ◌^◌, ◌+◌, bit_or, List, [], ◌∷◌, ◌++◌, length, fold, drop, take, if◌then◌else◌, refl, Bool, true, false}
use Rattle.std.proofs.Common.{sym, ap, ◌∙◌, arith, get_or, append_assoc, append-nil, length-append}
use Rattle.std.proofs.lemmas.List.{drop_more, drop_all, take_all, take_more}
use Rattle.std.proofs.lemmas.Bool.{agree_below_at, eqb-true}
use Rattle.std.proofs.lemmas.Bool.Decides.{nat_tests}
use Rattle.std.proofs.lemmas.List.Sums.{fold-append}
use Rattle.std.proofs.lemmas.Nat.{or_lt}
use Rattle.sect_base.specs.Pattern.{has_bit}
use Rattle.sect_base.specs.WeekdayText.{days_text, letters_of, weekday_of, WEEKDAY_LETTERS}

-- the weekdays of which a letter is in the text
abbrev pub days_in : List ℕ → ℕ
days_in text = fold (λ days letter. bit_or days (weekday_of letter)) 0 text

pub days_in-days_text : (days : ℕ) → days < 2 ^ 7 → days_in (days_text days) ≡ days
unfolding days_text
days_in-days_text days small = eqb-true _ _ (agree_below_at (λ n. days_in (letters_of n 0 WEEKDAY_LETTERS) == n) (λ n. true) 128 days refl small)

-- the letters of the weekdays before this one stand in the text
pub record Lettered (days : ℕ) (old now : List ℕ) (day : ℕ) : Type 0 where
  pub is : now ++ letters_of days day (drop day WEEKDAY_LETTERS) ≡ old ++ days_text days
  pub room : length now ≤ length old + day

pub lettered_none : (days : ℕ) (old : List ℕ) → Lettered days old old 0
unfolding days_text
lettered_none days old = record { is = refl; room = omega arith }

letters_of-cons : (days day letter : ℕ) (more : List ℕ) (set : Bool) → has_bit days day ≡ set
    → letters_of days day (letter ∷ more) ≡ (if set then letter ∷ letters_of days (day + 1) more else letters_of days (day + 1) more)
letters_of-cons days day letter more set is = ap (λ b. if b then letter ∷ letters_of days (day + 1) more else letters_of days (day + 1) more) is

-- what is still to come, by the next letter
to_come : (days day : ℕ) (set : Bool) → day < 7 → has_bit days day ≡ set → letters_of days day (drop day WEEKDAY_LETTERS)
    ≡ (if set then get_or WEEKDAY_LETTERS day 0 ∷ letters_of days (day + 1) (drop (day + 1) WEEKDAY_LETTERS) else letters_of days (day + 1) (drop (day + 1) WEEKDAY_LETTERS))
to_come days day set less is =
    ap (letters_of days day) (drop_more WEEKDAY_LETTERS day 0 less)
    ∙ letters_of-cons days day (get_or WEEKDAY_LETTERS day 0) (drop (day + 1) WEEKDAY_LETTERS) set is

pub lettered_set : (days : ℕ) (old now next : List ℕ) (day : ℕ) → day < 7 → has_bit days day ≡ true → next ≡ now ++ get_or WEEKDAY_LETTERS day 0 ∷ []
    → Lettered days old now day → Lettered days old next (day + 1)
lettered_set days old now next day less set is so_far = record {
  is =
      ap (λ t. t ++ letters_of days (day + 1) (drop (day + 1) WEEKDAY_LETTERS)) is
      ∙ append_assoc now (get_or WEEKDAY_LETTERS day 0 ∷ []) (letters_of days (day + 1) (drop (day + 1) WEEKDAY_LETTERS))
      ∙ ap (λ rest. now ++ rest) (sym (to_come days day true less set))
      ∙ so_far.is;
  room = omega (arith, so_far.room, ap length is, length-append now (get_or WEEKDAY_LETTERS day 0 ∷ []));
}

pub lettered_unset : (days : ℕ) (old now : List ℕ) (day : ℕ) → day < 7 → has_bit days day ≡ false → Lettered days old now day → Lettered days old now (day + 1)
lettered_unset days old now day less unset so_far = record {
  is = ap (λ rest. now ++ rest) (sym (to_come days day false less unset)) ∙ so_far.is;
  room = omega (arith, so_far.room);
}

pub lettered_all : (days : ℕ) (old now : List ℕ) (day : ℕ) → 7 ≤ day → Lettered days old now day → now ≡ old ++ days_text days
lettered_all days old now day past so_far =
    sym (append-nil now) ∙ ap (λ rest. now ++ letters_of days day rest) (sym (drop_all day WEEKDAY_LETTERS past)) ∙ so_far.is

-- ---- reading

-- one more letter read
pub read_letter : (text : List ℕ) (at days found : ℕ) → at < length text → days ≡ days_in (take at text) → found ≡ weekday_of (get_or text at 0)
    → bit_or days found ≡ days_in (take (at + 1) text)
read_letter text at days found inside is is_found =
    ap (λ n. bit_or n found) is ∙ ap (λ n. bit_or (days_in (take at text)) n) is_found
    ∙ sym (ap days_in (take_more text at 0 inside) ∙ fold-append (λ n letter. bit_or n (weekday_of letter)) 0 (take at text) (get_or text at 0 ∷ []))

weekday_of-lt : (letter : ℕ) → weekday_of letter < 2 ^ 7
weekday_of-lt letter = grind (arith, nat_tests)

pub weekdays_within : (days letter : ℕ) → days < 2 ^ 7 → bit_or days (weekday_of letter) < 2 ^ 7
weekdays_within days letter small = or_lt 7 days (weekday_of letter) small (weekday_of-lt letter)

-- a text of weekdays read to its end
pub read_back : (text : List ℕ) (at found : ℕ) → length text ≤ at → found ≡ days_in (take at text) → (days : ℕ) → days < 2 ^ 7 → text ≡ days_text days → found ≡ days
read_back text at found past is days small is_text =
    is ∙ ap days_in (take_all at text past ∙ is_text) ∙ days_in-days_text days small
