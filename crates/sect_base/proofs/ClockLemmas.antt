-- A time of day against its nine bytes.
use Rattle.std.specs.Prelude.{◌≡◌, ℕ, ◌/◌, ◌%◌, List, [], ◌∷◌, ◌++◌, length, refl}
use Rattle.std.proofs.Common.{ap, ◌∙◌, arith, get_or, append_assoc}
use Rattle.std.proofs.lemmas.Slice.Eq.{text_from_reads}
use Rattle.sect_base.specs.ClockText.{clock_text, time_text, IsClockAt}

-- the nine bytes say the time
pub time_from_reads : (text : List ℕ) (start end : ℕ) → length text ≡ 9 → get_or text 4 0 ≡ 45 → IsClockAt text 0 start → IsClockAt text 5 end
    → text ≡ time_text start end
unfolding time_text
time_from_reads text start end nine dash first second = text_from_reads text (time_text start end) nine (
  first.hour_tens,
  (
    first.hour_ones,
    (
      first.minute_tens,
      (first.minute_ones, (dash, (second.hour_tens, (second.hour_ones, (second.minute_tens, (second.minute_ones, tt)))))),
    ),
  ),
)

-- what the bytes of a time are
pub record TimeBytes (text : List ℕ) (start end : ℕ) : Type 0 where
  pub nine : length text ≡ 9
  pub dash : get_or text 4 0 ≡ 45
  pub first : IsClockAt text 0 start
  pub second : IsClockAt text 5 end

pub time_bytes : (text : List ℕ) (start end : ℕ) → text ≡ time_text start end → TimeBytes text start end
unfolding time_text
time_bytes text start end is =
    let at : (k : ℕ) → get_or text k 0 ≡ get_or (time_text start end) k 0 = λ k. ap (λ t. get_or t k 0) is in
    record {
      nine = ap length is;
      dash = at 4;
      first = record { hour_tens = at 0; hour_ones = at 1; minute_tens = at 2; minute_ones = at 3 };
      second = record { hour_tens = at 5; hour_ones = at 6; minute_tens = at 7; minute_ones = at 8 };
    }

-- four digits are those of one slot
pub one_slot : (text : List ℕ) (at a b : ℕ) → IsClockAt text at a → IsClockAt text at b → a ≡ b
one_slot text at a b first second =
    let hour : a / 12 ≡ b / 12 = omega (arith, first.hour_tens, first.hour_ones, second.hour_tens, second.hour_ones) in
    let minute : a % 12 ≡ b % 12 = omega (arith, first.minute_tens, first.minute_ones, second.minute_tens, second.minute_ones) in
    omega (arith, hour, minute)

pub one_time : (a b c d : ℕ) → time_text a b ≡ time_text c d → (a ≡ c) × (b ≡ d)
one_time a b c d same =
    let this = time_bytes (time_text a b) c d same in
    let that = time_bytes (time_text a b) a b refl in
    (one_slot (time_text a b) 0 a c that.first this.first, one_slot (time_text a b) 5 b d that.second this.second)

-- a clock, a dash and a clock
pub time_joined : (old mid dashed now : List ℕ) (start end : ℕ) → mid ≡ old ++ clock_text start → dashed ≡ mid ++ 45 ∷ [] → now ≡ dashed ++ clock_text end
    → now ≡ old ++ time_text start end
unfolding time_text
time_joined old mid dashed now start end first dash second =
    second ∙ ap (λ t. t ++ clock_text end) (dash ∙ ap (λ t. t ++ 45 ∷ []) first)
    ∙ append_assoc (old ++ clock_text start) (45 ∷ []) (clock_text end)
    ∙ append_assoc old (clock_text start) (45 ∷ clock_text end)
