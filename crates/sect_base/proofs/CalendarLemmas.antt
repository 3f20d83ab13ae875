-- Words of a calendar.
use Rattle.std.specs.Prelude.{◌≡◌, ◌≢◌, IsTrue, ℕ, ◌+◌, ◌-◌, ◌*◌, ◌/◌, ◌%◌, ◌<◌, ◌≤◌, ◌^◌, Bool, true, false, ◌&&◌, ◌||◌, ◌==◌, nat_lt, nat_le, bit_and, bit_or, List, length, ◌⊎◌}
use Rattle.std.proofs.Common.{sym, ap, ◌∙◌, arith, inl, inr, get_or, set, replicate, get_or-set_same, get_or-set_other, length-set}
use Rattle.std.proofs.lemmas.Bool.{cases_lt, cases_eq, false_from_ne_true, both_ways, and_parts, and_from, lt-ltb}
use Rattle.std.proofs.lemmas.Nat.Bits.{bit_at_above}
use Rattle.std.proofs.lemmas.Bool.Decides.{nat_tests}
use Rattle.std.proofs.lemmas.List.{get_or-replicate, get_or_past}
use Rattle.sect_base.specs.Pattern.{Pattern, IsPattern, has_bit, takes_slot}
use Rattle.sect_base.specs.Calendar.{is_set, is_of_word, takes_pair, IsClearFor}
use Rattle.sect_base.proofs.BitLemmas.{has_bit-zero, has_bit-or, has_bit-and, has_bit-not, SharedBit}

no_word : (words : List ℕ) → words ≡ replicate 35 0 → (k : ℕ) → get_or words k 0 ≡ 0
no_word words is k = by_order (cases_lt k 35)
  where
    by_order : (k < 35) ⊎ (35 ≤ k) → get_or words k 0 ≡ 0
    by_order (inl less) = ap (λ w. get_or w k 0) is ∙ get_or-replicate 35 k 0 0 less
    by_order (inr more) = get_or_past words k 0 (omega (arith, ap length is))

pub is_set-empty : (words : List ℕ) → words ≡ replicate 35 0 → (day slot : ℕ) → is_set words day slot ≡ false
unfolding is_set
is_set-empty words is day slot = ap (λ word. has_bit word (slot % 64)) (no_word words is (5 * day + slot / 64)) ∙ has_bit-zero (slot % 64)

-- the bits of the slots from one until before another
pub slot_bits : (low high start end word bit : ℕ) → low < 2 ^ 64 → bit < 64
    → has_bit high bit ≡ nat_lt bit (end - 64 * word) → has_bit low bit ≡ nat_lt bit (start - 64 * word)
    → has_bit (bit_and high (2 ^ 64 - 1 - low)) bit ≡ (nat_le start (64 * word + bit) && nat_lt (64 * word + bit) end)
slot_bits low high start end word bit small within is_high is_low =
    has_bit-and high (2 ^ 64 - 1 - low) bit ∙ grind (arith, nat_tests, has_bit-not low bit small within)

-- on the days before this one the word has been written
pub record TookOn (old now : List ℕ) (days word bits day : ℕ) : Type 0 where
  pub whole : length now ≡ length old
  pub sets : (d slot : ℕ) → slot < 288 → is_set now d slot ≡ (is_set old d slot || nat_lt d day && is_of_word days word bits d slot)

joined : (now old mask is_on : Bool) (day word d slot : ℕ) → d ≡ day → slot / 64 ≡ word → is_on ≡ true
    → now ≡ (old || nat_lt d day && (is_on && slot / 64 == word && mask))
    → (now || mask) ≡ (old || nat_lt d (day + 1) && (is_on && slot / 64 == word && mask))
joined now old mask is_on day word d slot same_day same_word on before = grind (arith, nat_tests)

apart : (now old mask is_on : Bool) (day word d slot : ℕ) → (d ≡ day → slot / 64 ≡ word → ⊥)
    → now ≡ (old || nat_lt d day && (is_on && slot / 64 == word && mask))
    → now ≡ (old || nat_lt d (day + 1) && (is_on && slot / 64 == word && mask))
apart now old mask is_on day word d slot other before = grind (arith, nat_tests)

off : (now old mask is_on : Bool) (day word d slot : ℕ) → (d ≡ day → is_on ≡ false)
    → now ≡ (old || nat_lt d day && (is_on && slot / 64 == word && mask))
    → now ≡ (old || nat_lt d (day + 1) && (is_on && slot / 64 == word && mask))
off now old mask is_on day word d slot other before = grind (arith, nat_tests)

took_word : (old now : List ℕ) (days word mask day : ℕ) → TookOn old now days word mask day → 5 * day + word < length now → word < 5
    → has_bit days day ≡ true → (d slot : ℕ) → slot < 288
    → is_set (set now (5 * day + word) (bit_or (get_or now (5 * day + word) 0) mask)) d slot
    ≡ (is_set old d slot || nat_lt d (day + 1) && is_of_word days word mask d slot)
unfolding is_set
took_word old now days word mask day took inside small on d slot within = by_place (cases_eq (5 * d + slot / 64) (5 * day + word))
  where
    by_place : (5 * d + slot / 64 ≡ 5 * day + word) ⊎ (5 * d + slot / 64 ≢ 5 * day + word)
        → has_bit (get_or (set now (5 * day + word) (bit_or (get_or now (5 * day + word) 0) mask)) (5 * d + slot / 64) 0) (slot % 64)
        ≡ (has_bit (get_or old (5 * d + slot / 64) 0) (slot % 64) || nat_lt d (day + 1) && is_of_word days word mask d slot)
    by_place (inl same) =
        let value : get_or (set now (5 * day + word) (bit_or (get_or now (5 * day + word) 0) mask)) (5 * d + slot / 64) 0 ≡ bit_or (get_or now (5 * d + slot / 64) 0) mask =
        ap (λ k. get_or (set now (5 * day + word) (bit_or (get_or now (5 * day + word) 0) mask)) k 0) same
        ∙ get_or-set_same now (5 * day + word) (bit_or (get_or now (5 * day + word) 0) mask) 0 inside
        ∙ ap (λ k. bit_or (get_or now k 0) mask) (sym same) in
        let same_day : d ≡ day = omega arith in
        ap (λ n. has_bit n (slot % 64)) value ∙ has_bit-or (get_or now (5 * d + slot / 64) 0) mask (slot % 64)
        ∙ joined _ _ (has_bit mask (slot % 64)) (has_bit days d) day word d slot same_day (omega arith) (ap (has_bit days) same_day ∙ on) (took.sets d slot within)
    by_place (inr other) =
        ap (λ n. has_bit n (slot % 64)) (get_or-set_other now (5 * day + word) (5 * d + slot / 64) (bit_or (get_or now (5 * day + word) 0) mask) 0 other)
        ∙ apart _ _ (has_bit mask (slot % 64)) (has_bit days d) day word d slot (λ same_day same_word. other (omega arith)) (took.sets d slot within)

-- the word is written on one day more
pub took_more : (old now : List ℕ) (days word mask day : ℕ) → TookOn old now days word mask day → 5 * day + word < length now → word < 5
    → has_bit days day ≡ true → TookOn old (set now (5 * day + word) (bit_or (get_or now (5 * day + word) 0) mask)) days word mask (day + 1)
took_more old now days word mask day took inside small on =
    record { whole = length-set now _ _ ∙ took.whole; sets = took_word old now days word mask day took inside small on }

-- a day that isn't named is passed over
pub took_same : (old now : List ℕ) (days word mask day : ℕ) → TookOn old now days word mask day → has_bit days day ≡ false → TookOn old now days word mask (day + 1)
took_same old now days word mask day took not_on =
    record {
      whole = took.whole;
      sets = λ d slot within. off _ _ (has_bit mask (slot % 64)) (has_bit days d) day word d slot (λ same. ap (has_bit days) same ∙ not_on) (took.sets d slot within);
    }

-- on the days before this one no slot of the word is taken
abbrev pub AreFree : List ℕ → ℕ → ℕ → ℕ → ℕ → Type 0
AreFree words days word bits day = (d slot : ℕ) → d < day → IsTrue (is_of_word days word bits d slot) → is_set words d slot ≡ false

-- nor is one on the next day
pub free_more : (words : List ℕ) (days word mask day : ℕ) → AreFree words days word mask day
    → (has_bit days day ≡ true → SharedBit (get_or words (5 * day + word) 0) mask → ⊥) → AreFree words days word mask (day + 1)
unfolding is_set
free_more words days word mask day before none d slot to of = by_order (cases_lt d day)
  where
    by_order : (d < day) ⊎ (day ≤ d) → has_bit (get_or words (5 * d + slot / 64) 0) (slot % 64) ≡ false
    by_order (inl less) = before d slot less of
    by_order (inr more) =
        let same : day ≡ d = omega arith in
        let first = and_parts (has_bit days d && slot / 64 == word) (has_bit mask (slot % 64)) of in
        let second = and_parts (has_bit days d) (slot / 64 == word) first.0 in
        let here : word ≡ slot / 64 = grind (arith, nat_tests, second.1) in
        false_from_ne_true (has_bit (get_or words (5 * d + slot / 64) 0) (slot % 64))
        (λ is. none (ap (has_bit days) same ∙ second.0)
        (slot % 64, omega arith, ap (λ k. has_bit (get_or words k 0) (slot % 64)) (omega (arith, same, here)) ∙ is, first.1))

-- a bit that a word shares with the slots' bits is a slot that is taken
pub not_free : (words : List ℕ) (days word mask day : ℕ) → day < 7 → has_bit days day ≡ true → SharedBit (get_or words (5 * day + word) 0) mask
    → AreFree words days word mask 7 → ⊥
unfolding is_set
not_free words days word mask day early on (bit, within, taken, masked) free =
    let here : (64 * word + bit) / 64 ≡ word = omega arith in
    let place : (64 * word + bit) % 64 ≡ bit = omega arith in
    let of : is_of_word days word mask day (64 * word + bit) ≡ true =
    and_from (has_bit days day && (64 * word + bit) / 64 == word) (has_bit mask ((64 * word + bit) % 64))
    (and_from (has_bit days day) ((64 * word + bit) / 64 == word) on (grind (arith, nat_tests))) (ap (has_bit mask) place ∙ masked) in
    let clear : has_bit (get_or words (5 * day + word) 0) bit ≡ false =
    sym (ap (λ k. has_bit (get_or words (5 * day + k) 0) ((64 * word + bit) % 64)) here ∙ ap (λ k. has_bit (get_or words (5 * day + word) 0) k) place)
    ∙ free day (64 * word + bit) early of in
    both_ways _ clear taken

no_eighth : (days d : ℕ) → days < 2 ^ 7 → 7 ≤ d → has_bit days d ≡ false
no_eighth days d small past = grind (arith, nat_tests, bit_at_above days 7 d small past)

-- a weekday of a meeting is one of seven
early_day : (days d : ℕ) → days < 2 ^ 7 → has_bit days d ≡ true → d < 7
early_day days d small on = by_order (cases_lt d 7)
  where
    by_order : (d < 7) ⊎ (7 ≤ d) → d < 7
    by_order (inl less) = less
    by_order (inr more) = absurd (both_ways (has_bit days d) (no_eighth days d small more) on)

-- the bits of a word are those of the meeting's slots
abbrev pub AreSlotsOf : Pattern → ℕ → ℕ → Type 0
AreSlotsOf p word mask = (bit : ℕ) → bit < 64 → has_bit mask bit ≡ (nat_le p.start (64 * word + bit) && nat_lt (64 * word + bit) (p.start + p.slots))

slot_in : (p : Pattern) (word mask slot : ℕ) → AreSlotsOf p word mask → slot / 64 ≡ word → has_bit mask (slot % 64) ≡ takes_slot p slot
slot_in p word mask slot bits here =
    let whole : 64 * word + slot % 64 ≡ slot = omega (arith, here) in
    bits (slot % 64) (omega arith) ∙ ap (takes_slot p) whole

one_word : (old now new on masked taken : Bool) (word d slot : ℕ) → d < 7 → (slot / 64 ≡ word → masked ≡ taken)
    → now ≡ (old || nat_lt (slot / 64) word && (on && taken)) → new ≡ (now || nat_lt d 7 && (on && slot / 64 == word && masked))
    → new ≡ (old || nat_lt (slot / 64) (word + 1) && (on && taken))
one_word old now new on masked taken word d slot early here before more = grind (arith, nat_tests)

no_word_of : (old now new on masked taken : Bool) (word d slot : ℕ) → 7 ≤ d → on ≡ false
    → now ≡ (old || nat_lt (slot / 64) word && (on && taken)) → new ≡ (now || nat_lt d 7 && (on && slot / 64 == word && masked))
    → new ≡ (old || nat_lt (slot / 64) (word + 1) && (on && taken))
no_word_of old now new on masked taken word d slot late off before more = grind (arith, nat_tests)

-- one word more is written on the meeting's days
pub added_word : (p : Pattern) (old now new : Bool) (word mask d slot : ℕ) → IsPattern p → AreSlotsOf p word mask
    → now ≡ (old || nat_lt (slot / 64) word && takes_pair p d slot) → new ≡ (now || nat_lt d 7 && is_of_word p.days word mask d slot)
    → new ≡ (old || nat_lt (slot / 64) (word + 1) && takes_pair p d slot)
added_word p old now new word mask d slot is bits before more = by_day (cases_lt d 7)
  where
    here : slot / 64 ≡ word → has_bit mask (slot % 64) ≡ takes_slot p slot
    here same = slot_in p word mask slot bits same

    by_day : (d < 7) ⊎ (7 ≤ d) → new ≡ (old || nat_lt (slot / 64) (word + 1) && takes_pair p d slot)
    by_day (inl early) = one_word old now new (has_bit p.days d) (has_bit mask (slot % 64)) (takes_slot p slot) word d slot early here before more
    by_day (inr late) = no_word_of old now new (has_bit p.days d) (has_bit mask (slot % 64)) (takes_slot p slot) word d slot late (no_eighth p.days d is.weekdays late) before more

-- once all words are written, all pairs are set
pub added : (p : Pattern) (old now : Bool) (word d slot : ℕ) → (p.start + p.slots + 63) / 64 ≤ word
    → now ≡ (old || nat_lt (slot / 64) word && takes_pair p d slot) → now ≡ (old || takes_pair p d slot)
added p old now word d slot past before = by_order (cases_lt (slot / 64) word)
  where
    by_order : (slot / 64 < word) ⊎ (word ≤ slot / 64) → now ≡ (old || takes_pair p d slot)
    by_order (inl less) = before ∙ ap (λ b. old || b && takes_pair p d slot) (lt-ltb (slot / 64) word less)
    by_order (inr more) = grind (arith, nat_tests)

-- no pair of the meeting is before its first word
pub none_added : (p : Pattern) (old : Bool) (d slot : ℕ) → old ≡ (old || nat_lt (slot / 64) (p.start / 64) && takes_pair p d slot)
none_added p old d slot = grind (arith, nat_tests)

-- the pairs before this word are free
abbrev pub IsClearBefore : List ℕ → Pattern → ℕ → Type 0
IsClearBefore words p word = (d slot : ℕ) → slot / 64 < word → IsTrue (takes_pair p d slot) → is_set words d slot ≡ false

pub clear_word : (words : List ℕ) (p : Pattern) (word mask : ℕ) → IsPattern p → AreSlotsOf p word mask → IsClearBefore words p word
    → AreFree words p.days word mask 7 → IsClearBefore words p (word + 1)
clear_word words p word mask is bits before free d slot to takes = by_order (cases_lt (slot / 64) word)
  where
    by_order : (slot / 64 < word) ⊎ (word ≤ slot / 64) → is_set words d slot ≡ false
    by_order (inl less) = before d slot less takes
    by_order (inr more) =
        let here : slot / 64 ≡ word = omega (arith, to, more) in
        let parts = and_parts (has_bit p.days d) (takes_slot p slot) takes in
        free d slot (early_day p.days d is.weekdays parts.0)
        (and_from (has_bit p.days d && slot / 64 == word) (has_bit mask (slot % 64))
        (and_from (has_bit p.days d) (slot / 64 == word) parts.0 (grind (arith, nat_tests, here))) (slot_in p word mask slot bits here ∙ parts.1))

-- no pair is behind the last word
pub clear_all : (words : List ℕ) (p : Pattern) (word : ℕ) → (p.start + p.slots + 63) / 64 ≤ word → IsClearBefore words p word → IsClearFor words p
clear_all words p word past before d slot takes =
    let parts = and_parts (has_bit p.days d) (takes_slot p slot) takes in
    let to : slot < p.start + p.slots = grind (arith, nat_tests, parts.1) in before d slot (omega (arith, to, past)) takes

-- a pair that is taken in a word isn't clear
pub not_clear : (words : List ℕ) (p : Pattern) (word mask : ℕ) → AreSlotsOf p word mask → IsClearFor words p → AreFree words p.days word mask 7
not_clear words p word mask bits clear d slot early of =
    let first = and_parts (has_bit p.days d && slot / 64 == word) (has_bit mask (slot % 64)) of in
    let second = and_parts (has_bit p.days d) (slot / 64 == word) first.0 in
    let here : slot / 64 ≡ word = grind (arith, nat_tests, second.1) in
    clear d slot (and_from (has_bit p.days d) (takes_slot p slot) second.0 (sym (slot_in p word mask slot bits here) ∙ first.1))
