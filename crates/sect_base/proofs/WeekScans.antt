-- The printed form of a set of weeks, scanned, gives the set.
use Rattle.std.specs.Prelude.{◌≡◌, ◌≢◌, ℕ, ◌+◌, ◌-◌, ◌*◌, ◌/◌, ◌%◌, ◌<◌, ◌≤◌, ◌^◌, ◌==◌, ◌⊎◌, ◌&&◌, nat_le, nat_lt, bit_or, true, List, [], ◌∷◌, ◌++◌, length, take, fold, map, if◌then◌else◌}
use Rattle.std.specs.List.{join_with_byte}
use Rattle.std.proofs.Common.{sym, ap, ◌∙◌, arith, inl, inr, get_or}
use Rattle.std.proofs.lemmas.Bool.{cases_lt, cases_eq, lt-ltb, le-ltb, eq-eqb, ne_eqb, cond_both}
use Rattle.std.proofs.lemmas.Bool.Decides.{nat_tests}
use Rattle.std.proofs.lemmas.List.{take_all, take_more}
use Rattle.std.proofs.lemmas.List.Sums.{fold-append}
use Rattle.std.proofs.lemmas.Nat.{or_lt}
use Rattle.std.proofs.lemmas.Nat.Bits.{bit_at_or, bit_at-zero, same_from_bits}
use Rattle.sect_base.specs.declared.week_scan.Scan.{Scan}
use Rattle.sect_base.specs.Digits.{short_digits, two_digits}
use Rattle.sect_base.specs.Weeks.{week_range}
use Rattle.sect_base.specs.WeekScan.{run_set, weeks_of_scan, is_digit, scan_after, SCAN_START, weeks_in}
use Rattle.sect_base.specs.WeekText.{Run, run_text, runs_from, weeks_text, IsWeeksText}
use Rattle.sect_base.proofs.WeekLemmas.{week_range_sixty}
use Rattle.sect_base.proofs.WeekRuns.{run}
use Rattle.sect_base.proofs.WeekUnions.{AreRuns, runs_from-good, union, union-runs_from}

abbrev scan : ℕ → ℕ → ℕ → Scan
scan weeks first number = record { weeks = weeks; first = first; number = number }

after_digit : (w f k d n : ℕ) → d < 10 → k % 10 * 10 + d ≡ n → scan_after (scan w f k) (48 + d) ≡ scan w f n
after_digit w f k d n small is =
    let test : is_digit (48 + d) ≡ true = grind (arith, nat_tests) in
    let value : k % 10 * 10 + (48 + d - 48) ≡ n = omega (arith, is) in
    ap
    (λ b.
    if b then scan w f (k % 10 * 10 + (48 + d - 48)) else
    (if 48 + d == 45 then scan w k 0 else scan (weeks_of_scan (scan w f k)) 0 0))
    test
    ∙ ap (scan w f) value

after_number : (w f n : ℕ) → n < 100 → fold scan_after (scan w f 0) (short_digits n) ≡ scan w f n
after_number w f n small = by_order (cases_lt n 10)
  where
    by_order : (n < 10) ⊎ (10 ≤ n) → fold scan_after (scan w f 0) (short_digits n) ≡ scan w f n
    by_order (inl less) =
        ap (λ b. fold scan_after (scan w f 0) (if b then (48 + n) ∷ [] else two_digits n)) (lt-ltb n 10 less) ∙ after_digit w f 0 n n less (omega arith)
    by_order (inr more) =
        ap (λ b. fold scan_after (scan w f 0) (if b then (48 + n) ∷ [] else two_digits n)) (le-ltb n 10 more)
        ∙ ap (λ s. scan_after s (48 + n % 10)) (after_digit w f 0 (n / 10) (n / 10) (omega arith) (omega arith))
        ∙ after_digit w f (n / 10) (n % 10) n (omega arith) (omega arith)

run_set-range : (first last : ℕ) → first ≤ last → last < 60 → run_set (first + 1) (last + 1) ≡ week_range first last
run_set-range first last order small =
    let test : (nat_lt 0 (first + 1) && nat_le (first + 1) (last + 1) && nat_le (last + 1) 60) ≡ true = grind (arith, nat_tests) in
    let low : first + 1 - 1 ≡ first = omega arith in
    let high : last + 1 - 1 ≡ last = omega arith in
    ap (λ b. if b then week_range (first + 1 - 1) (last + 1 - 1) else 0) test ∙ ap (λ k. week_range k (last + 1 - 1)) low ∙ ap (week_range first) high

-- one run, scanned
after_run : (w first last : ℕ) → first ≤ last → last < 60
    → weeks_of_scan (fold scan_after (scan w 0 0) (run_text (run first last))) ≡ bit_or w (week_range first last)
after_run w first last order small = by_length (cases_eq first last)
  where
    by_length : (first ≡ last) ⊎ (first ≢ last) → weeks_of_scan (fold scan_after (scan w 0 0) (run_text (run first last))) ≡ bit_or w (week_range first last)
    by_length (inl one) =
        ap (λ b. weeks_of_scan (fold scan_after (scan w 0 0) (if b then short_digits (first + 1) else short_digits (first + 1) ++ 45 ∷ short_digits (last + 1)))) (eq-eqb first last one)
        ∙ ap weeks_of_scan (after_number w 0 (first + 1) (omega arith))
        ∙ ap (λ k. bit_or w (run_set (first + 1) (k + 1))) one
        ∙ ap (bit_or w) (run_set-range first last order small)
    by_length (inr more) =
        ap (λ b. weeks_of_scan (fold scan_after (scan w 0 0) (if b then short_digits (first + 1) else short_digits (first + 1) ++ 45 ∷ short_digits (last + 1)))) (ne_eqb first last more)
        ∙ ap weeks_of_scan
        (fold-append scan_after (scan w 0 0) (short_digits (first + 1)) (45 ∷ short_digits (last + 1))
        ∙ ap (λ s. fold scan_after s (45 ∷ short_digits (last + 1))) (after_number w 0 (first + 1) (omega arith))
        ∙ after_number w (first + 1) (last + 1) (omega arith))
        ∙ ap (λ b. bit_or w (run_set (if b then last + 1 else first + 1) (last + 1))) (ne_eqb (first + 1) 0 (λ same. omega (arith, same)))
        ∙ ap (bit_or w) (run_set-range first last order small)

or_zero : (w : ℕ) → bit_or w 0 ≡ w
or_zero w = same_from_bits (bit_or w 0) w (λ k. omega (arith, bit_at_or w 0 k, bit_at-zero k))

-- runs with dots between, scanned
after_runs : (w : ℕ) (runs : List Run) → AreRuns runs → weeks_of_scan (fold scan_after (scan w 0 0) (join_with_byte 46 (map run_text runs))) ≡ union w runs
after_runs w [] good = or_zero w
after_runs w (first ∷ []) good = after_run w first.first first.last good.0 good.1
after_runs w (first ∷ next ∷ more) good =
    ap weeks_of_scan
    (fold-append scan_after (scan w 0 0) (run_text first) (46 ∷ join_with_byte 46 (map run_text (next ∷ more)))
    ∙ ap (λ set. fold scan_after (scan set 0 0) (join_with_byte 46 (map run_text (next ∷ more)))) (after_run w first.first first.last good.0 good.1))
    ∙ after_runs (bit_or w (week_range first.first first.last)) (next ∷ more) good.2

pub weeks_in-weeks_text : (weeks : ℕ) → weeks < 2 ^ 60 → weeks_in (weeks_text weeks) ≡ weeks
unfolding weeks_in weeks_text
weeks_in-weeks_text weeks small = after_runs 0 (runs_from weeks 0 60) (runs_from-good 60 weeks 0 (omega arith)) ∙ union-runs_from weeks small

-- ---- the reader's steps

run_set-lt : (first last : ℕ) → run_set first last < 2 ^ 60
run_set-lt first last =
    cond_both (nat_lt 0 first && nat_le first last && nat_le last 60) (week_range (first - 1) (last - 1)) 0 (λ n. n < 2 ^ 60)
    (λ test. let within : last - 1 < 60 = grind (arith, nat_tests) in week_range_sixty (first - 1) (last - 1) within) (λ test. omega arith)

pub weeks_of_scan-lt : (s : Scan) → s.weeks < 2 ^ 60 → weeks_of_scan s < 2 ^ 60
weeks_of_scan-lt s small = or_lt 60 s.weeks (run_set (if s.first == 0 then s.number else s.first) s.number) small (run_set-lt (if s.first == 0 then s.number else s.first) s.number)

pub scan_after-lt : (s : Scan) (byte : ℕ) → s.weeks < 2 ^ 60 → (scan_after s byte).weeks < 2 ^ 60
scan_after-lt s byte small =
    cond_both (is_digit byte) (scan s.weeks s.first (s.number % 10 * 10 + (byte - 48))) (if byte == 45 then scan s.weeks s.number 0 else scan (weeks_of_scan s) 0 0)
    (λ t. t.weeks < 2 ^ 60) (λ test. small)
    (λ test. cond_both (byte == 45) (scan s.weeks s.number 0) (scan (weeks_of_scan s) 0 0) (λ t. t.weeks < 2 ^ 60) (λ dash. small) (λ dash. weeks_of_scan-lt s small))

pub scanned_more : (text : List ℕ) (at : ℕ) (s next : Scan) → at < length text → s ≡ fold scan_after SCAN_START (take at text) → next ≡ scan_after s (get_or text at 0)
    → next ≡ fold scan_after SCAN_START (take (at + 1) text)
scanned_more text at s next inside is more =
    more ∙ ap (λ t. scan_after t (get_or text at 0)) is
    ∙ sym (ap (fold scan_after SCAN_START) (take_more text at 0 inside) ∙ fold-append scan_after SCAN_START (take at text) (get_or text at 0 ∷ []))

pub scanned_all : (text : List ℕ) (at : ℕ) (s : Scan) (weeks : ℕ) → length text ≤ at → s ≡ fold scan_after SCAN_START (take at text) → weeks ≡ weeks_of_scan s
    → weeks ≡ weeks_in text
unfolding weeks_in
scanned_all text at s weeks past is closed =
    closed ∙ ap weeks_of_scan is ∙ ap (λ t. weeks_of_scan (fold scan_after SCAN_START t)) (take_all at text past)

-- a text says but one set of weeks
pub one_set : (text : List ℕ) (weeks : ℕ) → IsWeeksText text weeks → weeks_in text ≡ weeks
one_set text weeks says = ap weeks_in says.is_text ∙ weeks_in-weeks_text weeks says.sixty_weeks
