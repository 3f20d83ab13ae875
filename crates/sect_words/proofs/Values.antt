-- Days, meetings and trees are read exactly.
use Rattle.std.proofs.Common.{◌≡◌, ℕ, ◌+◌, ◌<◌, ◌≤◌, ◌^◌, true, List, [], ◌∷◌, append-nil, Option, None, Some, refl, ap, sym, ◌∙◌, subst, arith, nat_lt, nat_le}
use Rattle.std.specs.Prelude.{if◌then◌else◌, ◌&&◌}
use Rattle.std.specs.Str.{bytes_eq}
use Rattle.std.proofs.lemmas.Option.{cond_some}
use Rattle.std.proofs.lemmas.Bool.{leb-true, le-leb, and_parts, and_from, ltb-true, lt-ltb}
use Rattle.sect_base.specs.Tree.{Tree}
use Rattle.sect_base.specs.Day.{LAST_DAY}
use Rattle.sect_base.specs.DayText.{IsDayText}
use Rattle.sect_base.specs.MeetingText.{meeting_text}
use Rattle.sect_base.specs.Pattern.{Pattern, IsPattern}
use Rattle.sect_base.proofs.DayTexts.{one_day}
use Rattle.sect_base.proofs.MeetingTexts.{says_days, says_time, says_weeks, read_is}
use Rattle.sect_command.specs.Reading.{tree_in}
use Rattle.sect_command.specs.TreeText.{HasText, tree_text}
use Rattle.sect_command.proofs.TreeLaws.{found_whole, again_tree}
use Rattle.sect_words.specs.Days.{found_below, day_text}
use Rattle.sect_words.specs.ReadingWords.{day_of, is_text_of, meeting_of, pattern_if, pattern_with, tree_of_word, whole_tree}
use Rattle.sect_words.proofs.Dates.{has_day}
use Rattle.sect_words.proofs.DayLaws.{found_at, some_found}
use Rattle.sect_words.proofs.Exact.{Exact, same_word, word_same}
use Rattle.sect_words.proofs.Numbers.{Apart, exact_number}

-- ---- days

days_apart : Apart day_text 84006
days_apart m n a b same = one_day (day_text n) m n (subst (λ text. IsDayText text m) same (has_day m (omega (arith, a)))) (has_day n (omega (arith, b)))

pub exact_day : Exact day_of day_text (λ day. day ≤ LAST_DAY)
unfolding day_of
exact_day =
    let exact = exact_number day_text 84006 days_apart in
    record {
      found = λ word day e. let p = exact.found word day e in (omega (arith, p.0), p.1);
      again = λ day fits. exact.again day (omega (arith, fits));
    }

-- ---- meetings

meetings_apart : (p q : Pattern) → IsPattern p → IsPattern q → meeting_text p ≡ meeting_text q → p ≡ q
meetings_apart p q is_p is_q same =
    let days = says_days (meeting_text p) q is_q same in
    let time = says_time (meeting_text p) q is_q same in
    let weeks = says_weeks (meeting_text p) q is_q same in
    sym (read_is (meeting_text p) p q.days q.start (q.start + q.slots) q.weeks is_p refl days time weeks)
    ∙ read_is (meeting_text p) q q.days q.start (q.start + q.slots) q.weeks is_q same days time weeks

-- a meeting within these bounds
record Within (p : Pattern) : Type 0 where
  days : p.days < 2 ^ 7
  start : p.start < 288
  weeks : p.weeks < 2 ^ 60

is_text_found : (p : Pattern) (word : List ℕ) → Within p → is_text_of p word ≡ true → IsPattern p × (word ≡ meeting_text p)
is_text_found p word within test =
    let a = and_parts (((nat_lt 0 p.days && nat_lt 0 p.slots) && nat_le (p.start + p.slots) 288) && nat_lt 0 p.weeks) (bytes_eq (meeting_text p) word) test in
    let b = and_parts ((nat_lt 0 p.days && nat_lt 0 p.slots) && nat_le (p.start + p.slots) 288) (nat_lt 0 p.weeks) a.0 in
    let c = and_parts (nat_lt 0 p.days && nat_lt 0 p.slots) (nat_le (p.start + p.slots) 288) b.0 in
    let d = and_parts (nat_lt 0 p.days) (nat_lt 0 p.slots) c.0 in (
      record {
        some_day = ltb-true 0 p.days d.0;
        weekdays = within.days;
        begins = within.start;
        some_slot = ltb-true 0 p.slots d.1;
        ends = leb-true (p.start + p.slots) 288 c.1;
        some_week = ltb-true 0 p.weeks b.1;
        sixty_weeks = within.weeks;
      },
      sym (same_word (meeting_text p) word a.1),
    )

text_is_found : (p : Pattern) → IsPattern p → is_text_of p (meeting_text p) ≡ true
text_is_found p is =
    and_from _ _ (and_from _ _ (and_from _ _ (and_from _ _ (lt-ltb 0 p.days is.some_day) (lt-ltb 0 p.slots is.some_slot)) (le-leb (p.start + p.slots) 288 is.ends)) (lt-ltb 0 p.weeks is.some_week))
    (word_same (meeting_text p) (meeting_text p) refl)

abbrev by_weeks : List ℕ → ℕ → ℕ → ℕ → Option Pattern
by_weeks word days start slots = found_below (pattern_if word days start slots) (2 ^ 60)

abbrev by_slots : List ℕ → ℕ → ℕ → Option Pattern
by_slots word days start = found_below (by_weeks word days start) 289

abbrev by_start : List ℕ → ℕ → Option Pattern
by_start word days = found_below (by_slots word days) 288

meeting_found : (word : List ℕ) (p : Pattern) → found_below (by_start word) (2 ^ 7) ≡ Some p → IsPattern p × (word ≡ meeting_text p)
meeting_found word p e =
    let days = found_at (by_start word) (2 ^ 7) p e in
    let start = found_at (by_slots word days.0) 288 p days.2 in
    let slots = found_at (by_weeks word days.0 start.0) 289 p start.2 in
    let weeks = found_at (pattern_if word days.0 start.0 slots.0) (2 ^ 60) p slots.2 in
    let q = pattern_with days.0 start.0 slots.0 weeks.0 in
    let test = cond_some (is_text_of q word) q p weeks.2 in
    subst (λ r. IsPattern r × (word ≡ meeting_text r)) test.1 (is_text_found q word (record { days = days.1; start = start.1; weeks = weeks.1 }) test.0)

meeting_again : (p : Pattern) → IsPattern p → found_below (by_start (meeting_text p)) (2 ^ 7) ≡ Some p
meeting_again p is =
    let word = meeting_text p in
    let hit : pattern_if word p.days p.start p.slots p.weeks ≡ Some p = ap (λ b. if b then Some p else None) (text_is_found p is) in
    let weeks = some_found (pattern_if word p.days p.start p.slots) (2 ^ 60) p.weeks p is.sixty_weeks hit in
    let slots = some_found (by_weeks word p.days p.start) 289 p.slots weeks.0 (omega (arith, is.ends)) weeks.1 in
    let start = some_found (by_slots word p.days) 288 p.start slots.0 is.begins slots.1 in
    let days = some_found (by_start word) (2 ^ 7) p.days start.0 is.weekdays start.1 in
    let found = meeting_found word days.0 days.1 in
    days.1 ∙ ap Some (sym (meetings_apart p days.0 is found.0 found.1))

pub exact_meeting : Exact meeting_of meeting_text IsPattern
unfolding meeting_of
exact_meeting = record { found = meeting_found; again = meeting_again }

-- ---- trees

tree_by : (word : List ℕ) (tree : Tree) (o : Option (Tree × List ℕ)) → tree_in 36 word ≡ o → whole_tree o ≡ Some tree → HasText 36 tree × (word ≡ tree_text tree)
tree_by word tree None is e = absurd (cc)
tree_by word tree (Some (t, [])) is e = let same : t ≡ tree = cc in subst (λ u. HasText 36 u × (word ≡ tree_text u)) same (found_whole 36 word t [] is refl)
tree_by word tree (Some (t, b ∷ bs)) is e = absurd (cc)

tree_found : (word : List ℕ) (tree : Tree) → tree_of_word word ≡ Some tree → HasText 36 tree × (word ≡ tree_text tree)
unfolding tree_of_word
tree_found word tree e = tree_by word tree (tree_in 36 word) refl e

tree_again : (tree : Tree) → HasText 36 tree → tree_of_word (tree_text tree) ≡ Some tree
unfolding tree_of_word
tree_again tree fits = ap whole_tree (ap (tree_in 36) (sym (append-nil (tree_text tree))) ∙ again_tree 36 tree [] fits refl)

pub exact_tree : Exact tree_of_word tree_text (HasText 36)
exact_tree = record { found = tree_found; again = tree_again }
