-- Which lines are refused.
use Rattle.std.proofs.Common.{◌≡◌, ◌↔◌, ◌≤◌, ℕ, ◌+◌, Bool, true, false, List, [], ◌∷◌, ◌++◌, length, length-append, append_assoc, Option, None, Some, refl, ap, sym, ◌∙◌, arith, inl, inr}
use Rattle.std.specs.Prelude.{if◌then◌else◌}
use Rattle.std.specs.List.{AllByRecursion}
use Rattle.sect_asking.specs.Asks.{IsAsking, IsKnown, is_passed_over}
use Rattle.sect_check.proofs.Said.{names_others}
use Rattle.sect_check.specs.Complaints.{complaint_of}
use Rattle.sect_script.specs.declared.script.RunEnd.{RunEnd}
use Rattle.sect_script.specs.declared.script.RunEnd.TheVariants as ends
use Rattle.sect_script.specs.declared.status.Status.TheVariants as statuses
use Rattle.sect_script.specs.Lines.{Line, bytes_of, text_of}
use Rattle.sect_script.specs.Reading.{LINE_LIMIT}
use Rattle.sect_script.specs.Run.{Ahead, HasNumber, IsRest, LINES_LIMIT, NextIsBad}
use Rattle.sect_clerk.specs.Checked.{AnyText, IsTaken, NamesTheRefused, RunWould, check_status, first_after, refused_first, said_of}

names_by : (passed : Bool) (number : ℕ) (line : List ℕ) → ((if passed then [] else complaint_of number line) ≡ []) ↔ IsAsking passed line
names_by true number line = (λ e. tt, λ asks. refl)
names_by false number line = names_others number line

-- nothing is said of a line exactly where a run takes it
pub names_refused : NamesTheRefused
unfolding said_of
names_refused number line = names_by (is_passed_over line) number line

-- the line isn't too long
abbrev pub IsShort : Line → Type 0
IsShort line = length (bytes_of line) ≤ LINE_LIMIT

-- one that was refused stays the first
stays : (first number : ℕ) (lines : List Line) → refused_first (Some first) number lines ≡ Some first
stays first number [] = refl
stays first number (line ∷ lines) = stays first (number + 1) lines

-- all lines are taken where none is refused
taken_by : (number : ℕ) (line : Line) (lines : List Line) (said : List ℕ) → said ≡ said_of number (text_of line) → IsShort line
    → (refused_first None (number + 1) lines ≡ None → AllByRecursion IsTaken lines)
    → refused_first (first_after None number said) (number + 1) lines ≡ None → AllByRecursion IsTaken (line ∷ lines)
taken_by number line lines [] is short more e = (record { short = short; known = (names_refused number (text_of line)).0 (sym is) }, more e)
taken_by number line lines (b ∷ bs) is short more e = absurd (let no : Some number ≡ None = sym (stays number (number + 1) lines) ∙ e in cc)

pub all_taken : (number : ℕ) (lines : List Line) → AllByRecursion IsShort lines → refused_first None number lines ≡ None → AllByRecursion IsTaken lines
all_taken number [] short e = tt
all_taken number (line ∷ lines) (here, rest) e =
    taken_by number line lines (said_of number (text_of line)) refl here (all_taken (number + 1) lines rest) e

-- the lines before the first that is refused, that line, and those behind it
pub record Split (number first : ℕ) (lines : List Line) : Type 0 where
  pub before : List Line
  pub bad : Line
  pub after : List Line
  pub whole : lines ≡ before ++ bad ∷ after
  pub place : first ≡ number + length before
  pub taken : AllByRecursion IsTaken before
  pub refused : IsKnown (text_of bad) → ⊥

split_by : (number first : ℕ) (line : Line) (lines : List Line) (said : List ℕ) → said ≡ said_of number (text_of line) → IsShort line
    → (refused_first None (number + 1) lines ≡ Some first → Split (number + 1) first lines)
    → refused_first (first_after None number said) (number + 1) lines ≡ Some first → Split number first (line ∷ lines)
split_by number first line lines [] is short more e =
    let s = more e in
    record {
      before = line ∷ s.before;
      bad = s.bad;
      after = s.after;
      whole = ap (λ (l : List Line). line ∷ l) s.whole;
      place = omega (arith, s.place);
      taken = (record { short = short; known = (names_refused number (text_of line)).0 (sym is) }, s.taken);
      refused = s.refused;
    }
split_by number first line lines (b ∷ bs) is short more e = record {
  before = [];
  bad = line;
  after = lines;
  whole = refl;
  place =
      let same : Some number ≡ Some first = sym (stays number (number + 1) lines) ∙ e in
      let here : number ≡ first = cc in
      omega (arith, here);
  taken = tt;
  refused = λ known. let none : said_of number (text_of line) ≡ [] = (names_refused number (text_of line)).1 known in
      absurd (let no : b ∷ bs ≡ [] = is ∙ none in cc);
}

pub split_at : (number first : ℕ) (lines : List Line) → AllByRecursion IsShort lines → refused_first None number lines ≡ Some first → Split number first lines
split_at number first [] short e = absurd (cc)
split_at number first (line ∷ lines) (here, rest) e =
    split_by number first line lines (said_of number (text_of line)) refl here (split_at (number + 1) first lines rest) e

-- ---- what a run would do

ahead_of : (left : Option (List ℕ)) (lines : List Line) (P Q : List Line → Type 0) → ((rest : List Line) → P rest → Q rest) → Ahead left lines P
    → Ahead left lines Q
ahead_of None lines P Q f h = tt
ahead_of (Some input) lines P Q f (rest, is, holds) = (rest, is, f rest holds)

-- the first that is refused stands behind those before it
ahead_split : (left : Option (List ℕ)) (first : ℕ) (lines : List Line) (P : List Line → Type 0) (s : Split 1 first lines) → Ahead left lines P
    → Ahead left s.before (NextIsBad IsKnown (length s.before))
ahead_split None first lines P s h = tt
ahead_split (Some input) first lines P s (rest, is, holds) = (
  s.bad ∷ (s.after ++ rest),
  is ∙ ap (λ (l : List Line). l ++ rest) s.whole ∙ append_assoc s.before (s.bad ∷ s.after) rest,
  (s.bad, s.after ++ rest, refl, inr (λ short known. s.refused known)),
)

few_before : (first : ℕ) (lines : List Line) (s : Split 1 first lines) → length lines ≤ LINES_LIMIT → length s.before ≤ LINES_LIMIT
few_before first lines s few =
    let sum : length lines ≡ length s.before + length (s.bad ∷ s.after) = ap length s.whole ∙ length-append s.before (s.bad ∷ s.after) in
    omega (arith, sum, few)

refused_would : (left : Option (List ℕ)) (first : ℕ) (lines : List Line) (P : List Line → Type 0) → length lines ≤ LINES_LIMIT
    → AllByRecursion IsShort lines → Ahead left lines P
    → refused_first None 1 lines ≡ Some first → RunWould (statuses.BadLine first 0) left
refused_would left first lines P few short input e =
    let s : Split 1 first lines = split_at 1 first lines short e in
    (s.before, omega (arith, s.place), refl, few_before first lines s few, s.taken, ahead_split left first lines P s input)

-- a line that is bad whatever it says is bad
next_is_bad : (before : ℕ) (rest : List Line) → NextIsBad AnyText before rest → NextIsBad IsKnown before rest
next_is_bad before rest (bad, more, is, inl many) = (bad, more, is, inl many)
next_is_bad before rest (bad, more, is, inr long) = (bad, more, is, inr (λ short known. long short tt))

would_by : (left : Option (List ℕ)) (lines : List Line) (end : RunEnd) (first : Option ℕ) → length lines ≤ LINES_LIMIT → AllByRecursion IsShort lines
    → Ahead left lines (IsRest AnyText end (length lines)) → HasNumber end (length lines) → refused_first None 1 lines ≡ first
    → RunWould (check_status first end) left
would_by left lines ends.Done None few short input number e = (lines, few, all_taken 1 lines short e, input)
would_by left lines ends.Done (Some first) few short input number e = refused_would left first lines _ few short input e
would_by left lines (ends.BadLine bad field) None few short input number e =
    (lines, number.0, number.1, few, all_taken 1 lines short e, ahead_of left lines _ _ (next_is_bad (length lines)) input)
would_by left lines (ends.BadLine bad field) (Some first) few short input number e = refused_would left first lines _ few short input e
would_by left lines ends.ReadFault first few short input number e = tt
would_by left lines ends.WriteFault first few short input number e = tt
would_by left lines ends.Memory first few short input number e = tt

pub run_would : (left : Option (List ℕ)) (lines : List Line) (end : RunEnd) → length lines ≤ LINES_LIMIT → AllByRecursion IsShort lines
    → Ahead left lines (IsRest AnyText end (length lines)) → HasNumber end (length lines) → RunWould (check_status (refused_first None 1 lines) end) left
run_would left lines end few short input number = would_by left lines end (refused_first None 1 lines) few short input number refl
