-- The lines of texts that are put together.
use Rattle.std.proofs.Common.{◌≡◌, ℕ, ◌+◌, ◌<◌, ◌≤◌, false, eqb, List, [], ◌∷◌, ◌++◌, length, refl, sym, ap, ◌∙◌, append_assoc, append-nil, arith, inl, inr}
use Rattle.std.specs.Prelude.{map}
use Rattle.std.specs.List.{AllByRecursion}
use Rattle.std.proofs.lemmas.List.Elements.{All-head, All-tail}
use Rattle.std.proofs.lemmas.Bool.Decides.{eqb_tells}
use Rattle.sect_script.specs.Lines.{Line, Ended, Unended, onto, lines_of, ended_lines, bytes_of, IsOneLine}
use Rattle.sect_script.specs.Progress.{spelled}

abbrev One : ℕ → Type 0
One byte = byte ≡ 10 → ⊥

no_feed : (byte : ℕ) → One byte → eqb byte 10 ≡ false
no_feed byte one = elim (eqb_tells byte 10) [ inl h ↦ absurd (one h.1) | inr h ↦ h.0 ]

first_not : (byte : ℕ) (line : List ℕ) → IsOneLine (byte ∷ line) → eqb byte 10 ≡ false
first_not byte line one = no_feed byte (All-head One byte line one)

-- a line with its line feed comes first
pub lines_of-feed : (line rest : List ℕ) → IsOneLine line → lines_of (line ++ 10 ∷ rest) ≡ Ended line ∷ lines_of rest
lines_of-feed [] rest one = refl
lines_of-feed (byte ∷ line) rest one =
    rw (first_not byte line one) (ap (onto byte) (lines_of-feed line rest (All-tail One byte line one)))

-- the lines of what has no line feed
abbrev pub last_line : List ℕ → List Line
last_line [] = []
last_line (byte ∷ line) = Unended (byte ∷ line) ∷ []

pub lines_of-one : (line : List ℕ) → IsOneLine line → lines_of line ≡ last_line line
lines_of-one [] one = refl
lines_of-one (byte ∷ []) one = rw (first_not byte [] one) refl
lines_of-one (byte ∷ next ∷ line) one =
    rw (first_not byte (next ∷ line) one) (ap (onto byte) (lines_of-one (next ∷ line) (All-tail One byte (next ∷ line) one)))

-- lines with their line feeds come first
pub lines_of-spelled : (done : List (List ℕ)) (rest : List ℕ) → AllByRecursion IsOneLine done
    → lines_of (spelled done ++ rest) ≡ map Ended done ++ lines_of rest
lines_of-spelled [] rest single = refl
lines_of-spelled (line ∷ done) rest single =
    ap lines_of (append_assoc line (10 ∷ spelled done) rest)
    ∙ lines_of-feed line (spelled done ++ rest) single.0
    ∙ ap (λ lines. Ended line ∷ lines) (lines_of-spelled done rest single.1)

pub spelled-push : (done : List (List ℕ)) (line : List ℕ) → spelled (done ++ line ∷ []) ≡ spelled done ++ (line ++ 10 ∷ [])
spelled-push [] line = refl
spelled-push (first ∷ done) line =
    ap (λ text. first ++ 10 ∷ text) (spelled-push done line) ∙ sym (append_assoc first (10 ∷ spelled done) (line ++ 10 ∷ []))

-- of whole lines and what has no line feed, the whole lines are ended
pub ended_lines-append : (done : List (List ℕ)) (lines : List Line) → ended_lines (map Ended done ++ lines) ≡ map Ended done ++ ended_lines lines
ended_lines-append [] lines = refl
ended_lines-append (line ∷ done) lines = ap (λ more. Ended line ∷ more) (ended_lines-append done lines)

ended_lines-last : (line : List ℕ) → ended_lines (last_line line) ≡ []
ended_lines-last [] = refl
ended_lines-last (byte ∷ line) = refl

pub ended_lines-one : (done : List (List ℕ)) (line : List ℕ) → AllByRecursion IsOneLine done → IsOneLine line
    → map Ended done ≡ ended_lines (lines_of (spelled done ++ line))
ended_lines-one done line single one =
    sym (ap ended_lines (lines_of-spelled done line single ∙ ap (λ lines. map Ended done ++ lines) (lines_of-one line one))
    ∙ ended_lines-append done (last_line line)
    ∙ ap (λ lines. map Ended done ++ lines) (ended_lines-last line)
    ∙ append-nil (map Ended done))

-- how long the first line is
abbrev first_length : List Line → ℕ
first_length [] = 0
first_length (line ∷ lines) = length (bytes_of line)

first_length-onto : (byte : ℕ) (lines : List Line) → first_length (onto byte lines) ≡ first_length lines + 1
first_length-onto byte [] = omega arith
first_length-onto byte (Ended line ∷ lines) = omega arith
first_length-onto byte (Unended line ∷ lines) = omega arith

first_is_long : (front more : List ℕ) → IsOneLine front → length front ≤ first_length (lines_of (front ++ more))
first_is_long [] more one = omega arith
first_is_long (byte ∷ front) more one =
    let tail = first_is_long front more (All-tail One byte front one) in
    rw (first_not byte front one) (omega (arith, first_length-onto byte (lines_of (front ++ more)), tail))

-- the first of the lines has more than n bytes
abbrev pub FirstIsLonger : ℕ → List Line → Type 0
FirstIsLonger n lines = (bad : Line) × (more : List Line) × (lines ≡ bad ∷ more) × (n < length (bytes_of bad))

longer_first : (n : ℕ) (lines : List Line) → n < first_length lines → FirstIsLonger n lines
longer_first n [] long = absurd (omega arith)
longer_first n (line ∷ lines) long = (line, lines, refl, long)

pub lines_of-long : (front more : List ℕ) (n : ℕ) → IsOneLine front → n < length front → FirstIsLonger n (lines_of (front ++ more))
lines_of-long front more n one long = longer_first n (lines_of (front ++ more)) (omega (arith, first_is_long front more one))
