-- Something is said of each line that is no request.
use Rattle.std.proofs.Common.{◌≡◌, ℕ, List, [], ◌∷◌, length, refl, ap, ◌∙◌, subst}
use Rattle.std.specs.Prelude.{Result, Ok, Err}
use Rattle.sect_read.specs.declared.fault.WireFault.{WireFault}
use Rattle.sect_read.specs.declared.line.LineAsk.{LineAsk}
use Rattle.sect_read.specs.ReadingLines.{line_of}
use Rattle.sect_check.proofs.OfLines.{Ends, ends_line, passes_requests}
use Rattle.sect_check.specs.Complaints.{NamesOthers, complaint_of, missing_text, walk_text, word_text}
use Rattle.sect_check.specs.Walks.{Walk, line_walk, passed, stopped}
use Rattle.sect_words.specs.Parts.{pieces}

-- nothing is said only of a walk that was passed
passed_if : (number all : ℕ) (w : Walk) → walk_text number all w ≡ [] → (words : List (List ℕ)) × (w ≡ passed words)
unfolding missing_text word_text
passed_if number all (passed words) e = (words, refl)
passed_if number all (stopped [] form) e = absurd (cc)
passed_if number all (stopped (word ∷ words) form) e = absurd (cc)

none_left : (words : List (List ℕ)) (read : Result LineAsk WireFault) → Ends (passed words) read → words ≡ []
none_left words (Ok ask) e = e
none_left words (Err fault) e = absurd e

-- a walk of which nothing is said was passed to its end
passed_whole : (number : ℕ) (line : List ℕ) → complaint_of number line ≡ [] → line_walk line ≡ passed []
passed_whole number line e =
    let p = passed_if number (length (pieces 32 line)) (line_walk line) e in
    p.1 ∙ ap passed (none_left p.0 (line_of line) (subst (λ (w : Walk). Ends w (line_of line)) p.1 (ends_line line)))

-- nothing is said of a line exactly where it is a request
pub names_others : NamesOthers
names_others number line = (
  λ e. (passes_requests line).0 (passed_whole number line e),
  λ asks. ap (walk_text number (length (pieces 32 line))) ((passes_requests line).1 asks),
)
