-- What is said of a line that is no request.
use Rattle.std.specs.Prelude.{◌≡◌, ◌↔◌, ℕ, ◌+◌, ◌-◌, ◌==◌, ◌||◌, nat_lt, Bool, true, false, List, [], ◌∷◌, ◌++◌, length, map, if◌then◌else◌, codes, decimal, take}
use Rattle.std.specs.List.{list_any}
use Rattle.std.specs.Str.{bytes_eq}
use Rattle.sect_read.specs.declared.line.LineAsk.{LineAsk}
use Rattle.sect_read.specs.Lines.{IsLine}
use Rattle.sect_words.specs.Parts.{pieces}
use Rattle.sect_words.specs.ReadingWords.{is_nothing}
use Rattle.sect_check.specs.declared.form.Form.{Form}
use Rattle.sect_check.specs.Expected.{form_text}
use Rattle.sect_check.specs.Walks.{Walk, passed, stopped, line_walk}

-- a byte as it is shown: `?` stands for a control of ASCII
abbrev pub shown : ℕ → ℕ
shown byte = if nat_lt byte 32 || byte == 127 then 63 else byte

-- the byte stands in the word
abbrev pub has : ℕ → List ℕ → Bool
has byte word = list_any (λ b. b == byte) word

-- the word begins with a byte order mark
abbrev pub is_marked : List ℕ → Bool
is_marked word = bytes_eq (take 3 word) (239 ∷ (187 ∷ (191 ∷ [])))

-- what a reader may not see in a word
unfoldable pub remark_of : List ℕ → List ℕ
remark_of word =
    if is_nothing word then codes "; there are two spaces, or one at an end of the line" else
    (if is_marked word then codes "; it begins with a byte order mark" else
    (if has 9 word then codes "; it has a tab" else
    (if has 13 word then codes "; it has a carriage return" else [])))

-- the form that is expected
unfoldable pub expected_text : Form → List ℕ
expected_text form = codes ": expected " ++ form_text form

-- the word with this number, counted from 1, has not the form that is expected there
unfoldable pub word_text : ℕ → ℕ → List ℕ → Form → List ℕ
word_text line number word form =
    codes "line " ++ (decimal line ++ (codes " word " ++ (decimal number ++ (codes " \"" ++ (map shown word ++ (codes "\""
    ++ (expected_text form ++ (remark_of word ++ codes "\n"))))))))

-- the word with this number, counted from 1, is missing where this form is expected
unfoldable pub missing_text : ℕ → ℕ → Form → List ℕ
missing_text line number form =
    codes "line " ++ (decimal line ++ (codes " word " ++ (decimal number ++ (codes " is missing" ++ (expected_text form ++ codes "\n")))))

-- what is said of the line with this number and so many words, where these words are left from the first that has not this form
abbrev pub stop_text : ℕ → ℕ → List (List ℕ) → Form → List ℕ
stop_text line all [] form = missing_text line (all + 1) form
stop_text line all (word ∷ words) form = word_text line (all - length words) word form

-- the same of a walk over its words
abbrev pub walk_text : ℕ → ℕ → Walk → List ℕ
walk_text line all (passed words) = []
walk_text line all (stopped words form) = stop_text line all words form

-- what is said of the line with this number, where its words aren't those of a request
abbrev pub complaint_of : ℕ → List ℕ → List ℕ
complaint_of number line = walk_text number (length (pieces 32 line)) (line_walk line)

-- nothing is said of a line exactly where it is a request
abbrev pub NamesOthers : Type 0
NamesOthers = (number : ℕ) (line : List ℕ) → (complaint_of number line ≡ []) ↔ ((ask : LineAsk) × IsLine line ask)
