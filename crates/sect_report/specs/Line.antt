-- A line of a report: words with a space between each two, and a line feed.
use Rattle.std.specs.Prelude.{ℕ, ℤ, List, [], ◌∷◌, ◌++◌, Option, None, Some, decimal}
use Rattle.std.specs.Fmt.{signed_decimal}
use Rattle.sect_report.specs.declared.line.Word.{Word}
use Rattle.sect_report.specs.declared.line.Word.TheVariants.{Name, Number, Optional, Space, Places, Courses, Sections, Choice, Tree}
use Rattle.sect_command.specs.TreeText.{tree_text}
use Rattle.sect_words.specs.Words.{choice_text, course_text, limit_text, list_text, optional_text, section_text}

-- each word behind a space, which is 32, and the line feed
abbrev pub more_words_text : List (List ℕ) → List ℕ
more_words_text [] = 10 ∷ []
more_words_text (word ∷ words) = 32 ∷ word ++ more_words_text words

-- the words of a line, of which there is one at least
abbrev pub line_text : List (List ℕ) → List ℕ
line_text [] = 10 ∷ []
line_text (word ∷ words) = word ++ more_words_text words

-- unreserved space, which is signed, or a dash where there is no limit
abbrev pub space_text : Option ℤ → List ℕ
space_text None = 45 ∷ []
space_text (Some n) = signed_decimal n

-- the text of a word
abbrev pub word_text : Word → List ℕ
word_text (Name name) = name.now
word_text (Number n) = decimal n
word_text (Optional n) = optional_text decimal n
word_text (Space n) = space_text n
word_text (Places limit) = limit_text limit
word_text (Courses ids) = list_text 43 course_text ids.now
word_text (Sections ids) = list_text 43 section_text ids.now
word_text (Choice choice) = choice_text choice.now
word_text (Tree tree) = tree_text tree.now
