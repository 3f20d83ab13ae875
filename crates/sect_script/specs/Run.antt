-- What a run over the lines of a source does.
use Rattle.std.specs.Prelude.{◌≡◌, ◌⊎◌, ◌≤◌, ℕ, ◌+◌, List, [], ◌∷◌, ◌++◌, length, take, ⊤, Option, IfSome}
use Rattle.std.specs.Io.KnownBytes.{Appends, Consumes}
use Rattle.sect_script.specs.declared.script.RunEnd.{RunEnd}
use Rattle.sect_script.specs.declared.script.RunEnd.TheVariants as ends
use Rattle.sect_script.specs.Lines.{Line, lines_of, ended_lines, bytes_of, text_of}
use Rattle.sect_script.specs.Reading.{LINE_LIMIT}

-- how many lines an input may have
abbrev pub LINES_LIMIT : ℕ
LINES_LIMIT = 16777216

-- an answer in one state may have come, and led to another
abbrev pub MayAnswer : {H : Type 0} → (H → List ℕ → List ℕ → H → Type 0) → H → List ℕ → H → Type 0
MayAnswer answers old line new = (new ≡ old) ⊎ ((bytes : List ℕ) × answers old line bytes new)

-- the line is answered by the bytes that were put behind these
abbrev pub AnswersBehind : {H : Type 0} → (H → List ℕ → List ℕ → H → Type 0) → H → List ℕ → List ℕ → List ℕ → H → Type 0
AnswersBehind answers old line before after new = (bytes : List ℕ) × (after ≡ before ++ bytes) × answers old line bytes new

-- in this state the line, which isn't too long, is answered by these bytes
abbrev pub AnswersLine : {H : Type 0} → (H → List ℕ → List ℕ → H → Type 0) → H → Line → List ℕ → H → Type 0
AnswersLine answers old line bytes new = (length (bytes_of line) ≤ LINE_LIMIT) × answers old (text_of line) bytes new

-- these bytes answer what is asked, one after another
abbrev pub AnswersEach : {H X : Type 0} → (H → X → List ℕ → H → Type 0) → H → List X → List ℕ → H → Type 0
AnswersEach answers old [] bytes new = (bytes ≡ []) × (new ≡ old)
AnswersEach {H} answers old (x ∷ xs) bytes new = (mid : H) × (first : List ℕ) × (more : List ℕ)
    × answers old x first mid × AnswersEach answers mid xs more new × (bytes ≡ first ++ more)

-- these bytes answer the lines one after another
abbrev pub Answers : {H : Type 0} → (H → List ℕ → List ℕ → H → Type 0) → H → List Line → List ℕ → H → Type 0
Answers answers old lines bytes new = AnswersEach (AnswersLine answers) old lines bytes new

-- the lines come first in the input, and this holds of those behind them
abbrev pub Ahead : Option (List ℕ) → List Line → (List Line → Type 0) → Type 0
Ahead told lines P = IfSome told (λ input. (rest : List Line) × (lines_of input ≡ lines ++ rest) × P rest)

-- the line is too long, or its text is none of those that are known
abbrev pub IsBad : (List ℕ → Type 0) → Line → Type 0
IsBad known line = length (bytes_of line) ≤ LINE_LIMIT → known (text_of line) → ⊥

-- the next of the lines is bad, or is one too many
abbrev pub NextIsBad : (List ℕ → Type 0) → ℕ → List Line → Type 0
NextIsBad known before rest = (bad : Line) × (more : List Line) × (rest ≡ bad ∷ more)
    × ((LINES_LIMIT ≤ before) ⊎ IsBad known bad)

-- which lines stand behind those that were answered, at each end
abbrev pub IsRest : (List ℕ → Type 0) → RunEnd → ℕ → List Line → Type 0
IsRest known ends.Done before rest = rest ≡ []
IsRest known (ends.BadLine number field) before rest = NextIsBad known before rest
IsRest known ends.ReadFault before rest = ⊤
IsRest known ends.WriteFault before rest = ⊤
IsRest known ends.Memory before rest = ⊤

-- a bad line has the number behind those that were answered, and no field of it is named
abbrev pub HasNumber : RunEnd → ℕ → Type 0
HasNumber ends.Done before = ⊤
HasNumber (ends.BadLine number field) before = (number ≡ before + 1) × (field ≡ 0)
HasNumber ends.ReadFault before = ⊤
HasNumber ends.WriteFault before = ⊤
HasNumber ends.Memory before = ⊤

-- the answers were written, and at a fault of the sink or want of memory a front of them
abbrev pub Writes : RunEnd → Option (List ℕ) → Option (List ℕ) → List ℕ → Type 0
Writes ends.Done old new bytes = Appends old new bytes
Writes (ends.BadLine number field) old new bytes = Appends old new bytes
Writes ends.ReadFault old new bytes = Appends old new bytes
Writes ends.WriteFault old new bytes = (n : ℕ) × Appends old new (take n bytes)
Writes ends.Memory old new bytes = (n : ℕ) × Appends old new (take n bytes)

-- at a fault of the source the lines are those that were read whole
abbrev pub AreWhole : RunEnd → Option (List ℕ) → Option (List ℕ) → List Line → Type 0
AreWhole ends.Done old new lines = ⊤
AreWhole (ends.BadLine number field) old new lines = ⊤
AreWhole ends.ReadFault old new lines = (read : List ℕ) × Consumes old new read × (lines ≡ ended_lines (lines_of read))
AreWhole ends.WriteFault old new lines = ⊤
AreWhole ends.Memory old new lines = ⊤

-- a run answered these lines, of which there are at most as many as an input may have, and whose texts may be those that are known; and it wrote
-- the answers
pub record Ran {H : Type 0} (known : List ℕ → Type 0) (answers : H → List ℕ → List ℕ → H → Type 0)
    (left left' taken taken' : Option (List ℕ)) (old new : H) (status : RunEnd) : Type 0 where
  pub lines : List Line
  pub few : length lines ≤ LINES_LIMIT
  pub bytes : List ℕ
  pub answered : Answers answers old lines bytes new
  pub input : Ahead left lines (IsRest known status (length lines))
  pub number : HasNumber status (length lines)
  pub whole : AreWhole status left left' lines
  pub written : Writes status taken taken' bytes
