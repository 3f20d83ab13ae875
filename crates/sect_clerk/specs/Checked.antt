-- What a check says of the lines of an input, and how it ends.
use Rattle.std.specs.Prelude.{◌≡◌, ◌↔◌, ◌≤◌, ℕ, ◌+◌, if◌then◌else◌, List, [], ◌∷◌, ◌++◌, length, ⊤, Option, None, Some}
use Rattle.std.specs.List.{AllByRecursion}
use Rattle.sect_script.specs.declared.script.RunEnd.{RunEnd}
use Rattle.sect_script.specs.declared.script.RunEnd.TheVariants as ends
use Rattle.sect_script.specs.declared.status.Status.{Status}
use Rattle.sect_script.specs.declared.status.Status.TheVariants as statuses
use Rattle.sect_script.specs.Lines.{Line, bytes_of, text_of}
use Rattle.sect_script.specs.Reading.{LINE_LIMIT}
use Rattle.sect_script.specs.Run.{LINES_LIMIT, Ahead, AreWhole, HasNumber, IsRest, NextIsBad, Writes}
use Rattle.sect_asking.specs.Asks.{IsKnown, is_passed_over}
use Rattle.sect_clerk.specs.declared.checker.Checker.{Checker}
use Rattle.sect_check.specs.Complaints.{complaint_of}

-- what is said of the line with this number: nothing where it is passed over or a request
unfoldable pub said_of : ℕ → List ℕ → List ℕ
said_of number line = if is_passed_over line then [] else complaint_of number line

-- nothing is said of a line exactly where a run takes it
abbrev pub NamesTheRefused : Type 0
NamesTheRefused = (number : ℕ) (line : List ℕ) → (said_of number line ≡ []) ↔ IsKnown line

-- the first that was refused, after a line with this number of which this was said
abbrev pub first_after : Option ℕ → ℕ → List ℕ → Option ℕ
first_after (Some first) number said = Some first
first_after None number [] = None
first_after None number (byte ∷ bytes) = Some number

-- a line was checked, and this was said of it
pub record ChecksLine (old : Checker) (line bytes : List ℕ) (new : Checker) : Type 0 where
  pub said : bytes ≡ said_of (old.lines + 1) line
  pub counted : new.lines ≡ old.lines + 1
  pub first : new.first ≡ first_after old.first (old.lines + 1) bytes

-- a line has an answer, whatever it says
abbrev pub AnyText : List ℕ → Type 0
AnyText line = ⊤

-- what is said of lines, the first of which has this number
abbrev pub complaints : ℕ → List Line → List ℕ
complaints number [] = []
complaints number (line ∷ lines) = said_of number (text_of line) ++ complaints (number + 1) lines

-- the number of the first line that is refused, where none was before
abbrev pub refused_first : Option ℕ → ℕ → List Line → Option ℕ
refused_first first number [] = first
refused_first first number (line ∷ lines) = refused_first (first_after first number (said_of number (text_of line))) (number + 1) lines

-- the status: that of a run which would end so, but where a line is refused
abbrev pub check_status : Option ℕ → RunEnd → Status
check_status first ends.ReadFault = statuses.ReadFault
check_status first ends.WriteFault = statuses.WriteFault
check_status first ends.Memory = statuses.Memory
check_status (Some line) ends.Done = statuses.BadLine line 0
check_status None ends.Done = statuses.Done
check_status (Some line) (ends.BadLine number field) = statuses.BadLine line 0
check_status None (ends.BadLine number field) = statuses.BadLine number field

-- these lines were checked, up to the end of the input, or to one that is too long or one too many; and what is said of them was written
pub record Checks (left left' taken taken' : Option (List ℕ)) (status : Status) : Type 0 where
  pub lines : List Line
  pub end : RunEnd
  pub few : length lines ≤ LINES_LIMIT
  pub short : AllByRecursion (λ line. length (bytes_of line) ≤ LINE_LIMIT) lines
  pub input : Ahead left lines (IsRest AnyText end (length lines))
  pub number : HasNumber end (length lines)
  pub whole : AreWhole end left left' lines
  pub written : Writes end taken taken' (complaints 1 lines)
  pub status_is : status ≡ check_status (refused_first None 1 lines) end

-- a run takes the line
pub record IsTaken (line : Line) : Type 0 where
  pub short : length (bytes_of line) ≤ LINE_LIMIT
  pub known : IsKnown (text_of line)

-- a run takes lines up to the end of the input, or to the line with this number, which it refuses
abbrev pub RunWould : Status → Option (List ℕ) → Type 0
RunWould statuses.Done left = (lines : List Line) × (length lines ≤ LINES_LIMIT) × AllByRecursion IsTaken lines × Ahead left lines (λ rest. rest ≡ [])
RunWould (statuses.BadLine number field) left =
    (lines : List Line) × (number ≡ length lines + 1) × (field ≡ 0) × (length lines ≤ LINES_LIMIT) × AllByRecursion IsTaken lines
    × Ahead left lines (NextIsBad IsKnown (length lines))
RunWould _ left = ⊤
