-- How far a run has come.
use Rattle.std.specs.Prelude.{◌≡◌, ◌⊎◌, ◌<◌, ◌≤◌, ℕ, ◌+◌, List, [], ◌∷◌, ◌++◌, map, length, take, Option, Some, None}
use Rattle.std.specs.List.{AllByRecursion}
use Rattle.std.specs.Io.KnownBytes.{Consumes}
use Rattle.sect_script.specs.declared.script.RunEnd.{RunEnd}
use Rattle.sect_script.specs.declared.script.RunEnd.TheVariants as ends
use Rattle.sect_script.specs.Gathering.{WritesBut, WritesFront}
use Rattle.sect_script.specs.Lines.{Line, Ended, IsOneLine}
use Rattle.sect_script.specs.Run.{LINES_LIMIT, Ahead, Answers, AreWhole, HasNumber, IsRest, MayAnswer}

-- lines with their line feeds
abbrev pub spelled : List (List ℕ) → List ℕ
spelled [] = []
spelled (line ∷ lines) = line ++ 10 ∷ spelled lines

-- the lines before number `number` were answered, `pending` was read since, and of the answers `gathered` isn't written yet
pub record Progress {H : Type 0} (answers : H → List ℕ → List ℕ → H → Type 0)
    (left left' taken taken' : Option (List ℕ)) (old new : H) (number : ℕ) (pending gathered : List ℕ) : Type 0 where
  pub read : List ℕ
  pub done : List (List ℕ)
  pub bytes : List ℕ
  pub consumed : Consumes left left' read
  pub split : read ≡ spelled done ++ pending
  pub single : AllByRecursion IsOneLine done
  pub answered : Answers answers old (map Ended done) bytes new
  pub written : WritesBut taken taken' bytes gathered
  pub count : number ≡ length done + 1
  pub few : length done ≤ LINES_LIMIT

-- the answers were written but for those that are gathered, and at a fault of the sink or want of memory a front of them was
abbrev pub WritesYet : RunEnd → Option (List ℕ) → Option (List ℕ) → List ℕ → List ℕ → Type 0
WritesYet ends.Done old new bytes gathered = WritesBut old new bytes gathered
WritesYet (ends.BadLine number field) old new bytes gathered = WritesBut old new bytes gathered
WritesYet ends.ReadFault old new bytes gathered = WritesBut old new bytes gathered
WritesYet ends.WriteFault old new bytes gathered = (n : ℕ) × WritesBut old new (take n bytes) gathered
WritesYet ends.Memory old new bytes gathered = (n : ℕ) × WritesBut old new (take n bytes) gathered

-- a run ended so, as `Ran` says, but for the answers that are gathered
pub record Ends {H : Type 0} (known : List ℕ → Type 0) (answers : H → List ℕ → List ℕ → H → Type 0)
    (left left' taken taken' : Option (List ℕ)) (old new : H) (gathered : List ℕ) (end : RunEnd) : Type 0 where
  pub lines : List Line
  pub few : length lines ≤ LINES_LIMIT
  pub bytes : List ℕ
  pub answered : Answers answers old lines bytes new
  pub input : Ahead left lines (IsRest known end (length lines))
  pub number : HasNumber end (length lines)
  pub whole : AreWhole end left left' lines
  pub written : WritesYet end taken taken' bytes gathered

-- the run goes on with the next line, or it ended but for the answers that are gathered
abbrev pub GoesOn : {H : Type 0} → (List ℕ → Type 0) → (H → List ℕ → List ℕ → H → Type 0) → Option (List ℕ) → Option (List ℕ)
    → Option (List ℕ) → Option (List ℕ) → H → H → ℕ → List ℕ → List ℕ → Option RunEnd → Type 0
GoesOn known answers left left' taken taken' old new number pending gathered None =
    Progress answers left left' taken taken' old new (number + 1) pending gathered
GoesOn known answers left left' taken taken' old new number pending gathered (Some end) =
    Ends known answers left left' taken taken' old new gathered end

-- nothing was written or gathered
abbrev pub Stays : {K : Type 0} → K → K → List ℕ → List ℕ → Type 0
Stays sink sink' gathered gathered' = (sink' ≡ sink) × (gathered' ≡ gathered)

-- what came of answering one line: at want of memory it was answered or not, and its answer isn't among those that are gathered
abbrev pub Turns : {H K : Type 0} → (List ℕ → Type 0) → (H → List ℕ → List ℕ → H → Type 0) → (K → Option (List ℕ)) → H → H → K → K
    → List ℕ → List ℕ → ℕ → List ℕ → Option RunEnd → Type 0
Turns known answers taken old new sink sink' gathered gathered' number line None = (number ≤ LINES_LIMIT)
    × (bytes : List ℕ) × answers old line bytes new × WritesBut (taken sink) (taken sink') (gathered ++ bytes) gathered'
Turns known answers taken old new sink sink' gathered gathered' number line (Some ends.Done) = ⊥
Turns known answers taken old new sink sink' gathered gathered' number line (Some (ends.BadLine bad field)) = (bad ≡ number) × (field ≡ 0) × (new ≡ old)
    × Stays sink sink' gathered gathered' × ((LINES_LIMIT < number) ⊎ (known line → ⊥))
Turns known answers taken old new sink sink' gathered gathered' number line (Some ends.ReadFault) = ⊥
Turns known answers taken old new sink sink' gathered gathered' number line (Some ends.WriteFault) = (number ≤ LINES_LIMIT)
    × (bytes : List ℕ) × answers old line bytes new × WritesFront (taken sink) (taken sink') (gathered ++ bytes) × (gathered' ≡ [])
Turns known answers taken old new sink sink' gathered gathered' number line (Some ends.Memory) = (number ≤ LINES_LIMIT)
    × MayAnswer answers old line new × Stays sink sink' gathered gathered'
