-- How lines are tried: each is answered as it would be, and the desk stays as it is.
use Rattle.std.specs.Prelude.{◌≡◌, ◌⊎◌, ℕ, Bool, true, false, List, [], Option}
use Rattle.sect_base.specs.declared.limit.Caller.{Caller}
use Rattle.sect_command.specs.declared.command.Command.{Command}
use Rattle.sect_command.specs.declared.reply.Reply.{Reply}
use Rattle.sect_once.specs.declared.answer.Answer.{Answer}
use Rattle.sect_once.specs.declared.entry.Entry.{Entry}
use Rattle.sect_once.specs.Desks.{Standing}
use Rattle.sect_once.specs.Opening.{IsOpened}
use Rattle.sect_read.specs.declared.line.LineAsk.{LineAsk}
use Rattle.sect_wire.specs.Lines.{IsLine}
use Rattle.sect_script.specs.declared.script.RunEnd.{RunEnd}
use Rattle.sect_script.specs.declared.status.Status.{Status}
use Rattle.sect_script.specs.Run.{Ran}
use Rattle.sect_script.specs.Statuses.{status_of}
use Rattle.sect_asking.specs.AnswerLines.{answer_line}
use Rattle.sect_asking.specs.Asks.{is_passed_over, IsAskedOn, IsKnown, Sitting}
use Rattle.sect_asking.specs.Desk.{StaysShut}
use Rattle.sect_clerk.specs.Answered.{WouldAnswer}

module _ {O K : Type 0} (stepped : O → ℕ → Caller → Command → O × Reply) (is_row : Entry Command Reply → List ℕ → Type 0) where
  -- the line is a request, these bytes are the line of what the desk would answer on its day, and the desk is as before
  pub record TriesRequest (old : Sitting O Command Reply K) (line bytes : List ℕ) (new : Sitting O Command Reply K) : Type 0 where
    pub ask : LineAsk
    pub day : ℕ
    pub answer : Answer Reply
    pub is_line : IsLine line ask
    pub on : IsAskedOn ask.day old.days new.days day
    pub would : WouldAnswer stepped is_row ask.id day ask.command old.desk answer
    pub same : new.desk ≡ old.desk
    pub written : bytes ≡ answer_line answer

  -- a line that is passed over is answered by nothing
  abbrev pub TriesText : Bool → Sitting O Command Reply K → List ℕ → List ℕ → Sitting O Command Reply K → Type 0
  TriesText true old line bytes new = (bytes ≡ []) × (new ≡ old)
  TriesText false old line bytes new = TriesRequest old line bytes new

  -- the line is answered by these bytes
  abbrev pub TriesLine : Sitting O Command Reply K → List ℕ → List ℕ → Sitting O Command Reply K → Type 0
  TriesLine old line bytes new = TriesText (is_passed_over line) old line bytes new

module _ {O K : Type 0} (start : O) (stepped : O → ℕ → Caller → Command → O × Reply) (is_row : Entry Command Reply → List ℕ → Type 0) (rows : K → Option (List (List ℕ))) (faults : K → ℕ) where
  -- the lines of the input were tried on the desk to which the keeper opened, each on the desk as it was at the opening
  pub record TriesLines (keeper back : K) (left left' taken taken' days : Option (List ℕ)) (status : Status) : Type 0 where
    pub opened : Standing O Command Reply K
    pub last : Sitting O Command Reply K
    pub end : RunEnd
    pub status_is : status ≡ status_of end
    pub opens : IsOpened start stepped is_row rows faults keeper opened
    pub ran : Ran IsKnown (TriesLine stepped is_row) left left' taken taken' (record { desk = opened; days = days }) last end
    pub stays : last.desk ≡ opened
    pub back_is : back ≡ opened.keeper

  -- the keeper opened and the lines were tried, or it didn't open
  abbrev pub Tries : K → K → Option (List ℕ) → Option (List ℕ) → Option (List ℕ) → Option (List ℕ) → Option (List ℕ) → Status → Type 0
  Tries keeper back left left' taken taken' days status =
      TriesLines keeper back left left' taken taken' days status ⊎ StaysShut start stepped is_row rows faults keeper back left left' taken taken' status
