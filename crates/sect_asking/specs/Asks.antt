-- How a desk answers a line.
use Rattle.std.specs.Prelude.{◌≡◌, ℕ, ◌==◌, Bool, true, false, List, [], ◌∷◌, ⊤, Option, Some, None, slice_get}
use Rattle.sect_base.specs.declared.limit.Caller.{Caller}
use Rattle.sect_base.specs.declared.limit.Id.{Id}
use Rattle.sect_command.specs.declared.command.Command.{Command}
use Rattle.sect_command.specs.declared.reply.Reply.{Reply}
use Rattle.sect_edge.specs.Causes.{Rose}
use Rattle.sect_edge.specs.Clock.{GivesDay}
use Rattle.sect_once.specs.declared.answer.Answer.{Answer}
use Rattle.sect_once.specs.declared.answer.Answer.TheVariants as answers
use Rattle.sect_once.specs.declared.entry.Entry.{Entry}
use Rattle.sect_once.specs.declared.entry.Note.{Note}
use Rattle.sect_once.specs.Desks.{HasOther, Standing, Answers as AnswersAsk}
use Rattle.sect_once.specs.History.{history, IsFull}
use Rattle.sect_read.specs.declared.line.LineAsk.{LineAsk}
use Rattle.sect_wire.specs.Lines.{IsLine}
use Rattle.sect_asking.specs.AnswerLines.{answer_line}

-- a desk, and the days that its clock has to give, where the clock tells them
pub record Sitting (O C R K : Type 0) : Type 0 where
  pub desk : Standing O C R K
  pub days : Option (List ℕ)

-- an empty line, or one that begins with `#`
abbrev pub is_passed_over : List ℕ → Bool
is_passed_over [] = true
is_passed_over (byte ∷ bytes) = byte == 35

-- a line that isn't passed over is a request
abbrev pub IsAsking : Bool → List ℕ → Type 0
IsAsking true line = ⊤
IsAsking false line = (ask : LineAsk) × IsLine line ask

-- the line is passed over, or is a request
abbrev pub IsKnown : List ℕ → Type 0
IsKnown line = IsAsking (is_passed_over line) line

-- a request that finds room and meets no fault is Done, told the place of an entry with its id and another command, or told that memory was wanted
abbrev pub IsTold : List (Note Command Reply) → Id → Command → Answer Reply → Type 0
IsTold log id command (answers.Done place reply) = ⊤
IsTold log id command (answers.NumberReused place) = HasOther log place id command
IsTold log id command answers.LogFull = ⊥
IsTold log id command answers.KeeperFault = ⊥
IsTold log id command answers.Memory = ⊤

-- where the answer is of an entry, this has its reply
abbrev pub HasReply : List (Note Command Reply) → Answer Reply → Type 0
HasReply log (answers.Done place reply) = (e : Entry Command Reply) × (slice_get (history log) place ≡ Some e) × (e.reply ≡ reply)
HasReply log (answers.NumberReused place) = ⊤
HasReply log answers.LogFull = ⊤
HasReply log answers.KeeperFault = ⊤
HasReply log answers.Memory = ⊤

-- the day that the line names, or else the clock's next
abbrev pub IsAskedOn : Option ℕ → Option (List ℕ) → Option (List ℕ) → ℕ → Type 0
IsAskedOn (Some named) days days' day = (day ≡ named) × (days' ≡ days)
IsAskedOn None days days' day = GivesDay days days' day

module _ {O K : Type 0} (stepped : O → ℕ → Caller → Command → O × Reply) (is_row : Entry Command Reply → List ℕ → Type 0) (rows : K → Option (List (List ℕ))) (faults : K → ℕ) where
  -- the line is a request, which the desk answers on its day, and these bytes are the line of the answer
  pub record AnswersRequest (old : Sitting O Command Reply K) (line bytes : List ℕ) (new : Sitting O Command Reply K) : Type 0 where
    pub ask : LineAsk
    pub day : ℕ
    pub answer : Answer Reply
    pub is_line : IsLine line ask
    pub on : IsAskedOn ask.day old.days new.days day
    pub answered : AnswersAsk stepped is_row rows faults ask.id day ask.command old.desk new.desk answer
    pub told : (IsFull is_row old.desk.log → ⊥) → (Rose (faults old.desk.keeper) (faults new.desk.keeper) → ⊥) → IsTold old.desk.log ask.id ask.command answer
    pub written : bytes ≡ answer_line answer

  -- a line that is passed over is answered by nothing
  abbrev pub AnswersText : Bool → Sitting O Command Reply K → List ℕ → List ℕ → Sitting O Command Reply K → Type 0
  AnswersText true old line bytes new = (bytes ≡ []) × (new ≡ old)
  AnswersText false old line bytes new = AnswersRequest old line bytes new

  -- the line is answered by these bytes
  abbrev pub AnswersScript : Sitting O Command Reply K → List ℕ → List ℕ → Sitting O Command Reply K → Type 0
  AnswersScript old line bytes new = AnswersText (is_passed_over line) old line bytes new
