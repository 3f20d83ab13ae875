-- How a desk answers the commands of a table.
use Rattle.std.specs.Prelude.{◌≡◌, ◌⊎◌, ◌≤◌, ℕ, ◌+◌, ◌^◌, List, ◌∷◌, ◌++◌, length, take, Option, None, Some}
use Rattle.std.specs.Io.KnownBytes.{Appends}
use Rattle.sect_base.specs.declared.limit.Caller.{Caller}
use Rattle.sect_command.specs.declared.command.Command.{Command}
use Rattle.sect_command.specs.declared.reply.Reply.{Reply}
use Rattle.sect_edge.specs.Causes.{Rose}
use Rattle.sect_edge.specs.Clock.{GivesDay}
use Rattle.sect_once.specs.declared.answer.Answer.{Answer}
use Rattle.sect_once.specs.declared.entry.Entry.{Entry}
use Rattle.sect_once.specs.Desks.{Answers as AnswersAsk}
use Rattle.sect_once.specs.History.{IsFull}
use Rattle.sect_tables.specs.declared.given.Given.{Given}
use Rattle.sect_script.specs.declared.script.RunEnd.{RunEnd}
use Rattle.sect_script.specs.declared.script.RunEnd.TheVariants as ends
use Rattle.sect_script.specs.Gathering.{WritesBut, WritesFront}
use Rattle.sect_script.specs.Run.{AnswersEach}
use Rattle.sect_asking.specs.AnswerLines.{answer_line}
use Rattle.sect_asking.specs.Asks.{IsTold, Sitting}
use Rattle.sect_app.specs.Numbers.{Numbered, id_of, number_at, numbered}

module _ {O K : Type 0} (stepped : O → ℕ → Caller → Command → O × Reply) (is_row : Entry Command Reply → List ℕ → Type 0) (rows : K → Option (List (List ℕ))) (faults : K → ℕ) where
  -- registrar 0 asks the command by its number on the clock's next day, and these bytes are the line of the answer
  pub record AnswersNumbered (old : Sitting O Command Reply K) (it : Numbered) (bytes : List ℕ) (new : Sitting O Command Reply K) : Type 0 where
    pub day : ℕ
    pub answer : Answer Reply
    pub on : GivesDay old.days new.days day
    pub answered : AnswersAsk stepped is_row rows faults (id_of it.number) day it.given.command old.desk new.desk answer
    pub told : (IsFull is_row old.desk.log → ⊥) → (Rose (faults old.desk.keeper) (faults new.desk.keeper) → ⊥) → IsTold old.desk.log (id_of it.number) it.given.command answer
    pub written : bytes ≡ answer_line answer

-- what was gathered was written and the run goes on or ends so, or the sink failed
abbrev pub WritesThen : Option (List ℕ) → Option (List ℕ) → List ℕ → Option RunEnd → Option RunEnd → Type 0
WritesThen before after gathered end result =
    ((result ≡ end) × Appends before after gathered) ⊎ ((result ≡ Some ends.WriteFault) × WritesFront before after gathered)

module _ {H T : Type 0} (answers : H → Numbered → List ℕ → H → Type 0) (taken : T → Option (List ℕ)) where
  -- the commands were asked by the numbers from this one on, and the answers written
  abbrev pub Asks : ℕ → List Given → H → H → T → T → Type 0
  Asks at given old new sink sink' = (bytes : List ℕ) × AnswersEach answers old (numbered at given) bytes new × Appends (taken sink) (taken sink') bytes

  -- the commands were asked, and a front of the answers written
  abbrev pub AsksInPart : ℕ → List Given → H → H → T → T → Type 0
  AsksInPart at given old new sink sink' =
      (bytes : List ℕ) × (n : ℕ) × AnswersEach answers old (numbered at given) bytes new × Appends (taken sink) (taken sink') (take n bytes)

  -- the command was asked, and of what was gathered and its answer a front was written
  abbrev pub AsksUnwritten : Numbered → H → H → T → T → List ℕ → Type 0
  AsksUnwritten it old new sink sink' gathered = (bytes : List ℕ) × answers old it bytes new × WritesFront (taken sink) (taken sink') (gathered ++ bytes)

  -- what came of asking one command by its number, whose answer comes behind what was gathered
  abbrev pub AsksOne : Numbered → H → H → T → T → List ℕ → List ℕ → Option RunEnd → Type 0
  AsksOne it old new sink sink' gathered gathered' None =
      (bytes : List ℕ) × answers old it bytes new × WritesBut (taken sink) (taken sink') (gathered ++ bytes) gathered'
  AsksOne it old new sink sink' gathered gathered' (Some ends.Done) = ⊥
  AsksOne it old new sink sink' gathered gathered' (Some (ends.BadLine row field)) = ⊥
  AsksOne it old new sink sink' gathered gathered' (Some ends.ReadFault) = ⊥
  AsksOne it old new sink sink' gathered gathered' (Some ends.WriteFault) = AsksUnwritten it old new sink sink' gathered
  AsksOne it old new sink sink' gathered gathered' (Some ends.Memory) = AsksUnwritten it old new sink sink' gathered

  -- some of the first commands were asked, and a front of the answers written
  abbrev pub AsksSome : ℕ → List Given → H → H → T → T → Type 0
  AsksSome at given old new sink sink' =
      (done : List Given) × (rest : List Given) × (given ≡ done ++ rest) × (at + length done ≤ 2 ^ 64) × AsksInPart at done old new sink sink'

  -- what came of asking commands by the numbers from this one on: all were asked, one has no number, or a fault came between
  abbrev pub AsksEach : ℕ → List Given → H → H → T → T → Option ℕ → Option RunEnd → Type 0
  AsksEach at given old new sink sink' next None = (at + length given ≤ 2 ^ 64) × (next ≡ number_at (at + length given)) × Asks at given old new sink sink'
  AsksEach at given old new sink sink' next (Some ends.Done) = ⊥
  AsksEach at given old new sink sink' next (Some (ends.BadLine row field)) =
      (done : List Given) × (it : Given) × (rest : List Given) × (given ≡ done ++ it ∷ rest) × (row ≡ it.row) × (field ≡ 0) × (at + length done ≡ 2 ^ 64)
      × Asks at done old new sink sink'
  AsksEach at given old new sink sink' next (Some ends.ReadFault) = ⊥
  AsksEach at given old new sink sink' next (Some ends.WriteFault) = AsksSome at given old new sink sink'
  AsksEach at given old new sink sink' next (Some ends.Memory) = AsksSome at given old new sink sink'
