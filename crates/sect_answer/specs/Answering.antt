-- What is answered to a request that asks for something, and what it changes.
use Rattle.std.specs.Prelude.{◌≡◌, ◌⊎◌, ℕ, Bool, true, false, List, Option, None, Result, Ok, Err}
use mathlib.Core.List.{IsPrefix}
use Rattle.sect_base.specs.declared.duplicate.Memory.{Memory}
use Rattle.sect_base.specs.declared.limit.Caller.{Caller}
use Rattle.sect_base.specs.declared.limit.Id.{Id}
use Rattle.sect_command.specs.declared.command.Command.{Command}
use Rattle.sect_command.specs.declared.reply.Reply.{Reply}
use Rattle.sect_command.specs.declared.view.Query.{Query}
use Rattle.sect_command.specs.declared.view.View.{View}
use Rattle.sect_edge.specs.Clock.{GivesDay}
use Rattle.sect_wire.specs.Answers.{answer_body, answer_status}
use Rattle.sect_office.specs.Offices.{Shows}
use Rattle.sect_once.specs.declared.answer.Answer.{Answer}
use Rattle.sect_once.specs.declared.answer.Answer.TheVariants as answers
use Rattle.sect_once.specs.declared.entry.Entry.{Entry}
use Rattle.sect_once.specs.declared.entry.Note.{Note}
use Rattle.sect_once.specs.History.{history, state_after, IsLegal, NeverFull}
use Rattle.sect_talk.specs.declared.page.Page.{Page}
use Rattle.sect_talk.specs.Said.{Said, json_page, no_command, no_memory, no_route, other_method, report_said}
use Rattle.sect_report.specs.Answer.{report_text}
use Rattle.sect_turn.specs.Passes.{front, own_calls}
use Rattle.sect_turn.specs.declared.turn.Pass.{Pass}
use Rattle.sect_answer.specs.declared.errand.Errand.{Errand}
use Rattle.sect_answer.specs.declared.errand.Errand.TheVariants.{NoRoute, OtherMethod, NoCommand, Asks, Looks}

-- what a pass has seen and done, and the days that its clock has to give, where the clock tells them
pub record Sitting : Type 0 where
  pub front : List (Note Command Reply)
  pub own : List ℕ
  pub days : Option (List ℕ)

-- the same of a pass and the days of a clock
abbrev pub sitting : {V : Type 0} → Pass V (Note Command Reply) → Option (List ℕ) → Sitting
sitting pass days = record { front = front pass; own = own_calls pass; days = days }

-- the connection closes behind want of memory alone
abbrev pub closes_behind : Answer Reply → Bool
closes_behind (answers.Done place reply) = false
closes_behind (answers.NumberReused place) = false
closes_behind answers.LogFull = false
closes_behind answers.KeeperFault = false
closes_behind answers.Memory = true

-- the page of an answer of the office, with its text
abbrev pub answer_said : Answer Reply → Said
answer_said a = record { page = json_page (answer_status a) None (closes_behind a); body = answer_body a }

-- the answer is told; of a request that acted the text may have wanted memory
abbrev pub Tells : Answer Reply → Said → Type 0
Tells (answers.Done place reply) said = (said ≡ answer_said (answers.Done place reply)) ⊎ (said ≡ no_memory)
Tells (answers.NumberReused place) said = said ≡ answer_said (answers.NumberReused place)
Tells answers.LogFull said = said ≡ answer_said answers.LogFull
Tells answers.KeeperFault said = said ≡ answer_said answers.KeeperFault
Tells answers.Memory said = said ≡ answer_said answers.Memory

-- the page that was returned, with its text; without one, want of memory
abbrev pub said_of : Result Page Memory → List ℕ → Said
said_of (Ok page) text = record { page = page; body = text }
said_of (Err _) text = no_memory

module _ {S : Type 0} (start : S) (stepped : S → ℕ → Caller → Command → S × Reply) (is_row : Entry Command Reply → List ℕ → Type 0) (looked : S → Query → View) where
  -- the office is asked the command on the clock's next day, and what it answers at the new front is told
  pub record DoesAsk (id : Id) (command : Command) (old : Sitting) (said : Said) (new : Sitting) : Type 0 where
    pub day : ℕ
    pub answer : Answer Reply
    pub on : GivesDay old.days new.days day
    pub grown : IsPrefix old.front new.front
    pub legal : IsLegal stepped start new.front
    pub roomy : NeverFull is_row new.front
    pub shows : Shows is_row id day command old.front new.front old.own new.own answer
    pub told : Tells answer said

  -- the report at the new front is told, or memory was wanted; nothing is asked and the clock isn't read
  pub record DoesLook (query : Query) (old : Sitting) (said : Said) (new : Sitting) : Type 0 where
    pub grown : IsPrefix old.front new.front
    pub legal : IsLegal stepped start new.front
    pub own : new.own ≡ old.own
    pub days : new.days ≡ old.days
    pub told : (said ≡ report_said (report_text query (looked (state_after stepped start (history new.front)) query))) ⊎ (said ≡ no_memory)

  -- the errand is done, and answered by this
  abbrev pub Does : Errand → Sitting → Said → Sitting → Type 0
  Does NoRoute old said new = (new ≡ old) × (said ≡ no_route)
  Does (OtherMethod method) old said new = (new ≡ old) × (said ≡ other_method method)
  Does NoCommand old said new = (new ≡ old) × (said ≡ no_command)
  Does (Asks id command) old said new = DoesAsk id command old said new
  Does (Looks query) old said new = DoesLook query old said new
