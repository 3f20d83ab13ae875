-- What a request would be answered, and that it is answered so where it is asked.
use Rattle.std.specs.Prelude.{◌≡◌, ◌⊎◌, ℕ, List, length, Option}
use Rattle.sect_base.specs.declared.limit.Caller.{Caller}
use Rattle.sect_base.specs.declared.limit.Id.{Id}
use Rattle.sect_once.specs.declared.answer.Answer.{Answer}
use Rattle.sect_once.specs.declared.answer.Answer.TheVariants.{Done, NumberReused, LogFull, KeeperFault, Memory}
use Rattle.sect_once.specs.declared.entry.Entry.{Entry}
use Rattle.sect_once.specs.declared.entry.Note.{Note}
use Rattle.sect_once.specs.Desks.{Answers, HasEntry, HasOther, IsSound, Standing}
use Rattle.sect_once.specs.History.{IsFull, IsNew, history}

module _ {O C R K : Type 0} (stepped : O → ℕ → Caller → C → O × R) (is_row : Entry C R → List ℕ → Type 0) where
  -- a new request would act at the next place, with the object's reply
  pub record WouldAct (id : Id) (day : ℕ) (command : C) (d : Standing O C R K) (place : ℕ) (reply : R) : Type 0 where
    pub is_new : IsNew id (history d.log)
    pub roomy : IsFull is_row d.log → ⊥
    pub place_is : place ≡ length (history d.log)
    pub reply_is : reply ≡ (stepped d.object day id.caller command).1

  -- what a request would be answered by the desk as it stands: a repeat from its own place, and nothing of a keeper's fault
  abbrev pub WouldAnswer : Id → ℕ → C → Standing O C R K → Answer R → Type 0
  WouldAnswer id day command d (Done place reply) = HasEntry d.log place id command reply ⊎ WouldAct id day command d place reply
  WouldAnswer id day command d (NumberReused place) = HasOther d.log place id command
  WouldAnswer id day command d LogFull = IsNew id (history d.log) × IsFull is_row d.log
  WouldAnswer id day command d KeeperFault = ⊥
  WouldAnswer id day command d Memory = IsNew id (history d.log) → IsFull is_row d.log → ⊥

module _ {R : Type 0} where
  -- the answer tells of no fault of the keeper and no want of memory
  abbrev pub IsSaid : Answer R → Type 0
  IsSaid (Done place reply) = Unit {0}
  IsSaid (NumberReused place) = Unit {0}
  IsSaid LogFull = Unit {0}
  IsSaid KeeperFault = ⊥
  IsSaid Memory = ⊥

module _ {O C R K : Type 0} (start : O) (stepped : O → ℕ → Caller → C → O × R) (is_row : Entry C R → List ℕ → Type 0) (rows : K → Option (List (List ℕ))) (faults : K → ℕ) where
  -- what a request would be answered is what it is answered where the same is asked, unless one of the two tells of a fault
  -- of the keeper or of want of memory
  abbrev pub TriedIsAnswered : Type 0
  TriedIsAnswered = (id : Id) (day : ℕ) (command : C) (d n : Standing O C R K) (tried answer : Answer R) → IsSound stepped is_row rows faults start d
      → WouldAnswer stepped is_row id day command d tried → Answers stepped is_row rows faults id day command d n answer
      → IsSaid tried → IsSaid answer → tried ≡ answer
