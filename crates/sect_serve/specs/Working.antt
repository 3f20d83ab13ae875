-- What a worker did with its link.
use Rattle.std.specs.Prelude.{◌≡◌, ◌≤◌, ◌⊎◌, ℕ, List, [], length, map, ⊤, Option, Some, None}
use Rattle.std.specs.List.{concat}
use Rattle.sect_answer.specs.Answering.{Sitting}
use Rattle.sect_command.specs.declared.command.Command.{Command}
use Rattle.sect_command.specs.declared.reply.Reply.{Reply}
use Rattle.sect_edge.specs.Causes.{Rose}
use Rattle.sect_edge.specs.Link.{Connections}
use Rattle.sect_once.specs.declared.entry.Note.{Note}
use Rattle.sect_talk.specs.Said.{Said}
use Rattle.sect_talk.specs.Asked.{Asked}
use Rattle.sect_serve.specs.Talks.{Talk, Follow, HandsBack}
use Rattle.sect_serve.specs.declared.server.WorkerEnd.{WorkerEnd}
use Rattle.sect_serve.specs.declared.server.WorkerEnd.TheVariants.{Done, Failed, Memory}

-- no connection is to come, where they are told
abbrev pub NoneToCome : {C : Type 0} → Option (Connections C) → Type 0
NoneToCome None = ⊤
NoneToCome (Some told) = told.to_come ≡ []

-- a worker is done where none is to come, or where it has talked as often as it may; it failed where its link's count rose
abbrev pub IsWorkerEnd : {C : Type 0} → WorkerEnd → Option (Connections C) → ℕ → ℕ → ℕ → ℕ → Type 0
IsWorkerEnd Done told count count' talks sessions = NoneToCome told ⊎ (talks ≡ sessions)
IsWorkerEnd Failed told count count' talks sessions = Rose count count'
IsWorkerEnd Memory told count count' talks sessions = ⊤

-- a worker that has seen a front, has no calls of its own yet, and has a clock with these days
abbrev pub at_first : List (Note Command Reply) → Option (List ℕ) → Sitting
at_first front days = record { front = front; own = []; days = days }

module _ {I T : Type 0} (answers : Sitting → Asked → Said → Sitting → Type 0)
    (left : I → Option (List ℕ)) (taken : T → Option (List ℕ)) (in_faults : I → ℕ) (out_faults : T → ℕ) where
  -- the talks of a worker, from the first front to the one that it had seen at its end: what its link told before and behind, the
  -- link's count of faults, the days of its clock, how many talks it may have, how it ended, and its calls
  pub record WorkerDid (told told' : Option (Connections (I × T))) (count count' : ℕ) (days : Option (List ℕ)) (sessions : ℕ) (end : WorkerEnd)
      (first seen : List (Note Command Reply)) (calls : List ℕ) : Type 0 where
    pub talks : List (Talk answers left taken in_faults out_faults)
    pub last : Sitting
    pub steps : ℕ
    pub follow : Follow answers left taken in_faults out_faults (at_first first days) 0 talks last steps
    pub seen_is : last.front ≡ seen
    pub calls_are : concat (map (λ (t : Talk answers left taken in_faults out_faults). t.calls) talks) ≡ calls
    pub back : HandsBack answers left taken in_faults out_faults told told' talks
    pub few : length talks ≤ sessions
    pub ended : IsWorkerEnd end told' count count' (length talks) sessions
    pub later : count ≤ count'

  -- so many talks lead from one sitting and step to others, and were handed back
  pub record Underway (told told' : Option (Connections (I × T))) (count count' : ℕ) (old new : Sitting) (step next n : ℕ) : Type 0 where
    pub talks : List (Talk answers left taken in_faults out_faults)
    pub follow : Follow answers left taken in_faults out_faults old step talks new next
    pub back : HandsBack answers left taken in_faults out_faults told told' talks
    pub many : length talks ≡ n
    pub later : count ≤ count'

  -- a worker has talked over one more connection, or it ended
  abbrev pub Attends : Option (Connections (I × T)) → Option (Connections (I × T)) → ℕ → ℕ → Sitting → Sitting → ℕ → ℕ → Option WorkerEnd → Type 0
  Attends told told' count count' old new step next None = Underway told told' count count' old new step next 1
  Attends told told' count count' old new step next (Some end) = (told' ≡ told) × (count ≤ count') × (new ≡ old) × (next ≡ step)
      × ((talks sessions : ℕ) → IsWorkerEnd end told' count count' talks sessions)

  -- a worker has talked over at most so many connections, and ended
  abbrev pub Works : Option (Connections (I × T)) → Option (Connections (I × T)) → ℕ → ℕ → Sitting → Sitting → ℕ → ℕ → ℕ → WorkerEnd → Type 0
  Works told told' count count' old new step next sessions end = (n : ℕ) × Underway told told' count count' old new step next n
      × (n ≤ sessions) × IsWorkerEnd end told' count count' n sessions
