-- What serving many links at one desk is.
use Rattle.std.specs.Prelude.{◌≡◌, ◌⊎◌, ℕ, List, [], ◌∷◌, length, map, Option, Some}
use Rattle.std.specs.List.{concat}
use mathlib.Core.List.{IsPrefix}
use Rattle.sect_answer.specs.Answering.{Sitting}
use Rattle.sect_base.specs.declared.limit.Caller.{Caller}
use Rattle.sect_command.specs.declared.command.Command.{Command}
use Rattle.sect_command.specs.declared.reply.Reply.{Reply}
use Rattle.sect_edge.specs.Causes.{Rose}
use Rattle.sect_edge.specs.Link.{Connections}
use Rattle.sect_once.specs.declared.entry.Entry.{Entry}
use Rattle.sect_once.specs.declared.entry.Note.{Note}
use Rattle.sect_once.specs.Desks.{IsSound, Standing}
use Rattle.sect_once.specs.History.{faulted}
use Rattle.sect_talk.specs.Said.{Said}
use Rattle.sect_talk.specs.Asked.{Asked}
use Rattle.sect_turn.specs.Passes.{HasEachOnce}
use Rattle.sect_serve.specs.Talks.{FrontsBegin}
use Rattle.sect_serve.specs.Working.{WorkerDid}
use Rattle.sect_serve.specs.declared.server.WorkerEnd.{WorkerEnd}
use Rattle.sect_serve.specs.declared.server.WorkerEnd.TheVariants as workers
use Rattle.sect_serve.specs.declared.serving.ServeEnd.{ServeEnd}
use Rattle.sect_serve.specs.declared.serving.ServeEnd.TheVariants.{Done, LinkFault, Memory}

-- how serving ends where one more worker ended so: want of memory counts most, then a fault of a link
abbrev pub worse : ServeEnd → WorkerEnd → ServeEnd
worse end workers.Done = end
worse Done workers.Failed = LinkFault
worse LinkFault workers.Failed = LinkFault
worse Memory workers.Failed = Memory
worse end workers.Memory = Memory

-- the same of all workers
abbrev pub worst : ServeEnd → List WorkerEnd → ServeEnd
worst end [] = end
worst end (e ∷ es) = worst (worse end e) es

-- the count of some link rose
abbrev pub SomeRose : {L : Type 0} → (L → ℕ) → List L → List L → Type 0
SomeRose faults [] backs = ⊥
SomeRose faults (link ∷ links) [] = ⊥
SomeRose faults (link ∷ links) (back ∷ backs) = Rose (faults link) (faults back) ⊎ SomeRose faults links backs

module _ {I T L : Type 0} (answers : Sitting → Asked → Said → Sitting → Type 0)
    (left : I → Option (List ℕ)) (taken : T → Option (List ℕ)) (in_faults : I → ℕ) (out_faults : T → ℕ)
    (connections : L → Option (Connections (I × T))) (faults : L → ℕ) where
  -- a worker with its link as it came and as it was handed back, the days of its clock, and what it did; what it had seen begins the log
  pub record Worker (sessions : ℕ) (first log : List (Note Command Reply)) : Type 0 where
    pub link : L
    pub link_back : L
    pub days : Option (List ℕ)
    pub end : WorkerEnd
    pub seen : List (Note Command Reply)
    pub calls : List ℕ
    pub did : WorkerDid answers left taken in_faults out_faults (connections link) (connections link_back) (faults link) (faults link_back) days sessions end first seen calls
    pub within : IsPrefix seen log
    pub fronts : FrontsBegin answers left taken in_faults out_faults log did.talks

  -- the links were served from one front on, each by a worker of its own. What each had seen begins the log, and their calls are these, worker by worker
  pub record HaveServed (links backs : List L) (days : List (Option (List ℕ))) (sessions : ℕ) (end : ServeEnd) (first log : List (Note Command Reply)) (calls : List ℕ) : Type 0 where
    pub workers : List (Worker sessions first log)
    pub links_are : map (λ (w : Worker sessions first log). w.link) workers ≡ links
    pub backs_are : map (λ (w : Worker sessions first log). w.link_back) workers ≡ backs
    pub days_are : map (λ (w : Worker sessions first log). w.days) workers ≡ days
    pub calls_are : concat (map (λ (w : Worker sessions first log). w.calls) workers) ≡ calls
    pub end_is : end ≡ worst Done (map (λ (w : Worker sessions first log). w.end) workers)
    pub cause : end ≡ LinkFault → SomeRose faults links backs

module _ {I T L S K : Type 0} (start : S) (stepped : S → ℕ → Caller → Command → S × Reply) (is_row : Entry Command Reply → List ℕ → Type 0)
    (rows : K → Option (List (List ℕ))) (keeper_faults : K → ℕ) (answers : Sitting → Asked → Said → Sitting → Type 0)
    (left : I → Option (List ℕ)) (taken : T → Option (List ℕ)) (in_faults : I → ℕ) (out_faults : T → ℕ)
    (connections : L → Option (Connections (I × T))) (faults : L → ℕ) where
  -- the links were served at a desk, from the standing in which it was opened to its last. Each place that the log has won is one call of one connection
  pub record Serves (opened : Standing S Command Reply K) (back : K) (links backs : List L) (days : List (Option (List ℕ))) (sessions : ℕ) (end : ServeEnd) : Type 0 where
    pub last : Standing S Command Reply K
    pub calls : List ℕ
    pub served : HaveServed answers left taken in_faults out_faults connections faults links backs days sessions end opened.log last.log calls
    pub closing : HasEachOnce calls (length opened.log) (length last.log)
    pub grown : IsPrefix opened.log last.log
    pub sound : IsSound stepped is_row rows keeper_faults start last
    pub base : last.base ≡ opened.base
    pub back_is : back ≡ last.keeper
    -- the rows with which it was opened stand before those that were won
    pub begins : (old new : List (List ℕ)) → rows opened.keeper ≡ Some old → rows back ≡ Some new → IsPrefix old new
    -- a request is faulted only where the keeper's count rose
    pub quiet : (Rose opened.base (keeper_faults back) → ⊥) → faulted last.log ≡ 0
