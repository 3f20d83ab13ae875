-- The connections of one worker, one after another.
use Rattle.std.specs.Prelude.{◌≡◌, ◌≤◌, ℕ, List, [], ◌∷◌, ◌++◌, length, map, All, Option, Some, None}
use mathlib.Core.List.{IsPrefix}
use Rattle.sect_answer.specs.Answering.{Sitting}
use Rattle.sect_command.specs.declared.command.Command.{Command}
use Rattle.sect_command.specs.declared.reply.Reply.{Reply}
use Rattle.sect_edge.specs.Causes.{Rose}
use Rattle.sect_edge.specs.Link.{Connections}
use Rattle.sect_office.specs.Calls.{Rises}
use Rattle.sect_once.specs.declared.entry.Note.{Note}
use Rattle.sect_talk.specs.Said.{Said}
use Rattle.sect_talk.specs.Asked.{Asked}
use Rattle.sect_talk.specs.Talk.{Talked}
use Rattle.sect_talk.specs.declared.end.End.{End}
use Rattle.sect_talk.specs.declared.end.End.TheVariants.{ReadFault, WriteFault}

module _ {I T : Type 0} (answers : Sitting → Asked → Said → Sitting → Type 0)
    (left : I → Option (List ℕ)) (taken : T → Option (List ℕ)) (in_faults : I → ℕ) (out_faults : T → ℕ) where
  -- one connection as it came and as it was handed back: its transcript, and the calls that it added to those of its worker
  pub record Talk : Type 0 where
    pub came : I × T
    pub back : I × T
    pub before : Sitting
    pub after : Sitting
    pub first_step : ℕ
    pub next_step : ℕ
    pub end : End
    pub calls : List ℕ
    pub talked : Talked answers (left came.0) (left back.0) (taken came.1) (taken back.1) first_step next_step before after end
    pub own : after.own ≡ before.own ++ calls
    pub rises : Rises (length before.front) calls (length after.front)
    pub later : (in_faults came.0 ≤ in_faults back.0) × (out_faults came.1 ≤ out_faults back.1)
    pub read_fault : end ≡ ReadFault → Rose (in_faults came.0) (in_faults back.0)
    pub write_fault : end ≡ WriteFault → Rose (out_faults came.1) (out_faults back.1)

  -- the talks, one after another, lead from one sitting and step to others
  abbrev pub Follow : Sitting → ℕ → List Talk → Sitting → ℕ → Type 0
  Follow old step [] new next = (new ≡ old) × (next ≡ step)
  Follow old step (t ∷ ts) new next = (t.before ≡ old) × (t.first_step ≡ step) × Follow t.after t.next_step ts new next

  -- of a link that tells its connections the first that were to come are these, and they were handed back in the same order
  abbrev pub HandsBack : Option (Connections (I × T)) → Option (Connections (I × T)) → List Talk → Type 0
  HandsBack None told talks = told ≡ None
  HandsBack (Some old) told talks = (rest : List (I × T)) × (old.to_come ≡ map (λ (t : Talk). t.came) talks ++ rest)
      × (told ≡ Some (record { to_come = rest; out = old.out; handed_back = old.handed_back ++ map (λ (t : Talk). t.back) talks }))

  -- the front after each request of these talks begins the log
  abbrev pub FrontsBegin : List (Note Command Reply) → List Talk → Type 0
  FrontsBegin log talks = All (λ (t : Talk). All (λ x. IsPrefix x.after.front log) t.talked.exchanges) talks
