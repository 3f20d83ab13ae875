-- What the desk does where it serves connections.
use Rattle.std.specs.Prelude.{◌≡◌, ◌⊎◌, ℕ, List, Option}
use Rattle.sect_answer.specs.Answering.{Sitting}
use Rattle.sect_command.specs.declared.command.Command.{Command}
use Rattle.sect_command.specs.declared.reply.Reply.{Reply}
use Rattle.sect_edge.specs.Link.{Connections}
use Rattle.sect_history.specs.Step.{stepped}
use Rattle.sect_history.specs.Throughout.{IsGoodThroughout}
use Rattle.sect_http.specs.Answers.{Answers}
use Rattle.sect_model.specs.Look.{look}
use Rattle.sect_model.specs.World.{State, empty_state}
use Rattle.sect_once.specs.Desks.{Standing}
use Rattle.sect_once.specs.History.{history}
use Rattle.sect_once.specs.Opening.{IsOpened}
use Rattle.sect_talk.specs.Said.{Said}
use Rattle.sect_script.specs.declared.status.Status.{Status}
use Rattle.sect_script.specs.declared.status.Status.TheVariants as statuses
use Rattle.sect_serve.specs.Serving.{Serves}
use Rattle.sect_serve.specs.declared.serving.ServeEnd.{ServeEnd}
use Rattle.sect_serve.specs.declared.serving.ServeEnd.TheVariants as ends
use Rattle.sect_talk.specs.Asked.{Asked}
use Rattle.sect_wire.specs.Laws.{IsRow}
use Rattle.sect_app.specs.Machine.{DeskStaysShut}

-- the status with which serving ends
abbrev pub serve_status : ServeEnd → Status
serve_status ends.Done = statuses.Done
serve_status ends.LinkFault = statuses.LinkFault
serve_status ends.Memory = statuses.Memory

-- what answers a request on a connection: the machine
abbrev pub MachineAnswers : Sitting → Asked → Said → Sitting → Type 0
MachineAnswers = Answers empty_state stepped IsRow look

module _ {I T L K : Type 0} (rows : K → Option (List (List ℕ))) (keeper_faults : K → ℕ)
    (left : I → Option (List ℕ)) (taken : T → Option (List ℕ)) (in_faults : I → ℕ) (out_faults : T → ℕ)
    (connections : L → Option (Connections (I × T))) (faults : L → ℕ) where
  -- the links were served over the machine's history, to which the keeper opened, and which is good throughout
  pub record ServesDesk (keeper back : K) (links backs : List L) (days : List (Option (List ℕ))) (sessions : ℕ) (status : Status) : Type 0 where
    pub opened : Standing State Command Reply K
    pub end : ServeEnd
    pub status_is : status ≡ serve_status end
    pub opens : IsOpened empty_state stepped IsRow rows keeper_faults keeper opened
    pub serves : Serves empty_state stepped IsRow rows keeper_faults MachineAnswers left taken in_faults out_faults connections faults
        opened back links backs days sessions end
    pub good : IsGoodThroughout (history serves.last.log)

  -- the keeper opened and the links were served, or it didn't open and they came back as they were
  abbrev pub ServesOver : K → K → List L → List L → List (Option (List ℕ)) → ℕ → Option (List ℕ) → Option (List ℕ) → Status → Type 0
  ServesOver keeper back links backs days sessions read wrote status =
      ServesDesk keeper back links backs days sessions status
      ⊎ (DeskStaysShut rows keeper_faults keeper back read read wrote wrote status × (backs ≡ links))
