-- What is done where connections are served.
use Rattle.std.proofs.Common.{◌≡◌, ℕ, true, false, List, Option, Some, None, refl, inl}
use Rattle.std.specs.Prelude.{IfSome, IsSome}
use Rattle.sect_command.specs.declared.command.Command.{Command}
use Rattle.sect_command.specs.declared.reply.Reply.{Reply}
use Rattle.sect_edge.specs.Link.{Connections}
use Rattle.sect_history.specs.Laws.{ReplaysAreGood}
use Rattle.sect_history.specs.Step.{stepped}
use Rattle.sect_model.specs.World.{State, empty_state}
use Rattle.sect_once.specs.Desks.{Standing}
use Rattle.sect_once.specs.History.{history}
use Rattle.sect_once.specs.Opening.{IsOpened}
use Rattle.sect_script.specs.declared.status.Status.{Status}
use Rattle.sect_script.specs.declared.status.Status.TheVariants as statuses
use Rattle.sect_serve.specs.Serving.{Serves, SomeRose}
use Rattle.sect_serve.specs.declared.serving.ServeEnd.{ServeEnd}
use Rattle.sect_serve.specs.declared.serving.ServeEnd.TheVariants as ends
use Rattle.sect_wire.specs.Laws.{IsRow}
use Rattle.sect_app.specs.Serving.{MachineAnswers, ServesOver, serve_status}

module _ {I T L K : Type 0} (rows : K → Option (List (List ℕ))) (keeper_faults : K → ℕ)
    (left : I → Option (List ℕ)) (taken : T → Option (List ℕ)) (in_faults : I → ℕ) (out_faults : T → ℕ)
    (connections : L → Option (Connections (I × T))) (faults : L → ℕ) where
  -- the desk that was served at, told with its keeper
  abbrev pub ServedAt : Standing State Command Reply K → List L → List L → List (Option (List ℕ)) → ℕ → ServeEnd → K → Type 0
  ServedAt opened links backs days sessions end back =
      Serves empty_state stepped IsRow rows keeper_faults MachineAnswers left taken in_faults out_faults connections faults opened back links backs days sessions end

  pub serves_desk : (keeper : K) (opened : Standing State Command Reply K) (links backs : List L) (days : List (Option (List ℕ))) (sessions : ℕ) (end : ServeEnd)
      (status : Status) (read wrote : Option (List ℕ)) (back : Option K) → status ≡ serve_status end → ReplaysAreGood → IsOpened empty_state stepped IsRow rows keeper_faults keeper opened
      → IfSome back (ServedAt opened links backs days sessions end)
      → IfSome back (λ b. ServesOver rows keeper_faults left taken in_faults out_faults connections faults keeper b links backs days sessions read wrote status)
  serves_desk keeper opened links backs days sessions end status read wrote None is law opens served = tt
  serves_desk keeper opened links backs days sessions end status read wrote (Some back) is law opens served =
      inl (record { opened = opened; end = end; status_is = is; opens = opens; serves = served; good = law (history served.last.log) served.sound.legal.replies })

  -- a fault of the links is told only where one of them rose
  pub link_rose : (opened : Standing State Command Reply K) (links backs : List L) (days : List (Option (List ℕ))) (sessions : ℕ) (end : ServeEnd) (back : Option K)
      → IsSome back → IfSome back (ServedAt opened links backs days sessions end)
      → serve_status end ≡ statuses.LinkFault → SomeRose faults links backs
  link_rose opened links backs days sessions ends.Done back some served is = absurd cc
  link_rose opened links backs days sessions ends.Memory back some served is = absurd cc
  link_rose opened links backs days sessions ends.LinkFault None some served is = absurd (let no : false ≡ true = some in cc)
  link_rose opened links backs days sessions ends.LinkFault (Some back) some served is = served.served.cause refl
