-- How many requests are answered that the keeper failed.
use Rattle.std.specs.Prelude.{◌≡◌, ◌==◌, ℕ, Bool, true, false, List, [], ◌∷◌, ◌++◌, Option, count_by, flat_map}
use Rattle.sect_answer.specs.Answering.{Sitting as Pass}
use Rattle.sect_command.specs.declared.command.Command.{Command}
use Rattle.sect_command.specs.declared.reply.Reply.{Reply}
use Rattle.sect_command.specs.declared.view.Table.{Table}
use Rattle.sect_edge.specs.Causes.{Rose}
use Rattle.sect_edge.specs.Link.{Connections}
use Rattle.sect_history.specs.Step.{stepped}
use Rattle.sect_model.specs.World.{State, empty_state}
use Rattle.sect_once.specs.declared.answer.Answer.{Answer}
use Rattle.sect_once.specs.declared.answer.Answer.TheVariants as answers
use Rattle.sect_once.specs.declared.entry.Note.{Note}
use Rattle.sect_once.specs.Faults.{AtMostFaults}
use Rattle.sect_wire.specs.Laws.{IsRow}
use Rattle.sect_script.specs.declared.status.Status.{Status}
use Rattle.sect_script.specs.Lines.{Line, text_of}
use Rattle.sect_script.specs.Run.{Answers, AnswersEach}
use Rattle.sect_talk.specs.Asked.{Exchange}
use Rattle.sect_asking.specs.Asks.{AnswersScript, AnswersText, Sitting, is_passed_over}
use Rattle.sect_asking.specs.Desk.{RunsLines}
use Rattle.sect_app.specs.Asking.{AnswersNumbered}
use Rattle.sect_app.specs.Numbers.{Numbered, numbered}
use Rattle.sect_app.specs.Opened.{RunsTable}
use Rattle.sect_serve.specs.Serving.{Worker}
use Rattle.sect_serve.specs.Talks.{Talk}
use Rattle.sect_app.specs.Serving.{MachineAnswers, ServesDesk}

-- the answer is `fault`
abbrev pub is_fault : Answer Reply → Bool
is_fault (answers.Done place reply) = false
is_fault (answers.NumberReused place) = false
is_fault answers.LogFull = false
is_fault answers.KeeperFault = true
is_fault answers.Memory = false

-- of these answers no more are of a fault than a count rose, and so none where it didn't rise
pub record AreFew (told before now : ℕ) : Type 0 where
  pub few : AtMostFaults told before now
  pub none : (Rose before now → ⊥) → told ≡ 0

module _ {K : Type 0} (rows : K → Option (List (List ℕ))) (faults : K → ℕ) where
  -- the answer to a line, where it isn't passed over
  abbrev pub line_told : (over : Bool) (old : Sitting State Command Reply K) (line bytes : List ℕ) (new : Sitting State Command Reply K)
      → AnswersText stepped IsRow rows faults over old line bytes new → List (Answer Reply)
  line_told true old line bytes new same = []
  line_told false old line bytes new told = told.answer ∷ []

  -- the answers to lines, one after another
  abbrev pub lines_told : (old : Sitting State Command Reply K) (lines : List Line) (bytes : List ℕ) (new : Sitting State Command Reply K)
      → Answers (AnswersScript stepped IsRow rows faults) old lines bytes new → List (Answer Reply)
  lines_told old [] bytes new same = []
  lines_told old (line ∷ lines) bytes new (mid, first, more, told, rest, all) =
      line_told (is_passed_over (text_of line)) old (text_of line) first mid told.1 ++ lines_told mid lines more new rest

  -- the answers to the commands of a table, one after another
  abbrev pub commands_told : (old : Sitting State Command Reply K) (asked : List Numbered) (bytes : List ℕ) (new : Sitting State Command Reply K)
      → AnswersEach (AnswersNumbered stepped IsRow rows faults) old asked bytes new → List (Answer Reply)
  commands_told old [] bytes new same = []
  commands_told old (it ∷ asked) bytes new (mid, first, more, told, rest, all) = told.answer ∷ commands_told mid asked more new rest

  -- of the answers of a run over lines few are `fault`
  abbrev pub FewOfLines : Type 0
  FewOfLines = (keeper back : K) (left left' taken taken' days : Option (List ℕ)) (status : Status)
      (runs : RunsLines empty_state stepped IsRow rows faults keeper back left left' taken taken' days status)
      → AreFew (count_by is_fault (lines_told (record { desk = runs.opened; days = days }) runs.ran.lines runs.ran.bytes runs.last runs.ran.answered))
      (faults keeper) (faults back)

  -- of the answers of an import few are `fault`
  abbrev pub FewOfTables : Type 0
  FewOfTables = (table : Table) (term : Option ℕ) (first : ℕ) (keeper back : K) (left left' taken taken' days : Option (List ℕ)) (status : Status)
      (runs : RunsTable empty_state stepped IsRow rows faults table term first keeper back left left' taken taken' days status)
      → AreFew (count_by is_fault
      (commands_told (record { desk = runs.opened; days = days }) (numbered first runs.ran.asks.asked) runs.ran.asks.bytes runs.last runs.ran.asks.answered))
      (faults keeper) (faults back)

-- the answer has the status of a fault of the keeper
abbrev pub is_unavailable : Exchange Pass → Bool
is_unavailable x = x.said.page.status == 503

module _ {I T L : Type 0} (left : I → Option (List ℕ)) (taken : T → Option (List ℕ)) (in_faults : I → ℕ) (out_faults : T → ℕ)
    (connections : L → Option (Connections (I × T))) (faults : L → ℕ) where
  -- the requests and answers of all connections of a link
  abbrev pub talks_told : List (Talk MachineAnswers left taken in_faults out_faults) → List (Exchange Pass)
  talks_told talks = flat_map (λ (t : Talk MachineAnswers left taken in_faults out_faults). t.talked.exchanges) talks

  -- the requests and answers of all connections of all links
  abbrev pub links_told : (sessions : ℕ) (first log : List (Note Command Reply))
      → List (Worker MachineAnswers left taken in_faults out_faults connections faults sessions first log) → List (Exchange Pass)
  links_told sessions first log workers =
      flat_map (λ (w : Worker MachineAnswers left taken in_faults out_faults connections faults sessions first log). talks_told w.did.talks) workers

module _ {I T L K : Type 0} (rows : K → Option (List (List ℕ))) (keeper_faults : K → ℕ)
    (left : I → Option (List ℕ)) (taken : T → Option (List ℕ)) (in_faults : I → ℕ) (out_faults : T → ℕ)
    (connections : L → Option (Connections (I × T))) (faults : L → ℕ) where
  -- of the answers on all connections few are 503
  abbrev pub FewOfConnections : Type 0
  FewOfConnections = (keeper back : K) (links backs : List L) (days : List (Option (List ℕ))) (sessions : ℕ) (status : Status)
      (desk : ServesDesk rows keeper_faults left taken in_faults out_faults connections faults keeper back links backs days sessions status)
      → AreFew (count_by is_unavailable
      (links_told left taken in_faults out_faults connections faults sessions desk.opened.log desk.serves.last.log desk.serves.served.workers))
      (keeper_faults keeper) (keeper_faults back)
