-- What a run over a log does.
use Rattle.std.specs.Prelude.{◌≡◌, ℕ, true, false, List, [], ◌∷◌, ◌++◌, length, Option, Some, None}
use Rattle.std.specs.List.{AllByRecursion, AllZip}
use Rattle.sect_command.specs.declared.command.Command.{Command}
use Rattle.sect_command.specs.declared.reply.Reply.{Reply}
use Rattle.sect_model.specs.World.{empty_state}
use Rattle.sect_once.specs.declared.entry.Entry.{Entry}
use Rattle.sect_once.specs.History.{IsReplay}
use Rattle.sect_history.specs.Step.{stepped}
use Rattle.sect_read.specs.declared.line.LineAsk.{LineAsk}
use Rattle.sect_wire.specs.Laws.{IsRow}
use Rattle.sect_wire.specs.Lines.{IsLine}
use Rattle.sect_script.specs.declared.status.Status.TheVariants as statuses
use Rattle.sect_script.specs.Lines.{Line, lines_of, text_of}
use Rattle.sect_asking.specs.Asks.{is_passed_over}
use Rattle.sect_asking.specs.Desk.{Runs}
use Rattle.sect_clerk.specs.declared.log.Log.{Log}
use Rattle.sect_clerk.specs.Log.{log_text}

-- the log of the whole history
abbrev pub whole : Log
whole = record { student = None; section = None; from = 0 }

-- the request of an entry, on its day
abbrev pub asked_by : Entry Command Reply → LineAsk
asked_by e = record { day = Some e.day; id = e.id; command = e.command }

-- a run doesn't pass the line over, and it asks the entry's request on the entry's day
pub record AsksEntry (e : Entry Command Reply) (line : Line) : Type 0 where
  pub not_passed : is_passed_over (text_of line) ≡ false
  pub asks : IsLine (text_of line) (asked_by e)

-- a run passes the line over
abbrev pub IsComment : Line → Type 0
IsComment line = is_passed_over (text_of line) ≡ true

-- the lines ask the entries one after another, each by one line with comments behind it
abbrev pub AskEach : List (Entry Command Reply) → List Line → Type 0
AskEach [] lines = lines ≡ []
AskEach (e ∷ es) lines =
    (line : Line) × (comments rest : List Line) × AsksEntry e line × AllByRecursion IsComment comments × AskEach es rest × (lines ≡ line ∷ (comments ++ rest))

-- the lines of the whole log of entries with rows ask them one after another
abbrev pub LogAsks : Type 0
LogAsks = (es : List (Entry Command Reply)) (texts : List (List ℕ)) → AllZip IsRow es texts → AskEach es (lines_of (log_text whole es))

module _ {K : Type 0} (rows : K → Option (List (List ℕ))) (faults : K → ℕ) where
  -- a run over the whole log of a history with these rows, on a keeper with none, that ends Done with as many rows, leaves these
  abbrev pub LogIsTaken : Type 0
  LogIsTaken =
      (es : List (Entry Command Reply)) (texts all : List (List ℕ)) (keeper back : K) (left' taken taken' days : Option (List ℕ))
      → IsReplay stepped empty_state es → AllZip IsRow es texts → rows keeper ≡ Some [] → rows back ≡ Some all → length all ≡ length texts
      → Runs empty_state stepped IsRow rows faults keeper back (Some (log_text whole es)) left' taken taken' days statuses.Done → all ≡ texts
