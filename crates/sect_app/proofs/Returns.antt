-- What an export writes comes back, by the laws of tables.
use Rattle.std.specs.Prelude.{◌⊎◌, ℕ, List, Option}
use Rattle.std.proofs.Common.{inl, inr, subst, sym}
use Rattle.sect_command.specs.declared.command.Command.{Command}
use Rattle.sect_command.specs.declared.reply.Reply.{Reply}
use Rattle.sect_command.specs.declared.view.Query.TheVariants.{Rows}
use Rattle.sect_command.specs.declared.view.Table.{Table}
use Rattle.sect_history.specs.Step.{state_of, stepped}
use Rattle.sect_model.specs.Look.{look}
use Rattle.sect_model.specs.World.{empty_state}
use Rattle.sect_once.specs.declared.entry.Note.{Note}
use Rattle.sect_once.specs.History.{IsReplay, NeverFull, history}
use Rattle.sect_return.specs.Again.{TablesReturn}
use Rattle.sect_return.specs.Back.{IsReadAs}
use Rattle.sect_return.specs.States.{LogsReadBack, asks_rows}
use Rattle.sect_wire.specs.Laws.{IsRow}
use Rattle.sect_script.specs.declared.status.Status.{Status}
use Rattle.sect_script.specs.declared.status.Status.TheVariants as statuses
use Rattle.sect_asking.specs.Desk.{StaysShut}
use Rattle.sect_tell.specs.Told.{PrintsBy, TellsHistory}
use Rattle.sect_tell.specs.Views.{IsExport}
use Rattle.sect_app.specs.Returns.{ComesBack}

-- a text that is one thing is another too
printed : (P Q : List ℕ → Type 0) → ((text : List ℕ) → P text → Q text) → (taken taken' : Option (List ℕ)) (status : Status) → PrintsBy P taken taken' status → PrintsBy Q taken taken' status
printed P Q too taken taken' statuses.Done (text, is, appends) = (text, too text is, appends)
printed P Q too taken taken' statuses.WriteFault (text, n, is, appends) = (text, n, too text is, appends)
printed P Q too taken taken' statuses.Memory same = same
printed P Q too taken taken' statuses.BadWords never = never
printed P Q too taken taken' (statuses.BadLine line field) never = never
printed P Q too taken taken' statuses.ReadFault never = never
printed P Q too taken taken' statuses.KeeperFault never = never
printed P Q too taken taken' (statuses.BadEntry row) never = never
printed P Q too taken taken' statuses.LinkFault never = never

module _ (reads : LogsReadBack) (again : TablesReturn) (table : Table) where
  text_back : (log : List (Note Command Reply)) → IsReplay stepped empty_state (history log) → NeverFull IsRow log → (text : List ℕ) → IsExport table (history log) text → ComesBack table (history log) text
  text_back log replay never text is = record {
    is_export = is;
    reads = λ rows all. subst (λ its. IsReadAs table its (asks_rows (look (state_of (history log)) (Rows table)))) (sym is) (reads log rows table replay never all);
    again = λ day. again (history log) day replay;
  }

  pub comes_back : {K : Type 0} (rows : K → Option (List (List ℕ))) (faults : K → ℕ) (keeper back : K) (left taken taken' : Option (List ℕ)) (status : Status)
      → TellsHistory rows faults (IsExport table) keeper back taken taken' status ⊎ StaysShut empty_state stepped IsRow rows faults keeper back left left taken taken' status
      → TellsHistory rows faults (ComesBack table) keeper back taken taken' status ⊎ StaysShut empty_state stepped IsRow rows faults keeper back left left taken taken' status
  comes_back rows faults keeper back left taken taken' status (inr shut) = inr shut
  comes_back rows faults keeper back left taken taken' status (inl told) =
      let log = told.opened.log in inl (record {
        opened = told.opened;
        opens = told.opens;
        back_is = told.back_is;
        prints = printed (IsExport table (history log)) (ComesBack table (history log)) (text_back log told.opens.sound.legal.replies told.opens.sound.roomy) taken taken' status told.prints;
      })
