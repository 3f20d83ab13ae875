-- The rows whose places answers name.
use Rattle.std.specs.Prelude.{◌≡◌, ℕ, List, All, Option, Some, slice_get}
use Rattle.httparse.specs.Grammar.{RequestHead}
use Rattle.sect_answer.specs.Answering.{Sitting, answer_said}
use Rattle.sect_answer.specs.Errands.{IsErrand}
use Rattle.sect_answer.specs.declared.errand.Errand.TheVariants.{Asks}
use Rattle.sect_base.specs.declared.limit.Caller.{Caller}
use Rattle.sect_base.specs.declared.limit.Id.{Id}
use Rattle.sect_command.specs.declared.command.Command.{Command}
use Rattle.sect_command.specs.declared.reply.Reply.{Reply}
use Rattle.sect_command.specs.declared.view.Query.{Query}
use Rattle.sect_command.specs.declared.view.View.{View}
use Rattle.sect_edge.specs.Link.{Connections}
use Rattle.sect_http.specs.Answers.{Answers}
use Rattle.sect_once.specs.declared.answer.Answer.TheVariants.{Done}
use Rattle.sect_once.specs.declared.entry.Entry.{Entry}
use Rattle.sect_once.specs.Desks.{Standing}
use Rattle.sect_talk.specs.Said.{Said}
use Rattle.sect_talk.specs.declared.page.Kind.TheVariants.{Json}
use Rattle.sect_serve.specs.Serving.{Serves, Worker}
use Rattle.sect_serve.specs.Talks.{Talk}
use Rattle.sect_serve.specs.declared.serving.ServeEnd.{ServeEnd}
use Rattle.sect_talk.specs.Asked.{Asked, Exchange, Whole}

module _ (is_row : Entry Command Reply → List ℕ → Type 0) (rs : List (List ℕ)) where
  -- what is said names the place of a row of an entry with this id, this command, and the reply that is told
  pub record NamesRow (id : Id) (command : Command) (said : Said) : Type 0 where
    pub place : ℕ
    pub reply : Reply
    pub said_is : said ≡ answer_said (Done place reply)
    pub entry : Entry Command Reply
    pub id_is : entry.id ≡ id
    pub command_is : entry.command ≡ command
    pub reply_is : entry.reply ≡ reply
    pub row : List ℕ
    pub at : slice_get rs place ≡ Some row
    pub is : is_row entry row

  -- a whole request asked a command under an id, and what is said names its row
  pub record Printed (asked : Asked) (said : Said) : Type 0 where
    pub head : RequestHead
    pub body : List ℕ
    pub asked_is : asked ≡ Whole head body
    pub id : Id
    pub command : Command
    pub errand : IsErrand head.method head.target body (Asks id command)
    pub names : NamesRow id command said

  -- an answer of 200 that is no report names the row of what was asked
  abbrev pub PrintsRow : Exchange Sitting → Type 0
  PrintsRow x = x.said.page.status ≡ 200 → x.said.page.kind ≡ Json → Printed x.asked x.said

module _ {I T L S K : Type 0} (start : S) (stepped : S → ℕ → Caller → Command → S × Reply) (is_row : Entry Command Reply → List ℕ → Type 0) (looked : S → Query → View)
    (rows : K → Option (List (List ℕ))) (keeper_faults : K → ℕ)
    (left : I → Option (List ℕ)) (taken : T → Option (List ℕ)) (in_faults : I → ℕ) (out_faults : T → ℕ)
    (connections : L → Option (Connections (I × T))) (faults : L → ℕ) where
  -- where links were served and the keeper tells its rows, each answer of each connection of each worker names the row of what was asked
  abbrev pub PlacesAreRows : Type 0
  PlacesAreRows = (opened : Standing S Command Reply K) (back : K) (links backs : List L) (days : List (Option (List ℕ))) (sessions : ℕ) (end : ServeEnd)
      (serves : Serves start stepped is_row rows keeper_faults (Answers start stepped is_row looked) left taken in_faults out_faults connections faults opened back links backs days sessions end)
      (rs : List (List ℕ)) → rows back ≡ Some rs
      → All (λ (w : Worker (Answers start stepped is_row looked) left taken in_faults out_faults connections faults sessions opened.log serves.last.log).
      All (λ (t : Talk (Answers start stepped is_row looked) left taken in_faults out_faults). All (PrintsRow is_row rs) t.talked.exchanges) w.did.talks) serves.served.workers
