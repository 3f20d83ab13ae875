-- Each place that was printed is that of its row.
use Rattle.std.proofs.Common.{◌≡◌, ◌⊎◌, ℕ, zero, suc, ◌+◌, ◌<◌, List, [], ◌∷◌, ◌++◌, Option, Some, slice_get, refl, sym, ap, ◌∙◌, subst, inl, inr, arith}
use Rattle.std.specs.List.{All, AllZip}
use Rattle.std.proofs.lemmas.List.Elements.{All-cons, All-head, All-nil, All-tail}
use mathlib.Core.List.{IsPrefix}
use Rattle.httparse.specs.Grammar.{RequestHead}
use Rattle.sect_answer.specs.Answering.{Does, DoesAsk, Sitting, Tells, answer_said}
use Rattle.sect_answer.specs.Errands.{IsErrand}
use Rattle.sect_answer.specs.declared.errand.Errand.{Errand}
use Rattle.sect_answer.specs.declared.errand.Errand.TheVariants.{NoRoute, OtherMethod, NoCommand, Asks, Looks}
use Rattle.sect_base.specs.declared.limit.Caller.{Caller}
use Rattle.sect_base.specs.declared.limit.Id.{Id}
use Rattle.sect_command.specs.declared.command.Command.{Command}
use Rattle.sect_command.specs.declared.reply.Reply.{Reply}
use Rattle.sect_command.specs.declared.view.Query.{Query}
use Rattle.sect_command.specs.declared.view.View.{View}
use Rattle.sect_edge.specs.Link.{Connections}
use Rattle.sect_head.specs.declared.told.Refusal.{Refusal}
use Rattle.sect_head.specs.declared.told.Refusal.TheVariants as refusals
use Rattle.sect_http.specs.Answers.{Answers, refused}
use Rattle.sect_office.specs.Offices.{Shows}
use Rattle.sect_once.specs.declared.answer.Answer.{Answer}
use Rattle.sect_once.specs.declared.answer.Answer.TheVariants as answers
use Rattle.sect_once.specs.declared.entry.Entry.{Entry}
use Rattle.sect_once.specs.declared.entry.Note.{Note}
use Rattle.sect_once.specs.declared.entry.Note.TheVariants.{Acted, Faulted}
use Rattle.sect_once.specs.Desks.{HasEntry, Standing}
use Rattle.sect_once.specs.History.{history, TellsRows}
use Rattle.sect_talk.specs.Said.{Said, no_command, no_memory, no_route, other_method, report_said}
use Rattle.sect_talk.specs.declared.page.Kind.TheVariants.{Json, Text}
use Rattle.sect_serve.specs.Serving.{Serves, Worker}
use Rattle.sect_serve.specs.Talks.{FrontsBegin, Talk}
use Rattle.sect_serve.specs.declared.serving.ServeEnd.{ServeEnd}
use Rattle.sect_talk.specs.Asked.{Asked, Bytes, Exchange, Head, Whole}
use Rattle.sect_talk.specs.Talk.{Exchanges}
use Rattle.sect_serve.specs.Printed.{NamesRow, PlacesAreRows, Printed, PrintsRow}

-- what has a status above 200 isn't said with 200
said_else : (said other : Said) → said ≡ other → 200 < other.page.status → said.page.status ≡ 200 → ⊥
said_else said other same more ok = let at = ap (λ (s : Said). s.page.status) same in omega (arith, at, more, ok)

-- a report isn't JSON
no_report : (said : Said) (text : List ℕ) → (said ≡ report_said text) ⊎ (said ≡ no_memory) → said.page.status ≡ 200 → said.page.kind ≡ Json → ⊥
no_report said text (inl told) ok json = let at : Text ≡ Json = sym (ap (λ (s : Said). s.page.kind) told) ∙ json in absurd cc
no_report said text (inr want) ok json = said_else said no_memory want (omega arith) ok

-- a refusal isn't said with 200
refused_else : (why : Refusal) (said : Said) → said ≡ refused why → said.page.status ≡ 200 → ⊥
refused_else refusals.Head said told ok = said_else said (refused refusals.Head) told (omega arith) ok
refused_else refusals.Coding said told ok = said_else said (refused refusals.Coding) told (omega arith) ok
refused_else refusals.Length said told ok = said_else said (refused refusals.Length) told (omega arith) ok
refused_else refusals.Size said told ok = said_else said (refused refusals.Size) told (omega arith) ok

-- the row at the place of an entry of a front
row_of : {C R : Type 0} (is_row : Entry C R → List ℕ → Type 0) (front more : List (Note C R)) (rs : List (List ℕ)) (n : ℕ) (e : Entry C R)
    → slice_get (history front) n ≡ Some e → AllZip is_row (history (front ++ more)) rs → (row : List ℕ) × (slice_get rs n ≡ Some row) × is_row e row
row_of is_row [] more rs n e at are = absurd cc
row_of is_row (Acted f ∷ front) more [] n e at are = absurd are
row_of is_row (Acted f ∷ front) more (r ∷ rs) zero e at are = let same : f ≡ e = cc in (r, refl, subst (λ x. is_row x r) same are.0)
row_of is_row (Acted f ∷ front) more (r ∷ rs) (suc n) e at are = row_of is_row front more rs n e at are.1
row_of is_row (Faulted id ∷ front) more rs n e at are = row_of is_row front more rs n e at are

module _ {S : Type 0} (start : S) (stepped : S → ℕ → Caller → Command → S × Reply) (is_row : Entry Command Reply → List ℕ → Type 0) (looked : S → Query → View)
    (rs : List (List ℕ)) (log : List (Note Command Reply)) (kept : AllZip is_row (history log) rs) where
  row_at : (front : List (Note Command Reply)) (place : ℕ) (id : Id) (command : Command) (reply : Reply) (said : Said) → IsPrefix front log
      → HasEntry front place id command reply → said ≡ answer_said (answers.Done place reply) → NamesRow is_row rs id command said
  row_at front place id command reply said (more, is) has told =
      let found = row_of is_row front more rs place has.entry has.at (subst (λ l. AllZip is_row (history l) rs) (sym is) kept) in
      record {
        place = place;
        reply = reply;
        said_is = told;
        entry = has.entry;
        id_is = has.id_is;
        command_is = has.command_is;
        reply_is = has.reply_is;
        row = found.0;
        at = found.1;
        is = found.2;
      }

  told_answer : (id : Id) (day : ℕ) (command : Command) (old : Sitting) (said : Said) (new : Sitting) → IsPrefix new.front log → (a : Answer Reply)
      → Shows is_row id day command old.front new.front old.own new.own a → Tells a said → said.page.status ≡ 200 → NamesRow is_row rs id command said
  told_answer id day command old said new within (answers.Done place reply) shows (inl told) ok = row_at new.front place id command reply said within shows.0 told
  told_answer id day command old said new within (answers.Done place reply) shows (inr want) ok = absurd (said_else said no_memory want (omega arith) ok)
  told_answer id day command old said new within (answers.NumberReused place) shows told ok = absurd (said_else said (answer_said (answers.NumberReused place)) told (omega arith) ok)
  told_answer id day command old said new within answers.LogFull shows told ok = absurd (said_else said (answer_said answers.LogFull) told (omega arith) ok)
  told_answer id day command old said new within answers.KeeperFault shows told ok = absurd (said_else said (answer_said answers.KeeperFault) told (omega arith) ok)
  told_answer id day command old said new within answers.Memory shows told ok = absurd (said_else said (answer_said answers.Memory) told (omega arith) ok)

  told_ask : (id : Id) (command : Command) (old : Sitting) (said : Said) (new : Sitting) → IsPrefix new.front log → DoesAsk start stepped is_row looked id command old said new
      → said.page.status ≡ 200 → NamesRow is_row rs id command said
  told_ask id command old said new within d ok = told_answer id d.day command old said new within d.answer d.shows d.told ok

  told_errand : (e : Errand) (h : RequestHead) (body : List ℕ) (old : Sitting) (said : Said) (new : Sitting) → IsErrand h.method h.target body e → IsPrefix new.front log
      → Does start stepped is_row looked e old said new → said.page.status ≡ 200 → said.page.kind ≡ Json → Printed is_row rs (Whole h body) said
  told_errand NoRoute h body old said new errand within (same, told) ok json = absurd (said_else said no_route told (omega arith) ok)
  told_errand (OtherMethod method) h body old said new errand within (same, told) ok json = absurd (said_else said (other_method method) told (omega arith) ok)
  told_errand NoCommand h body old said new errand within (same, told) ok json = absurd (said_else said no_command told (omega arith) ok)
  told_errand (Asks id command) h body old said new errand within d ok json =
      record { head = h; body = body; asked_is = refl; id = id; command = command; errand = errand; names = told_ask id command old said new within d ok }
  told_errand (Looks query) h body old said new errand within d ok json = absurd (no_report said _ d.told ok json)

  told_request : (old : Sitting) (asked : Asked) (said : Said) (new : Sitting) → IsPrefix new.front log → Answers start stepped is_row looked old asked said new
      → said.page.status ≡ 200 → said.page.kind ≡ Json → Printed is_row rs asked said
  told_request old (Bytes raw) said new within (same, inl (why, is, told)) ok json = absurd (refused_else why said told ok)
  told_request old (Bytes raw) said new within (same, inr want) ok json = absurd (said_else said no_memory want (omega arith) ok)
  told_request old (Head h) said new within (same, inl (why, is, told)) ok json = absurd (refused_else why said told ok)
  told_request old (Head h) said new within (same, inr want) ok json = absurd (said_else said no_memory want (omega arith) ok)
  told_request old (Whole h body) said new within (framed, inl (same, want)) ok json = absurd (said_else said no_memory want (omega arith) ok)
  told_request old (Whole h body) said new within (framed, inr (e, is, does)) ok json = told_errand e h body old said new is within does ok json

  exchanges_print : (old new : Sitting) (number : ℕ) (xs : List (Exchange Sitting)) → Exchanges (Answers start stepped is_row looked) old number xs new
      → All (λ (x : Exchange Sitting). IsPrefix x.after.front log) xs → All (PrintsRow is_row rs) xs
  exchanges_print old new number [] same begin = All-nil (PrintsRow is_row rs)
  exchanges_print old new number (x ∷ xs) (fits, answered, last, more) begin =
      All-cons (PrintsRow is_row rs) x xs (told_request old x.asked x.said x.after (All-head (λ (y : Exchange Sitting). IsPrefix y.after.front log) x xs begin) answered)
      (exchanges_print x.after new (number + 1) xs more (All-tail (λ (y : Exchange Sitting). IsPrefix y.after.front log) x xs begin))

  module _ {I T L : Type 0} (left : I → Option (List ℕ)) (taken : T → Option (List ℕ)) (in_faults : I → ℕ) (out_faults : T → ℕ)
      (connections : L → Option (Connections (I × T))) (faults : L → ℕ) where
    abbrev Prints : Talk (Answers start stepped is_row looked) left taken in_faults out_faults → Type 0
    Prints t = All (PrintsRow is_row rs) t.talked.exchanges

    abbrev Begin : Talk (Answers start stepped is_row looked) left taken in_faults out_faults → Type 0
    Begin t = All (λ (x : Exchange Sitting). IsPrefix x.after.front log) t.talked.exchanges

    talks_print : (ts : List (Talk (Answers start stepped is_row looked) left taken in_faults out_faults))
        → FrontsBegin (Answers start stepped is_row looked) left taken in_faults out_faults log ts → All Prints ts
    talks_print [] begin = All-nil Prints
    talks_print (t ∷ ts) begin =
        All-cons Prints t ts (exchanges_print t.before t.after 1 t.talked.exchanges t.talked.answered (All-head Begin t ts begin)) (talks_print ts (All-tail Begin t ts begin))

    abbrev EachPrints : (sessions : ℕ) (first : List (Note Command Reply)) → Worker (Answers start stepped is_row looked) left taken in_faults out_faults connections faults sessions first log → Type 0
    EachPrints sessions first w = All Prints w.did.talks

    workers_print : (sessions : ℕ) (first : List (Note Command Reply))
        (ws : List (Worker (Answers start stepped is_row looked) left taken in_faults out_faults connections faults sessions first log))
        → All (EachPrints sessions first) ws
    workers_print sessions first [] = All-nil (EachPrints sessions first)
    workers_print sessions first (w ∷ ws) = All-cons (EachPrints sessions first) w ws (talks_print w.did.talks w.fronts) (workers_print sessions first ws)

module _ {I T L S K : Type 0} (start : S) (stepped : S → ℕ → Caller → Command → S × Reply) (is_row : Entry Command Reply → List ℕ → Type 0) (looked : S → Query → View)
    (rows : K → Option (List (List ℕ))) (keeper_faults : K → ℕ)
    (left : I → Option (List ℕ)) (taken : T → Option (List ℕ)) (in_faults : I → ℕ) (out_faults : T → ℕ)
    (connections : L → Option (Connections (I × T))) (faults : L → ℕ) where
  -- each place that was printed names its row
  pub places_are_rows : PlacesAreRows start stepped is_row looked rows keeper_faults left taken in_faults out_faults connections faults
  places_are_rows opened back links backs days sessions end serves rs tells =
      workers_print start stepped is_row looked rs serves.last.log
      (subst (λ told. TellsRows is_row told (history serves.last.log)) (ap rows (sym serves.back_is) ∙ tells) serves.sound.kept)
      left taken in_faults out_faults connections faults sessions opened.log serves.served.workers
