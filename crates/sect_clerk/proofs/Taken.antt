-- A run over a log that leaves as many rows as its history has leaves those rows.
use Rattle.std.proofs.Common.{◌≡◌, ◌⊎◌, inl, inr, ℕ, ◌+◌, ◌≤◌, Bool, true, false, List, [], ◌∷◌, ◌++◌, length, refl, sym, ap, ◌∙◌, subst, append_assoc, append-nil, arith, length-append}
use Rattle.std.specs.Prelude.{Option, Some, None}
use Rattle.std.specs.List.{AllByRecursion, AllZip}
use Rattle.sect_base.specs.declared.limit.Caller.{Caller}
use Rattle.sect_base.specs.declared.limit.Id.{Id}
use Rattle.sect_command.specs.declared.command.Command.{Command}
use Rattle.sect_command.specs.declared.reply.Reply.{Reply}
use Rattle.sect_edge.specs.Keeper.{KeepsRows}
use Rattle.sect_model.specs.World.{State, empty_state}
use Rattle.sect_once.specs.declared.answer.Answer.{Answer}
use Rattle.sect_once.specs.declared.answer.Answer.TheVariants as answers
use Rattle.sect_once.specs.declared.answer.OpenFault.{OpenFault}
use Rattle.sect_once.specs.declared.answer.OpenFault.TheVariants as shut
use Rattle.sect_once.specs.declared.entry.Entry.{Entry}
use Rattle.sect_once.specs.declared.entry.Note.{Note}
use Rattle.sect_once.specs.declared.entry.Note.TheVariants.{Acted, Faulted}
use Rattle.sect_once.specs.Desks.{Answers as AnswersAsk, Standing}
use Rattle.sect_once.specs.History.{IsReplay, TellsRows, history}
use Rattle.sect_history.specs.Step.{stepped}
use Rattle.sect_read.specs.declared.line.LineAsk.{LineAsk}
use Rattle.sect_read.proofs.TextLaws.{one_request}
use Rattle.sect_wire.specs.Laws.{IsRow}
use Rattle.sect_script.specs.declared.script.RunEnd.{RunEnd}
use Rattle.sect_script.specs.declared.script.RunEnd.TheVariants as ends
use Rattle.sect_script.specs.declared.status.Status.TheVariants as statuses
use Rattle.sect_script.specs.Lines.{Line, lines_of, text_of}
use Rattle.sect_script.specs.Run.{AnswersEach, AnswersLine, IsRest, LINES_LIMIT}
use Rattle.sect_script.specs.Run.{Answers as AnswersLines}
use Rattle.sect_script.specs.Statuses.{status_of}
use Rattle.sect_asking.specs.Asks.{AnswersRequest, AnswersScript, AnswersText, IsAskedOn, IsKnown, Sitting, is_passed_over}
use Rattle.sect_asking.specs.Desk.{RanScript, RunsOver, shut_status}
use Rattle.sect_clerk.specs.Log.{log_text}
use Rattle.sect_clerk.specs.Laws.{AskEach, AsksEntry, IsComment, LogIsTaken, asked_by, whole}
use Rattle.sect_clerk.proofs.LogLines.{log_asks}

-- ---- entries

abbrev Entries : Type 0
Entries = List (Entry Command Reply)

-- one entry is asked as another was
abbrev IsAskedAs : Entry Command Reply → Entry Command Reply → Type 0
IsAskedAs e f = (f.id ≡ e.id) × (f.day ≡ e.day) × (f.command ≡ e.command)

-- a history grew by at most as many entries as were asked, and where by as many, each is asked as its own
record Took (es before after : Entries) : Type 0 where
  pub more : Entries
  pub is : after ≡ before ++ more
  pub few : length more ≤ length es
  pub all : length more ≡ length es → AllZip IsAskedAs es more

took_not : (e : Entry Command Reply) (before after : Entries) → after ≡ before → Took (e ∷ []) before after
took_not e before after same = record {
  more = [];
  is = same ∙ sym (append-nil before);
  few = omega arith;
  all = λ count. absurd (omega (arith, count));
}

took_one : (e f : Entry Command Reply) (before after : Entries) → after ≡ before ++ f ∷ [] → IsAskedAs e f → Took (e ∷ []) before after
took_one e f before after is asked = record { more = f ∷ []; is = is; few = omega arith; all = λ count. (asked, tt) }

zip_append : (es fs cs ds : Entries) → AllZip IsAskedAs es cs → AllZip IsAskedAs fs ds → AllZip IsAskedAs (es ++ fs) (cs ++ ds)
zip_append [] fs [] ds h k = k
zip_append [] fs (c ∷ cs) ds h k = absurd h
zip_append (a ∷ es) fs [] ds h k = absurd h
zip_append (a ∷ es) fs (c ∷ cs) ds h k = (h.0, zip_append es fs cs ds h.1 k)

took_then : (es fs before mid after : Entries) → Took es before mid → Took fs mid after → Took (es ++ fs) before after
took_then es fs before mid after a b = record {
  more = a.more ++ b.more;
  is = b.is ∙ ap (λ (l : Entries). l ++ b.more) a.is ∙ append_assoc before a.more b.more;
  few = omega (arith, length-append a.more b.more, length-append es fs, a.few, b.few);
  all = λ count. zip_append es fs a.more b.more
      (a.all (omega (arith, count, length-append a.more b.more, length-append es fs, a.few, b.few)))
      (b.all (omega (arith, count, length-append a.more b.more, length-append es fs, a.few, b.few)));
}

-- replays of what was asked alike are the same
same_entries : (s : State) (es fs : Entries) → IsReplay stepped s es → IsReplay stepped s fs → AllZip IsAskedAs es fs → fs ≡ es
same_entries s [] [] h k asked = refl
same_entries s [] (f ∷ fs) h k asked = absurd asked
same_entries s (e ∷ es) [] h k asked = absurd asked
same_entries s (e ∷ es) (f ∷ fs) h k asked =
    let id : f.id ≡ e.id = asked.0.0 in
    let day : f.day ≡ e.day = asked.0.1 in
    let command : f.command ≡ e.command = asked.0.2 in
    let reply : f.reply ≡ e.reply = sym k.0 ∙ (λ i. (stepped s (day i) (id i).caller (command i)).1) ∙ h.0 in
    let one : f ≡ e = λ i. record { id = id i; day = day i; command = command i; reply = reply i } in
    let later : IsReplay stepped (stepped s e.day e.id.caller e.command).0 fs =
    subst (λ (g : Entry Command Reply). IsReplay stepped (stepped s g.day g.id.caller g.command).0 fs) one k.1 in
    let rest : fs ≡ es = same_entries (stepped s e.day e.id.caller e.command).0 es fs h.1 later asked.1 in
    λ i. one i ∷ rest i

-- entries have one list of rows
same_rows : (es : Entries) (texts all : List (List ℕ)) → AllZip IsRow es texts → AllZip IsRow es all → all ≡ texts
same_rows [] [] [] h k = refl
same_rows [] [] (b ∷ all) h k = absurd k
same_rows [] (a ∷ texts) all h k = absurd h
same_rows (e ∷ es) [] all h k = absurd h
same_rows (e ∷ es) (a ∷ texts) [] h k = absurd k
same_rows (e ∷ es) (a ∷ texts) (b ∷ all) h k =
    let one : b ≡ a = k.0.1 ∙ sym h.0.1 in
    let rest : all ≡ texts = same_rows es texts all h.1 k.1 in
    λ i. one i ∷ rest i

zip_length : (es : Entries) (rows : List (List ℕ)) → AllZip IsRow es rows → length es ≡ length rows
zip_length [] [] h = refl
zip_length [] (r ∷ rows) h = absurd h
zip_length (e ∷ es) [] h = absurd h
zip_length (e ∷ es) (r ∷ rows) h = omega (arith, zip_length es rows h.1)

no_entries : (es : Entries) → AllZip IsRow es [] → es ≡ []
no_entries [] h = refl
no_entries (e ∷ es) h = absurd h

-- ---- logs

history_append : (a b : List (Note Command Reply)) → history (a ++ b) ≡ history a ++ history b
history_append [] b = refl
history_append (Acted e ∷ a) b = ap (λ (es : Entries). e ∷ es) (history_append a b)
history_append (Faulted id ∷ a) b = history_append a b

-- ---- answers

module _ {H X : Type 0} (answers : H → X → List ℕ → H → Type 0) where
  -- what is answered in a row is answered in two parts
  record Halves (old : H) (xs ys : List X) (new : H) : Type 0 where
    pub mid : H
    pub front : List ℕ
    pub rest : List ℕ
    pub before : AnswersEach answers old xs front mid
    pub after : AnswersEach answers mid ys rest new

  halves : (xs ys : List X) (old new : H) (bytes : List ℕ) → AnswersEach answers old (xs ++ ys) bytes new → Halves old xs ys new
  halves [] ys old new bytes h = record { mid = old; front = []; rest = bytes; before = (refl, refl); after = h }
  halves (x ∷ xs) ys old new bytes (next, first, more, here, later, is) =
      let h : Halves next xs ys new = halves xs ys next new more later in
      record { mid = h.mid; front = first ++ h.front; rest = h.rest; before = (next, first, h.front, here, h.before, refl); after = h.after }

module _ {K : Type 0} (rows : K → Option (List (List ℕ))) (faults : K → ℕ) where
  abbrev Sat : Type 0
  Sat = Sitting State Command Reply K

  abbrev Answered : Sat → List ℕ → List ℕ → Sat → Type 0
  Answered = AnswersScript stepped IsRow rows faults

  abbrev past : Sat → Entries
  past s = history s.desk.log

  -- what is answered to the request of an entry adds it, or nothing
  took_answer : (e : Entry Command Reply) (id : Id) (day : ℕ) (command : Command) (d n : Standing State Command Reply K) (answer : Answer Reply)
      → id ≡ e.id → day ≡ e.day → command ≡ e.command → AnswersAsk stepped IsRow rows faults id day command d n answer → Took (e ∷ []) (history d.log) (history n.log)
  took_answer e id day command d n (answers.Done place reply) i t c (has, inl same) =
      took_not e (history d.log) (history n.log) (ap (λ (s : Standing State Command Reply K). history s.log) same)
  took_answer e id day command d n (answers.Done place reply) i t c (has, inr (at, acts)) =
      let f : Entry Command Reply = record { id = id; day = day; command = command; reply = reply } in
      took_one e f (history d.log) (history n.log) (ap (λ (l : List (Note Command Reply)). history l) acts.log ∙ history_append d.log (Acted f ∷ [])) (i, t, c)
  took_answer e id day command d n (answers.NumberReused place) i t c (has, same) =
      took_not e (history d.log) (history n.log) (ap (λ (s : Standing State Command Reply K). history s.log) same)
  took_answer e id day command d n answers.LogFull i t c (is_new, full, same) =
      took_not e (history d.log) (history n.log) (ap (λ (s : Standing State Command Reply K). history s.log) same)
  took_answer e id day command d n answers.KeeperFault i t c f =
      took_not e (history d.log) (history n.log)
      (ap (λ (l : List (Note Command Reply)). history l) f.log ∙ history_append d.log (Faulted id ∷ []) ∙ append-nil (history d.log))
  took_answer e id day command d n answers.Memory i t c s =
      took_not e (history d.log) (history n.log) (ap (λ (l : List (Note Command Reply)). history l) s.log)

  took_request : (e : Entry Command Reply) (line : Line) (old new : Sat) (bytes : List ℕ) → AsksEntry e line → Answered old (text_of line) bytes new → Took (e ∷ []) (past old) (past new)
  took_request e line old new bytes a given =
      let r : AnswersRequest stepped IsRow rows faults old (text_of line) bytes new = subst (λ (b : Bool). AnswersText stepped IsRow rows faults b old (text_of line) bytes new) a.not_passed given in
      let same : r.ask ≡ asked_by e = one_request (text_of line) r.ask (asked_by e) r.is_line a.asks in
      let on : IsAskedOn (asked_by e).day old.days new.days r.day = subst (λ (k : LineAsk). IsAskedOn k.day old.days new.days r.day) same r.on in
      took_answer e r.ask.id r.day r.ask.command old.desk new.desk r.answer (ap (λ (k : LineAsk). k.id) same) on.0 (ap (λ (k : LineAsk). k.command) same) r.answered

  passed : (comments : List Line) (old new : Sat) (bytes : List ℕ) → AllByRecursion IsComment comments → AnswersLines Answered old comments bytes new → new ≡ old
  passed [] old new bytes are h = h.1
  passed (c ∷ cs) old new bytes are (mid, first, more, here, later, is) =
      let none : (first ≡ []) × (mid ≡ old) = subst (λ (b : Bool). AnswersText stepped IsRow rows faults b old (text_of c) first mid) are.0 here.1 in
      passed cs mid new more are.1 later ∙ none.1

  took_lines : (es : Entries) (lines : List Line) (old new : Sat) (bytes : List ℕ) → AskEach es lines → AnswersLines Answered old lines bytes new → Took es (past old) (past new)
  took_lines [] lines old new bytes none given =
      let done : (bytes ≡ []) × (new ≡ old) = subst (λ (ls : List Line). AnswersLines Answered old ls bytes new) none given in
      record {
        more = [];
        is = ap (λ (s : Sat). past s) done.1 ∙ sym (append-nil (past old));
        few = omega arith;
        all = λ count. tt;
      }
  took_lines (e ∷ es) lines old new bytes (line, comments, rest, asks, are, later, is) given =
      let (mid, first, more, here, behind, split) = subst (λ (ls : List Line). AnswersLines Answered old ls bytes new) is given in
      let h = halves (AnswersLine Answered) comments rest mid new more behind in
      let same : h.mid ≡ mid = passed comments mid h.mid h.front are h.before in
      took_then (e ∷ []) es (past old) (past mid) (past new) (took_request e line old mid first asks here.1)
      (took_lines es rest mid new h.rest later (subst (λ (s : Sat). AnswersLines Answered s rest h.rest new) same h.after))

  -- ---- the whole run

  ends_done : (end : RunEnd) → statuses.Done ≡ status_of end → end ≡ ends.Done
  ends_done ends.Done is = refl
  ends_done (ends.BadLine line field) is = absurd cc
  ends_done ends.ReadFault is = absurd cc
  ends_done ends.WriteFault is = absurd cc
  ends_done ends.Memory is = absurd cc

  not_shut : (fault : OpenFault) → statuses.Done ≡ shut_status fault → ⊥
  not_shut shut.KeeperFault is = cc
  not_shut (shut.BadEntry row) is = cc
  not_shut shut.Memory is = cc

  kept_rows : (told told' : Option (List (List ℕ))) → told ≡ Some [] → KeepsRows told told' → told' ≡ Some []
  kept_rows None told' is h = absurd cc
  kept_rows (Some old) told' is h = h ∙ is

  -- the history behind a run over lines that ask these entries, from none on
  history_is : (es : Entries) (texts all : List (List ℕ)) (back : Entries) → IsReplay stepped empty_state es → IsReplay stepped empty_state back
      → AllZip IsRow es texts → AllZip IsRow back all → length all ≡ length texts → Took es [] back → all ≡ texts
  history_is es texts all back replay again first last same took =
      let count : length took.more ≡ length es =
      omega (arith, zip_length es texts first, zip_length back all last, same, ap length took.is) in
      let asked : AllZip IsAskedAs es back = subst (λ (l : Entries). AllZip IsAskedAs es l) (sym took.is) (took.all count) in
      let equal : back ≡ es = same_entries empty_state es back replay again asked in
      same_rows es texts all first (subst (λ (l : Entries). AllZip IsRow l all) equal last)

  pub log_is_taken : LogIsTaken rows faults
  log_is_taken es texts all keeper back left' taken taken' days replay first none now same (inr closed) = absurd (not_shut closed.fault closed.status_is)
  log_is_taken es texts all keeper back left' taken taken' days replay first none now same (inl r) =
      let log : List ℕ = log_text whole es in
      let (rest, split, over) = r.ran.input in
      let end : r.end ≡ ends.Done = ends_done r.end r.status_is in
      let nothing : rest ≡ [] = subst (λ (x : RunEnd). IsRest IsKnown x (length r.ran.lines) rest) end over in
      let lines : lines_of log ≡ r.ran.lines = split ∙ ap (λ (ls : List Line). r.ran.lines ++ ls) nothing ∙ append-nil r.ran.lines in
      let asks : AskEach es r.ran.lines = subst (AskEach es) lines (log_asks es texts first) in
      let took : Took es (history r.opened.log) (history r.last.desk.log) =
      took_lines es r.ran.lines (record { desk = r.opened; days = days }) r.last r.ran.bytes asks r.ran.answered in
      let opened : rows r.opened.keeper ≡ Some [] = kept_rows (rows keeper) (rows r.opened.keeper) none r.opens.rows_stay in
      let empty : history r.opened.log ≡ [] =
      no_entries (history r.opened.log) (subst (λ (t : Option (List (List ℕ))). TellsRows IsRow t (history r.opened.log)) opened r.opens.sound.kept) in
      let last : rows r.last.desk.keeper ≡ Some all = ap rows (sym r.back_is) ∙ now in
      let rows_are : AllZip IsRow (history r.last.desk.log) all =
      subst (λ (t : Option (List (List ℕ))). TellsRows IsRow t (history r.last.desk.log)) last r.sound.kept in
      history_is es texts all (history r.last.desk.log) replay r.sound.legal.replies first rows_are same
      (subst (λ (l : Entries). Took es l (history r.last.desk.log)) empty took)
