-- What a desk notes over the lines of a run.
use Rattle.std.proofs.Common.{◌≡◌, ℕ, ◌+◌, Bool, true, false, List, [], ◌∷◌, ◌++◌, zero, suc, refl, sym, ap, ◌∙◌, subst, append_assoc, append-nil, arith, inl, inr, Option, Some, None}
use Rattle.std.specs.List.{AllZip}
use Rattle.sect_base.specs.declared.limit.Id.{Id}
use Rattle.sect_base.specs.declared.limit.Caller.{Caller}
use Rattle.sect_command.specs.declared.command.Command.{Command}
use Rattle.sect_command.specs.declared.reply.Reply.{Reply}
use Rattle.sect_edge.specs.Causes.{Rose}
use Rattle.sect_edge.specs.Keeper.{AddsRow, KeepsRows}
use Rattle.sect_once.specs.declared.answer.Answer.{Answer}
use Rattle.sect_once.specs.declared.answer.Answer.TheVariants as answers
use Rattle.sect_once.specs.declared.entry.Entry.{Entry}
use Rattle.sect_once.specs.declared.entry.Note.{Note}
use Rattle.sect_once.specs.declared.entry.Note.TheVariants.{Acted, Faulted}
use Rattle.sect_once.specs.Desks.{Answers as AnswersAsk, IsSound, Standing}
use Rattle.sect_once.specs.Faults.{AtMostFaults}
use Rattle.sect_once.specs.History.{faulted, history}
use Rattle.sect_once.specs.Opening.{IsOpened}
use Rattle.sect_script.specs.declared.script.RunEnd.{RunEnd}
use Rattle.sect_script.specs.declared.status.Status.{Status}
use Rattle.sect_asking.specs.Asks.{AnswersScript, AnswersText, Sitting, is_passed_over}
use Rattle.sect_asking.specs.Desk.{AddsRows, Grows, RanScript, RunsLines, RunsOver}
use Rattle.sect_script.specs.Lines.{Line, text_of}
use Rattle.sect_script.specs.Run.{Answers, AnswersEach, AnswersLine}
use Rattle.sect_script.specs.Statuses.{status_of}

-- ---- logs

module _ {C R : Type 0} where
  history-append : (a b : List (Note C R)) → history (a ++ b) ≡ history a ++ history b
  history-append [] b = refl
  history-append (Acted e ∷ a) b = ap (λ (es : List (Entry C R)). e ∷ es) (history-append a b)
  history-append (Faulted id ∷ a) b = history-append a b

  faulted-append : (a b : List (Note C R)) → faulted (a ++ b) ≡ faulted a + faulted b
  faulted-append [] b = omega arith
  faulted-append (Acted e ∷ a) b = faulted-append a b
  faulted-append (Faulted id ∷ a) b = omega (arith, faulted-append a b)

-- where the count didn't rise, no note is of a fault
no_faults : (noted before since base first now : ℕ) → noted ≡ before + since → base ≡ first → AtMostFaults noted base now → (Rose first now → ⊥) → since ≡ 0
no_faults noted before zero base first now sum same most quiet = refl
no_faults noted before (suc since) base first now sum same most quiet = absurd (quiet (omega (arith, sum, same, most)))

-- ---- rows

module _ {C R : Type 0} (is_row : Entry C R → List ℕ → Type 0) where
  zip-append : (es fs : List (Entry C R)) (rows more : List (List ℕ)) → AllZip is_row es rows → AllZip is_row fs more → AllZip is_row (es ++ fs) (rows ++ more)
  zip-append [] fs [] more h k = k
  zip-append [] fs (r ∷ rows) more h k = absurd h
  zip-append (e ∷ es) fs [] more h k = absurd h
  zip-append (e ∷ es) fs (r ∷ rows) more h k = (h.0, zip-append es fs rows more h.1 k)

  rows_none : (told : Option (List (List ℕ))) → AddsRows is_row told told []
  rows_none None = refl
  rows_none (Some old) = ([], ap Some (sym (append-nil old)), tt)

  rows_kept : (told told' : Option (List (List ℕ))) → KeepsRows told told' → AddsRows is_row told told' []
  rows_kept None told' h = h
  rows_kept (Some old) told' h = ([], h ∙ ap Some (sym (append-nil old)), tt)

  rows_one : (told told' : Option (List (List ℕ))) (row : List ℕ) (e : Entry C R) → AddsRow told told' row → is_row e row → AddsRows is_row told told' (e ∷ [])
  rows_one None told' row e h w = h
  rows_one (Some old) told' row e h w = (row ∷ [], h, (w, tt))

  rows_then : (a b c : Option (List (List ℕ))) (es fs : List (Entry C R)) → AddsRows is_row a b es → AddsRows is_row b c fs → AddsRows is_row a c (es ++ fs)
  rows_then None None c es fs h k = k
  rows_then None (Some b) c es fs h k = absurd cc
  rows_then (Some a) None c es fs (more, is, rows) k = absurd cc
  rows_then (Some a) (Some b) c es fs (more, is, rows) (further, next, those) =
      let same : b ≡ a ++ more = cc in (
        more ++ further,
        next ∙ ap Some (ap (λ (l : List (List ℕ)). l ++ further) same ∙ append_assoc a more further),
        zip-append es fs more further rows those,
      )

-- ---- one desk after another

module _ {O C R K : Type 0} (is_row : Entry C R → List ℕ → Type 0) (rows : K → Option (List (List ℕ))) where
  grows_none : (d n : Standing O C R K) → n ≡ d → Grows is_row rows d n
  grows_none d n same = subst (λ (s : Standing O C R K). Grows is_row rows d s) (sym same) (record {
    notes = [];
    log_is = sym (append-nil d.log);
    rows_are = rows_none is_row (rows d.keeper);
    base = refl;
  })

  grows_then : (d m n : Standing O C R K) → Grows is_row rows d m → Grows is_row rows m n → Grows is_row rows d n
  grows_then d m n h k = record {
    notes = h.notes ++ k.notes;
    log_is = k.log_is ∙ ap (λ (l : List (Note C R)). l ++ k.notes) h.log_is ∙ append_assoc d.log h.notes k.notes;
    rows_are = subst (AddsRows is_row (rows d.keeper) (rows n.keeper)) (sym (history-append h.notes k.notes))
        (rows_then is_row (rows d.keeper) (rows m.keeper) (rows n.keeper) (history h.notes) (history k.notes) h.rows_are k.rows_are);
    base = k.base ∙ h.base;
  }

module _ {O K : Type 0} (stepped : O → ℕ → Caller → Command → O × Reply) (is_row : Entry Command Reply → List ℕ → Type 0) (rows : K → Option (List (List ℕ))) (faults : K → ℕ) where
  -- a request adds one note at most
  pub grows_ask : (id : Id) (day : ℕ) (command : Command) (d n : Standing O Command Reply K) (answer : Answer Reply)
      → AnswersAsk stepped is_row rows faults id day command d n answer → Grows is_row rows d n
  grows_ask id day command d n (answers.Done place reply) (has, inl same) = grows_none is_row rows d n same
  grows_ask id day command d n (answers.Done place reply) (has, inr (at, acts)) = record {
    notes = Acted (record { id = id; day = day; command = command; reply = reply }) ∷ [];
    log_is = acts.log;
    rows_are = rows_one is_row (rows d.keeper) (rows n.keeper) acts.row _ acts.added acts.written;
    base = acts.base;
  }
  grows_ask id day command d n (answers.NumberReused place) (has, same) = grows_none is_row rows d n same
  grows_ask id day command d n answers.LogFull (is_new, full, same) = grows_none is_row rows d n same
  grows_ask id day command d n answers.KeeperFault f = record {
    notes = Faulted id ∷ [];
    log_is = f.log;
    rows_are = rows_kept is_row (rows d.keeper) (rows n.keeper) f.rows_stay;
    base = f.base;
  }
  grows_ask id day command d n answers.Memory s = record {
    notes = [];
    log_is = s.log ∙ sym (append-nil d.log);
    rows_are = rows_kept is_row (rows d.keeper) (rows n.keeper) s.rows_stay;
    base = s.base;
  }

  grows_text : (passed : Bool) (old new : Sitting O Command Reply K) (text bytes : List ℕ)
      → AnswersText stepped is_row rows faults passed old text bytes new → Grows is_row rows old.desk new.desk
  grows_text true old new text bytes (none, same) = grows_none is_row rows old.desk new.desk (ap (λ (s : Sitting O Command Reply K). s.desk) same)
  grows_text false old new text bytes r = grows_ask r.ask.id r.day r.ask.command old.desk new.desk r.answer r.answered

  -- where one answer grows the desk, so do all of them
  pub grows_each : {X : Type 0} (answers : Sitting O Command Reply K → X → List ℕ → Sitting O Command Reply K → Type 0)
      → ((x : X) (old new : Sitting O Command Reply K) (bytes : List ℕ) → answers old x bytes new → Grows is_row rows old.desk new.desk)
      → (xs : List X) (old new : Sitting O Command Reply K) (bytes : List ℕ)
      → AnswersEach answers old xs bytes new → Grows is_row rows old.desk new.desk
  grows_each answers one [] old new bytes (none, same) = grows_none is_row rows old.desk new.desk (ap (λ (s : Sitting O Command Reply K). s.desk) same)
  grows_each answers one (x ∷ xs) old new bytes (mid, first, more, here, rest, is) =
      grows_then is_row rows old.desk mid.desk new.desk
      (one x old mid first here)
      (grows_each answers one xs mid new more rest)

  grows_lines : (lines : List Line) (old new : Sitting O Command Reply K) (bytes : List ℕ)
      → Answers (AnswersScript stepped is_row rows faults) old lines bytes new → Grows is_row rows old.desk new.desk
  grows_lines lines old new bytes answered =
      grows_each (AnswersLine (AnswersScript stepped is_row rows faults))
      (λ line before after said one. grows_text (is_passed_over (text_of line)) before after (text_of line) said one.1)
      lines old new bytes answered

module _ {O K : Type 0} (start : O) (stepped : O → ℕ → Caller → Command → O × Reply) (is_row : Entry Command Reply → List ℕ → Type 0) (rows : K → Option (List (List ℕ))) (faults : K → ℕ) where
  -- a run over the desk to which the keeper opened, where what was asked grows a desk
  pub runs_over : (Asked : Sitting O Command Reply K → Sitting O Command Reply K → RunEnd → Type 0)
      → ((before after : Sitting O Command Reply K) (ended : RunEnd) → Asked before after ended → Grows is_row rows before.desk after.desk)
      → (keeper back : K) (opened : Standing O Command Reply K) (first last : Sitting O Command Reply K) (days : Option (List ℕ)) (end : RunEnd) (status : Status)
      → IsOpened start stepped is_row rows faults keeper opened
      → first ≡ record { desk = opened; days = days }
      → Asked first last end
      → IsSound stepped is_row rows faults start last.desk
      → back ≡ last.desk.keeper → status ≡ status_of end
      → RunsOver start stepped is_row rows faults Asked keeper back days status
  runs_over Asked grow keeper back opened first last days end status opens at ran sound is_back is_status =
      let ran' : Asked (record { desk = opened; days = days }) last end =
      subst (λ (s : Sitting O Command Reply K). Asked s last end) at ran in
      let grows : Grows is_row rows opened last.desk = grow (record { desk = opened; days = days }) last end ran' in
      record {
        opened = opened;
        last = last;
        end = end;
        status_is = is_status;
        opens = opens;
        ran = ran';
        sound = sound;
        grows = grows;
        back_is = is_back;
        rows_are = subst (λ (k : K). AddsRows is_row (rows keeper) (rows k) (history grows.notes)) (sym is_back)
            (rows_then is_row (rows keeper) (rows opened.keeper) (rows last.desk.keeper) [] (history grows.notes)
            (rows_kept is_row (rows keeper) (rows opened.keeper) opens.rows_stay) grows.rows_are);
        quiet = subst (λ (k : K). (Rose (faults keeper) (faults k) → ⊥) → faulted grows.notes ≡ 0) (sym is_back)
            (no_faults (faulted last.desk.log) (faulted opened.log) (faulted grows.notes) last.desk.base (faults keeper) (faults last.desk.keeper)
            (ap faulted grows.log_is ∙ faulted-append opened.log grows.notes) (grows.base ∙ opens.base) sound.counted);
      }

  -- the lines of the input were asked
  pub runs_lines : (keeper back : K) (opened : Standing O Command Reply K) (first last : Sitting O Command Reply K) (left left' taken taken' days : Option (List ℕ)) (end : RunEnd) (status : Status)
      → IsOpened start stepped is_row rows faults keeper opened
      → first ≡ record { desk = opened; days = days }
      → RanScript start stepped is_row rows faults left left' taken taken' first last end
      → IsSound stepped is_row rows faults start last.desk
      → back ≡ last.desk.keeper → status ≡ status_of end
      → RunsLines start stepped is_row rows faults keeper back left left' taken taken' days status
  runs_lines keeper back opened first last left left' taken taken' days end status opens at ran sound is_back is_status =
      runs_over (RanScript start stepped is_row rows faults left left' taken taken')
      (λ before after ended r. grows_lines stepped is_row rows faults r.lines before after r.bytes r.answered)
      keeper back opened first last days end status opens at ran sound is_back is_status
