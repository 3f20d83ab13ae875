-- Lines that are tried.
use Rattle.std.proofs.Common.{◌≡◌, ℕ, Bool, false, true, List, [], ◌∷◌, length, refl, sym, ap, ◌∙◌, subst, arith, Option, Some, None}
use Rattle.std.proofs.KnownBytes.{Appends-nil}
use Rattle.sect_base.specs.declared.limit.Caller.{Caller}
use Rattle.sect_command.specs.declared.command.Command.{Command}
use Rattle.sect_command.specs.declared.reply.Reply.{Reply}
use Rattle.sect_once.specs.declared.answer.Answer.{Answer}
use Rattle.sect_once.specs.declared.entry.Entry.{Entry}
use Rattle.sect_once.specs.Desks.{Standing}
use Rattle.sect_once.specs.Opening.{IsOpened}
use Rattle.sect_read.specs.declared.line.LineAsk.{LineAsk}
use Rattle.sect_wire.specs.Lines.{IsLine}
use Rattle.sect_script.specs.declared.script.RunEnd.{RunEnd}
use Rattle.sect_script.specs.declared.script.RunEnd.TheVariants as ends
use Rattle.sect_script.specs.declared.status.Status.{Status}
use Rattle.sect_script.specs.declared.status.Status.TheVariants as statuses
use Rattle.sect_script.specs.Lines.{Line, lines_of, text_of}
use Rattle.sect_script.specs.Run.{Ahead, Answers, IsRest, Ran}
use Rattle.sect_script.specs.Statuses.{status_of}
use Rattle.sect_asking.specs.AnswerLines.{answer_line}
use Rattle.sect_asking.specs.Asks.{is_passed_over, IsAskedOn, IsKnown, Sitting}
use Rattle.sect_clerk.specs.Answered.{WouldAnswer}
use Rattle.sect_clerk.specs.Tried.{TriesLine, TriesLines, TriesText}

-- nothing of an input was taken
nothing_ahead : (left : Option (List ℕ)) → Ahead left [] (IsRest IsKnown ends.Memory 0)
nothing_ahead None = tt
nothing_ahead (Some input) = (lines_of input, refl, tt)

module _ {O K : Type 0} (stepped : O → ℕ → Caller → Command → O × Reply) (is_row : Entry Command Reply → List ℕ → Type 0) where
  -- a line that isn't passed over is tried as its request
  pub tries_request : (old new : Sitting O Command Reply K) (line : List ℕ) (ask : LineAsk) (day : ℕ) (answer : Answer Reply) → is_passed_over line ≡ false
      → IsLine line ask → IsAskedOn ask.day old.days new.days day → WouldAnswer stepped is_row ask.id day ask.command old.desk answer
      → new.desk ≡ old.desk → TriesLine stepped is_row old line (answer_line answer) new
  tries_request old new line ask day answer passed is on would same =
      subst (λ b. TriesText stepped is_row b old line (answer_line answer) new) (sym passed)
      (record { ask = ask; day = day; answer = answer; is_line = is; on = on; would = would; same = same; written = refl })

  -- the desk stays as it is
  stays_text : (passed : Bool) (old new : Sitting O Command Reply K) (text bytes : List ℕ) → TriesText stepped is_row passed old text bytes new
      → new.desk ≡ old.desk
  stays_text true old new text bytes (none, same) = ap (λ (s : Sitting O Command Reply K). s.desk) same
  stays_text false old new text bytes r = r.same

  pub stays_each : (lines : List Line) (old new : Sitting O Command Reply K) (bytes : List ℕ) → Answers (TriesLine stepped is_row) old lines bytes new
      → new.desk ≡ old.desk
  stays_each [] old new bytes (none, same) = ap (λ (s : Sitting O Command Reply K). s.desk) same
  stays_each (line ∷ lines) old new bytes (mid, first, more, here, rest, is) =
      stays_each lines mid new more rest ∙ stays_text (is_passed_over (text_of line)) old mid (text_of line) first here.1

module _ {O K : Type 0} (start : O) (stepped : O → ℕ → Caller → Command → O × Reply) (is_row : Entry Command Reply → List ℕ → Type 0) (rows : K → Option (List (List ℕ))) (faults : K → ℕ)
    (keeper back : K) (opened : Standing O Command Reply K) (left left' taken taken' days : Option (List ℕ)) where
  -- the lines were tried on the desk to which the keeper opened
  pub tries_lines : (first last : Sitting O Command Reply K) (end : RunEnd) (status : Status)
      → IsOpened start stepped is_row rows faults keeper opened → first ≡ record { desk = opened; days = days }
      → Ran IsKnown (TriesLine stepped is_row) left left' taken taken' first last end
      → back ≡ last.desk.keeper → status ≡ status_of end
      → TriesLines start stepped is_row rows faults keeper back left left' taken taken' days status
  tries_lines first last end status opens at ran is_back is_status =
      let ran' : Ran IsKnown (TriesLine stepped is_row) left left' taken taken' (record { desk = opened; days = days }) last end =
      subst (λ (s : Sitting O Command Reply K). Ran IsKnown (TriesLine stepped is_row) left left' taken taken' s last end) at ran in
      let same : last.desk ≡ opened = stays_each stepped is_row ran'.lines (record { desk = opened; days = days }) last ran'.bytes ran'.answered in
      record {
        opened = opened;
        last = last;
        end = end;
        status_is = is_status;
        opens = opens;
        ran = ran';
        stays = same;
        back_is = is_back ∙ ap (λ (d : Standing O Command Reply K). d.keeper) same;
      }

  -- no line was tried, for want of memory
  pub tries_none : IsOpened start stepped is_row rows faults keeper opened → back ≡ opened.keeper
      → TriesLines start stepped is_row rows faults keeper back left left taken taken days statuses.Memory
  tries_none opens is_back = record {
    opened = opened;
    last = record { desk = opened; days = days };
    end = ends.Memory;
    status_is = refl;
    opens = opens;
    ran = record {
      lines = [];
      few = omega arith;
      bytes = [];
      answered = (refl, refl);
      input = nothing_ahead left;
      number = tt;
      whole = tt;
      written = (0, Appends-nil taken);
    };
    stays = refl;
    back_is = is_back;
  }
