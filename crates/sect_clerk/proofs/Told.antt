-- What is said of the lines that were checked.
use Rattle.std.proofs.Common.{◌≡◌, ℕ, ◌+◌, List, [], ◌∷◌, ◌++◌, Option, None, ap, sym, ◌∙◌, subst}
use Rattle.std.specs.List.{AllByRecursion}
use Rattle.sect_script.specs.declared.script.RunEnd.{RunEnd}
use Rattle.sect_script.specs.Lines.{Line, text_of}
use Rattle.sect_script.specs.Run.{Answers, Ran, Writes}
use Rattle.sect_clerk.specs.declared.checker.Checker.{Checker}
use Rattle.sect_clerk.specs.Checked.{AnyText, Checks, ChecksLine, RunWould, check_status, complaints, first_after, refused_first, said_of}
use Rattle.sect_clerk.proofs.Refused.{IsShort, run_would}

-- what was said of lines, and which of them is the first that is refused
record Tells (old new : Checker) (lines : List Line) (bytes : List ℕ) : Type 0 where
  said : bytes ≡ complaints (old.lines + 1) lines
  first : new.first ≡ refused_first old.first (old.lines + 1) lines
  short : AllByRecursion IsShort lines

tells : (lines : List Line) (old new : Checker) (bytes : List ℕ) → Answers ChecksLine old lines bytes new → Tells old new lines bytes
tells [] old new bytes (none, same) = record { said = none; first = ap (λ (c : Checker). c.first) same; short = tt }
tells (line ∷ lines) old new bytes (mid, first, more, (short, here), rest, is) =
    let then : Tells mid new lines more = tells lines mid new more rest in
    record {
      said = is ∙ ap (λ (b : List ℕ). b ++ more) here.said
          ∙ ap (λ (b : List ℕ). said_of (old.lines + 1) (text_of line) ++ b) (then.said ∙ ap (λ n. complaints (n + 1) lines) here.counted);
      first = then.first ∙ ap (λ n. refused_first mid.first (n + 1) lines) here.counted
          ∙ ap (λ f. refused_first f (old.lines + 1 + 1) lines) (here.first ∙ ap (λ (b : List ℕ). first_after old.first (old.lines + 1) b) here.said);
      short = (short, then.short);
    }

module _ (left left' taken taken' : Option (List ℕ)) (new : Checker) (end : RunEnd) where
  -- the lines of a run that says what is to be said of them were checked
  pub checked : Ran AnyText ChecksLine left left' taken taken' (record { lines = 0; first = None }) new end
      → Checks left left' taken taken' (check_status new.first end)
  checked r =
      let t : Tells (record { lines = 0; first = None }) new r.lines r.bytes = tells r.lines _ new r.bytes r.answered in
      record {
        lines = r.lines;
        end = end;
        few = r.few;
        short = t.short;
        input = r.input;
        number = r.number;
        whole = r.whole;
        written = subst (λ (b : List ℕ). Writes end taken taken' b) t.said r.written;
        status_is = ap (λ f. check_status f end) t.first;
      }

  pub checked_as_run : Ran AnyText ChecksLine left left' taken taken' (record { lines = 0; first = None }) new end → RunWould (check_status new.first end) left
  checked_as_run r =
      let t : Tells (record { lines = 0; first = None }) new r.lines r.bytes = tells r.lines _ new r.bytes r.answered in
      subst (λ f. RunWould (check_status f end) left) (sym t.first) (run_would left r.lines end r.few t.short r.input r.number)
