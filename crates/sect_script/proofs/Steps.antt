-- The steps of a run, one line each.
use Rattle.std.proofs.Common.{◌≡◌, ◌⊎◌, ℕ, suc, ◌+◌, ◌<◌, ◌≤◌, List, [], ◌∷◌, ◌++◌, length, refl, sym, ap, ◌∙◌, append_assoc, append-nil, arith, inl, inr, subst}
use Rattle.std.specs.Prelude.{map, Option, Some, None, Ok, unwrap_or, ⊤}
use Rattle.std.specs.List.{AllByRecursion}
use Rattle.std.specs.Io.KnownBytes.{Consumes, Appends, IsAtEnd}
use Rattle.std.proofs.KnownBytes.{Consumes-trans, Consumes-nil}
use Rattle.std.proofs.lemmas.List.{map-append, length_push}
use Rattle.sect_script.specs.declared.reader.LineEnd.TheVariants.{LineFeed, EndOfInput}
use Rattle.sect_script.specs.declared.script.RunEnd.{RunEnd}
use Rattle.sect_script.specs.declared.script.RunEnd.TheVariants as ends
use Rattle.sect_script.specs.Gathering.{WritesBut, WritesFront}
use Rattle.sect_script.specs.Lines.{Line, Ended, Unended, lines_of, ended_lines, bytes_of, text_of, IsOneLine}
use Rattle.sect_script.specs.Reading.{ReadsLine, LINE_LIMIT}
use Rattle.sect_script.specs.Run.{AnswersEach, AnswersLine, Answers, Ahead, IsBad, IsRest, NextIsBad, Ran, LINES_LIMIT}
use Rattle.sect_script.specs.Progress.{spelled, Ends, GoesOn, Progress, Stays, Turns}
use Rattle.sect_script.proofs.Gathering.{but_front, but_longer, but_more, but_put, but_then, yet_cut, yet_failed, yet_unanswered, yet_wanted, yet_written}
use Rattle.sect_script.proofs.LinesOf.{lines_of-spelled, spelled-push, ended_lines-one, lines_of-feed, lines_of-one, last_line, lines_of-long}

-- ---- lists

All-push : {X : Type 0} (P : X → Type 0) (xs : List X) (x : X) → AllByRecursion P xs → P x → AllByRecursion P (xs ++ x ∷ [])
All-push P [] x all here = (here, tt)
All-push P (y ∷ ys) x all here = (all.0, All-push P ys x all.1 here)

-- one answer more
pub AnswersEach-push : {H X : Type 0} (answers : H → X → List ℕ → H → Type 0) (old mid new : H) (xs : List X) (x : X) (bytes more : List ℕ)
    → AnswersEach answers old xs bytes mid → answers mid x more new → AnswersEach answers old (xs ++ x ∷ []) (bytes ++ more) new
AnswersEach-push {H} answers old mid new [] x bytes more front step = (
  new,
  more,
  [],
  subst (λ (h : H). answers h x more new) front.1 step,
  (refl, refl),
  ap (λ l. l ++ more) front.0 ∙ sym (append-nil more),
)
AnswersEach-push answers old mid new (first ∷ xs) x bytes more (next, answer, rest, here, front, is) step = (
  next,
  answer,
  rest ++ more,
  here,
  AnswersEach-push answers next mid new xs x rest more front step,
  ap (λ l. l ++ more) is ∙ append_assoc answer rest more,
)

Answers-push : {H : Type 0} (answers : H → List ℕ → List ℕ → H → Type 0) (old mid new : H) (lines : List Line) (line : Line) (bytes more : List ℕ)
    → Answers answers old lines bytes mid → AnswersLine answers mid line more new → Answers answers old (lines ++ line ∷ []) (bytes ++ more) new
Answers-push answers old mid new lines line bytes more front step = AnswersEach-push (AnswersLine answers) old mid new lines line bytes more front step

length-ended : (done : List (List ℕ)) → length (map Ended done) ≡ length done
length-ended [] = refl
length-ended (line ∷ done) = ap suc (length-ended done)

few_ended : (done : List (List ℕ)) → length done ≤ LINES_LIMIT → length (map Ended done) ≤ LINES_LIMIT
few_ended done few = omega (arith, few, length-ended done)

few_and_one : {number : ℕ} (done : List (List ℕ)) (line : Line) → number ≡ length done + 1 → number ≤ LINES_LIMIT → length (map Ended done ++ line ∷ []) ≤ LINES_LIMIT
few_and_one done line count few = omega (arith, few, count, length-ended done, length_push (map Ended done) line)

-- ---- what the input has ahead

ahead_at : (left later : Option (List ℕ)) (read stream : List ℕ) (done : List (List ℕ)) (P : List Line → Type 0) → Consumes left later read
    → read ≡ spelled done ++ stream → AllByRecursion IsOneLine done
    → ((rest : List ℕ) → later ≡ Some rest → P (lines_of (stream ++ rest))) → Ahead left (map Ended done) P
ahead_at None later read stream done P consumed split single holds = tt
ahead_at (Some input) None read stream done P consumed split single holds = absurd consumed
ahead_at (Some input) (Some rest) read stream done P consumed split single holds = (
  lines_of (stream ++ rest),
  ap lines_of (consumed ∙ ap (λ l. l ++ rest) split ∙ append_assoc (spelled done) stream rest) ∙ lines_of-spelled done (stream ++ rest) single,
  holds rest refl,
)

ahead_map : (told : Option (List ℕ)) (lines : List Line) (P Q : List Line → Type 0) → ((rest : List Line) → P rest → Q rest)
    → Ahead told lines P → Ahead told lines Q
ahead_map None lines P Q f h = tt
ahead_map (Some input) lines P Q f (rest, is, p) = (rest, is, f rest p)

ahead_next : (told : Option (List ℕ)) (lines : List Line) (line : Line) (Q : List Line → Type 0)
    → Ahead told lines (λ rest. (more : List Line) × (rest ≡ line ∷ more) × Q more) → Ahead told (lines ++ line ∷ []) Q
ahead_next None lines line Q h = tt
ahead_next (Some input) lines line Q (rest, is, (more, next, q)) =
    (more, is ∙ ap (λ l. lines ++ l) next ∙ sym (append_assoc lines (line ∷ []) more), q)

at_end : (later : Option (List ℕ)) (rest : List ℕ) → IsAtEnd later → later ≡ Some rest → rest ≡ []
at_end None rest end is = cc
at_end (Some xs) rest end is = cc

-- ---- one line more

-- nothing was read, answered or gathered yet
pub progress_none : {H : Type 0} (answers : H → List ℕ → List ℕ → H → Type 0) (left taken : Option (List ℕ)) (old : H) (pending gathered : List ℕ) → pending ≡ [] → gathered ≡ []
    → Progress answers left left taken taken old old 1 pending gathered
progress_none answers left taken old pending gathered none empty = record {
  read = [];
  done = [];
  bytes = [];
  consumed = Consumes-nil left;
  split = sym none;
  single = tt;
  answered = (refl, refl);
  written = but_put taken [] gathered empty;
  count = refl;
  few = omega arith;
}

-- the source gave more
pub progress_more : {H : Type 0} {answers : H → List ℕ → List ℕ → H → Type 0} {left now taken taken' : Option (List ℕ)} {old new : H} {number : ℕ} {pending gathered : List ℕ}
    (later : Option (List ℕ)) (more : List ℕ) → Progress answers left now taken taken' old new number pending gathered → Consumes now later more
    → Progress answers left later taken taken' old new number (pending ++ more) gathered
progress_more {left = left} {now = now} {pending = pending} later more p consumed = record {
  read = p.read ++ more;
  done = p.done;
  bytes = p.bytes;
  consumed = Consumes-trans left now later p.read more p.consumed consumed;
  split = ap (λ l. l ++ more) p.split ∙ append_assoc (spelled p.done) pending more;
  single = p.single;
  answered = p.answered;
  written = p.written;
  count = p.count;
  few = p.few;
}

-- of the answers that were gathered some were written
pub progress_written : {H : Type 0} {answers : H → List ℕ → List ℕ → H → Type 0} {left now taken taken' : Option (List ℕ)} {old new : H} {number : ℕ} {pending gathered : List ℕ}
    (taken'' : Option (List ℕ)) (gathered' : List ℕ) → Progress answers left now taken taken' old new number pending gathered → WritesBut taken' taken'' gathered gathered'
    → Progress answers left now taken taken'' old new number pending gathered'
progress_written {taken = taken} {taken' = taken'} {gathered = gathered} taken'' gathered' p written = record {
  read = p.read;
  done = p.done;
  bytes = p.bytes;
  consumed = p.consumed;
  split = p.split;
  single = p.single;
  answered = p.answered;
  written = but_then taken taken' taken'' p.bytes gathered gathered' p.written written;
  count = p.count;
  few = p.few;
}

-- a line with its line feed was answered
pub progress_line : {H : Type 0} {answers : H → List ℕ → List ℕ → H → Type 0} {left now taken taken' : Option (List ℕ)} {old new : H} {number : ℕ} {pending gathered : List ℕ}
    (later : H) (taken'' : Option (List ℕ)) (line rest answer gathered' : List ℕ) → number ≤ LINES_LIMIT → Progress answers left now taken taken' old new number pending gathered
    → pending ≡ line ++ 10 ∷ rest → IsOneLine line → AnswersLine answers new (Ended line) answer later
    → WritesBut taken' taken'' (gathered ++ answer) gathered' → Progress answers left now taken taken'' old later (number + 1) rest gathered'
progress_line {answers = answers} {taken = taken} {taken' = taken'} {old = old} {new = new} {pending = pending} {gathered = gathered} later taken'' line rest answer gathered' few p is one step written = record {
  read = p.read;
  done = p.done ++ line ∷ [];
  bytes = p.bytes ++ answer;
  consumed = p.consumed;
  split = p.split
      ∙ ap (λ l. spelled p.done ++ l) (is ∙ sym (append_assoc line (10 ∷ []) rest))
      ∙ sym (append_assoc (spelled p.done) (line ++ 10 ∷ []) rest)
      ∙ ap (λ l. l ++ rest) (sym (spelled-push p.done line));
  single = All-push IsOneLine p.done line p.single one;
  answered = rw (map-append Ended p.done (line ∷ [])) (Answers-push answers old new later (map Ended p.done) (Ended line) p.bytes answer p.answered step);
  written = but_more taken taken' taken'' p.bytes gathered answer gathered' p.written written;
  count = omega (arith, p.count, length_push p.done line);
  few = omega (arith, few, p.count, length_push p.done line);
}

-- ---- the ends

-- the lines ahead of those that were answered
ahead : {H : Type 0} {answers : H → List ℕ → List ℕ → H → Type 0} {left now taken taken' : Option (List ℕ)} {old new : H} {number : ℕ} {pending gathered : List ℕ}
    (Q : List Line → Type 0) (p : Progress answers left now taken taken' old new number pending gathered) → ((rest : List ℕ) → now ≡ Some rest → Q (lines_of (pending ++ rest))) → Ahead left (map Ended p.done) Q
ahead {left = left} {now = now} {pending = pending} Q p holds = ahead_at left now p.read pending p.done Q p.consumed p.split p.single holds

-- no line is left
pub ran_to_end : {H : Type 0} {known : List ℕ → Type 0} {answers : H → List ℕ → List ℕ → H → Type 0} {left now taken taken' : Option (List ℕ)} {old new : H} {number : ℕ} {pending gathered : List ℕ}
    → Progress answers left now taken taken' old new number pending gathered → pending ≡ [] → IsAtEnd now → Ends known answers left now taken taken' old new gathered ends.Done
ran_to_end {now = now} p none end = record {
  lines = map Ended p.done;
  few = few_ended p.done p.few;
  bytes = p.bytes;
  answered = p.answered;
  input = ahead (λ rest. rest ≡ []) p (λ rest is. ap lines_of (ap (λ l. l ++ rest) none ∙ at_end now rest end is));
  number = tt;
  whole = tt;
  written = p.written;
}

-- the next line is too long
pub ran_to_long : {H : Type 0} {known : List ℕ → Type 0} {answers : H → List ℕ → List ℕ → H → Type 0} {left now taken taken' : Option (List ℕ)} {old new : H} {number : ℕ} {pending gathered : List ℕ}
    (front more : List ℕ) → Progress answers left now taken taken' old new number pending gathered → pending ≡ front ++ more → IsOneLine front → LINE_LIMIT < length front
    → Ends known answers left now taken taken' old new gathered (ends.BadLine number 0)
ran_to_long {known = known} front more p is one long = record {
  lines = map Ended p.done;
  few = few_ended p.done p.few;
  bytes = p.bytes;
  answered = p.answered;
  input = ahead (NextIsBad known (length (map Ended p.done))) p (λ rest told. too_long known (length (map Ended p.done)) front (more ++ rest) _ one long
      (ap lines_of (ap (λ l. l ++ rest) is ∙ append_assoc front more rest)));
  number = (omega (arith, p.count, length-ended p.done), refl);
  whole = tt;
  written = p.written;
}
  where
    too_long : (known : List ℕ → Type 0) (before : ℕ) (front more : List ℕ) (lines : List Line) → IsOneLine front
        → LINE_LIMIT < length front → lines ≡ lines_of (front ++ more) → NextIsBad known before lines
    too_long known before front more lines one long same =
        let (bad, behind, is, longer) = lines_of-long front more LINE_LIMIT one long in
        (bad, behind, same ∙ is, inr (λ short text. absurd (omega (arith, short, longer))))

-- the source failed inside a line
pub ran_to_read_fault : {H : Type 0} {known : List ℕ → Type 0} {answers : H → List ℕ → List ℕ → H → Type 0} {left now taken taken' : Option (List ℕ)} {old new : H} {number : ℕ} {pending gathered : List ℕ}
    → Progress answers left now taken taken' old new number pending gathered → IsOneLine pending → Ends known answers left now taken taken' old new gathered ends.ReadFault
ran_to_read_fault {pending = pending} p one = record {
  lines = map Ended p.done;
  few = few_ended p.done p.few;
  bytes = p.bytes;
  answered = p.answered;
  input = ahead (λ rest. ⊤) p (λ rest is. tt);
  number = tt;
  whole = (p.read, p.consumed, ended_lines-one p.done pending p.single one ∙ ap (λ l. ended_lines (lines_of l)) (sym p.split));
  written = p.written;
}

-- the sink failed before a read
pub ran_unwritten : {H : Type 0} {known : List ℕ → Type 0} {answers : H → List ℕ → List ℕ → H → Type 0} {left now taken taken' : Option (List ℕ)} {old new : H} {number : ℕ} {pending gathered : List ℕ}
    (taken'' : Option (List ℕ)) (gathered' : List ℕ) → Progress answers left now taken taken' old new number pending gathered → WritesFront taken' taken'' gathered → gathered' ≡ []
    → Ends known answers left now taken taken'' old new gathered' ends.WriteFault
ran_unwritten {taken = taken} {taken' = taken'} {gathered = gathered} taken'' gathered' p cut none = record {
  lines = map Ended p.done;
  few = few_ended p.done p.few;
  bytes = p.bytes;
  answered = p.answered;
  input = ahead (λ rest. ⊤) p (λ rest is. tt);
  number = tt;
  whole = tt;
  written = yet_failed taken taken'' p.bytes gathered' (but_front taken taken' taken'' p.bytes gathered p.written cut) none;
}

pub ran_out_of_memory : {H : Type 0} {known : List ℕ → Type 0} {answers : H → List ℕ → List ℕ → H → Type 0} {left now taken taken' : Option (List ℕ)} {old new : H} {number : ℕ} {pending gathered : List ℕ}
    → Progress answers left now taken taken' old new number pending gathered → Ends known answers left now taken taken' old new gathered ends.Memory
ran_out_of_memory {taken = taken} {taken' = taken'} {gathered = gathered} p = record {
  lines = map Ended p.done;
  few = few_ended p.done p.few;
  bytes = p.bytes;
  answered = p.answered;
  input = ahead (λ rest. ⊤) p (λ rest is. tt);
  number = tt;
  whole = tt;
  written = yet_unanswered taken taken' p.bytes gathered p.written;
}

-- ---- the line that comes next

-- the lines that are ahead are this one and others
abbrev Next : Option (List ℕ) → List ℕ → Line → (List Line → Type 0) → Type 0
Next now pending line Q = (rest : List ℕ) → now ≡ Some rest → (more : List Line) × (lines_of (pending ++ rest) ≡ line ∷ more) × Q more

next_ahead : {H : Type 0} {answers : H → List ℕ → List ℕ → H → Type 0} {left now taken taken' : Option (List ℕ)} {old new : H} {number : ℕ} {pending gathered : List ℕ}
    (p : Progress answers left now taken taken' old new number pending gathered) (line : Line) (Q : List Line → Type 0) → Next now pending line Q
    → Ahead left (map Ended p.done ++ line ∷ []) Q
next_ahead {left = left} p line Q next = ahead_next left (map Ended p.done) line Q (ahead (λ lines. (more : List Line) × (lines ≡ line ∷ more) × Q more) p next)

bad_reason : (known : List ℕ → Type 0) (line : Line) (text : List ℕ) (number before : ℕ) → text_of line ≡ text
    → number ≡ before + 1 → (LINES_LIMIT < number) ⊎ (known text → ⊥) → (LINES_LIMIT ≤ before) ⊎ IsBad known line
bad_reason known line text number before says count (inl many) = inl (omega arith)
bad_reason known line text number before says count (inr refused) =
    inr (λ short is. refused (subst known says is))

-- what was gathered stays
but_still : {K : Type 0} (holds : K → Option (List ℕ)) (sink sink' : K) (taken : Option (List ℕ)) (bytes gathered gathered' : List ℕ) → WritesBut taken (holds sink) bytes gathered
    → Stays sink sink' gathered gathered' → WritesBut taken (holds sink') bytes gathered'
but_still {K} holds sink sink' taken bytes gathered gathered' b (still, same) =
    subst (λ (k : K). WritesBut taken (holds k) bytes gathered') (sym still) (subst (WritesBut taken (holds sink) bytes) (sym same) b)

-- the run ends at this line
pub ran_to_line : {H K : Type 0} {known : List ℕ → Type 0} {answers : H → List ℕ → List ℕ → H → Type 0} {left now taken : Option (List ℕ)} {old new : H} {number : ℕ} {pending gathered : List ℕ}
    (holds : K → Option (List ℕ)) (sink sink' : K) (later : H) (gathered' : List ℕ) (line : Line) (text : List ℕ) (status : RunEnd) → Progress answers left now taken (holds sink) old new number pending gathered
    → length (bytes_of line) ≤ LINE_LIMIT → text_of line ≡ text → Next now pending line (λ more. ⊤)
    → Turns known answers holds new later sink sink' gathered gathered' number text (Some status)
    → Ends known answers left now taken (holds sink') old later gathered' status
ran_to_line holds sink sink' later gathered' line text ends.Done p short says next answered = absurd answered
ran_to_line {known = known} {answers = answers} {taken = taken} {old = old} {gathered = gathered} holds sink sink' later gathered' line text (ends.BadLine bad field) p short says next (is, unnamed, same, stays, why) = record {
  lines = map Ended p.done;
  few = few_ended p.done p.few;
  bytes = p.bytes;
  answered = subst (Answers answers old (map Ended p.done) p.bytes) (sym same) p.answered;
  input = ahead (NextIsBad known (length (map Ended p.done))) p (λ rest told.
      let (more, first, any) = next rest told in (
        line,
        more,
        first,
        bad_reason known line text _ _ says (p.count ∙ ap (λ n. n + 1) (sym (length-ended p.done))) why,
      ));
  number = (is ∙ p.count ∙ ap (λ n. n + 1) (sym (length-ended p.done)), unnamed);
  whole = tt;
  written = but_still holds sink sink' taken p.bytes gathered gathered' p.written stays;
}
ran_to_line holds sink sink' later gathered' line text ends.ReadFault p short says next answered = absurd answered
ran_to_line {answers = answers} {taken = taken} {old = old} {new = new} {gathered = gathered} holds sink sink' later gathered' line text ends.WriteFault p short says next (few, answer, step, cut, none) = record {
  lines = map Ended p.done ++ line ∷ [];
  few = few_and_one p.done line p.count few;
  bytes = p.bytes ++ answer;
  answered = Answers-push answers old new later (map Ended p.done) line p.bytes answer p.answered
      (short, subst (λ (l : List ℕ). answers new l answer later) (sym says) step);
  input = next_ahead p line (λ more. ⊤) next;
  number = tt;
  whole = tt;
  written = yet_failed taken (holds sink') (p.bytes ++ answer) gathered'
      (but_front taken (holds sink) (holds sink') (p.bytes ++ answer) (gathered ++ answer) (but_longer taken (holds sink) p.bytes gathered answer p.written) cut) none;
}
ran_to_line {answers = answers} {taken = taken} {old = old} {gathered = gathered} holds sink sink' later gathered' line text ends.Memory p short says next (few, inl same, stays) = record {
  lines = map Ended p.done;
  few = few_ended p.done p.few;
  bytes = p.bytes;
  answered = subst (Answers answers old (map Ended p.done) p.bytes) (sym same) p.answered;
  input = ahead (λ rest. ⊤) p (λ rest is. tt);
  number = tt;
  whole = tt;
  written = yet_unanswered taken (holds sink') p.bytes gathered' (but_still holds sink sink' taken p.bytes gathered gathered' p.written stays);
}
ran_to_line {answers = answers} {taken = taken} {old = old} {new = new} {gathered = gathered} holds sink sink' later gathered' line text ends.Memory p short says next (few, inr (answer, step), stays) = record {
  lines = map Ended p.done ++ line ∷ [];
  few = few_and_one p.done line p.count few;
  bytes = p.bytes ++ answer;
  answered = Answers-push answers old new later (map Ended p.done) line p.bytes answer p.answered
      (short, subst (λ (l : List ℕ). answers new l answer later) (sym says) step);
  input = next_ahead p line (λ more. ⊤) next;
  number = tt;
  whole = tt;
  written = yet_wanted taken (holds sink') p.bytes answer gathered' (but_still holds sink sink' taken p.bytes gathered gathered' p.written stays);
}

-- the last line was answered
ran_past_line : {H K : Type 0} {known : List ℕ → Type 0} {answers : H → List ℕ → List ℕ → H → Type 0} {left now taken : Option (List ℕ)} {old new : H} {number : ℕ} {pending gathered : List ℕ}
    (holds : K → Option (List ℕ)) (sink sink' : K) (later : H) (gathered' : List ℕ) (line : Line) (text : List ℕ) → Progress answers left now taken (holds sink) old new number pending gathered
    → length (bytes_of line) ≤ LINE_LIMIT → text_of line ≡ text → Next now pending line (λ more. more ≡ [])
    → Turns known answers holds new later sink sink' gathered gathered' number text None
    → Ends known answers left now taken (holds sink') old later gathered' ends.Done
ran_past_line {answers = answers} {taken = taken} {old = old} {new = new} {gathered = gathered} holds sink sink' later gathered' line text p short says next (few, answer, step, written) = record {
  lines = map Ended p.done ++ line ∷ [];
  few = few_and_one p.done line p.count few;
  bytes = p.bytes ++ answer;
  answered = Answers-push answers old new later (map Ended p.done) line p.bytes answer p.answered
      (short, subst (λ (l : List ℕ). answers new l answer later) (sym says) step);
  input = next_ahead p line (λ more. more ≡ []) next;
  number = tt;
  whole = tt;
  written = but_more taken (holds sink) (holds sink') p.bytes gathered answer gathered' p.written written;
}

next_of_feed : (now : Option (List ℕ)) (pending whole rest : List ℕ) → pending ≡ whole ++ 10 ∷ rest → IsOneLine whole → Next now pending (Ended whole) (λ more. ⊤)
next_of_feed now pending whole rest is one tail told =
    (lines_of (rest ++ tail), ap lines_of (ap (λ l. l ++ tail) is ∙ append_assoc whole (10 ∷ rest) tail) ∙ lines_of-feed whole (rest ++ tail) one, tt)

last_is_one : (line : List ℕ) → (line ≡ [] → ⊥) → last_line line ≡ Unended line ∷ []
last_is_one [] some = absurd (some refl)
last_is_one (byte ∷ line) some = refl

next_of_last : (now : Option (List ℕ)) (pending line : List ℕ) → pending ≡ line → IsOneLine line → (line ≡ [] → ⊥) → IsAtEnd now
    → Next now pending (Unended line) (λ more. more ≡ [])
next_of_last now pending line is one some end tail told =
    ([], ap lines_of (ap (λ l. pending ++ l) (at_end now tail end told) ∙ append-nil pending ∙ is) ∙ lines_of-one line one ∙ last_is_one line some, refl)

-- a line with its line feed was read
pub feed_goes_on : {H K : Type 0} (known : List ℕ → Type 0) {answers : H → List ℕ → List ℕ → H → Type 0} {left now taken : Option (List ℕ)} {old new : H} {number : ℕ} {pending gathered : List ℕ}
    (holds : K → Option (List ℕ)) (sink sink' : K) (later : H) (gathered' rest text said : List ℕ) (result : Option RunEnd) → said ≡ text → Progress answers left now taken (holds sink) old new number pending gathered
    → ReadsLine (Ok LineFeed) pending rest text → Turns known answers holds new later sink sink' gathered gathered' number said result
    → GoesOn known answers left now taken (holds sink') old later number rest gathered' result
feed_goes_on known {answers = answers} {new = new} holds sink sink' later gathered' rest text said None same p (whole, one, short, is, says) (few, answer, step, written) =
    let says' = same ∙ says in
    progress_line later (holds sink') whole rest answer gathered' few p is one
    (short, subst (λ (l : List ℕ). answers new l answer later) says' step) written
feed_goes_on known {now = now} {pending = pending} holds sink sink' later gathered' rest text said (Some status) same p (whole, one, short, is, says) answered =
    ran_to_line holds sink sink' later gathered' (Ended whole) said status p short (sym (same ∙ says)) (next_of_feed now pending whole rest is one) answered

-- the last line was read, and has no line feed
pub last_ends : {H K : Type 0} {known : List ℕ → Type 0} {answers : H → List ℕ → List ℕ → H → Type 0} {left now taken : Option (List ℕ)} {old new : H} {number : ℕ} {pending gathered : List ℕ}
    (holds : K → Option (List ℕ)) (sink sink' : K) (later : H) (gathered' rest text said : List ℕ) (result : Option RunEnd) → said ≡ text → Progress answers left now taken (holds sink) old new number pending gathered
    → ReadsLine (Ok EndOfInput) pending rest text → (text ≡ [] → ⊥) → IsAtEnd now
    → Turns known answers holds new later sink sink' gathered gathered' number said result
    → Ends known answers left now taken (holds sink') old later gathered' (unwrap_or result ends.Done)
last_ends {now = now} {pending = pending} holds sink sink' later gathered' rest text said None same p (one, short, is, none) some end answered =
    ran_past_line holds sink sink' later gathered' (Unended text) said p short (sym same) (next_of_last now pending text is one some end) answered
last_ends {now = now} {pending = pending} holds sink sink' later gathered' rest text said (Some status) same p (one, short, is, none) some end answered =
    ran_to_line holds sink sink' later gathered' (Unended text) said status p short (sym same)
    (λ tail told. let (more, first, any) = next_of_last now pending text is one some end tail told in (more, first, tt)) answered

-- ---- what was gathered is written at the end

-- it was written
pub ends_written : {H : Type 0} {known : List ℕ → Type 0} {answers : H → List ℕ → List ℕ → H → Type 0} {left now taken taken' : Option (List ℕ)} {old new : H} {gathered : List ℕ} {end : RunEnd}
    (taken'' : Option (List ℕ)) → Ends known answers left now taken taken' old new gathered end → Appends taken' taken'' gathered → Ran known answers left now taken taken'' old new end
ends_written {taken = taken} {taken' = taken'} {gathered = gathered} {end = end} taken'' e written = record {
  lines = e.lines;
  few = e.few;
  bytes = e.bytes;
  answered = e.answered;
  input = e.input;
  number = e.number;
  whole = e.whole;
  written = yet_written end taken taken' taken'' e.bytes gathered e.written written;
}

-- the sink failed
pub ends_cut : {H : Type 0} {known : List ℕ → Type 0} {answers : H → List ℕ → List ℕ → H → Type 0} {left now taken taken' : Option (List ℕ)} {old new : H} {gathered : List ℕ} {end : RunEnd}
    (taken'' : Option (List ℕ)) → Ends known answers left now taken taken' old new gathered end → WritesFront taken' taken'' gathered → Ran known answers left now taken taken'' old new ends.WriteFault
ends_cut {known = known} {left = left} {taken = taken} {taken' = taken'} {gathered = gathered} {end = end} taken'' e cut = record {
  lines = e.lines;
  few = e.few;
  bytes = e.bytes;
  answered = e.answered;
  input = ahead_map left e.lines (IsRest known end (length e.lines)) (λ rest. ⊤) (λ rest is. tt) e.input;
  number = tt;
  whole = tt;
  written = yet_cut end taken taken' taken'' e.bytes gathered e.written cut;
}
