-- What holds of a desk whose log has grown.
use Rattle.std.proofs.Common.{◌≡◌, ◌<◌, ◌≤◌, ℕ, ◌+◌, List, [], ◌∷◌, ◌++◌, length, length-take, take, Option, Some, zero, suc, refl, sym, ap, ◌∙◌, subst, append-nil, arith}
use Rattle.std.specs.List.{AllZip}
use Rattle.std.proofs.lemmas.Bool.Decides.{nat_tests}
use mathlib.Core.List.{IsPrefix}
use Rattle.sect_answer.specs.Answering.{Sitting}
use Rattle.sect_base.specs.declared.limit.Caller.{Caller}
use Rattle.sect_command.specs.declared.command.Command.{Command}
use Rattle.sect_command.specs.declared.reply.Reply.{Reply}
use Rattle.sect_edge.specs.Causes.{Rose}
use Rattle.sect_edge.specs.Link.{Connections}
use Rattle.sect_office.proofs.Running.{prefix_of_prefix}
use Rattle.sect_once.specs.Faults.{AtMostFaults}
use Rattle.sect_once.specs.declared.entry.Entry.{Entry}
use Rattle.sect_once.specs.declared.entry.Note.{Note}
use Rattle.sect_once.specs.declared.entry.Note.TheVariants.{Acted, Faulted}
use Rattle.sect_once.specs.Desks.{IsSound, Standing}
use Rattle.sect_once.specs.History.{faulted, history, TellsRows}
use Rattle.sect_talk.specs.Said.{Said}
use Rattle.sect_talk.specs.Asked.{Asked}
use Rattle.sect_turn.specs.Passes.{HasEachOnce}
use Rattle.sect_turn.specs.Rule.{within}
use Rattle.sect_serve.specs.Serving.{HaveServed, Serves}
use Rattle.sect_serve.specs.declared.serving.ServeEnd.{ServeEnd}
use Rattle.sect_serve.specs.declared.serving.ServeEnd.TheVariants.{Memory}
use Rattle.sect_serve.proofs.Fronts.{Grows}
use Rattle.sect_serve.proofs.Workers.{no_link_served}

-- no fault was noted where the count didn't rise
pub none_noted : (noted base count : ℕ) → AtMostFaults noted base count → (Rose base count → ⊥) → noted ≡ 0
none_noted zero base count at_most quiet = refl
none_noted (suc n) base count at_most quiet = absurd (quiet (omega (arith, at_most)))

module _ {C R : Type 0} where
  history-append : (a b : List (Note C R)) → history (a ++ b) ≡ history a ++ history b
  history-append [] b = refl
  history-append (Acted e ∷ a) b = ap (λ (es : List (Entry C R)). e ∷ es) (history-append a b)
  history-append (Faulted id ∷ a) b = history-append a b

  module _ (is_row : Entry C R → List ℕ → Type 0) (one_row : (e : Entry C R) (a b : List ℕ) → is_row e a → is_row e b → a ≡ b) where
    rows_begin_with : (es more : List (Entry C R)) (old new : List (List ℕ)) → AllZip is_row es old → AllZip is_row (es ++ more) new → IsPrefix old new
    rows_begin_with [] more [] new are_old are_new = (new, refl)
    rows_begin_with [] more (row ∷ old) new are_old are_new = absurd are_old
    rows_begin_with (e ∷ es) more [] new are_old are_new = absurd are_old
    rows_begin_with (e ∷ es) more (row ∷ old) [] are_old are_new = absurd are_new
    rows_begin_with (e ∷ es) more (row ∷ old) (other ∷ new) are_old are_new =
        let rest = rows_begin_with es more old new are_old.1 are_new.1 in
        (rest.0, ap (λ r. r ∷ (old ++ rest.0)) (one_row e row other are_old.0 are_new.0) ∙ ap (λ l. other ∷ l) rest.1)

    -- the rows of a log stand before those of one that it begins
    pub rows_begin : (log longer : List (Note C R)) (old new : List (List ℕ)) → IsPrefix log longer → AllZip is_row (history log) old → AllZip is_row (history longer) new → IsPrefix old new
    rows_begin log longer old new (more, is) are_old are_new =
        rows_begin_with (history log) (history more) old new are_old (subst (λ l. AllZip is_row l new) (ap history (sym is) ∙ history-append log more) are_new)

-- no place lies from one up to itself
none_within : (n place : ℕ) → 0 ≡ within n n place
none_within n place = grind (arith, nat_tests)

module _ {I T L S K : Type 0} (start : S) (stepped : S → ℕ → Caller → Command → S × Reply) (is_row : Entry Command Reply → List ℕ → Type 0)
    (one_row : (e : Entry Command Reply) (a b : List ℕ) → is_row e a → is_row e b → a ≡ b)
    (rows : K → Option (List (List ℕ))) (keeper_faults : K → ℕ) (answers : Sitting → Asked → Said → Sitting → Type 0)
    (left : I → Option (List ℕ)) (taken : T → Option (List ℕ)) (in_faults : I → ℕ) (out_faults : T → ℕ)
    (connections : L → Option (Connections (I × T))) (faults : L → ℕ) where
  -- an office of the desk was closed behind its workers
  pub closes : (opened last : Standing S Command Reply K) (back : K) (links backs : List L) (days : List (Option (List ℕ))) (sessions : ℕ) (end : ServeEnd)
      (first front : List (Note Command Reply)) (place : ℕ × ℕ) (calls : List ℕ)
      → IsSound stepped is_row rows keeper_faults start opened → first ≡ opened.log → place ≡ (length opened.log, opened.base) → IsPrefix first front → IsPrefix front last.log
      → HaveServed answers left taken in_faults out_faults connections faults links backs days sessions end first last.log calls
      → HasEachOnce calls place.0 (length last.log) → last.base ≡ place.1 → IsSound stepped is_row rows keeper_faults start last → back ≡ last.keeper
      → Serves start stepped is_row rows keeper_faults answers left taken in_faults out_faults connections faults opened back links backs days sessions end
  closes opened last back links backs days sessions end first front place calls was first_is place_is begun longer served each base sound back_is =
      let grown : IsPrefix opened.log last.log = subst (λ l. IsPrefix l last.log) first_is (prefix_of_prefix first front last.log begun longer) in
      let same : last.base ≡ opened.base = base ∙ ap (λ (p : ℕ × ℕ). p.1) place_is in
      record {
        last = last;
        calls = calls;
        served = subst (λ l. HaveServed answers left taken in_faults out_faults connections faults links backs days sessions end l last.log calls) first_is served;
        closing = subst (λ (p : ℕ × ℕ). HasEachOnce calls p.0 (length last.log)) place_is each;
        grown = grown;
        sound = sound;
        base = same;
        back_is = back_is;
        begins = λ old new tells_old tells_new. rows_begin is_row one_row opened.log last.log old new grown
            (subst (λ told. TellsRows is_row told (history opened.log)) tells_old was.kept)
            (subst (λ told. TellsRows is_row told (history last.log)) (ap rows (sym back_is) ∙ tells_new) sound.kept);
        quiet = none_noted (faulted last.log) opened.base (keeper_faults back)
            (subst (λ b. AtMostFaults (faulted last.log) b (keeper_faults back)) same (subst (λ k. AtMostFaults (faulted last.log) last.base (keeper_faults k)) (sym back_is) sound.counted));
      }

  -- no worker could begin at the desk
  pub stays_unserved : (opened desk : Standing S Command Reply K) (back : K) (links : List L) (days : List (Option (List ℕ))) (sessions : ℕ) → Grows answers
      → IsSound stepped is_row rows keeper_faults start opened → desk ≡ opened → back ≡ desk.keeper → length links ≤ length days → 0 < length links
      → Serves start stepped is_row rows keeper_faults answers left taken in_faults out_faults connections faults opened back links links (take (length links) days) sessions Memory
  stays_unserved opened desk back links days sessions grow sound desk_is back_is enough some =
      let all : IsPrefix opened.log opened.log = ([], append-nil opened.log) in
      let many = length-take (length links) days in
      closes opened opened back links links (take (length links) days) sessions Memory opened.log opened.log (length opened.log, opened.base) [] sound refl refl all all
      (no_link_served answers left taken in_faults out_faults connections faults sessions opened.log opened.log all grow links links (take (length links) days) [] (omega (arith, many, enough)) some refl refl)
      (λ n. none_within (length opened.log) n) refl sound (back_is ∙ ap (λ (d : Standing S Command Reply K). d.keeper) desk_is)
