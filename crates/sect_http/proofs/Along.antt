-- What holds from the first state of a connection to its last.
use Rattle.std.proofs.Common.{◌≡◌, ◌⊎◌, ℕ, ◌+◌, ◌*◌, ◌-◌, ◌≤◌, false, List, [], ◌∷◌, ◌++◌, take, Option, refl, sym, ap, ◌∙◌, subst, inl, inr, arith, append-nil, length}
use mathlib.Core.List.{IsPrefix}
use Rattle.sect_answer.specs.Answering.{Does, Sitting}
use Rattle.sect_answer.specs.declared.errand.Errand.{Errand}
use Rattle.sect_answer.specs.declared.errand.Errand.TheVariants.{NoRoute, OtherMethod, NoCommand, Asks, Looks}
use Rattle.sect_base.specs.declared.limit.Caller.{Caller}
use Rattle.sect_command.specs.declared.command.Command.{Command}
use Rattle.sect_command.specs.declared.reply.Reply.{Reply}
use Rattle.sect_command.specs.declared.view.Query.{Query}
use Rattle.sect_command.specs.declared.view.View.{View}
use Rattle.sect_office.specs.Calls.{AddsCalls}
use Rattle.sect_office.proofs.Calls.{adds_none, adds_then, shows_calls}
use Rattle.sect_office.proofs.Running.{prefix_of_prefix}
use Rattle.sect_once.specs.declared.entry.Entry.{Entry}
use Rattle.std.specs.Io.KnownBytes.{Appends}
use Rattle.sect_talk.specs.Pages.{page_text}
use Rattle.sect_talk.specs.Said.{Said, no_memory}
use Rattle.sect_talk.specs.Asked.{Asked, Bytes, Head, Whole, Exchange}
use Rattle.sect_talk.specs.Talk.{Exchanges, Talked, passes}
use Rattle.sect_talk.specs.declared.end.End.{End}
use Rattle.sect_talk.specs.declared.end.End.TheVariants.{Closed, Cut, ReadFault, WriteFault}
use Rattle.sect_talk.proofs.Taken.{takes_none}
use Rattle.sect_talk.proofs.Talks.{Exchanges-along, exchanges_are_few, talk_begins, talk_broken, talk_closed}
use Rattle.sect_http.specs.Answers.{Answers, IsRefusedAtOnce}

-- the front has grown, and new calls stand in it
abbrev pub Leads : Sitting → Sitting → Type 0
Leads old new = IsPrefix old.front new.front × AddsCalls old.front new.front old.own new.own

leads_same : (s : Sitting) → Leads s s
leads_same s = (([], append-nil s.front), adds_none s.front s.front s.own s.own ([], append-nil s.front) refl)

leads_then : (a b c : Sitting) → Leads a b → Leads b c → Leads a c
leads_then a b c (grown, calls) (grown', calls') = (prefix_of_prefix a.front b.front c.front grown grown', adds_then a.front b.front c.front a.own b.own c.own calls calls')

leads_unchanged : (old new : Sitting) → new ≡ old → Leads old new
leads_unchanged old new same = subst (λ (s : Sitting). Leads old s) (sym same) (leads_same old)

module _ {S : Type 0} (start : S) (stepped : S → ℕ → Caller → Command → S × Reply) (is_row : Entry Command Reply → List ℕ → Type 0) (looked : S → Query → View) where
  does_leads : (e : Errand) (old : Sitting) (said : Said) (new : Sitting) → Does start stepped is_row looked e old said new → Leads old new
  does_leads NoRoute old said new (same, is) = leads_unchanged old new same
  does_leads (OtherMethod method) old said new (same, is) = leads_unchanged old new same
  does_leads NoCommand old said new (same, is) = leads_unchanged old new same
  does_leads (Asks id command) old said new d =
      (d.grown, shows_calls is_row id d.day command old.front new.front old.own new.own d.answer d.grown d.shows)
  does_leads (Looks query) old said new d = (d.grown, adds_none old.front new.front old.own new.own d.grown d.own)

  answers_lead : (old new : Sitting) (asked : Asked) (said : Said) → Answers start stepped is_row looked old asked said new → Leads old new
  answers_lead old new (Bytes raw) said (same, how) = leads_unchanged old new same
  answers_lead old new (Head h) said (same, how) = leads_unchanged old new same
  answers_lead old new (Whole h body) said (framed, inl (same, want)) = leads_unchanged old new same
  answers_lead old new (Whole h body) said (framed, inr (e, is, does)) = does_leads e old said new does

  pub talked_leads : (left left' taken taken' : Option (List ℕ)) (step step' : ℕ) (old new : Sitting) (end : End)
      → Talked (Answers start stepped is_row looked) left left' taken taken' step step' old new end → Leads old new
  talked_leads left left' taken taken' step step' old new end t =
      Exchanges-along (Answers start stepped is_row looked) Leads leads_same leads_then answers_lead old new 1 t.exchanges t.answered

passes_few : (end : End) (count : ℕ) → passes end count ≤ 2 * count
passes_few Closed count = omega arith
passes_few Cut count = omega arith
passes_few ReadFault count = omega arith
passes_few WriteFault count = omega arith

-- at most 2,000,000 steps are counted
pub talked_steps : {H : Type 0} (answers : H → Asked → Said → H → Type 0) (left left' taken taken' : Option (List ℕ)) (step step' : ℕ) (old new : H) (end : End)
    → Talked answers left left' taken taken' step step' old new end → (step ≤ step') × (step' ≤ step + 2000000)
talked_steps answers left left' taken taken' step step' old new end t =
    let few = exchanges_are_few answers old new 1 t.exchanges t.answered (omega arith) in
    let two = passes_few end (length t.exchanges) in
    (omega (arith, t.steps), omega (arith, t.steps, few, two))

-- ---- a connection whose bytes were never read

module _ {S : Type 0} (start : S) (stepped : S → ℕ → Caller → Command → S × Reply) (is_row : Entry Command Reply → List ℕ → Type 0) (looked : S → Query → View) where
  at_once : (old : Sitting) (asked : Asked) (said : Said) (new : Sitting) → IsRefusedAtOnce old asked said new → Answers start stepped is_row looked old asked said new
  at_once old asked said new (same, is, want) = subst (λ a. Answers start stepped is_row looked old a said new) (sym is) (same, inr want)

  all_at_once : (old : Sitting) (number : ℕ) (xs : List (Exchange Sitting)) (new : Sitting) → Exchanges IsRefusedAtOnce old number xs new → Exchanges (Answers start stepped is_row looked) old number xs new
  all_at_once old number [] new same = same
  all_at_once old number (x ∷ xs) new (fits, answered, last, more) = (fits, at_once old x.asked x.said x.after answered, last, all_at_once x.after (number + 1) xs new more)

  pub refused_talk : (left left' taken taken' : Option (List ℕ)) (step step' : ℕ) (old new : Sitting) (end : End)
      → Talked IsRefusedAtOnce left left' taken taken' step step' old new end → Talked (Answers start stepped is_row looked) left left' taken taken' step step' old new end
  refused_talk left left' taken taken' step step' old new end t = record {
    exchanges = t.exchanges;
    rest = t.rest;
    answered = all_at_once old 1 t.exchanges new t.answered;
    consumed = t.consumed;
    ended = t.ended;
    whole = t.whole;
    written = t.written;
    steps = t.steps;
  }

refused_answers : (old : Sitting) → IsRefusedAtOnce old (Bytes []) no_memory old
refused_answers old = (refl, refl, refl)

-- the answer was written
pub refused_closed : (left taken taken' : Option (List ℕ)) (step step' : ℕ) (old : Sitting) (bytes : List ℕ) → bytes ≡ page_text no_memory.page false no_memory.body → Appends taken taken' bytes → step' ≡ step + 2
    → Talked IsRefusedAtOnce left left taken taken' step step' old old Closed
refused_closed left taken taken' step step' old bytes is written steps =
    talk_closed IsRefusedAtOnce left left left taken taken taken' step step step' old old 1 [] [] (Bytes []) no_memory old
    (talk_begins IsRefusedAtOnce left taken step old) (takes_none left []) tt (refused_answers old) refl (λ raw is. refl) (subst (Appends taken taken') is written) steps

-- a front of it was written
pub refused_broken : (n : ℕ) (left taken taken' : Option (List ℕ)) (step step' : ℕ) (old : Sitting) (bytes : List ℕ) → bytes ≡ page_text no_memory.page false no_memory.body → Appends taken taken' (take n bytes) → step' ≡ step + 1
    → Talked IsRefusedAtOnce left left taken taken' step step' old old WriteFault
refused_broken n left taken taken' step step' old bytes is written steps =
    talk_broken IsRefusedAtOnce left left left taken taken taken' step step step' old old 1 [] [] (Bytes []) no_memory old
    n (talk_begins IsRefusedAtOnce left taken step old) (takes_none left []) tt (refused_answers old) (λ raw is. refl) (subst (λ l. Appends taken taken' (take n l)) is written) steps
