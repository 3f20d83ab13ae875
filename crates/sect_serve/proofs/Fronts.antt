-- The fronts of talks.
use Rattle.std.proofs.Common.{◌≡◌, ◌⊎◌, ℕ, ◌+◌, List, [], ◌∷◌, ◌++◌, Option, refl, sym, subst, inl, inr, append-nil}
use Rattle.std.specs.List.{All}
use Rattle.std.proofs.lemmas.List.Elements.{All-cons, All-nil}
use mathlib.Core.List.{IsPrefix}
use Rattle.sect_answer.specs.Answering.{Does, Sitting}
use Rattle.sect_answer.specs.declared.errand.Errand.{Errand}
use Rattle.sect_answer.specs.declared.errand.Errand.TheVariants.{NoRoute, OtherMethod, NoCommand, Asks, Looks}
use Rattle.sect_base.specs.declared.limit.Caller.{Caller}
use Rattle.sect_command.specs.declared.command.Command.{Command}
use Rattle.sect_command.specs.declared.reply.Reply.{Reply}
use Rattle.sect_command.specs.declared.view.Query.{Query}
use Rattle.sect_command.specs.declared.view.View.{View}
use Rattle.sect_http.specs.Answers.{Answers}
use Rattle.sect_office.proofs.Running.{prefix_of_prefix}
use Rattle.sect_once.specs.declared.entry.Entry.{Entry}
use Rattle.sect_once.specs.declared.entry.Note.{Note}
use Rattle.sect_talk.specs.Said.{Said}
use Rattle.sect_talk.specs.Asked.{Asked, Bytes, Head, Whole, Exchange}
use Rattle.sect_talk.specs.Talk.{Exchanges}
use Rattle.sect_serve.specs.Talks.{Talk, Follow, FrontsBegin}

-- each answer leaves the front as it was or makes it longer
abbrev pub Grows : (Sitting → Asked → Said → Sitting → Type 0) → Type 0
Grows answers = (old : Sitting) (asked : Asked) (said : Said) (new : Sitting) → answers old asked said new → IsPrefix old.front new.front

unchanged : (old new : Sitting) → new ≡ old → IsPrefix old.front new.front
unchanged old new same = subst (λ (s : Sitting). IsPrefix old.front s.front) (sym same) ([], append-nil old.front)

module _ {S : Type 0} (start : S) (stepped : S → ℕ → Caller → Command → S × Reply) (is_row : Entry Command Reply → List ℕ → Type 0) (looked : S → Query → View) where
  does_grow : (e : Errand) (old : Sitting) (said : Said) (new : Sitting) → Does start stepped is_row looked e old said new → IsPrefix old.front new.front
  does_grow NoRoute old said new (same, is) = unchanged old new same
  does_grow (OtherMethod method) old said new (same, is) = unchanged old new same
  does_grow NoCommand old said new (same, is) = unchanged old new same
  does_grow (Asks id command) old said new d = d.grown
  does_grow (Looks query) old said new d = d.grown

  pub answers_grow : Grows (Answers start stepped is_row looked)
  answers_grow old (Bytes raw) said new (same, how) = unchanged old new same
  answers_grow old (Head h) said new (same, how) = unchanged old new same
  answers_grow old (Whole h body) said new (framed, inl (same, want)) = unchanged old new same
  answers_grow old (Whole h body) said new (framed, inr (e, is, does)) = does_grow e old said new does

module _ (answers : Sitting → Asked → Said → Sitting → Type 0) (grow : Grows answers) (log : List (Note Command Reply)) where
  exchanges_begin : (old new : Sitting) (number : ℕ) (xs : List (Exchange Sitting)) → Exchanges answers old number xs new → IsPrefix new.front log
      → All (λ (x : Exchange Sitting). IsPrefix x.after.front log) xs × IsPrefix old.front log
  exchanges_begin old new number [] same within =
      (All-nil (λ (x : Exchange Sitting). IsPrefix x.after.front log), subst (λ (s : Sitting). IsPrefix s.front log) same within)
  exchanges_begin old new number (x ∷ xs) (fits, answered, last, more) within =
      let rest = exchanges_begin x.after new (number + 1) xs more within in
      (All-cons (λ (y : Exchange Sitting). IsPrefix y.after.front log) x xs rest.1 rest.0, prefix_of_prefix old.front x.after.front log (grow old x.asked x.said x.after answered) rest.1)

  module _ {I T : Type 0} (left : I → Option (List ℕ)) (taken : T → Option (List ℕ)) (in_faults : I → ℕ) (out_faults : T → ℕ) where
    abbrev Begin : Talk answers left taken in_faults out_faults → Type 0
    Begin t = All (λ x. IsPrefix x.after.front log) t.talked.exchanges

    both_begin : (old new : Sitting) (step next : ℕ) (ts : List (Talk answers left taken in_faults out_faults)) → Follow answers left taken in_faults out_faults old step ts new next
        → IsPrefix new.front log → All Begin ts × IsPrefix old.front log
    both_begin old new step next [] (same, at) within = (All-nil Begin, subst (λ (s : Sitting). IsPrefix s.front log) same within)
    both_begin old new step next (t ∷ ts) (before, first, more) within =
        let rest = both_begin t.after new t.next_step next ts more within in
        let one = exchanges_begin t.before t.after 1 t.talked.exchanges t.talked.answered rest.1 in
        (All-cons Begin t ts one.0 rest.0, subst (λ (s : Sitting). IsPrefix s.front log) before one.1)

    -- the front after each request begins a log that the last front begins
    pub fronts_begin : (old new : Sitting) (step next : ℕ) (ts : List (Talk answers left taken in_faults out_faults)) → Follow answers left taken in_faults out_faults old step ts new next
        → IsPrefix new.front log → FrontsBegin answers left taken in_faults out_faults log ts
    fronts_begin old new step next ts follow within = (both_begin old new step next ts follow within).0
