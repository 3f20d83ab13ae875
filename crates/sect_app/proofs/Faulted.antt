-- Few answers tell a fault of the keeper.
use Rattle.std.proofs.Common.{◌≡◌, ◌||◌, ℕ, zero, suc, ◌+◌, ◌≤◌, Bool, true, false, cond, List, [], ◌∷◌, ◌++◌, Option, count_by, refl, sym, ap, ◌∙◌, subst, inl, inr, arith}
use Rattle.std.proofs.lemmas.List.Sums.{sum_by-append, sum_by-cons}
use Rattle.sect_base.specs.declared.limit.Id.{Id}
use Rattle.sect_command.specs.declared.command.Command.{Command}
use Rattle.sect_command.specs.declared.reply.Reply.{Reply}
use Rattle.sect_edge.specs.Causes.{Rose}
use Rattle.sect_history.specs.Step.{stepped}
use Rattle.sect_model.specs.World.{State}
use Rattle.sect_once.specs.declared.answer.Answer.{Answer}
use Rattle.sect_once.specs.declared.answer.Answer.TheVariants as answers
use Rattle.sect_once.specs.declared.entry.Entry.{Entry}
use Rattle.sect_once.specs.declared.entry.Note.{Note}
use Rattle.sect_once.specs.declared.entry.Note.TheVariants.{Acted, Faulted}
use Rattle.sect_once.specs.Desks.{Standing, Answers as AnswersAsk}
use Rattle.sect_once.specs.Faults.{AtMostFaults}
use Rattle.sect_once.specs.History.{acted_log, faulted, history}
use Rattle.sect_wire.specs.Laws.{IsRow}
use Rattle.sect_script.specs.Lines.{Line, text_of}
use Rattle.sect_script.specs.Run.{Answers, AnswersEach}
use Rattle.sect_asking.specs.Asks.{AnswersScript, AnswersText, Sitting, is_passed_over}
use Rattle.sect_app.specs.Asking.{AnswersNumbered}
use Rattle.sect_app.specs.Numbers.{Numbered}
use Rattle.sect_app.specs.Faulted.{AreFew, FewOfLines, FewOfTables, commands_told, is_fault, line_told, lines_told}

-- ---- lists that are counted

module _ {X : Type 0} (p : X → Bool) where
  pub count-append : (xs ys : List X) → count_by p (xs ++ ys) ≡ count_by p xs + count_by p ys
  count-append xs ys = sum_by-append (λ x. cond (p x) 1 0) xs ys

  pub count-cons : (x : X) (xs : List X) → count_by p (x ∷ xs) ≡ cond (p x) 1 0 + count_by p xs
  count-cons x xs = sum_by-cons (λ x. cond (p x) 1 0) x xs

either : (a b : Bool) → cond (a || b) 1 0 ≤ cond a 1 0 + cond b 1 0
either true b = omega arith
either false b = omega arith

pub count-either : {X : Type 0} (p q : X → Bool) (xs : List X) → count_by (λ x. p x || q x) xs ≤ count_by p xs + count_by q xs
count-either p q [] = omega arith
count-either p q (x ∷ xs) =
    omega (arith, count-cons (λ y. p y || q y) x xs, count-cons p x xs, count-cons q x xs, either (p x) (q x), count-either p q xs)

-- ---- faults that were noted

pub few_are : (told noted base before now : ℕ) → told ≤ noted → base ≡ before → AtMostFaults noted base now → AreFew told before now
few_are told noted base before now fewer same most = record { few = few; none = by told few }
  where
    few : AtMostFaults told before now
    few = omega (arith, fewer, same, most)

    by : (n : ℕ) → AtMostFaults n before now → (Rose before now → ⊥) → n ≡ 0
    by zero h quiet = refl
    by (suc n) h quiet = absurd (quiet (omega (arith, h)))

module _ {C R : Type 0} where
  noted-append : (a b : List (Note C R)) → faulted (a ++ b) ≡ faulted a + faulted b
  noted-append [] b = omega arith
  noted-append (Acted e ∷ a) b = noted-append a b
  noted-append (Faulted id ∷ a) b = omega (arith, noted-append a b)

  none_noted : (es : List (Entry C R)) → faulted (acted_log es) ≡ 0
  none_noted [] = refl
  none_noted (e ∷ es) = none_noted es

-- ---- lines, and commands of a table

module _ {K : Type 0} (rows : K → Option (List (List ℕ))) (faults : K → ℕ) where
  -- each answer `fault` is noted
  ask_noted : (id : Id) (day : ℕ) (command : Command) (d n : Standing State Command Reply K) (a : Answer Reply)
      → AnswersAsk stepped IsRow rows faults id day command d n a → faulted d.log + cond (is_fault a) 1 0 ≤ faulted n.log
  ask_noted id day command d n (answers.Done place reply) (has, inl same) = omega (arith, ap (λ (s : Standing State Command Reply K). faulted s.log) same)
  ask_noted id day command d n (answers.Done place reply) (has, inr (at, acts)) =
      omega (arith, ap faulted acts.log, noted-append d.log (Acted (record { id = id; day = day; command = command; reply = reply }) ∷ []))
  ask_noted id day command d n (answers.NumberReused place) (has, same) = omega (arith, ap (λ (s : Standing State Command Reply K). faulted s.log) same)
  ask_noted id day command d n answers.LogFull (is_new, full, same) = omega (arith, ap (λ (s : Standing State Command Reply K). faulted s.log) same)
  ask_noted id day command d n answers.KeeperFault f = omega (arith, ap faulted f.log, noted-append d.log (Faulted id ∷ []))
  ask_noted id day command d n answers.Memory s = omega (arith, ap faulted s.log)

  line_noted : (over : Bool) (old : Sitting State Command Reply K) (line bytes : List ℕ) (new : Sitting State Command Reply K)
      (told : AnswersText stepped IsRow rows faults over old line bytes new)
      → faulted old.desk.log + count_by is_fault (line_told rows faults over old line bytes new told) ≤ faulted new.desk.log
  line_noted true old line bytes new told = omega (arith, ap (λ (s : Sitting State Command Reply K). faulted s.desk.log) told.1)
  line_noted false old line bytes new told =
      omega (arith, ask_noted told.ask.id told.day told.ask.command old.desk new.desk told.answer told.answered, count-cons is_fault told.answer [])

  lines_noted : (old : Sitting State Command Reply K) (lines : List Line) (bytes : List ℕ) (new : Sitting State Command Reply K)
      (told : Answers (AnswersScript stepped IsRow rows faults) old lines bytes new)
      → faulted old.desk.log + count_by is_fault (lines_told rows faults old lines bytes new told) ≤ faulted new.desk.log
  lines_noted old [] bytes new (none, same) = omega (arith, ap (λ (s : Sitting State Command Reply K). faulted s.desk.log) same)
  lines_noted old (line ∷ lines) bytes new (mid, first, more, told, rest, all) =
      let here = line_told rows faults (is_passed_over (text_of line)) old (text_of line) first mid told.1 in
      let behind = lines_told rows faults mid lines more new rest in
      omega (arith, line_noted (is_passed_over (text_of line)) old (text_of line) first mid told.1, lines_noted mid lines more new rest, count-append is_fault here behind)

  commands_noted : (old : Sitting State Command Reply K) (asked : List Numbered) (bytes : List ℕ) (new : Sitting State Command Reply K)
      (told : AnswersEach (AnswersNumbered stepped IsRow rows faults) old asked bytes new)
      → faulted old.desk.log + count_by is_fault (commands_told rows faults old asked bytes new told) ≤ faulted new.desk.log
  commands_noted old [] bytes new (none, same) = omega (arith, ap (λ (s : Sitting State Command Reply K). faulted s.desk.log) same)
  commands_noted old (it ∷ asked) bytes new (mid, first, more, told, rest, all) =
      omega (
        arith,
        ask_noted _ told.day it.given.command old.desk mid.desk told.answer told.answered,
        commands_noted mid asked more new rest,
        count-cons is_fault told.answer (commands_told rows faults mid asked more new rest),
      )

  -- what was noted since the keeper opened
  since_opened : (opened last : Standing State Command Reply K) (keeper back : K) (told : ℕ) → opened.log ≡ acted_log (history opened.log) → opened.base ≡ faults keeper
      → last.base ≡ opened.base → back ≡ last.keeper → AtMostFaults (faulted last.log) last.base (faults last.keeper)
      → faulted opened.log + told ≤ faulted last.log → AreFew told (faults keeper) (faults back)
  since_opened opened last keeper back told none base same back_is most more =
      few_are told (faulted last.log) last.base (faults keeper) (faults back)
      (omega (arith, more)) (same ∙ base) (subst (λ (k : K). AtMostFaults (faulted last.log) last.base (faults k)) (sym back_is) most)

  pub few_of_lines : FewOfLines rows faults
  few_of_lines keeper back left left' taken taken' days status runs =
      since_opened runs.opened runs.last.desk keeper back _ runs.opens.no_faults runs.opens.base runs.grows.base runs.back_is runs.sound.counted
      (lines_noted (record { desk = runs.opened; days = days }) runs.ran.lines runs.ran.bytes runs.last runs.ran.answered)

  pub few_of_tables : FewOfTables rows faults
  few_of_tables table term first keeper back left left' taken taken' days status runs =
      since_opened runs.opened runs.last.desk keeper back _ runs.opens.no_faults runs.opens.base runs.grows.base runs.back_is runs.sound.counted
      (commands_noted (record { desk = runs.opened; days = days }) _ runs.ran.asks.bytes runs.last runs.ran.asks.answered)
