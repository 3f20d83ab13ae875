-- What a desk's answer shows of a pass's front and calls.
use Rattle.std.proofs.Common.{◌≡◌, ℕ, ◌+◌, ◌==◌, if◌then◌else◌, List, [], ◌∷◌, ◌++◌, length, refl, sym, ap, ◌∙◌, subst, inl, inr, ◌⊎◌, ⊎_elim, arith, Option, eqb, eq-eqb, ne_eqb, length-append, append_assoc, append-nil}
use mathlib.Core.List.{IsPrefix}
use Rattle.sect_base.specs.declared.limit.Id.{Id}
use Rattle.sect_base.specs.declared.limit.Caller.{Caller}
use Rattle.sect_once.specs.declared.entry.Entry.{Entry}
use Rattle.sect_once.specs.declared.entry.Note.{Note}
use Rattle.sect_once.specs.declared.entry.Note.TheVariants.{Acted, Faulted}
use Rattle.sect_once.specs.declared.answer.Answer.{Answer}
use Rattle.sect_once.specs.declared.answer.Answer.TheVariants.{Done, NumberReused, LogFull, KeeperFault, Memory}
use Rattle.sect_once.specs.History.{history, IsNew, IsFull}
use Rattle.sect_once.specs.Desks.{Standing, Acts, HasOther, Answers}
use Rattle.sect_turn.specs.Passes.{calls_after}
use Rattle.sect_office.specs.Offices.{Shows}

pub follows_prefix : {N : Type 0} (first before after : List N) → IsPrefix first before → (after ≡ before) ⊎ ((note : N) × (after ≡ before ++ note ∷ [])) → IsPrefix first after
follows_prefix first before after p (Rattle.std.proofs.Common.inl same) = (p.0, p.1 ∙ sym same)
follows_prefix first before after p (Rattle.std.proofs.Common.inr more) = (p.0 ++ more.0 ∷ [], sym (append_assoc first p.0 (more.0 ∷ [])) ∙ (ap (λ z. z ++ more.0 ∷ []) p.1 ∙ sym more.1))

module _ {N : Type 0} where
  calls_same : (own : List ℕ) (xs ys : List N) → ys ≡ xs → calls_after own xs ys ≡ own
  calls_same own xs ys e = ap (λ b. if b then own else own ++ length xs ∷ []) (eq-eqb (length ys) (length xs) (ap length e))

  calls_more : (own : List ℕ) (xs ys : List N) (n : N) → ys ≡ xs ++ n ∷ [] → calls_after own xs ys ≡ own ++ length xs ∷ []
  calls_more own xs ys n e = let longer : length ys ≡ length xs + 1 = ap length e ∙ length-append xs (n ∷ []) in
      ap (λ b. if b then own else own ++ length xs ∷ []) (ne_eqb (length ys) (length xs) (λ h. omega arith))

module _ {O C R K : Type 0} (stepped : O → ℕ → Caller → C → O × R) (is_row : Entry C R → List ℕ → Type 0) (rows : K → Option (List (List ℕ))) (faults : K → ℕ) where
  abbrev log_in : Standing O C R K → List (Note C R)
  log_in d = d.log

  pub shows_answer : (id : Id) (day : ℕ) (command : C) (old : List (Note C R)) (d n : Standing O C R K) (own own' : List ℕ) (a : Answer R) → IsPrefix old d.log → Answers stepped is_row rows faults id day command d n a → own' ≡ calls_after own d.log n.log → Shows is_row id day command old n.log own own' a
  shows_answer id day command old d n own own' (Done place reply) grown h calls = (
    h.0,
    ⊎_elim (λ (e : n ≡ d). inl (calls ∙ calls_same own d.log n.log (ap log_in e)))
        (λ (t : (place ≡ length (history d.log)) × Acts stepped is_row rows faults (record { id = id; day = day; command = command; reply = reply }) d n).
        inr (record {
          before = d.log;
          grown = grown;
          is_new = t.1.is_new;
          roomy = t.1.roomy;
          front_is = t.1.log;
          own_is = calls ∙ calls_more own d.log n.log (Acted (record { id = id; day = day; command = command; reply = reply })) t.1.log;
        })) h.1,
  )
  shows_answer id day command old d n own own' (NumberReused place) grown h calls = (subst (λ (z : Standing O C R K). HasOther z.log place id command) (sym h.1) h.0, calls ∙ calls_same own d.log n.log (ap log_in h.1))
  shows_answer id day command old d n own own' LogFull grown h calls =
      (subst (λ (z : Standing O C R K). IsNew id (history z.log)) (sym h.2) h.0, subst (λ (z : Standing O C R K). IsFull is_row z.log) (sym h.2) h.1, calls ∙ calls_same own d.log n.log (ap log_in h.2))
  shows_answer id day command old d n own own' KeeperFault grown h calls = record {
    before = d.log;
    grown = grown;
    is_new = h.is_new;
    roomy = h.roomy;
    front_is = h.log;
    own_is = calls ∙ calls_more own d.log n.log (Faulted id) h.log;
  }
  shows_answer id day command old d n own own' Memory grown h calls =
      (subst (λ (z : List (Note C R)). IsNew id (history z) → IsFull is_row z → ⊥) (sym h.log) h.roomy, calls ∙ calls_same own d.log n.log h.log)
