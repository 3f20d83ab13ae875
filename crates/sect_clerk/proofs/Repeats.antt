-- What a request would be answered whose id an entry has.
use Rattle.std.proofs.Common.{◌≡◌, ℕ, ◌⊎◌, List, Some, ap, arith, inl, refl, slice_get, subst, sym, ⊎_elim, ◌∙◌}
use Rattle.sect_base.specs.declared.limit.Caller.{Caller}
use Rattle.sect_base.specs.declared.limit.Id.{Id}
use Rattle.sect_once.specs.declared.answer.Answer.{Answer}
use Rattle.sect_once.specs.declared.answer.Answer.TheVariants.{Done, Memory}
use Rattle.sect_once.specs.declared.answer.Seen.TheVariants.{Place, Reused}
use Rattle.sect_once.specs.declared.entry.Entry.{Entry}
use Rattle.sect_once.specs.Desks.{FindsIn, HasOther, Standing}
use Rattle.sect_once.specs.History.{history}
use Rattle.sect_clerk.specs.Answered.{WouldAnswer}

module _ {O C R K : Type 0} (stepped : O → ℕ → Caller → C → O × R) (is_row : Entry C R → List ℕ → Type 0) where
  -- a repeat would have its kept reply, or memory is wanted
  pub would_repeat : (id : Id) (day : ℕ) (command : C) (d : Standing O C R K) (place : ℕ) (a : Answer R) → FindsIn (history d.log) id command (Place place)
      → ((a ≡ Memory) ⊎ ((e : Entry C R) × (slice_get (history d.log) place ≡ Some e) × (a ≡ Done place e.reply))) → WouldAnswer stepped is_row id day command d a
  would_repeat id day command d place a (e, at, id_is, command_is) said = ⊎_elim
      (λ (m : a ≡ Memory). subst (WouldAnswer stepped is_row id day command d) (sym m) (λ new full. new place e at id_is))
      (λ (t : (f : Entry C R) × (slice_get (history d.log) place ≡ Some f) × (a ≡ Done place f.reply)).
      let both : Some e ≡ Some t.0 = sym at ∙ t.1 in
      let same : e ≡ t.0 = cc in
      subst (WouldAnswer stepped is_row id day command d) (sym t.2) (inl record { entry = e; at = at; id_is = id_is; command_is = command_is; reply_is = ap (λ (x : Entry C R). x.reply) same })) said

module _ {O C R K : Type 0} where
  -- another command has the id
  pub would_reuse : (id : Id) (command : C) (d : Standing O C R K) (place : ℕ) → FindsIn (history d.log) id command (Reused place) → HasOther d.log place id command
  would_reuse id command d place (e, at, id_is, differs) = record { entry = e; at = at; id_is = id_is; command_differs = differs }
