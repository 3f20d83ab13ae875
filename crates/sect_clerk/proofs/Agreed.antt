-- What a request would be answered is what it is answered.
use Rattle.std.proofs.Common.{◌≡◌, ◌⊎◌, ℕ, List, length, slice_get, refl, sym, ap, ◌∙◌, subst, inl, inr, Option, Some, None}
use Rattle.sect_base.specs.declared.limit.Caller.{Caller}
use Rattle.sect_base.specs.declared.limit.Id.{Id}
use Rattle.sect_once.specs.declared.answer.Answer.{Answer}
use Rattle.sect_once.specs.declared.answer.Answer.TheVariants.{Done, NumberReused, LogFull, KeeperFault, Memory}
use Rattle.sect_once.specs.declared.entry.Entry.{Entry}
use Rattle.sect_once.specs.declared.entry.Note.{Note}
use Rattle.sect_once.specs.Desks.{Acts, Answers, HasEntry, HasOther, IsSound, Standing}
use Rattle.sect_once.specs.History.{ActsOnce, IsFull, IsNew, history}
use Rattle.sect_clerk.specs.Answered.{IsSaid, TriedIsAnswered, WouldAct, WouldAnswer}

module _ {R : Type 0} where
  -- the answer that names a place
  abbrev reused : ℕ → Answer R
  reused place = NumberReused place

module _ {C R : Type 0} where
  -- two entries with one id are one
  same_place : (es : List (Entry C R)) → ActsOnce es → (p q : ℕ) (e f : Entry C R) (id : Id) → slice_get es p ≡ Some e → slice_get es q ≡ Some f
      → e.id ≡ id → f.id ≡ id → p ≡ q
  same_place es once p q e f id at at' is is' = once p q e f at at' (is ∙ sym is')

  same_entry : (es : List (Entry C R)) → ActsOnce es → (p q : ℕ) (e f : Entry C R) (id : Id) → slice_get es p ≡ Some e → slice_get es q ≡ Some f
      → e.id ≡ id → f.id ≡ id → e ≡ f
  same_entry es once p q e f id at at' is is' =
      let here : slice_get es q ≡ Some e = subst (λ (k : ℕ). slice_get es k ≡ Some e) (same_place es once p q e f id at at' is is') at in
      let both : Some e ≡ Some f = sym here ∙ at' in cc

  -- an entry has the id, so that it isn't new
  has_new : (log : List (Note C R)) (place : ℕ) (id : Id) (command : C) (reply : R) → HasEntry log place id command reply → IsNew id (history log) → ⊥
  has_new log place id command reply h new = new place h.entry h.at h.id_is

  other_new : (log : List (Note C R)) (place : ℕ) (id : Id) (command : C) → HasOther log place id command → IsNew id (history log) → ⊥
  other_new log place id command h new = new place h.entry h.at h.id_is

  -- an entry has the id and the command, so that none has the id and another
  has_other : (log : List (Note C R)) → ActsOnce (history log) → (p q : ℕ) (id : Id) (command : C) (reply : R) → HasEntry log p id command reply
      → HasOther log q id command → ⊥
  has_other log once p q id command reply h k =
      k.command_differs (ap (λ (e : Entry C R). e.command) (same_entry (history log) once q p k.entry h.entry id k.at h.at k.id_is h.id_is) ∙ h.command_is)

  -- two that have the id and the command have one reply at one place
  both_have : (log : List (Note C R)) → ActsOnce (history log) → (p q : ℕ) (id : Id) (command : C) (reply other : R) → HasEntry log p id command reply
      → HasEntry log q id command other → Done p reply ≡ Done q other
  both_have log once p q id command reply other h k =
      let place : p ≡ q = same_place (history log) once p q h.entry k.entry id h.at k.at h.id_is k.id_is in
      let same : reply ≡ other = sym h.reply_is ∙ ap (λ (e : Entry C R). e.reply) (same_entry (history log) once p q h.entry k.entry id h.at k.at h.id_is k.id_is) ∙ k.reply_is in
      λ i. Done (place i) (same i)

  both_other : (log : List (Note C R)) → ActsOnce (history log) → (p q : ℕ) (id : Id) (command : C) → HasOther log p id command
      → HasOther log q id command → reused {R = R} p ≡ reused {R = R} q
  both_other log once p q id command h k =
      let place : p ≡ q = same_place (history log) once p q h.entry k.entry id h.at k.at h.id_is k.id_is in
      λ i. reused (place i)

module _ {O C R K : Type 0} (start : O) (stepped : O → ℕ → Caller → C → O × R) (is_row : Entry C R → List ℕ → Type 0) (rows : K → Option (List (List ℕ))) (faults : K → ℕ) where
  -- the desk is the same, and so has the entry too
  had : (d n : Standing O C R K) (place : ℕ) (id : Id) (command : C) (reply : R) → n ≡ d → HasEntry n.log place id command reply
      → HasEntry d.log place id command reply
  had d n place id command reply same h = subst (λ (s : Standing O C R K). HasEntry s.log place id command reply) same h

  -- a request that would act acts so
  acts_so : (id : Id) (day : ℕ) (command : C) (d n : Standing O C R K) (p q : ℕ) (reply other : R) → WouldAct stepped is_row id day command d p reply
      → q ≡ length (history d.log) → Acts stepped is_row rows faults (record { id = id; day = day; command = command; reply = other }) d n
      → Done p reply ≡ Done q other
  acts_so id day command d n p q reply other would at acts =
      let place : p ≡ q = would.place_is ∙ sym at in
      let same : reply ≡ other = would.reply_is ∙ sym acts.reply in
      λ i. Done (place i) (same i)

  pub tried_is_answered : TriedIsAnswered start stepped is_row rows faults
  tried_is_answered id day command d n (Done p reply) (Done q other) sound (inl has) (found, inl same) said told =
      both_have d.log sound.legal.once p q id command reply other has (had d n q id command other same found)
  tried_is_answered id day command d n (Done p reply) (Done q other) sound (inl has) (found, inr (at, acts)) said told =
      absurd (has_new d.log p id command reply has acts.is_new)
  tried_is_answered id day command d n (Done p reply) (Done q other) sound (inr would) (found, inl same) said told =
      absurd (has_new d.log q id command other (had d n q id command other same found) would.is_new)
  tried_is_answered id day command d n (Done p reply) (Done q other) sound (inr would) (found, inr (at, acts)) said told =
      acts_so id day command d n p q reply other would at acts
  tried_is_answered id day command d n (Done p reply) (NumberReused q) sound (inl has) (differs, same) said told =
      absurd (has_other d.log sound.legal.once p q id command reply has differs)
  tried_is_answered id day command d n (Done p reply) (NumberReused q) sound (inr would) (differs, same) said told =
      absurd (other_new d.log q id command differs would.is_new)
  tried_is_answered id day command d n (Done p reply) LogFull sound (inl has) (new, full, same) said told = absurd (has_new d.log p id command reply has new)
  tried_is_answered id day command d n (Done p reply) LogFull sound (inr would) (new, full, same) said told = absurd (would.roomy full)
  tried_is_answered id day command d n (Done p reply) KeeperFault sound would answer said told = absurd told
  tried_is_answered id day command d n (Done p reply) Memory sound would answer said told = absurd told
  tried_is_answered id day command d n (NumberReused p) (Done q other) sound differs (found, inl same) said told =
      absurd (has_other d.log sound.legal.once q p id command other (had d n q id command other same found) differs)
  tried_is_answered id day command d n (NumberReused p) (Done q other) sound differs (found, inr (at, acts)) said told =
      absurd (other_new d.log p id command differs acts.is_new)
  tried_is_answered id day command d n (NumberReused p) (NumberReused q) sound differs (other, same) said told =
      both_other d.log sound.legal.once p q id command differs other
  tried_is_answered id day command d n (NumberReused p) LogFull sound differs (new, full, same) said told = absurd (other_new d.log p id command differs new)
  tried_is_answered id day command d n (NumberReused p) KeeperFault sound would answer said told = absurd told
  tried_is_answered id day command d n (NumberReused p) Memory sound would answer said told = absurd told
  tried_is_answered id day command d n LogFull (Done q other) sound (new, full) (found, inl same) said told =
      absurd (has_new d.log q id command other (had d n q id command other same found) new)
  tried_is_answered id day command d n LogFull (Done q other) sound (new, full) (found, inr (at, acts)) said told = absurd (acts.roomy full)
  tried_is_answered id day command d n LogFull (NumberReused q) sound (new, full) (differs, same) said told = absurd (other_new d.log q id command differs new)
  tried_is_answered id day command d n LogFull LogFull sound would answer said told = refl
  tried_is_answered id day command d n LogFull KeeperFault sound would answer said told = absurd told
  tried_is_answered id day command d n LogFull Memory sound would answer said told = absurd told
  tried_is_answered id day command d n KeeperFault answer sound would is said told = absurd said
  tried_is_answered id day command d n Memory answer sound would is said told = absurd said
