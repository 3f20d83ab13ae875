-- How a disk in memory replays its calls.
use Rattle.std.proofs.Common.{◌≡◌, ℕ, List, [], ◌∷◌, ◌++◌, length, map, Option, Some, Vec, Result, Ok, Err, OnOk, OnErr, IsErrOf, IsTrue, false, ◌⊎◌, inl, inr, arith, refl, sym, ◌∙◌, ap, subst}
use Rattle.std.proofs.lemmas.List.{map_push}
use Rattle.sect_journal.specs.declared.memory.DiskCall.{DiskCall}
use Rattle.std.specs.declared.alloc.Global.{Global}
use Rattle.sect_journal.specs.declared.memory.DiskCall.TheVariants as calls
use Rattle.sect_journal.specs.Disk.{Told, Torn, put}
use Rattle.sect_journal.specs.Memory.{Step, DiskState, IsCached, step_of, after, replay, fresh, told_by, Looked}
use Rattle.sect_edge.specs.Memory.{Calls}
use Rattle.sect_journal.specs.declared.disk.DiskFault.{DiskFault}
use Rattle.sect_journal.specs.declared.disk.DiskFault.TheVariants.{Failed, Memory}

pub replay-push : (t : Told) (steps : List Step) (step : Step) → replay t (steps ++ step ∷ []) ≡ after (replay t steps) step
replay-push t [] step = refl
replay-push t (s ∷ steps) step = replay-push (after t s) steps step

pub replays : (t : Told) (old new : List DiskCall) (call : DiskCall) → new ≡ old ++ call ∷ [] → replay t (map step_of new) ≡ after (replay t (map step_of old)) (step_of call)
replays t old new call is = ap (λ l. replay t (map step_of l)) is ∙ ap (λ l. replay t l) (map_push step_of old call) ∙ replay-push t (map step_of old) (step_of call)

module _ (f : Told) (first : List ℕ) (old mid new : List DiskCall) (durable seen : Option (Vec ℕ Global)) (pending : List (ℕ × ℕ)) (same : mid ≡ old) (is : IsCached (replay f (map step_of old)).now first durable seen pending) where
  -- nothing changed
  pub cached_looked : new ≡ mid ++ calls.Looked ∷ [] → IsCached (replay f (map step_of new)).now first durable seen pending
  cached_looked pushed =
      let r = replays f old new calls.Looked (pushed ∙ ap (λ l. l ++ calls.Looked ∷ []) same) in
      subst (λ t. IsCached t.now first durable seen pending) (sym r) is

  -- a write failed
  pub cached_tore : (at n : ℕ) (ranges before : List (ℕ × ℕ)) → new ≡ mid ++ calls.Tore at n ∷ [] → before ≡ pending → ranges ≡ before ++ (at, n) ∷ [] → IsCached (replay f (map step_of new)).now first durable seen ranges
  cached_tore at n ranges before pushed was range =
      let r = replays f old new (calls.Tore at n) (pushed ∙ ap (λ l. l ++ calls.Tore at n ∷ []) same) in
      subst (λ t. IsCached t.now first durable seen ranges) (sym r)
      (record { durable_is = is.durable_is; seen_is = is.seen_is; pending_is = ap (λ l. l ++ (at, n) ∷ []) (is.pending_is ∙ sym was) ∙ sym range })

  -- a piece was written
  pub cached_wrote : (at n : ℕ) (piece next : Vec ℕ Global) (ranges before : List (ℕ × ℕ)) → new ≡ mid ++ calls.Wrote at piece ∷ [] → before ≡ pending → ranges ≡ before ++ (at, n) ∷ [] → length piece.items ≡ n
      → next.items ≡ put (replay f (map step_of old)).now.seen at piece.items → IsCached (replay f (map step_of new)).now first durable (Some next) ranges
  cached_wrote at n piece next ranges before pushed was range long next_is =
      let r = replays f old new (calls.Wrote at piece) (pushed ∙ ap (λ l. l ++ calls.Wrote at piece ∷ []) same) in
      subst (λ t. IsCached t.now first durable (Some next) ranges) (sym r)
      (record { durable_is = is.durable_is; seen_is = sym next_is; pending_is = ap (λ l. l ++ (at, length piece.items) ∷ []) (is.pending_is ∙ sym was) ∙ ap (λ k. before ++ (at, k) ∷ []) long ∙ sym range })

  -- all was made durable
  pub cached_synced : (copy : Vec ℕ Global) (ranges : List (ℕ × ℕ)) → new ≡ mid ++ calls.Synced ∷ [] → ranges ≡ [] → copy.items ≡ (replay f (map step_of old)).now.seen → IsCached (replay f (map step_of new)).now first (Some copy) seen ranges
  cached_synced copy ranges pushed none copy_is =
      let r = replays f old new calls.Synced (pushed ∙ ap (λ l. l ++ calls.Synced ∷ []) same) in
      subst (λ t. IsCached t.now first (Some copy) seen ranges) (sym r)
      (record { durable_is = sym copy_is; seen_is = is.seen_is; pending_is = sym none })

-- what a disk tells after a call
pub told_after : (old new : DiskState) (step : Step) (calls : Calls) → new ≡ record { first = old.first; steps = old.steps ++ step ∷ []; calls = calls } → told_by new ≡ after (told_by old) step
told_after old new step calls is = ap (λ d. told_by d) is ∙ replay-push (fresh old.first) old.steps step

-- an error is one of two
pub err_either : {T P : Type 0} (result : Result T DiskFault) → (IsErrOf result Failed → P) → (IsErrOf result Memory → P) → OnErr result P
err_either (Ok x) f g = tt
err_either (Err Failed) f g = f refl
err_either (Err Memory) f g = g refl

-- a call that changes nothing
pub look_same : {T : Type 0} (result : Result T DiskFault) (old new : DiskState) (done failed : Calls) → OnOk result (new ≡ record { first = old.first; steps = old.steps ++ Looked ∷ []; calls = done })
    → (IsErrOf result Failed → new ≡ record { first = old.first; steps = old.steps ++ Looked ∷ []; calls = failed }) → (IsErrOf result Memory → new ≡ old) → ◌≡◌ {A = Option Told} (Some (told_by new)) (Some (told_by old))
look_same (Ok x) old new done failed ok f m = ap (λ t. Some t) (told_after old new Looked done ok)
look_same (Err Failed) old new done failed ok f m = ap (λ t. Some t) (told_after old new Looked failed (f refl))
look_same (Err Memory) old new done failed ok f m = ap (λ d. Some (told_by d)) (m refl)

-- a write that failed and left what a read gives
pub torn_none : (at n : ℕ) (old : List ℕ) → Torn at n old old
torn_none at n old = record { before = refl; after = refl; no_shorter = omega arith; no_longer = omega arith }

-- a call that isn't refused
pub not_refused : {X : Type 0} → IsTrue false ⊎ X → X
not_refused (inl never) = absurd (cc)
not_refused (inr other) = other
