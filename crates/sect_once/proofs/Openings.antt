-- The replay of rows, one after another.
use Rattle.std.proofs.Common.{◌≡◌, ℕ, suc, zero, ◌+◌, ◌^◌, ◌≤◌, ◌<◌, Bool, true, false, List, [], ◌∷◌, ◌++◌, length, take, refl, sym, ap, ◌∙◌, subst, inl, inr, ◌⊎◌, ⊎_elim, arith, Option, Some, None, length-append, slice_get}
use Rattle.std.specs.List.{AllZip}
use Rattle.std.specs.Option.{is_some}
use Rattle.std.specs.Prelude.{IfSome}
use Rattle.std.proofs.Math.Nat.{lt_of_not-le}
use Rattle.sect_base.specs.declared.limit.Caller.{Caller}
use Rattle.sect_base.specs.declared.limit.Id.{Id}
use Rattle.sect_edge.specs.Keeper.{CountsRows, FindsRow, KeepsRows}
use Rattle.sect_once.specs.declared.entry.Entry.{Entry}
use Rattle.sect_once.specs.History.{acted_log, history, log_of, state_after, ActsOnce, AreHeavy, IsFull, IsNew, IsReplay, NeverFull, TellsRows}
use Rattle.sect_once.specs.Desks.{IsSound, Standing, Trail}
use Rattle.sect_once.specs.declared.answer.OpenFault.{OpenFault}
use Rattle.sect_once.specs.declared.answer.OpenFault.TheVariants as shut
use Rattle.sect_once.specs.Opening.{Follows, HasActed, IsBad, IsBadNext, IsCause, IsFirstBad, IsOpened, IsRowCause, ActsAgain, Resumes, Takes, TakesAtOnce, TakesNext}
use Rattle.sect_once.proofs.Logs.{get-snoc, IsReplay-append}
use Rattle.std.proofs.lemmas.List.{take_all}
use Rattle.sect_once.specs.declared.entry.Note.{Note}
use Rattle.sect_once.specs.declared.entry.Note.TheVariants.{Acted}
use Rattle.sect_once.specs.declared.entry.Unkept.{Unkept}
use Rattle.sect_once.proofs.Rows.{acted_log-append, history-acted_log, length-acted_log, never_full-append, never_full-nil, rows-append}

-- what is told of an item that is there
pub some_has : {A : Type 0} {P : A → Type 0} {Q : Type 0} (o : Option A) → is_some o ≡ true → IfSome o P → ((a : A) → P a → Q) → Q
some_has None h p then = absurd cc
some_has (Some a) h p then = then a p

pub keeps-trans : (told now now' : Option (List (List ℕ))) → KeepsRows told now → KeepsRows now now' → KeepsRows told now'
keeps-trans None now now' h k = subst (λ (o : Option (List (List ℕ))). KeepsRows o now') h k
keeps-trans (Some all) now now' h k = subst (λ (o : Option (List (List ℕ))). KeepsRows o now') h k

module _ {A : Type 0} where
  take-suc : (xs : List A) (at : ℕ) (x : A) → slice_get xs at ≡ Some x → take (suc at) xs ≡ take at xs ++ x ∷ []
  take-suc [] at x h = absurd cc
  take-suc (y ∷ xs) zero x h = let e : y ≡ x = cc in ap (λ (z : A). z ∷ []) e
  take-suc (y ∷ xs) (suc at) x h = ap (λ (zs : List A). y ∷ zs) (take-suc xs at x h)

  take-snoc : (xs : List A) (at : ℕ) (x : A) → slice_get xs at ≡ Some x → take (at + 1) xs ≡ take at xs ++ x ∷ []
  take-snoc xs at x h = let e : at + 1 ≡ suc at = omega arith in ap (λ (n : ℕ). take n xs) e ∙ take-suc xs at x h

module _ {C R : Type 0} where
  once-append : (es : List (Entry C R)) (e : Entry C R) → ActsOnce es → IsNew e.id es → ActsOnce (es ++ e ∷ [])
  once-append es e once new p q f g at at' same = once_at (get-snoc es e p f at) (get-snoc es e q g at')
    where
      once_at : ((slice_get es p ≡ Some f) ⊎ ((p ≡ length es) × (e ≡ f))) → ((slice_get es q ≡ Some g) ⊎ ((q ≡ length es) × (e ≡ g))) → p ≡ q
      once_at (Rattle.std.proofs.Common.inl a) (Rattle.std.proofs.Common.inl b) = once p q f g a b same
      once_at (Rattle.std.proofs.Common.inl a) (Rattle.std.proofs.Common.inr b) = absurd (new p f a (same ∙ ap (λ (x : Entry C R). x.id) (sym b.1)))
      once_at (Rattle.std.proofs.Common.inr a) (Rattle.std.proofs.Common.inl b) = absurd (new q g b (sym same ∙ ap (λ (x : Entry C R). x.id) (sym a.1)))
      once_at (Rattle.std.proofs.Common.inr a) (Rattle.std.proofs.Common.inr b) = a.0 ∙ sym b.0

module _ {A : Type 0} where
  get-none : (xs : List A) (at : ℕ) → slice_get xs at ≡ None → length xs ≤ at
  get-none [] at h = omega arith
  get-none (x ∷ xs) zero h = absurd cc
  get-none (x ∷ xs) (suc at) h = let more = get-none xs at h in omega (arith, more)

finds-back : (told now : Option (List (List ℕ))) (at : ℕ) (found : Bool) (row : List ℕ) → KeepsRows told now → FindsRow now at found row → FindsRow told at found row
finds-back None now at found row k f = tt
finds-back (Some all) now at found row k f = subst (λ (o : Option (List (List ℕ))). FindsRow o at found row) k f

finds-there : (told : Option (List (List ℕ))) (count at : ℕ) (found : Bool) (row : List ℕ) → CountsRows told count → at < count → FindsRow told at found row → (all : List (List ℕ)) → told ≡ Some all → found ≡ true
finds-there told count at true row counts within finds all is = refl
finds-there told count at false row counts within finds all is =
    let here : slice_get all at ≡ None = subst (λ (o : Option (List (List ℕ))). FindsRow o at false row) is finds in
    let long : count ≡ length all = subst (λ (o : Option (List (List ℕ))). CountsRows o count) is counts in
    absurd (omega (arith, get-none all at here, long, within))

module _ {C R : Type 0} (is_row : Entry C R → List ℕ → Type 0) where
  pub full_log : (es : List (Entry C R)) → (2 ^ 20 ≤ length es) ⊎ AreHeavy is_row es → IsFull is_row (acted_log es)
  full_log es (Rattle.std.proofs.Common.inl big) = inl (omega (arith, big, length-acted_log es))
  full_log es (Rattle.std.proofs.Common.inr heavy) = inr (subst (AreHeavy is_row) (sym (history-acted_log es)) heavy)

  pub full_entries : (es : List (Entry C R)) → IsFull is_row (acted_log es) → (2 ^ 20 ≤ length es) ⊎ AreHeavy is_row es
  full_entries es (Rattle.std.proofs.Common.inl big) = inl (omega (arith, big, length-acted_log es))
  full_entries es (Rattle.std.proofs.Common.inr heavy) = inr (subst (AreHeavy is_row) (history-acted_log es) heavy)

  pub few : (es : List (Entry C R)) → (IsFull is_row (acted_log es) → ⊥) → length es < 2 ^ 20
  few es room = lt_of_not-le (λ (big : 2 ^ 20 ≤ length es). room (full_log es (inl big)))

module _ {O C R : Type 0} (start : O) (stepped : O → ℕ → Caller → C → O × R) (is_row : Entry C R → List ℕ → Type 0) where
  pub takes_from : (old new : Trail O C R) (row : List ℕ) (e : Entry C R) → (IsFull is_row (acted_log old.entries) → ⊥) → is_row e row → Rattle.sect_once.specs.History.IsNew e.id old.entries
      → (b : Bool) → Resumes start stepped is_row old new e b → Takes start stepped is_row old new row b
  takes_from old new row e room written is_new true h = (e, record { roomy = room; written = written; is_new = is_new; replied = h.0 }, h.1)
  takes_from old new row e room written is_new false h = (inr (inr (e, written, inr h.0)), h.1)

  -- a request that is taken again is an entry that follows
  again_takes : (old new : Trail O C R) (id : Id) (day : ℕ) (command : C) (row : List ℕ) → (IsFull is_row (acted_log old.entries) → ⊥) → IsNew id old.entries
      → ActsAgain start stepped is_row old new id day command row true → Takes start stepped is_row old new row true
  again_takes old new id day command row room is_new h = (
    h.0,
    record { roomy = room; written = h.2; is_new = subst (λ (it : Id). IsNew it old.entries) (sym h.1) is_new; replied = h.3 },
    h.4,
  )

  pub again_at_once : (old new : Trail O C R) (id : Id) (day : ℕ) (command : C) (row : List ℕ) → (IsFull is_row (acted_log old.entries) → ⊥) → IsNew id old.entries
      → (b : Bool) → ActsAgain start stepped is_row old new id day command row b → TakesAtOnce start stepped is_row old new row b
  again_at_once old new id day command row room is_new true h = again_takes old new id day command row room is_new h
  again_at_once old new id day command row room is_new false h = h

  pub acted_bad : (es : List (Entry C R)) (row : List ℕ) (e : Entry C R) → is_row e row → HasActed start stepped is_row e.id es → IsBad start stepped is_row es true row
  acted_bad es row e written has = inr (inr (e, written, inl has))

  pub takes_next : (told : Option (List (List ℕ))) (old new : Trail O C R) (at : ℕ) (row read : List ℕ) → read ≡ row → FindsRow told at true row → Takes start stepped is_row old new read true
      → TakesNext start stepped is_row told old new at
  takes_next told old new at row read is found t = record { row = row; entry = t.0; found = found; follows = subst (λ (r : List ℕ). Follows start stepped is_row old.entries r t.0) is t.1; entries = t.2 }

  pub bad_next : (told : Option (List (List ℕ))) (old new : Trail O C R) (at : ℕ) (row read : List ℕ) → read ≡ row → FindsRow told at true row → Takes start stepped is_row old new read false
      → IsBadNext start stepped is_row told old.entries at
  bad_next told old new at row read is found t = record { row = row; found = true; finds = found; bad = subst (IsBad start stepped is_row old.entries true) is t.0 }

module _ {O C R : Type 0} (start : O) (stepped : O → ℕ → Caller → C → O × R) (is_row : Entry C R → List ℕ → Type 0) where
  -- the entries so far are those of the first rows
  pub record IsReplayed (told now : Option (List (List ℕ))) (before later : ℕ) (es : List (Entry C R)) (at : ℕ) : Type 0 where
    pub stays : KeepsRows told now
    pub grows : before ≤ later
    pub long : length es ≡ at
    pub replies : IsReplay stepped start es
    pub once : ActsOnce es
    pub roomy : NeverFull is_row (acted_log es)
    pub kept : (all : List (List ℕ)) → told ≡ Some all → AllZip is_row es (take at all)

  pub replayed_none : (told now : Option (List (List ℕ))) (before later : ℕ) → KeepsRows told now → before ≤ later → IsReplayed told now before later [] 0
  replayed_none told now before later stays grows = record { stays = stays; grows = grows; long = refl; replies = tt; once = λ p q e f at at' same. absurd cc; roomy = never_full-nil is_row; kept = λ all is. tt }

  replayed_kept : (told now now' : Option (List (List ℕ))) (es : List (Entry C R)) (e : Entry C R) (at : ℕ) (row : List ℕ) → KeepsRows told now → FindsRow now at true row → is_row e row
      → ((all : List (List ℕ)) → told ≡ Some all → AllZip is_row es (take at all)) → (all : List (List ℕ)) → told ≡ Some all → AllZip is_row (es ++ e ∷ []) (take (at + 1) all)
  replayed_kept told now now' es e at row stays found written kept all is =
      let now_is : now ≡ Some all = (let k = subst (λ (o : Option (List (List ℕ))). KeepsRows o now) is stays in k) in
      let here : slice_get all at ≡ Some row = subst (λ (o : Option (List (List ℕ))). FindsRow o at true row) now_is found in
      subst (AllZip is_row (es ++ e ∷ [])) (sym (take-snoc all at row here)) (rows-append is_row es (take at all) e row (kept all is) written)

  pub replayed_more : (told now now' : Option (List (List ℕ))) (before later later' : ℕ) (old new : Trail O C R) (at : ℕ) → IsReplayed told now before later old.entries at → TakesNext start stepped is_row now old new at
      → KeepsRows now now' → later ≤ later' → IsReplayed told now' before later' new.entries (at + 1)
  replayed_more told now now' before later later' old new at r t stays grows = record {
    stays = keeps-trans told now now' r.stays stays;
    grows = omega (arith, r.grows, grows);
    long = omega (arith, ap length t.entries, length-append old.entries (t.entry ∷ []), r.long);
    replies = subst (IsReplay stepped start) (sym t.entries) (IsReplay-append stepped start old.entries t.entry r.replies t.follows.replied);
    once = subst ActsOnce (sym t.entries) (once-append old.entries t.entry r.once t.follows.is_new);
    roomy = λ front note after is. never_full-append is_row (acted_log old.entries) (Acted t.entry) r.roomy t.follows.roomy front note after (sym (ap acted_log t.entries ∙ acted_log-append old.entries t.entry) ∙ is);
    kept = λ all is. subst (λ (es : List (Entry C R)). AllZip is_row es (take (at + 1) all)) (sym t.entries) (replayed_kept told now now' old.entries t.entry at t.row r.stays t.found t.follows.written r.kept all is);
  }

  pub replayed_all : (told now : Option (List (List ℕ))) (before later : ℕ) (es : List (Entry C R)) (at : ℕ) → CountsRows told at → IsReplayed told now before later es at → TellsRows is_row told es
  replayed_all None now before later es at count r = tt
  replayed_all (Some all) now before later es at count r = subst (AllZip is_row es) (take_all at all (omega (arith, count))) (r.kept all refl)

module _ {O C R K : Type 0} (start : O) (stepped : O → ℕ → Caller → C → O × R) (is_row : Entry C R → List ℕ → Type 0) (rows : K → Option (List (List ℕ))) (faults : K → ℕ) where
  pub opened_cause : (keeper now back : K) (es : List (Entry C R)) (at count : ℕ) (fault : OpenFault) → IsReplayed start stepped is_row (rows keeper) (rows now) (faults keeper) (faults now) es at
      → CountsRows (rows keeper) count → at < count → IsRowCause start stepped is_row rows faults now back es at fault → IsCause start stepped is_row rows faults keeper back fault
  opened_cause keeper now back es at count shut.KeeperFault r counts within cause = omega (arith, r.grows, cause)
  opened_cause keeper now back es at count (shut.BadEntry i) r counts within cause =
      let bad = cause.1 in
      let finds = finds-back (rows keeper) (rows now) at bad.found bad.row r.stays bad.finds in
      subst (IsFirstBad start stepped is_row (rows keeper)) (sym cause.0) record {
        entries = es;
        count = r.long;
        legal = record { replies = subst (IsReplay stepped start) (sym (history-acted_log es)) r.replies; once = subst ActsOnce (sym (history-acted_log es)) r.once };
        roomy = r.roomy;
        before = r.kept;
        found = bad.found;
        row = bad.row;
        at = finds;
        there = finds-there (rows keeper) count at bad.found bad.row counts within finds;
        bad = bad.bad;
      }
  opened_cause keeper now back es at count shut.Memory r counts within cause = tt

module _ {O C R K : Type 0} (start : O) (stepped : O → ℕ → Caller → C → O × R) (is_row : Entry C R → List ℕ → Type 0) (rows : K → Option (List (List ℕ))) (faults : K → ℕ) where
  pub opened_standing : (keeper : K) (d : Standing O C R K) (unkept : List Unkept) (es : List (Entry C R)) → d.log ≡ log_of 0 unkept es → unkept ≡ [] → d.base ≡ faults keeper
      → KeepsRows (rows keeper) (rows d.keeper) → IsSound stepped is_row rows faults start d → IsOpened start stepped is_row rows faults keeper d
  opened_standing keeper d unkept es log none base stays sound =
      let all : d.log ≡ acted_log es = log ∙ ap (λ (us : List Unkept). log_of 0 us es) none in
      record { no_faults = all ∙ ap acted_log (sym (history-acted_log es)) ∙ ap (λ (l : List (Note C R)). acted_log (history l)) (sym all); base = base; rows_stay = stays; sound = sound }
