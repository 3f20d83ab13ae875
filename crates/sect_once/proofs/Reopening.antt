-- The rows of a legal log that was never full open to its history.
use Rattle.std.proofs.Common.{◌≡◌, ℕ, suc, zero, ◌+◌, ◌^◌, ◌≤◌, ◌<◌, Bool, true, false, List, [], ◌∷◌, ◌++◌, length, take, refl, sym, ap, ◌∙◌, subst, inl, inr, ◌⊎◌, ⊎_elim, arith, Option, Some, None, slice_get, Result, Ok, Err}
use Rattle.std.specs.List.{AllZip}
use Rattle.sect_base.specs.declared.limit.Caller.{Caller}
use Rattle.sect_edge.specs.Keeper.{FindsRow, KeepsRows}
use Rattle.sect_once.specs.declared.answer.OpenFault.{OpenFault}
use Rattle.sect_once.specs.declared.answer.OpenFault.TheVariants as shut
use Rattle.sect_once.specs.declared.entry.Entry.{Entry}
use Rattle.sect_once.specs.declared.entry.Note.{Note}
use Rattle.sect_once.specs.declared.entry.Note.TheVariants.{Acted, Faulted}
use Rattle.sect_once.specs.History.{history, state_after, AreHeavy, IsFull, IsLegal, IsReplay, NeverFull, TellsRows}
use Rattle.sect_once.specs.Desks.{Standing}
use Rattle.sect_once.specs.Opening.{IsBad, IsFirstBad, Opens, Reopens}
use Rattle.sect_once.proofs.Logs.{get-lt}
use Rattle.sect_once.proofs.Openings.{full_entries}
use Rattle.sect_once.proofs.Rows.{zip-get}

module _ {A : Type 0} where
  short-take : (n : ℕ) (xs : List A) → length (take n xs) ≤ n
  short-take zero xs = omega arith
  short-take (suc n) [] = omega arith
  short-take (suc n) (x ∷ xs) = let more = short-take n xs in omega (arith, more)

  get-take : (xs : List A) (n p : ℕ) (x : A) → slice_get (take n xs) p ≡ Some x → slice_get xs p ≡ Some x
  get-take [] zero p x h = h
  get-take [] (suc n) p x h = h
  get-take (y ∷ xs) zero p x h = absurd cc
  get-take (y ∷ xs) (suc n) zero x h = h
  get-take (y ∷ xs) (suc n) (suc p) x h = get-take xs n p x h

module _ {C R : Type 0} (is_row : Entry C R → List ℕ → Type 0) (one_entry : (a b : Entry C R) (row : List ℕ) → is_row a row → is_row b row → a ≡ b) where
  same_entries : (es fs : List (Entry C R)) (rows : List (List ℕ)) → AllZip is_row es rows → AllZip is_row fs rows → es ≡ fs
  same_entries [] [] [] h k = refl
  same_entries [] (f ∷ fs) [] h k = absurd k
  same_entries (e ∷ es) fs [] h k = absurd h
  same_entries [] fs (r ∷ rows) h k = absurd h
  same_entries (e ∷ es) [] (r ∷ rows) h k = absurd k
  same_entries (e ∷ es) (f ∷ fs) (r ∷ rows) h k = let a = one_entry e f r h.0 k.0 in let b = same_entries es fs rows h.1 k.1 in λ i. a i ∷ b i

module _ {C R : Type 0} (is_row : Entry C R → List ℕ → Type 0) where
  zip-take : (n : ℕ) (es : List (Entry C R)) (rows : List (List ℕ)) → AllZip is_row es rows → AllZip is_row (take n es) (take n rows)
  zip-take zero es rows h = tt
  zip-take (suc n) [] [] h = tt
  zip-take (suc n) [] (r ∷ rows) h = absurd h
  zip-take (suc n) (e ∷ es) [] h = absurd h
  zip-take (suc n) (e ∷ es) (r ∷ rows) h = (h.0, zip-take n es rows h.1)

module _ {C R : Type 0} where
  -- a log is cut before an entry
  cut_log : (log : List (Note C R)) (n : ℕ) (e : Entry C R) → slice_get (history log) n ≡ Some e
      → (front : List (Note C R)) × (back : List (Note C R)) × (log ≡ front ++ Acted e ∷ back) × (history front ≡ take n (history log)) × (n ≤ length front)
  cut_log [] n e h = absurd cc
  cut_log (Acted f ∷ log) zero e h = let same : f ≡ e = cc in ([], log, ap (λ (x : Entry C R). Acted x ∷ log) same, refl, omega arith)
  cut_log (Acted f ∷ log) (suc n) e h = let t = cut_log log n e h in
      (Acted f ∷ t.0, t.1, ap (λ (l : List (Note C R)). Acted f ∷ l) t.2, ap (λ (l : List (Entry C R)). f ∷ l) t.3, (let m = t.4 in omega (arith, m)))
  cut_log (Faulted id ∷ log) n e h = let t = cut_log log n e h in
      (Faulted id ∷ t.0, t.1, ap (λ (l : List (Note C R)). Faulted id ∷ l) t.2, t.3, (let m = t.4 in omega (arith, m)))

module _ {O C R : Type 0} (start : O) (stepped : O → ℕ → Caller → C → O × R) (is_row : Entry C R → List ℕ → Type 0) (one_entry : (a b : Entry C R) (row : List ℕ) → is_row a row → is_row b row → a ≡ b) where
  replay_at : (s : O) (es : List (Entry C R)) (n : ℕ) (e : Entry C R) → IsReplay stepped s es → slice_get es n ≡ Some e → (stepped (state_after stepped s (take n es)) e.day e.id.caller e.command).1 ≡ e.reply
  replay_at s [] n e h g = absurd cc
  replay_at s (f ∷ es) zero e h g = let same : f ≡ e = cc in subst (λ (x : Entry C R). (stepped s x.day x.id.caller x.command).1 ≡ x.reply) same h.0
  replay_at s (f ∷ es) (suc n) e h g = replay_at (stepped s f.day f.id.caller f.command).0 es n e h.1 g

  -- the row of an entry of the log isn't bad behind the entries before
  good_row : (log : List (Note C R)) (n : ℕ) (e : Entry C R) (row : List ℕ) → IsLegal stepped start log → NeverFull is_row log → slice_get (history log) n ≡ Some e → is_row e row
      → IsBad start stepped is_row (take n (history log)) true row → ⊥
  good_row log n e row legal roomy at written (Rattle.std.proofs.Common.inl full) = let t = cut_log log n e at in
      roomy t.0 (Acted e) t.1 t.2 (full_front (full_entries is_row (take n (history log)) full))
    where
      full_front : ((2 ^ 20 ≤ length (take n (history log))) ⊎ AreHeavy is_row (take n (history log))) → IsFull is_row (cut_log log n e at).0
      full_front (Rattle.std.proofs.Common.inl big) = let m = (cut_log log n e at).4 in inl (omega (arith, big, m, short-take n (history log)))
      full_front (Rattle.std.proofs.Common.inr heavy) = inr (subst (AreHeavy is_row) (sym (cut_log log n e at).3) heavy)
  good_row log n e row legal roomy at written (Rattle.std.proofs.Common.inr (Rattle.std.proofs.Common.inl none)) = none e written
  good_row log n e row legal roomy at written (Rattle.std.proofs.Common.inr (Rattle.std.proofs.Common.inr (f, wrote, Rattle.std.proofs.Common.inl acted))) =
      let same : f ≡ e = one_entry f e row wrote written in
      let p : acted.0 ≡ n = legal.once acted.0 n acted.1 e (get-take (history log) n acted.0 acted.1 acted.2) at (acted.3 ∙ ap (λ (x : Entry C R). x.id) same) in
      absurd (omega (arith, p, get-lt (take n (history log)) acted.0 acted.1 acted.2, short-take n (history log)))
  good_row log n e row legal roomy at written (Rattle.std.proofs.Common.inr (Rattle.std.proofs.Common.inr (f, wrote, Rattle.std.proofs.Common.inr differs))) =
      let same : e ≡ f = one_entry e f row written wrote in
      differs (subst (λ (x : Entry C R). (stepped (state_after stepped start (take n (history log))) x.day x.id.caller x.command).1 ≡ x.reply) same (replay_at start (history log) n e legal.replies at))

  none_bad : (told : Option (List (List ℕ))) (all : List (List ℕ)) (log : List (Note C R)) (n : ℕ) → told ≡ Some all → IsLegal stepped start log → NeverFull is_row log → AllZip is_row (history log) all
      → IsFirstBad start stepped is_row told n → ⊥
  none_bad told all log n is legal roomy rows bad =
      let es : bad.entries ≡ take n (history log) = same_entries is_row one_entry bad.entries (take n (history log)) (take n all) (bad.before all is) (zip-take is_row n (history log) all rows) in
      let found : bad.found ≡ true = bad.there all is in
      let at : slice_get all n ≡ Some bad.row = subst (λ (z : Option (List (List ℕ)) × Bool). FindsRow z.0 n z.1 bad.row) (λ i. (is i, found i)) bad.at in
      let here = zip-get is_row n (history log) all bad.row rows at in
      good_row log n here.0 bad.row legal roomy here.1 here.2 (subst (λ (z : List (Entry C R) × Bool). IsBad start stepped is_row z.0 z.1 bad.row) (λ i. (es i, found i)) bad.bad)

module _ {O C R K : Type 0} (start : O) (stepped : O → ℕ → Caller → C → O × R) (is_row : Entry C R → List ℕ → Type 0) (rows : K → Option (List (List ℕ))) (faults : K → ℕ)
    (one_entry : (a b : Entry C R) (row : List ℕ) → is_row a row → is_row b row → a ≡ b) where
  pub reopened : (keeper : K) (r : Result (Standing O C R K) (OpenFault × K)) → Opens start stepped is_row rows faults keeper r → Reopens start stepped is_row rows faults keeper r
  reopened keeper (Ok d) h log all told legal roomy kept =
      let now : rows d.keeper ≡ Some all = subst (λ (o : Option (List (List ℕ))). KeepsRows o (rows d.keeper)) told h.rows_stay in
      same_entries is_row one_entry (history d.log) (history log) all (subst (λ (o : Option (List (List ℕ))). TellsRows is_row o (history d.log)) now h.sound.kept) kept
  reopened keeper (Err (shut.KeeperFault, back)) h log all told legal roomy kept = tt
  reopened keeper (Err (shut.BadEntry n, back)) h log all told legal roomy kept = none_bad start stepped is_row one_entry (rows keeper) all log n told legal roomy kept h.0
  reopened keeper (Err (shut.Memory, back)) h log all told legal roomy kept = tt
