-- Logs and indexes with one more note.
use Rattle.std.proofs.Common.{◌≡◌, ℕ, zero, suc, ◌+◌, ◌-◌, ◌≤◌, ◌<◌, List, [], ◌∷◌, ◌++◌, length, length-append, take, drop, refl, sym, ap, ◌∙◌, subst, inl, inr, ◌⊎◌, ⊎_elim, arith, Option, None, Some, slice_get, cond, eqb, Bool, true, false, ◌^◌}
use Rattle.std.proofs.lemmas.List.{append_assoc, drop-append-le, drop_all, length-drop, take-append-drop, take-append-le, take_all}
use Rattle.std.proofs.lemmas.Bool.{eq-eqb, eqb-true, ne_eqb}
use Rattle.sect_base.specs.declared.limit.Id.{Id}
use Rattle.sect_base.specs.declared.limit.Caller.{Caller}
use Rattle.sect_base.specs.declared.limit.Caller.TheVariants.{Registrar, Student}
use Rattle.sect_once.specs.declared.entry.Entry.{Entry}
use Rattle.sect_once.specs.declared.entry.Note.{Note}
use Rattle.sect_once.specs.declared.entry.Note.TheVariants.{Acted, Faulted}
use Rattle.sect_once.specs.declared.entry.Unkept.{Unkept}
use Rattle.sect_once.specs.declared.answer.Seen.{Seen}
use Rattle.sect_once.specs.declared.answer.Seen.TheVariants.{New, Place, Reused}
use Rattle.sect_once.specs.Desks.{FindsIn, SeesEntry}
use Rattle.sect_once.specs.Places.{placed}
use Rattle.sect_once.specs.History.{caller_key, key_of, acted_log, history, log_of, faulted, AreUnkept, IsNew, IsIndex, ActsOnce, IsReplay, state_after}
use Rattle.sect_once.proofs.Rows.{acted_log-append, history-acted_log, length-acted_log}

module _ {C R : Type 0} where
  history-append : (ns ms : List (Note C R)) → history (ns ++ ms) ≡ history ns ++ history ms
  history-append [] ms = refl
  history-append (Acted e ∷ ns) ms = ap (λ (es : List (Entry C R)). e ∷ es) (history-append ns ms)
  history-append (Faulted id ∷ ns) ms = history-append ns ms

  faulted-append : (ns ms : List (Note C R)) → faulted (ns ++ ms) ≡ faulted ns + faulted ms
  faulted-append [] ms = omega arith
  faulted-append (Acted e ∷ ns) ms = faulted-append ns ms
  faulted-append (Faulted id ∷ ns) ms = let more = faulted-append ns ms in omega (arith, more)

  faulted-acted_log : (es : List (Entry C R)) → faulted (acted_log es) ≡ 0
  faulted-acted_log [] = refl
  faulted-acted_log (e ∷ es) = faulted-acted_log es

  pub history-log_of : (at : ℕ) (us : List Unkept) (es : List (Entry C R)) → history (log_of at us es) ≡ es
  history-log_of at [] es = history-acted_log es
  history-log_of at (u ∷ us) es =
      let front : List (Entry C R) = take (u.behind - at) es in
      let back : List (Entry C R) = drop (u.behind - at) es in
      history-append (acted_log front) (Faulted u.id ∷ log_of u.behind us back)
      ∙ (λ i. history-acted_log front i ++ history-log_of u.behind us back i) ∙ take-append-drop (u.behind - at) es

  pub length-log_of : (at : ℕ) (us : List Unkept) (es : List (Entry C R)) → length (log_of at us es) ≡ length es + length us
  length-log_of at [] es = let l = length-acted_log es in omega (arith, l)
  length-log_of at (u ∷ us) es =
      let front : List (Entry C R) = take (u.behind - at) es in
      let back : List (Entry C R) = drop (u.behind - at) es in
      let whole = length-append (acted_log front) (Faulted u.id ∷ log_of u.behind us back) in
      let rest = length-log_of u.behind us back in
      let first = length-acted_log front in
      let both : length front + length back ≡ length es = sym (length-append front back) ∙ ap length (take-append-drop (u.behind - at) es) in
      omega (arith, whole, rest, first, both)

  pub faulted-log_of : (at : ℕ) (us : List Unkept) (es : List (Entry C R)) → faulted (log_of at us es) ≡ length us
  faulted-log_of at [] es = faulted-acted_log es
  faulted-log_of at (u ∷ us) es =
      let front : List (Entry C R) = take (u.behind - at) es in
      let back : List (Entry C R) = drop (u.behind - at) es in
      let whole = faulted-append (acted_log front) (Faulted u.id ∷ log_of u.behind us back) in
      let rest = faulted-log_of u.behind us back in
      let first = faulted-acted_log front in
      omega (arith, whole, rest, first)

unkept-le : (at last : ℕ) (us : List Unkept) → AreUnkept at last us → at ≤ last
unkept-le at last [] h = h
unkept-le at last (u ∷ us) h = omega (arith, h.0, unkept-le u.behind last us h.1)

pub unkept-more : (at last more : ℕ) (us : List Unkept) → AreUnkept at last us → last ≤ more → AreUnkept at more us
unkept-more at last more [] h le = omega (arith, h, le)
unkept-more at last more (u ∷ us) h le = (h.0, unkept-more u.behind last more us h.1 le)

pub unkept-append : (at last : ℕ) (us : List Unkept) (id : Id) → AreUnkept at last us → AreUnkept at last (us ++ record { behind = last; id = id } ∷ [])
unkept-append at last [] id h = (h, omega arith)
unkept-append at last (u ∷ us) id h = (h.0, unkept-append u.behind last us id h.1)

module _ {C R : Type 0} where
  -- what is behind an unkept request
  behind_is : (at last : ℕ) (u : Unkept) (us : List Unkept) (es : List (Entry C R)) → AreUnkept at last (u ∷ us) → last ≡ at + length es
      → (u.behind - at ≤ length es) × (last ≡ u.behind + length (drop (u.behind - at) es))
  behind_is at last u us es h all = let le = unkept-le u.behind last us h.1 in let up = h.0 in let l = length-drop (u.behind - at) es in (omega (arith, le, up, all), omega (arith, le, up, all, l))

  pub log_of-acts : (at last : ℕ) (us : List Unkept) (es : List (Entry C R)) (e : Entry C R) → AreUnkept at last us → last ≡ at + length es → log_of at us (es ++ e ∷ []) ≡ log_of at us es ++ Acted e ∷ []
  log_of-acts at last [] es e h all = acted_log-append es e
  log_of-acts at last (u ∷ us) es e h all =
      let here = behind_is at last u us es h all in
      let more = log_of-acts u.behind last us (drop (u.behind - at) es) e h.1 here.1 in
      (λ i. acted_log (take-append-le (u.behind - at) es (e ∷ []) here.0 i) ++ Faulted u.id ∷ log_of u.behind us (drop-append-le (u.behind - at) es (e ∷ []) here.0 i))
      ∙ ap (λ (ns : List (Note C R)). acted_log (take (u.behind - at) es) ++ Faulted u.id ∷ ns) more
      ∙ sym (append_assoc (acted_log (take (u.behind - at) es)) (Faulted u.id ∷ log_of u.behind us (drop (u.behind - at) es)) (Acted e ∷ []))

  pub log_of-faults : (at last : ℕ) (us : List Unkept) (es : List (Entry C R)) (id : Id) → AreUnkept at last us → last ≡ at + length es
      → log_of at (us ++ record { behind = last; id = id } ∷ []) es ≡ log_of at us es ++ Faulted id ∷ []
  log_of-faults at last [] es id h all =
      let long : length es ≤ last - at = omega (arith, all) in
      λ i. acted_log (take_all (last - at) es long i) ++ Faulted id ∷ acted_log (drop_all (last - at) es long i)
  log_of-faults at last (u ∷ us) es id h all =
      let here = behind_is at last u us es h all in
      ap (λ (ns : List (Note C R)). acted_log (take (u.behind - at) es) ++ Faulted u.id ∷ ns) (log_of-faults u.behind last us (drop (u.behind - at) es) id h.1 here.1)
      ∙ sym (append_assoc (acted_log (take (u.behind - at) es)) (Faulted u.id ∷ log_of u.behind us (drop (u.behind - at) es)) (Faulted id ∷ []))

module _ {S C R : Type 0} (stepped : S → ℕ → Caller → C → S × R) where
  pub state_after-append : (s : S) (es : List (Entry C R)) (e : Entry C R) → state_after stepped s (es ++ e ∷ []) ≡ (stepped (state_after stepped s es) e.day e.id.caller e.command).0
  state_after-append s [] e = refl
  state_after-append s (x ∷ es) e = state_after-append (stepped s x.day x.id.caller x.command).0 es e

  pub IsReplay-append : (s : S) (es : List (Entry C R)) (e : Entry C R) → IsReplay stepped s es → (stepped (state_after stepped s es) e.day e.id.caller e.command).1 ≡ e.reply → IsReplay stepped s (es ++ e ∷ [])
  IsReplay-append s [] e h r = (r, tt)
  IsReplay-append s (x ∷ es) e h r = (h.0, IsReplay-append (stepped s x.day x.id.caller x.command).0 es e h.1 r)

-- callers with one key are the same
own_caller : (a b : Caller) → caller_key a ≡ caller_key b → a ≡ b
own_caller (Registrar m) (Registrar n) h = ap Registrar (omega (arith, h))
own_caller (Registrar m) (Student s) h = absurd (omega (arith, h))
own_caller (Student s) (Registrar n) h = absurd (omega (arith, h))
own_caller (Student s) (Student t) h = let e : s.0 ≡ t.0 = omega (arith, h) in λ i. Student (record { 0 = e i })

-- ids with one key are the same
own_key : (a b : Id) → a.number < 2 ^ 64 → b.number < 2 ^ 64 → key_of a ≡ key_of b → a ≡ b
own_key a b small small' h =
    let number : a.number ≡ b.number = omega (arith, small, small', h) in
    let caller : a.caller ≡ b.caller = own_caller a.caller b.caller (omega (arith, small, small', h)) in
    λ i. record { caller = caller i; number = number i }

module _ {C R : Type 0} where
  pub get-snoc : (es : List (Entry C R)) (e : Entry C R) (p : ℕ) (f : Entry C R) → slice_get (es ++ e ∷ []) p ≡ Some f → (slice_get es p ≡ Some f) ⊎ ((p ≡ length es) × (e ≡ f))
  get-snoc [] e zero f h = inr (refl, cc)
  get-snoc [] e (suc p) f h = absurd cc
  get-snoc (x ∷ es) e zero f h = inl h
  get-snoc (x ∷ es) e (suc p) f h = ⊎_elim (λ t. inl t) (λ (t : (p ≡ length es) × (e ≡ f)). inr (omega arith, t.1)) (get-snoc es e p f h)

  pub get-lt : (es : List (Entry C R)) (p : ℕ) (e : Entry C R) → slice_get es p ≡ Some e → p < length es
  get-lt [] p e h = absurd cc
  get-lt (x ∷ es) zero e h = omega arith
  get-lt (x ∷ es) (suc p) e h = omega (arith, get-lt es p e h)

  pub finds_from : (es : List (Entry C R)) (e : Entry C R) (place : ℕ) (id : Id) (command : C) (seen : Seen) → slice_get es place ≡ Some e → e.id ≡ id → SeesEntry e place command seen → FindsIn es id command seen
  finds_from es e place id command New at same h = absurd h
  finds_from es e place id command (Place found) at same h = (e, subst (λ k. slice_get es k ≡ Some e) (sym h.0) at, same, h.1)
  finds_from es e place id command (Reused found) at same h = (e, subst (λ k. slice_get es k ≡ Some e) (sym h.0) at, same, h.1)

  pub get-longer : (es : List (Entry C R)) (e : Entry C R) (p : ℕ) (f : Entry C R) → slice_get es p ≡ Some f → slice_get (es ++ e ∷ []) p ≡ Some f
  get-longer [] e p f h = absurd cc
  get-longer (x ∷ es) e zero f h = h
  get-longer (x ∷ es) e (suc p) f h = get-longer es e p f h

  pub get-last : (es : List (Entry C R)) (e : Entry C R) → slice_get (es ++ e ∷ []) (length es) ≡ Some e
  get-last [] e = refl
  get-last (x ∷ es) e = get-last es e

  -- an index acts once
  pub index-once : (m : List ℕ) (es : List (Entry C R)) → IsIndex m es → ActsOnce es
  index-once m es x p q e f at at' same = let a = x.all p e at in let b = x.all q f at' in
      let c : placed m (key_of e.id) ≡ placed m (key_of f.id) = ap (λ (i : Id). placed m (key_of i)) same in cc

  -- an entry of another id has another key
  other_key : (m : List ℕ) (es : List (Entry C R)) (id : Id) → IsIndex m es → IsNew id es → id.number < 2 ^ 64
      → (place : ℕ) (e : Entry C R) → slice_get es place ≡ Some e → eqb (key_of id) (key_of e.id) ≡ false
  other_key m es id x new small place e at = ne_eqb (key_of id) (key_of e.id) (λ (k : key_of id ≡ key_of e.id). new place e at (sym (own_key id e.id small (x.small place e at) k)))

  -- a new id has no place
  pub index-free : (m : List ℕ) (es : List (Entry C R)) (id : Id) → IsIndex m es → IsNew id es → id.number < 2 ^ 64 → placed m (key_of id) ≡ None
  index-free m es id x new small = none_of (placed m (key_of id)) refl
    where
      none_of : (o : Option ℕ) → placed m (key_of id) ≡ o → o ≡ None
      none_of None h = refl
      none_of (Some place) h = let t = x.only (key_of id) place h in absurd (new place t.0 t.1 (own_key t.0.id id (x.small place t.0 t.1) small t.2))

  -- the place of a key is that of the entry with the id
  pub index-finds : (m : List ℕ) (es : List (Entry C R)) (id : Id) (place : ℕ) → IsIndex m es → id.number < 2 ^ 64 → placed m (key_of id) ≡ Some place
      → (e : Entry C R) × (slice_get es place ≡ Some e) × (e.id ≡ id)
  index-finds m es id place x small h = let t = x.only (key_of id) place h in (t.0, t.1, own_key t.0.id id (x.small place t.0 t.1) small t.2)

  -- an id without a place is new
  pub index-misses : (m : List ℕ) (es : List (Entry C R)) (id : Id) → IsIndex m es → placed m (key_of id) ≡ None → IsNew id es
  index-misses m es id x none place e at same = let here = x.all place e at in let there : placed m (key_of e.id) ≡ placed m (key_of id) = ap (λ (i : Id). placed m (key_of i)) same in absurd cc

  -- the keys with one more
  pub index-append : (m n : List ℕ) (es : List (Entry C R)) (e : Entry C R) → IsIndex m es → IsNew e.id es → e.id.number < 2 ^ 64
      → ((q : ℕ) → placed n q ≡ cond (eqb (key_of e.id) q) (Some (length es)) (placed m q)) → IsIndex n (es ++ e ∷ [])
  index-append m n es e x new small puts = record {
    all = λ place f at. ⊎_elim
        (λ (t : slice_get es place ≡ Some f). puts (key_of f.id) ∙ ap (λ (b : Bool). cond b (Some (length es)) (placed m (key_of f.id))) (other_key m es e.id x new small place f t) ∙ x.all place f t)
        (λ (t : (place ≡ length es) × (e ≡ f)). subst (λ (z : ℕ × Entry C R). placed n (key_of z.1.id) ≡ Some z.0) (λ i. (sym t.0 i, t.1 i)) last) (get-snoc es e place f at);
    small = λ place f at. ⊎_elim
        (λ (t : slice_get es place ≡ Some f). x.small place f t)
        (λ (t : (place ≡ length es) × (e ≡ f)). subst (λ (z : Entry C R). z.id.number < 2 ^ 64) t.1 small) (get-snoc es e place f at);
    only = λ key place h. only_at key place (eqb (key_of e.id) key) refl h;
  } where
    last : placed n (key_of e.id) ≡ Some (length es)
    last = puts (key_of e.id) ∙ ap (λ (b : Bool). cond b (Some (length es)) (placed m (key_of e.id))) (eq-eqb (key_of e.id) (key_of e.id) refl)

    only_at : (key place : ℕ) (b : Bool) → eqb (key_of e.id) key ≡ b → placed n key ≡ Some place → (f : Entry C R) × (slice_get (es ++ e ∷ []) place ≡ Some f) × (key_of f.id ≡ key)
    only_at key place true is h =
        let here : Some (length es) ≡ Some place = sym (puts key ∙ ap (λ (b : Bool). cond b (Some (length es)) (placed m key)) is) ∙ h in
        let at : length es ≡ place = cc in
        (e, subst (λ (k : ℕ). slice_get (es ++ e ∷ []) k ≡ Some e) at (get-last es e), eqb-true (key_of e.id) key is)
    only_at key place false is h =
        let t = x.only key place (sym (puts key ∙ ap (λ (b : Bool). cond b (Some (length es)) (placed m key)) is) ∙ h) in
        (t.0, get-longer es e place t.0 t.1, t.2)
