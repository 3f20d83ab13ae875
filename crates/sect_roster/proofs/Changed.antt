-- The elements of all slots after a change of one.
use Rattle.std.specs.Prelude.{◌≡◌, ℕ, zero, suc, ◌≤◌, ◌==◌, true, List, [], ◌∷◌, ◌++◌, length, insert, refl, slice_set, Result, Ok, Err, OnOk, OnErr}
use Rattle.std.specs.List.{list_all}
use Rattle.std.proofs.Common.{sym, ◌∙◌, ap, subst, get_or}
use Rattle.std.proofs.lemmas.Bool.{eq-eqb}
use Rattle.std.proofs.lemmas.List.Folds.{list_all-append}
use Rattle.sect_model.specs.World.{put_behind}
use Rattle.sect_model.proofs.Members.{both, both-left, both-right}
use Rattle.sect_roster.specs.Slots.{Slotted, rows_of, put_among, is_of, all_held, all_rooms, capacity_in, are_slots, HasSlot}
use Rattle.sect_roster.proofs.Parts.{own-part, put-part, among-part}
use Rattle.sect_roster.proofs.SlotLemmas.{Around, around, held-with}

-- what follows where it went well
pub on-ok : {T E P Q : Type 0} (r : Result T E) → (P → Q) → OnOk r P → OnOk r Q
on-ok (Ok t) f p = f p
on-ok (Err e) f p = tt

pub on-err : {T E P Q : Type 0} (r : Result T E) → (P → Q) → OnErr r P → OnErr r Q
on-err (Ok t) f p = tt
on-err (Err e) f p = f p

-- the slot that a search told and a look-up read
pub at : {X : Type 0} (key : X → ℕ) (ss read : List (Slotted X)) (n k : ℕ) (s : Slotted X) → are_slots key ss ≡ true → read ≡ ss → HasSlot read n k → s ≡ get_or ss k s → Around key ss n k s
at {X = X} key ss read n k s h same has is =
    let there : HasSlot ss n k = subst (λ ts. HasSlot ts n k) same has in
    around key ss n k s h there.0 is (ap (λ (t : Slotted X). t.number) is ∙ there.1 s)

module _ {X : Type 0} (key : X → ℕ) (ss : List (Slotted X)) (n k : ℕ) (s : Slotted X) (a : Around key ss n k s) where
  held-is : all_held ss ≡ all_held a.front ++ (s.items ++ all_held a.back)
  held-is = ap all_held a.is ∙ held-with a.front a.back s

  set-is : (t : Slotted X) → all_held (slice_set ss k t) ≡ all_held a.front ++ (t.items ++ all_held a.back)
  set-is t = ap all_held (a.set t) ∙ held-with a.front a.back t

  -- the number's elements are those of the slot, and its room is the slot's
  pub own-items : rows_of key n (all_held ss) ≡ s.items
  own-items = ap (rows_of key n) held-is ∙ own-part key n (all_held a.front) s.items (all_held a.back) a.low a.own a.high

  -- and after another slot is put there, the new one's
  pub set-own : (t : Slotted X) → list_all (is_of key n) t.items ≡ true → rows_of key n (all_held (slice_set ss k t)) ≡ t.items
  set-own t own = ap (rows_of key n) (set-is t) ∙ own-part key n (all_held a.front) t.items (all_held a.back) a.low own a.high

  pub own-room : capacity_in ss n ≡ s.capacity
  own-room = ap (λ ts. capacity_in ts n) a.is ∙ a.fits s a.mine

  pub set-slots : (t : Slotted X) → t.number ≡ s.number → list_all (is_of key n) t.items ≡ true → are_slots key (slice_set ss k t) ≡ true
  set-slots t same own = ap (are_slots key) (a.set t) ∙ a.again t (same ∙ a.mine) own

  pub set-rooms : (t : Slotted X) → t.number ≡ s.number → t.capacity ≡ s.capacity → all_rooms (slice_set ss k t) ≡ all_rooms ss
  set-rooms t same room = ap all_rooms (a.set t) ∙ a.rooms t (same ∙ a.mine) room

  pub set-grows : (t : Slotted X) → t.number ≡ s.number → s.capacity ≤ t.capacity → (m : ℕ) → capacity_in ss m ≤ capacity_in (slice_set ss k t) m
  set-grows t same room m = subst (λ ts. capacity_in ss m ≤ capacity_in ts m) (sym (a.set t)) (a.grows t (same ∙ a.mine) room m)

  pub set-fits : (t : Slotted X) → t.number ≡ s.number → capacity_in (slice_set ss k t) n ≡ t.capacity
  set-fits t same = ap (λ ts. capacity_in ts n) (a.set t) ∙ a.fits t (same ∙ a.mine)

  pub set-same : (t : Slotted X) → t.items ≡ s.items → all_held (slice_set ss k t) ≡ all_held ss
  set-same t same = set-is t ∙ ap (λ (es : List X). all_held a.front ++ (es ++ all_held a.back)) same ∙ sym held-is

  pub same-own : (t : Slotted X) → t.items ≡ s.items → list_all (is_of key n) t.items ≡ true
  same-own t same = ap (list_all (is_of key n)) same ∙ a.own

  -- ---- one more

  pub put : (t : Slotted X) (e : X) → key e ≡ n → t.items ≡ s.items ++ e ∷ [] → all_held (slice_set ss k t) ≡ put_behind key e (all_held ss)
  put t e mine is =
      set-is t ∙ ap (λ (es : List X). all_held a.front ++ (es ++ all_held a.back)) is
      ∙ sym (put-part key n (all_held a.front) s.items (all_held a.back) a.low a.own a.high e mine)
      ∙ ap (put_behind key e) (sym held-is)

  pub put-own : (t : Slotted X) (e : X) → key e ≡ n → t.items ≡ s.items ++ e ∷ [] → list_all (is_of key n) t.items ≡ true
  put-own t e mine is = ap (list_all (is_of key n)) is ∙ list_all-append (is_of key n) s.items (e ∷ []) ∙ both (list_all (is_of key n) s.items) _ a.own (both (is_of key n e) true (eq-eqb (key e) n mine) refl)

  -- the same, or nothing where it went wrong
  pub pushed-own : {A E : Type 0} (r : Result A E) (t : Slotted X) (e : X) → key e ≡ n → OnOk r (t.items ≡ s.items ++ e ∷ []) → OnErr r (t.items ≡ s.items) → list_all (is_of key n) t.items ≡ true
  pushed-own (Ok x) t e mine is same = put-own t e mine is
  pushed-own (Err x) t e mine is same = same-own t same

  -- ---- one among the others

  pub among : (t : Slotted X) (place : ℕ) (e : X) → key e ≡ n → place ≤ length s.items → t.items ≡ insert s.items place e → all_held (slice_set ss k t) ≡ put_among key place e (all_held ss)
  among t place e mine within is =
      set-is t ∙ ap (λ (es : List X). all_held a.front ++ (es ++ all_held a.back)) is
      ∙ sym (among-part key n (all_held a.front) s.items (all_held a.back) a.low a.own a.high place e mine within)
      ∙ ap (put_among key place e) (sym held-is)

  pub among-own : (t : Slotted X) (place : ℕ) (e : X) → key e ≡ n → t.items ≡ insert s.items place e → list_all (is_of key n) t.items ≡ true
  among-own t place e mine is = ap (list_all (is_of key n)) is ∙ all s.items place a.own
    where
      all : (es : List X) (p : ℕ) → list_all (is_of key n) es ≡ true → list_all (is_of key n) (insert es p e) ≡ true
      all [] zero h = both (is_of key n e) true (eq-eqb (key e) n mine) refl
      all [] (suc p) h = both (is_of key n e) true (eq-eqb (key e) n mine) refl
      all (f ∷ fs) zero h = both (is_of key n e) _ (eq-eqb (key e) n mine) h
      all (f ∷ fs) (suc p) h = both (is_of key n f) _ (both-left (is_of key n f) _ h) (all fs p (both-right (is_of key n f) _ h))

  -- ---- one less

  -- what was taken out is of the number, and so are the others
  pub left-mine : (t : Slotted X) (place : ℕ) (e : X) → s.items ≡ insert t.items place e → (list_all (is_of key n) t.items ≡ true) × (key e == n ≡ true)
  left-mine t place e is = rest t.items place (ap (list_all (is_of key n)) (sym is) ∙ a.own)
    where
      rest : (es : List X) (p : ℕ) → list_all (is_of key n) (insert es p e) ≡ true → (list_all (is_of key n) es ≡ true) × (key e == n ≡ true)
      rest [] zero h = (refl, both-left (is_of key n e) _ h)
      rest [] (suc p) h = (refl, both-left (is_of key n e) _ h)
      rest (f ∷ fs) zero h = (both-right (is_of key n e) _ h, both-left (is_of key n e) _ h)
      rest (f ∷ fs) (suc p) h = let r = rest fs p (both-right (is_of key n f) _ h) in (both (is_of key n f) _ (both-left (is_of key n f) _ h) r.0, r.1)

  -- taken out, it stood among the others where it comes back
  pub back : (t : Slotted X) (place : ℕ) (e : X) → key e ≡ n → place ≤ length t.items → s.items ≡ insert t.items place e → all_held ss ≡ put_among key place e (all_held (slice_set ss k t))
  back t place e mine within is =
      held-is ∙ ap (λ (es : List X). all_held a.front ++ (es ++ all_held a.back)) is
      ∙ sym (among-part key n (all_held a.front) t.items (all_held a.back) a.low (left-mine t place e is).0 a.high place e mine within)
      ∙ ap (put_among key place e) (sym (set-is t))
