-- A table of places: what it finds, and what one key more changes.
use Rattle.std.proofs.Common.{◌≡◌, ℕ, zero, suc, ◌+◌, ◌-◌, ◌≤◌, ◌<◌, List, [], ◌∷◌, ◌++◌, length, length-append, take, get_or, replicate, set, refl, sym, ap, ◌∙◌, subst, inl, inr, ◌⊎◌, ⊎_elim, arith, Option, None, Some, cond, eqb, Bool, true, false}
use Rattle.std.proofs.lemmas.List.{get_or-append_right, get_or_append_left, get_or-set_same, get_or-set_other, length-set, take_all}
use Rattle.std.proofs.lemmas.Bool.{cases_lt, eq-eqb, eqb-true, ne_eqb}
use Rattle.std.proofs.lemmas.Grind.{take_at_read}
use Rattle.std.proofs.Math.ListN.{length-take}
use Rattle.std.proofs.Math.Nat.{eq-or-lt_of_le}
use Rattle.std.specs.Prelude.{option_map}
use Rattle.sect_once.specs.Places.{placed, start_of, tried, slot_for, AreOnce, AreOthers, ArePlaces, AreTaken, IsFree, IsMet, IsTable, taken}

-- what a place is behind one key more
abbrev behind : Option ℕ → Option ℕ
behind o = option_map (λ (p : ℕ). 1 + p) o

-- a key that has a place stands there
abbrev StandsAt : List ℕ → ℕ → ℕ → Type 0
StandsAt keys key place = (place < length keys) × (get_or keys place 0 ≡ key)

stands-first : (k key place : ℕ) (keys : List ℕ) → k ≡ key → Some 0 ≡ Some place → StandsAt (k ∷ keys) key place
stands-first k key place keys is e = let at : 0 ≡ place = cc in subst (λ (n : ℕ). StandsAt (k ∷ keys) key n) at (omega arith, is)

stands-behind : (k key place : ℕ) (keys : List ℕ) (o : Option ℕ) → ((p : ℕ) → o ≡ Some p → StandsAt keys key p) → behind o ≡ Some place → StandsAt (k ∷ keys) key place
stands-behind k key place keys None at e = absurd cc
stands-behind k key place keys (Some p) at e =
    let is : 1 + p ≡ place = cc in
    let rest = at p refl in
    let both : StandsAt (k ∷ keys) key (suc p) = (omega (arith, rest.0), rest.1) in
    let same : suc p ≡ place = omega (arith, is) in
    subst (λ (n : ℕ). StandsAt (k ∷ keys) key n) same both

stands-either : (k key place : ℕ) (keys : List ℕ) (b : Bool) → eqb k key ≡ b → ((p : ℕ) → placed keys key ≡ Some p → StandsAt keys key p)
    → cond b (Some 0) (behind (placed keys key)) ≡ Some place → StandsAt (k ∷ keys) key place
stands-either k key place keys true is at h = stands-first k key place keys (eqb-true k key is) h
stands-either k key place keys false is at h = stands-behind k key place keys (placed keys key) at h

pub placed-is : (keys : List ℕ) (key place : ℕ) → placed keys key ≡ Some place → StandsAt keys key place
placed-is [] key place h = absurd cc
placed-is (k ∷ keys) key place h = stands-either k key place keys (eqb k key) refl (λ p is. placed-is keys key p is) h

-- one key more behind the others
behind-none : (o : Option ℕ) → behind o ≡ None → o ≡ None
behind-none None e = refl
behind-none (Some p) e = absurd cc

more-behind : (k key q : ℕ) (keys : List ℕ) (a b : Bool) → eqb k q ≡ a → eqb key q ≡ b → eqb k key ≡ false
    → cond a (Some 0) (behind (cond b (Some (length keys)) (placed keys q))) ≡ cond b (Some (1 + length keys)) (cond a (Some 0) (behind (placed keys q)))
more-behind k key q keys true true first last other = let both : k ≡ key = eqb-true k q first ∙ sym (eqb-true key q last) in let same = eq-eqb k key both in absurd cc
more-behind k key q keys true false first last other = refl
more-behind k key q keys false true first last other = refl
more-behind k key q keys false false first last other = refl

more-either : (k key q : ℕ) (keys : List ℕ) (b : Bool) → eqb k key ≡ b → (placed keys key ≡ None → placed (keys ++ key ∷ []) q ≡ cond (eqb key q) (Some (length keys)) (placed keys q))
    → cond b (Some 0) (behind (placed keys key)) ≡ None → placed ((k ∷ keys) ++ key ∷ []) q ≡ cond (eqb key q) (Some (1 + length keys)) (placed (k ∷ keys) q)
more-either k key q keys true is rest none = absurd cc
more-either k key q keys false is rest none =
    ap (λ (o : Option ℕ). cond (eqb k q) (Some 0) (behind o)) (rest (behind-none (placed keys key) none)) ∙ more-behind k key q keys (eqb k q) (eqb key q) refl refl is

pub placed-more : (keys : List ℕ) (key : ℕ) → placed keys key ≡ None → (q : ℕ) → placed (keys ++ key ∷ []) q ≡ cond (eqb key q) (Some (length keys)) (placed keys q)
placed-more [] key none q = refl
placed-more (k ∷ keys) key none q =
    let n : 1 + length keys ≡ length (k ∷ keys) = omega arith in
    more-either k key q keys (eqb k key) refl (λ rest. placed-more keys key rest q) none ∙ ap (λ (i : ℕ). cond (eqb key q) (Some i) (placed (k ∷ keys) q)) n

-- a key behind others that stands once there has no place in them
pub once-more : (keys : List ℕ) (key : ℕ) → AreOnce keys → placed keys key ≡ None → AreOnce (keys ++ key ∷ [])
once-more keys key once none place lt = by_case (cases_lt place (length keys))
  where
    by_case : (place < length keys) ⊎ (length keys ≤ place) → placed (keys ++ key ∷ []) (get_or (keys ++ key ∷ []) place 0) ≡ Some place
    by_case (inl small) =
        let here : get_or (keys ++ key ∷ []) place 0 ≡ get_or keys place 0 = get_or_append_left keys (key ∷ []) 0 place small in
        let k = get_or keys place 0 in
        let other : eqb key k ≡ false = ne_eqb key k (λ (e : key ≡ k). let at : placed keys key ≡ Some place = ap (placed keys) e ∙ once place small in absurd cc) in
        ap (placed (keys ++ key ∷ [])) here ∙ placed-more keys key none k ∙ ap (λ (b : Bool). cond b (Some (length keys)) (placed keys k)) other ∙ once place small
    by_case (inr big) =
        let n = length-append keys (key ∷ []) in
        let at : place ≡ length keys = omega (arith, big, lt, n) in
        let zero_is : place - length keys ≡ 0 = omega (arith, at) in
        let here : get_or (keys ++ key ∷ []) place 0 ≡ key = get_or-append_right keys (key ∷ []) (length keys) place 0 refl big ∙ ap (λ (i : ℕ). get_or (key ∷ []) i 0) zero_is in
        ap (placed (keys ++ key ∷ [])) here ∙ placed-more keys key none key ∙ ap (λ (b : Bool). cond b (Some (length keys)) (placed keys key)) (eq-eqb key key refl) ∙ ap Some (sym at)

-- what holds below a number and at it holds below the next
pub each-next : (P : ℕ → Type 0) (n : ℕ) → ((d : ℕ) → d < n → P d) → P n → (d : ℕ) → d < n + 1 → P d
each-next P n each last d lt = ⊎_elim (λ (small : d < n). each d small) (λ (big : n ≤ d). let e : n ≡ d = omega (arith, big, lt) in subst P e last) (cases_lt d n)

-- what stands in a slot that the code tries
pub slot_is : (slots : List ℕ) (key start tries at : ℕ) → start ≡ start_of key (length slots) → at ≡ tried (length slots) start tries → slot_for slots key tries ≡ get_or slots at 0
unfolding slot_for
slot_is slots key start tries at is there = ap (λ (s : ℕ). get_or slots (tried (length slots) s tries) 0) (sym is) ∙ ap (λ (i : ℕ). get_or slots i 0) (sym there)

-- a key that wasn't met before a free slot, or before all were tried, has no place
pub none_met : (keys slots : List ℕ) (key tries : ℕ) → ArePlaces keys slots → AreOthers keys slots key tries → (slot_for slots key tries ≡ 0) ⊎ (length slots ≤ tries) → placed keys key ≡ None
none_met keys slots key tries h others end = by_place (placed keys key) refl
  where
    no_place : (place : ℕ) → (place < length keys) × (get_or keys place 0 ≡ key) → ⊥
    no_place place at =
        let m : IsMet slots key place = subst (λ (k : ℕ). IsMet slots k place) at.1 (h.table.met place at.0) in
        let first : slot_for slots key m.tries - 1 ≡ place = let there = m.there in omega (arith, there) in
        ⊎_elim (λ (small : m.tries < tries). others m.tries small (ap (λ (i : ℕ). get_or keys i 0) first ∙ at.1))
        (λ (big : tries ≤ m.tries). ⊎_elim
        (λ (free : slot_for slots key tries ≡ 0). ⊎_elim
        (λ (e : tries ≡ m.tries). let there = ap (slot_for slots key) e ∙ m.there in omega (arith, there, free))
        (λ (l : tries < m.tries). m.taken tries l free) (eq-or-lt_of_le big))
        (λ (all : length slots ≤ tries). let within = m.within in omega (arith, within, big, all)) end)
        (cases_lt m.tries tries)

    by_place : (o : Option ℕ) → placed keys key ≡ o → placed keys key ≡ None
    by_place None is = is
    by_place (Some place) is = absurd (no_place place (placed-is keys key place is))

-- the slots of a table are at least as many as those taken
pub taken-le : (slots : List ℕ) → taken slots ≤ length slots
taken-le [] = omega arith
taken-le (zero ∷ slots) = omega (arith, taken-le slots)
taken-le (suc p ∷ slots) = omega (arith, taken-le slots)

-- where none is free all are taken
taken-all : (slots : List ℕ) → ((at : ℕ) → at < length slots → get_or slots at 0 ≡ 0 → ⊥) → taken slots ≡ length slots
taken-all [] h = refl
taken-all (zero ∷ slots) h = absurd (h 0 (omega arith) refl)
taken-all (suc p ∷ slots) h = let rest = taken-all slots (λ at lt. h (suc at) (omega (arith, lt))) in omega (arith, rest)

-- one slot more is taken
taken-set : (slots : List ℕ) (at place : ℕ) → at < length slots → get_or slots at 0 ≡ 0 → taken (set slots at (suc place)) ≡ 1 + taken slots
taken-set [] at place lt free = absurd (omega (arith, lt))
taken-set (zero ∷ slots) zero place lt free = refl
taken-set (suc p ∷ slots) zero place lt free = absurd (omega (arith, free))
taken-set (zero ∷ slots) (suc at) place lt free = taken-set slots at place (omega (arith, lt)) free
taken-set (suc p ∷ slots) (suc at) place lt free = let rest = taken-set slots at place (omega (arith, lt)) free in omega (arith, rest)

-- nothing stands in free slots alone
none-taken : (n : ℕ) → taken (replicate n 0) ≡ 0
none-taken zero = refl
none-taken (suc n) = none-taken n

none-there : (n at : ℕ) → get_or {A = ℕ} (replicate n 0) at 0 ≡ 0
none-there zero at = refl
none-there (suc n) zero = refl
none-there (suc n) (suc at) = none-there n at

-- the table of no keys
pub table-none : (n : ℕ) → IsTable [] (replicate n 0)
table-none n = record {
  met = λ place lt. absurd (omega (arith, lt));
  small = λ at. let e = none-there n at in omega (arith, e);
  count = none-taken n;
}

-- each slot is tried
tried-below : (slots start tries : ℕ) → start + tries < slots → tried slots start tries ≡ start + tries
tried-below slots start tries lt = grind (arith, lt)

tried-past : (slots start tries : ℕ) → slots ≤ start + tries → tried slots start tries ≡ start + tries - slots
tried-past slots start tries le = grind (arith, le)

reach : (slots start at : ℕ) → start < slots → at < slots → (tries : ℕ) × (tries < slots) × (tried slots start tries ≡ at)
reach slots start at from lt = ⊎_elim
    (λ (small : at < start). let e = tried-past slots start (at + slots - start) (omega (arith, small, from)) in (at + slots - start, omega (arith, small, lt, from), omega (arith, e, small, from, lt)))
    (λ (le : start ≤ at). let e = tried-below slots start (at - start) (omega (arith, le, lt)) in (at - start, omega (arith, le, lt), omega (arith, e, le, lt))) (cases_lt at start)

-- where fewer slots are taken than there are, a free one is met
pub not_all : (slots : List ℕ) (key start : ℕ) → start ≡ start_of key (length slots) → start < length slots → taken slots < length slots → AreTaken slots key (length slots) → ⊥
unfolding slot_for
not_all slots key start is from room all =
    let every : taken slots ≡ length slots = taken-all slots (λ at lt free. let r = reach (length slots) start at from lt in
    all r.0 r.1 (ap (λ (s : ℕ). get_or slots (tried (length slots) s r.0) 0) (sym is) ∙ ap (λ (i : ℕ). get_or slots i 0) r.2 ∙ free)) in
    omega (arith, every, room)

module _ (keys slots : List ℕ) (key at : ℕ) (h : IsTable keys slots) (f : IsFree slots key at) where
  -- the slots with the place of one key more
  abbrev pub after : List ℕ
  after = set slots at (1 + length keys)

  same : length after ≡ length slots
  same = length-set slots at (1 + length keys)

  free_there : get_or slots at 0 ≡ 0
  unfolding slot_for
  free_there = ap (λ (i : ℕ). get_or slots i 0) f.there ∙ f.free

  -- what is tried for a key, with the slots as they were
  abbrev spot : ℕ → ℕ → ℕ
  spot q d = tried (length slots) (start_of q (length slots)) d

  now-is : (q d : ℕ) → slot_for after q d ≡ get_or after (spot q d) 0
  unfolding slot_for
  now-is q d = ap (λ (n : ℕ). get_or after (tried n (start_of q n) d) 0) same

  -- a slot that was taken is as it was
  stays : (q d : ℕ) → (slot_for slots q d ≡ 0 → ⊥) → slot_for after q d ≡ slot_for slots q d
  unfolding slot_for
  stays q d full = now-is q d ∙ get_or-set_other slots at (spot q d) (1 + length keys) 0 (λ (e : spot q d ≡ at). full (ap (λ (i : ℕ). get_or slots i 0) e ∙ free_there))

  still : (q tries : ℕ) → AreTaken slots q tries → AreTaken after q tries
  still q tries full d lt free = full d lt (sym (stays q d (full d lt)) ∙ free)

  -- the places of the others are met where they were
  met-still : (q place : ℕ) → IsMet slots q place → IsMet after q place
  met-still q place m = record {
    tries = m.tries;
    within = subst (λ (n : ℕ). m.tries < n) (sym same) m.within;
    there = stays q m.tries (λ free. let there = m.there in omega (arith, there, free)) ∙ m.there;
    taken = still q m.tries m.taken;
  }

  -- the new place is met in the free slot
  met-new : IsMet after key (length keys)
  met-new = record {
    tries = f.tries;
    within = subst (λ (n : ℕ). f.tries < n) (sym same) f.within;
    there = now-is key f.tries ∙ ap (λ (i : ℕ). get_or after i 0) (sym f.there) ∙ get_or-set_same slots at (1 + length keys) 0 f.inside;
    taken = still key f.tries f.taken;
  }

  -- one key more, whose place stands in the first free slot
  pub table-more : IsTable (keys ++ key ∷ []) after
  table-more = record {
    met = λ place lt. met_at place lt (cases_lt place (length keys));
    small = λ i. small_at i (eqb i at) refl;
    count = ap (λ (n : ℕ). taken (set slots at n)) next ∙ taken-set slots at (length keys) f.inside free_there ∙ ap (λ (n : ℕ). 1 + n) h.count ∙ more;
  } where
    next : 1 + length keys ≡ suc (length keys)
    next = omega arith

    more : 1 + length keys ≡ length (keys ++ key ∷ [])
    more = let n = length-append keys (key ∷ []) in omega (arith, n)

    met_at : (place : ℕ) → place < length (keys ++ key ∷ []) → (place < length keys) ⊎ (length keys ≤ place) → IsMet after (get_or (keys ++ key ∷ []) place 0) place
    met_at place lt (inl small) = subst (λ (k : ℕ). IsMet after k place) (sym (get_or_append_left keys (key ∷ []) 0 place small)) (met-still (get_or keys place 0) place (h.met place small))
    met_at place lt (inr big) =
        let here : place ≡ length keys = omega (arith, big, lt, more) in
        let zero_is : place - length keys ≡ 0 = omega (arith, here) in
        let key_is : get_or (keys ++ key ∷ []) place 0 ≡ key = get_or-append_right keys (key ∷ []) (length keys) place 0 refl big ∙ ap (λ (i : ℕ). get_or (key ∷ []) i 0) zero_is in
        subst (λ (z : ℕ × ℕ). IsMet after z.0 z.1) (λ i. (sym key_is i, sym here i)) met-new

    small_at : (i : ℕ) (b : Bool) → eqb i at ≡ b → get_or after i 0 ≤ length (keys ++ key ∷ [])
    small_at i true is = let v : get_or after i 0 ≡ 1 + length keys = ap (λ (j : ℕ). get_or after j 0) (eqb-true i at is) ∙ get_or-set_same slots at (1 + length keys) 0 f.inside in omega (arith, v, more)
    small_at i false is =
        let v = get_or-set_other slots at i (1 + length keys) 0 (λ (e : i ≡ at). let same = eq-eqb i at e in absurd cc) in
        let old = h.small i in omega (arith, v, old, more)

-- one key more among those that stand once
pub places-more : (keys slots : List ℕ) (key at : ℕ) → ArePlaces keys slots → IsFree slots key at → placed keys key ≡ None → ArePlaces (keys ++ key ∷ []) (set slots at (1 + length keys))
places-more keys slots key at h f none = record {
  table = table-more keys slots key at h.table f;
  once = once-more keys key h.once none;
  few = let same = length-set slots at (1 + length keys) in let old = h.few in omega (arith, same, old);
}

-- a table of the first keys has room for one more
pub table-room : (keys slots : List ℕ) (place count : ℕ) → IsTable (take place keys) slots → length slots ≡ count → length keys < count → taken slots < length slots
table-room keys slots place count h same room = let front = length-take place keys in let n = h.count in omega (arith, front, n, same, room)

-- the next key has its place too
pub table-next : (keys slots : List ℕ) (place at : ℕ) → place < length keys → IsTable (take place keys) slots → IsFree slots (get_or keys place 0) at → IsTable (take (place + 1) keys) (set slots at (place + 1))
table-next keys slots place at lt h f =
    let front : 1 + length (take place keys) ≡ place + 1 = let n = length-take place keys in omega (arith, n, lt) in
    subst (λ (z : List ℕ × ℕ). IsTable z.0 (set slots at z.1)) (λ i. (sym (take_at_read keys place 0 lt).1 i, front i)) (table-more (take place keys) slots (get_or keys place 0) at h f)

-- slots that are filled up from none are free
pub filled : (count n : ℕ) (xs : List ℕ) → xs ≡ [] → n ≡ 0 → take count xs ++ replicate (count - n) 0 ≡ replicate count 0
filled count n xs none zero_is =
    let front : take count xs ≡ [] = ap (take count) none ∙ take_all count [] (omega arith) in
    let back : count - n ≡ count = omega (arith, zero_is) in
    λ i. front i ++ replicate (back i) 0
