-- Slots, and the list of all their elements.
use Rattle.std.specs.Prelude.{◌≡◌, ℕ, zero, suc, ◌<◌, ◌≤◌, Bool, true, false, not, ◌||◌, ◌==◌, nat_lt, nat_le, cond, List, [], ◌∷◌, ◌++◌, length, insert, refl, slice_set}
use Rattle.std.specs.List.{list_all, list_any}
use Rattle.std.proofs.Common.{sym, ◌∙◌, ap, subst, arith, get_or}
use Rattle.std.proofs.lemmas.Bool.{eq-eqb, eqb-true, false_from_ne_true}
use Rattle.std.proofs.lemmas.Bool.Decides.{nat_tests}
use Rattle.std.proofs.lemmas.List.Concat.{flat_map-append}
use Rattle.std.proofs.lemmas.List.Folds.{list_all-append}
use Rattle.sect_people.specs.Index.{rank}
use Rattle.sect_model.specs.Kept.{is_ordered_by}
use Rattle.sect_model.proofs.Members.{both, both-left, both-right, neither-left, neither-right, not_both}
use Rattle.sect_model.proofs.ListLemmas.{all-weaker}
use Rattle.sect_roster.specs.Slots.{Room, Slotted, rows_of, is_of, all_held, room_of, all_rooms, capacity_in, are_slots, HasSlot}
use Rattle.sect_roster.proofs.Parts.{below, above, none-kept}

-- ---- what a list of slots tells

pub own-first : {X : Type 0} (key : X → ℕ) (s : Slotted X) (ss : List (Slotted X)) → are_slots key (s ∷ ss) ≡ true → list_all (is_of key s.number) s.items ≡ true
own-first key s ss h = both-left (list_all (is_of key s.number) s.items) _ h

pub higher-rest : {X : Type 0} (key : X → ℕ) (s : Slotted X) (ss : List (Slotted X)) → are_slots key (s ∷ ss) ≡ true → list_all (λ t. nat_lt s.number t.number) ss ≡ true
higher-rest key s ss h = both-left (list_all (λ t. nat_lt s.number t.number) ss) _ (both-right (list_all (is_of key s.number) s.items) _ h)

pub slots-rest : {X : Type 0} (key : X → ℕ) (s : Slotted X) (ss : List (Slotted X)) → are_slots key (s ∷ ss) ≡ true → are_slots key ss ≡ true
slots-rest key s ss h = both-right (list_all (λ t. nat_lt s.number t.number) ss) _ (both-right (list_all (is_of key s.number) s.items) _ h)

slots-from : {X : Type 0} (key : X → ℕ) (s : Slotted X) (ss : List (Slotted X)) → list_all (is_of key s.number) s.items ≡ true → list_all (λ t. nat_lt s.number t.number) ss ≡ true → are_slots key ss ≡ true → are_slots key (s ∷ ss) ≡ true
slots-from key s ss own high rest = both (list_all (is_of key s.number) s.items) _ own (both (list_all (λ t. nat_lt s.number t.number) ss) _ high rest)

all-both : {X : Type 0} (p : X → Bool) (xs ys : List X) → list_all p xs ≡ true → list_all p ys ≡ true → list_all p (xs ++ ys) ≡ true
all-both p xs ys h k = list_all-append p xs ys ∙ both (list_all p xs) _ h k

-- in slots of higher numbers the elements are of higher numbers
held-above : {X : Type 0} (key : X → ℕ) (n : ℕ) (ss : List (Slotted X)) → are_slots key ss ≡ true → list_all (λ t. nat_lt n t.number) ss ≡ true → list_all (above key n) (all_held ss) ≡ true
held-above key n [] h k = refl
held-above key n (s ∷ ss) h k =
    all-both (above key n) s.items (all_held ss)
    (all-weaker (is_of key s.number) (above key n) (λ e g. by (key e) s.number g (both-left (nat_lt n s.number) _ k)) s.items (own-first key s ss h))
    (held-above key n ss (slots-rest key s ss h) (both-right (nat_lt n s.number) _ k))
  where
    by : (a b : ℕ) → a == b ≡ true → nat_lt n b ≡ true → nat_lt n a ≡ true
    by a b h k = grind (arith, nat_tests)

-- all elements are in order
pub in-order : {X : Type 0} (key : X → ℕ) (ss : List (Slotted X)) → are_slots key ss ≡ true → is_ordered_by key (all_held ss) ≡ true
in-order key [] h = refl
in-order {X = X} key (s ∷ ss) h = first (in-order key ss (slots-rest key s ss h)) s.items (own-first key s ss h)
  where
    rest : list_all (above key s.number) (all_held ss) ≡ true
    rest = held-above key s.number ss (slots-rest key s ss h) (higher-rest key s ss h)

    up : (a b n : ℕ) → a == n ≡ true → b == n ≡ true → nat_le a b ≡ true
    up a b n h k = grind (arith, nat_tests)

    past : (a b n : ℕ) → a == n ≡ true → nat_lt n b ≡ true → nat_le a b ≡ true
    past a b n h k = grind (arith, nat_tests)

    first : is_ordered_by key (all_held ss) ≡ true → (es : List X) → list_all (is_of key s.number) es ≡ true → is_ordered_by key (es ++ all_held ss) ≡ true
    first ih [] g = ih
    first ih (e ∷ es) g =
        both (list_all (λ y. nat_le (key e) (key y)) (es ++ all_held ss)) _
        (all-both (λ y. nat_le (key e) (key y)) es (all_held ss)
        (all-weaker (is_of key s.number) (λ y. nat_le (key e) (key y)) (λ y k. up (key e) (key y) s.number (both-left (is_of key s.number e) _ g) k) es (both-right (is_of key s.number e) _ g))
        (all-weaker (above key s.number) (λ y. nat_le (key e) (key y)) (λ y k. past (key e) (key y) s.number (both-left (is_of key s.number e) _ g) k) (all_held ss) rest))
        (first ih es (both-right (is_of key s.number e) _ g))

-- ---- the slot of a number

-- the slot at a place, with what stands before and behind it
pub record Around {X : Type 0} (key : X → ℕ) (ss : List (Slotted X)) (n k : ℕ) (s : Slotted X) : Type 0 where
  pub front : List (Slotted X)
  pub back : List (Slotted X)
  pub is : ss ≡ front ++ s ∷ back
  pub own : list_all (is_of key n) s.items ≡ true
  pub low : list_all (below key n) (all_held front) ≡ true
  pub high : list_all (above key n) (all_held back) ≡ true
  pub set : (t : Slotted X) → slice_set ss k t ≡ front ++ t ∷ back
  pub again : (t : Slotted X) → t.number ≡ n → list_all (is_of key n) t.items ≡ true → are_slots key (front ++ t ∷ back) ≡ true
  pub rooms : (t : Slotted X) → t.number ≡ n → t.capacity ≡ s.capacity → all_rooms (front ++ t ∷ back) ≡ all_rooms ss
  pub grows : (t : Slotted X) → t.number ≡ n → s.capacity ≤ t.capacity → (m : ℕ) → capacity_in ss m ≤ capacity_in (front ++ t ∷ back) m
  pub fits : (t : Slotted X) → t.number ≡ n → capacity_in (front ++ t ∷ back) n ≡ t.capacity
  pub mine : s.number ≡ n

pub around : {X : Type 0} (key : X → ℕ) (ss : List (Slotted X)) (n k : ℕ) (s : Slotted X) → are_slots key ss ≡ true → k < length ss → s ≡ get_or ss k s → s.number ≡ n → Around key ss n k s
around key [] n k s h l at e = absurd (omega (arith, l))
around {X = X} key (x ∷ xs) n zero s h l at e =
    let same : x ≡ s = sym at in
    let mine : x.number ≡ n = ap (λ (t : Slotted X). t.number) same ∙ e in
    record {
      front = [];
      back = xs;
      is = ap (λ (t : Slotted X). t ∷ xs) same;
      own = subst (λ (t : Slotted X). list_all (is_of key n) t.items ≡ true) same (subst (λ m. list_all (is_of key m) x.items ≡ true) mine (own-first key x xs h));
      low = refl;
      high = subst (λ m. list_all (above key m) (all_held xs) ≡ true) mine (held-above key x.number xs (slots-rest key x xs h) (higher-rest key x xs h));
      set = λ t. refl;
      again = λ t is own. slots-from key t xs (subst (λ m. list_all (is_of key m) t.items ≡ true) (sym is) own)
          (subst (λ m. list_all (λ u. nat_lt m u.number) xs ≡ true) (mine ∙ sym is) (higher-rest key x xs h)) (slots-rest key x xs h);
      rooms = λ t is room. λ i. record { number = (is ∙ sym mine) i; capacity = (room ∙ ap (λ (t : Slotted X). t.capacity) (sym same)) i } ∷ all_rooms xs;
      grows = λ t is room m. more t m (sym mine) is (subst (λ (u : Slotted X). u.capacity ≤ t.capacity) (sym same) room) (x.number == m) (t.number == m) refl refl;
      fits = λ t is. ap (λ b. cond b t.capacity (capacity_in xs n)) (eq-eqb t.number n is);
      mine = e;
    }
  where
    more : (t : Slotted X) (m : ℕ) → n ≡ x.number → t.number ≡ n → x.capacity ≤ t.capacity → (a b : Bool) → x.number == m ≡ a → t.number == m ≡ b → cond a x.capacity (capacity_in xs m) ≤ cond b t.capacity (capacity_in xs m)
    more t m mine is room true true f g = room
    more t m mine is room false false f g = omega arith
    more t m mine is room true false f g = absurd (not_both (t.number == m) (ap (λ k. k == m) (is ∙ mine) ∙ f) g)
    more t m mine is room false true f g = absurd (not_both (x.number == m) (ap (λ k. k == m) (sym (is ∙ mine)) ∙ g) f)
around {X = X} key (x ∷ xs) n (suc k) s h l at e =
    let r = around key xs n k s (slots-rest key x xs h) (omega (arith, l)) at e in
    let parts : list_all (λ t. nat_lt x.number t.number) (r.front ++ s ∷ r.back) ≡ true = subst (λ ts. list_all (λ t. nat_lt x.number t.number) ts ≡ true) r.is (higher-rest key x xs h) in
    let two = sym (list_all-append (λ t. nat_lt x.number t.number) r.front (s ∷ r.back)) ∙ parts in
    let fore = both-left (list_all (λ t. nat_lt x.number t.number) r.front) _ two in
    let hind = both-right (list_all (λ t. nat_lt x.number t.number) r.front) _ two in
    let under : nat_lt x.number n ≡ true = subst (λ m. nat_lt x.number m ≡ true) e (both-left (nat_lt x.number s.number) _ hind) in
    record {
      front = x ∷ r.front;
      back = r.back;
      is = ap (λ (ts : List (Slotted X)). x ∷ ts) r.is;
      own = r.own;
      low = all-both (below key n) x.items (all_held r.front) (all-weaker (is_of key x.number) (below key n) (λ f g. by (key f) x.number g under) x.items (own-first key x xs h)) r.low;
      high = r.high;
      set = λ t. ap (λ (ts : List (Slotted X)). x ∷ ts) (r.set t);
      again = λ t is own. slots-from key x (r.front ++ t ∷ r.back) (own-first key x xs h)
          (all-both (λ u. nat_lt x.number u.number) r.front (t ∷ r.back) fore
          (both (nat_lt x.number t.number) _ (subst (λ m. nat_lt x.number m ≡ true) (sym is) under) (both-right (nat_lt x.number s.number) _ hind)))
          (r.again t is own);
      rooms = λ t is room. ap (λ (rs : List Room). room_of x ∷ rs) (r.rooms t is room);
      grows = λ t is room m. more (capacity_in xs m) (capacity_in (r.front ++ t ∷ r.back) m) (r.grows t is room m) (x.number == m);
      fits = λ t is. ap (λ b. cond b x.capacity (capacity_in (r.front ++ t ∷ r.back) n)) (other x.number under) ∙ r.fits t is;
      mine = e;
    }
  where
    by : (a b : ℕ) → a == b ≡ true → nat_lt b n ≡ true → nat_lt a n ≡ true
    by a b h k = grind (arith, nat_tests)

    other : (a : ℕ) → nat_lt a n ≡ true → a == n ≡ false
    other a h = grind (arith, nat_tests)

    more : (a b : ℕ) → a ≤ b → (c : Bool) → cond c x.capacity a ≤ cond c x.capacity b
    more a b h true = omega arith
    more a b h false = h

-- all elements with another slot at the place
pub held-with : {X : Type 0} (front back : List (Slotted X)) (t : Slotted X) → all_held (front ++ t ∷ back) ≡ all_held front ++ (t.items ++ all_held back)
held-with {X = X} front back t = flat_map-append (λ (s : Slotted X). s.items) front (t ∷ back)

-- ---- a number without a slot

pub absent-held : {X : Type 0} (key : X → ℕ) (n : ℕ) (ss : List (Slotted X)) → are_slots key ss ≡ true → list_any (λ s. s.number == n) ss ≡ false → list_all (λ e. not (is_of key n e)) (all_held ss) ≡ true
absent-held key n [] h a = refl
absent-held key n (s ∷ ss) h a =
    all-both (λ e. not (is_of key n e)) s.items (all_held ss)
    (all-weaker (is_of key s.number) (λ e. not (is_of key n e)) (λ e g. ap not (ap (λ m. m == n) (eqb-true (key e) s.number g) ∙ neither-left (s.number == n) _ a)) s.items (own-first key s ss h))
    (absent-held key n ss (slots-rest key s ss h) (neither-right (s.number == n) _ a))

pub absent-none : {X : Type 0} (key : X → ℕ) (n : ℕ) (ss : List (Slotted X)) → are_slots key ss ≡ true → list_any (λ s. s.number == n) ss ≡ false → rows_of key n (all_held ss) ≡ []
absent-none key n ss h a = none-kept (is_of key n) (all_held ss) (absent-held key n ss h a)

pub absent-capacity : {X : Type 0} (n : ℕ) (ss : List (Slotted X)) → list_any (λ s. s.number == n) ss ≡ false → capacity_in ss n ≡ 0
absent-capacity n [] a = refl
absent-capacity n (s ∷ ss) a = ap (λ b. cond b s.capacity (capacity_in ss n)) (neither-left (s.number == n) _ a) ∙ absent-capacity n ss (neither-right (s.number == n) _ a)

-- ---- where a search stops

-- slots rise, so that they are in order
pub slots-ordered : {X : Type 0} (key : X → ℕ) (ss : List (Slotted X)) → are_slots key ss ≡ true → is_ordered_by (λ s. s.number) ss ≡ true
slots-ordered key [] h = refl
slots-ordered key (s ∷ ss) h =
    both (list_all (λ t. nat_le s.number t.number) ss) _
    (all-weaker (λ t. nat_lt s.number t.number) (λ t. nat_le s.number t.number) (λ t g. by s.number t.number g) ss (higher-rest key s ss h))
    (slots-ordered key ss (slots-rest key s ss h))
  where
    by : (a b : ℕ) → nat_lt a b ≡ true → nat_le a b ≡ true
    by a b h = grind (arith, nat_tests)

-- slots don't fall, so that those from the rank on are at least the number's
parted-if : {X : Type 0} (key : X → ℕ) (n : ℕ) (ss : List (Slotted X)) → are_slots key ss ≡ true → list_any (λ s. s.number == n) ss ≡ true → (rank (λ s. s.number) n ss < length ss) × ((d : Slotted X) → (get_or ss (rank (λ s. s.number) n ss) d).number == n ≡ true)
parted-if key n [] h a = absurd (not_both false a refl)
parted-if {X = X} key n (s ∷ ss) h a = by_test (nat_lt s.number n) (s.number == n) refl refl a (λ g. parted-if key n ss (slots-rest key s ss h) g)
  where
    lone : (ts : List (Slotted X)) → list_all (λ t. nat_lt s.number t.number) ts ≡ true → nat_lt s.number n ≡ false → list_any (λ t. t.number == n) ts ≡ false
    lone [] g k = refl
    lone (t ∷ ts) g k = (λ i. by t.number (both-left (nat_lt s.number t.number) _ g) k i || list_any (λ t. t.number == n) ts) ∙ lone ts (both-right (nat_lt s.number t.number) _ g) k
      where
        by : (b : ℕ) → nat_lt s.number b ≡ true → nat_lt s.number n ≡ false → b == n ≡ false
        by b h k = grind (arith, nat_tests)

    by_test : (b c : Bool) → nat_lt s.number n ≡ b → s.number == n ≡ c → c || list_any (λ s. s.number == n) ss ≡ true
        → (list_any (λ s. s.number == n) ss ≡ true → (rank (λ s. s.number) n ss < length ss) × ((d : Slotted X) → (get_or ss (rank (λ s. s.number) n ss) d).number == n ≡ true))
        → (cond b (suc (rank (λ s. s.number) n ss)) 0 < suc (length ss)) × ((d : Slotted X) → (get_or (s ∷ ss) (cond b (suc (rank (λ s. s.number) n ss)) 0) d).number == n ≡ true)
    by_test true true e f g ih = absurd (grind (arith, nat_tests))
    by_test true false e f g ih = let r = ih g in (omega (arith, r.0), r.1)
    by_test false true e f g ih = (omega arith, λ d. f)
    by_test false false e f g ih = absurd (not_both (list_any (λ s. s.number == n) ss) g (lone ss (higher-rest key s ss h) e))

-- a number whose slot doesn't stand at the rank has none
pub no-slot : {X : Type 0} (key : X → ℕ) (n : ℕ) (ss : List (Slotted X)) → are_slots key ss ≡ true → (rank (λ s. s.number) n ss < length ss → (d : Slotted X) → (get_or ss (rank (λ s. s.number) n ss) d).number == n ≡ false) → list_any (λ s. s.number == n) ss ≡ false
no-slot {X = X} key n ss h other = false_from_ne_true _ (λ a. let r = parted-if key n ss h a in never (get_or ss (rank (λ s. s.number) n ss)) r other)
  where
    never : (read : Slotted X → Slotted X) → (rank (λ s. s.number) n ss < length ss) × ((d : Slotted X) → (read d).number == n ≡ true) → (rank (λ s. s.number) n ss < length ss → (d : Slotted X) → (read d).number == n ≡ false) → ⊥
    never read r other = not_both ((read none).number == n) (r.1 none) (other r.0 none)
      where
        none : Slotted X
        none = record { number = 0; items = []; capacity = 0 }

-- ---- a new slot

-- a slot without elements at the rank of a number that has none
pub record NewSlot {X : Type 0} (key : X → ℕ) (ss : List (Slotted X)) (n : ℕ) (new : List (Slotted X)) : Type 0 where
  pub slots : are_slots key new ≡ true
  pub held : all_held new ≡ all_held ss
  pub capacity : (m : ℕ) → capacity_in new m ≡ capacity_in ss m
  pub within : rank (λ s. s.number) n ss < length new
  pub at : (d : Slotted X) → (get_or new (rank (λ s. s.number) n ss) d).number ≡ n

abbrev empty_slot : {X : Type 0} → ℕ → Slotted X
empty_slot n = record { number = n; items = []; capacity = 0 }

pub new-slot : {X : Type 0} (key : X → ℕ) (n : ℕ) (ss : List (Slotted X)) → are_slots key ss ≡ true → list_any (λ s. s.number == n) ss ≡ false → NewSlot key ss n (insert ss (rank (λ s. s.number) n ss) (empty_slot n))
new-slot key n [] h a = record { slots = refl; held = refl; capacity = λ m. by (n == m) zero; within = omega arith; at = λ d. refl }
  where
    by : (b : Bool) (k : ℕ) → cond b k k ≡ k
    by true k = refl
    by false k = refl
new-slot {X = X} key n (s ∷ ss) h a = by_test (nat_lt s.number n) refl (new-slot key n ss (slots-rest key s ss h) (neither-right (s.number == n) _ a))
  where
    past : (b : ℕ) → nat_lt s.number n ≡ false → s.number == n ≡ false → nat_lt s.number b ≡ true → nat_lt n b ≡ true
    past b e f g = grind (arith, nat_tests)

    over : nat_lt s.number n ≡ false → s.number == n ≡ false → nat_lt n s.number ≡ true
    over e f = grind (arith, nat_tests)

    all-put : (ts : List (Slotted X)) (k : ℕ) → list_all (λ t. nat_lt s.number t.number) ts ≡ true → nat_lt s.number n ≡ true → list_all (λ t. nat_lt s.number t.number) (insert ts k (empty_slot n)) ≡ true
    all-put [] zero g e = both (nat_lt s.number n) true e refl
    all-put [] (suc k) g e = both (nat_lt s.number n) true e refl
    all-put (t ∷ ts) zero g e = both (nat_lt s.number n) _ e g
    all-put (t ∷ ts) (suc k) g e = both (nat_lt s.number t.number) _ (both-left (nat_lt s.number t.number) _ g) (all-put ts k (both-right (nat_lt s.number t.number) _ g) e)

    least : {a : ℕ} → a ≡ 0 → a < suc (suc (length ss))
    least e = omega (arith, e)

    here : (m : ℕ) → (b : Bool) → n == m ≡ b → cond b 0 (capacity_in (s ∷ ss) m) ≡ capacity_in (s ∷ ss) m
    here m true e = sym (subst (λ k. capacity_in (s ∷ ss) k ≡ 0) (eqb-true n m e) (absent-capacity n (s ∷ ss) a))
    here m false e = refl

    by_test : (b : Bool) → nat_lt s.number n ≡ b → NewSlot key ss n (insert ss (rank (λ s. s.number) n ss) (empty_slot n))
        → NewSlot key (s ∷ ss) n (insert (s ∷ ss) (cond b (suc (rank (λ s. s.number) n ss)) 0) (empty_slot n))
    by_test true e r = record {
      slots = slots-from key s (insert ss (rank (λ s. s.number) n ss) (empty_slot n)) (own-first key s ss h) (all-put ss (rank (λ s. s.number) n ss) (higher-rest key s ss h) e) r.slots;
      held = ap (λ (es : List X). s.items ++ es) r.held;
      capacity = λ m. ap (λ c. cond (s.number == m) s.capacity c) (r.capacity m);
      within = moved (ap (λ b. cond b (suc (rank (λ s. s.number) n ss)) 0) e) r.within;
      at = λ d. subst (λ k. (get_or (s ∷ insert ss (rank (λ s. s.number) n ss) (empty_slot n)) k d).number ≡ n) (sym (ap (λ b. cond b (suc (rank (λ s. s.number) n ss)) 0) e)) (r.at d);
    }
      where
        moved : {a b c : ℕ} → a ≡ suc b → b < c → a < suc c
        moved e h = omega (arith, e, h)
    by_test false e r = record {
      slots = slots-from key (empty_slot n) (s ∷ ss) refl (both (nat_lt n s.number) _ (over e (neither-left (s.number == n) _ a))
          (all-weaker (λ t. nat_lt s.number t.number) (λ t. nat_lt n t.number) (λ t g. past t.number e (neither-left (s.number == n) _ a) g) ss (higher-rest key s ss h))) h;
      held = refl;
      capacity = λ m. here m (n == m) refl;
      within = least (ap (λ b. cond b (suc (rank (λ s. s.number) n ss)) 0) e);
      at = λ d. subst (λ k. (get_or (empty_slot n ∷ s ∷ ss) k d).number ≡ n) (sym (ap (λ b. cond b (suc (rank (λ s. s.number) n ss)) 0) e)) refl;
    }

-- ---- by place

-- the same of slots that were read and written under other names
pub new-as : {X : Type 0} (key : X → ℕ) (n : ℕ) (ss read kept new : List (Slotted X)) (k : ℕ) (t : Slotted X) → are_slots key ss ≡ true → list_any (λ s. s.number == n) ss ≡ false → kept ≡ ss → read ≡ kept → k ≡ rank (λ s. s.number) n read
    → t ≡ empty_slot n → new ≡ insert kept k t → NewSlot key ss n new × HasSlot new n k
new-as key n ss read kept new k t h a same seen at is made =
    let place : k ≡ rank (λ s. s.number) n ss = at ∙ ap (rank (λ s. s.number) n) (seen ∙ same) in
    let r = subst (NewSlot key ss n) (sym (made ∙ (λ i. insert (same i) (place i) (is i)))) (new-slot key n ss h a) in
    (r, (omega (arith, place, r.within), λ d. subst (λ j. (get_or new j d).number ≡ n) (sym place) (r.at d)))

-- a slot that was read at a place and is of another number
pub other-at : {X : Type 0} (n : ℕ) (ss : List (Slotted X)) (k : ℕ) (s : Slotted X) → k ≡ rank (λ s. s.number) n ss → s ≡ get_or ss k s → s.number == n ≡ false → rank (λ s. s.number) n ss < length ss → (d : Slotted X)
    → (get_or ss (rank (λ s. s.number) n ss) d).number == n ≡ false
other-at {X = X} n ss k s at is other l d =
    ap (λ t. t.number == n) (sym (same ss (rank (λ s. s.number) n ss) s d l) ∙ sym (is ∙ ap (λ j. get_or ss j s) at)) ∙ other
  where
    same : (ts : List (Slotted X)) (j : ℕ) (s d : Slotted X) → j < length ts → get_or ts j s ≡ get_or ts j d
    same [] j s d l = absurd (omega (arith, l))
    same (t ∷ ts) zero s d l = refl
    same (t ∷ ts) (suc j) s d l = same ts j s d (omega (arith, l))
