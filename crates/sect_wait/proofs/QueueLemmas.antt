-- What rising tickets tell of the entries.
use Rattle.std.specs.Prelude.{◌≡◌, ℕ, Bool, true, false, not, ◌&&◌, ◌||◌, ◌==◌, nat_lt, nat_le, cond, List, [], ◌∷◌, length, map, filter, find, position, Some, None, refl, ◌⊎◌}
use Rattle.std.specs.List.{list_any, list_all, position_or_len}
use Rattle.std.specs.Option.{is_some}
use Rattle.std.proofs.Common.{sym, ◌∙◌, ap, arith, inl, inr}
use Rattle.std.proofs.lemmas.Bool.Decides.{nat_tests}
use Rattle.sect_model.specs.declared.held.Waiting.{Waiting}
use Rattle.sect_model.specs.Kept.{tickets_rise, is_ordered_by}
use Rattle.sect_model.specs.Settle.{without}
use Rattle.sect_people.specs.Order.{all_differ}
use Rattle.sect_people.specs.Index.{rank}
use Rattle.sect_model.proofs.ListLemmas.{any-find}
use Rattle.sect_model.proofs.Members.{Member, both, both-left, both-right, all-at, all-of, none-of, if_false, member-map, decide}
use Rattle.sect_roster.proofs.InsertLemmas.{once, rank-place}
use Rattle.sect_roster.proofs.PlaceLemmas.{place-some, place-none}

-- the entries behind have larger tickets
above : (e : Waiting) (es : List Waiting) (next : ℕ) → tickets_rise (e ∷ es) next ≡ true → list_all (λ f. nat_lt e.ticket f.ticket) es ≡ true
above e es next h = both-left (list_all (λ f. nat_lt e.ticket f.ticket) es) (nat_lt e.ticket next) (both-left _ (tickets_rise es next) h)

behind : (e : Waiting) (es : List Waiting) (next : ℕ) → tickets_rise (e ∷ es) next ≡ true → tickets_rise es next ≡ true
behind e es next h = both-right (list_all (λ f. nat_lt e.ticket f.ticket) es && nat_lt e.ticket next) (tickets_rise es next) h

not_above : (a b : ℕ) → nat_lt a b ≡ true → nat_le a b ≡ true
not_above a b h = grind (arith, nat_tests, h)

unlike : (a b : ℕ) → nat_lt a b ≡ true → b == a ≡ false
unlike a b h = grind (arith, nat_tests, h)

-- the entries are in order of ticket
pub in-order : (es : List Waiting) (next : ℕ) → tickets_rise es next ≡ true → is_ordered_by (λ e. e.ticket) es ≡ true
in-order [] next h = refl
in-order (e ∷ es) next h =
    both (list_all (λ f. nat_le e.ticket f.ticket) es) (is_ordered_by (λ f. f.ticket) es)
    (all-of (λ f. nat_le e.ticket f.ticket) es (λ f m. not_above e.ticket f.ticket (all-at (λ f. nat_lt e.ticket f.ticket) es (above e es next h) f m)))
    (in-order es next (behind e es next h))

-- no ticket stands twice
pub tickets-differ : (es : List Waiting) (next : ℕ) → tickets_rise es next ≡ true → all_differ (map (λ e. e.ticket) es) ≡ true
tickets-differ [] next h = refl
tickets-differ (e ∷ es) next h =
    both (not (list_any (λ m. m == e.ticket) (map (λ f. f.ticket) es))) (all_differ (map (λ f. f.ticket) es))
    (if_false (list_any (λ m. m == e.ticket) (map (λ f. f.ticket) es)) (none-of (λ m. m == e.ticket) (map (λ f. f.ticket) es) other)) (tickets-differ es next (behind e es next h))
  where
    other : (n : ℕ) → Member (map (λ f. f.ticket) es) n → n == e.ticket ≡ false
    other n m =
        let f = member-map (λ (f : Waiting). f.ticket) es n m in
        ap (λ k. k == e.ticket) (sym f.2) ∙ unlike e.ticket f.0.ticket (all-at (λ f. nat_lt e.ticket f.ticket) es (above e es next h) f.0 f.1)

-- one entry has a ticket that is found
pub one-ticket : (es : List Waiting) (next ticket : ℕ) → tickets_rise es next ≡ true → is_some (find (λ e. e.ticket == ticket) es) ≡ true
    → length (filter (λ e. e.ticket == ticket) es) ≡ 1
one-ticket es next ticket h found = once (λ e. e.ticket) ticket es (tickets-differ es next h) found

-- two entries of one ticket are one
pub one-entry : (es : List Waiting) (next : ℕ) → tickets_rise es next ≡ true → (e f : Waiting) → Member es e → Member es f → e.ticket ≡ f.ticket → e ≡ f
one-entry [] next h e f m n same = absurd m
one-entry (d ∷ es) next h e f (inl is) (inl also) same = sym is ∙ also
one-entry (d ∷ es) next h e f (inr m) (inr n) same = one-entry es next (behind d es next h) e f m n same
one-entry (d ∷ es) next h e f (inl is) (inr n) same = absurd (larger d.ticket f.ticket (all-at (λ g. nat_lt d.ticket g.ticket) es (above d es next h) f n) (ap (λ (g : Waiting). g.ticket) is ∙ same))
  where
    larger : (a b : ℕ) → nat_lt a b ≡ true → a ≡ b → ⊥
    larger a b l e = grind (arith, nat_tests, l, e)
one-entry (d ∷ es) next h e f (inr m) (inl is) same = absurd (larger d.ticket e.ticket (all-at (λ g. nat_lt d.ticket g.ticket) es (above d es next h) e m) (ap (λ (g : Waiting). g.ticket) is ∙ sym same))
  where
    larger : (a b : ℕ) → nat_lt a b ≡ true → a ≡ b → ⊥
    larger a b l e = grind (arith, nat_tests, l, e)

-- where no entry has the ticket, none leaves
pub without-none : (es : List Waiting) (ticket : ℕ) → list_any (λ e. e.ticket == ticket) es ≡ false → without es ticket ≡ es
without-none [] ticket h = refl
without-none (e ∷ es) ticket h = by_test (e.ticket == ticket) h (without-none es ticket)
  where
    by_test : (b : Bool) → b || list_any (λ e. e.ticket == ticket) es ≡ false → (list_any (λ e. e.ticket == ticket) es ≡ false → without es ticket ≡ es)
        → cond (not b) (e ∷ without es ticket) (without es ticket) ≡ e ∷ es
    by_test true g ih = cc
    by_test false g ih = ap (λ fs. e ∷ fs) (ih g)

-- ---- places

-- an element stands at its place
pub record Placed {X : Type 0} (p : X → Bool) (xs : List X) (k : ℕ) : Type 0 where
  pub some : list_any p xs ≡ true
  pub found : is_some (find p xs) ≡ true
  pub at : k ≡ position_or_len p xs

pub placed : {X : Type 0} (p : X → Bool) (xs : List X) (k : ℕ) → position p xs ≡ Some k → Placed p xs k
placed p xs k h = by_test (decide (list_any p xs))
  where
    same : (m n : ℕ) → Some m ≡ Some n → n ≡ m
    same m n e = cc

    by_test : (list_any p xs ≡ true) ⊎ (list_any p xs ≡ false) → Placed p xs k
    by_test (inl t) = record { some = t; found = any-find p xs ∙ t; at = same (position_or_len p xs) k (sym (place-some p xs t) ∙ h) }
    by_test (inr t) = let none = sym (place-none p xs (any-find p xs ∙ t)) ∙ h in cc

pub not-placed : {X : Type 0} (p : X → Bool) (xs : List X) → position p xs ≡ None → list_any p xs ≡ false
not-placed p xs h = by_test (decide (list_any p xs))
  where
    by_test : (list_any p xs ≡ true) ⊎ (list_any p xs ≡ false) → list_any p xs ≡ false
    by_test (inl t) = let some = sym (place-some p xs t) ∙ h in cc
    by_test (inr t) = t

-- where a look-up finds an element of a key, it stands at the key's rank
pub found-place : {X : Type 0} (key : X → ℕ) (n : ℕ) (xs : List X) (k : ℕ) (x : X) → is_ordered_by key xs ≡ true → k ≡ rank key n xs → find (λ x. key x == n) xs ≡ Some x
    → Some k ≡ position (λ x. key x == n) xs
found-place key n xs k x h at found =
    let some = ap is_some found in
    ap Some (at ∙ rank-place key n xs h some) ∙ sym (place-some (λ x. key x == n) xs (sym (any-find (λ x. key x == n) xs) ∙ some))

pub no-place : {X : Type 0} (p : X → Bool) (xs : List X) → find p xs ≡ None → None ≡ position p xs
no-place p xs found = sym (place-none p xs (ap is_some found))
