-- Settling places the first entry that can be placed, and settles what is left.
use Rattle.std.specs.Prelude.{◌≡◌, ℕ, zero, suc, ◌<◌, ◌≤◌, Bool, true, false, not, ◌||◌, cond, List, [], ◌∷◌, length, filter, Option, Some, None, refl, ◌⊎◌}
use Rattle.std.specs.Option.{option_map_or}
use Rattle.std.proofs.Common.{sym, ◌∙◌, ap, subst, arith, inl, inr}
use Rattle.std.proofs.lemmas.Bool.Decides.{nat_tests}
use Rattle.sect_model.specs.Data.{Waiting}
use Rattle.sect_model.specs.World.{State}
use Rattle.sect_model.specs.Settle.{settle, settle_by, settle_within, is_placeable, next_entry, first_entry, comes_first, place, placed_by, with_placed}
use Rattle.sect_model.specs.Laws.{SettleUnfolds, NextIsFirst}
use Rattle.sect_model.proofs.Members
use Rattle.sect_model.proofs.Members.{Member, all-of, any-of, both}
use Rattle.sect_model.proofs.EnrolLeave.{some_same}
use Rattle.sect_model.proofs.KeptMoves.{first_entry-member}
use Rattle.sect_model.proofs.SettleLemmas.{place-shorter}

-- ---- the number of entries is enough

nobody : (s : State) → length s.entries ≤ 0 → next_entry s ≡ None
nobody s few = by_entries s.entries few
  where
    by_entries : (es : List Waiting) → length es ≤ 0 → first_entry (filter (is_placeable s.world) es) ≡ None
    by_entries [] few = refl
    by_entries (e ∷ es) few = absurd (omega (arith, few))

none-left : (n : ℕ) (s : State) → length s.entries ≤ 0 → settle_within n s ≡ record { state = s; placed = [] }
none-left zero s few = refl
none-left (suc n) s few = ap (settle_by s (λ e. settle_within n (place s e))) (nobody s few)

enough : (n m : ℕ) (s : State) → length s.entries ≤ n → length s.entries ≤ m → settle_within n s ≡ settle_within m s
enough zero m s few more = sym (none-left m s few)
enough (suc n) zero s few more = none-left (suc n) s more
enough (suc n) (suc m) s few more = by_next (next_entry s) refl (λ e a b. enough n m (place s e) a b)
  where
    by_next : (o : Option Waiting) → next_entry s ≡ o
        → ((e : Waiting) → length (place s e).entries ≤ n → length (place s e).entries ≤ m → settle_within n (place s e) ≡ settle_within m (place s e))
        → settle_by s (λ e. settle_within n (place s e)) o ≡ settle_by s (λ e. settle_within m (place s e)) o
    by_next None next ih = refl
    by_next (Some e) next ih = ap (with_placed (placed_by s.world e)) (ih e (fewer n few (place-shorter s e next)) (fewer m more (place-shorter s e next)))
      where
        fewer : (k : ℕ) → length s.entries ≤ suc k → length (place s e).entries < length s.entries → length (place s e).entries ≤ k
        fewer k h less = omega (arith, h, less)

once : (n : ℕ) (s : State) (e : Waiting) → next_entry s ≡ Some e → settle_within (suc n) s ≡ with_placed (placed_by s.world e) (settle_within n (place s e))
once n s e next = ap (settle_by s (λ f. settle_within n (place s f))) next

same_or : (n : ℕ) → n ≤ n
same_or n = omega arith

one_over : (n : ℕ) → n ≤ suc n
one_over n = omega arith

below : (m n : ℕ) → m < n → m ≤ n
below m n h = omega (arith, h)

pub settle-unfolds : SettleUnfolds
unfolding settle
settle-unfolds s e next =
    let n : ℕ = length s.entries in
    enough n (suc n) s (same_or n) (one_over n)
    ∙ once n s e next
    ∙ ap (with_placed (placed_by s.world e)) (enough n (length (place s e).entries) (place s e) (below (length (place s e).entries) n (place-shorter s e next)) (same_or (length (place s e).entries)))

-- ---- the first

itself : (e : Waiting) → comes_first e e ≡ true
itself e = grind (arith, nat_tests)

otherwise : (d g : Waiting) → comes_first d g ≡ false → comes_first g d ≡ true
otherwise d g h = grind (arith, nat_tests, h)

before : (d g f : Waiting) → comes_first d g ≡ true → comes_first g f ≡ true → comes_first d f ≡ true
before d g f h k = grind (arith, nat_tests, h, k)

first-least : (es : List Waiting) (e : Waiting) → first_entry es ≡ Some e → (f : Waiting) → Member es f → comes_first e f ≡ true
first-least [] e h f m = absurd m
first-least (d ∷ es) e h f m = by_rest (first_entry es) (first-least es) (first_entry-none es) h m
  where
    first_entry-none : (es : List Waiting) → first_entry es ≡ None → (f : Waiting) → Member es f → ⊥
    first_entry-none [] h f m = m
    first_entry-none (e ∷ es) h f m = cc

    by_choice : (b : Bool) (g : Waiting) → comes_first d g ≡ b → ((f : Waiting) → Member es f → comes_first g f ≡ true) → cond b d g ≡ e → (d ≡ f) ⊎ Member es f → comes_first e f ≡ true
    by_choice true g t least same (inl is) = subst (λ x. comes_first x f ≡ true) same (subst (λ x. comes_first d x ≡ true) is (itself d))
    by_choice true g t least same (inr in_es) = subst (λ x. comes_first x f ≡ true) same (before d g f t (least f in_es))
    by_choice false g t least same (inl is) = subst (λ x. comes_first x f ≡ true) same (subst (λ x. comes_first g x ≡ true) is (otherwise d g t))
    by_choice false g t least same (inr in_es) = subst (λ x. comes_first x f ≡ true) same (least f in_es)

    by_rest : (o : Option Waiting) → ((e : Waiting) → o ≡ Some e → (f : Waiting) → Member es f → comes_first e f ≡ true) → (o ≡ None → (f : Waiting) → Member es f → ⊥)
        → Some (option_map_or (λ g. cond (comes_first d g) d g) o d) ≡ Some e → (d ≡ f) ⊎ Member es f → comes_first e f ≡ true
    by_rest None ih none same (inl is) = subst (λ x. comes_first x f ≡ true) (some_same d e same) (subst (λ x. comes_first d x ≡ true) is (itself d))
    by_rest None ih none same (inr in_es) = absurd (none refl f in_es)
    by_rest (Some g) ih none same m = by_choice (comes_first d g) g refl (ih g refl) (some_same (cond (comes_first d g) d g) e same) m

pub next-is-first : NextIsFirst
next-is-first s e next =
    let able : List Waiting = filter (is_placeable s.world) s.entries in
    let found = Members.member-filter (is_placeable s.world) s.entries e (first_entry-member able e next) in (
      found.1,
      all-of (λ f. not (is_placeable s.world f) || comes_first e f) s.entries (λ f m. by_test f m (is_placeable s.world f) refl),
    )
  where
    by_test : (f : Waiting) → Member s.entries f → (b : Bool) → is_placeable s.world f ≡ b → not b || comes_first e f ≡ true
    by_test f m true t = first-least (filter (is_placeable s.world) s.entries) e next f (Members.member-of_filter (is_placeable s.world) s.entries f m t)
    by_test f m false t = refl
