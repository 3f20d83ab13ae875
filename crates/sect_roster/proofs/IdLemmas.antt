-- The ids of the marks are those of the rows in order of id.
use Rattle.std.specs.Prelude.{◌≡◌, ℕ, suc, Bool, true, false, not, ◌||◌, ◌&&◌, ◌==◌, nat_le, cond, List, [], ◌∷◌, map, find, refl}
use Rattle.std.specs.List.{list_any, list_all}
use Rattle.std.specs.Option.{is_some}
use Rattle.std.proofs.Common.{sym, ◌∙◌, ap, subst}
use Rattle.std.proofs.lemmas.Bool.{eqb-true}
use Rattle.sect_base.specs.declared.ids.ReservationId.{ReservationId}
use Rattle.sect_people.specs.Order.{all_differ, sorted_by}
use Rattle.sect_people.proofs.OrderLemmas.{map-sorted_by, sorted_by-rises}
use Rattle.sect_model.specs.Kept.{is_ordered_by}
use Rattle.sect_model.proofs.Members.{both-left, both-right, not_true}
use Rattle.sect_model.proofs.ListLemmas.{any-find}
use Rattle.sect_roster.specs.Filed.{Keeps}
use Rattle.sect_roster.specs.declared.mark.Mark.{Mark}
use Rattle.sect_roster.proofs.KeepsLemmas.{marked}
use Rattle.sect_roster.proofs.PlaceLemmas.{rises}
use Rattle.sect_roster.proofs.SortLemmas.{times, times-sorted, one-order}

-- the reservation's id of a number
abbrev pub reservation_id : ℕ → ReservationId
reservation_id n = record { 0 = n }

pub map-both : {X Y Z : Type 0} (f : Y → Z) (g : X → Y) (xs : List X) → map f (map g xs) ≡ map (λ x. f (g x)) xs
map-both f g [] = refl
map-both f g (x ∷ xs) = ap (λ zs. f (g x) ∷ zs) (map-both f g xs)

all-map : {X : Type 0} (p : ℕ → Bool) (key : X → ℕ) (xs : List X) → list_all p (map key xs) ≡ list_all (λ x. p (key x)) xs
all-map p key [] = refl
all-map p key (x ∷ xs) = ap (λ b. p (key x) && b) (all-map p key xs)

any-map : {X : Type 0} (p : ℕ → Bool) (key : X → ℕ) (xs : List X) → list_any p (map key xs) ≡ list_any (λ x. p (key x)) xs
any-map p key [] = refl
any-map p key (x ∷ xs) = ap (λ b. p (key x) || b) (any-map p key xs)

-- the keys of what is in order of them are in order
keys-ordered : {X : Type 0} (key : X → ℕ) (xs : List X) → is_ordered_by (λ n. n) (map key xs) ≡ is_ordered_by key xs
keys-ordered key [] = refl
keys-ordered key (x ∷ xs) = λ i. all-map (λ n. nat_le (key x) n) key xs i && keys-ordered key xs i

-- numbers that differ stand once or not at all
times-one : (n : ℕ) (ns : List ℕ) → all_differ ns ≡ true → times (λ m. m) n ns ≡ cond (list_any (λ m. m == n) ns) 1 0
times-one n [] h = refl
times-one n (m ∷ ms) h = by_test (m == n) refl (times-one n ms (both-right (not (list_any (λ k. k == m) ms)) _ h))
  where
    by_test : (b : Bool) → m == n ≡ b → times (λ m. m) n ms ≡ cond (list_any (λ m. m == n) ms) 1 0
        → cond b (suc (times (λ m. m) n ms)) (times (λ m. m) n ms) ≡ cond (b || list_any (λ m. m == n) ms) 1 0
    by_test true t ih =
        ap (λ k. suc k) (ih ∙ ap {B = ℕ} (λ b. cond b 1 0) (subst (λ k. list_any (λ j. j == k) ms ≡ false) (eqb-true m n t) (not_true _ (both-left _ (all_differ ms) h))))
    by_test false t ih = ih

pub ids-told : {R : Type 0} (key id : R → ℕ) (rows : List R) (marks : List Mark) → Keeps key id rows marks → map (λ m. m.id) marks ≡ map id (sorted_by id rows)
ids-told {R = R} key id rows marks k =
    one-order (λ n. n) (λ x y e. e) (map (λ m. m.id) marks) (sorted_by (λ n. n) (map id rows))
    (rises (λ n. n) (map (λ m. m.id) marks) (keys-ordered (λ m. m.id) marks ∙ k.marks_in_order))
    (sorted_by-rises (λ n. n) (map id rows))
    (λ n. times-one n (map (λ m. m.id) marks) k.marks_differ
    ∙ ap {B = ℕ} (λ b. cond b 1 0) (known-mark n ∙ marked key id rows marks k n ∙ sym (known-row n))
    ∙ sym (times-one n (map id rows) k.differ)
    ∙ sym (times-sorted (λ m. m) n (map id rows)))
    ∙ sym (map-sorted_by id id (λ n. n) (λ r. refl) rows)
  where
    known-mark : (n : ℕ) → list_any (λ m. m == n) (map (λ m. m.id) marks) ≡ is_some (find (λ m. m.id == n) marks)
    known-mark n = any-map (λ m. m == n) (λ (m : Mark). m.id) marks ∙ sym (any-find (λ m. m.id == n) marks)

    known-row : (n : ℕ) → list_any (λ m. m == n) (map id rows) ≡ is_some (find (λ r. id r == n) rows)
    known-row n = any-map (λ m. m == n) id rows ∙ sym (any-find (λ r. id r == n) rows)
