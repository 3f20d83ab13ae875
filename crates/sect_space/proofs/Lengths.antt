-- How long the roster is after a change, and where what was removed stood.
use Rattle.std.specs.Prelude.{◌≡◌, ℕ, ◌+◌, Bool, true, false, nat_le, cond, List, [], ◌∷◌, length, find, position, Some, refl}
use Rattle.std.specs.List.{position_or_len}
use Rattle.std.specs.Option.{is_some}
use Rattle.std.proofs.Common.{sym, ◌∙◌, ap, arith}
use Rattle.sect_model.specs.World.{put_behind}
use Rattle.sect_roster.proofs.FoundLemmas.{found-place}

-- one more
pub length-put : {X : Type 0} (key : X → ℕ) (x : X) (xs : List X) → length (put_behind key x xs) ≡ length xs + 1
length-put key x [] = refl
length-put key x (y ∷ ys) = by_order (length-put key x ys) (nat_le (key y) (key x))
  where
    by_order : length (put_behind key x ys) ≡ length ys + 1 → (b : Bool) → length (cond b (y ∷ put_behind key x ys) (x ∷ y ∷ ys)) ≡ length (y ∷ ys) + 1
    by_order ih true = omega (arith, ih)
    by_order ih false = omega arith

-- the first place that passes, where one passes
pub placed-at : {X : Type 0} (p : X → Bool) (xs : List X) (k : ℕ) (x : X) → Some x ≡ find p xs → Some k ≡ position p xs → k ≡ position_or_len p xs
placed-at p xs k x f e = same (e ∙ found-place p xs (ap is_some (sym f)))
  where
    same : Some k ≡ Some (position_or_len p xs) → k ≡ position_or_len p xs
    same h = cc
