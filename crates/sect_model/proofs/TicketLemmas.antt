-- Tickets stay in rising order.
use Rattle.std.specs.Prelude.{◌≡◌, ℕ, ◌+◌, Bool, true, false, ◌&&◌, nat_lt, cond, List, [], ◌∷◌, ◌++◌, filter, refl}
use Rattle.std.specs.List.{list_all}
use Rattle.std.proofs.Common.{arith}
use Rattle.std.proofs.lemmas.Bool.Decides.{nat_tests}
use Rattle.sect_model.specs.Data.{Waiting}
use Rattle.sect_model.specs.Kept.{tickets_rise}
use Rattle.sect_model.proofs.Members
use Rattle.sect_model.proofs.Members.{both, both-left, both-right, all-at, all-of}
use Rattle.sect_model.proofs.Easy.{all-one}

-- the three parts of rising
record Rises (e : Waiting) (es : List Waiting) (next : ℕ) : Type 0 where
  below : list_all (λ f. nat_lt e.ticket f.ticket) es ≡ true
  old : nat_lt e.ticket next ≡ true
  rest : tickets_rise es next ≡ true

parts : (e : Waiting) (es : List Waiting) (next : ℕ) → tickets_rise (e ∷ es) next ≡ true → Rises e es next
parts e es next h = record {
  below = both-left _ _ (both-left _ (tickets_rise es next) h);
  old = both-right (list_all (λ f. nat_lt e.ticket f.ticket) es) _ (both-left _ (tickets_rise es next) h);
  rest = both-right (list_all (λ f. nat_lt e.ticket f.ticket) es && nat_lt e.ticket next) _ h;
}

whole : (e : Waiting) (es : List Waiting) (next : ℕ) → list_all (λ f. nat_lt e.ticket f.ticket) es ≡ true → nat_lt e.ticket next ≡ true → tickets_rise es next ≡ true → tickets_rise (e ∷ es) next ≡ true
whole e es next below old rest =
    both (list_all (λ f. nat_lt e.ticket f.ticket) es && nat_lt e.ticket next) (tickets_rise es next)
    (both (list_all (λ f. nat_lt e.ticket f.ticket) es) (nat_lt e.ticket next) below old) rest

pub rise-filter : (keep : Waiting → Bool) (es : List Waiting) (next : ℕ) → tickets_rise es next ≡ true → tickets_rise (filter keep es) next ≡ true
rise-filter keep [] next h = refl
rise-filter keep (e ∷ es) next h = by_test (keep e) (parts e es next h) (rise-filter keep es next (parts e es next h).rest)
  where
    by_test : (b : Bool) → Rises e es next → tickets_rise (filter keep es) next ≡ true → tickets_rise (cond b (e ∷ filter keep es) (filter keep es)) next ≡ true
    by_test true p ih =
        whole e (filter keep es) next
        (all-of (λ f. nat_lt e.ticket f.ticket) (filter keep es) (λ f m. all-at (λ f. nat_lt e.ticket f.ticket) es p.below f (Members.member-filter keep es f m).0)) p.old ih
    by_test false p ih = ih

next-old : (m n : ℕ) → nat_lt m n ≡ true → nat_lt m (n + 1) ≡ true
next-old m n h = grind (arith, nat_tests, h)

next-new : (n : ℕ) → nat_lt n (n + 1) ≡ true
next-new n = grind (arith, nat_tests)

-- a new entry with the next ticket
pub rise-join : (es : List Waiting) (e : Waiting) → tickets_rise es e.ticket ≡ true → tickets_rise (es ++ e ∷ []) (e.ticket + 1) ≡ true
rise-join [] e h = both (nat_lt e.ticket (e.ticket + 1)) true (next-new e.ticket) refl
rise-join (d ∷ es) e h =
    let p = parts d es e.ticket h in
    whole d (es ++ e ∷ []) (e.ticket + 1) (all-one (λ f. nat_lt d.ticket f.ticket) es e p.below p.old) (next-old d.ticket e.ticket p.old) (rise-join es e p.rest)
