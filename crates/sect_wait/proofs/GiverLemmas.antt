-- How many of the entries give a course up: with an entry more, and with one less.
use Rattle.std.specs.Prelude.{◌≡◌, ℕ, suc, ◌+◌, ◌<◌, ◌≤◌, Bool, true, false, ◌||◌, nat_lt, cond, List, [], ◌∷◌, ◌++◌, length, insert, filter, Option, Some, None, refl}
use Rattle.std.specs.List.{list_any, remove}
use Rattle.std.specs.Option.{is_some, option_map_or, option_to_list}
use Rattle.std.proofs.Common.{◌∙◌, ap, arith, get_or}
use Rattle.std.proofs.lemmas.Bool.Decides.{nat_tests}
use Rattle.std.proofs.lemmas.List.{append-nil}
use Rattle.std.proofs.lemmas.List.Sums.{length-filter, count_by-le-length, sum_by_push, sum_by-insert, sum_by-remove}
use Rattle.sect_model.specs.declared.held.Waiting.{Waiting}
use Rattle.sect_wait.specs.Indexed.{gives, count_givers}

-- an entry counts as one, or not at all
abbrev one : Waiting → ℕ
one e = cond (is_some e.give) 1 0

number : {a b : Bool} → a ≡ b → cond {A = ℕ} a 1 0 ≡ cond b 1 0
number is = ap (λ (b : Bool). cond {A = ℕ} b 1 0) is

counted : {b : Bool} (e : Waiting) → b ≡ is_some e.give → cond b 1 0 ≡ one e
counted e is = number is

-- what is left of a number, and of the same
pub less-same : (m k n all : ℕ) → m + k ≡ all → n + k ≡ all → m ≡ n
less-same m k n all a b = omega (arith, a, b)

-- each entry counts once at most
pub givers-few : (es : List Waiting) → count_givers es ≤ length es
givers-few es = omega (arith, length-filter gives es, count_by-le-length gives es)

-- where one gives a course up, the number isn't 0
pub givers-some : (es : List Waiting) → nat_lt 0 (count_givers es) ≡ list_any (λ e. is_some e.give) es
givers-some [] = refl
givers-some (e ∷ es) = by_test (is_some e.give) (givers-some es)
  where
    above_none : (n : ℕ) → nat_lt 0 (suc n) ≡ true
    above_none n = grind (arith, nat_tests)

    by_test : (b : Bool) → nat_lt 0 (count_givers es) ≡ list_any (λ e. is_some e.give) es
        → nat_lt 0 (length (cond b (e ∷ filter gives es) (filter gives es))) ≡ b || list_any (λ e. is_some e.give) es
    by_test true ih = above_none (length (filter gives es))
    by_test false ih = ih

module _ (n : ℕ) (es fs : List Waiting) (is : n ≡ count_givers es) (b : Bool) where
  -- an entry joined behind the others
  pub givers-joined : (e : Waiting) → b ≡ is_some e.give → fs ≡ es ++ e ∷ [] → n + cond b 1 0 ≡ count_givers fs
  givers-joined e test more = omega (arith, is, counted e test, ap count_givers more, length-filter gives (es ++ e ∷ []), length-filter gives es, sum_by_push one es e)

  -- an entry was put at a place
  pub givers-back : (e : Waiting) (place : ℕ) → b ≡ is_some e.give → fs ≡ insert es place e → n + cond b 1 0 ≡ count_givers fs
  givers-back e place test more =
      omega (arith, is, counted e test, ap count_givers more, length-filter gives (insert es place e), length-filter gives es, sum_by-insert one es place e)

  -- the entry at a place left
  pub givers-left : (e : Waiting) (place : ℕ) → b ≡ is_some e.give → fs ≡ remove es place → place < length es → e ≡ get_or es place e → count_givers fs + cond b 1 0 ≡ n
  givers-left e place test less within at =
      omega (arith, is, counted e test, ap count_givers less, length-filter gives (remove es place), length-filter gives es, sum_by-remove one es place e within, ap one at)

  -- the last entry left, where there is one
  pub givers-popped : (last : Option Waiting) → b ≡ option_map_or (λ e. is_some e.give) last false → es ≡ fs ++ option_to_list last → count_givers fs + cond b 1 0 ≡ n
  givers-popped None test less = omega (arith, is, number test, ap count_givers (less ∙ append-nil fs))
  givers-popped (Some e) test less =
      omega (arith, is, counted e test, ap count_givers less, length-filter gives (fs ++ e ∷ []), length-filter gives fs, sum_by_push one fs e)
