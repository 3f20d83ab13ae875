-- Rising numbers, and answers one after another.
use Rattle.std.proofs.Common.{◌≡◌, ℕ, ◌+◌, ◌<◌, ◌≤◌, ◌^◌, Bool, true, false, List, [], ◌∷◌, ◌++◌, length, None, Some, refl, sym, ap, ◌∙◌, subst, append_assoc, arith, nat_lt}
use Rattle.std.specs.Prelude.{if◌then◌else◌}
use Rattle.std.proofs.lemmas.Option.{cond_some}
use Rattle.std.proofs.lemmas.Bool.{ltb-false, ltb-true}
use Rattle.sect_tables.specs.declared.given.Given.{Given}
use Rattle.sect_script.specs.Run.{AnswersEach}
use Rattle.sect_app.specs.Numbers.{Numbered, number_at, numbered}

pub numbered-append : (at : ℕ) (xs ys : List Given) → numbered at (xs ++ ys) ≡ numbered at xs ++ numbered (at + length xs) ys
numbered-append at [] ys = let e : at ≡ at + 0 = omega arith in ap (λ (n : ℕ). numbered n ys) e
numbered-append at (x ∷ xs) ys =
    let e : at + 1 + length xs ≡ at + length (x ∷ xs) = omega arith in
    ap (λ (l : List Numbered). record { given = x; number = at } ∷ l) (numbered-append (at + 1) xs ys ∙ ap (λ (n : ℕ). numbered (at + 1) xs ++ numbered n ys) e)

-- a number that is there is the one
pub number_is : (n m : ℕ) → number_at n ≡ Some m → (n < 2 ^ 64) × (n ≡ m)
number_is n m e = let test = cond_some (nat_lt n (2 ^ 64)) n m e in (ltb-true n (2 ^ 64) test.0, test.1)

-- where no number is there, they ran out
pub number_none : (n : ℕ) → number_at n ≡ None → 2 ^ 64 ≤ n
number_none n e = by (nat_lt n (2 ^ 64)) refl e
  where
    by : (b : Bool) → nat_lt n (2 ^ 64) ≡ b → (if b then Some n else None) ≡ None → 2 ^ 64 ≤ n
    by true is e = absurd (cc)
    by false is e = ltb-false n (2 ^ 64) is

module _ {H X : Type 0} (answers : H → X → List ℕ → H → Type 0) where
  pub AnswersEach-append : (old mid new : H) (xs ys : List X) (bytes more : List ℕ) → AnswersEach answers old xs bytes mid → AnswersEach answers mid ys more new
      → AnswersEach answers old (xs ++ ys) (bytes ++ more) new
  AnswersEach-append old mid new [] ys bytes more (none, same) behind =
      subst (λ (b : List ℕ). AnswersEach answers old ys b new) (sym (ap (λ (b : List ℕ). b ++ more) none)) (subst (λ (h : H). AnswersEach answers h ys more new) same behind)
  AnswersEach-append old mid new (x ∷ xs) ys bytes more (next, first, rest, here, front, is) behind = (
    next,
    first,
    rest ++ more,
    here,
    AnswersEach-append next mid new xs ys rest more front behind,
    ap (λ (b : List ℕ). b ++ more) is ∙ append_assoc first rest more,
  )
