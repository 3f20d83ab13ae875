-- Empty lines have no head.
use Rattle.std.proofs.Common.{◌≡◌, ℕ, ◌==◌, ◌||◌, Bool, true, false, List, [], ◌∷◌, ◌++◌, refl, sym, ap, ◌∙◌, inl, inr}
use Rattle.httparse.specs.Grammar.{RequestHead, LineEnd, crlf, lf, print_blank, print_request}
use Rattle.httparse.proofs.GrammarLemmas.{print_request-append}
use Rattle.sect_talk.specs.Rest.{IsBlank, IsOpenBody, IsCut}

abbrev has_space : List ℕ → Bool
has_space [] = false
has_space (b ∷ bs) = b == 32 || has_space bs

space_behind : (xs ys : List ℕ) → has_space ys ≡ true → has_space (xs ++ ys) ≡ true
space_behind [] ys e = e
space_behind (x ∷ xs) ys e = ap (λ b. x == 32 || b) (space_behind xs ys e) ∙ or_true (x == 32)
  where
    or_true : (b : Bool) → (b || true) ≡ true
    or_true true = refl
    or_true false = refl

no_space_in_blank : (ends : List LineEnd) → has_space (print_blank ends) ≡ false
no_space_in_blank [] = refl
no_space_in_blank (crlf ∷ ends) = no_space_in_blank ends
no_space_in_blank (lf ∷ ends) = no_space_in_blank ends

space_in_head : (h : RequestHead) (part : List ℕ) → has_space (print_request h ++ part) ≡ true
space_in_head h part = ap has_space (print_request-append h part) ∙ space_behind (print_blank h.blank) _ (space_behind h.method _ refl)

pub blank_is_not_open : (rest : List ℕ) → IsBlank rest → IsOpenBody rest → ⊥
blank_is_not_open rest ((ends, blank), short) (h, part, n, fits, has, is, few) =
    let spaced : has_space rest ≡ true = ap has_space is ∙ space_in_head h part in
    let other : has_space rest ≡ false = ap has_space blank ∙ no_space_in_blank ends in
    let both = sym spaced ∙ other in
    absurd (cc)

pub blank_is_not_cut : (rest : List ℕ) → IsBlank rest → IsCut rest → ⊥
blank_is_not_cut rest blank (inl (other, more)) = other blank
blank_is_not_cut rest blank (inr part) = blank_is_not_open rest blank part
