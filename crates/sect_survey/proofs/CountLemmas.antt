-- What is counted of leaves and lines, one after the other.
use Rattle.std.specs.Prelude.{◌≡◌, ℕ, suc, ◌+◌, ◌-◌, ◌<◌, Bool, true, false, not, ◌&&◌, ◌||◌, ◌==◌, cond, List, [], ◌∷◌, ◌++◌, length, take, filter, filter_map, Option, Some, None, refl}
use Rattle.std.specs.List.{range_with_len, cons_option}
use Rattle.std.specs.Option.{option_to_list}
use Rattle.std.proofs.Common.{sym, ◌∙◌, ap, arith, get_or, append_assoc}
use Rattle.std.proofs.lemmas.List.{take_more}
use Rattle.std.proofs.lemmas.List.Elements.{filter_map-append}
use Rattle.std.proofs.lemmas.List.Filters.{length-filter_more}
use Rattle.std.proofs.lemmas.List.Folds.{list_any_more}
use Rattle.sect_base.specs.Tree.{rule_number}
use Rattle.sect_base.specs.declared.rule.Rule.{Rule}
use Rattle.sect_base.specs.declared.ids.SectionId.{SectionId}
use Rattle.sect_survey.specs.Leaves.{breaks, leaves_want, leaf_wants}

-- ---- leaves

-- one leaf more, at a rule
pub rule-more : (leaves : List (Rule × ℕ)) (rule : Rule) (i : ℕ) (d : Rule × ℕ) (before now new n : ℕ) → i < length leaves
    → now ≡ before + length (filter (breaks rule) (take i leaves)) → n ≡ rule_number (get_or leaves i d).0 → new ≡ now + cond (n == rule_number rule) 1 0
    → new ≡ before + length (filter (breaks rule) (take (i + 1) leaves))
rule-more leaves rule i d before now new n l h k m =
    let more = length-filter_more (breaks rule) leaves i d l in
    let here : ◌≡◌ {A = ℕ} (cond (breaks rule (get_or leaves i d)) 1 0) (cond (n == rule_number rule) 1 0) = ap (λ k. cond (k == rule_number rule) 1 0) (sym k) in
    omega (arith, more, here, h, m)

-- what was met before, or is met now, is met once
once : (b w : Bool) → ◌≡◌ {A = ℕ} (cond b 1 0 + cond (not b && w) 1 0) (cond (b || w) 1 0)
once true w = refl
once false true = refl
once false false = refl

-- one leaf more, at a section that was seen where an earlier leaf wants a place in it
pub seen-more : (leaves : List (Rule × ℕ)) (section : SectionId) (i : ℕ) (d : Rule × ℕ) (seen new : Bool) → i < length leaves
    → seen ≡ leaves_want section (take i leaves) → new ≡ seen || leaf_wants section (get_or leaves i d) → new ≡ leaves_want section (take (i + 1) leaves)
seen-more leaves section i d seen new l h m =
    m ∙ ap (λ b. b || leaf_wants section (get_or leaves i d)) h ∙ sym (list_any_more (leaf_wants section) leaves i d l)

pub section-more : (leaves : List (Rule × ℕ)) (section : SectionId) (i : ℕ) (d : Rule × ℕ) (seen : Bool) (before now new : ℕ) → i < length leaves
    → seen ≡ leaves_want section (take i leaves) → now ≡ before + cond (leaves_want section (take i leaves)) 1 0
    → new ≡ now + cond (not seen && leaf_wants section (get_or leaves i d)) 1 0 → new ≡ before + cond (leaves_want section (take (i + 1) leaves)) 1 0
section-more leaves section i d seen before now new l s h m =
    let w = leaf_wants section (get_or leaves i d) in
    let earlier : ◌≡◌ {A = ℕ} (cond seen 1 0) (cond (leaves_want section (take i leaves)) 1 0) = ap (λ b. cond b 1 0) s in
    let both : ◌≡◌ {A = ℕ} (cond seen 1 0 + cond (not seen && w) 1 0) (cond (seen || w) 1 0) = once seen w in
    let all : ◌≡◌ {A = ℕ} (cond (seen || w) 1 0) (cond (leaves_want section (take (i + 1) leaves)) 1 0) =
    ap (λ b. cond b 1 0) (seen-more leaves section i d seen (seen || w) l s refl) in
    omega (arith, earlier, both, all, h, m)

-- ---- sums

no-more : {X : Type 0} (xs : List X) → xs ++ [] ≡ xs
no-more [] = refl
no-more (x ∷ xs) = ap (λ ys. x ∷ ys) (no-more xs)

single : {X Y : Type 0} (f : X → Option Y) (x : X) (xs : List X) → filter_map f (x ∷ xs) ≡ option_to_list (f x) ++ filter_map f xs
single {Y = Y} f x xs = by_value (f x)
  where
    by_value : (o : Option Y) → cons_option o (filter_map f xs) ≡ option_to_list o ++ filter_map f xs
    by_value None = refl
    by_value (Some y) = refl

-- one key more
pub key-more : {X Y : Type 0} (f : X → Option Y) (keys : List X) (i : ℕ) (d : X) (sums new : List Y) → i < length keys
    → sums ≡ filter_map f (take i keys) → new ≡ sums ++ option_to_list (f (get_or keys i d)) → new ≡ filter_map f (take (i + 1) keys)
key-more f keys i d sums new l h m =
    m ∙ ap (λ xs. xs ++ option_to_list (f (get_or keys i d))) h
    ∙ ap (λ xs. filter_map f (take i keys) ++ xs) (sym (single f (get_or keys i d) [] ∙ no-more (option_to_list (f (get_or keys i d)))))
    ∙ sym (filter_map-append f (take i keys) (get_or keys i d ∷ []))
    ∙ ap (filter_map f) (sym (take_more keys i d l))

-- one number more of those below an end
pub number-more : {Y : Type 0} (f : ℕ → Option Y) (number next end : ℕ) (sums new all : List Y) → number < end → next ≡ number + 1
    → sums ++ filter_map f (range_with_len number (end - number)) ≡ all → new ≡ sums ++ option_to_list (f number)
    → new ++ filter_map f (range_with_len next (end - next)) ≡ all
number-more f number next end sums new all l n h m =
    let left : end - number ≡ suc (end - next) = omega (arith, l, n) in
    ap (λ xs. xs ++ filter_map f (range_with_len next (end - next))) m
    ∙ append_assoc sums (option_to_list (f number)) (filter_map f (range_with_len next (end - next)))
    ∙ ap (λ k. sums ++ (option_to_list (f number) ++ filter_map f (range_with_len k (end - next)))) n
    ∙ ap (λ xs. sums ++ xs) (sym (single f number (range_with_len (number + 1) (end - next))))
    ∙ ap (λ k. sums ++ filter_map f (range_with_len number k)) (sym left)
    ∙ h
