-- A row and the names of a header, from a field on.
use Rattle.std.proofs.Common.{◌≡◌, ℕ, zero, suc, ◌+◌, ◌-◌, ◌<◌, ◌≤◌, Bool, true, false, cond, not, List, [], ◌∷◌, Option, None, Some, Bor, length, map, take, drop, get_or, refl, ap, sym, ◌∙◌, arith}
use Rattle.std.proofs.lemmas.List.{take_rest}
use Rattle.std.specs.Prelude.{is_none, is_some}
use Rattle.csv.specs.Records.{field_at}
use Rattle.sect_tables.specs.Headers.{difference_from}
use Rattle.std.specs.Str.{bytes_eq}

-- the field at a place is the first of those from there on
drop_field : (fields : List (List ℕ)) (place : ℕ) (field : List ℕ) → field_at fields place ≡ Some field → drop place fields ≡ field ∷ drop (suc place) fields
unfolding field_at
drop_field [] place field at = absurd cc
drop_field (f ∷ fs) zero field at = cc
drop_field (f ∷ fs) (suc place) field at = drop_field fs place field at

-- behind the last field there is none
drop_none : (fields : List (List ℕ)) (place : ℕ) → field_at fields place ≡ None → drop place fields ≡ []
unfolding field_at
drop_none [] zero at = refl
drop_none [] (suc place) at = refl
drop_none (f ∷ fs) zero at = absurd cc
drop_none (f ∷ fs) (suc place) at = drop_none fs place at

-- the texts of names
abbrev pub texts : List (Bor (List ℕ)) → List (List ℕ)
texts names = map (λ name. name.now) names

-- the first field in which a row differs from names, of those from this number
abbrev pub other_from : ℕ → List (List ℕ) → List (Bor (List ℕ)) → Option ℕ
other_from number fields names = difference_from number (drop (number - 1) fields) (texts names)

-- neither a field nor a name is left
pub none_left : (number : ℕ) (fields : List (List ℕ)) (names : List (Bor (List ℕ))) → field_at fields (number - 1) ≡ None → length names < 1
    → None ≡ other_from number fields names
none_left number fields [] at few = ap (λ rest. difference_from number rest []) (sym (drop_none fields (number - 1) at))
none_left number fields (name ∷ names) at few = absurd (omega arith)

-- a field is left, and no name
pub field_left : (number : ℕ) (fields : List (List ℕ)) (names : List (Bor (List ℕ))) (field : List ℕ) → field_at fields (number - 1) ≡ Some field → length names < 1
    → Some number ≡ other_from number fields names
field_left number fields [] field at few = ap (λ rest. difference_from number rest []) (sym (drop_field fields (number - 1) field at))
field_left number fields (name ∷ names) field at few = absurd (omega arith)

-- a name is left, and no field
pub name_left : (number : ℕ) (fields : List (List ℕ)) (names : List (Bor (List ℕ))) → field_at fields (number - 1) ≡ None → 1 ≤ length names
    → Some number ≡ other_from number fields names
name_left number fields [] at some = absurd (omega arith)
name_left number fields (name ∷ names) at some = ap (λ rest. difference_from number rest (texts (name ∷ names))) (sym (drop_none fields (number - 1) at))

-- the field differs from the name
pub other_here : (number : ℕ) (fields : List (List ℕ)) (names : List (Bor (List ℕ))) (field : List ℕ) (none : Bor (List ℕ)) → field_at fields (number - 1) ≡ Some field
    → 1 ≤ length names → bytes_eq field (get_or names 0 none).now ≡ false → Some number ≡ other_from number fields names
other_here number fields [] field none at some other = absurd (omega arith)
other_here number fields (name ∷ names) field none at some other =
    ap (λ test. cond test (difference_from (number + 1) (drop (suc (number - 1)) fields) (texts names)) (Some number)) (sym other)
    ∙ ap (λ rest. difference_from number rest (texts (name ∷ names))) (sym (drop_field fields (number - 1) field at))

-- the field is the name
pub same_here : (number : ℕ) (fields : List (List ℕ)) (names : List (Bor (List ℕ))) (field : List ℕ) (none : Bor (List ℕ)) (found : Option ℕ) → 1 ≤ number
    → field_at fields (number - 1) ≡ Some field → 1 ≤ length names → bytes_eq field (get_or names 0 none).now ≡ true
    → found ≡ other_from (number + 1) fields (take (length names - 1) (drop 1 names)) → found ≡ other_from number fields names
same_here number fields [] field none found one at some same next = absurd (omega arith)
same_here number fields (name ∷ names) field none found one at some same next =
    let place : number + 1 - 1 ≡ suc (number - 1) = omega arith in
    next
    ∙ ap (λ k. difference_from (number + 1) (drop k fields) (texts (take (length (name ∷ names) - 1) (drop 1 (name ∷ names))))) place
    ∙ ap (λ n. difference_from (number + 1) (drop (suc (number - 1)) fields) (texts n)) (take_rest (name ∷ names) 1)
    ∙ ap (λ test. cond test (difference_from (number + 1) (drop (suc (number - 1)) fields) (texts names)) (Some number)) (sym same)
    ∙ ap (λ rest. difference_from number rest (texts (name ∷ names))) (sym (drop_field fields (number - 1) field at))

-- there is nothing, where the test for something fails
pub by_not : (test : Bool) (found : Option ℕ) → is_some found ≡ not test → test ≡ is_none found
by_not true None told = refl
by_not true (Some x) told = absurd cc
by_not false None told = absurd cc
by_not false (Some x) told = refl
