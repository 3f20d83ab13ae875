-- Sums over reservations and configurations, one more at a time.
use Rattle.std.specs.Prelude.{◌≡◌, ℕ, ◌+◌, Bool, true, false, ◌&&◌, ◌||◌, List, [], ◌∷◌, ◌++◌, cond, filter, Option, Some, None, refl}
use Rattle.std.specs.List.{list_any}
use Rattle.std.proofs.Common.{sym, ◌∙◌, ap, arith, take, drop, get_or, length, suc, ◌<◌, drop-cons}
use Rattle.std.proofs.lemmas.List.{take_more, take-append-drop}
use Rattle.sect_catalog.specs.Catalogue.{places, add_places, places_of_all}
use Rattle.sect_catalog.specs.declared.row.ConfigRow.{ConfigRow}

add-none : (a : Option ℕ) → add_places a None ≡ None
add-none None = refl
add-none (Some n) = refl

add-assoc : (a b c : Option ℕ) → add_places a (add_places b c) ≡ add_places (add_places a b) c
add-assoc None b c = refl
add-assoc (Some m) None c = refl
add-assoc (Some m) (Some n) None = refl
add-assoc (Some m) (Some n) (Some k) = ap Some (omega arith)

pub places-append : (gs hs : List ConfigRow) → places_of_all (gs ++ hs) ≡ add_places (places_of_all gs) (places_of_all hs)
places-append [] hs = zero-first (places_of_all hs)
  where
    zero-first : (a : Option ℕ) → a ≡ add_places (Some 0) a
    zero-first None = refl
    zero-first (Some n) = ap Some (omega arith)
places-append (g ∷ gs) hs = ap (add_places (places g.limit)) (places-append gs hs) ∙ add-assoc (places g.limit) (places_of_all gs) (places_of_all hs)

-- one of the elements that pass the one test passes the other, where one passes both
pub any-filter : {X : Type 0} (p q : X → Bool) (xs : List X) → list_any q (filter p xs) ≡ list_any (λ x. p x && q x) xs
any-filter p q [] = refl
any-filter p q (x ∷ xs) = by_test (p x) (any-filter p q xs)
  where
    by_test : (b : Bool) → list_any q (filter p xs) ≡ list_any (λ x. p x && q x) xs → list_any q (cond b (x ∷ filter p xs) (filter p xs)) ≡ (b && q x) || list_any (λ x. p x && q x) xs
    by_test true ih = ap (λ c. q x || c) ih
    by_test false ih = ih

add-some : (a : Option ℕ) (m n : ℕ) → a ≡ Some m → add_places a (Some n) ≡ Some (m + n)
add-some None m n h = cc
add-some (Some k) m n h = cc

one : (l : Option ℕ) → add_places l (Some 0) ≡ l
one None = refl
one (Some n) = ap Some (omega arith)

-- one configuration more
pub places-more : (gs : List ConfigRow) (i : ℕ) (g : ConfigRow) (m n : ℕ) → i < length gs → g ≡ get_or gs i g → places_of_all (take i gs) ≡ Some m → places g.limit ≡ Some n
    → places_of_all (take (i + 1) gs) ≡ Some (m + n)
places-more gs i g m n h e t l =
    ap places_of_all (take_more gs i g h ∙ ap (λ x. take i gs ++ x ∷ []) (sym e))
    ∙ places-append (take i gs) (g ∷ [])
    ∙ ap (λ a. add_places (places_of_all (take i gs)) a) (one (places g.limit) ∙ l)
    ∙ add-some (places_of_all (take i gs)) m n t

-- a configuration without a limit
pub places-none : (gs : List ConfigRow) (i : ℕ) (g : ConfigRow) → i < length gs → g ≡ get_or gs i g → places g.limit ≡ None → places_of_all gs ≡ None
places-none gs i g h e l =
    ap places_of_all (sym (take-append-drop i gs))
    ∙ places-append (take i gs) (drop i gs)
    ∙ ap (λ a. add_places (places_of_all (take i gs)) a) (ap places_of_all (drop-cons gs i g h) ∙ ap (λ x. add_places (places x.limit) (places_of_all (drop (suc i) gs))) (sym e) ∙ ap (λ a. add_places a (places_of_all (drop (suc i) gs))) l)
    ∙ add-none (places_of_all (take i gs))
