-- Results that all came, as a list of what each is.
use Rattle.std.proofs.Common.{◌≡◌, List, [], ◌∷◌, refl, ap, Ok, IfOk, Result, map, subst, ◌∙◌}
use Rattle.std.specs.List.{AllZip}

-- where each item's result is told when it is Ok, and all are, what they show is what the items ask
pub all_came : {A V B : Type 0} (E : Type 0) (ask : A → B) (show : V → B) (items : List A) (results : List (Result V E)) (found : List V)
    → results ≡ map Ok found
    → AllZip (λ a (r : Result V E). IfOk r (λ v. show v ≡ ask a)) items results → map show found ≡ map ask items
all_came E ask show items results found are h = came ask show items found (subst (AllZip (λ a (r : Result _ E). IfOk r (λ v. show v ≡ ask a)) items) are h)
  where
    came : {A V B : Type 0} (ask : A → B) (show : V → B) (items : List A) (found : List V)
        → AllZip (λ a (r : Result V E). IfOk r (λ v. show v ≡ ask a)) items (map Ok found) → map show found ≡ map ask items
    came ask show [] [] h = refl
    came ask show [] (v ∷ vs) h = absurd h
    came ask show (a ∷ items) [] h = absurd h
    came ask show (a ∷ items) (v ∷ vs) h = λ i. (h.0 i) ∷ (came ask show items vs h.1 i)

-- a list is what shows each of its elements as itself
pub each-itself : {X : Type 0} (xs ys : List X) → xs ≡ ys → xs ≡ map (λ x. x) ys
each-itself xs ys e = e ∙ itself ys
  where
    itself : {X : Type 0} (ys : List X) → ys ≡ map (λ x. x) ys
    itself [] = refl
    itself (y ∷ ys) = ap (λ zs. y ∷ zs) (itself ys)

-- what holds of a result that is there
pub got : {T E F : Type 0} (P : Result T E → Type 0) (r : Result (Result T E) F) (x : Result T E) (y : T) → r ≡ Ok x → x ≡ Ok y → IfOk r P → P (Ok y)
got P r x y e f h = subst P f (subst (λ r. IfOk r P) e h)
