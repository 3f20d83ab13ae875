-- Lists of whose elements each has a text.
use Rattle.std.specs.Prelude.{◌≡◌, ℕ, Bool, true, false, ◌==◌, nat_le, cond, List, [], ◌∷◌, ◌++◌, map, filter, find, flat_map, Option, Some, None, refl}
use Rattle.std.specs.Option.{option_map, option_or}
use Rattle.std.specs.Bool.{then_some}
use Rattle.std.proofs.Common.{subst, inl, inr}
use Rattle.std.proofs.lemmas.Bool.{eqb-true}
use Rattle.sect_model.specs.World.{put_behind}
use Rattle.sect_model.proofs.Members.{Member, member-filter, find-member}
use Rattle.sect_wire.specs.Fits.{Fits32, FitsList, FitsOptional}

pub each-at : {X : Type 0} (P : X → Type 0) (xs : List X) → FitsList P xs → (x : X) → Member xs x → P x
each-at P [] h x m = absurd m
each-at P (y ∷ ys) h x (inl e) = subst P e h.0
each-at P (y ∷ ys) h x (inr m) = each-at P ys h.1 x m

pub each-of : {X : Type 0} (P : X → Type 0) (xs : List X) → ((x : X) → Member xs x → P x) → FitsList P xs
each-of P [] h = tt
each-of P (y ∷ ys) h = (h y (inl refl), each-of P ys (λ x m. h x (inr m)))

pub each-more : {X : Type 0} (P Q : X → Type 0) (xs : List X) → ((x : X) → P x → Q x) → FitsList P xs → FitsList Q xs
each-more P Q [] f h = tt
each-more P Q (x ∷ xs) f h = (f x h.0, each-more P Q xs f h.1)

pub each-append : {X : Type 0} (P : X → Type 0) (xs ys : List X) → FitsList P xs → FitsList P ys → FitsList P (xs ++ ys)
each-append P [] ys h k = k
each-append P (x ∷ xs) ys h k = (h.0, each-append P xs ys h.1 k)

-- one element more
pub each-one : {X : Type 0} (P : X → Type 0) (xs : List X) (x : X) → FitsList P xs → P x → FitsList P (xs ++ x ∷ [])
each-one P xs x h one = each-append P xs (x ∷ []) h (one, tt)

pub each-filter : {X : Type 0} (P : X → Type 0) (test : X → Bool) (xs : List X) → FitsList P xs → FitsList P (filter test xs)
each-filter P test xs h = each-of P (filter test xs) (λ x m. each-at P xs h x (member-filter test xs x m).0)

pub each-map : {X Y : Type 0} (P : X → Type 0) (Q : Y → Type 0) (f : X → Y) (xs : List X) → ((x : X) → P x → Q (f x)) → FitsList P xs → FitsList Q (map f xs)
each-map P Q f [] g h = tt
each-map P Q f (x ∷ xs) g h = (g x h.0, each-map P Q f xs g h.1)

pub each-flat_map : {X Y : Type 0} (P : X → Type 0) (Q : Y → Type 0) (f : X → List Y) (xs : List X) → ((x : X) → P x → FitsList Q (f x)) → FitsList P xs → FitsList Q (flat_map f xs)
each-flat_map P Q f [] g h = tt
each-flat_map P Q f (x ∷ xs) g h = each-append Q (f x) (flat_map f xs) (g x h.0) (each-flat_map P Q f xs g h.1)

pub each-put : {X : Type 0} (P : X → Type 0) (key : X → ℕ) (x : X) (xs : List X) → P x → FitsList P xs → FitsList P (put_behind key x xs)
each-put P key x [] one h = (one, tt)
each-put P key x (y ∷ ys) one h = by_test (nat_le (key y) (key x)) (each-put P key x ys one h.1)
  where
    by_test : (b : Bool) → FitsList P (put_behind key x ys) → FitsList P (cond b (y ∷ put_behind key x ys) (x ∷ y ∷ ys))
    by_test true ih = (h.0, ih)
    by_test false ih = (one, h)

pub each-found : {X : Type 0} (P : X → Type 0) (test : X → Bool) (xs : List X) (x : X) → FitsList P xs → find test xs ≡ Some x → P x
each-found P test xs x h e = each-at P xs h x (find-member test xs x e).0

-- a number is one of a size where a test says that it is another one's
pub same-size : (a b : ℕ) → a == b ≡ true → Fits32 a → Fits32 b
same-size a b e h = subst (λ n. Fits32 n) (eqb-true a b e) h

-- ---- what may be missing

pub fits-found : {X : Type 0} (P : X → Type 0) (test : X → Bool) (xs : List X) → FitsList P xs → FitsOptional P (find test xs)
fits-found {X = X} P test xs h = by_found (find test xs) refl
  where
    by_found : (o : Option X) → find test xs ≡ o → FitsOptional P o
    by_found None e = tt
    by_found (Some x) e = each-found P test xs x h e

pub fits-map : {X Y : Type 0} (P : X → Type 0) (Q : Y → Type 0) (f : X → Y) (o : Option X) → ((x : X) → P x → Q (f x)) → FitsOptional P o → FitsOptional Q (option_map f o)
fits-map P Q f None g h = tt
fits-map P Q f (Some x) g h = g x h

pub fits-or : {X : Type 0} (P : X → Type 0) (a b : Option X) → FitsOptional P a → FitsOptional P b → FitsOptional P (option_or a b)
fits-or P None b h k = k
fits-or P (Some x) b h k = h

pub fits-then : {X : Type 0} (P : X → Type 0) (b : Bool) (x : X) → P x → FitsOptional P (then_some b x)
fits-then P true x h = h
fits-then P false x h = tt

pub fits-some : {X : Type 0} (P : X → Type 0) (o : Option X) (x : X) → o ≡ Some x → FitsOptional P o → P x
fits-some P None x e h = cc
fits-some P (Some y) x e h = let same : y ≡ x = cc in subst P same h
