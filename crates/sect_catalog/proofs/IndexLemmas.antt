-- What the index tells after a note, and after some rows are forgotten.
use Rattle.std.specs.Prelude.{◌≡◌, ℕ, ◌+◌, ◌<◌, Bool, true, false, ◌==◌, ◌&&◌, cond, List, [], ◌∷◌, ◌++◌, length, Option, Some, None, refl}
use Rattle.std.specs.Option.{option_or, is_some}
use Rattle.std.proofs.Common.{sym, ◌∙◌, ap, arith, take, get_or}
use Rattle.std.proofs.lemmas.Bool.{eqb-true}
use Rattle.std.proofs.lemmas.Bool.Decides.{nat_tests}
use Rattle.sect_catalog.specs.declared.place.Place.{Place}
use Rattle.sect_catalog.specs.Fault.{same_kind}
use Rattle.sect_catalog.specs.declared.index.Index.{Index}
use Rattle.sect_catalog.specs.Place.{Entry, place_of, place_in, Notes}
use Rattle.sect_catalog.proofs.TimesLemmas.{take_more}

both-left : (a b : Bool) → a && b ≡ true → a ≡ true
both-left true b h = refl
both-left false b h = h

both-right : (a b : Bool) → a && b ≡ true → b ≡ true
both-right true b h = h
both-right false b h = cc

-- the same kind and number is the same id
pub one_id : (a b : ℕ × ℕ) → same_kind a b ≡ true → a ≡ b
one_id a b h = λ i. (eqb-true a.0 b.0 (both-left (a.0 == b.0) (a.1 == b.1) h) i, eqb-true a.1 b.1 (both-right (a.0 == b.0) (a.1 == b.1) h) i)

same-swap : (a b : ℕ × ℕ) → same_kind a b ≡ same_kind b a
same-swap a b = λ i. swapped a.0 b.0 i && swapped a.1 b.1 i
  where
    swapped : (m n : ℕ) → (m == n) ≡ (n == m)
    swapped m n = grind (arith, nat_tests)

or-none : {X : Type 0} (o : Option X) → o ≡ option_or o None
or-none None = refl
or-none (Some x) = refl

or-or : {X : Type 0} (a b c : Option X) → option_or (option_or a b) c ≡ option_or a (option_or b c)
or-or None b c = refl
or-or (Some x) b c = refl

pub place-append : (es fs : List Entry) (id : ℕ × ℕ) → place_in (es ++ fs) id ≡ option_or (place_in es id) (place_in fs id)
place-append [] fs id = refl
place-append (e ∷ es) fs id = by_test (place-append es fs id) (same_kind id e.0)
  where
    by_test : place_in (es ++ fs) id ≡ option_or (place_in es id) (place_in fs id) → (b : Bool)
        → cond b (Some e.1) (place_in (es ++ fs) id) ≡ option_or (cond b (Some e.1) (place_in es id)) (place_in fs id)
    by_test ih true = refl
    by_test ih false = ih

pub notes-none : (m : Index) → Notes m m []
notes-none m id = or-none (place_of m id)

-- one entry more
pub notes-more : (a b c : Index) (es : List Entry) (i : ℕ) (e : Entry) → i < length es → e ≡ get_or es i e
    → Notes a b (take i es) → Notes b c (e ∷ []) → Notes a c (take (i + 1) es)
notes-more a b c es i e h is first then id =
    then id ∙ ap (λ o. option_or o (place_in (e ∷ []) id)) (first id) ∙ or-or (place_of a id) (place_in (take i es) id) (place_in (e ∷ []) id)
    ∙ ap (option_or (place_of a id)) (sym (place-append (take i es) (e ∷ []) id) ∙ ap (λ fs. place_in fs id) (sym (take_more es i e h is)))

-- an id that has a place keeps it
pub notes-known : (m : Index) (key : ℕ × ℕ) (at : Place) → is_some (place_of m key) ≡ true → Notes m m ((key, at) ∷ [])
notes-known m key at h id = by_test (same_kind id key) refl
  where
    kept : (o : Option Place) → is_some o ≡ true → o ≡ option_or o (Some at)
    kept None h = cc
    kept (Some x) h = refl

    by_test : (b : Bool) → same_kind id key ≡ b → place_of m id ≡ option_or (place_of m id) (cond b (Some at) None)
    by_test true t = kept (place_of m id) (ap (λ k. is_some (place_of m k)) (one_id id key t) ∙ h)
    by_test false t = or-none (place_of m id)

-- an id that has none gets it
pub notes-new : (m n : Index) (key : ℕ × ℕ) (at : Place) → is_some (place_of m key) ≡ false → ((id : ℕ × ℕ) → place_of n id ≡ cond (same_kind key id) (Some at) (place_of m id))
    → Notes m n ((key, at) ∷ [])
notes-new m n key at h after id = after id ∙ ap (λ t. cond t (Some at) (place_of m id)) (same-swap key id) ∙ by_test (same_kind id key) refl
  where
    put : (o : Option Place) → is_some o ≡ false → Some at ≡ option_or o (Some at)
    put None h = refl
    put (Some x) h = cc

    by_test : (b : Bool) → same_kind id key ≡ b → cond b (Some at) (place_of m id) ≡ option_or (place_of m id) (cond b (Some at) None)
    by_test true t = put (place_of m id) (ap (λ k. is_some (place_of m k)) (one_id id key t) ∙ h)
    by_test false t = or-none (place_of m id)
