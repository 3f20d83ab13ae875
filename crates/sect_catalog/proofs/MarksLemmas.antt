-- The marks of cancelled sections, as one comes and as the last one goes.
use Rattle.std.specs.Prelude.{◌≡◌, ℕ, Bool, true, false, not, ◌==◌, ◌||◌, cond, List, [], ◌∷◌, ◌++◌, Option, Some, None, refl}
use Rattle.std.specs.List.{list_any}
use Rattle.std.specs.Option.{is_some}
use Rattle.std.proofs.Common.{sym, ◌∙◌, ap, append_assoc}
use Rattle.std.proofs.lemmas.Bool.{eqb-true}
use Rattle.std.proofs.lemmas.List.{append-nil}
use Rattle.sect_base.specs.declared.table.Table.{Table}
use Rattle.sect_base.specs.Table.{value_at, Puts, Stays, Removes}
use Rattle.sect_base.specs.declared.ids.SectionId.{SectionId}
use Rattle.sect_catalog.specs.Rising.{are_apart_after, Marks}
use Rattle.sect_catalog.proofs.AppendLemmas.{both, both-left, both-right}
use Rattle.sect_catalog.proofs.SearchLemmas.{any-append}

not-true : (b : Bool) → not b ≡ true → b ≡ false
not-true true h = sym h
not-true false h = refl

apart-more : (before ss : List SectionId) (id : SectionId) → are_apart_after before ss ≡ true → list_any (λ t. t.0 == id.0) (before ++ ss) ≡ false → are_apart_after before (ss ++ id ∷ []) ≡ true
apart-more before [] id h fresh = both (not (list_any (λ t. t.0 == id.0) before)) true (ap not (ap (list_any (λ t. t.0 == id.0)) (sym (append-nil before)) ∙ fresh)) refl
apart-more before (s ∷ ss) id h fresh =
    both (not (list_any (λ t. t.0 == s.0) before)) (are_apart_after (before ++ s ∷ []) (ss ++ id ∷ [])) (both-left (not (list_any (λ t. t.0 == s.0) before)) (are_apart_after (before ++ s ∷ []) ss) h)
    (apart-more (before ++ s ∷ []) ss id (both-right (not (list_any (λ t. t.0 == s.0) before)) (are_apart_after (before ++ s ∷ []) ss) h)
    (ap (list_any (λ t. t.0 == id.0)) (append_assoc before (s ∷ []) ss) ∙ fresh))

apart-less : (before ss : List SectionId) (id : SectionId) → are_apart_after before (ss ++ id ∷ []) ≡ true → (are_apart_after before ss ≡ true) × (list_any (λ t. t.0 == id.0) (before ++ ss) ≡ false)
apart-less before [] id h = (refl, ap (list_any (λ t. t.0 == id.0)) (append-nil before) ∙ not-true (list_any (λ t. t.0 == id.0) before) (both-left (not (list_any (λ t. t.0 == id.0) before)) true h))
apart-less before (s ∷ ss) id h =
    let rest : (are_apart_after (before ++ s ∷ []) ss ≡ true) × (list_any (λ t. t.0 == id.0) ((before ++ s ∷ []) ++ ss) ≡ false) =
    apart-less (before ++ s ∷ []) ss id (both-right (not (list_any (λ t. t.0 == s.0) before)) (are_apart_after (before ++ s ∷ []) (ss ++ id ∷ [])) h)
    in (
      both (not (list_any (λ t. t.0 == s.0) before)) (are_apart_after (before ++ s ∷ []) ss) (both-left (not (list_any (λ t. t.0 == s.0) before)) (are_apart_after (before ++ s ∷ []) (ss ++ id ∷ [])) h) rest.0,
      ap (list_any (λ t. t.0 == id.0)) (sym (append_assoc before (s ∷ []) ss)) ∙ rest.1,
    )

is-put : (b : Bool) (o : Option (Unit {0})) → is_some (cond b (Some tt) o) ≡ cond b true (is_some o)
is-put true o = refl
is-put false o = refl

is-removed : (b : Bool) (o : Option (Unit {0})) → is_some (cond b None o) ≡ cond b false (is_some o)
is-removed true o = refl
is-removed false o = refl

pub marks-stay : (ss : List SectionId) (old new : Table (Unit {0})) → Marks ss old → Stays old new → Marks ss new
marks-stay ss old new k stays = record { apart = k.apart; has = λ q. ap is_some (stays q) ∙ k.has q }

pub marks-more : (ss : List SectionId) (id : SectionId) (old new : Table (Unit {0})) → Marks ss old → list_any (λ s. s.0 == id.0) ss ≡ false
    → Puts old new id.0 tt → Marks (ss ++ id ∷ []) new
marks-more ss id old new k fresh after = record {
  apart = apart-more [] ss id k.apart fresh;
  has = λ q. ap is_some (after q) ∙ is-put (id.0 == q) (value_at old q) ∙ ap (cond (id.0 == q) true) (k.has q) ∙ by_test (id.0 == q) (list_any (λ s. s.0 == q) ss) ∙ sym (any-append (λ s. s.0 == q) ss (id ∷ []));
}
  where
    by_test : (b a : Bool) → cond b true a ≡ a || (b || false)
    by_test true true = refl
    by_test true false = refl
    by_test false true = refl
    by_test false false = refl

pub marks-less : (ss : List SectionId) (id : SectionId) (old new : Table (Unit {0})) → Marks (ss ++ id ∷ []) old
    → Removes old new id.0 → Marks ss new
marks-less ss id old new k after =
    let apart : (are_apart_after [] ss ≡ true) × (list_any (λ t. t.0 == id.0) ss ≡ false) = apart-less [] ss id k.apart in
    record {
      apart = apart.0;
      has = λ q.
          ap is_some (after q) ∙ is-removed (id.0 == q) (value_at old q) ∙ ap (cond (id.0 == q) false) (k.has q) ∙ ap (cond (id.0 == q) false) (any-append (λ s. s.0 == q) ss (id ∷ []))
          ∙ by_test q (id.0 == q) refl (list_any (λ s. s.0 == q) ss) refl apart.1;
    }
  where
    by_test : (q : ℕ) (b : Bool) → id.0 == q ≡ b → (a : Bool) → list_any (λ s. s.0 == q) ss ≡ a → list_any (λ t. t.0 == id.0) ss ≡ false → cond b false (a || (b || false)) ≡ a
    by_test q true e a is fresh = sym fresh ∙ ap (λ n. list_any (λ (s : SectionId). s.0 == n) ss) (eqb-true id.0 q e) ∙ is
    by_test q false e true is fresh = refl
    by_test q false e false is fresh = refl
