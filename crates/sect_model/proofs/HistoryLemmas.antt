-- Requests whose id is known make no entry.
use Rattle.std.specs.Prelude.{◌≡◌, Bool, true, false, not, ◌||◌, cond, List, [], ◌∷◌, ◌++◌, refl}
use Rattle.std.specs.List.{list_any}
use Rattle.std.proofs.Common.{◌∙◌, ap}
use Rattle.std.proofs.lemmas.List.Folds.{list_any-append}
use Rattle.sect_model.specs.History.{Entry, entry_of, acts, grown, ids_differ, same_id}
use Rattle.sect_model.specs.Laws.{IdsActOnce}
use Rattle.sect_model.proofs.Members.{both, both-left, both-right, not_true, neither-left, neither-right}

neither : (a b : Bool) → not a ≡ true → b ≡ false → not (a || (b || false)) ≡ true
neither true b h k = h
neither false true h k = ap not k
neither false false h k = refl

one-more : (history : List Entry) (e : Entry) → ids_differ history ≡ true → list_any (λ f. same_id f.id e.id) history ≡ false → ids_differ (history ++ e ∷ []) ≡ true
one-more [] e h new = refl
one-more (x ∷ xs) e h new =
    both (not (list_any (λ f. same_id x.id f.id) (xs ++ e ∷ []))) (ids_differ (xs ++ e ∷ []))
    (ap not (list_any-append (λ f. same_id x.id f.id) xs (e ∷ []))
    ∙ neither (list_any (λ f. same_id x.id f.id) xs) (same_id x.id e.id) (both-left _ (ids_differ xs) h) (neither-left (same_id x.id e.id) (list_any (λ f. same_id f.id e.id) xs) new))
    (one-more xs e (both-right (not (list_any (λ f. same_id x.id f.id) xs)) _ h) (neither-right (same_id x.id e.id) (list_any (λ f. same_id f.id e.id) xs) new))

pub ids-act-once : IdsActOnce
ids-act-once history [] h = h
ids-act-once history (d ∷ ds) h = by_test (ids-act-once (history ++ entry_of d ∷ []) ds) (ids-act-once history ds) (acts history d) refl
  where
    by_test : (ids_differ (history ++ entry_of d ∷ []) ≡ true → ids_differ (grown (history ++ entry_of d ∷ []) ds) ≡ true)
        → (ids_differ history ≡ true → ids_differ (grown history ds) ≡ true)
        → (b : Bool) → acts history d ≡ b → ids_differ (cond b (grown (history ++ entry_of d ∷ []) ds) (grown history ds)) ≡ true
    by_test more same true e = more (one-more history (entry_of d) h (not_true _ e))
    by_test more same false e = same h
