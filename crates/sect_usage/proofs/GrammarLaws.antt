-- The laws of the grammar, by the definitions.
use Rattle.std.proofs.Common.{◌≡◌, ◌==◌, ◌<◌, ◌+◌, ℕ, Bool, true, false, List, [], ◌∷◌, ◌++◌, None, Some, codes, length, drop, refl, ap, sym, ◌∙◌, append_assoc, length-append, arith}
use Rattle.std.specs.List.{position_or_len}
use Rattle.std.proofs.lemmas.Bool.Decides.{nat_tests}
use Rattle.std.proofs.lemmas.Grind.{common_steps}
use Rattle.std.proofs.lemmas.List.{get_or_append_left, get_or_at, take_at, drop_at, length_push}
use Rattle.std.proofs.lemmas.List.Sums.{fails_before_first, position_or_len_is}
use Rattle.sect_catalog.proofs.RisingLemmas.{no_place}
use Rattle.sect_usage.specs.declared.verb.Verb.{Verb}
use Rattle.sect_usage.specs.declared.verb.Verb.TheVariants as verbs
use Rattle.sect_usage.specs.Grammar.{asked_for, takes, words_of, verb_of, table_of, query_by}
use Rattle.sect_usage.specs.Items.{Item, equals_at, items_of, option_cut, option_with, positionals, value_of, whole}
use Rattle.sect_usage.specs.Laws.{AnyOrder, OneItem, Worked}

pub worked : Worked
unfolding words_of verb_of table_of query_by asked_for takes
worked = record { run = refl; kept = refl; twice = refl; extra = refl; help = refl; export = refl; again = refl; empty = refl; unmet = refl; dash = refl; portless = refl; nobody = refl; equals = refl }

-- the first `=` stands behind a name without one
equals_behind : (name value : List ℕ) → equals_at name ≡ None → position_or_len (λ byte. byte == 61) (name ++ 61 ∷ value) ≡ length name
equals_behind name value none =
    let all = no_place (λ byte. byte == 61) name none in
    position_or_len_is (λ byte. byte == 61) (name ++ 61 ∷ value) (length name) 0 (grind (arith, common_steps))
    (λ k lt. let fails = fails_before_first (λ byte. byte == 61) name k 0 (omega (arith, lt, all)) in rw get_or_append_left (grind (arith, nat_tests)))
    (λ _. rw (get_or_at name 61 value 0 (length name) refl) refl)

-- so that it is cut there
cut_behind : (name value : List ℕ) → equals_at name ≡ None → option_cut (name ++ 61 ∷ value) (equals_at (name ++ 61 ∷ value)) ≡ whole (option_with name value)
cut_behind name value none =
    let at = equals_behind name value none in
    let long : length name < length (name ++ 61 ∷ value) = omega (arith, length-append name (61 ∷ value)) in
    let found : equals_at (name ++ 61 ∷ value) ≡ Some (length name) = rw at grind (arith, nat_tests) in
    let front = take_at name (61 ∷ value) (length name) refl in
    let rest = ap (drop (length name + 1)) (sym (append_assoc name (61 ∷ []) value)) ∙ drop_at (name ++ 61 ∷ []) value (length name + 1) (length_push name 61) in
    ap (option_cut (name ++ 61 ∷ value)) found ∙ ap (λ (n : List ℕ). whole (option_with n (drop (length name + 1) (name ++ 61 ∷ value)))) front ∙ ap (λ (v : List ℕ). whole (option_with name v)) rest

pub one_item : OneItem
one_item [] value words some h plain = absurd (cc)
one_item (n ∷ name) [] words some h plain = absurd (cc)
one_item (n ∷ name) (b ∷ bs) words some h plain = by (b == 45) refl
  where
    by : (test : Bool) → (b == 45) ≡ test → items_of ((45 ∷ (45 ∷ ((n ∷ name) ++ 61 ∷ (b ∷ bs)))) ∷ words) ≡ items_of ((45 ∷ (45 ∷ (n ∷ name))) ∷ ((b ∷ bs) ∷ words))
    by true e = absurd (let no : false ≡ true = rw e at plain in cc)
    by false e = rw (cut_behind (n ∷ name) (b ∷ bs) h, h, e) refl

same_for : (verb : Verb) (a b : List Item) → positionals a ≡ positionals b → ((name : List ℕ) → value_of name a ≡ value_of name b) → asked_for verb a ≡ asked_for verb b
unfolding asked_for
same_for verbs.Run a b p v = rw p refl
same_for verbs.Serve a b p v = rw (p, v (codes "port"), v (codes "workers"), v (codes "sessions")) refl
same_for verbs.Make a b p v = rw p refl
same_for verbs.Audit a b p v = rw p refl
same_for verbs.Report a b p v = rw p refl
same_for verbs.Import a b p v = rw (p, v (codes "first"), v (codes "term")) refl
same_for verbs.Export a b p v = rw p refl
same_for verbs.Plan a b p v = rw (p, v (codes "budget")) refl
same_for verbs.Survey a b p v = rw p refl

pub any_order : AnyOrder
any_order verb a b ha hb p v = rw (ha, hb, v (codes "db"), v (codes "journal"), same_for verb a b p v) refl
