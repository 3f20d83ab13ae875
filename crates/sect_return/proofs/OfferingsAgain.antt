-- Checked rows are checked in order of id too, and their commands lead to them.
use Rattle.std.specs.Prelude.{◌≡◌, ℕ, ◌+◌, ◌≤◌, max, Bool, true, false, not, ◌&&◌, ◌||◌, ◌==◌, nat_lt, cond, List, [], ◌∷◌, ◌++◌, length, map, find, flat_map, Option, Some, None, refl}
use Rattle.std.specs.Bool.{then_some}
use Rattle.std.specs.List.{list_all, list_any}
use Rattle.std.specs.Option.{is_none, option_map, option_or}
use Rattle.std.proofs.Common.{sym, ◌∙◌, ap, subst, arith, inl, inr, ⊎_elim, append-nil, append_assoc, length-append}
use Rattle.std.proofs.lemmas.Bool.Decides.{nat_tests}
use Rattle.std.proofs.lemmas.List.Concat.{flat_map-append}
use Rattle.sect_base.specs.Capped.{capped}
use Rattle.sect_catalog.specs.Catalogue.{all_sections, sections_in}
use Rattle.sect_catalog.specs.Fault.{above, are_checked, are_checked_after, bad_parent, fault_of, is_empty, known_id, row_ids, same_kind, stands_twice}
use Rattle.sect_catalog.specs.declared.row.CatalogFault.{CatalogFault}
use Rattle.sect_catalog.specs.declared.row.CatalogFault.TheVariants.{BadParent, Known, NoConfig, NoCourse, NoSection, NoSubpart, TooMany}
use Rattle.sect_command.specs.declared.command.Command.TheVariants as commands
use Rattle.sect_command.specs.declared.reply.Refusal.TheVariants.{Row}
use Rattle.sect_command.specs.declared.reply.RowFault.TheVariants.{Offering as offering_fault}
use Rattle.sect_model.proofs.CheckedLemmas.{checked-each, faultless, passed, row-by-row, sections_of}
use Rattle.sect_model.proofs.DifferLemmas.{eqb-swap}
use Rattle.sect_model.proofs.ListLemmas.{all-sorted}
use Rattle.sect_model.proofs.Members
use Rattle.sect_model.proofs.Members.{Member, all-at, all-of, both, both-left, both-right, if_false, not_both, not_true, same_test}
use Rattle.sect_model.proofs.OfferingChange.{none-map, none-right}
use Rattle.sect_model.specs.Data.{OfferingRow, SubpartRow}
use Rattle.sect_model.specs.Refusals.{refusal_of}
use Rattle.sect_people.specs.Order.{sorted_by}
use Rattle.sect_return.specs.Again.{registrar}
use Rattle.sect_return.specs.Asked.{asks_offering}
use Rattle.sect_return.proofs.Ids.{fresh}
use Rattle.sect_return.proofs.Runs.{Runs, amends, none_is, quiet, world_with}
use Rattle.sect_return.proofs.Sorted.{each_two, parts_sorted, two_sorted}

-- ---- a row's check behind other rows

-- the first fault, where so many sections stand in other rows
abbrev first_fault : Option ℕ → ℕ → OfferingRow → Option CatalogFault
first_fault known others o =
    let subparts = flat_map (λ g. g.subparts) o.configs in
    option_or (option_map Known known)
    (option_or (then_some (is_empty o.courses) NoCourse)
    (option_or (then_some (is_empty o.configs) NoConfig)
    (option_or (option_map (λ g. NoSubpart g.id.0) (find (λ g. is_empty g.subparts) o.configs))
    (option_or (option_map (λ p. NoSection p.id.0) (find (λ p. is_empty p.sections) subparts))
    (option_or (option_map BadParent (bad_parent o.configs))
    (option_map (λ n. TooMany (capped n))
    (option_or (above 10 (length o.courses ∷ []))
    (option_or (above 10 (length o.configs ∷ []))
    (option_or (above 6 (map (λ g. length g.subparts) o.configs))
    (option_or (above 200 (map (λ p. length p.sections) subparts))
    (option_or (above 8 (map (λ s. length s.meetings) (sections_in subparts)))
    (above 20000 ((others + length (sections_of o)) ∷ [])))))))))))))

-- what stands behind the first of two
behind : {X : Type 0} (a b c : Option X) → (is_none b ≡ true → is_none c ≡ true) → is_none (option_or a b) ≡ true → is_none (option_or a c) ≡ true
behind None b c f h = f h
behind (Some x) b c f h = h

none_first : {X : Type 0} (a b : Option X) → is_none a ≡ true → is_none b ≡ true → is_none (option_or a b) ≡ true
none_first None b h k = k
none_first (Some x) b h k = h

at_most : (n : ℕ) → n ≤ 20000 → nat_lt 20000 n ≡ false
at_most n h = grind (arith, nat_tests, h)

not_above : (n : ℕ) → nat_lt 20000 n ≡ false → n ≤ 20000
not_above n h = grind (arith, nat_tests, h)

-- the row has no other fault where its ids are new and the sections few
no_fault : (known new : Option ℕ) (others fewer : ℕ) (o : OfferingRow) → is_none new ≡ true → fewer + length (sections_of o) ≤ 20000
    → is_none (first_fault known others o) ≡ true → is_none (first_fault new fewer o) ≡ true
no_fault known new others fewer o is_new few h =
    let subparts : List SubpartRow = flat_map (λ g. g.subparts) o.configs in
    none_first (option_map Known new) _ (none-map Known new ∙ is_new)
    (behind (then_some (is_empty o.courses) NoCourse) _ _
    (behind (then_some (is_empty o.configs) NoConfig) _ _
    (behind (option_map (λ g. NoSubpart g.id.0) (find (λ g. is_empty g.subparts) o.configs)) _ _
    (behind (option_map (λ p. NoSection p.id.0) (find (λ p. is_empty p.sections) subparts)) _ _
    (behind (option_map BadParent (bad_parent o.configs)) _ _
    (λ t. none-map (λ n. TooMany (capped n)) _
    ∙ behind (above 10 (length o.courses ∷ [])) _ _
    (behind (above 10 (length o.configs ∷ [])) _ _
    (behind (above 6 (map (λ g. length g.subparts) o.configs)) _ _
    (behind (above 200 (map (λ p. length p.sections) subparts)) _ _
    (behind (above 8 (map (λ s. length s.meetings) (sections_in subparts))) _ _
    (λ u. ap (λ b. is_none (cond b (Some (fewer + length (sections_of o))) None)) (at_most (fewer + length (sections_of o)) few))))))
    (sym (none-map (λ n. TooMany (capped n)) _) ∙ t))))))
    (none-right (option_map Known known) _ h))

-- nothing is found where nothing passes
nothing_found : {X : Type 0} (test : X → Bool) (xs : List X) → ((x : X) → Member xs x → test x ≡ false) → is_none (find test xs) ≡ true
nothing_found test [] h = refl
nothing_found test (x ∷ xs) h = ap (λ b. is_none (cond b (Some x) (find test xs))) (h x (inl refl)) ∙ nothing_found test xs (λ y m. h y (inr m))

-- a row that passed its check behind some rows passes it behind others, where its ids are new and the sections few
passes_behind : (before others : List OfferingRow) (o : OfferingRow) → passed before o ≡ true
    → ((id : ℕ × ℕ) → Member (row_ids o) id → list_any (same_kind id) (flat_map row_ids others) ≡ false)
    → length (all_sections others) + length (sections_of o) ≤ 20000 → passed others o ≡ true
passes_behind before others o h new few =
    no_fault (known_id (record { rows = before; cancelled = [] }) o) (known_id (record { rows = others; cancelled = [] }) o) (length (all_sections before))
    (length (all_sections others)) o
    (none-map (λ (id : ℕ × ℕ). id.1) (find known (row_ids o)) ∙ nothing_found known (row_ids o)
    (λ id m. neither (list_any (same_kind id) (flat_map row_ids others)) (stands_twice (row_ids o) id) (new id m) (fresh before o h id m).1))
    few h
  where
    known : ℕ × ℕ → Bool
    known id = list_any (same_kind id) (flat_map row_ids others) || stands_twice (row_ids o) id

    neither : (a b : Bool) → a ≡ false → b ≡ false → a || b ≡ false
    neither a b p q = λ i. p i || q i

-- ---- rows that have no id in common

-- no id of the later row is one of the earlier
abbrev are_apart : OfferingRow → OfferingRow → Bool
are_apart a b = list_all (λ id. not (list_any (same_kind id) (row_ids a))) (row_ids b)

same_turned : (a b : ℕ × ℕ) → same_kind a b ≡ same_kind b a
same_turned a b = λ i. turned a.0 b.0 i && turned a.1 b.1 i
  where
    turned : (m n : ℕ) → (m == n) ≡ (n == m)
    turned m n = same_test (m == n) (n == m) (eqb-swap m n) (eqb-swap n m)

apart_turned : (a b : OfferingRow) → are_apart a b ≡ true → are_apart b a ≡ true
apart_turned a b h =
    all-of (λ id. not (list_any (same_kind id) (row_ids b))) (row_ids a) (λ id m.
    if_false (list_any (same_kind id) (row_ids b)) (Members.none-of (same_kind id) (row_ids b) (λ j k.
    same_turned id j ∙ Members.none-at (same_kind j) (row_ids a)
    (not_true (list_any (same_kind j) (row_ids a)) (all-at (λ i. not (list_any (same_kind i) (row_ids a))) (row_ids b) h j k)) id m)))

-- a row is apart from each of those behind which it passed
apart_from : (before : List OfferingRow) (o : OfferingRow) → passed before o ≡ true → (a : OfferingRow) → Member before a → are_apart a o ≡ true
apart_from before o h a m =
    all-of (λ id. not (list_any (same_kind id) (row_ids a))) (row_ids o) (λ id i.
    if_false (list_any (same_kind id) (row_ids a)) (Members.none-of (same_kind id) (row_ids a) (λ j k.
    Members.none-at (same_kind id) (flat_map row_ids before) (fresh before o h id i).0 j (Members.member-of_flat_map row_ids before a j m k))))

each_apart : (before rows : List OfferingRow) → are_checked_after before rows ≡ true → (a : OfferingRow) → Member before a
    → list_all (are_apart a) rows ≡ true
each_apart before [] h a m = refl
each_apart before (o ∷ os) h a m =
    both (are_apart a o) (list_all (are_apart a) os) (apart_from before o (both-left (passed before o) (are_checked_after (before ++ o ∷ []) os) h) a m)
    (each_apart (before ++ o ∷ []) os (both-right (passed before o) (are_checked_after (before ++ o ∷ []) os) h) a (Members.member-left before (o ∷ []) a m))

all_apart : (before rows : List OfferingRow) → are_checked_after before rows ≡ true → each_two are_apart rows ≡ true
all_apart before [] h = refl
all_apart before (o ∷ os) h =
    let rest = both-right (passed before o) (are_checked_after (before ++ o ∷ []) os) h in
    both (list_all (are_apart o) os) (each_two are_apart os) (each_apart (before ++ o ∷ []) os rest o (Members.member-right before (o ∷ []) o (inl refl)))
    (all_apart (before ++ o ∷ []) os rest)

-- ---- how many sections there are

-- those of the rows and of one more
one_more : (before : List OfferingRow) (o : OfferingRow)
    → length (flat_map sections_of (before ++ o ∷ [])) ≡ length (all_sections before) + length (sections_of o)
one_more before o =
    ap length (flat_map-append sections_of before (o ∷ []))
    ∙ length-append (flat_map sections_of before) (flat_map sections_of (o ∷ []))
    ∙ (λ i. length (sym (row-by-row before) i) + length (append-nil (sections_of o) i))

few_behind : (before : List OfferingRow) (o : OfferingRow) → passed before o ≡ true → length (all_sections before) + length (sections_of o) ≤ 20000
few_behind before o h = not_above (length (all_sections before) + length (sections_of o))
    (unfound (nat_lt 20000 (length (all_sections before) + length (sections_of o))) (length (all_sections before) + length (sections_of o)) sixth)
  where
    unfound : (b : Bool) (n : ℕ) → is_none (cond b (Some n) None) ≡ true → b ≡ false
    unfound true n k = absurd (not_both false k refl)
    unfound false n k = refl

    subparts : List SubpartRow
    subparts = flat_map (λ g. g.subparts) o.configs

    sixth : is_none (above 20000 ((length (all_sections before) + length (sections_of o)) ∷ [])) ≡ true
    sixth =
        none-right (above 8 (map (λ s. length s.meetings) (sections_in subparts))) _
        (none-right (above 200 (map (λ p. length p.sections) subparts)) _
        (none-right (above 6 (map (λ g. length g.subparts) o.configs)) _
        (none-right (above 10 (length o.configs ∷ [])) _
        (none-right (above 10 (length o.courses ∷ [])) _ (faultless before o h).3))))

few_sections : (before rows : List OfferingRow) → are_checked_after before rows ≡ true → length (flat_map sections_of before) ≤ 20000
    → length (flat_map sections_of (before ++ rows)) ≤ 20000
few_sections before [] h few = subst (λ rows. length (flat_map sections_of rows) ≤ 20000) (sym (append-nil before)) few
few_sections before (o ∷ os) h few =
    subst (λ rows. length (flat_map sections_of rows) ≤ 20000) (append_assoc before (o ∷ []) os)
    (few_sections (before ++ o ∷ []) os (both-right (passed before o) (are_checked_after (before ++ o ∷ []) os) h)
    (omega (arith, one_more before o, few_behind before o (both-left (passed before o) (are_checked_after (before ++ o ∷ []) os) h))))

-- ---- checked rows in order

-- rows that pass alone, of which no two have an id in common, are checked
checked_again : (before rows : List OfferingRow) → list_all (passed []) rows ≡ true → each_two are_apart rows ≡ true
    → ((a : OfferingRow) → Member before a → list_all (are_apart a) rows ≡ true)
    → length (flat_map sections_of (before ++ rows)) ≤ 20000 → are_checked_after before rows ≡ true
checked_again before [] alone two apart few = refl
checked_again before (o ∷ os) alone two apart few =
    both (passed before o) (are_checked_after (before ++ o ∷ []) os)
    (passes_behind [] before o (both-left (passed [] o) (list_all (passed []) os) alone) new (omega (arith, few, fewer, one_more before o)))
    (checked_again (before ++ o ∷ []) os (both-right (passed [] o) (list_all (passed []) os) alone)
    (both-right (list_all (are_apart o) os) (each_two are_apart os) two) (λ a m.
    ⊎_elim (λ k. both-right (are_apart a o) (list_all (are_apart a) os) (apart a k)) (λ k. last a k) (Members.member-append before (o ∷ []) a m))
    (subst (λ rows. length (flat_map sections_of rows) ≤ 20000) (sym (append_assoc before (o ∷ []) os)) few))
  where
    new : (id : ℕ × ℕ) → Member (row_ids o) id → list_any (same_kind id) (flat_map row_ids before) ≡ false
    new id m =
        Members.none-of (same_kind id) (flat_map row_ids before) (λ j k.
        let a = Members.member-flat_map row_ids before j k in
        Members.none-at (same_kind id) (row_ids a.0)
        (not_true (list_any (same_kind id) (row_ids a.0)) (all-at (λ i. not (list_any (same_kind i) (row_ids a.0))) (row_ids o)
        (both-left (are_apart a.0 o) (list_all (are_apart a.0) os) (apart a.0 a.1)) id m)) j a.2)

    fewer : length (flat_map sections_of (before ++ o ∷ [])) ≤ length (flat_map sections_of (before ++ o ∷ os))
    fewer =
        omega (
          arith,
          ap length (flat_map-append sections_of (before ++ o ∷ []) os),
          length-append (flat_map sections_of (before ++ o ∷ []))
              (flat_map sections_of os),
          ap (λ rows. length (flat_map sections_of rows)) (append_assoc before (o ∷ []) os),
        )

    last : (a : OfferingRow) → Member (o ∷ []) a → list_all (are_apart a) os ≡ true
    last a (inl e) = subst (λ x. list_all (are_apart x) os ≡ true) e (both-left (list_all (are_apart o) os) (each_two are_apart os) two)
    last a (inr m) = absurd m

-- checked rows are checked in order of id too
pub sorted_checked : (rows : List OfferingRow) → are_checked rows ≡ true → are_checked (sorted_by (λ o. o.id.0) rows) ≡ true
sorted_checked rows h =
    checked_again [] (sorted_by (λ (o : OfferingRow). o.id.0) rows)
    (all-sorted (λ (o : OfferingRow). o.id.0) (passed []) rows ∙ checked-each (passed []) (λ before o k. alone before o k) [] rows h)
    (two_sorted (λ (o : OfferingRow). o.id.0) are_apart apart_turned rows (all_apart [] rows h)) (λ a m. absurd m)
    (omega (arith, parts_sorted (λ (o : OfferingRow). o.id.0) sections_of rows, few_sections [] rows h (omega arith)))
  where
    alone : (before : List OfferingRow) (o : OfferingRow) → passed before o ≡ true → passed [] o ≡ true
    alone before o k = passes_behind before [] o k (λ id m. refl) (omega (arith, few_behind before o k))

-- ---- the commands

not_refused : (before : List OfferingRow) (o : OfferingRow) (day : ℕ) → passed before o ≡ true
    → refusal_of (quiet (world_with day before [] [])) registrar (commands.Offering o) ≡ None
unfolding refusal_of
not_refused before o day h = ap (λ f. option_or (option_map (λ t. Row (offering_fault t)) f) None)
    (none_is (fault_of (record { rows = before; cancelled = [] }) o) h)

-- checked rows, one after another
pub offerings_run : (rows before : List OfferingRow) (start day : ℕ) → are_checked_after before rows ≡ true
    → (last : ℕ) × Runs (world_with start before [] []) day (map asks_offering rows) (world_with last (before ++ rows) [] [])
offerings_run [] before start day h = (start, ap (λ rows. world_with start rows [] []) (sym (append-nil before)))
offerings_run (o ∷ os) before start day h =
    let more = offerings_run os (before ++ o ∷ []) (max start day) day (both-right (passed before o) (are_checked_after (before ++ o ∷ []) os) h) in (
      more.0,
      (
        world_with (max start day) (before ++ o ∷ []) [] [],
        amends (world_with start before [] []) day (commands.Offering o) (world_with (max start day) (before ++ o ∷ []) [] [])
            (not_refused before o (max start day) (both-left (passed before o) (are_checked_after (before ++ o ∷ []) os) h)) refl,
        subst (λ rows. Runs (world_with (max start day) (before ++ o ∷ []) [] []) day (map asks_offering os) (world_with more.0 rows [] []))
            (append_assoc before (o ∷ []) os) more.1,
      ),
    )
