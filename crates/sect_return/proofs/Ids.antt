-- In a row that passed its check no two configurations have one id, and no two subparts; in checked rows no two offerings.
use Rattle.std.specs.Prelude.{◌≡◌, ℕ, ◌+◌, ◌<◌, ◌≤◌, Bool, true, false, not, ◌||◌, ◌==◌, nat_lt, cond, List, [], ◌∷◌, ◌++◌, length, map, filter, find, flat_map, Some, refl}
use Rattle.std.specs.Bool.{then_some}
use Rattle.std.specs.List.{list_any}
use Rattle.std.specs.Option.{is_none, option_map}
use Rattle.std.proofs.Common.{sym, ◌∙◌, ap, subst, append-nil, append_assoc, arith, inl, inr, length-append}
use Rattle.std.proofs.lemmas.Bool.Decides.{nat_tests}
use Rattle.std.proofs.lemmas.List.{map-append}
use Rattle.std.proofs.lemmas.List.Elements.{filter-append}
use Rattle.sect_catalog.specs.Catalogue.{Catalogue}
use Rattle.sect_catalog.specs.Fault.{are_checked, are_checked_after, config_ids, is_empty, known_id, row_ids, same_kind, stands_twice, subpart_ids}
use Rattle.sect_catalog.specs.declared.row.CatalogFault.TheVariants.{Known, NoConfig, NoCourse, NoSection, NoSubpart}
use Rattle.sect_model.proofs.CheckedLemmas.{passed}
use Rattle.sect_model.proofs.DifferLemmas.{eqb-other, keys_differ, single-differ}
use Rattle.sect_model.proofs.Easy.{differ-append}
use Rattle.sect_model.proofs.Members
use Rattle.sect_model.proofs.Members.{Member, all-of, both, both-left, both-right, member-map, member-of_flat_map, not_both}
use Rattle.sect_model.proofs.OfferingChange.{none-left, none-map, none-right}
use Rattle.sect_model.specs.Data.{ConfigRow, CourseRow, OfferingRow, SubpartRow}
use Rattle.sect_people.specs.Order.{all_differ}
use Rattle.sect_read.specs.Fits.{FitsList}
use Rattle.sect_return.specs.Back.{HasConfigs, HasSections, HasSubparts}
use Rattle.sect_rows.proofs.Each.{each-of}

-- ---- keys

-- keys that differ, as a list of numbers
listed : {X : Type 0} (key : X → ℕ) (xs : List X) → keys_differ key xs ≡ true → all_differ (map key xs) ≡ true
listed key [] h = refl
listed {X = X} key (x ∷ xs) h =
    both (not (list_any (λ m. m == key x) (map key xs))) (all_differ (map key xs))
    (none_equal xs (both-left (not (list_any (λ y. key x == key y) xs)) (keys_differ key xs) h)) (listed key xs (both-right (not (list_any (λ y. key x == key y) xs)) (keys_differ key xs) h))
  where
    two : (a b c d : Bool) → (not b ≡ true → not a ≡ true) → (not d ≡ true → not c ≡ true) → not (b || d) ≡ true → not (a || c) ≡ true
    two a true c d f g h = absurd (not_both false h refl)
    two true false c d f g h = f refl
    two false false c d f g h = g h

    none_equal : (ys : List X) → not (list_any (λ y. key x == key y) ys) ≡ true → not (list_any (λ m. m == key x) (map key ys)) ≡ true
    none_equal [] k = refl
    none_equal (y ∷ ys) k =
        two (key y == key x) (key x == key y) (list_any (λ m. m == key x) (map key ys)) (list_any (λ z. key x == key z) ys) (eqb-other (key x) (key y)) (none_equal ys) k

-- ---- how often an id stands

more_kept : {X : Type 0} (test : X → Bool) (xs ys : List X) → length (filter test ys) ≤ length (filter test (xs ++ ys))
more_kept test xs ys = omega (arith, ap length (filter-append test xs ys), length-append (filter test xs) (filter test ys))

kept_front : {X : Type 0} (test : X → Bool) (xs ys : List X) → length (filter test xs) ≤ length (filter test (xs ++ ys))
kept_front test xs ys = omega (arith, ap length (filter-append test xs ys), length-append (filter test xs) (filter test ys))

-- each element that passes one test has a part that passes another
parts_kept : {X Y : Type 0} (test : Y → Bool) (parts : X → List Y) (passes : X → Bool) → ((x : X) → passes x ≡ true → 1 ≤ length (filter test (parts x))) → (xs : List X)
    → length (filter passes xs) ≤ length (filter test (flat_map parts xs))
parts_kept test parts passes each [] = omega arith
parts_kept test parts passes each (x ∷ xs) = by (passes x) refl (parts_kept test parts passes each xs)
  where
    whole : length (filter test (parts x ++ flat_map parts xs)) ≡ length (filter test (parts x)) + length (filter test (flat_map parts xs))
    whole = ap length (filter-append test (parts x) (flat_map parts xs)) ∙ length-append (filter test (parts x)) (filter test (flat_map parts xs))

    by : (b : Bool) → passes x ≡ b → length (filter passes xs) ≤ length (filter test (flat_map parts xs))
        → length (cond b (x ∷ filter passes xs) (filter passes xs)) ≤ length (filter test (parts x ++ flat_map parts xs))
    by true e more = omega (arith, whole, each x e, more)
    by false e more = omega (arith, whole, more)

-- the parts of one of the elements are among those of all
part_kept : {X Y : Type 0} (test : Y → Bool) (parts : X → List Y) (xs : List X) (x : X) → Member xs x → length (filter test (parts x)) ≤ length (filter test (flat_map parts xs))
part_kept test parts [] x m = absurd m
part_kept test parts (y ∷ ys) x (inl e) = subst (λ z. length (filter test (parts z)) ≤ length (filter test (flat_map parts (y ∷ ys)))) e (kept_front test (parts y) (flat_map parts ys))
part_kept test parts (y ∷ ys) x (inr m) = omega (arith, part_kept test parts ys x m, more_kept test (parts y) (flat_map parts ys))

few_once : (m n : ℕ) → m ≤ n → nat_lt 1 n ≡ false → not (nat_lt 1 m) ≡ true
few_once m n less few = grind (arith, nat_tests)

own_test : (n : ℕ) → (n == n) ≡ true
own_test n = grind (arith, nat_tests)

-- what no look-up finds
none_found : {X : Type 0} (test : X → Bool) (xs : List X) → is_none (find test xs) ≡ true → (x : X) → Member xs x → test x ≡ false
none_found test [] e x m = absurd m
none_found test (y ∷ ys) e x m = by (test y) refl e m (λ k i. none_found test ys k x i)
  where
    by : (b : Bool) → test y ≡ b → is_none (cond b (Some y) (find test ys)) ≡ true → Member (y ∷ ys) x → (is_none (find test ys) ≡ true → Member ys x → test x ≡ false) → test x ≡ false
    by true t e m more = absurd (not_both false e refl)
    by false t e (inl same) more = subst (λ z. test z ≡ false) same t
    by false t e (inr m) more = more e m

some_there : {X : Type 0} (xs : List X) → is_empty xs ≡ false → 0 < length xs
some_there [] h = absurd (not_both true refl h)
some_there (x ∷ xs) h = omega arith

unsaid : {X : Type 0} (b : Bool) (x : X) → is_none (then_some b x) ≡ true → b ≡ false
unsaid true x h = absurd (not_both false h refl)
unsaid false x h = refl

-- ---- a row that passed its check

module _ (before : List OfferingRow) (o : OfferingRow) (h : passed before o ≡ true) where
  abbrev catalogue : Catalogue
  catalogue = record { rows = before; cancelled = [] }

  abbrev is_known : ℕ × ℕ → Bool
  is_known id = list_any (same_kind id) (flat_map row_ids before) || stands_twice (row_ids o) id

  -- an id of the row stands in no earlier row, and once in this one
  pub fresh : (id : ℕ × ℕ) → Member (row_ids o) id → (list_any (same_kind id) (flat_map row_ids before) ≡ false) × (stands_twice (row_ids o) id ≡ false)
  fresh id m =
      let none = none_found is_known (row_ids o) (sym (none-map (λ (x : ℕ × ℕ). x.1) (find is_known (row_ids o))) ∙ sym (none-map Known (known_id catalogue o)) ∙ none-left (option_map Known (known_id catalogue o)) _ h) id m in
      (Members.neither-left (list_any (same_kind id) (flat_map row_ids before)) (stands_twice (row_ids o) id) none, Members.neither-right (list_any (same_kind id) (flat_map row_ids before)) (stands_twice (row_ids o) id) none)

  -- what stands in the configurations
  in_configs : (id : ℕ × ℕ) → Member (flat_map config_ids o.configs) id → Member (row_ids o) id
  in_configs id m = inr (Members.member-right (map (λ (c : CourseRow). (1, c.id.0)) o.courses) (flat_map config_ids o.configs) id m)

  configs_kept : (test : ℕ × ℕ → Bool) → length (filter test (flat_map config_ids o.configs)) ≤ length (filter test (row_ids o))
  configs_kept test =
      let courses = map (λ (c : CourseRow). (1, c.id.0)) o.courses in
      let a = more_kept test courses (flat_map config_ids o.configs) in
      let b : length (filter test (courses ++ flat_map config_ids o.configs)) ≤ length (filter test (row_ids o)) = more_kept test ((0, o.id.0) ∷ []) (courses ++ flat_map config_ids o.configs) in
      omega (arith, a, b)

  configs_differ : all_differ (map (λ g. g.id.0) o.configs) ≡ true
  configs_differ = listed (λ (g : ConfigRow). g.id.0) o.configs (single-differ (λ (g : ConfigRow). g.id.0) o.configs (all-of _ o.configs (λ g m.
      few_once (length (filter (λ (x : ConfigRow). g.id.0 == x.id.0) o.configs)) (length (filter (same_kind (2, g.id.0)) (row_ids o)))
      (omega (arith, parts_kept (same_kind (2, g.id.0)) config_ids (λ (x : ConfigRow). g.id.0 == x.id.0) (one_config g) o.configs, configs_kept (same_kind (2, g.id.0))))
      (fresh (2, g.id.0) (in_configs (2, g.id.0) (member-of_flat_map config_ids o.configs g (2, g.id.0) m (inl refl)))).1)))
    where
      one_config : (g x : ConfigRow) → (g.id.0 == x.id.0) ≡ true → 1 ≤ length (filter (same_kind (2, g.id.0)) (config_ids x))
      one_config g x e = subst (λ b. 1 ≤ length (cond b ((2, x.id.0) ∷ filter (same_kind (2, g.id.0)) (flat_map subpart_ids x.subparts)) (filter (same_kind (2, g.id.0)) (flat_map subpart_ids x.subparts)))) (sym e) (omega arith)

  subparts_differ : (g : ConfigRow) → Member o.configs g → all_differ (map (λ p. p.id.0) g.subparts) ≡ true
  subparts_differ g in_row = listed (λ (p : SubpartRow). p.id.0) g.subparts (single-differ (λ (p : SubpartRow). p.id.0) g.subparts (all-of _ g.subparts (λ p m.
      few_once (length (filter (λ (x : SubpartRow). p.id.0 == x.id.0) g.subparts)) (length (filter (same_kind (3, p.id.0)) (row_ids o)))
      (omega (
        arith,
        parts_kept (same_kind (3, p.id.0)) subpart_ids (λ (x : SubpartRow). p.id.0 == x.id.0) (one_subpart p) g.subparts,
        in_config g (same_kind (3, p.id.0)),
        part_kept (same_kind (3, p.id.0)) config_ids o.configs g in_row,
        configs_kept (same_kind (3, p.id.0)),
      ))
      (fresh (3, p.id.0) (in_configs (3, p.id.0) (member-of_flat_map config_ids o.configs g (3, p.id.0) in_row (inr (member-of_flat_map subpart_ids g.subparts p (3, p.id.0) m (inl refl)))))).1)))
    where
      in_config : (g : ConfigRow) (test : ℕ × ℕ → Bool) → length (filter test (flat_map subpart_ids g.subparts)) ≤ length (filter test (config_ids g))
      in_config g test = more_kept test ((2, g.id.0) ∷ []) (flat_map subpart_ids g.subparts)

      one_subpart : (p x : SubpartRow) → (p.id.0 == x.id.0) ≡ true → 1 ≤ length (filter (same_kind (3, p.id.0)) (subpart_ids x))
      one_subpart p x e = subst (λ b. 1 ≤ length (cond b ((3, x.id.0) ∷ filter (same_kind (3, p.id.0)) (map (λ s. (4, s.id.0)) x.sections)) (filter (same_kind (3, p.id.0)) (map (λ s. (4, s.id.0)) x.sections)))) (sym e) (omega arith)

  -- none of the earlier rows has the offering's id
  new_offering : (n : ℕ) → Member (map (λ (x : OfferingRow). x.id.0) before) n → (n == o.id.0) ≡ false
  new_offering n m =
      let x = member-map (λ (y : OfferingRow). y.id.0) before n m in
      Members.not_true (n == o.id.0) (eqb-other o.id.0 n (ap (λ k. not (o.id.0 == k)) (sym x.2)
      ∙ Members.if_false (o.id.0 == x.0.id.0) (Members.none-at (same_kind (0, o.id.0)) (flat_map row_ids before) (fresh (0, o.id.0) (inl refl)).0 (0, x.0.id.0) (member-of_flat_map row_ids before x.0 (0, x.0.id.0) x.1 (inl refl)))))

  -- what isn't empty
  row_has : HasConfigs o
  row_has =
      let c = none-right (option_map Known (known_id catalogue o)) _ h in
      let d = none-right (then_some (is_empty o.courses) NoCourse) _ c in
      let e = none-right (then_some (is_empty o.configs) NoConfig) _ d in
      let f = none-right (option_map (λ g. NoSubpart g.id.0) (find (λ g. is_empty g.subparts) o.configs)) _ e in
      let subparts : List SubpartRow = flat_map (λ g. g.subparts) o.configs in
      let none_g = sym (none-map (λ (g : ConfigRow). NoSubpart g.id.0) (find (λ g. is_empty g.subparts) o.configs)) ∙ none-left (option_map (λ g. NoSubpart g.id.0) (find (λ g. is_empty g.subparts) o.configs)) _ e in
      let none_p = sym (none-map (λ (p : SubpartRow). NoSection p.id.0) (find (λ p. is_empty p.sections) subparts)) ∙ none-left (option_map (λ p. NoSection p.id.0) (find (λ p. is_empty p.sections) subparts)) _ f in (
        some_there o.courses (unsaid (is_empty o.courses) NoCourse (none-left (then_some (is_empty o.courses) NoCourse) _ c)),
        some_there o.configs (unsaid (is_empty o.configs) NoConfig (none-left (then_some (is_empty o.configs) NoConfig) _ d)),
        each-of HasSubparts o.configs (λ g m. (
          some_there g.subparts (none_found (λ (x : ConfigRow). is_empty x.subparts) o.configs none_g g m),
          each-of HasSections g.subparts (λ p i. some_there p.sections (none_found (λ (x : SubpartRow). is_empty x.sections) subparts none_p p (member-of_flat_map (λ (x : ConfigRow). x.subparts) o.configs g p m i))),
          subparts_differ g m,
        )),
        configs_differ,
      )

-- ---- checked rows

each_has : (before rows : List OfferingRow) → are_checked_after before rows ≡ true → FitsList HasConfigs rows
each_has before [] h = tt
each_has before (o ∷ os) h =
    (row_has before o (both-left (passed before o) (are_checked_after (before ++ o ∷ []) os) h), each_has (before ++ o ∷ []) os (both-right (passed before o) (are_checked_after (before ++ o ∷ []) os) h))

ids_differ : (before rows : List OfferingRow) → are_checked_after before rows ≡ true → all_differ (map (λ o. o.id.0) before) ≡ true → all_differ (map (λ o. o.id.0) (before ++ rows)) ≡ true
ids_differ before [] h differ = subst (λ its. all_differ (map (λ (o : OfferingRow). o.id.0) its) ≡ true) (sym (append-nil before)) differ
ids_differ before (o ∷ os) h differ =
    let first = both-left (passed before o) (are_checked_after (before ++ o ∷ []) os) h in
    subst (λ its. all_differ (map (λ (x : OfferingRow). x.id.0) its) ≡ true) (append_assoc before (o ∷ []) os)
    (ids_differ (before ++ o ∷ []) os (both-right (passed before o) (are_checked_after (before ++ o ∷ []) os) h)
    (ap all_differ (map-append (λ (x : OfferingRow). x.id.0) before (o ∷ [])) ∙ differ-append (map (λ (x : OfferingRow). x.id.0) before) o.id.0 differ (new_offering before o first)))

-- nothing is empty in checked rows
pub checked_has : (rows : List OfferingRow) → are_checked rows ≡ true → FitsList HasConfigs rows
checked_has rows h = each_has [] rows h

-- the ids of checked rows differ
pub checked_differ : (rows : List OfferingRow) → are_checked rows ≡ true → all_differ (map (λ o. o.id.0) rows) ≡ true
checked_differ rows h = ids_differ [] rows h refl
