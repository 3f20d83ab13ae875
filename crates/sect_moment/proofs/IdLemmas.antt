-- In checked rows the ids of configurations differ, and so do those of sections; so each stands in one offering.
use Rattle.std.specs.Prelude.{◌≡◌, ℕ, suc, Bool, true, false, not, ◌||◌, ◌==◌, nat_lt, cond, List, [], ◌∷◌, ◌++◌, length, map, filter, find, flat_map, refl, Option, Some, None}
use Rattle.std.specs.List.{list_any}
use Rattle.std.specs.Option.{option_map, option_map_or, option_and_then, is_none, is_some}
use Rattle.std.proofs.Common.{sym, ◌∙◌, ap, subst, inl, inr, append_assoc}
use Rattle.std.proofs.lemmas.Bool.{eqb-true, eq-eqb}
use Rattle.std.proofs.lemmas.List.{append-nil}
use Rattle.std.proofs.lemmas.List.Elements.{filter-append}
use Rattle.sect_catalog.specs.declared.row.CatalogFault.TheVariants.{Known}
use Rattle.sect_catalog.specs.Catalogue.{Catalogue, all_configs, all_subparts, all_sections, find_config, find_section}
use Rattle.sect_catalog.specs.Fault.{same_kind, subpart_ids, config_ids, row_ids, stands_twice, known_id, are_checked_after, are_checked}
use Rattle.sect_catalog.specs.Catalogue.{has_course}
use Rattle.sect_people.specs.Order.{all_differ}
use Rattle.sect_model.specs.World.{World, offering_of}
use Rattle.sect_model.specs.Choice.{subparts_of, config_in}
use Rattle.sect_model.specs.Data.{CourseId, ConfigId, OfferingRow, CourseRow, ConfigRow, SubpartRow, SectionRow}
use Rattle.sect_model.proofs.Members
use Rattle.sect_model.proofs.Members.{Member, all-at, all-of, any-of, both, both-left, both-right, not_both, not_true, if_false, neither-left, neither-right, find-some}
use Rattle.sect_model.proofs.DifferLemmas.{keys_differ, differ-each, differ-join, differ-right, differ-across, single-differ, eqb-swap}
use Rattle.sect_model.proofs.CheckedLemmas.{passed, sections_of, sections-differ, row-by-row, flat-append}
use Rattle.sect_model.proofs.OfferingChange.{none-left, none-map}

abbrev key : ConfigRow → ℕ
key g = g.id.0

-- a configuration's id with its kind
abbrev entry : ConfigRow → ℕ × ℕ
entry g = (2, g.id.0)

no-sections : (n : ℕ) (ss : List SectionRow) → filter (same_kind (2, n)) (map (λ s. (4, s.id.0)) ss) ≡ []
no-sections n [] = refl
no-sections n (s ∷ ss) = no-sections n ss

no-courses : (n : ℕ) (cs : List CourseRow) → filter (same_kind (2, n)) (map (λ c. (1, c.id.0)) cs) ≡ []
no-courses n [] = refl
no-courses n (c ∷ cs) = no-courses n cs

no-subparts : (n : ℕ) (ps : List SubpartRow) → filter (same_kind (2, n)) (flat_map subpart_ids ps) ≡ []
no-subparts n [] = refl
no-subparts n (p ∷ ps) =
    filter-append (same_kind (2, n)) (map (λ s. (4, s.id.0)) p.sections) (flat_map subpart_ids ps)
    ∙ (λ i. no-sections n p.sections i ++ no-subparts n ps i)

-- of the ids of configurations, those of this number
config-entries : (n : ℕ) (gs : List ConfigRow) → filter (same_kind (2, n)) (flat_map config_ids gs) ≡ map entry (filter (λ g. n == key g) gs)
config-entries n [] = refl
config-entries n (g ∷ gs) =
    by_test (n == key g)
    (filter-append (same_kind (2, n)) (flat_map subpart_ids g.subparts) (flat_map config_ids gs) ∙ (λ i. no-subparts n g.subparts i ++ config-entries n gs i))
  where
    by_test : (b : Bool) → filter (same_kind (2, n)) (flat_map subpart_ids g.subparts ++ flat_map config_ids gs) ≡ map entry (filter (λ g. n == key g) gs)
        → cond b (entry g ∷ filter (same_kind (2, n)) (flat_map subpart_ids g.subparts ++ flat_map config_ids gs)) (filter (same_kind (2, n)) (flat_map subpart_ids g.subparts ++ flat_map config_ids gs))
        ≡ map entry (cond b (g ∷ filter (λ g. n == key g) gs) (filter (λ g. n == key g) gs))
    by_test true e = ap (λ zs. entry g ∷ zs) e
    by_test false e = e

row-entries : (n : ℕ) (o : OfferingRow) → filter (same_kind (2, n)) (row_ids o) ≡ map entry (filter (λ g. n == key g) o.configs)
row-entries n o =
    filter-append (same_kind (2, n)) (map (λ c. (1, c.id.0)) o.courses) (flat_map config_ids o.configs)
    ∙ (λ i. no-courses n o.courses i ++ config-entries n o.configs i)

map-append : {X Y : Type 0} (f : X → Y) (xs ys : List X) → map f (xs ++ ys) ≡ map f xs ++ map f ys
map-append f [] ys = refl
map-append f (x ∷ xs) ys = ap (λ zs. f x ∷ zs) (map-append f xs ys)

rows-entries : (n : ℕ) (rows : List OfferingRow) → filter (same_kind (2, n)) (flat_map row_ids rows) ≡ map entry (filter (λ g. n == key g) (all_configs rows))
rows-entries n [] = refl
rows-entries n (o ∷ os) =
    filter-append (same_kind (2, n)) (row_ids o) (flat_map row_ids os)
    ∙ (λ i. row-entries n o i ++ rows-entries n os i)
    ∙ sym (map-append entry (filter (λ g. n == key g) o.configs) (filter (λ g. n == key g) (all_configs os)))
    ∙ ap (map entry) (sym (filter-append (λ g. n == key g) o.configs (all_configs os)))

-- lists with equal parts that pass
abbrev is_nil : {X : Type 0} → List X → Bool
is_nil [] = true
is_nil (x ∷ xs) = false

any-nil : {X : Type 0} (test : X → Bool) (xs : List X) → list_any test xs ≡ not (is_nil (filter test xs))
any-nil test [] = refl
any-nil {X = X} test (x ∷ xs) = by_test (test x) (any-nil test xs)
  where
    by_test : (b : Bool) → list_any test xs ≡ not (is_nil (filter test xs)) → b || list_any test xs ≡ not (is_nil (cond b (x ∷ filter test xs) (filter test xs)))
    by_test true ih = refl
    by_test false ih = ih

nil-map : {X Y : Type 0} (f : X → Y) (xs : List X) → is_nil (map f xs) ≡ is_nil xs
nil-map f [] = refl
nil-map f (x ∷ xs) = refl

length-map : {X Y : Type 0} (f : X → Y) (xs : List X) → length (map f xs) ≡ length xs
length-map f [] = refl
length-map f (x ∷ xs) = ap (λ n. suc n) (length-map f xs)

any-entry : (n : ℕ) (ids : List (ℕ × ℕ)) (gs : List ConfigRow) → filter (same_kind (2, n)) ids ≡ map entry (filter (λ g. n == key g) gs) → list_any (same_kind (2, n)) ids ≡ list_any (λ g. n == key g) gs
any-entry n ids gs e =
    any-nil (same_kind (2, n)) ids ∙ ap (λ xs. not (is_nil xs)) e ∙ ap not (nil-map entry (filter (λ g. n == key g) gs)) ∙ sym (any-nil (λ g. n == key g) gs)

twice-entry : (n : ℕ) (ids : List (ℕ × ℕ)) (gs : List ConfigRow) → filter (same_kind (2, n)) ids ≡ map entry (filter (λ g. n == key g) gs)
    → stands_twice ids (2, n) ≡ nat_lt 1 (length (filter (λ g. n == key g) gs))
twice-entry n ids gs e = ap (λ xs. nat_lt 1 (length xs)) e ∙ ap (nat_lt 1) (length-map entry (filter (λ g. n == key g) gs))

-- what a check says of the ids of a row
unknown : (before : List OfferingRow) (o : OfferingRow) → passed before o ≡ true → is_none (known_id (record { rows = before; cancelled = [] }) o) ≡ true
unknown before o h =
    let c : Catalogue = record { rows = before; cancelled = [] } in
    sym (none-map Known (known_id c o)) ∙ none-left (option_map Known (known_id c o)) _ h

-- each id of the row is new
fresh : (before : List OfferingRow) (o : OfferingRow) → passed before o ≡ true → (id : ℕ × ℕ) → Member (row_ids o) id
    → list_any (same_kind id) (flat_map row_ids before) || stands_twice (row_ids o) id ≡ false
fresh before o h id m = by_test (known id) refl
  where
    known : ℕ × ℕ → Bool
    known id = list_any (same_kind id) (flat_map row_ids before) || stands_twice (row_ids o) id

    by_test : (b : Bool) → known id ≡ b → b ≡ false
    by_test false e = refl
    by_test true e =
        absurd (not_both (is_some (find known (row_ids o))) (find-some known (row_ids o) id m e)
        (not_true _ (sym (none-map (λ id. id.1) (find known (row_ids o))) ∙ unknown before o h)))

-- the id of a configuration stands among those of its row
own-entry : (o : OfferingRow) (g : ConfigRow) → Member o.configs g → Member (row_ids o) (entry g)
own-entry o g m =
    inr (Members.member-right (map (λ c. (1, c.id.0)) o.courses) (flat_map config_ids o.configs) (entry g)
    (Members.member-of_flat_map config_ids o.configs g (entry g) m (inl refl)))

new-configs : (before : List OfferingRow) (o : OfferingRow) → passed before o ≡ true → (g : ConfigRow) → Member o.configs g
    → (list_any (λ t. key g == key t) (all_configs before) ≡ false) × (nat_lt 1 (length (filter (λ t. key g == key t) o.configs)) ≡ false)
new-configs before o h g m =
    let e = fresh before o h (entry g) (own-entry o g m) in (
      sym (any-entry (key g) (flat_map row_ids before) (all_configs before) (rows-entries (key g) before)) ∙ neither-left _ _ e,
      sym (twice-entry (key g) (row_ids o) o.configs (row-entries (key g) o)) ∙ neither-right (list_any (same_kind (entry g)) (flat_map row_ids before)) _ e,
    )

rows-differ : (before os : List OfferingRow) → are_checked_after before os ≡ true → keys_differ key (all_configs before) ≡ true → keys_differ key (all_configs (before ++ os)) ≡ true
rows-differ before [] h k = subst (λ xs. keys_differ key (all_configs xs) ≡ true) (sym (append-nil before)) k
rows-differ before (o ∷ os) h k =
    subst (λ xs. keys_differ key (all_configs xs) ≡ true) (append_assoc before (o ∷ []) os)
    (rows-differ (before ++ o ∷ []) os (both-right (passed before o) (are_checked_after (before ++ o ∷ []) os) h)
    (subst (λ xs. keys_differ key xs ≡ true)
    (sym (flat-append (λ o. o.configs) before (o ∷ []) ∙ ap (λ xs. all_configs before ++ xs) (append-nil o.configs)))
    (differ-join key (all_configs before) o.configs k
    (single-differ key o.configs (all-of (λ g. not (nat_lt 1 (length (filter (λ t. key g == key t) o.configs)))) o.configs (λ g m. if_false _ (news g m).1)))
    (all-of (λ g. not (list_any (λ t. key g == key t) (all_configs before))) o.configs (λ g m. if_false _ (news g m).0)))))
  where
    news : (g : ConfigRow) → Member o.configs g → (list_any (λ t. key g == key t) (all_configs before) ≡ false) × (nat_lt 1 (length (filter (λ t. key g == key t) o.configs)) ≡ false)
    news = new-configs before o (both-left (passed before o) (are_checked_after (before ++ o ∷ []) os) h)

-- the ids of configurations differ
pub configs-differ : (rows : List OfferingRow) → are_checked rows ≡ true → keys_differ (λ g. g.id.0) (flat_map (λ o. o.configs) rows) ≡ true
configs-differ rows h = rows-differ [] rows h refl

-- where keys differ one way, they differ the other
none-swap : {X : Type 0} (key : X → ℕ) (n : ℕ) (xs : List X) → list_any (λ y. n == key y) xs ≡ false → list_any (λ m. m == n) (map key xs) ≡ false
none-swap key n [] h = refl
none-swap key n (x ∷ xs) h = λ i. other (key x == n) refl i || none-swap key n xs (neither-right (n == key x) _ h) i
  where
    other : (b : Bool) → key x == n ≡ b → b ≡ false
    other false e = refl
    other true e = absurd (not_both (n == key x) (eqb-swap (key x) n e) (neither-left (n == key x) _ h))

pub differ-keys : {X : Type 0} (key : X → ℕ) (xs : List X) → keys_differ key xs ≡ true → all_differ (map key xs) ≡ true
differ-keys key [] h = refl
differ-keys key (x ∷ xs) h =
    both (not (list_any (λ m. m == key x) (map key xs))) (all_differ (map key xs))
    (if_false _ (none-swap key (key x) xs (not_true _ (both-left (not (list_any (λ y. key x == key y) xs)) _ h))))
    (differ-keys key xs (both-right (not (list_any (λ y. key x == key y) xs)) _ h))

-- within one offering
pub configs-apart : (rows : List OfferingRow) → are_checked rows ≡ true → (o : OfferingRow) → Member rows o → all_differ (map (λ g. g.id.0) o.configs) ≡ true
configs-apart rows h o m =
    differ-keys (λ g. g.id.0) o.configs (all-at (λ o. keys_differ (λ g. g.id.0) o.configs) rows (differ-each (λ g. g.id.0) (λ o. o.configs) rows (configs-differ rows h)) o m)

-- within one subpart
pub sections-apart : (rows : List OfferingRow) → are_checked rows ≡ true → (p : SubpartRow) → Member (all_subparts rows) p → all_differ (map (λ s. s.id.0) p.sections) ≡ true
sections-apart rows h p m =
    differ-keys (λ s. s.id.0) p.sections
    (all-at (λ p. keys_differ (λ s. s.id.0) p.sections) (all_subparts rows) (differ-each (λ s. s.id.0) (λ p. p.sections) (all_subparts rows) (sections-differ rows h)) p m)

-- where keys differ over all pieces, two pieces with elements of one key are one
pub one-piece : {X Y : Type 0} (key : Y → ℕ) (f : X → List Y) (xs : List X) → keys_differ key (flat_map f xs) ≡ true → (p q : X) → Member xs p → Member xs q
    → (a b : Y) → Member (f p) a → Member (f q) b → key a ≡ key b → p ≡ q
one-piece key f [] h p q m n a b ma mb e = absurd m
one-piece key f (x ∷ xs) h p q (inl d) (inl c) a b ma mb e = sym d ∙ c
one-piece key f (x ∷ xs) h p q (inl d) (inr n) a b ma mb e =
    absurd (not_both (list_any (λ z. key z == key b) (f x))
    (any-of (λ z. key z == key b) (f x) a (subst (λ v. Member (f v) a) (sym d) ma) (eq-eqb (key a) (key b) e))
    (not_true _ (all-at (λ y. not (list_any (λ z. key z == key y) (f x))) (flat_map f xs) (differ-across key (f x) (flat_map f xs) h) b (Members.member-of_flat_map f xs q b n mb))))
one-piece key f (x ∷ xs) h p q (inr m) (inl c) a b ma mb e =
    absurd (not_both (list_any (λ z. key z == key a) (f x))
    (any-of (λ z. key z == key a) (f x) b (subst (λ v. Member (f v) b) (sym c) mb) (eq-eqb (key b) (key a) (sym e)))
    (not_true _ (all-at (λ y. not (list_any (λ z. key z == key y) (f x))) (flat_map f xs) (differ-across key (f x) (flat_map f xs) h) a (Members.member-of_flat_map f xs p a m ma))))
one-piece key f (x ∷ xs) h p q (inr m) (inr n) a b ma mb e = one-piece key f xs (differ-right key (f x) (flat_map f xs) h) p q m n a b ma mb e

-- two offerings with one configuration are one
pub one-of-config : (rows : List OfferingRow) → are_checked rows ≡ true → (o p : OfferingRow) → Member rows o → Member rows p
    → (a b : ConfigRow) → Member o.configs a → Member p.configs b → a.id.0 ≡ b.id.0 → o ≡ p
one-of-config rows h o p m n = one-piece (λ g. g.id.0) (λ o. o.configs) rows (configs-differ rows h) o p m n

-- and so are two with one section
pub one-of-section : (rows : List OfferingRow) → are_checked rows ≡ true → (o p : OfferingRow) → Member rows o → Member rows p
    → (a b : SectionRow) → Member (sections_of o) a → Member (sections_of p) b → a.id.0 ≡ b.id.0 → o ≡ p
one-of-section rows h o p m n = one-piece (λ s. s.id.0) sections_of rows (subst (λ xs. keys_differ (λ s. s.id.0) xs ≡ true) (row-by-row rows) (sections-differ rows h)) o p m n

-- where keys differ, an element is found by its key
find-apart : {X : Type 0} (key : X → ℕ) (xs : List X) → keys_differ key xs ≡ true → (x : X) → Member xs x → (n : ℕ) → key x ≡ n → find (λ y. key y == n) xs ≡ Some x
find-apart key [] h x m n e = absurd m
find-apart key (y ∷ ys) h x (inl s) n e = (λ i. cond (eq-eqb (key y) n (ap key s ∙ e) i) (Some y) (find (λ z. key z == n) ys)) ∙ ap Some s
find-apart {X = X} key (y ∷ ys) h x (inr m) n e = by_test (key y == n) refl (find-apart key ys (both-right (not (list_any (λ z. key y == key z) ys)) (keys_differ key ys) h) x m n e)
  where
    by_test : (b : Bool) → key y == n ≡ b → find (λ z. key z == n) ys ≡ Some x → cond b (Some y) (find (λ z. key z == n) ys) ≡ Some x
    by_test true t ih =
        absurd (not_both (list_any (λ z. key y == key z) ys) (any-of (λ z. key y == key z) ys x m (eq-eqb (key y) (key x) (eqb-true (key y) n t ∙ sym e)))
        (not_true _ (both-left (not (list_any (λ z. key y == key z) ys)) (keys_differ key ys) h)))
    by_test false t ih = ih

-- what stands where a decision leads
module _ (w : World) (checked : are_checked w.catalogue.rows ≡ true) where
  pub offering-member : (course : CourseId) (o : OfferingRow) → offering_of w course ≡ Some o → Member w.catalogue.rows o
  offering-member course o e = (Members.find-member (λ o. has_course o course) w.catalogue.rows o e).0

  pub offering-configs : (course : CourseId) (o : OfferingRow) → offering_of w course ≡ Some o → all_differ (map (λ g. g.id.0) o.configs) ≡ true
  offering-configs course o e = configs-apart w.catalogue.rows checked o (offering-member course o e)

  -- a configuration of the offering is the one that the catalogue finds
  pub config-found : (course : CourseId) (config : ConfigId) (o : OfferingRow) → offering_of w course ≡ Some o → is_some (config_in o config) ≡ true
      → config_in o config ≡ find_config w.catalogue.rows config
  config-found course config o e has =
      let g = Members.known (config_in o config) has in
      let b = Members.find-member (λ g. g.id.0 == config.0) o.configs g.0 g.1 in
      g.1
      ∙ sym (find-apart (λ g. g.id.0) (all_configs w.catalogue.rows) (configs-differ w.catalogue.rows checked) g.0
      (Members.member-of_flat_map (λ o. o.configs) w.catalogue.rows o g.0 (offering-member course o e) b.0) config.0 (eqb-true g.0.id.0 config.0 b.1))

  -- the configuration of a subpart, and its offering
  pub subpart-stands : (course : CourseId) (config : ConfigId) (p : SubpartRow) → Member (subparts_of w course config) p
      → (o : OfferingRow) × (g : ConfigRow) × (offering_of w course ≡ Some o) × Member w.catalogue.rows o × Member o.configs g × Member g.subparts p
  subpart-stands course config p m = by_offering (offering_of w course) refl m
    where
      by_config : (o : OfferingRow) → offering_of w course ≡ Some o → (x : Option ConfigRow) → config_in o config ≡ x → Member (option_map_or (λ g. g.subparts) x []) p
          → (o : OfferingRow) × (g : ConfigRow) × (offering_of w course ≡ Some o) × Member w.catalogue.rows o × Member o.configs g × Member g.subparts p
      by_config o e None f m = absurd m
      by_config o e (Some g) f m = (o, g, e, offering-member course o e, (Members.find-member (λ g. g.id.0 == config.0) o.configs g f).0, m)

      by_offering : (x : Option OfferingRow) → offering_of w course ≡ x → Member (option_map_or (λ g. g.subparts) (option_and_then (λ o. config_in o config) x) []) p
          → (o : OfferingRow) × (g : ConfigRow) × (offering_of w course ≡ Some o) × Member w.catalogue.rows o × Member o.configs g × Member g.subparts p
      by_offering None e m = absurd m
      by_offering (Some o) e m = by_config o e (config_in o config) refl m

  pub subpart-sections : (course : CourseId) (config : ConfigId) (p : SubpartRow) → Member (subparts_of w course config) p → all_differ (map (λ s. s.id.0) p.sections) ≡ true
  subpart-sections course config p m =
      let s = subpart-stands course config p m in
      sections-apart w.catalogue.rows checked p
      (Members.member-of_flat_map (λ g. g.subparts) (all_configs w.catalogue.rows) s.1 p
      (Members.member-of_flat_map (λ o. o.configs) w.catalogue.rows s.0 s.1 s.3 s.4) s.5)

  -- a configuration of the offering is found there by its id
  pub config-itself : (course : CourseId) (o : OfferingRow) → offering_of w course ≡ Some o → (g : ConfigRow) → Member o.configs g → config_in o g.id ≡ Some g
  config-itself course o e g m =
      find-apart (λ g. g.id.0) o.configs
      (all-at (λ o. keys_differ (λ g. g.id.0) o.configs) w.catalogue.rows (differ-each (λ g. g.id.0) (λ o. o.configs) w.catalogue.rows (configs-differ w.catalogue.rows checked)) o
      (offering-member course o e))
      g m g.id.0 refl

  -- a section of the configuration's subparts is found in the catalogue by its id
  pub section-itself : (course : CourseId) (config : ConfigId) (p : SubpartRow) → Member (subparts_of w course config) p → (s : SectionRow) → Member p.sections s
      → find_section w.catalogue.rows s.id ≡ Some s
  section-itself course config p m s n =
      let x = subpart-stands course config p m in
      find-apart (λ s. s.id.0) (all_sections w.catalogue.rows) (sections-differ w.catalogue.rows checked) s
      (Members.member-of_flat_map (λ p. p.sections) (all_subparts w.catalogue.rows) p s
      (Members.member-of_flat_map (λ g. g.subparts) (all_configs w.catalogue.rows) x.1 p
      (Members.member-of_flat_map (λ o. o.configs) w.catalogue.rows x.0 x.1 x.3 x.4) x.5) n)
      s.id.0 refl
