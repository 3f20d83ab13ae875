-- Another limit changes no id, no fault and no count.
use Rattle.std.specs.Prelude.{◌≡◌, ℕ, suc, ◌+◌, Bool, true, false, not, ◌&&◌, ◌||◌, ◌==◌, cond, List, [], ◌∷◌, ◌++◌, length, map, find, flat_map, Option, Some, None, refl}
use Rattle.std.specs.List.{list_any}
use Rattle.std.specs.Option.{option_map, option_map_or, option_or, is_none}
use Rattle.std.specs.Bool.{then_some}
use Rattle.std.proofs.Common.{sym, ◌∙◌, ap, arith}
use Rattle.std.proofs.lemmas.List.{map-append}
use Rattle.sect_base.specs.Capped.{capped}
use Rattle.sect_base.specs.declared.limit.Cap.{Cap}
use Rattle.sect_base.specs.declared.limit.Limit.{Limit}
use Rattle.sect_base.specs.declared.ids.CourseId.{CourseId}
use Rattle.sect_catalog.specs.declared.row.OfferingRow.{OfferingRow}
use Rattle.sect_catalog.specs.declared.row.CourseRow.{CourseRow}
use Rattle.sect_catalog.specs.declared.row.ConfigRow.{ConfigRow}
use Rattle.sect_catalog.specs.declared.row.SubpartRow.{SubpartRow}
use Rattle.sect_catalog.specs.declared.row.SectionRow.{SectionRow}
use Rattle.sect_catalog.specs.declared.row.CatalogFault.TheVariants.{Known, NoCourse, NoConfig, NoSubpart, NoSection, BadParent, TooMany}
use Rattle.sect_catalog.specs.declared.place.Place.{Place}
use Rattle.sect_catalog.specs.Fault.{fault_of, are_checked_after, row_ids, config_ids, subpart_ids, same_kind, stands_twice, known_id, is_empty, bad_parent_after, bad_parent, above, too_many}
use Rattle.sect_catalog.specs.Catalogue.{all_courses, all_configs, all_subparts, all_sections, sections_in}
use Rattle.sect_catalog.specs.Limits.{with_limit, capped_course, capped_config, capped_subpart, capped_section}
use Rattle.sect_catalog.specs.declared.index.Index.{Index}
use Rattle.sect_catalog.specs.Place.{Entry, placed, section_entry, subpart_entries, config_entries, course_entry, at_row, row_entries, all_entries, place_in}
use Rattle.sect_catalog.specs.Rising.{put_all_rising, Keeps}

-- ---- plain lists and options

find-map : {X Y : Type 0} (p : Y → Bool) {q : X → Bool} (f : X → Y) (xs : List X) → ((x : X) → p (f x) ≡ q x) → find p (map f xs) ≡ option_map f (find q xs)
find-map p f [] h = refl
find-map {X = X} {Y = Y} p {q = q} f (x ∷ xs) h = (λ i. cond (h x i) (Some (f x)) (find-map p {q = q} f xs h i)) ∙ by_test (q x)
  where
    by_test : (b : Bool) → cond b (Some (f x)) (option_map f (find q xs)) ≡ option_map f (cond b (Some x) (find q xs))
    by_test true = refl
    by_test false = refl

map-key : {X K : Type 0} (key : X → K) (f : X → X) (xs : List X) → ((x : X) → key (f x) ≡ key x) → map key (map f xs) ≡ map key xs
map-key key f [] h = refl
map-key key f (x ∷ xs) h = λ i. h x i ∷ map-key key f xs h i

pub any-map : {X Y : Type 0} (p : Y → Bool) (f : X → Y) (xs : List X) → list_any p (map f xs) ≡ list_any (λ x. p (f x)) xs
any-map p f [] = refl
any-map p f (x ∷ xs) = ap (λ b. p (f x) || b) (any-map p f xs)

map-map : {X Y Z : Type 0} (g : Y → Z) (f : X → Y) (xs : List X) → map g (map f xs) ≡ map (λ x. g (f x)) xs
map-map g f [] = refl
map-map g f (x ∷ xs) = ap (λ ys. g (f x) ∷ ys) (map-map g f xs)

length-of_map : {X Y : Type 0} (f : X → Y) (xs : List X) → length (map f xs) ≡ length xs
length-of_map f [] = refl
length-of_map f (x ∷ xs) = omega (arith, length-of_map f xs)

-- the parts of changed rows are the changed parts
parts : {X Y : Type 0} (part : X → List Y) (f : X → X) (g : Y → Y) (xs : List X) → ((x : X) → part (f x) ≡ map g (part x)) → flat_map part (map f xs) ≡ map g (flat_map part xs)
parts part f g [] h = refl
parts part f g (x ∷ xs) h = (λ i. h x i ++ parts part f g xs h i) ∙ sym (map-append g (part x) (flat_map part xs))

parts-same : {X Y : Type 0} (part : X → List Y) (f : X → X) (xs : List X) → ((x : X) → part (f x) ≡ part x) → flat_map part (map f xs) ≡ flat_map part xs
parts-same part f [] h = refl
parts-same part f (x ∷ xs) h = λ i. h x i ++ parts-same part f xs h i

map-twice : {X Y Z : Type 0} (g : Y → Z) (f : X → Y) (o : Option X) → option_map g (option_map f o) ≡ option_map (λ x. g (f x)) o
map-twice g f None = refl
map-twice g f (Some x) = refl

find-same : {X : Type 0} (p q : X → Bool) (xs : List X) → ((x : X) → p x ≡ q x) → find p xs ≡ find q xs
find-same p q [] h = refl
find-same p q (x ∷ xs) h = λ i. cond (h x i) (Some x) (find-same p q xs h i)

module _ (cap : Cap) (limit : Limit) where
  -- ---- the rows after

  abbrev course : CourseRow → CourseRow
  course c = capped_course cap limit c

  abbrev section : SectionRow → SectionRow
  section s = capped_section cap limit s

  abbrev subpart : SubpartRow → SubpartRow
  subpart p = capped_subpart cap limit p

  abbrev config : ConfigRow → ConfigRow
  config g = capped_config cap limit g

  abbrev offering : OfferingRow → OfferingRow
  offering o = with_limit cap limit o

  courses-after : (rows : List OfferingRow) → all_courses (map offering rows) ≡ map course (all_courses rows)
  courses-after rows = parts (λ o. o.courses) offering course rows (λ o. refl)

  configs-after : (rows : List OfferingRow) → all_configs (map offering rows) ≡ map config (all_configs rows)
  configs-after rows = parts (λ o. o.configs) offering config rows (λ o. refl)

  subparts-of : (gs : List ConfigRow) → flat_map (λ g. g.subparts) (map config gs) ≡ map subpart (flat_map (λ g. g.subparts) gs)
  subparts-of gs = parts (λ g. g.subparts) config subpart gs (λ g. refl)

  sections-of : (ps : List SubpartRow) → sections_in (map subpart ps) ≡ map section (sections_in ps)
  sections-of ps = parts (λ p. p.sections) subpart section ps (λ p. refl)

  sections-after : (rows : List OfferingRow) → all_sections (map offering rows) ≡ map section (all_sections rows)
  sections-after rows =
      ap (λ gs. sections_in (flat_map (λ g. g.subparts) gs)) (configs-after rows)
      ∙ ap sections_in (subparts-of (all_configs rows))
      ∙ sections-of (all_subparts rows)

  -- ---- checks of rows

  row_ids-after : (o : OfferingRow) → row_ids (offering o) ≡ row_ids o
  row_ids-after o = λ i. (0, o.id.0) ∷ map-map (λ c. (1, c.id.0)) course o.courses i ++ parts-same config_ids config o.configs config_ids-after i
    where
      subpart_ids-after : (p : SubpartRow) → subpart_ids (subpart p) ≡ subpart_ids p
      subpart_ids-after p = ap (λ ids. (3, p.id.0) ∷ ids) (map-map (λ s. (4, s.id.0)) section p.sections)

      config_ids-after : (g : ConfigRow) → config_ids (config g) ≡ config_ids g
      config_ids-after g = ap (λ ids. (2, g.id.0) ∷ ids) (parts-same subpart_ids subpart g.subparts subpart_ids-after)

  bad_parent_after-same : (earlier : List SectionRow) (ps : List SubpartRow) → bad_parent_after (map section earlier) (map subpart ps) ≡ bad_parent_after earlier ps
  bad_parent_after-same earlier [] = refl
  bad_parent_after-same earlier (p ∷ ps) = λ i. option_or (here i) (rest (bad_parent_after-same (earlier ++ p.sections) ps) i)
    where
      here : option_map (λ s. s.id.0) (find (λ s. option_map_or (λ parent. not (list_any (λ e. e.id.0 == parent.0) (map section earlier))) s.parent false) (map section p.sections))
          ≡ option_map (λ s. s.id.0) (find (λ s. option_map_or (λ parent. not (list_any (λ e. e.id.0 == parent.0) earlier)) s.parent false) p.sections)
      here =
          ap (option_map (λ s. s.id.0)) (find-map (λ s. option_map_or (λ parent. not (list_any (λ e. e.id.0 == parent.0) (map section earlier))) s.parent false) section p.sections (λ s. refl))
          ∙ map-twice (λ s. s.id.0) section (find (λ s. option_map_or (λ parent. not (list_any (λ e. e.id.0 == parent.0) (map section earlier))) s.parent false) p.sections)
          ∙ ap (option_map (λ s. s.id.0)) (find-same (λ s. option_map_or (λ parent. not (list_any (λ e. e.id.0 == parent.0) (map section earlier))) s.parent false) (λ s. option_map_or (λ parent. not (list_any (λ e. e.id.0 == parent.0) earlier)) s.parent false) p.sections
          (λ s. λ i. option_map_or (λ parent. not (any-map (λ e. e.id.0 == parent.0) section earlier i)) s.parent false))

      rest : bad_parent_after (map section (earlier ++ p.sections)) (map subpart ps) ≡ bad_parent_after (earlier ++ p.sections) ps
          → bad_parent_after (map section earlier ++ map section p.sections) (map subpart ps) ≡ bad_parent_after (earlier ++ p.sections) ps
      rest ih = ap (λ es. bad_parent_after es (map subpart ps)) (sym (map-append section earlier p.sections)) ∙ ih

  bad_parent-same : (gs : List ConfigRow) → bad_parent (map config gs) ≡ bad_parent gs
  bad_parent-same [] = refl
  bad_parent-same (g ∷ gs) = λ i. option_or (bad_parent_after-same [] g.subparts i) (bad_parent-same gs i)

  -- the subparts and sections of an offering
  subparts-in : (o : OfferingRow) → flat_map (λ g. g.subparts) (map config o.configs) ≡ map subpart (flat_map (λ g. g.subparts) o.configs)
  subparts-in o = subparts-of o.configs

  sections-in : (o : OfferingRow) → sections_in (flat_map (λ g. g.subparts) (map config o.configs)) ≡ map section (sections_in (flat_map (λ g. g.subparts) o.configs))
  sections-in o = ap sections_in (subparts-in o) ∙ sections-of (flat_map (λ g. g.subparts) o.configs)

  too_many-same : (before : List OfferingRow) (o : OfferingRow) → too_many (record { rows = map offering before; cancelled = [] }) (offering o) ≡ too_many (record { rows = before; cancelled = [] }) o
  too_many-same before o = λ i.
      option_or (above 10 (length-of_map course o.courses i ∷ []))
      (option_or (above 10 (length-of_map config o.configs i ∷ []))
      (option_or (above 6 (map-key (λ g. length g.subparts) config o.configs (λ g. length-of_map subpart g.subparts) i))
      (option_or (above 200 (sections_each i))
      (option_or (above 8 (meetings_each i))
      (above 20000 ((all_count i + new_count i) ∷ []))))))
    where
      sections_each : map (λ p. length p.sections) (flat_map (λ g. g.subparts) (map config o.configs)) ≡ map (λ p. length p.sections) (flat_map (λ g. g.subparts) o.configs)
      sections_each =
          ap (map (λ p. length p.sections)) (subparts-in o)
          ∙ map-key (λ p. length p.sections) subpart (flat_map (λ g. g.subparts) o.configs) (λ p. length-of_map section p.sections)

      meetings_each : map (λ s. length s.meetings) (sections_in (flat_map (λ g. g.subparts) (map config o.configs))) ≡ map (λ s. length s.meetings) (sections_in (flat_map (λ g. g.subparts) o.configs))
      meetings_each =
          ap (map (λ s. length s.meetings)) (sections-in o)
          ∙ map-key (λ s. length s.meetings) section (sections_in (flat_map (λ g. g.subparts) o.configs)) (λ s. refl)

      all_count : length (all_sections (map offering before)) ≡ length (all_sections before)
      all_count = ap length (sections-after before) ∙ length-of_map section (all_sections before)

      new_count : length (sections_in (flat_map (λ g. g.subparts) (map config o.configs))) ≡ length (sections_in (flat_map (λ g. g.subparts) o.configs))
      new_count = ap length (sections-in o) ∙ length-of_map section (sections_in (flat_map (λ g. g.subparts) o.configs))

  fault-same : (before : List OfferingRow) (o : OfferingRow) → fault_of (record { rows = map offering before; cancelled = [] }) (offering o) ≡ fault_of (record { rows = before; cancelled = [] }) o
  fault-same before o = λ i.
      option_or (option_map Known (known i))
      (option_or (then_some (length-of_map course o.courses i == 0) NoCourse)
      (option_or (then_some (length-of_map config o.configs i == 0) NoConfig)
      (option_or (no_subpart i)
      (option_or (no_section i)
      (option_or (option_map BadParent (bad_parent-same o.configs i))
      (option_map (λ n. TooMany (capped n)) (too_many-same before o i)))))))
    where
      known : known_id (record { rows = map offering before; cancelled = [] }) (offering o) ≡ known_id (record { rows = before; cancelled = [] }) o
      known = λ i. option_map (λ id. id.1) (find (λ id. list_any (same_kind id) (parts-same row_ids offering before row_ids-after i) || stands_twice (row_ids-after o i) id) (row_ids-after o i))

      no_subpart : option_map (λ g. NoSubpart g.id.0) (find (λ g. is_empty g.subparts) (map config o.configs)) ≡ option_map (λ g. NoSubpart g.id.0) (find (λ g. is_empty g.subparts) o.configs)
      no_subpart =
          ap (option_map (λ g. NoSubpart g.id.0)) (find-map (λ g. is_empty g.subparts) config o.configs (λ g. λ i. length-of_map subpart g.subparts i == 0))
          ∙ map-twice (λ g. NoSubpart g.id.0) config (find (λ g. is_empty g.subparts) o.configs)

      no_section : option_map (λ p. NoSection p.id.0) (find (λ p. is_empty p.sections) (flat_map (λ g. g.subparts) (map config o.configs))) ≡ option_map (λ p. NoSection p.id.0) (find (λ p. is_empty p.sections) (flat_map (λ g. g.subparts) o.configs))
      no_section =
          ap (λ ps. option_map (λ p. NoSection p.id.0) (find (λ p. is_empty p.sections) ps)) (subparts-in o)
          ∙ ap (option_map (λ p. NoSection p.id.0)) (find-map (λ p. is_empty p.sections) subpart (flat_map (λ g. g.subparts) o.configs) (λ p. λ i. length-of_map section p.sections i == 0))
          ∙ map-twice (λ p. NoSection p.id.0) subpart (find (λ p. is_empty p.sections) (flat_map (λ g. g.subparts) o.configs))

  checked-same : (before os : List OfferingRow) → are_checked_after (map offering before) (map offering os) ≡ are_checked_after before os
  checked-same before [] = refl
  checked-same before (o ∷ os) = λ i. is_none (fault-same before o i) && rest (checked-same (before ++ o ∷ []) os) i
    where
      rest : are_checked_after (map offering (before ++ o ∷ [])) (map offering os) ≡ are_checked_after (before ++ o ∷ []) os
          → are_checked_after (map offering before ++ offering o ∷ []) (map offering os) ≡ are_checked_after (before ++ o ∷ []) os
      rest ih = ap (λ rows. are_checked_after rows (map offering os)) (sym (map-append offering before (o ∷ []))) ∙ ih

  -- ---- entries

  placed-same : {X : Type 0} (f : ℕ → X → List Entry) (g : X → X) → ((n : ℕ) (x : X) → f n (g x) ≡ f n x) → (n : ℕ) (xs : List X) → placed f n (map g xs) ≡ placed f n xs
  placed-same f g same n [] = refl
  placed-same f g same n (x ∷ xs) = λ i. same n x i ++ placed-same f g same (suc n) xs i

  subpart-same : (at : Place) (n : ℕ) (p : SubpartRow) → subpart_entries at n (subpart p) ≡ subpart_entries at n p
  subpart-same at n p = ap (λ es. ((3, p.id.0), record at { subpart = n }) ∷ es) (placed-same (section_entry (record at { subpart = n })) section (λ n s. refl) 0 p.sections)

  config-same : (at : Place) (n : ℕ) (g : ConfigRow) → config_entries at n (config g) ≡ config_entries at n g
  config-same at n g = ap (λ es. ((2, g.id.0), record at { config = n }) ∷ es) (placed-same (subpart_entries (record at { config = n })) subpart (subpart-same (record at { config = n })) 0 g.subparts)

  row-same : (n : ℕ) (o : OfferingRow) → row_entries n (offering o) ≡ row_entries n o
  row-same n o = λ i.
      ((0, o.id.0), at_row n) ∷ placed-same (course_entry (at_row n)) course (λ n c. refl) 0 o.courses i ++ placed-same (config_entries (at_row n)) config (config-same (at_row n)) 0 o.configs i

  pub entries-same : (rows : List OfferingRow) → all_entries (map offering rows) ≡ all_entries rows
  entries-same rows = placed-same row_entries offering row-same 0 rows

  pub limit-keeps : (rows : List OfferingRow) (index : Index) (courses : List CourseId) (sections : ℕ) → Keeps rows index courses sections → Keeps (map offering rows) index courses sections
  limit-keeps rows index courses sections k = record {
    checked = checked-same [] rows ∙ k.checked;
    places = λ id. k.places id ∙ ap (λ es. place_in es id) (sym (entries-same rows));
    rising = k.rising ∙ ap (put_all_rising []) (sym (ap (map (λ c. c.id)) (courses-after rows) ∙ map-key (λ (c : CourseRow). c.id) course (all_courses rows) (λ c. refl)));
    counted = k.counted ∙ sym (ap length (sections-after rows) ∙ length-of_map section (all_sections rows));
  }
