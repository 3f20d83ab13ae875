-- What the catalogue keeps as a row comes, and what it has again where memory ran out.
use Rattle.std.specs.Prelude.{◌≡◌, ℕ, zero, suc, ◌+◌, ◌-◌, ◌^◌, ◌<◌, ◌≤◌, min, nat_lt, Bool, true, false, not, ◌&&◌, cond, List, [], ◌∷◌, ◌++◌, length, map, flat_map, Option, Some, None, refl}
use Rattle.std.specs.List.{list_all}
use Rattle.std.specs.Option.{option_or, option_map, is_none}
use Rattle.std.proofs.Common.{sym, ◌∙◌, ap, arith, subst, take, append_assoc, length-append}
use Rattle.std.proofs.lemmas.Bool.Decides.{nat_tests}
use Rattle.std.proofs.lemmas.Grind.{flat_map-append}
use Rattle.std.proofs.lemmas.List.{append-nil}
use Rattle.sect_base.specs.Capped.{capped}
use Rattle.sect_base.specs.declared.ids.CourseId.{CourseId}
use Rattle.sect_base.specs.declared.ids.SectionId.{SectionId}
use Rattle.sect_catalog.specs.declared.row.OfferingRow.{OfferingRow}
use Rattle.sect_catalog.specs.declared.row.ConfigRow.{ConfigRow}
use Rattle.sect_catalog.specs.declared.row.SubpartRow.{SubpartRow}
use Rattle.sect_catalog.specs.declared.row.SectionRow.{SectionRow}
use Rattle.sect_catalog.specs.declared.row.CourseRow.{CourseRow}
use Rattle.sect_catalog.specs.declared.row.CatalogFault.TheVariants.{Known, BadParent, TooMany}
use Rattle.sect_catalog.specs.declared.row.CatalogFault.{CatalogFault}
use Rattle.sect_catalog.specs.declared.place.Place.{Place}
use Rattle.sect_catalog.specs.Catalogue.{Catalogue, sections_in, all_courses, all_configs, all_subparts, all_sections}
use Rattle.sect_catalog.specs.Fault.{same_kind, known_id, bad_parent, fault_of, are_checked_after}
use Rattle.sect_catalog.specs.declared.index.Index.{Index}
use Rattle.sect_catalog.specs.Place.{Entry, placed, section_entry, subpart_entries, config_entries, course_entry, at_row, row_entries, all_entries, place_in, IsIndex, Notes, KeepsFirst, first_only}
use Rattle.sect_catalog.specs.Search.{missing_part, count_fault, too_many_of}
use Rattle.sect_catalog.specs.Rising.{put_all_rising, rising_courses, Keeps}
use Rattle.sect_catalog.proofs.CheckLemmas.{map-append}
use Rattle.sect_catalog.proofs.CountLemmas.{fault-parts}
use Rattle.sect_catalog.proofs.IndexLemmas.{place-append}
use Rattle.sect_catalog.proofs.PlacedLemmas.{placed-append}
use Rattle.sect_catalog.proofs.RisingLemmas.{put-append}

-- ---- tests of places

pub both : (a b : Bool) → a ≡ true → b ≡ true → a && b ≡ true
both a b h k = (λ i. h i && b) ∙ k

pub both-left : (a b : Bool) → a && b ≡ true → a ≡ true
both-left true b h = refl
both-left false b h = h

pub both-right : (a b : Bool) → a && b ≡ true → b ≡ true
both-right true b h = h
both-right false b h = cc

abbrev pub all_at : (Place → Bool) → List Entry → Bool
all_at q es = list_all (λ e. q e.1) es

pub all-append : (q : Place → Bool) (es fs : List Entry) → all_at q es ≡ true → all_at q fs ≡ true → all_at q (es ++ fs) ≡ true
all-append q [] fs h k = k
all-append q (e ∷ es) fs h k = both (q e.1) (all_at q (es ++ fs)) (both-left (q e.1) (all_at q es) h) (all-append q es fs (both-right (q e.1) (all_at q es) h) k)

all-take : (q : Place → Bool) (n : ℕ) (es : List Entry) → all_at q es ≡ true → all_at q (take n es) ≡ true
all-take q zero es h = refl
all-take q (suc n) [] h = refl
all-take q (suc n) (e ∷ es) h = both (q e.1) (all_at q (take n es)) (both-left (q e.1) (all_at q es) h) (all-take q n es (both-right (q e.1) (all_at q es) h))

pub all-placed : {X : Type 0} (q : Place → Bool) (f : ℕ → X → List Entry) → ((n : ℕ) (x : X) → all_at q (f n x) ≡ true) → (n : ℕ) (xs : List X) → all_at q (placed f n xs) ≡ true
all-placed q f each n [] = refl
all-placed q f each n (x ∷ xs) = all-append q (f n x) (placed f (suc n) xs) (each n x) (all-placed q f each (suc n) xs)

pub all-row : (q : Place → Bool) (n : ℕ) (o : OfferingRow) → ((at : Place) → at.row ≡ n → q at ≡ true) → all_at q (row_entries n o) ≡ true
all-row q n o passes =
    both (q (at_row n)) (all_at q (placed (course_entry (at_row n)) 0 o.courses ++ placed (config_entries (at_row n)) 0 o.configs)) (passes (at_row n) refl)
    (all-append q (placed (course_entry (at_row n)) 0 o.courses) (placed (config_entries (at_row n)) 0 o.configs)
    (all-placed q (course_entry (at_row n)) (λ k c. both (q (record (at_row n) { config = k })) true (passes (record (at_row n) { config = k }) refl) refl) 0 o.courses)
    (all-placed q (config_entries (at_row n)) config 0 o.configs))
  where
    sections : (at : Place) → at.row ≡ n → (k : ℕ) (s : SectionRow) → all_at q (section_entry at k s) ≡ true
    sections at h k s = both (q (record at { section = k })) true (passes (record at { section = k }) h) refl

    subpart : (at : Place) → at.row ≡ n → (k : ℕ) (p : SubpartRow) → all_at q (subpart_entries at k p) ≡ true
    subpart at h k p =
        both (q (record at { subpart = k })) (all_at q (placed (section_entry (record at { subpart = k })) 0 p.sections)) (passes (record at { subpart = k }) h)
        (all-placed q (section_entry (record at { subpart = k })) (sections (record at { subpart = k }) h) 0 p.sections)

    config : (k : ℕ) (g : ConfigRow) → all_at q (config_entries (at_row n) k g) ≡ true
    config k g =
        both (q (record (at_row n) { config = k })) (all_at q (placed (subpart_entries (record (at_row n) { config = k })) 0 g.subparts)) (passes (record (at_row n) { config = k }) refl)
        (all-placed q (subpart_entries (record (at_row n) { config = k })) (subpart (record (at_row n) { config = k }) refl) 0 g.subparts)

-- the places of rows are among them
pub all-rows : (most : ℕ) (n : ℕ) (rows : List OfferingRow) → n + length rows ≤ most → all_at (λ at. nat_lt at.row most) (placed row_entries n rows) ≡ true
all-rows most n [] h = refl
all-rows most n (o ∷ os) h =
    all-append (λ at. nat_lt at.row most) (row_entries n o) (placed row_entries (suc n) os)
    (all-row (λ at. nat_lt at.row most) n o (λ at e. ap (λ k. nat_lt k most) e ∙ below n (omega arith)))
    (all-rows most (suc n) os (omega arith))
  where
    below : (k : ℕ) → k < most → nat_lt k most ≡ true
    below k h = grind (arith, nat_tests)

keeps-those : (n : ℕ) (es : List Entry) (id : ℕ × ℕ) → all_at (λ at. nat_lt at.row n) es ≡ true → first_only n (place_in es id) ≡ place_in es id
keeps-those n [] id h = refl
keeps-those n (e ∷ es) id h = by_test (keeps-those n es id (both-right (nat_lt e.1.row n) (all_at (λ at. nat_lt at.row n) es) h)) (same_kind id e.0)
  where
    by_test : first_only n (place_in es id) ≡ place_in es id → (b : Bool) → first_only n (cond b (Some e.1) (place_in es id)) ≡ cond b (Some e.1) (place_in es id)
    by_test ih true = ap (λ b. cond b (Some e.1) None) (both-left (nat_lt e.1.row n) (all_at (λ at. nat_lt at.row n) es) h)
    by_test ih false = ih

drops-those : (n : ℕ) (es : List Entry) (id : ℕ × ℕ) → all_at (λ at. not (nat_lt at.row n)) es ≡ true → first_only n (place_in es id) ≡ None
drops-those n [] id h = refl
drops-those n (e ∷ es) id h = by_test (drops-those n es id (both-right (not (nat_lt e.1.row n)) (all_at (λ at. not (nat_lt at.row n)) es) h)) (same_kind id e.0)
  where
    refused : (b : Bool) → not b ≡ true → cond b (Some e.1) None ≡ None
    refused true h = cc
    refused false h = refl

    by_test : first_only n (place_in es id) ≡ None → (b : Bool) → first_only n (cond b (Some e.1) (place_in es id)) ≡ None
    by_test ih true = refused (nat_lt e.1.row n) (both-left (not (nat_lt e.1.row n)) (all_at (λ at. not (nat_lt at.row n)) es) h)
    by_test ih false = ih

-- what is forgotten of a row beside the others leaves the others
pub forgotten : (n : ℕ) (es fs : List Entry) (id : ℕ × ℕ) → all_at (λ at. nat_lt at.row n) es ≡ true → all_at (λ at. not (nat_lt at.row n)) fs ≡ true
    → first_only n (option_or (place_in es id) (place_in fs id)) ≡ place_in es id
forgotten n es fs id h k = by_place (place_in es id) (keeps-those n es id h)
  where
    by_place : (o : Option Place) → first_only n o ≡ o → first_only n (option_or o (place_in fs id)) ≡ o
    by_place None e = drops-those n fs id k
    by_place (Some at) e = e

pub taken_back : (rows : List OfferingRow) (o : OfferingRow) (old mid new : Index) (entries : List Entry) (n k : ℕ) → n ≡ length rows → entries ≡ row_entries n o
    → IsIndex old rows → Notes old mid (take k entries) → KeepsFirst n mid new → IsIndex new rows
taken_back rows o old mid new entries n k len are is notes keeps id =
    keeps id ∙ ap (first_only n) (notes id ∙ ap (λ p. option_or p (place_in (take k entries) id)) (is id))
    ∙ forgotten n (all_entries rows) (take k entries) id (all-rows n 0 rows (omega arith))
    (all-take (λ at. not (nat_lt at.row n)) k entries (subst (λ es. all_at (λ at. not (nat_lt at.row n)) es ≡ true) (sym are)
    (all-row (λ at. not (nat_lt at.row n)) n o (λ at e. ap (λ k. not (nat_lt k n)) e ∙ past))))
  where
    past : not (nat_lt n n) ≡ true
    past = grind (arith, nat_tests)

-- ---- a row more

pub row-parts : (rows : List OfferingRow) (o : OfferingRow) (n : ℕ) → n ≡ length rows → all_entries (rows ++ o ∷ []) ≡ all_entries rows ++ row_entries n o
row-parts rows o n len =
    let here : 0 + length rows ≡ n = omega (arith, len) in
    placed-append row_entries 0 rows (o ∷ []) ∙ ap (λ es. all_entries rows ++ es) (append-nil (row_entries (0 + length rows) o) ∙ ap (λ k. row_entries k o) here)

pub index-more : (rows : List OfferingRow) (o : OfferingRow) (old new : Index) (entries : List Entry) (n : ℕ) → n ≡ length rows → entries ≡ row_entries n o
    → IsIndex old rows → Notes old new entries → IsIndex new (rows ++ o ∷ [])
index-more rows o old new entries n len are is notes id =
    notes id ∙ (λ i. option_or (is id i) (place_in (are i) id)) ∙ sym (place-append (all_entries rows) (row_entries n o) id) ∙ ap (λ es. place_in es id) (sym (row-parts rows o n len))

flat-one : {X Y : Type 0} (f : X → List Y) (xs : List X) (x : X) → flat_map f (xs ++ x ∷ []) ≡ flat_map f xs ++ f x
flat-one f xs x = flat_map-append f xs (x ∷ []) ∙ ap (λ ys. flat_map f xs ++ ys) (append-nil (f x))

pub courses-of-more : (rows : List OfferingRow) (o : OfferingRow) → put_all_rising (rising_courses rows) (map (λ c. c.id) o.courses) ≡ rising_courses (rows ++ o ∷ [])
courses-of-more rows o =
    sym (put-append [] (map (λ c. c.id) (all_courses rows)) (map (λ c. c.id) o.courses))
    ∙ ap (put_all_rising []) (sym (map-append (λ (c : CourseRow). c.id) (all_courses rows) o.courses) ∙ ap (map (λ c. c.id)) (sym (flat-one (λ (o : OfferingRow). o.courses) rows o)))

abbrev pub row_sections : OfferingRow → ℕ
row_sections o = length (sections_in (flat_map (λ g. g.subparts) o.configs))

pub sections-more : (rows : List OfferingRow) (o : OfferingRow) → length (all_sections (rows ++ o ∷ [])) ≡ length (all_sections rows) + row_sections o
sections-more rows o =
    ap (λ gs. length (sections_in (flat_map (λ (g : ConfigRow). g.subparts) gs))) (flat-one (λ (o : OfferingRow). o.configs) rows o)
    ∙ ap (λ ps. length (sections_in ps)) (flat_map-append (λ (g : ConfigRow). g.subparts) (all_configs rows) o.configs)
    ∙ ap length (flat_map-append (λ (p : SubpartRow). p.sections) (all_subparts rows) (flat_map (λ g. g.subparts) o.configs))
    ∙ length-append (all_sections rows) (sections_in (flat_map (λ g. g.subparts) o.configs))

checked-more : (before rows : List OfferingRow) (o : OfferingRow) → are_checked_after before rows ≡ true → fault_of (record { rows = before ++ rows; cancelled = [] }) o ≡ None → are_checked_after before (rows ++ o ∷ []) ≡ true
checked-more before [] o h e =
    both (is_none (fault_of (record { rows = before; cancelled = [] }) o)) true
    (ap (λ rows. is_none (fault_of (record { rows = rows; cancelled = [] }) o)) (sym (append-nil before)) ∙ ap is_none e) refl
checked-more before (r ∷ rs) o h e =
    both (is_none (fault_of (record { rows = before; cancelled = [] }) r)) (are_checked_after (before ++ r ∷ []) (rs ++ o ∷ []))
    (both-left (is_none (fault_of (record { rows = before; cancelled = [] }) r)) (are_checked_after (before ++ r ∷ []) rs) h)
    (checked-more (before ++ r ∷ []) rs o (both-right (is_none (fault_of (record { rows = before; cancelled = [] }) r)) (are_checked_after (before ++ r ∷ []) rs) h)
    (ap (λ rows. fault_of (record { rows = rows; cancelled = [] }) o) (append_assoc before (r ∷ []) rs) ∙ e))

-- ---- a row that passes leaves room for its sections

second-none : {X : Type 0} (a b : Option X) → option_or a b ≡ None → b ≡ None
second-none None b h = h
second-none (Some x) b h = cc

pub counts-pass : (c : Catalogue) (o : OfferingRow) → fault_of c o ≡ None → length (all_sections c.rows) + row_sections o ≤ 20000
counts-pass c o h = within (length (all_sections c.rows) + row_sections o) last
  where
    within : (n : ℕ) → too_many_of 20000 (n ∷ []) ≡ None → n ≤ 20000
    within n e = by_test (nat_lt 20000 n) refl e
      where
        by_test : (b : Bool) → nat_lt 20000 n ≡ b → option_map {T = ℕ} {U = CatalogFault} (λ n. TooMany (capped n)) (cond b (Some n) None) ≡ None → n ≤ 20000
        by_test true t e = cc
        by_test false t e = grind (arith, nat_tests)

    sixth : (p q r s t u : Option CatalogFault) → option_or p (option_or q (option_or r (option_or s (option_or t u)))) ≡ None → u ≡ None
    sixth p q r s t u h = second-none t u (second-none s (option_or t u) (second-none r (option_or s (option_or t u)) (second-none q (option_or r (option_or s (option_or t u))) (second-none p (option_or q (option_or r (option_or s (option_or t u)))) h))))

    counts : count_fault (length (all_sections c.rows)) o ≡ None
    counts =
        second-none (option_map BadParent (bad_parent o.configs)) (count_fault (length (all_sections c.rows)) o)
        (second-none (missing_part o) (option_or (option_map BadParent (bad_parent o.configs)) (count_fault (length (all_sections c.rows)) o))
        (second-none (option_map Known (known_id c o)) (option_or (missing_part o) (option_or (option_map BadParent (bad_parent o.configs)) (count_fault (length (all_sections c.rows)) o)))
        (sym (fault-parts c o) ∙ h)))

    last : too_many_of 20000 ((length (all_sections c.rows) + row_sections o) ∷ []) ≡ None
    last =
        sixth (too_many_of 10 (length o.courses ∷ [])) (too_many_of 10 (length o.configs ∷ [])) (too_many_of 6 (map (λ g. length g.subparts) o.configs))
        (too_many_of 200 (map (λ p. length p.sections) (flat_map (λ g. g.subparts) o.configs)))
        (too_many_of 8 (map (λ s. length s.meetings) (sections_in (flat_map (λ g. g.subparts) o.configs))))
        (too_many_of 20000 ((length (all_sections c.rows) + row_sections o) ∷ [])) counts

-- the whole, a row more
pub appended : (rows : List OfferingRow) (cancelled : List SectionId) (o : OfferingRow) (old new : Index) (courses : List CourseId) (sections count n : ℕ) (entries : List Entry)
    → Keeps rows old courses sections → fault_of (record { rows = rows; cancelled = cancelled }) o ≡ None → n ≡ length rows → entries ≡ row_entries n o → Notes old new entries → count ≡ min (row_sections o) (2 ^ 64 - 1)
    → Keeps (rows ++ o ∷ []) new (put_all_rising courses (map (λ c. c.id) o.courses)) (sections + count)
appended rows cancelled o old new courses sections count n entries k free len are notes counts = record {
  checked = checked-more [] rows o k.checked free;
  places = index-more rows o old new entries n len are k.places notes;
  rising = ap (λ ids. put_all_rising ids (map (λ c. c.id) o.courses)) k.rising ∙ courses-of-more rows o;
  counted =
      let most : length (all_sections rows) + row_sections o ≤ 20000 = counts-pass (record { rows = rows; cancelled = cancelled }) o free in
      let so : sections ≡ length (all_sections rows) = k.counted in
      let whole : sections + count ≡ length (all_sections rows) + row_sections o = omega (arith, most, so, counts) in
      whole ∙ sym (sections-more rows o);
}

pub sum_fits : (rows : List OfferingRow) (cancelled : List SectionId) (o : OfferingRow) (old : Index) (courses : List CourseId) (sections count : ℕ)
    → Keeps rows old courses sections → fault_of (record { rows = rows; cancelled = cancelled }) o ≡ None → count ≡ min (row_sections o) (2 ^ 64 - 1) → sections + count < 2 ^ 64
sum_fits rows cancelled o old courses sections count k free counts =
    let most : length (all_sections rows) + row_sections o ≤ 20000 = counts-pass (record { rows = rows; cancelled = cancelled }) o free in
    let so : sections ≡ length (all_sections rows) = k.counted in
    omega (arith, most, so, counts)
