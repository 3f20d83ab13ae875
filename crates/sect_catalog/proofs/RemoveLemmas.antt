-- What the catalogue keeps as the last row goes.
use Rattle.std.specs.Prelude.{◌≡◌, ℕ, ◌+◌, ◌-◌, ◌^◌, ◌≤◌, min, nat_lt, Bool, true, false, not, ◌==◌, ◌&&◌, ◌||◌, cond, List, [], ◌∷◌, ◌++◌, length, map, filter, find, flat_map, Option, Some, None, refl}
use Rattle.std.specs.List.{list_any, list_all}
use Rattle.std.specs.Option.{option_or, option_map, is_none}
use Rattle.std.proofs.Common.{sym, ◌∙◌, ap, arith, subst, append_assoc}
use Rattle.std.proofs.lemmas.Bool.{eq-eqb}
use Rattle.std.proofs.lemmas.Bool.Decides.{nat_tests}
use Rattle.std.proofs.lemmas.List.{append-nil}
use Rattle.sect_base.specs.declared.ids.CourseId.{CourseId}
use Rattle.sect_catalog.specs.declared.row.OfferingRow.{OfferingRow}
use Rattle.sect_catalog.specs.declared.row.CourseRow.{CourseRow}
use Rattle.sect_catalog.specs.declared.row.CatalogFault.{CatalogFault}
use Rattle.sect_catalog.specs.declared.row.CatalogFault.TheVariants.{Known, BadParent}
use Rattle.sect_catalog.specs.Catalogue.{Catalogue, all_courses, all_sections}
use Rattle.sect_catalog.specs.Fault.{same_kind, config_ids, row_ids, stands_twice, known_id, bad_parent, fault_of, are_checked_after, are_checked}
use Rattle.sect_catalog.specs.declared.index.Index.{Index}
use Rattle.sect_catalog.specs.Place.{row_entries, all_entries, place_in, IsIndex, KeepsFirst, first_only}
use Rattle.sect_catalog.specs.Rising.{put_rising, put_all_rising, rising_courses, Keeps}
use Rattle.sect_catalog.proofs.AppendLemmas.{both, both-left, both-right, all-row, all-rows, forgotten, row-parts, courses-of-more, row_sections, sections-more, counts-pass}
use Rattle.sect_catalog.proofs.CountLemmas.{fault-parts}
use Rattle.sect_catalog.proofs.IndexLemmas.{place-append}
use Rattle.sect_catalog.proofs.SearchLemmas.{any-append}
use Rattle.sect_catalog.specs.Search.{missing_part, count_fault}

-- ---- the checks

no-fault : (o : Option CatalogFault) → is_none o ≡ true → o ≡ None
no-fault None h = refl
no-fault (Some f) h = cc

checked-less : (before rows : List OfferingRow) (o : OfferingRow) → are_checked_after before (rows ++ o ∷ []) ≡ true
    → (are_checked_after before rows ≡ true) × (fault_of (record { rows = before ++ rows; cancelled = [] }) o ≡ None)
checked-less before [] o h =
    (refl, ap (λ rows. fault_of (record { rows = rows; cancelled = [] }) o) (append-nil before) ∙ no-fault (fault_of (record { rows = before; cancelled = [] }) o) (both-left (is_none (fault_of (record { rows = before; cancelled = [] }) o)) true h))
checked-less before (r ∷ rs) o h =
    let rest : (are_checked_after (before ++ r ∷ []) rs ≡ true) × (fault_of (record { rows = (before ++ r ∷ []) ++ rs; cancelled = [] }) o ≡ None) =
    checked-less (before ++ r ∷ []) rs o (both-right (is_none (fault_of (record { rows = before; cancelled = [] }) r)) (are_checked_after (before ++ r ∷ []) (rs ++ o ∷ [])) h)
    in (
      both (is_none (fault_of (record { rows = before; cancelled = [] }) r)) (are_checked_after (before ++ r ∷ []) rs)
          (both-left (is_none (fault_of (record { rows = before; cancelled = [] }) r)) (are_checked_after (before ++ r ∷ []) (rs ++ o ∷ [])) h) rest.0,
      ap (λ rows. fault_of (record { rows = rows; cancelled = [] }) o) (sym (append_assoc before (r ∷ []) rs)) ∙ rest.1,
    )

-- ---- the index

index-less : (rows : List OfferingRow) (o : OfferingRow) (old new : Index) (n : ℕ) → n ≡ length rows → IsIndex old (rows ++ o ∷ []) → KeepsFirst n old new → IsIndex new rows
index-less rows o old new n len is keeps id =
    keeps id ∙ ap (first_only n) (is id ∙ ap (λ es. place_in es id) (row-parts rows o n len) ∙ place-append (all_entries rows) (row_entries n o) id)
    ∙ forgotten n (all_entries rows) (row_entries n o) id (all-rows n 0 rows (omega arith)) (all-row (λ at. not (nat_lt at.row n)) n o (λ at e. ap (λ k. not (nat_lt k n)) e ∙ past))
  where
    past : not (nat_lt n n) ≡ true
    past = grind (arith, nat_tests)

-- ---- tests that no element passes

pub none-left : (a b : Bool) → a || b ≡ false → a ≡ false
none-left true b h = h
none-left false b h = refl

pub none-right : (a b : Bool) → a || b ≡ false → b ≡ false
none-right true b h = cc
none-right false b h = h

neither : (a b : Bool) → a ≡ false → b ≡ false → a || b ≡ false
neither a b h k = (λ i. h i || b) ∙ k

pub find-none : {X : Type 0} (t : X → Bool) (xs : List X) → find t xs ≡ None → list_any t xs ≡ false
find-none t [] h = refl
find-none t (x ∷ xs) h = by_test (find-none t xs) (t x) h
  where
    by_test : (find t xs ≡ None → list_any t xs ≡ false) → (b : Bool) → cond b (Some x) (find t xs) ≡ None → b || list_any t xs ≡ false
    by_test ih true h = cc
    by_test ih false h = ih h

pub none-first : {X : Type 0} (t : X → Bool) (xs ys : List X) → list_any t (xs ++ ys) ≡ false → list_any t xs ≡ false
none-first t xs ys h = none-left (list_any t xs) (list_any t ys) (sym (any-append t xs ys) ∙ h)

none-second : {X : Type 0} (t : X → Bool) (xs ys : List X) → list_any t (xs ++ ys) ≡ false → list_any t ys ≡ false
none-second t xs ys h = none-right (list_any t xs) (list_any t ys) (sym (any-append t xs ys) ∙ h)

none-map : {X Y : Type 0} (f : X → Y) (t : Y → Bool) (xs : List X) → list_any t (map f xs) ≡ false → list_any (λ x. t (f x)) xs ≡ false
none-map f t [] h = refl
none-map f t (x ∷ xs) h = neither (t (f x)) (list_any (λ x. t (f x)) xs) (none-left (t (f x)) (list_any t (map f xs)) h) (none-map f t xs (none-right (t (f x)) (list_any t (map f xs)) h))

none-weaker : {X : Type 0} (t u : X → Bool) (xs : List X) → list_any (λ x. t x || u x) xs ≡ false → list_any t xs ≡ false
none-weaker t u [] h = refl
none-weaker t u (x ∷ xs) h =
    neither (t x) (list_any t xs) (none-left (t x) (u x) (none-left (t x || u x) (list_any (λ x. t x || u x) xs) h)) (none-weaker t u xs (none-right (t x || u x) (list_any (λ x. t x || u x) xs) h))

none-either : {X : Type 0} (t u : X → Bool) (xs : List X) → list_any t xs ≡ false → list_any u xs ≡ false → list_any (λ x. t x || u x) xs ≡ false
none-either t u [] h k = refl
none-either t u (x ∷ xs) h k =
    neither (t x || u x) (list_any (λ x. t x || u x) xs) (neither (t x) (u x) (none-left (t x) (list_any t xs) h) (none-left (u x) (list_any u xs) k))
    (none-either t u xs (none-right (t x) (list_any t xs) h) (none-right (u x) (list_any u xs) k))

none-false : {X : Type 0} (xs : List X) → list_any (λ x. false) xs ≡ false
none-false [] = refl
none-false (x ∷ xs) = none-false xs

none-swap : {X Y : Type 0} (r : X → Y → Bool) (xs : List X) (ys : List Y) → list_any (λ x. list_any (r x) ys) xs ≡ false → list_any (λ y. list_any (λ x. r x y) xs) ys ≡ false
none-swap r [] ys h = none-false ys
none-swap r (x ∷ xs) ys h =
    none-either (r x) (λ y. list_any (λ x. r x y) xs) ys (none-left (list_any (r x) ys) (list_any (λ x. list_any (r x) ys) xs) h)
    (none-swap r xs ys (none-right (list_any (r x) ys) (list_any (λ x. list_any (r x) ys) xs) h))

all-not : {X : Type 0} (t : X → Bool) (xs : List X) → list_any t xs ≡ false → list_all (λ x. not (t x)) xs ≡ true
all-not t [] h = refl
all-not t (x ∷ xs) h = both (not (t x)) (list_all (λ x. not (t x)) xs) (ap not (none-left (t x) (list_any t xs) h)) (all-not t xs (none-right (t x) (list_any t xs) h))

all-map : {X Y : Type 0} (f : X → Y) (t : Y → Bool) (xs : List X) → list_all t (map f xs) ≡ list_all (λ x. t (f x)) xs
all-map f t [] = refl
all-map f t (x ∷ xs) = ap (λ b. t (f x) && b) (all-map f t xs)

-- ---- the courses of a row that passed are new

courses-of-ids : (u : ℕ × ℕ → Bool) (rows : List OfferingRow) → list_any u (flat_map row_ids rows) ≡ false → list_any (λ c. u (1, c.id.0)) (all_courses rows) ≡ false
courses-of-ids u [] h = refl
courses-of-ids u (o ∷ os) h =
    any-append (λ c. u (1, c.id.0)) o.courses (all_courses os)
    ∙ neither (list_any (λ c. u (1, c.id.0)) o.courses) (list_any (λ c. u (1, c.id.0)) (all_courses os)) own (courses-of-ids u os (none-second u (row_ids o) (flat_map row_ids os) h))
  where
    row : u (0, o.id.0) || list_any u (map (λ c. (1, c.id.0)) o.courses ++ flat_map config_ids o.configs) ≡ false
    row = none-first u (row_ids o) (flat_map row_ids os) h

    own : list_any (λ c. u (1, c.id.0)) o.courses ≡ false
    own =
        none-map (λ (c : CourseRow). (1, c.id.0)) u o.courses
        (none-first u (map (λ c. (1, c.id.0)) o.courses) (flat_map config_ids o.configs)
        (none-right (u (0, o.id.0)) (list_any u (map (λ c. (1, c.id.0)) o.courses ++ flat_map config_ids o.configs)) row))

pub first-none : {X : Type 0} (a b : Option X) → option_or a b ≡ None → a ≡ None
first-none None b h = refl
first-none (Some x) b h = cc

pub map-none : {X Y : Type 0} (f : X → Y) (a : Option X) → option_map f a ≡ None → a ≡ None
map-none f None h = refl
map-none f (Some x) h = cc

abbrev pub taken_in : List OfferingRow → OfferingRow → ℕ × ℕ → Bool
taken_in rows o id = list_any (same_kind id) (flat_map row_ids rows) || stands_twice (row_ids o) id

-- no id of a row that passes is taken
pub none-taken : (rows : List OfferingRow) (o : OfferingRow) → fault_of (record { rows = rows; cancelled = [] }) o ≡ None → list_any (taken_in rows o) (row_ids o) ≡ false
none-taken rows o h =
    find-none (taken_in rows o) (row_ids o)
    (map-none (λ id. id.1) (find (taken_in rows o) (row_ids o))
    (map-none Known (option_map (λ id. id.1) (find (taken_in rows o) (row_ids o)))
    (first-none (option_map Known (known_id c o)) (option_or (missing_part o) (option_or (option_map BadParent (bad_parent o.configs)) (count_fault (length (all_sections rows)) o)))
    (sym (fault-parts c o) ∙ h))))
  where
    c : Catalogue
    c = record { rows = rows; cancelled = [] }

new-courses : (rows : List OfferingRow) (o : OfferingRow) → fault_of (record { rows = rows; cancelled = [] }) o ≡ None
    → list_any (λ c'. list_any (λ c. c.id.0 == c'.id.0) o.courses) (all_courses rows) ≡ false
new-courses rows o h =
    courses-of-ids (λ k. list_any (λ c. same_kind (1, c.id.0) k) o.courses) rows
    (none-swap (λ c k. same_kind (1, c.id.0) k) o.courses (flat_map row_ids rows)
    (none-weaker (λ c. list_any (same_kind (1, c.id.0)) (flat_map row_ids rows)) (λ c. stands_twice (row_ids o) (1, c.id.0)) o.courses
    (none-map (λ (c : CourseRow). (1, c.id.0)) (taken_in rows o) o.courses
    (none-first (taken_in rows o) (map (λ c. (1, c.id.0)) o.courses) (flat_map config_ids o.configs)
    (none-right (taken_in rows o (0, o.id.0)) (list_any (taken_in rows o) (map (λ c. (1, c.id.0)) o.courses ++ flat_map config_ids o.configs))
    (none-taken rows o h))))))

-- ---- their ids leave the rising ones

drop-put : (p : CourseId → Bool) (x : CourseId) (ids : List CourseId) → p x ≡ false → filter p (put_rising x ids) ≡ filter p ids
drop-put p x [] h = ap (λ b. cond b (x ∷ []) []) h
drop-put p x (y ∷ ys) h = by_test (drop-put p x ys h) (nat_lt x.0 y.0)
  where
    by_test : filter p (put_rising x ys) ≡ filter p ys → (b : Bool) → filter p (cond b (x ∷ y ∷ ys) (y ∷ put_rising x ys)) ≡ cond (p y) (y ∷ filter p ys) (filter p ys)
    by_test ih true = ap (λ b. cond b (x ∷ filter p (y ∷ ys)) (filter p (y ∷ ys))) h
    by_test ih false = ap (λ zs. cond (p y) (y ∷ zs) zs) ih

drop-all : (p : CourseId → Bool) (ids xs : List CourseId) → list_all (λ x. not (p x)) xs ≡ true → filter p (put_all_rising ids xs) ≡ filter p ids
drop-all p ids [] h = refl
drop-all p ids (x ∷ xs) h =
    drop-all p (put_rising x ids) xs (both-right (not (p x)) (list_all (λ x. not (p x)) xs) h)
    ∙ drop-put p x ids (fails (p x) (both-left (not (p x)) (list_all (λ x. not (p x)) xs) h))
  where
    fails : (b : Bool) → not b ≡ true → b ≡ false
    fails true h = sym h
    fails false h = refl

all-put : (p : CourseId → Bool) (x : CourseId) (ids : List CourseId) → p x ≡ true → list_all p ids ≡ true → list_all p (put_rising x ids) ≡ true
all-put p x [] h k = both (p x) true h refl
all-put p x (y ∷ ys) h k = by_test (all-put p x ys h (both-right (p y) (list_all p ys) k)) (nat_lt x.0 y.0)
  where
    by_test : list_all p (put_rising x ys) ≡ true → (b : Bool) → list_all p (cond b (x ∷ y ∷ ys) (y ∷ put_rising x ys)) ≡ true
    by_test ih true = both (p x) (p y && list_all p ys) h k
    by_test ih false = both (p y) (list_all p (put_rising x ys)) (both-left (p y) (list_all p ys) k) ih

all-put-all : (p : CourseId → Bool) (ids xs : List CourseId) → list_all p xs ≡ true → list_all p ids ≡ true → list_all p (put_all_rising ids xs) ≡ true
all-put-all p ids [] h k = k
all-put-all p ids (x ∷ xs) h k = all-put-all p (put_rising x ids) xs (both-right (p x) (list_all p xs) h) (all-put p x ids (both-left (p x) (list_all p xs) h) k)

filter-all : {X : Type 0} (p : X → Bool) (xs : List X) → list_all p xs ≡ true → filter p xs ≡ xs
filter-all p [] h = refl
filter-all p (x ∷ xs) h =
    ap (λ b. cond b (x ∷ filter p xs) (filter p xs)) (both-left (p x) (list_all p xs) h) ∙ ap (λ zs. x ∷ zs) (filter-all p xs (both-right (p x) (list_all p xs) h))

own-in : (before xs : List CourseRow) → list_all (λ x. list_any (λ c. c.id.0 == x.id.0) (before ++ xs)) xs ≡ true
own-in before [] = refl
own-in before (x ∷ xs) =
    both (list_any (λ c. c.id.0 == x.id.0) (before ++ x ∷ xs)) (list_all (λ y. list_any (λ c. c.id.0 == y.id.0) (before ++ x ∷ xs)) xs)
    (any-append (λ c. c.id.0 == x.id.0) before (x ∷ xs) ∙ last (list_any (λ c. c.id.0 == x.id.0) before) (x.id.0 == x.id.0) (list_any (λ c. c.id.0 == x.id.0) xs) (eq-eqb x.id.0 x.id.0 refl))
    (subst (λ ys. list_all (λ y. list_any (λ c. c.id.0 == y.id.0) ys) xs ≡ true) (append_assoc before (x ∷ []) xs) (own-in (before ++ x ∷ []) xs))
  where
    last : (a b c : Bool) → b ≡ true → a || (b || c) ≡ true
    last true b c h = refl
    last false b c h = λ i. h i || c

abbrev pub isnt_of : List CourseRow → CourseId → Bool
isnt_of courses id = not (list_any (λ c. c.id.0 == id.0) courses)

not-not : {X : Type 0} (t : X → Bool) (xs : List X) → list_all (λ x. not (not (t x))) xs ≡ list_all t xs
not-not t [] = refl
not-not t (x ∷ xs) = λ i. twice (t x) i && not-not t xs i
  where
    twice : (b : Bool) → not (not b) ≡ b
    twice true = refl
    twice false = refl

courses-less : (rows : List OfferingRow) (o : OfferingRow) → fault_of (record { rows = rows; cancelled = [] }) o ≡ None
    → filter (isnt_of o.courses) (rising_courses (rows ++ o ∷ [])) ≡ rising_courses rows
courses-less rows o h =
    ap (filter (isnt_of o.courses)) (sym (courses-of-more rows o))
    ∙ drop-all (isnt_of o.courses) (rising_courses rows) (map (λ c. c.id) o.courses)
    (all-map (λ (c : CourseRow). c.id) (λ x. not (isnt_of o.courses x)) o.courses ∙ not-not (λ (x : CourseRow). list_any (λ c. c.id.0 == x.id.0) o.courses) o.courses ∙ own-in [] o.courses)
    ∙ filter-all (isnt_of o.courses) (rising_courses rows)
    (all-put-all (isnt_of o.courses) [] (map (λ c. c.id) (all_courses rows))
    (all-map (λ (c : CourseRow). c.id) (isnt_of o.courses) (all_courses rows) ∙ all-not (λ c'. list_any (λ c. c.id.0 == c'.id.0) o.courses) (all_courses rows) (new-courses rows o h)) refl)

-- the whole, a row less
pub removed : (rows : List OfferingRow) (o : OfferingRow) (old new : Index) (courses : List CourseId) (sections count n : ℕ)
    → Keeps (rows ++ o ∷ []) old courses sections → n ≡ length rows → KeepsFirst n old new → count ≡ min (row_sections o) (2 ^ 64 - 1)
    → Keeps rows new (filter (isnt_of o.courses) courses) (sections - count)
removed rows o old new courses sections count n k len keeps counts =
    let checks : (are_checked rows ≡ true) × (fault_of (record { rows = rows; cancelled = [] }) o ≡ None) = checked-less [] rows o k.checked in
    record {
      checked = checks.0;
      places = index-less rows o old new n len k.places keeps;
      rising = ap (filter (isnt_of o.courses)) k.rising ∙ courses-less rows o checks.1;
      counted =
          let most : length (all_sections rows) + row_sections o ≤ 20000 = counts-pass (record { rows = rows; cancelled = [] }) o checks.1 in
          let so : sections ≡ length (all_sections rows) + row_sections o = k.counted ∙ sections-more rows o in
          omega (arith, most, so, counts);
    }

pub count_fits : (rows : List OfferingRow) (o : OfferingRow) (old : Index) (courses : List CourseId) (sections count : ℕ)
    → Keeps (rows ++ o ∷ []) old courses sections → count ≡ min (row_sections o) (2 ^ 64 - 1) → count ≤ sections
count_fits rows o old courses sections count k counts =
    let so : sections ≡ length (all_sections rows) + row_sections o = k.counted ∙ sections-more rows o in
    omega (arith, so, counts)
