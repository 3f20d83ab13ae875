-- A tree that covers nests at most as deep as decisions can follow, and each split in it has a tree.
use Rattle.std.specs.Prelude.{◌≡◌, ℕ, zero, suc, ◌+◌, ◌*◌, ◌≤◌, nat_le, Bool, true, false, not, ◌&&◌, cond, List, [], ◌∷◌, ◌++◌, length, map, find, flat_map, Option, Some, None, slice_get, Contains, Result, Ok, Err, IfOk, IsTrue, refl}
use Rattle.std.specs.List.{list_any, list_all}
use Rattle.std.specs.Bool.{then_some}
use Rattle.std.specs.Option.{is_none, is_some, option_map, option_map_or, option_or}
use Rattle.std.proofs.Common.{sym, ◌∙◌, ap, arith}
use Rattle.std.proofs.lemmas.Bool.Decides.{nat_tests}
use Rattle.sect_base.specs.Tree.{Tree, Trees, broken, split, none, more}
use Rattle.sect_command.specs.TreeText.{HasText, HaveTexts}
use Rattle.sect_catalog.specs.declared.row.CatalogFault.TheVariants.{Known, NoCourse, NoConfig, NoSubpart, NoSection, BadParent, TooMany}
use Rattle.sect_catalog.specs.Catalogue.{Catalogue, has_course}
use Rattle.sect_catalog.specs.Fault.{known_id, is_empty, bad_parent, too_many, are_checked}
use Rattle.sect_base.specs.Capped.{capped}
use Rattle.sect_people.specs.Order.{sorted_by}
use Rattle.sect_model.specs.Data.{CourseId, ReservationId, ConfigId, SectionId, OfferingRow, ConfigRow, SubpartRow, Want, Choice, Move}
use Rattle.sect_model.specs.declared.pick.Pick.{Pick}
use Rattle.sect_model.specs.declared.pick.Pick.TheVariants.{Course as picks_course, Reservation as picks_reservation, Config as picks_config, Section as picks_section}
use Rattle.sect_model.specs.World.{World, offering_of}
use Rattle.sect_model.specs.Choice.{config_of, subparts_of}
use Rattle.sect_model.specs.Path.{Path, start, want_at, options_for, options_at, config_options, section_options, extend, is_complete}
use Rattle.sect_model.specs.Rules.{leaf_of}
use Rattle.sect_model.specs.Covers.{covers, covers_with, cover_each}
use Rattle.sect_model.specs.Stands.{MoveStands}
use Rattle.sect_model.specs.Premises.{WorldKeeps, courses_known, is_sized}
use Rattle.sect_model.proofs.CheckedLemmas.{passed, checked-each, checked-size, checked-order, found-differ, third-none}
use Rattle.sect_model.proofs.CoverLemmas.{not_true, not_both, both-left, both-right}
use Rattle.sect_model.proofs.ListLemmas.{any-sorted, found-all, got-all, contains-more}
use Rattle.sect_model.proofs.PathLemmas.{good, config-all, one-step, option-fits, no-option}
use Rattle.sect_model.proofs.RefutationLemmas.{above, all-flat_map, none-found, count_at, nearer}
use Rattle.sect_model.proofs.RefutedLemmas.{blocked-refutes}
use Rattle.sect_model.proofs.StageLemmas.{open_path, stage_fits, pick_fits, asked_by, own_at}
use Rattle.sect_model.proofs.Tests.{rows_in_order, rows_in_size, found_by_id}
use Rattle.sect_model.specs.declared.pick.Outcome.{Outcome}
use Rattle.sect_model.specs.declared.pick.Outcome.TheVariants.{Found, Blocked, Spent}
use Rattle.sect_model.specs.Outcome.{outcome_of}
use Rattle.sect_search.specs.Texts.{HasNumbers, HaveNumbers, CoverHasText, BlockedHasText, IsToldIn, IsTold}
use Rattle.sect_search.specs.Told.{OutcomeNumbers}

-- ---- lists that aren't empty

abbrev some : {X : Type 0} → List X → Bool
some xs = list_any (λ x. true) xs

some-map : {X Y : Type 0} (f : X → Y) (xs : List X) → some (map f xs) ≡ some xs
some-map f [] = refl
some-map f (x ∷ xs) = refl

some-right : {X : Type 0} (xs ys : List X) → some ys ≡ true → some (xs ++ ys) ≡ true
some-right [] ys h = h
some-right (x ∷ xs) ys h = refl

not-empty : {X : Type 0} (xs : List X) → not (is_empty xs) ≡ true → some xs ≡ true
not-empty [] h = absurd (not_both false h refl)
not-empty (x ∷ xs) h = refl

some-sized : {X : Type 0} (xs : List X) → nat_le 1 (length xs) ≡ true → some xs ≡ true
some-sized [] h = absurd (not_both false h refl)
some-sized (x ∷ xs) h = refl

-- ---- rows that passed their check

first-none : {X : Type 0} (a b : Option X) → is_none (option_or a b) ≡ true → is_none a ≡ true
first-none None b h = refl
first-none (Some x) b h = h

rest-none : {X : Type 0} (a b : Option X) → is_none (option_or a b) ≡ true → is_none b ≡ true
rest-none None b h = h
rest-none (Some x) b h = absurd (not_both false h refl)

no-fault : {X : Type 0} (b : Bool) (x : X) → is_none (then_some b x) ≡ true → not b ≡ true
no-fault true x h = h
no-fault false x h = refl

was-none : {X Y : Type 0} (f : X → Y) (o : Option X) → is_none (option_map f o) ≡ true → o ≡ None
was-none f None h = refl
was-none f (Some x) h = absurd (not_both false h refl)

nothing-found : {X Y : Type 0} (f : X → Y) (test : X → Bool) (xs : List X) → is_none (option_map f (find test xs)) ≡ true → list_all (λ x. not (test x)) xs ≡ true
nothing-found f test xs h = none-found test xs (was-none f (find test xs) h)

abbrev have_sections : ConfigRow → Bool
have_sections g = list_all (λ p. not (is_empty p.sections)) g.subparts

configs-some : (rows : List OfferingRow) → are_checked rows ≡ true → list_all (λ o. not (is_empty o.configs)) rows ≡ true
configs-some rows h = checked-each (λ o. not (is_empty o.configs)) each [] rows h
  where
    each : (before : List OfferingRow) (o : OfferingRow) → passed before o ≡ true → not (is_empty o.configs) ≡ true
    each before o k =
        let c : Catalogue = record { rows = before; cancelled = [] } in
        let subparts : List SubpartRow = flat_map (λ g. g.subparts) o.configs in
        no-fault (is_empty o.configs) NoConfig
        (third-none (option_map Known (known_id c o)) (then_some (is_empty o.courses) NoCourse) (then_some (is_empty o.configs) NoConfig)
        (option_or (option_map (λ g. NoSubpart g.id.0) (find (λ g. is_empty g.subparts) o.configs))
        (option_or (option_map (λ p. NoSection p.id.0) (find (λ p. is_empty p.sections) subparts))
        (option_or (option_map BadParent (bad_parent o.configs)) (option_map (λ n. TooMany (capped n)) (too_many c o))))) k)

sections-some : (rows : List OfferingRow) → are_checked rows ≡ true → list_all (λ o. list_all have_sections o.configs) rows ≡ true
sections-some rows h = checked-each (λ o. list_all have_sections o.configs) each [] rows h
  where
    each : (before : List OfferingRow) (o : OfferingRow) → passed before o ≡ true → list_all have_sections o.configs ≡ true
    each before o k =
        let c : Catalogue = record { rows = before; cancelled = [] } in
        let subparts : List SubpartRow = flat_map (λ g. g.subparts) o.configs in
        sym (all-flat_map (λ p. not (is_empty p.sections)) (λ g. g.subparts) o.configs)
        ∙ nothing-found (λ p. NoSection p.id.0) (λ p. is_empty p.sections) subparts
        (third-none (then_some (is_empty o.configs) NoConfig) (option_map (λ g. NoSubpart g.id.0) (find (λ g. is_empty g.subparts) o.configs))
        (option_map (λ p. NoSection p.id.0) (find (λ p. is_empty p.sections) subparts))
        (option_or (option_map BadParent (bad_parent o.configs)) (option_map (λ n. TooMany (capped n)) (too_many c o)))
        (rest-none (then_some (is_empty o.courses) NoCourse) _ (rest-none (option_map Known (known_id c o)) _ k)))

-- ---- the choice that is being made has a subpart left

abbrev subpart_left : World → Option CourseId → Option ConfigId → List SectionId → Bool
subpart_left w (Some c) (Some g) ss = not (nat_le (length (subparts_of w c g)) (length ss))
subpart_left w _ _ ss = true

abbrev left_at : World → Path → Bool
left_at w p = subpart_left w p.course p.config p.sections

above-zero : (n : ℕ) → nat_le 1 n ≡ true → not (nat_le n 0) ≡ true
above-zero n h = grind (arith, nat_tests, h)

one-less : (m n : ℕ) → not (nat_le (suc m) (suc n)) ≡ true → not (nat_le m n) ≡ true
one-less m n h = grind (arith, nat_tests, h)

none-below : (n : ℕ) → not (nat_le 0 n) ≡ true → ⊥
none-below n h = absurd (grind (arith, nat_tests, h))

module _ (w : World) (size : rows_in_size w.catalogue.rows ≡ true) where
  subpart-due : (c : CourseId) (g : ConfigId) → is_some (config_of w c g) ≡ true → not (nat_le (length (subparts_of w c g)) 0) ≡ true
  subpart-due c g h = by_found (config_of w c g) refl h
    where
      by_found : (x : Option ConfigRow) → config_of w c g ≡ x → is_some x ≡ true → not (nat_le (length (option_map_or (λ g. g.subparts) x [])) 0) ≡ true
      by_found None e h = absurd (not_both false h refl)
      by_found (Some cfg) e h =
          above-zero (length cfg.subparts)
          (both-left (nat_le 1 (length cfg.subparts)) (nat_le (length cfg.subparts) 6) (config-all w (λ g. nat_le 1 (length g.subparts) && nat_le (length g.subparts) 6) size c g cfg e))

  keeps-left : (d : List Choice) (want : Want) (c : Option CourseId) (r : Option (Option ReservationId)) (g : Option ConfigId) (ss : List SectionId)
      → stage_fits w (Some want) c r g ss ≡ true → (pick : Pick) → pick_fits w want c r g ss pick ≡ true → left_at w (extend w (open_path d c r g ss) pick) ≡ true
  keeps-left d want None None None [] h (picks_course c) k = refl
  keeps-left d want None None None [] h (picks_reservation r) k = absurd (not_both false k refl)
  keeps-left d want None None None [] h (picks_config g) k = absurd (not_both false k refl)
  keeps-left d want None None None [] h (picks_section s) k = absurd (not_both false k refl)
  keeps-left d want None None None (s ∷ ss) h pick k = absurd (not_both false h refl)
  keeps-left d want None None (Some g) ss h pick k = absurd (not_both false h refl)
  keeps-left d want None (Some r) g ss h pick k = absurd (not_both false h refl)
  keeps-left d want (Some c) None None [] h (picks_reservation r) k = refl
  keeps-left d want (Some c) None None [] h (picks_course x) k = absurd (not_both false k refl)
  keeps-left d want (Some c) None None [] h (picks_config g) k = absurd (not_both false k refl)
  keeps-left d want (Some c) None None [] h (picks_section s) k = absurd (not_both false k refl)
  keeps-left d want (Some c) None None (s ∷ ss) h pick k = absurd (not_both false h refl)
  keeps-left d want (Some c) None (Some g) ss h pick k = absurd (not_both false h refl)
  keeps-left d want (Some c) (Some r) None [] h (picks_config g) k = subpart-due c g k
  keeps-left d want (Some c) (Some r) None [] h (picks_course x) k = absurd (not_both false k refl)
  keeps-left d want (Some c) (Some r) None [] h (picks_reservation x) k = absurd (not_both false k refl)
  keeps-left d want (Some c) (Some r) None [] h (picks_section s) k = absurd (not_both false k refl)
  keeps-left d want (Some c) (Some r) None (s ∷ ss) h pick k = absurd (not_both false h refl)
  keeps-left d want (Some c) (Some r) (Some g) ss h (picks_course x) k = absurd (not_both false k refl)
  keeps-left d want (Some c) (Some r) (Some g) ss h (picks_reservation x) k = absurd (not_both false k refl)
  keeps-left d want (Some c) (Some r) (Some g) ss h (picks_config x) k = absurd (not_both false k refl)
  keeps-left d want (Some c) (Some r) (Some g) ss h (picks_section s) k = by_end (nat_le (length (subparts_of w c g)) (length (ss ++ s ∷ []))) refl
    where
      end : Path
      end = open_path (d ++ record { course = c; reservation = r; config = g; sections = ss ++ s ∷ [] } ∷ []) None None None []

      on : Path
      on = open_path d (Some c) (Some r) (Some g) (ss ++ s ∷ [])

      by_end : (b : Bool) → nat_le (length (subparts_of w c g)) (length (ss ++ s ∷ [])) ≡ b → left_at w (cond b end on) ≡ true
      by_end true e = refl
      by_end false e = ap not e

-- ---- an open path has an option

place-some : (ps : List SubpartRow) (n : ℕ) → not (nat_le (length ps) n) ≡ true → list_all (λ p. not (is_empty p.sections)) ps ≡ true → some (section_options (slice_get ps n)) ≡ true
place-some [] n h k = absurd (none-below n h)
place-some (p ∷ ps) zero h k =
    some-map (λ s. picks_section s.id) (sorted_by (λ s. s.id.0) p.sections)
    ∙ any-sorted (λ s. s.id.0) (λ s. true) p.sections
    ∙ not-empty p.sections (both-left (not (is_empty p.sections)) (list_all (λ p. not (is_empty p.sections)) ps) k)
place-some (p ∷ ps) (suc n) h k =
    place-some ps n (one-less (length ps) n h) (both-right (not (is_empty p.sections)) (list_all (λ p. not (is_empty p.sections)) ps) k)

got-some : {X : Type 0} (xs : List X) (n : ℕ) → not (nat_le (length xs) n) ≡ true → is_some (slice_get xs n) ≡ true
got-some [] n h = absurd (none-below n h)
got-some (x ∷ xs) zero h = refl
got-some (x ∷ xs) (suc n) h = got-some xs n (one-less (length xs) n h)

module _ (w : World) (configs : list_all (λ o. not (is_empty o.configs)) w.catalogue.rows ≡ true) (sections : list_all (λ o. list_all have_sections o.configs) w.catalogue.rows ≡ true) where
  config-some : (c : CourseId) → is_some (offering_of w c) ≡ true → some (config_options (offering_of w c)) ≡ true
  config-some c h = by_found (offering_of w c) refl h
    where
      by_found : (x : Option OfferingRow) → offering_of w c ≡ x → is_some x ≡ true → some (config_options x) ≡ true
      by_found None e h = absurd (not_both false h refl)
      by_found (Some o) e h =
          some-map (λ g. picks_config g.id) (sorted_by (λ g. g.id.0) o.configs)
          ∙ any-sorted (λ g. g.id.0) (λ g. true) o.configs
          ∙ not-empty o.configs (found-all (λ o. has_course o c) (λ o. not (is_empty o.configs)) w.catalogue.rows o e configs)

  section-some : (c : CourseId) (g : ConfigId) (ss : List SectionId) → subpart_left w (Some c) (Some g) ss ≡ true → some (section_options (slice_get (subparts_of w c g) (length ss))) ≡ true
  section-some c g ss h = by_found (config_of w c g) refl h
    where
      by_found : (x : Option ConfigRow) → config_of w c g ≡ x → not (nat_le (length (option_map_or (λ g. g.subparts) x [])) (length ss)) ≡ true
          → some (section_options (slice_get (option_map_or (λ g. g.subparts) x []) (length ss))) ≡ true
      by_found None e h = absurd (none-below (length ss) h)
      by_found (Some cfg) e h = place-some cfg.subparts (length ss) h (config-all w have_sections sections c g cfg e)

  options-some : (want : Want) (c : Option CourseId) (r : Option (Option ReservationId)) (g : Option ConfigId) (ss : List SectionId)
      → stage_fits w (Some want) c r g ss ≡ true → subpart_left w c g ss ≡ true → is_sized want ≡ true → some (options_for w want c r g ss) ≡ true
  options-some want None r g ss h k sized =
      some-map picks_course want.courses
      ∙ some-sized want.courses (both-left (nat_le 1 (length want.courses)) (nat_le (length want.courses) 6) sized)
  options-some want (Some c) None None ss h k sized = some-right _ (picks_reservation None ∷ []) refl
  options-some want (Some c) None (Some g) ss h k sized = absurd (not_both false h refl)
  options-some want (Some c) (Some r) None [] h k sized =
      config-some c (both-right _ (is_some (offering_of w c)) (both-left (asked_by w (Some want) c) (own_at w c r) h))
  options-some want (Some c) (Some r) None (s ∷ ss) h k sized = absurd (not_both false h refl)
  options-some want (Some c) (Some r) (Some g) ss h k sized = section-some c g ss k

-- ---- the trees

module _ (w : World) (mv : Move) where
  record Stands (p : Path) : Type 0 where
    fits : good w mv p ≡ true
    few : count_at p ≤ 8
    left : left_at w p ≡ true

  -- so many decisions can follow
  abbrev Enough : ℕ → Path → Type 0
  Enough n p = 9 * length mv.take ≤ 9 * length p.done + count_at p + n

  -- a split that covers has a tree
  as-split : (ts : Trees) (n : ℕ) (p : Path) (picks : List Pick) → some picks ≡ true → cover_each w mv p picks ts ≡ true → HaveTexts n ts → HasText (suc n) (split ts)
  as-split none n p [] h k texts = absurd (not_both false h refl)
  as-split none n p (pick ∷ picks) h k texts = absurd (not_both false k refl)
  as-split (more t ts) n p picks h k texts = texts

  module _ (size : rows_in_size w.catalogue.rows ≡ true) (order : rows_in_order w.catalogue.rows ≡ true) (found : list_all (found_by_id w) w.reservations ≡ true) (known : list_all (courses_known w) mv.take ≡ true)
      (sized : list_all is_sized mv.take ≡ true) (configs : list_all (λ o. not (is_empty o.configs)) w.catalogue.rows ≡ true) (sections : list_all (λ o. list_all have_sections o.configs) w.catalogue.rows ≡ true) where
    stands-next : (p : Path) (pick : Pick) → Stands p → Contains (options_at w mv p) pick → Stands (extend w p pick)
    stands-next p pick s c = record {
      fits = (one-step w mv order found known p pick s.fits c).0;
      few = (nearer w mv size order found known p pick s.fits s.few c).0;
      left = by_want (want_at mv p) refl;
    }
      where
        by_want : (x : Option Want) → want_at mv p ≡ x → left_at w (extend w p pick) ≡ true
        by_want None e = absurd (no-option w mv order found known p pick e c)
        by_want (Some want) e =
            keeps-left w size p.done want p.course p.reservation p.config p.sections
            (sym (ap (λ x. stage_fits w x p.course p.reservation p.config p.sections) e) ∙ s.fits) pick (option-fits w mv order found known p pick want e s.fits c)

    enough-next : (n : ℕ) (p : Path) (pick : Pick) → Stands p → Contains (options_at w mv p) pick → Enough (suc n) p → Enough n (extend w p pick)
    enough-next n p pick s c enough = omega (arith, enough, (nearer w mv size order found known p pick s.fits s.few c).1)

    open-some : (p : Path) → Stands p → is_complete mv p ≡ false → some (options_at w mv p) ≡ true
    open-some p s due = by_want (want_at mv p) refl (got-some mv.take (length p.done) (ap not due))
      where
        by_want : (x : Option Want) → want_at mv p ≡ x → is_some x ≡ true → some (option_map_or (λ want. options_for w want p.course p.reservation p.config p.sections) x []) ≡ true
        by_want None e h = absurd (not_both false h refl)
        by_want (Some want) e h =
            options-some w configs sections want p.course p.reservation p.config p.sections
            (sym (ap (λ x. stage_fits w x p.course p.reservation p.config p.sections) e) ∙ s.fits) s.left (got-all is_sized mv.take (length p.done) want e sized)

    -- where a want has no choice, a decision can follow
    one-more : (p : Path) → Stands p → is_complete mv p ≡ false → Enough 0 p → ⊥
    one-more p s due enough = absurd (omega (arith, s.few, enough, above (length mv.take) (length p.done) due))

    mutual
      -- a tree that covers a path with one decision more
      text-with : (t : Tree) (n : ℕ) (p : Path) (pick : Pick) → Stands (extend w p pick) → Enough n (extend w p pick) → covers_with w mv p pick t ≡ true → HasNumbers t → HasText n t
      text-with (broken rule number) n p pick s enough h small = small
      text-with (split ts) zero p pick s enough h small =
          absurd (one-more (extend w p pick) s
          (not_true (is_complete mv (extend w p pick)) (both-right (is_none (leaf_of w mv p pick)) (not (is_complete mv (extend w p pick)))
          (both-left (is_none (leaf_of w mv p pick) && not (is_complete mv (extend w p pick))) (cover_each w mv (extend w p pick) (options_at w mv (extend w p pick)) ts) h))) enough)
      text-with (split ts) (suc n) p pick s enough h small =
          as-split ts n (extend w p pick) (options_at w mv (extend w p pick))
          (open-some (extend w p pick) s
          (not_true (is_complete mv (extend w p pick)) (both-right (is_none (leaf_of w mv p pick)) (not (is_complete mv (extend w p pick)))
          (both-left (is_none (leaf_of w mv p pick) && not (is_complete mv (extend w p pick))) (cover_each w mv (extend w p pick) (options_at w mv (extend w p pick)) ts) h))))
          (both-right (is_none (leaf_of w mv p pick) && not (is_complete mv (extend w p pick))) (cover_each w mv (extend w p pick) (options_at w mv (extend w p pick)) ts) h)
          (texts-of ts n (extend w p pick) (options_at w mv (extend w p pick))
          (λ next c. (stands-next (extend w p pick) next s c, enough-next n (extend w p pick) next s c enough))
          (both-right (is_none (leaf_of w mv p pick) && not (is_complete mv (extend w p pick))) (cover_each w mv (extend w p pick) (options_at w mv (extend w p pick)) ts) h)
          small)

      -- trees that cover the options of a path
      texts-of : (ts : Trees) (n : ℕ) (p : Path) (picks : List Pick) → ((pick : Pick) → Contains picks pick → Stands (extend w p pick) × Enough n (extend w p pick))
          → cover_each w mv p picks ts ≡ true → HaveNumbers ts → HaveTexts n ts
      texts-of none n p picks each h small = tt
      texts-of (more t ts) n p [] each h small = absurd (not_both false h refl)
      texts-of (more t ts) n p (pick ∷ picks) each h small = (
        text-with t n p pick (each pick (zero, omega arith, refl)).0 (each pick (zero, omega arith, refl)).1 (both-left (covers_with w mv p pick t) (cover_each w mv p picks ts) h) small.0,
        texts-of ts n p picks (λ next c. each next (contains-more pick picks next c)) (both-right (covers_with w mv p pick t) (cover_each w mv p picks ts) h) small.1,
      )

    stands-start : Stands start
    stands-start = record { fits = refl; few = omega arith; left = refl }

    text-of : (n : ℕ) (tree : Tree) → 9 * length mv.take ≤ n → covers w mv tree ≡ true → HasNumbers tree → HasText n tree
    text-of n (broken rule number) few h small = small
    text-of zero (split ts) few h small =
        absurd (one-more start stands-start (not_true (is_complete mv start) (both-left (not (is_complete mv start)) (cover_each w mv start (options_at w mv start) ts) h))
        (omega (arith, few)))
    text-of (suc n) (split ts) few h small =
        as-split ts n start (options_at w mv start)
        (open-some start stands-start (not_true (is_complete mv start) (both-left (not (is_complete mv start)) (cover_each w mv start (options_at w mv start) ts) h)))
        (both-right (not (is_complete mv start)) (cover_each w mv start (options_at w mv start) ts) h)
        (texts-of ts n start (options_at w mv start)
        (λ next c. (stands-next start next stands-start c, enough-next n start next stands-start c (omega (arith, few))))
        (both-right (not (is_complete mv start)) (cover_each w mv start (options_at w mv start) ts) h)
        small)

pub cover-in : (w : World) (mv : Move) (n : ℕ) (tree : Tree) → 9 * length mv.take ≤ n → WorldKeeps w → MoveStands w mv → IsTrue (covers w mv tree) → HasNumbers tree → HasText n tree
cover-in w mv n tree few keeps standing h small =
    text-of w mv (checked-size w.catalogue.rows keeps.checked) (checked-order w.catalogue.rows keeps.checked) (found-differ w keeps.reservations_differ) standing.courses
    standing.sized (configs-some w.catalogue.rows keeps.checked) (sections-some w.catalogue.rows keeps.checked) n tree few h small

pub cover-has-text : CoverHasText
cover-has-text w mv tree keeps standing h small = cover-in w mv (9 * length mv.take) tree (omega arith) keeps standing h small

pub blocked-has-text : BlockedHasText
blocked-has-text w mv budget visits tree keeps standing e small =
    cover-has-text w mv tree keeps standing (blocked-refutes w mv budget visits tree keeps standing e).0 small

-- an outcome with numbers of 32 bits is told
pub outcome-told : (w : World) (mv : Move) (budget : ℕ) (o : Outcome) → WorldKeeps w → MoveStands w mv → o ≡ outcome_of w mv budget → OutcomeNumbers o → IsToldIn (9 * length mv.take) o
outcome-told w mv budget (Found choices visits) keeps standing e small = tt
outcome-told w mv budget (Blocked tree visits) keeps standing e small =
    blocked-has-text w mv budget visits tree keeps standing (sym e) small
outcome-told w mv budget (Spent visits) keeps standing e small = tt

pub result-told : {E : Type 0} (w : World) (mv : Move) (budget : ℕ) (r : Result Outcome E) → WorldKeeps w → MoveStands w mv
    → IfOk r (λ o. o ≡ outcome_of w mv budget) → IfOk r OutcomeNumbers → IfOk r (IsToldIn (9 * length mv.take))
result-told w mv budget (Ok o) keeps standing e small = outcome-told w mv budget o keeps standing e small
result-told w mv budget (Err x) keeps standing e small = tt

-- ---- more brackets

mutual
  more-text : (m n : ℕ) (t : Tree) → m ≤ n → HasText m t → HasText n t
  more-text m n (broken rule number) few h = h
  more-text zero n (split ts) few h = absurd h
  more-text (suc m) zero (split ts) few h = absurd (omega (arith, few))
  more-text (suc m) (suc n) (split none) few h = absurd h
  more-text (suc m) (suc n) (split (more t ts)) few h = (more-text m n t (omega (arith, few)) h.0, more-texts m n ts (omega (arith, few)) h.1)

  more-texts : (m n : ℕ) (ts : Trees) → m ≤ n → HaveTexts m ts → HaveTexts n ts
  more-texts m n none few h = tt
  more-texts m n (more t ts) few h = (more-text m n t few h.0, more-texts m n ts few h.1)

pub told-more : (m n : ℕ) (o : Outcome) → m ≤ n → IsToldIn m o → IsToldIn n o
told-more m n (Found choices visits) few h = tt
told-more m n (Blocked tree visits) few h = more-text m n tree few h
told-more m n (Spent visits) few h = tt

nine : (n : ℕ) → n ≤ 4 → 9 * n ≤ 36
nine n few = omega (arith, few)

-- at most four wants
pub told-four : {E : Type 0} (n : ℕ) (r : Result Outcome E) → n ≤ 4 → IfOk r (IsToldIn (9 * n)) → IfOk r IsTold
told-four n (Ok o) few h = told-more (9 * n) 36 o (nine n few) h
told-four n (Err x) few h = tt
