-- The commands of the reservations' table lead to the reservations.
use Rattle.std.specs.Prelude.{◌≡◌, ℕ, suc, ◌≤◌, ◌<◌, max, Bool, true, false, not, ◌==◌, nat_le, cond, List, [], ◌∷◌, ◌++◌, length, map, filter, find, flat_map, Option, Some, None, refl}
use Rattle.std.specs.List.{list_all, list_any}
use Rattle.std.specs.Option.{is_none, is_some, option_and_then, option_map, option_map_or, option_or, option_to_list}
use Rattle.std.proofs.Common.{sym, ◌∙◌, ap, subst, append_assoc, append-nil, arith, inl, inr, length-append}
use Rattle.std.proofs.lemmas.Bool.{eq-eqb, eqb-true}
use Rattle.std.proofs.lemmas.Bool.Decides.{nat_tests}
use Rattle.std.proofs.lemmas.List.Elements.{filter-append}
use Rattle.sect_catalog.specs.Catalogue.{all_configs, all_subparts, find_offering}
use Rattle.sect_catalog.specs.Fault.{are_checked}
use Rattle.sect_command.specs.declared.command.Command.TheVariants as commands
use Rattle.sect_command.specs.declared.reply.Refusal.{Refusal}
use Rattle.sect_command.specs.declared.reply.Refusal.TheVariants.{TooMany, Unknown}
use Rattle.sect_command.specs.declared.reply.Reply.TheVariants.{Amended}
use Rattle.sect_model.proofs.CheckedLemmas.{sections-differ}
use Rattle.sect_model.proofs.DifferLemmas.{differ-across, differ-right, keys_differ}
use Rattle.sect_model.proofs.EnrolLeave.{find-own}
use Rattle.sect_model.proofs.ListLemmas.{any-find, any-sorted, at_most}
use Rattle.sect_model.proofs.Members
use Rattle.sect_model.proofs.Members.{Member, all-at, both-left, both-right, decide, known-test, not_both, not_true}
use Rattle.sect_model.specs.Change.{place_of, reservation_from}
use Rattle.sect_model.specs.Data.{OfferingId, OfferingRow, Reservation, SectionRow, Student, SubpartRow}
use Rattle.sect_model.specs.Kept.{has_place_in, includes_fit, is_place, lists_own}
use Rattle.sect_model.specs.Refusals.{refusal_of, reserve_fault_of, row_refusal, unknown_offering}
use Rattle.sect_model.specs.World.{World, put_behind}
use Rattle.sect_people.specs.Order.{all_differ, insert_by, sorted_by}
use Rattle.sect_reserve.specs.declared.row.Place.{Place}
use Rattle.sect_return.specs.Again.{registrar}
use Rattle.sect_return.specs.Asked.{asks_reservation, row_from}
use Rattle.sect_return.specs.Checked.{is_faultless, row_passes}
use Rattle.sect_return.proofs.Runs.{Amends, Runs, amends, none_is, none_said, quiet, world_with}
use Rattle.sect_return.proofs.Sorted.{apart_middle, count_sorted, differ_sorted, last_sorted, member_sorted, put_sorted}

-- ---- the places that listed sections have

-- where keys differ over all pieces, the piece with an element of the key is the one that is found
piece_found : {X Y : Type 0} (key : Y → ℕ) (parts : X → List Y) (n : ℕ) (xs : List X) → keys_differ key (flat_map parts xs) ≡ true → (x : X) → Member xs x
    → list_any (λ y. key y == n) (parts x) ≡ true
    → find (λ z. list_any (λ y. key y == n) (parts z)) xs ≡ Some x
piece_found key parts n [] differ x m has = absurd m
piece_found key parts n (z ∷ zs) differ x (inl e) has = λ i. cond (subst (λ v. list_any (λ y. key y == n) (parts v) ≡ true) (sym e) has i) (Some (e i))
    (find (λ v. list_any (λ y. key y == n) (parts v)) zs)
piece_found key parts n (z ∷ zs) differ x (inr m) has =
    ap (λ b. cond b (Some z) (find (λ v. list_any (λ y. key y == n) (parts v)) zs)) (by (list_any (λ y. key y == n) (parts z)) refl)
    ∙ piece_found key parts n zs (differ-right key (parts z) (flat_map parts zs) differ) x m has
  where
    by : (b : Bool) → list_any (λ y. key y == n) (parts z) ≡ b → b ≡ false
    by false e = refl
    by true e =
        let a = Members.any-at (λ y. key y == n) (parts z) e in
        let c = Members.any-at (λ y. key y == n) (parts x) has in
        absurd (not_both (list_any (λ y. key y == key c.0) (parts z))
        (Members.any-of (λ y. key y == key c.0) (parts z) a.0 a.1 (eq-eqb (key a.0) (key c.0) (eqb-true (key a.0) n a.2 ∙ sym (eqb-true (key c.0) n c.2))))
        (not_true (list_any (λ y. key y == key c.0) (parts z)) (all-at (λ w. not (list_any (λ y. key y == key w) (parts z))) (flat_map parts zs)
        (differ-across key (parts z) (flat_map parts zs) differ) c.0 (Members.member-of_flat_map parts zs x c.0 m c.1))))

-- a place in an offering of checked rows is found by its section
place_found : (w : World) → are_checked w.catalogue.rows ≡ true → (o : OfferingRow) → Member w.catalogue.rows o → (place : Place)
    → has_place_in o place ≡ true → place_of w place.section ≡ place ∷ []
place_found w checked o is_row place h =
    let rows = w.catalogue.rows in
    let p = Members.any-at (is_place place) (flat_map (λ g. g.subparts) o.configs) h in
    let g = Members.member-flat_map (λ g. g.subparts) o.configs p.0 p.1 in
    let config = Members.member-of_flat_map (λ o. o.configs) rows o g.0 is_row g.1 in
    let found = piece_found (λ (s : SectionRow). s.id.0) (λ (q : SubpartRow). q.sections) place.section.0 (all_subparts rows)
    (sections-differ rows checked) p.0
    (Members.member-of_flat_map (λ g. g.subparts) (all_configs rows) g.0 p.0 config g.2)
    (both-right (p.0.id.0 == place.subpart.0) (list_any (λ s. s.id.0 == place.section.0) p.0.sections) p.2) in
    ap (λ q. option_to_list (option_map (λ (x : SubpartRow). record { subpart = x.id; section = place.section }) q)) found
    ∙ ap (λ n. record { subpart = record { 0 = n }; section = place.section } ∷ [])
    (eqb-true p.0.id.0 place.subpart.0 (both-left (p.0.id.0 == place.subpart.0) (list_any (λ s. s.id.0 == place.section.0) p.0.sections) p.2))

places_found : (w : World) → are_checked w.catalogue.rows ≡ true → (o : OfferingRow) → Member w.catalogue.rows o → (places : List Place)
    → list_all (has_place_in o) places ≡ true
    → flat_map (place_of w) (map (λ p. p.section) places) ≡ places
places_found w checked o is_row [] h = refl
places_found w checked o is_row (place ∷ places) h = λ i.
    place_found w checked o is_row place (both-left (has_place_in o place) (list_all (has_place_in o) places) h) i
    ++ places_found w checked o is_row places (both-right (has_place_in o place) (list_all (has_place_in o) places) h) i

-- the reservation of a reservation's row
same_reservation : (w : World) (r : Reservation) → flat_map (place_of w) (map (λ p. p.section) r.includes.sections) ≡ r.includes.sections
    → reservation_from w (row_from r) ≡ r
same_reservation w r same = ap (λ places. record r { includes = record { configs = r.includes.configs; sections = places } }) same

-- ---- one command

three_none : (a b c : Option Refusal) → a ≡ None → b ≡ None → c ≡ None → option_or a (option_or b (option_or c None)) ≡ None
three_none a b c p q r = λ i. option_or (p i) (option_or (q i) (option_or (r i) None))

below : (n : ℕ) → n < 50 → nat_le 50 n ≡ false
below n h = grind (arith, nat_tests, h)

not_refused : (w : World) (r : Reservation) (o : OfferingRow) → find_offering w.catalogue.rows r.offering ≡ Some o → is_faultless r o ≡ true
    → length (filter (λ x. x.offering.0 == r.offering.0) w.reservations) < 50
    → is_some (find (λ x. x.id.0 == r.id.0) w.reservations) ≡ false → refusal_of (quiet w) registrar (commands.Reserve (row_from r)) ≡ None
unfolding refusal_of
not_refused w r o found faultless few new =
    three_none (unknown_offering w r.offering) _ _
    (none_said (is_none (find_offering w.catalogue.rows r.offering)) (Unknown r.offering.0) (ap is_none found))
    (none_said (nat_le 50 (length (filter (λ x. x.offering.0 == r.offering.0) w.reservations))) (TooMany 51)
    (below (length (filter (λ x. x.offering.0 == r.offering.0) w.reservations)) few))
    ((λ i. row_refusal (option_and_then (λ p. reserve_fault_of p r.id.0 (new i) true r.audience r.includes.configs
    (map (λ (x : Place). x.section) r.includes.sections)) (found i)))
    ∙ ap row_refusal (none_is (reserve_fault_of o r.id.0 false true r.audience r.includes.configs
    (map (λ (x : Place). x.section) r.includes.sections)) faultless))

-- ---- all commands

module _ (rows : List OfferingRow) (students : List Student) (checked : are_checked rows ≡ true) (whole : List Reservation)
    (differ : all_differ (map (λ r. r.id.0) whole) ≡ true)
    (few : list_all (λ r. nat_le (length (filter (λ x. x.offering.0 == r.offering.0) whole)) 50) whole ≡ true)
    (pass : list_all (row_passes (world_with 0 rows [] [])) whole ≡ true)
    (fit : list_all (λ r. includes_fit (world_with 0 rows [] []) r.offering r.includes) whole ≡ true) where
  abbrev id_of : Reservation → ℕ
  id_of r = r.id.0

  -- one that comes behind others, of which those made are the same but for their order
  one_more : (start day : ℕ) (made before : List Reservation) (r : Reservation) (rest : List Reservation) → before ++ r ∷ rest ≡ whole
      → sorted_by id_of made ≡ sorted_by id_of before
      → Amends (world_with start rows students made) day (commands.Reserve (row_from r))
      (world_with (max start day) rows students (put_behind (λ x. x.offering.0) r made))
      × (sorted_by id_of (put_behind (λ x. x.offering.0) r made) ≡ sorted_by id_of (before ++ r ∷ []))
  one_more start day made before r rest is same = (
    amends (world_with start rows students made) day (commands.Reserve (row_from r))
        (world_with (max start day) rows students (put_behind (λ x. x.offering.0) r made))
        (not_refused w r passes.0 passes.1 passes.2 room (any-find (λ x. x.id.0 == r.id.0) made ∙ new))
        (ap (λ x. record { state = quiet (world_with (max start day) rows students (put_behind (λ y. y.offering.0) x made)); reply = Amended })
        (same_reservation w r places)),
    put_sorted id_of (λ x. x.offering.0) r made new ∙ ap (insert_by id_of r) same ∙ sym (last_sorted id_of r before apart),
  )
    where
      w : World
      w = world_with (max start day) rows students made

      member : Member whole r
      member = subst (λ its. Member its r) is (Members.member-right before (r ∷ rest) r (inl refl))

      passes : (o : OfferingRow) × (find_offering rows r.offering ≡ Some o) × (is_faultless r o ≡ true)
      passes = known-test (is_faultless r) (find_offering rows r.offering) (all-at (row_passes (world_with 0 rows [] [])) whole pass r member)

      own : (o : OfferingRow) × (find_offering rows r.offering ≡ Some o) × (lists_own r.includes o ≡ true)
      own = known-test (lists_own r.includes) (find_offering rows r.offering)
          (all-at (λ x. includes_fit (world_with 0 rows [] []) x.offering x.includes) whole fit r member)

      places : flat_map (place_of w) (map (λ p. p.section) r.includes.sections) ≡ r.includes.sections
      places = places_found w checked own.0 (Members.find-member (λ o. o.id.0 == r.offering.0) rows own.0 own.1).0 r.includes.sections
          (both-right _ (list_all (has_place_in own.0) r.includes.sections) own.2)

      apart : list_any (λ x. id_of x == id_of r) before ≡ false
      apart = (apart_middle id_of before r rest (subst (λ its. all_differ (map id_of its) ≡ true) (sym is) differ)).0

      new : list_any (λ x. id_of x == id_of r) made ≡ false
      new = sym (any-sorted id_of (λ x. id_of x == id_of r) made) ∙ ap (list_any (λ x. id_of x == id_of r)) same
          ∙ any-sorted id_of (λ x. id_of x == id_of r) before ∙ apart

      its : Reservation → Bool
      its x = x.offering.0 == r.offering.0

      counted : length (filter its made) ≡ length (filter its before)
      counted = sym (count_sorted id_of its made) ∙ ap (λ xs. length (filter its xs)) same ∙ count_sorted id_of its before

      itself : length (filter its (r ∷ rest)) ≡ suc (length (filter its rest))
      itself = ap (λ b. length (cond b (r ∷ filter its rest) (filter its rest))) (eq-eqb r.offering.0 r.offering.0 refl)

      most : length (filter its whole) ≤ 50
      most = at_most (length (filter its whole)) 50 (all-at (λ x. nat_le (length (filter (λ y. y.offering.0 == x.offering.0) whole)) 50) whole few r member)

      room : length (filter its made) < 50
      room = omega (
        arith,
        counted,
        itself,
        most,
        ap (λ xs. length (filter its xs)) (sym is),
        ap length (filter-append its before (r ∷ rest)),
        length-append
            (filter its before) (filter its (r ∷ rest)),
      )

  -- the reservations, one after another
  pub reservations_run : (rest made before : List Reservation) (start day : ℕ) → before ++ rest ≡ whole → sorted_by id_of made ≡ sorted_by id_of before
      → (last : ℕ) × (all : List Reservation) × (sorted_by id_of all ≡ sorted_by id_of whole)
      × Runs (world_with start rows students made) day (map asks_reservation rest) (world_with last rows students all)
  reservations_run [] made before start day is same = (start, made, same ∙ ap (sorted_by id_of) (sym (append-nil before) ∙ is), refl)
  reservations_run (r ∷ rest) made before start day is same =
      let one = one_more start day made before r rest is same in
      let more = reservations_run rest (put_behind (λ x. x.offering.0) r made) (before ++ r ∷ []) (max start day) day
      (append_assoc before (r ∷ []) rest ∙ is) one.1 in
      (more.0, more.1, more.2, (world_with (max start day) rows students (put_behind (λ x. x.offering.0) r made), one.0, more.3))

-- ---- rows in order

-- what is found by an offering's id is found among the rows in order
pub found_sorted : (rows : List OfferingRow) → all_differ (map (λ o. o.id.0) rows) ≡ true → (test : OfferingRow → Bool) (id : OfferingId)
    → option_map_or test (find_offering rows id) false ≡ true
    → option_map_or test (find_offering (sorted_by (λ o. o.id.0) rows) id) false ≡ true
found_sorted rows differ test id h =
    let f = known-test test (find_offering rows id) h in
    let m = Members.find-member (λ o. o.id.0 == id.0) rows f.0 f.1 in
    ap (λ o. option_map_or test o false)
    (find-own (λ (o : OfferingRow). o.id.0) (sorted_by (λ (o : OfferingRow). o.id.0) rows)
    (differ_sorted (λ (o : OfferingRow). o.id.0) (λ (o : OfferingRow). o.id.0) rows differ) f.0
    (member_sorted (λ (o : OfferingRow). o.id.0) rows f.0 m.0) id.0 (eqb-true f.0.id.0 id.0 m.1))
    ∙ f.2
