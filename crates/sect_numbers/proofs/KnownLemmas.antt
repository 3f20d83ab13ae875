-- What is known after a change was known, or is new by it.
use Rattle.std.specs.Prelude.{◌≡◌, Bool, true, false, not, ◌&&◌, ◌||◌, ◌==◌, List, [], ◌∷◌, ◌++◌, map, filter, find, flat_map, Option, Some, None, refl, ◌⊎◌}
use Rattle.std.specs.List.{list_any, list_all}
use Rattle.std.specs.Option.{option_map, is_some}
use Rattle.std.proofs.Common.{sym, ◌∙◌, ap, subst, inl, inr, ⊎_elim}
use Rattle.std.proofs.lemmas.Bool.{eqb-true}
use Rattle.sect_base.specs.declared.ids.ReservationId.{ReservationId}
use Rattle.sect_base.specs.declared.limit.Level.{Level}
use Rattle.sect_base.specs.declared.limit.Level.TheVariants.{Course, Offering as offering_level, Config, Section}
use Rattle.sect_base.specs.declared.limit.Cap.{Cap}
use Rattle.sect_base.specs.declared.limit.Limit.{Limit}
use Rattle.sect_catalog.specs.declared.row.OfferingRow.{OfferingRow}
use Rattle.sect_catalog.specs.declared.row.CourseRow.{CourseRow}
use Rattle.sect_catalog.specs.declared.row.ConfigRow.{ConfigRow}
use Rattle.sect_catalog.specs.declared.row.SubpartRow.{SubpartRow}
use Rattle.sect_catalog.specs.declared.row.SectionRow.{SectionRow}
use Rattle.sect_catalog.specs.Catalogue.{all_courses, all_configs, all_subparts, all_sections, find_section}
use Rattle.sect_catalog.specs.Limits.{with_limit, capped_course, capped_config, capped_section}
use Rattle.sect_reserve.specs.declared.row.Reservation.{Reservation}
use Rattle.sect_model.specs.declared.change.Change.{Change}
use Rattle.sect_model.specs.declared.change.Change.TheVariants.{Offering, Student, Requests, Reserve, Unreserve, Expiry, Restrict, Unrestrict, Cap as new_cap, Cancelled, Day, Enrol, Leave}
use Rattle.sect_model.specs.World.{World, reservation_of, put_behind}
use Rattle.sect_model.specs.Change.{put_offering, put_limit, expire, put_expiry, add_reservation, drop_reservation}
use Rattle.sect_model.specs.Kept.{KeptWorld}
use Rattle.sect_model.specs.Fits.{Fits, changed}
use Rattle.sect_model.proofs.Members
use Rattle.sect_model.proofs.Members.{Member, both-left, both-right, not_both, either}
use Rattle.sect_model.proofs.ListLemmas.{any-find}
use Rattle.sect_model.proofs.TurnLemmas.{any-append}
use Rattle.sect_model.proofs.PutLemmas.{find-put}
use Rattle.sect_model.proofs.ReservationChanges.{expire-same}
use Rattle.sect_model.proofs.CapChange.{any-map, section-after}
use Rattle.sect_numbers.specs.declared.numbers.Numbers.{Numbers}
use Rattle.sect_numbers.specs.Tally.{has_row}
use Rattle.sect_numbers.specs.Numbers.{is_known, has_level, Told, Grown, have_courses, have_sections, have_subparts, have_configs, has_offering}
use Rattle.sect_numbers.specs.Quiet.{is_quiet, SameCounts, has_new, ToldOfOthers}
use Rattle.sect_numbers.proofs.QuietLemmas.{quiet-keeps-counts}

-- ---- told again

told-again : (n m : Numbers) (w u : World) → Told n w → SameCounts w u → Grown n m
    → ((level : Level) → is_known u level ≡ true → has_level m level ≡ true) → ((id : ReservationId) → is_some (reservation_of u id) ≡ true → has_row m.uses id.0 ≡ true) → Told m u
told-again n m w u told same grown levels reservations = record {
  counts = λ level. grown.counts level ∙ told.counts level ∙ sym (same.counts level);
  uses = λ id. grown.uses id ∙ told.uses id ∙ sym (same.uses id);
  levels = levels;
  reservations = reservations;
}

-- the numbers of a world with more rows are its numbers
pub told-grown : (n m : Numbers) (w : World) → Told n w → Grown n m → Told m w
told-grown n m w told grown = record {
  counts = λ level. grown.counts level ∙ told.counts level;
  uses = λ id. grown.uses id ∙ told.uses id;
  levels = λ level h. grown.levels level (told.levels level h);
  reservations = λ id h. grown.reservations id (told.reservations id h);
}

-- the same rows know the same levels
pub known-by : (w u : World) → u.catalogue.rows ≡ w.catalogue.rows → (level : Level) → is_known u level ≡ is_known w level
known-by w u e (Course id) = ap (λ rows. is_some (find (λ c. c.id.0 == id.0) (all_courses rows))) e
known-by w u e (offering_level id) = ap (λ rows. is_some (find (λ o. o.id.0 == id.0) rows)) e
known-by w u e (Config id) = ap (λ rows. is_some (find (λ g. g.id.0 == id.0) (all_configs rows))) e
known-by w u e (Section id) = ap (λ rows. is_some (find_section rows id)) e

-- ---- nested lists

pub any-flat_map : {X Y : Type 0} (t : Y → Bool) (f : X → List Y) (xs : List X) → list_any t (flat_map f xs) ≡ list_any (λ x. list_any t (f x)) xs
any-flat_map t f [] = refl
any-flat_map t f (x ∷ xs) = any-append t (f x) (flat_map f xs) ∙ ap (λ b. list_any t (f x) || b) (any-flat_map t f xs)

pub some_map : {X Y : Type 0} (f : X → Y) (o : Option X) → is_some (option_map f o) ≡ is_some o
some_map f None = refl
some_map f (Some x) = refl

pub found-sections : (rows : List OfferingRow) (t : SectionRow → Bool) → is_some (find t (all_sections rows)) ≡ list_any (λ o. list_any (λ g. list_any (λ p. list_any t p.sections) g.subparts) o.configs) rows
found-sections rows t =
    any-find t (all_sections rows) ∙ any-flat_map t (λ p. p.sections) (all_subparts rows)
    ∙ any-flat_map (λ p. list_any t p.sections) (λ g. g.subparts) (all_configs rows)
    ∙ any-flat_map (λ g. list_any (λ p. list_any t p.sections) g.subparts) (λ o. o.configs) rows

pub found-courses : (rows : List OfferingRow) (t : CourseRow → Bool) → is_some (find t (all_courses rows)) ≡ list_any (λ o. list_any t o.courses) rows
found-courses rows t = any-find t (all_courses rows) ∙ any-flat_map t (λ o. o.courses) rows

pub found-configs : (rows : List OfferingRow) (t : ConfigRow → Bool) → is_some (find t (all_configs rows)) ≡ list_any (λ o. list_any t o.configs) rows
found-configs rows t = any-find t (all_configs rows) ∙ any-flat_map t (λ o. o.configs) rows

-- ---- another limit

pub cap-knows : (cap : Cap) (limit : Limit) (w : World) (level : Level) → is_known (put_limit w cap limit) level ≡ is_known w level
cap-knows cap limit w (Course id) =
    found-courses (map (with_limit cap limit) w.catalogue.rows) (λ c. c.id.0 == id.0)
    ∙ any-map (λ o. list_any (λ c. c.id.0 == id.0) o.courses) (with_limit cap limit) w.catalogue.rows
    ∙ (λ i. list_any (λ o. any-map (λ c. c.id.0 == id.0) (capped_course cap limit) o.courses i) w.catalogue.rows)
    ∙ sym (found-courses w.catalogue.rows (λ c. c.id.0 == id.0))
cap-knows cap limit w (offering_level id) =
    any-find (λ o. o.id.0 == id.0) (map (with_limit cap limit) w.catalogue.rows)
    ∙ any-map (λ o. o.id.0 == id.0) (with_limit cap limit) w.catalogue.rows
    ∙ sym (any-find (λ o. o.id.0 == id.0) w.catalogue.rows)
cap-knows cap limit w (Config id) =
    found-configs (map (with_limit cap limit) w.catalogue.rows) (λ c. c.id.0 == id.0)
    ∙ any-map (λ o. list_any (λ c. c.id.0 == id.0) o.configs) (with_limit cap limit) w.catalogue.rows
    ∙ (λ i. list_any (λ o. any-map (λ c. c.id.0 == id.0) (capped_config cap limit) o.configs i) w.catalogue.rows)
    ∙ sym (found-configs w.catalogue.rows (λ c. c.id.0 == id.0))
cap-knows cap limit w (Section id) = ap is_some (section-after cap limit w.catalogue.rows id) ∙ some_map (capped_section cap limit) (find_section w.catalogue.rows id)

-- ---- a new offering

-- an element that passes one test passes what all pass
any-in : {X : Type 0} {P : Type 0} (t q : X → Bool) (xs : List X) → list_any t xs ≡ true → list_all q xs ≡ true → ((x : X) → t x ≡ true → q x ≡ true → P) → P
any-in t q xs h k f = let x = Members.any-at t xs h in f x.0 x.2 (Members.all-at q xs k x.0 x.1)

-- what is known in the longer rows is known in the old ones or in the new one
in-either : (rows : List OfferingRow) (row : OfferingRow) (t : OfferingRow → Bool) → list_any t (rows ++ row ∷ []) ≡ true → (list_any t rows ≡ true) ⊎ (t row ≡ true)
in-either rows row t h =
    ⊎_elim (λ a. inl a) (λ b. inr (last (t row) b)) (either (list_any t rows) (list_any t (row ∷ [])) (sym (any-append t rows (row ∷ [])) ∙ h))
  where
    last : (b : Bool) → b || false ≡ true → b ≡ true
    last true h = refl
    last false h = h

module _ (n m : Numbers) (w : World) (row : OfferingRow) (told : Told n w) (grown : Grown n m) (new : has_offering m row ≡ true) where
  new-courses : have_courses m row.courses ≡ true
  new-courses = both-right (has_level m (offering_level row.id)) _ (both-left _ (have_configs m row.configs) new)

  new-configs : have_configs m row.configs ≡ true
  new-configs = both-right (has_level m (offering_level row.id) && have_courses m row.courses) _ new

  new-offering : has_level m (offering_level row.id) ≡ true
  new-offering = both-left _ (have_courses m row.courses) (both-left _ (have_configs m row.configs) new)

  in-sections : (id : _) (ps : List SubpartRow) → have_subparts m ps ≡ true → list_any (λ p. list_any (λ s. s.id.0 == id) p.sections) ps ≡ true → has_row m.sections id ≡ true
  in-sections id ps all h =
      any-in (λ p. list_any (λ s. s.id.0 == id) p.sections) (λ p. have_sections m p.sections) ps h all (λ p any have.
      any-in (λ s. s.id.0 == id) (λ s. has_level m (Section s.id)) p.sections any have (λ s same has. subst (λ k. has_row m.sections k ≡ true) (eqb-true s.id.0 id same) has))

  offering-levels : (level : Level) → is_known (put_offering w row) level ≡ true → has_level m level ≡ true
  offering-levels (Course id) h =
      ⊎_elim
      (λ a. grown.levels (Course id) (told.levels (Course id) (found-courses w.catalogue.rows (λ c. c.id.0 == id.0) ∙ a)))
      (λ b. any-in (λ c. c.id.0 == id.0) (λ c. has_level m (Course c.id)) row.courses b new-courses (λ c same has. subst (λ k. has_row m.courses k ≡ true) (eqb-true c.id.0 id.0 same) has))
      (in-either w.catalogue.rows row (λ o. list_any (λ c. c.id.0 == id.0) o.courses) (sym (found-courses (w.catalogue.rows ++ row ∷ []) (λ c. c.id.0 == id.0)) ∙ h))
  offering-levels (offering_level id) h =
      ⊎_elim
      (λ a. grown.levels (offering_level id) (told.levels (offering_level id) (any-find (λ o. o.id.0 == id.0) w.catalogue.rows ∙ a)))
      (λ b. subst (λ k. has_row m.offerings k ≡ true) (eqb-true row.id.0 id.0 b) new-offering)
      (in-either w.catalogue.rows row (λ o. o.id.0 == id.0) (sym (any-find (λ o. o.id.0 == id.0) (w.catalogue.rows ++ row ∷ [])) ∙ h))
  offering-levels (Config id) h =
      ⊎_elim
      (λ a. grown.levels (Config id) (told.levels (Config id) (found-configs w.catalogue.rows (λ c. c.id.0 == id.0) ∙ a)))
      (λ b. any-in (λ c. c.id.0 == id.0) (λ g. has_level m (Config g.id) && have_subparts m g.subparts) row.configs b new-configs
      (λ c same has. subst (λ k. has_row m.configs k ≡ true) (eqb-true c.id.0 id.0 same) (both-left _ (have_subparts m c.subparts) has)))
      (in-either w.catalogue.rows row (λ o. list_any (λ c. c.id.0 == id.0) o.configs) (sym (found-configs (w.catalogue.rows ++ row ∷ []) (λ c. c.id.0 == id.0)) ∙ h))
  offering-levels (Section id) h =
      ⊎_elim
      (λ a. grown.levels (Section id) (told.levels (Section id) (found-sections w.catalogue.rows (λ s. s.id.0 == id.0) ∙ a)))
      (λ b. any-in (λ g. list_any (λ p. list_any (λ s. s.id.0 == id.0) p.sections) g.subparts) (λ g. has_level m (Config g.id) && have_subparts m g.subparts) row.configs b new-configs
      (λ g any has. in-sections id.0 g.subparts (both-right (has_level m (Config g.id)) _ has) any))
      (in-either w.catalogue.rows row (λ o. list_any (λ g. list_any (λ p. list_any (λ s. s.id.0 == id.0) p.sections) g.subparts) o.configs) (sym (found-sections (w.catalogue.rows ++ row ∷ []) (λ s. s.id.0 == id.0)) ∙ h))

-- ---- reservations

-- one put among the others is known, and no other is new
put-known : {X : Type 0} (key : X → _) (t : X → Bool) (x : X) (xs : List X) → is_some (find t (put_behind key x xs)) ≡ true → (is_some (find t xs) ≡ true) ⊎ (t x ≡ true)
put-known key t x xs h = by_test (t x) refl
  where
    by_test : (b : Bool) → t x ≡ b → (is_some (find t xs) ≡ true) ⊎ (t x ≡ true)
    by_test true e = inr e
    by_test false e = inl (ap is_some (sym (find-put key t x xs e)) ∙ h)

-- what is known in a part is known
part-known : {X : Type 0} (t keep : X → Bool) (xs : List X) → is_some (find t (filter keep xs)) ≡ true → is_some (find t xs) ≡ true
part-known t keep xs h =
    let f = Members.known (find t (filter keep xs)) h in
    let g = Members.find-member t (filter keep xs) f.0 f.1 in
    Members.find-some t xs f.0 (Members.member-filter keep xs f.0 g.0).0 g.1

module _ (n m : Numbers) (w : World) (told : Told n w) (grown : Grown n m) where
  levels-by : (u : World) → u.catalogue.rows ≡ w.catalogue.rows → (level : Level) → is_known u level ≡ true → has_level m level ≡ true
  levels-by u e level h = grown.levels level (told.levels level (sym (known-by w u e level) ∙ h))

  same-reservations : (id : ReservationId) → is_some (reservation_of w id) ≡ true → has_row m.uses id.0 ≡ true
  same-reservations id h = grown.reservations id (told.reservations id h)

  reserved : (r : Reservation) → has_row m.uses r.id.0 ≡ true → (id : ReservationId) → is_some (reservation_of (add_reservation w r) id) ≡ true → has_row m.uses id.0 ≡ true
  reserved r new id h =
      ⊎_elim (same-reservations id) (λ t. subst (λ k. has_row m.uses k ≡ true) (eqb-true r.id.0 id.0 t) new)
      (put-known (λ r. r.offering.0) (λ x. x.id.0 == id.0) r w.reservations h)

  quiet : (c : Change) → KeptWorld w → Fits w c → is_quiet c ≡ true → has_new m c ≡ true → SameCounts w (changed w c) → Told m (changed w c)
  quiet (Offering row) k f q new same = told-again n m w (put_offering w row) told same grown (offering-levels n m w row told grown new) same-reservations
  quiet (Student row) k f q new same = told-again n m w (changed w (Student row)) told same grown (levels-by (changed w (Student row)) refl) same-reservations
  quiet (Requests student asks) k f q new same = told-again n m w (changed w (Requests student asks)) told same grown (levels-by (changed w (Requests student asks)) refl) same-reservations
  quiet (Reserve r) k f q new same = told-again n m w (add_reservation w r) told same grown (levels-by (add_reservation w r) refl) (reserved r new)
  quiet (Unreserve id) k f q new same =
      told-again n m w (drop_reservation w id) told same grown (levels-by (drop_reservation w id) refl)
      (λ x h. same-reservations x (part-known (λ r. r.id.0 == x.0) (λ r. not (r.id.0 == id.0)) w.reservations h))
  quiet (Expiry id day) k f q new same =
      told-again n m w (put_expiry w id day) told same grown (levels-by (put_expiry w id day) refl)
      (λ x h. same-reservations x
      (sym (some_map (expire id day) (reservation_of w x))
      ∙ sym (ap is_some (Members.find-map (λ r. r.id.0 == x.0) (expire id day) w.reservations (λ r. expire-same w k (λ r. r.id.0 == x.0) id day (λ r. refl) r))) ∙ h))
  quiet (Restrict r) k f q new same = told-again n m w (changed w (Restrict r)) told same grown (levels-by (changed w (Restrict r)) refl) same-reservations
  quiet (Unrestrict id) k f q new same = told-again n m w (changed w (Unrestrict id)) told same grown (levels-by (changed w (Unrestrict id)) refl) same-reservations
  quiet (new_cap cap limit) k f q new same =
      told-again n m w (put_limit w cap limit) told same grown (λ level h. grown.levels level (told.levels level (sym (cap-knows cap limit w level) ∙ h))) same-reservations
  quiet (Cancelled id) k f q new same = told-again n m w (changed w (Cancelled id)) told same grown (levels-by (changed w (Cancelled id)) refl) same-reservations
  quiet (Day day) k f q new same = told-again n m w (changed w (Day day)) told same grown (levels-by (changed w (Day day)) refl) same-reservations
  quiet (Enrol e) k f q new same = absurd (not_both false q refl)
  quiet (Leave student course) k f q new same = absurd (not_both false q refl)

pub told-of-others : ToldOfOthers
told-of-others n m w c k f q told grown new = quiet n m w told grown c k f q new (quiet-keeps-counts w c k f q)
