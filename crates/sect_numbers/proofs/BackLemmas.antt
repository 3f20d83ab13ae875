-- Numbers after a change that enrols nobody are those of the world before it.
use Rattle.std.specs.Prelude.{◌≡◌, ℕ, Bool, true, false, not, ◌==◌, List, [], ◌∷◌, ◌++◌, find, refl}
use Rattle.std.specs.List.{list_any}
use Rattle.std.specs.Option.{is_some}
use Rattle.std.proofs.Common.{sym, ◌∙◌, ap, subst, arith}
use Rattle.std.proofs.lemmas.Bool.{eqb-true}
use Rattle.std.proofs.lemmas.Bool.Decides.{nat_tests}
use Rattle.sect_base.specs.declared.ids.ReservationId.{ReservationId}
use Rattle.sect_base.specs.declared.limit.Level.{Level}
use Rattle.sect_base.specs.declared.limit.Level.TheVariants.{Course, Offering as offering_level, Config, Section}
use Rattle.sect_catalog.specs.declared.row.OfferingRow.{OfferingRow}
use Rattle.sect_reserve.specs.declared.row.Reservation.{Reservation}
use Rattle.sect_model.specs.declared.change.Change.{Change}
use Rattle.sect_model.specs.declared.change.Change.TheVariants.{Offering, Student, Requests, Reserve, Unreserve, Expiry, Restrict, Unrestrict, Cap as new_cap, Cancelled, Day, Enrol, Leave}
use Rattle.sect_model.specs.World.{World, reservation_of}
use Rattle.sect_model.specs.Change.{put_offering, put_limit, expire, put_expiry, add_reservation, drop_reservation}
use Rattle.sect_model.specs.Kept.{KeptWorld}
use Rattle.sect_model.specs.Fits.{Fits, changed}
use Rattle.sect_model.proofs.Members
use Rattle.sect_model.proofs.Members.{not_both, or-left}
use Rattle.sect_model.proofs.ListLemmas.{any-find}
use Rattle.sect_model.proofs.TurnLemmas.{any-append}
use Rattle.sect_model.proofs.PutLemmas.{find-put}
use Rattle.sect_model.proofs.ReservationChanges.{expire-same}
use Rattle.sect_model.proofs.ChangeLemmas.{new_id}
use Rattle.sect_numbers.specs.declared.numbers.Numbers.{Numbers}
use Rattle.sect_numbers.specs.Tally.{has_row}
use Rattle.sect_numbers.specs.Numbers.{is_known, has_level, Told}
use Rattle.sect_numbers.specs.Quiet.{is_quiet, SameCounts, has_old, ToldBefore}
use Rattle.sect_numbers.proofs.QuietLemmas.{quiet-keeps-counts}
use Rattle.sect_numbers.proofs.KnownLemmas.{known-by, cap-knows, some_map, found-courses, found-configs, found-sections}

told-before : (n : Numbers) (w u : World) → Told n u → SameCounts w u
    → ((level : Level) → is_known w level ≡ true → has_level n level ≡ true) → ((id : ReservationId) → is_some (reservation_of w id) ≡ true → has_row n.uses id.0 ≡ true) → Told n w
told-before n w u told same levels reservations = record {
  counts = λ level. told.counts level ∙ same.counts level;
  uses = λ id. told.uses id ∙ same.uses id;
  levels = levels;
  reservations = reservations;
}

-- an old level is known in the longer rows
longer-any : (rows : List OfferingRow) (row : OfferingRow) (t : OfferingRow → Bool) → list_any t rows ≡ true → list_any t (rows ++ row ∷ []) ≡ true
longer-any rows row t h = any-append t rows (row ∷ []) ∙ or-left (list_any t rows) (list_any t (row ∷ [])) h

longer-knows : (w : World) (row : OfferingRow) (level : Level) → is_known w level ≡ true → is_known (put_offering w row) level ≡ true
longer-knows w row (Course id) h =
    found-courses (w.catalogue.rows ++ row ∷ []) (λ c. c.id.0 == id.0)
    ∙ longer-any w.catalogue.rows row (λ o. list_any (λ c. c.id.0 == id.0) o.courses) (sym (found-courses w.catalogue.rows (λ c. c.id.0 == id.0)) ∙ h)
longer-knows w row (offering_level id) h =
    any-find (λ o. o.id.0 == id.0) (w.catalogue.rows ++ row ∷ [])
    ∙ longer-any w.catalogue.rows row (λ o. o.id.0 == id.0) (sym (any-find (λ o. o.id.0 == id.0) w.catalogue.rows) ∙ h)
longer-knows w row (Config id) h =
    found-configs (w.catalogue.rows ++ row ∷ []) (λ c. c.id.0 == id.0)
    ∙ longer-any w.catalogue.rows row (λ o. list_any (λ c. c.id.0 == id.0) o.configs) (sym (found-configs w.catalogue.rows (λ c. c.id.0 == id.0)) ∙ h)
longer-knows w row (Section id) h =
    found-sections (w.catalogue.rows ++ row ∷ []) (λ s. s.id.0 == id.0)
    ∙ longer-any w.catalogue.rows row (λ o. list_any (λ g. list_any (λ p. list_any (λ s. s.id.0 == id.0) p.sections) g.subparts) o.configs)
    (sym (found-sections w.catalogue.rows (λ s. s.id.0 == id.0)) ∙ h)

module _ (n : Numbers) (w : World) where
  levels-by : (u : World) → u.catalogue.rows ≡ w.catalogue.rows → Told n u → (level : Level) → is_known w level ≡ true → has_level n level ≡ true
  levels-by u e told level h = told.levels level (known-by w u e level ∙ h)

  -- an old reservation is known beside a new one
  reserved : (r : Reservation) → is_some (reservation_of w r.id) ≡ false → Told n (add_reservation w r) → (id : ReservationId) → is_some (reservation_of w id) ≡ true → has_row n.uses id.0 ≡ true
  reserved r new told id h = by_test (r.id.0 == id.0) refl
    where
      by_test : (b : Bool) → r.id.0 == id.0 ≡ b → has_row n.uses id.0 ≡ true
      by_test true t = absurd (not_both (is_some (reservation_of w r.id)) (ap (λ k. is_some (find (λ r. r.id.0 == k) w.reservations)) (eqb-true r.id.0 id.0 t) ∙ h) new)
      by_test false t = told.reservations id (ap is_some (find-put (λ r. r.offering.0) (λ x. x.id.0 == id.0) r w.reservations t) ∙ h)

  -- the others are known without the one that goes
  unreserved : (id : ReservationId) → Told n (drop_reservation w id) → has_row n.uses id.0 ≡ true → (x : ReservationId) → is_some (reservation_of w x) ≡ true → has_row n.uses x.0 ≡ true
  unreserved id told old x h = by_test (id.0 == x.0) refl
    where
      differs : (a b c : ℕ) → b == a ≡ false → c == a ≡ true → c == b ≡ false
      differs a b c h e = grind (arith, nat_tests)

      by_test : (b : Bool) → id.0 == x.0 ≡ b → has_row n.uses x.0 ≡ true
      by_test true t = subst (λ k. has_row n.uses k ≡ true) (eqb-true id.0 x.0 t) old
      by_test false t =
          told.reservations x
          (ap is_some (Members.find-filter (λ r. r.id.0 == x.0) (λ r. not (r.id.0 == id.0)) w.reservations (λ r s. ap not (differs x.0 id.0 r.id.0 t s))) ∙ h)

  before : (c : Change) → KeptWorld w → Fits w c → is_quiet c ≡ true → Told n (changed w c) → has_old n c ≡ true → SameCounts w (changed w c) → Told n w
  before (Offering row) k f q told old same = told-before n w (put_offering w row) told same (λ level h. told.levels level (longer-knows w row level h)) told.reservations
  before (Student row) k f q told old same = told-before n w (changed w (Student row)) told same (levels-by (changed w (Student row)) refl told) told.reservations
  before (Requests student asks) k f q told old same = told-before n w (changed w (Requests student asks)) told same (levels-by (changed w (Requests student asks)) refl told) told.reservations
  before (Reserve r) k f q told old same = told-before n w (add_reservation w r) told same (levels-by (add_reservation w r) refl told) (reserved r (new_id w r f) told)
  before (Unreserve id) k f q told old same = told-before n w (drop_reservation w id) told same (levels-by (drop_reservation w id) refl told) (unreserved id told old)
  before (Expiry id day) k f q told old same =
      told-before n w (put_expiry w id day) told same (levels-by (put_expiry w id day) refl told)
      (λ x h. told.reservations x
      (ap is_some (Members.find-map (λ r. r.id.0 == x.0) (expire id day) w.reservations (λ r. expire-same w k (λ r. r.id.0 == x.0) id day (λ r. refl) r))
      ∙ some_map (expire id day) (reservation_of w x) ∙ h))
  before (Restrict r) k f q told old same = told-before n w (changed w (Restrict r)) told same (levels-by (changed w (Restrict r)) refl told) told.reservations
  before (Unrestrict id) k f q told old same = told-before n w (changed w (Unrestrict id)) told same (levels-by (changed w (Unrestrict id)) refl told) told.reservations
  before (new_cap cap limit) k f q told old same = told-before n w (put_limit w cap limit) told same (λ level h. told.levels level (cap-knows cap limit w level ∙ h)) told.reservations
  before (Cancelled id) k f q told old same = told-before n w (changed w (Cancelled id)) told same (levels-by (changed w (Cancelled id)) refl told) told.reservations
  before (Day day) k f q told old same = told-before n w (changed w (Day day)) told same (levels-by (changed w (Day day)) refl told) told.reservations
  before (Enrol e) k f q told old same = absurd (not_both false q refl)
  before (Leave student course) k f q told old same = absurd (not_both false q refl)

pub told-before-others : ToldBefore
told-before-others n w c k f q told old = before n w c k f q told old (quiet-keeps-counts w c k f q)
