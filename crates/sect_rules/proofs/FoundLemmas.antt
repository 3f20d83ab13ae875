-- Each row that options are read from is the one that its id finds.
use Rattle.std.specs.Prelude.{◌≡◌, ℕ, zero, suc, Bool, true, ◌==◌, List, [], ◌∷◌, map, filter, slice_get, Option, Some, None, Contains, IfSome, option_copied, refl}
use Rattle.std.specs.Borrow.{Bor}
use Rattle.std.specs.List.{All}
use Rattle.std.specs.Option.{option_and_then}
use Rattle.std.proofs.Common.{sym, ◌∙◌, ap, subst, arith, inl, inr}
use Rattle.sect_catalog.specs.Fault.{are_checked}
use Rattle.sect_people.specs.Order.{all_differ, sorted_by}
use Rattle.sect_model.specs.Allowed.{reservations_of}
use Rattle.sect_model.specs.Data.{CourseId, OfferingId, ConfigId, OfferingRow, ConfigRow, SubpartRow, Reservation}
use Rattle.sect_model.specs.World.{World, offering_of}
use Rattle.sect_model.specs.Choice.{config_in, subparts_of}
use Rattle.sect_model.proofs.EnrolLeave.{find-own}
use Rattle.sect_model.proofs.Members.{Member, member-filter}
use Rattle.sect_model.proofs.ListLemmas.{contains-more}
use Rattle.sect_moment.specs.Found.{IsChosen, IsConfig, IsReservation, IsSection}
use Rattle.sect_moment.proofs.IdLemmas.{config-itself, section-itself}
use Rattle.sect_moment.proofs.NthLemmas.{member-got, member-of_sorted}
use Rattle.sect_rules.specs.Part.{is_of_part}

-- what holds of each member holds of all
all-known : {X : Type 0} (P : X → Type 0) (xs : List X) → ((x : X) → Member xs x → P x) → All P xs
all-known P [] f k d h = absurd (omega (arith, h))
all-known P (x ∷ xs) f zero d h = f x (inl refl)
all-known P (x ∷ xs) f (suc k) d h = all-known P xs (λ y m. f y (inr m)) k d (omega (arith, h))

-- what holds of all holds of one
pub all-contained : {X : Type 0} (P : X → Type 0) (xs : List X) (x : X) → All P xs → Contains xs x → P x
all-contained P xs x h c = subst P c.2 (h c.0 x c.1)

-- a member is contained
contains-member : {X : Type 0} (xs : List X) (x : X) → Member xs x → Contains xs x
contains-member [] x m = absurd m
contains-member (y ∷ ys) x (inl e) = (zero, omega arith, e)
contains-member (y ∷ ys) x (inr m) = contains-more y ys x (contains-member ys x m)

-- what stands at a place of the sorted list is contained
pub row-among : {X : Type 0} (key : X → ℕ) (xs : List X) (i : ℕ) (r : Option (Bor X)) → option_copied r ≡ slice_get (sorted_by key xs) i → IfSome r (λ row. Contains xs row.now)
row-among key xs i None e = tt
row-among key xs i (Some row) e = contains-member xs row.now (member-of_sorted key xs row.now (member-got (sorted_by key xs) i row.now (sym e)))

module _ (w : World) (checked : are_checked w.catalogue.rows ≡ true) where
  -- the configurations of an offering are found in it
  pub configs-found : (course : CourseId) (o : OfferingRow) → offering_of w course ≡ Some o → All (IsConfig w (Some course)) o.configs
  configs-found course o e =
      all-known (IsConfig w (Some course)) o.configs (λ g m. (λ i. option_and_then (λ o. config_in o g.id) (e i)) ∙ config-itself w checked course o e g m)

  -- the sections of a subpart are found in the catalogue
  pub sections-found : (course : CourseId) (config : ConfigId) (p : SubpartRow) → Member (subparts_of w course config) p → All (IsSection w) p.sections
  sections-found course config p m = all-known (IsSection w) p.sections (λ s n. section-itself w checked course config p m s n)

-- the reservations of an offering are found in the world
pub reservations-found : (w : World) → all_differ (map (λ r. r.id.0) w.reservations) ≡ true → (offering : OfferingId) → All (IsReservation w) (reservations_of w offering)
reservations-found w differ offering =
    all-known (IsReservation w) (reservations_of w offering)
    (λ r m. find-own (λ r. r.id.0) w.reservations differ r (member-filter (λ r. r.offering.0 == offering.0) w.reservations r m).0 r.id.0 refl)

-- a row among those that are found, or none
chosen : (w : World) (rows : List Reservation) (row : Option (Bor Reservation)) → All (IsReservation w) rows → IfSome row (λ r. Contains rows r.now) → IsChosen w row
chosen w rows None h c = refl
chosen w rows (Some r) h c = sym (all-contained (IsReservation w) rows r.now h c)

pub each-chosen : (w : World) (rows : List Reservation) (o : Option (Option (Bor Reservation))) → All (IsReservation w) rows
    → IfSome o (λ row. IfSome row (λ r. Contains rows r.now)) → IfSome o (IsChosen w)
each-chosen w rows None h c = tt
each-chosen w rows (Some row) h c = chosen w rows row h c

-- what stands at a place of the obligatory ones, or of the others, is one of the reservations
pub part-among : (must : Bool) (rs : List Reservation) (i : ℕ) (r : Option (Bor Reservation)) → option_copied r ≡ slice_get (sorted_by (λ r. r.id.0) (filter (is_of_part must) rs)) i
    → IfSome r (λ row. Contains rs row.now)
part-among must rs i None e = tt
part-among must rs i (Some row) e =
    let part = filter (is_of_part must) rs in
    contains-member rs row.now
    (member-filter (is_of_part must) rs row.now (member-of_sorted (λ r. r.id.0) part row.now (member-got (sorted_by (λ r. r.id.0) part) i row.now (sym e)))).0

-- a configuration's row is that of the offering
pub its-config : (w : World) (course : CourseId) (at : Option CourseId) (o : OfferingRow) (row : ConfigRow) → at ≡ Some course → offering_of w course ≡ Some o → IsConfig w at row
    → config_in o row.id ≡ Some row
its-config w course at o row e f h = sym (ap (option_and_then (λ o. config_in o row.id)) (ap (option_and_then (offering_of w)) e ∙ f)) ∙ h
