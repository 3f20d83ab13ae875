-- The commands of all tables of a history's state lead to the same rows.
use Rattle.std.specs.Prelude.{◌≡◌, ◌==◌, ℕ, ◌++◌, true, List, [], length, map, filter, flat_map, nat_le, refl}
use Rattle.std.specs.Option.{is_none}
use Rattle.std.proofs.Common.{sym, ◌∙◌, ap, append-nil}
use Rattle.std.proofs.lemmas.Bool.{leb-true}
use Rattle.sect_catalog.specs.Catalogue.{all_courses}
use Rattle.sect_catalog.specs.Fault.{are_checked}
use Rattle.sect_command.specs.declared.view.Table.{Table}
use Rattle.sect_command.specs.declared.view.Table.TheVariants as tables
use Rattle.sect_command.specs.declared.view.View.TheVariants.{Offerings, Requests, Reservations, Students}
use Rattle.sect_history.proofs.Histories.{replays-good}
use Rattle.sect_history.specs.Step.{state_of}
use Rattle.sect_model.proofs.ListLemmas.{all-sorted}
use Rattle.sect_model.proofs.Members.{all-at, all-of}
use Rattle.sect_model.specs.Allowed.{reservations_of}
use Rattle.sect_model.specs.Data.{OfferingRow, Reservation, Student}
use Rattle.sect_model.specs.Kept.{KeptWorld, asks_pass, includes_fit, lists_own}
use Rattle.sect_model.specs.Look.{rows_view, students_by_id}
use Rattle.sect_model.specs.World.{World}
use Rattle.sect_people.specs.Fault.{fault_of}
use Rattle.sect_people.specs.Order.{all_differ, sorted_by}
use Rattle.sect_return.specs.Again.{AllReturn, TablesReturn, asks_tables}
use Rattle.sect_return.specs.Asked.{asks_offering, asks_reservation, asks_student, asks_view}
use Rattle.sect_return.specs.Checked.{Checked, is_faultless, row_passes}
use Rattle.sect_return.proofs.Ascending.{ascends_sorted, sorted_stays}
use Rattle.sect_return.proofs.Histories.{states_are_checked}
use Rattle.sect_return.proofs.Ids.{checked_differ}
use Rattle.sect_return.proofs.OfferingsAgain.{offerings_run, sorted_checked}
use Rattle.sect_return.proofs.RequestsAgain.{requests_run, sorted_fault}
use Rattle.sect_return.proofs.ReservationsAgain.{found_sorted, reservations_run}
use Rattle.sect_return.proofs.Runs.{Runs, runs_append, runs_give, world_with}
use Rattle.sect_return.proofs.Sorted.{count_sorted, differ_sorted}
use Rattle.sect_return.proofs.StudentsAgain.{fresh, rows_run}

module _ (w : World) (k : KeptWorld w) (checked : Checked w) (day : ℕ) where
  abbrev offering_id : OfferingRow → ℕ
  offering_id o = o.id.0

  abbrev student_id : Student → ℕ
  student_id s = s.row.id.0

  abbrev reservation_id : Reservation → ℕ
  reservation_id r = r.id.0

  abbrev rows : List OfferingRow
  rows = sorted_by offering_id w.catalogue.rows

  abbrev students : List Student
  students = students_by_id w

  abbrev reservations : List Reservation
  reservations = sorted_by reservation_id w.reservations

  rows_checked : are_checked rows ≡ true
  rows_checked = sorted_checked w.catalogue.rows k.rows_pass

  offerings : (last : ℕ) × Runs (world_with 0 [] [] []) day (map asks_offering rows) (world_with last rows [] [])
  offerings = offerings_run rows [] 0 day rows_checked

  with_students : (start : ℕ)
      → (last : ℕ) × Runs (world_with start rows [] []) day (map asks_student (map (λ s. s.row) students))
      (world_with last rows (map fresh (map (λ s. s.row) students)) [])
  with_students start = rows_run w rows start day checked.few k.students_differ (leb-true (length w.students) 50000 k.few_students)

  with_requests : (start : ℕ) → (last : ℕ)
      × Runs (world_with start rows (map fresh (map (λ s. s.row) students)) []) day
      (flat_map asks_view (map (λ s. record { student = s.row.id; asks = s.asks }) students)) (world_with last rows students [])
  with_requests start =
      requests_run rows students [] start day
      (all-sorted student_id (λ s. is_none (fault_of s.asks (map (λ c. c.id) (all_courses rows)))) w.students
      ∙ all-of (λ s. is_none (fault_of s.asks (map (λ c. c.id) (all_courses rows)))) w.students
      (λ s m. sorted_fault w.catalogue.rows s.asks ∙ all-at (asks_pass w) w.students k.asks_pass s m))
      (differ_sorted student_id student_id w.students k.students_differ)

  with_reservations : (start : ℕ) → (last : ℕ) × (all : List Reservation) × (sorted_by reservation_id all ≡ sorted_by reservation_id reservations)
      × Runs (world_with start rows students []) day (map asks_reservation reservations) (world_with last rows students all)
  with_reservations start =
      reservations_run rows students rows_checked reservations (differ_sorted reservation_id reservation_id w.reservations k.reservations_differ)
      (all-sorted reservation_id (λ r. nat_le (length (filter (λ x. x.offering.0 == r.offering.0) reservations)) 50) w.reservations
      ∙ all-of (λ r. nat_le (length (filter (λ x. x.offering.0 == r.offering.0) reservations)) 50) w.reservations (λ r m.
      ap (λ n. nat_le n 50) (count_sorted reservation_id (λ x. x.offering.0 == r.offering.0) w.reservations)
      ∙ all-at (λ r. nat_le (length (reservations_of w r.offering)) 50) w.reservations k.few_reservations r m))
      (all-sorted reservation_id (row_passes (world_with 0 rows [] [])) w.reservations
      ∙ all-of (row_passes (world_with 0 rows [] [])) w.reservations
      (λ r m. found_sorted w.catalogue.rows ids_differ (is_faultless r) r.offering (all-at (row_passes w) w.reservations checked.rows_pass r m)))
      (all-sorted reservation_id (λ r. includes_fit (world_with 0 rows [] []) r.offering r.includes) w.reservations
      ∙ all-of (λ r. includes_fit (world_with 0 rows [] []) r.offering r.includes) w.reservations (λ r m.
      found_sorted w.catalogue.rows ids_differ (lists_own r.includes) r.offering
      (all-at (λ r. includes_fit w r.offering r.includes) w.reservations k.reservations_fit r m)))
      reservations [] [] start day refl refl
    where
      ids_differ : all_differ (map (λ o. o.id.0) w.catalogue.rows) ≡ true
      ids_differ = checked_differ w.catalogue.rows k.rows_pass

  same_rows : (day : ℕ) (all : List Reservation) → sorted_by reservation_id all ≡ sorted_by reservation_id reservations → (table : Table)
      → rows_view (world_with day rows students all) table ≡ rows_view w table
  same_rows day all same tables.Offerings = ap Offerings (sorted_stays offering_id rows (ascends_sorted offering_id w.catalogue.rows))
  same_rows day all same tables.Students = ap (λ ss. Students (map (λ (s : Student). s.row) ss))
      (sorted_stays student_id students (ascends_sorted student_id w.students))
  same_rows day all same tables.Requests = ap (λ ss. Requests (map (λ (s : Student). record { student = s.row.id; asks = s.asks }) ss))
      (sorted_stays student_id students (ascends_sorted student_id w.students))
  same_rows day all same tables.Reservations = ap Reservations
      (same ∙ sorted_stays reservation_id reservations (ascends_sorted reservation_id w.reservations))

  all_return : AllReturn w day
  all_return =
      let a = offerings in
      let b = with_students a.0 in
      let c = with_requests b.0 in
      let d = with_reservations c.0 in
      let last = world_with d.0 rows students d.1 in
      let third = runs_append (map asks_reservation reservations) [] (world_with c.0 rows students []) last last day d.3 refl in
      let second = runs_append (flat_map asks_view (map (λ (s : Student). record { student = s.row.id; asks = s.asks }) students))
      (map asks_reservation reservations ++ [])
      (world_with b.0 rows (map fresh (map (λ (s : Student). s.row) students)) []) (world_with c.0 rows students []) last day c.1 third in
      let first = runs_append (map asks_student (map (λ (s : Student). s.row) students)) _ (world_with a.0 rows [] [])
      (world_with b.0 rows (map fresh (map (λ (s : Student). s.row) students)) []) last day b.1 second in
      let run = runs_append (map asks_offering rows) _ (world_with 0 [] [] []) (world_with a.0 rows [] []) last day a.1 first in
      let given = runs_give (asks_tables w) (world_with 0 [] [] []) last day run in
      (given.0, λ table. ap (λ v. rows_view v table) given.1 ∙ same_rows d.0 d.1 d.2 table)

-- the commands of the tables of a history's state lead to the same rows
pub tables_return : TablesReturn
tables_return entries day replay =
    let k = (replays-good entries replay).kept entries [] (sym (append-nil entries)) in
    all_return (state_of entries).world k.world (states_are_checked entries replay) day
