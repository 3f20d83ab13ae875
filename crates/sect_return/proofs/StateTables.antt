-- The tables of a history's state have texts that are read back.
use Rattle.std.specs.Prelude.{◌≡◌, ◌⊎◌, ℕ, ◌+◌, ◌*◌, ◌≤◌, Bool, true, false, not, ◌==◌, cond, List, [], ◌∷◌, ◌++◌, length, map, flat_map, Option, Some, None, refl, max}
use Rattle.std.specs.List.{list_all}
use Rattle.std.specs.Option.{option_map, option_to_list}
use Rattle.std.proofs.Common.{sym, ◌∙◌, ap, subst, inl, inr, arith}
use Rattle.sect_catalog.specs.Catalogue.{subpart_of_section}
use Rattle.sect_command.specs.declared.command.Command.{Command}
use Rattle.sect_command.specs.declared.command.Command.TheVariants as commands
use Rattle.sect_command.specs.declared.command.ReserveRow.{ReserveRow}
use Rattle.sect_command.specs.declared.reply.Reply.{Reply}
use Rattle.sect_command.specs.declared.view.AsksView.{AsksView}
use Rattle.sect_command.specs.declared.view.Table.TheVariants as tables
use Rattle.sect_history.proofs.Histories.{replays-good}
use Rattle.sect_history.specs.Changes.{CommandLeads, Lead, is_seating, own_change}
use Rattle.sect_history.specs.Step.{state_of, stepped}
use Rattle.sect_model.proofs.Members.{both-left, both-right}
use Rattle.sect_model.proofs.StepLemmas.{history-keeps, step-keeps}
use Rattle.sect_model.specs.Change.{expire, place_of, put_day, reservation_from}
use Rattle.sect_model.specs.Data.{OfferingRow, Reservation, ReservationId, SectionId, Student, StudentRow, SubpartRow}
use Rattle.sect_model.specs.Fits.{changed}
use Rattle.sect_model.specs.Kept.{KeptState}
use Rattle.sect_model.specs.World.{State, World, empty_state}
use Rattle.sect_model.specs.declared.change.Change.{Change}
use Rattle.sect_model.specs.declared.change.Change.TheVariants.{Offering, Student as new_student, Requests, Reserve, Unreserve, Expiry, Restrict, Unrestrict, Cap as new_cap, Cancelled, Day, Enrol, Leave}
use Rattle.sect_once.specs.declared.entry.Entry.{Entry}
use Rattle.sect_once.specs.History.{IsReplay, state_after}
use Rattle.sect_people.specs.Order.{all_differ, sorted_by}
use Rattle.sect_read.specs.Fits.{FitsCommand, FitsDay, FitsList, FitsOfferingRow, FitsOptional, FitsReserveRow, FitsSection, FitsStudentRow}
use Rattle.sect_reserve.specs.declared.row.Place.{Place}
use Rattle.sect_rows.proofs.Batches.{more-state}
use Rattle.sect_rows.proofs.Each.{each-append, each-filter, each-map, each-put}
use Rattle.sect_rows.proofs.Steps.{step-fits}
use Rattle.sect_rows.specs.Laws.{HasCommand}
use Rattle.sect_rows.specs.States.{FitsState, FitsStudentAsks}
use Rattle.sect_return.specs.Back.{FitsAsks, FitsReservationRow, HasConfigs}
use Rattle.sect_return.specs.States.{StatesReadBack}
use Rattle.sect_return.proofs.Catalogues.{offerings_read_back}
use Rattle.sect_return.proofs.Histories.{along}
use Rattle.sect_return.proofs.Ids.{checked_differ, checked_has}
use Rattle.sect_return.proofs.Requests.{requests_read_back}
use Rattle.sect_return.proofs.Reservations.{reservations_read_back}
use Rattle.sect_return.proofs.Sorted.{differ_sorted, each_sorted}
use Rattle.sect_return.proofs.Students.{students_read_back}

-- ---- reservations with texts

-- a section in its subpart
abbrev placed : SectionId → SubpartRow → Place
placed s p = record { subpart = p.id; section = s }

-- the sections of a row, of which each has a text, as places
places_fit : (w : World) (sections : List SectionId) → FitsList FitsSection sections → FitsList FitsSection (map (λ (p : Place). p.section) (flat_map (place_of w) sections))
places_fit w [] fits = tt
places_fit w (s ∷ ss) fits = by (subpart_of_section w.catalogue.rows s) (places_fit w ss fits.1)
  where
    by : (o : Option SubpartRow) → FitsList FitsSection (map (λ (p : Place). p.section) (flat_map (place_of w) ss)) → FitsList FitsSection (map (λ (p : Place). p.section) (option_to_list (option_map (placed s) o) ++ flat_map (place_of w) ss))
    by None more = more
    by (Some p) more = (fits.0, more)

reserved_fits : (w : World) (row : ReserveRow) → FitsReserveRow row → FitsReservationRow (reservation_from w row)
reserved_fits w row (id, offering, audience, limit, expiry, first, configs, sections) = (id, offering, audience, limit, expiry, first, configs, places_fit w row.sections sections)

expired_fits : (id : ReservationId) (expiry : Option ℕ) → FitsOptional FitsDay expiry → (r : Reservation) → FitsReservationRow r → FitsReservationRow (expire id expiry r)
expired_fits id expiry day r (a, b, c, d, e, f, g, h) = by (r.id.0 == id.0)
  where
    by : (t : Bool) → FitsReservationRow (cond t (record r { expiry = expiry }) r)
    by true = (a, b, c, d, day, f, g, h)
    by false = (a, b, c, d, e, f, g, h)

-- what a change makes of reservations has texts
abbrev ChangeFits : Change → Type 0
ChangeFits (Offering row) = Unit {0}
ChangeFits (new_student row) = Unit {0}
ChangeFits (Requests student asks) = Unit {0}
ChangeFits (Reserve r) = FitsReservationRow r
ChangeFits (Unreserve id) = Unit {0}
ChangeFits (Expiry id day) = FitsOptional FitsDay day
ChangeFits (Restrict r) = Unit {0}
ChangeFits (Unrestrict id) = Unit {0}
ChangeFits (new_cap cap limit) = Unit {0}
ChangeFits (Cancelled id) = Unit {0}
ChangeFits (Day day) = Unit {0}
ChangeFits (Enrol e) = Unit {0}
ChangeFits (Leave student course) = Unit {0}

abbrev Reserved : World → Type 0
Reserved w = FitsList FitsReservationRow w.reservations

reserved_after : (w : World) (change : Change) → ChangeFits change → Reserved w → Reserved (changed w change)
reserved_after w (Offering row) fits had = had
reserved_after w (new_student row) fits had = had
reserved_after w (Requests student asks) fits had = had
reserved_after w (Reserve r) fits had = each-put FitsReservationRow (λ x. x.offering.0) r w.reservations fits had
reserved_after w (Unreserve id) fits had = each-filter FitsReservationRow (λ r. not (r.id.0 == id.0)) w.reservations had
reserved_after w (Expiry id day) fits had = each-map FitsReservationRow FitsReservationRow (expire id day) w.reservations (expired_fits id day fits) had
reserved_after w (Restrict r) fits had = had
reserved_after w (Unrestrict id) fits had = had
reserved_after w (new_cap cap limit) fits had = had
reserved_after w (Cancelled id) fits had = had
reserved_after w (Day day) fits had = had
reserved_after w (Enrol e) fits had = had
reserved_after w (Leave student course) fits had = had

reserved_led : (changes : List Change) (w v : World) → FitsList ChangeFits changes → Lead w changes v → Reserved w → Reserved v
reserved_led [] w v fits led had = subst Reserved (sym led.1) had
reserved_led (change ∷ changes) w v fits led had = reserved_led changes (changed w change) v fits.1 led.1 (reserved_after w change fits.0 had)

seating_fits : (change : Change) → is_seating change ≡ true → ChangeFits change
seating_fits (Offering row) seating = tt
seating_fits (new_student row) seating = tt
seating_fits (Requests student asks) seating = tt
seating_fits (Reserve r) seating = absurd (cc)
seating_fits (Unreserve id) seating = tt
seating_fits (Expiry id day) seating = absurd (cc)
seating_fits (Restrict r) seating = tt
seating_fits (Unrestrict id) seating = tt
seating_fits (new_cap cap limit) seating = tt
seating_fits (Cancelled id) seating = tt
seating_fits (Day day) seating = tt
seating_fits (Enrol e) seating = tt
seating_fits (Leave student course) seating = tt

seats_fit : (changes : List Change) → list_all is_seating changes ≡ true → FitsList ChangeFits changes
seats_fit [] all = tt
seats_fit (change ∷ changes) all = (seating_fits change (both-left (is_seating change) (list_all is_seating changes) all), seats_fit changes (both-right (is_seating change) (list_all is_seating changes) all))

-- the change of a command with a text
own_fits : (w : World) (command : Command) → FitsCommand command → FitsList ChangeFits (option_to_list (own_change w command))
own_fits w (commands.Offering row) h = (tt, tt)
own_fits w (commands.Student row) h = (tt, tt)
own_fits w (commands.Requests student asks) h = (tt, tt)
own_fits w (commands.Reserve row) h = (reserved_fits w row h, tt)
own_fits w (commands.Unreserve id) h = (tt, tt)
own_fits w (commands.Expire id expiry) h = (h.1, tt)
own_fits w (commands.Restrict row) h = (tt, tt)
own_fits w (commands.Unrestrict id) h = (tt, tt)
own_fits w (commands.SetLimit cap limit) h = (tt, tt)
own_fits w (commands.Cancel id) h = (tt, tt)
own_fits w (commands.Enrol student want budget) h = tt
own_fits w (commands.Drop student course) h = tt
own_fits w (commands.Swap student give take budget) h = tt
own_fits w (commands.Wait student want give class) h = tt
own_fits w (commands.Unwait student ticket) h = tt
own_fits w (commands.Batch students) h = tt

all_fit : (own seats : List Change) (change : Option Change) → (own ≡ []) ⊎ (own ≡ option_to_list change) → FitsList ChangeFits (option_to_list change) → FitsList ChangeFits seats → FitsList ChangeFits (own ++ seats)
all_fit own seats change (inl none) fits rest = subst (λ its. FitsList ChangeFits (its ++ seats)) (sym none) rest
all_fit own seats change (inr some) fits rest = subst (λ its. FitsList ChangeFits (its ++ seats)) (sym some) (each-append ChangeFits (option_to_list change) seats fits rest)

-- a command with a text
led_reserved : (w v : World) (day : ℕ) (command : Command) → CommandLeads w day command v → FitsCommand command → Reserved w → Reserved v
led_reserved w v day command led h had =
    reserved_led (Day (max w.day day) ∷ (led.own ++ led.seats)) w v
    (tt, all_fit led.own led.seats (own_change (put_day w (max w.day day)) command) led.is_own (own_fits (put_day w (max w.day day)) command h) (seats_fit led.seats led.all)) led.lead had

-- ---- states of histories

-- what holds of each holds of one among them
one_of : {X : Type 0} (P : X → Type 0) (front : List X) (x : X) (rest : List X) → FitsList P (front ++ x ∷ rest) → P x
one_of P [] x rest all = all.0
one_of P (y ∷ front) x rest all = one_of P front x rest all.1

-- the reservations of a history's state have texts
reserved : (entries : List (Entry Command Reply)) → IsReplay stepped empty_state entries → FitsList HasCommand entries → Reserved (state_of entries).world
reserved entries replay h =
    let good = replays-good entries replay in
    along entries (λ front. Reserved (state_of front).world) tt
    (λ front e rest is had. led_reserved (state_of front).world (state_of (front ++ e ∷ [])).world e.day e.command (good.each front e rest is).led (one_of HasCommand front e rest (subst (FitsList HasCommand) is h)) had)

-- a state with at most so many tickets given
record Reached (most : ℕ) (s : State) : Type 0 where
  kept : KeptState s
  fits : FitsState most s

reached : (es : List (Entry Command Reply)) (s : State) (m n : ℕ) → FitsList HasCommand es → m + 2000 * length es ≤ n → n ≤ 18446744073709551615 → Reached m s → Reached n (state_after stepped s es)
reached [] s m n h few small r = record { kept = r.kept; fits = more-state m n s (omega (arith, few)) r.fits }
reached (e ∷ es) s m n h few small r =
    reached es (stepped s e.day e.id.caller e.command).0 (m + 2000) n h.1 (omega (arith, few)) small (record {
      kept = step-keeps s e.day e.id.caller e.command r.kept;
      fits = (step-fits s m e.day e.id.caller e.command r.kept r.fits h.0 (omega (arith, few, small))).0;
    })

first : Reached 1 empty_state
first = record { kept = history-keeps []; fits = record { world = record { offerings = tt; students = tt; reservations = tt; roster = tt }; entries = tt; next = omega arith } }

-- ---- tables

abbrev row_of : Student → StudentRow
row_of s = s.row

abbrev view_of : Student → AsksView
view_of s = record { student = s.row.id; asks = s.asks }

same_ids : (ss : List Student) → map (λ (v : AsksView). v.student.0) (map view_of ss) ≡ map (λ (s : Student). s.row.id.0) ss
same_ids [] = refl
same_ids (s ∷ ss) = ap (λ ids. s.row.id.0 ∷ ids) (same_ids ss)

-- after a history of commands with texts each table is read back
pub states_read_back : StatesReadBack
states_read_back entries tables.Offerings replay h few =
    let r = reached entries empty_state 1 3000000000 h (omega (arith, few)) (omega arith) first in
    let rows = (state_of entries).world.catalogue.rows in
    offerings_read_back (sorted_by (λ o. o.id.0) rows) (each_sorted (λ (o : OfferingRow). o.id.0) FitsOfferingRow rows r.fits.world.offerings)
    (each_sorted (λ (o : OfferingRow). o.id.0) HasConfigs rows (checked_has rows r.kept.world.rows_pass))
    (differ_sorted (λ (o : OfferingRow). o.id.0) (λ (o : OfferingRow). o.id.0) rows (checked_differ rows r.kept.world.rows_pass))
states_read_back entries tables.Students replay h few =
    let r = reached entries empty_state 1 3000000000 h (omega (arith, few)) (omega arith) first in
    let students = (state_of entries).world.students in
    students_read_back (map row_of (sorted_by (λ s. s.row.id.0) students))
    (each-map FitsStudentAsks FitsStudentRow row_of (sorted_by (λ s. s.row.id.0) students) (λ s its. its.0) (each_sorted (λ (s : Student). s.row.id.0) FitsStudentAsks students r.fits.world.students))
states_read_back entries tables.Requests replay h few =
    let r = reached entries empty_state 1 3000000000 h (omega (arith, few)) (omega arith) first in
    let students = (state_of entries).world.students in
    requests_read_back (map view_of (sorted_by (λ s. s.row.id.0) students))
    (each-map FitsStudentAsks FitsAsks view_of (sorted_by (λ s. s.row.id.0) students) (λ s its. (its.0.0, its.1)) (each_sorted (λ (s : Student). s.row.id.0) FitsStudentAsks students r.fits.world.students))
    (ap all_differ (same_ids (sorted_by (λ s. s.row.id.0) students)) ∙ differ_sorted (λ (s : Student). s.row.id.0) (λ (s : Student). s.row.id.0) students r.kept.world.students_differ)
states_read_back entries tables.Reservations replay h few =
    let r = reached entries empty_state 1 3000000000 h (omega (arith, few)) (omega arith) first in
    let reservations = (state_of entries).world.reservations in
    reservations_read_back (sorted_by (λ r. r.id.0) reservations) (each_sorted (λ (r : Reservation). r.id.0) FitsReservationRow reservations (reserved entries replay h))
