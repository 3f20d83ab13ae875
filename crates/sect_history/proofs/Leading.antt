-- Changes one after another, and what stays known over them.
use Rattle.std.specs.Prelude.{◌≡◌, Bool, true, false, ◌==◌, cond, List, [], ◌∷◌, ◌++◌, map, refl}
use Rattle.std.specs.List.{list_all}
use Rattle.std.specs.Option.{is_some}
use Rattle.std.proofs.Common.{sym, ◌∙◌, ap, subst}
use Rattle.std.proofs.lemmas.Bool.{eqb-true}
use Rattle.std.proofs.lemmas.List.Folds.{list_all-append}
use Rattle.sect_base.specs.declared.ids.StudentId.{StudentId}
use Rattle.sect_people.specs.declared.row.StudentRow.{StudentRow}
use Rattle.sect_people.specs.declared.row.Ask.{Ask}
use Rattle.sect_people.specs.Student.{Student, find_student}
use Rattle.sect_people.specs.Changes.{with_row, with_asks}
use Rattle.sect_model.specs.declared.change.Change.{Change}
use Rattle.sect_model.specs.declared.change.Change.TheVariants.{Offering, Student as new_student, Requests, Reserve, Unreserve, Expiry, Restrict, Unrestrict, Cap as new_cap, Cancelled, Day, Enrol, Leave}
use Rattle.sect_model.specs.World.{World}
use Rattle.sect_model.specs.Kept.{KeptWorld}
use Rattle.sect_model.specs.Fits.{Fits, changed}
use Rattle.sect_model.proofs.ChangeLemmas.{changes-keep}
use Rattle.sect_model.proofs.Easy.{some-map}
use Rattle.sect_model.proofs.Members
use Rattle.sect_model.proofs.Members.{both}
use Rattle.sect_model.proofs.SpaceLemmas.{unreserved-alone}
use Rattle.sect_history.specs.Changes.{MayChange, Lead, SeatsLead, is_seating}

-- ---- one change

pub may-change : (w : World) (change : Change) → KeptWorld w → Fits w change → MayChange w change
may-change w change k fits = record {
  kept = k;
  fits = fits;
  unreserved = λ e is none. let f : Fits w (Enrol e) = subst (Fits w) is fits in unreserved-alone w e.student f.1 e.choice none f.2;
}

pub lead-one : (w : World) (change : Change) → KeptWorld w → Fits w change → Lead w (change ∷ []) (changed w change)
lead-one w change k fits = (may-change w change k fits, (changes-keep w change k fits, refl))

-- ---- one after another

pub lead-kept : (changes : List Change) (w v : World) → Lead w changes v → KeptWorld v
lead-kept [] w v l = subst KeptWorld (sym l.1) l.0
lead-kept (change ∷ changes) w v l = lead-kept changes (changed w change) v l.1

pub lead-on : (xs ys : List Change) (w v u : World) → Lead w xs v → Lead v ys u → Lead w (xs ++ ys) u
lead-on [] ys w v u l m = subst (λ x. Lead x ys u) l.1 m
lead-on (x ∷ xs) ys w v u l m = (l.0, lead-on xs ys (changed w x) v u l.1 m)

-- ---- enrolments and leavings

pub stays : (w : World) → KeptWorld w → SeatsLead w w
stays w k = record { seats = []; all = refl; lead = (k, refl) }

pub seats-one : (w : World) (change : Change) → is_seating change ≡ true → KeptWorld w → Fits w change → SeatsLead w (changed w change)
seats-one w change seating k fits = record { seats = change ∷ []; all = both (is_seating change) true seating refl; lead = lead-one w change k fits }

pub seats-kept : (w v : World) → SeatsLead w v → KeptWorld v
seats-kept w v l = lead-kept l.seats w v l.lead

pub all-on : (xs ys : List Change) → list_all is_seating xs ≡ true → list_all is_seating ys ≡ true → list_all is_seating (xs ++ ys) ≡ true
all-on xs ys h k = list_all-append is_seating xs ys ∙ both (list_all is_seating xs) (list_all is_seating ys) h k

pub seats-on : (w v u : World) → SeatsLead w v → SeatsLead v u → SeatsLead w u
seats-on w v u l m = record {
  seats = l.seats ++ m.seats;
  all = all-on l.seats m.seats l.all m.all;
  lead = lead-on l.seats m.seats w v u l.lead m.lead;
}

-- ---- a known student stays known

row-id : (row : StudentRow) (id : StudentId) (s : Student) (b : Bool) → s.row.id.0 == row.id.0 ≡ b → (cond b (record s { row = row }) s).row.id.0 == id.0 ≡ (s.row.id.0 == id.0)
row-id row id s true e = ap (λ n. n == id.0) (sym (eqb-true s.row.id.0 row.id.0 e))
row-id row id s false e = refl

asks-id : (asks : List Ask) (id : StudentId) (s : Student) (b : Bool) → (cond b (record s { asks = asks }) s).row.id.0 == id.0 ≡ (s.row.id.0 == id.0)
asks-id asks id s true = refl
asks-id asks id s false = refl

known-map : (f : Student → Student) (id : StudentId) (students : List Student) → ((s : Student) → (f s).row.id.0 == id.0 ≡ (s.row.id.0 == id.0))
    → is_some (find_student students id) ≡ true → is_some (find_student (map f students) id) ≡ true
known-map f id students same h =
    ap is_some (Members.find-map (λ s. s.row.id.0 == id.0) f students same) ∙ some-map f (find_student students id) ∙ h

known-row : (row : StudentRow) (id : StudentId) (students : List Student) (b : Bool) → is_some (find_student students id) ≡ true
    → is_some (find_student (cond b (map (with_row row) students) (students ++ record { row = row; asks = [] } ∷ [])) id) ≡ true
known-row row id students true h = known-map (with_row row) id students (λ s. row-id row id s (s.row.id.0 == row.id.0) refl) h
known-row row id students false h =
    let s = Members.known (find_student students id) h in
    ap is_some (Members.find-left (λ s. s.row.id.0 == id.0) students (record { row = row; asks = [] } ∷ []) s.0 s.1)

known-changed : (w : World) (change : Change) (id : StudentId) → is_some (find_student w.students id) ≡ true → is_some (find_student (changed w change).students id) ≡ true
known-changed w (Offering row) id h = h
known-changed w (new_student row) id h = known-row row id w.students (is_some (find_student w.students row.id)) h
known-changed w (Requests student asks) id h = known-map (with_asks student asks) id w.students (λ s. asks-id asks id s (s.row.id.0 == student.0)) h
known-changed w (Reserve r) id h = h
known-changed w (Unreserve r) id h = h
known-changed w (Expiry r day) id h = h
known-changed w (Restrict r) id h = h
known-changed w (Unrestrict r) id h = h
known-changed w (new_cap cap limit) id h = h
known-changed w (Cancelled section) id h = h
known-changed w (Day day) id h = h
known-changed w (Enrol e) id h = h
known-changed w (Leave student course) id h = h

pub lead-known : (changes : List Change) (w v : World) (id : StudentId) → Lead w changes v → is_some (find_student w.students id) ≡ true → is_some (find_student v.students id) ≡ true
lead-known [] w v id l h = subst (λ (u : World). is_some (find_student u.students id) ≡ true) (sym l.1) h
lead-known (change ∷ changes) w v id l h = lead-known changes (changed w change) v id l.1 (known-changed w change id h)
