-- A change that enrols nobody, and by which nobody leaves, leaves each student's week and credits as they are.
use Rattle.std.specs.Prelude.{◌≡◌, ◌*◌, ◌≤◌, length, ℕ, Bool, true, false, ◌==◌, ◌||◌, cond, List, [], ◌∷◌, ◌++◌, map, flat_map, filter, find, sum_by, Option, Some, None, refl}
use Rattle.std.specs.List.{list_any}
use Rattle.std.specs.Option.{option_map, option_map_or, is_some}
use Rattle.std.proofs.Common.{sym, ◌∙◌, ap, subst, ⊎_elim}
use Rattle.std.proofs.lemmas.Bool.{eqb-true}
use Rattle.std.proofs.lemmas.Grind.{flat_map-append}
use Rattle.std.proofs.lemmas.List.{map-append}
use Rattle.sect_base.specs.declared.ids.CourseId.{CourseId}
use Rattle.sect_base.specs.declared.ids.SectionId.{SectionId}
use Rattle.sect_base.specs.declared.ids.StudentId.{StudentId}
use Rattle.sect_base.specs.declared.limit.Cap.{Cap}
use Rattle.sect_base.specs.declared.limit.Limit.{Limit}
use Rattle.sect_base.specs.Calendar.{takes_pair}
use Rattle.sect_catalog.specs.declared.row.OfferingRow.{OfferingRow}
use Rattle.sect_catalog.specs.declared.row.CourseRow.{CourseRow}
use Rattle.sect_catalog.specs.declared.row.SectionRow.{SectionRow}
use Rattle.sect_catalog.specs.Catalogue.{all_courses, all_configs, all_subparts, all_sections, sections_in, find_course, find_section}
use Rattle.sect_catalog.specs.Limits.{capped_course, capped_section, with_limit}
use Rattle.sect_people.specs.declared.row.StudentRow.{StudentRow}
use Rattle.sect_people.specs.declared.row.Ask.{Ask}
use Rattle.sect_people.specs.Student.{Student, find_student}
use Rattle.sect_people.specs.Changes.{with_row, with_asks, put_row}
use Rattle.sect_model.specs.declared.held.Enrolment.{Enrolment}
use Rattle.sect_model.specs.declared.change.Change.{Change}
use Rattle.sect_model.specs.declared.change.Change.TheVariants.{Offering, Student as student_change, Requests, Reserve, Unreserve, Expiry, Restrict, Unrestrict, Cap as new_cap, Cancelled, Day, Enrol, Leave}
use Rattle.sect_model.specs.World.{World, held_by, credits_of, meetings_of}
use Rattle.sect_model.specs.Allowed.{credits_held}
use Rattle.sect_model.specs.Change.{put_offering, put_limit}
use Rattle.sect_model.specs.Kept.{KeptWorld}
use Rattle.sect_model.specs.Fits.{Fits, changed}
use Rattle.sect_model.proofs.Members
use Rattle.sect_model.proofs.Members.{Member, not_both, decide}
use Rattle.sect_model.proofs.ListLemmas.{any-find}
use Rattle.sect_model.proofs.TurnLemmas.{any-append}
use Rattle.sect_model.proofs.Easy.{sound}
use Rattle.sect_model.proofs.FreerLemmas.{any-same}
use Rattle.sect_model.proofs.FreerOfferings.{same-left}
use Rattle.sect_model.proofs.Standing.{standing, course_known, section_known}
use Rattle.sect_model.proofs.CapChange.{section-after}
use Rattle.sect_numbers.specs.Quiet.{is_quiet}
use Rattle.sect_weeks.specs.declared.weeks.Weeks.{Weeks}
use Rattle.sect_weeks.specs.Busy.{is_busy, ToldWeeks}
use Rattle.sect_weeks.specs.Laws.{QuietKeepsWeeks, QuietKeepsCredits, QuietIsTold, BackIsTold}
use Rattle.sect_weeks.specs.Quiet.{has_new}
use Rattle.sect_weeks.specs.Rows.{has_row, credits_at, Keeps}

-- ---- the same meetings

-- other rows, in which each section of an enrolment meets when it met
busy-same : (w u : World) → u.roster ≡ w.roster → ((e : Enrolment) → Member w.roster e → (s : SectionId) → Member e.choice.sections s → meetings_of u s ≡ meetings_of w s)
    → (id : StudentId) (day slot : ℕ) → is_busy u id day slot ≡ is_busy w id day slot
busy-same w u same meets id day slot =
    ap (λ es. list_any (takes u) (filter (λ e. e.student.0 == id.0) es)) same
    ∙ any-same (takes u) (takes w) (held_by w id)
    (λ e held.
    any-same (meets_at u) (meets_at w) e.choice.sections
    (λ s m. ap (λ ms. list_any (λ m. takes_pair m day slot) ms) (meets e ((Members.member-filter (λ e. e.student.0 == id.0) w.roster e held).0) s m)))
  where
    meets_at : World → SectionId → Bool
    meets_at v s = list_any (λ m. takes_pair m day slot) (meetings_of v s)

    takes : World → Enrolment → Bool
    takes v e = list_any (meets_at v) e.choice.sections

module _ (w : World) (k : KeptWorld w) where
  offering-meets : (row : OfferingRow) (e : Enrolment) → Member w.roster e → (s : SectionId) → Member e.choice.sections s → meetings_of (put_offering w row) s ≡ meetings_of w s
  offering-meets row e m s n =
      ap (λ o. option_map_or (λ s. s.meetings) o [])
      (ap (find (λ r. r.id.0 == s.0)) longer
      ∙ same-left (λ r. r.id.0 == s.0) (all_sections rows) (all_sections (row ∷ [])) (section_known w e.choice (standing w e.choice (sound w k.good e m).well) s n))
    where
      rows : List OfferingRow
      rows = w.catalogue.rows

      longer : all_sections (rows ++ row ∷ []) ≡ all_sections rows ++ all_sections (row ∷ [])
      longer =
          ap (λ gs. sections_in (flat_map (λ g. g.subparts) gs)) (flat_map-append (λ o. o.configs) rows (row ∷ []))
          ∙ ap sections_in (flat_map-append (λ g. g.subparts) (all_configs rows) (all_configs (row ∷ [])))
          ∙ flat_map-append (λ p. p.sections) (all_subparts rows) (all_subparts (row ∷ []))

  cap-meets : (cap : Cap) (limit : Limit) (s : SectionId) → meetings_of (put_limit w cap limit) s ≡ meetings_of w s
  cap-meets cap limit s = ap (λ o. option_map_or (λ s. s.meetings) o []) (section-after cap limit w.catalogue.rows s) ∙ same (find_section w.catalogue.rows s)
    where
      same : (o : Option SectionRow) → option_map_or (λ s. s.meetings) (option_map (capped_section cap limit) o) [] ≡ option_map_or (λ s. s.meetings) o []
      same None = refl
      same (Some r) = refl

pub quiet-keeps-weeks : QuietKeepsWeeks
quiet-keeps-weeks w (Offering row) k f q = busy-same w (put_offering w row) refl (offering-meets w k row)
quiet-keeps-weeks w (student_change row) k f q = λ id day slot. refl
quiet-keeps-weeks w (Requests student asks) k f q = λ id day slot. refl
quiet-keeps-weeks w (Reserve r) k f q = λ id day slot. refl
quiet-keeps-weeks w (Unreserve id) k f q = λ id day slot. refl
quiet-keeps-weeks w (Expiry id day) k f q = λ id day slot. refl
quiet-keeps-weeks w (Restrict r) k f q = λ id day slot. refl
quiet-keeps-weeks w (Unrestrict id) k f q = λ id day slot. refl
quiet-keeps-weeks w (new_cap cap limit) k f q = busy-same w (put_limit w cap limit) refl (λ e m s n. cap-meets w k cap limit s)
quiet-keeps-weeks w (Cancelled id) k f q = λ id day slot. refl
quiet-keeps-weeks w (Day day) k f q = λ id day slot. refl
quiet-keeps-weeks w (Enrol e) k f q = absurd (not_both false q refl)
quiet-keeps-weeks w (Leave student course) k f q = absurd (not_both false q refl)

-- ---- the same credits

-- other rows, in which each enrolment has the credits that it had
credits-same : (w u : World) → u.roster ≡ w.roster → ((e : Enrolment) → Member w.roster e → credits_of u e.choice.course ≡ credits_of w e.choice.course)
    → (id : StudentId) → credits_held u id ≡ credits_held w id
credits-same w u same counts id =
    ap (λ es. sum_by (λ e. credits_of u e.choice.course) (filter (λ e. e.student.0 == id.0) es)) same
    ∙ Members.sum-same (λ e. credits_of u e.choice.course) (λ e. credits_of w e.choice.course) (held_by w id)
    (λ e held. counts e ((Members.member-filter (λ e. e.student.0 == id.0) w.roster e held).0))

offering-counts : (w : World) → KeptWorld w → (row : OfferingRow) (e : Enrolment) → Member w.roster e → credits_of (put_offering w row) e.choice.course ≡ credits_of w e.choice.course
offering-counts w k row e m =
    ap (λ o. option_map_or (λ c. c.credits) o 0)
    (ap (find (λ c. c.id.0 == e.choice.course.0)) (flat_map-append (λ o. o.courses) w.catalogue.rows (row ∷ []))
    ∙ same-left (λ c. c.id.0 == e.choice.course.0) (all_courses w.catalogue.rows) (all_courses (row ∷ [])) (course_known w e.choice (standing w e.choice (sound w k.good e m).well)))

courses-after : (cap : Cap) (limit : Limit) (rows : List OfferingRow) → all_courses (map (with_limit cap limit) rows) ≡ map (capped_course cap limit) (all_courses rows)
courses-after cap limit [] = refl
courses-after cap limit (o ∷ os) =
    ap (λ cs. map (capped_course cap limit) o.courses ++ cs) (courses-after cap limit os) ∙ sym (map-append (capped_course cap limit) o.courses (all_courses os))

cap-counts : (w : World) (cap : Cap) (limit : Limit) (id : CourseId) → credits_of (put_limit w cap limit) id ≡ credits_of w id
cap-counts w cap limit id =
    ap (λ cs. option_map_or (λ c. c.credits) (find (λ c. c.id.0 == id.0) cs) 0) (courses-after cap limit w.catalogue.rows)
    ∙ ap (λ o. option_map_or (λ c. c.credits) o 0) (Members.find-map (λ c. c.id.0 == id.0) (capped_course cap limit) (all_courses w.catalogue.rows) (λ c. refl))
    ∙ same (find_course w.catalogue.rows id)
  where
    same : (o : Option CourseRow) → option_map_or (λ c. c.credits) (option_map (capped_course cap limit) o) 0 ≡ option_map_or (λ c. c.credits) o 0
    same None = refl
    same (Some c) = refl

pub quiet-keeps-credits : QuietKeepsCredits
quiet-keeps-credits w (Offering row) k f q = credits-same w (put_offering w row) refl (offering-counts w k row)
quiet-keeps-credits w (student_change row) k f q = λ id. refl
quiet-keeps-credits w (Requests student asks) k f q = λ id. refl
quiet-keeps-credits w (Reserve r) k f q = λ id. refl
quiet-keeps-credits w (Unreserve id) k f q = λ id. refl
quiet-keeps-credits w (Expiry id day) k f q = λ id. refl
quiet-keeps-credits w (Restrict r) k f q = λ id. refl
quiet-keeps-credits w (Unrestrict id) k f q = λ id. refl
quiet-keeps-credits w (new_cap cap limit) k f q = credits-same w (put_limit w cap limit) refl (λ e m. cap-counts w cap limit e.choice.course)
quiet-keeps-credits w (Cancelled id) k f q = λ id. refl
quiet-keeps-credits w (Day day) k f q = λ id. refl
quiet-keeps-credits w (Enrol e) k f q = absurd (not_both false q refl)
quiet-keeps-credits w (Leave student course) k f q = absurd (not_both false q refl)

-- and each student holds as many enrolments
quiet-roster : (w : World) (c : Change) → is_quiet c ≡ true → (changed w c).roster ≡ w.roster
quiet-roster w (Offering row) q = refl
quiet-roster w (student_change row) q = refl
quiet-roster w (Requests student asks) q = refl
quiet-roster w (Reserve r) q = refl
quiet-roster w (Unreserve id) q = refl
quiet-roster w (Expiry id day) q = refl
quiet-roster w (Restrict r) q = refl
quiet-roster w (Unrestrict id) q = refl
quiet-roster w (new_cap cap limit) q = refl
quiet-roster w (Cancelled id) q = refl
quiet-roster w (Day day) q = refl
quiet-roster w (Enrol e) q = absurd (not_both false q refl)
quiet-roster w (Leave student course) q = absurd (not_both false q refl)

-- ---- the same students, or one more

some_map : {X : Type 0} (f : X → X) (o : Option X) → is_some (option_map f o) ≡ is_some o
some_map f None = refl
some_map f (Some x) = refl

-- a change of students that leaves their ids leaves them known
known-map : (f : Student → Student) → ((s : Student) → (f s).row.id.0 ≡ s.row.id.0) → (ss : List Student) (id : StudentId) → is_some (find_student (map f ss) id) ≡ is_some (find_student ss id)
known-map f same ss id = ap is_some (Members.find-map (λ s. s.row.id.0 == id.0) f ss (λ s. ap (λ n. n == id.0) (same s))) ∙ some_map f (find_student ss id)

row-id : (row : StudentRow) (s : Student) → (with_row row s).row.id.0 ≡ s.row.id.0
row-id row s = by_test (s.row.id.0 == row.id.0) refl
  where
    by_test : (b : Bool) → s.row.id.0 == row.id.0 ≡ b → (cond b (record s { row = row }) s).row.id.0 ≡ s.row.id.0
    by_test true e = sym (eqb-true s.row.id.0 row.id.0 e)
    by_test false e = refl

asks-id : (student : StudentId) (asks : List Ask) (s : Student) → (with_asks student asks s).row.id.0 ≡ s.row.id.0
asks-id student asks s = by_test (s.row.id.0 == student.0)
  where
    by_test : (b : Bool) → (cond b (record s { asks = asks }) s).row.id.0 ≡ s.row.id.0
    by_test true = refl
    by_test false = refl

-- who is known after a row is put was known, or has the row
put-knows : (ss : List Student) (row : StudentRow) (id : StudentId) → is_some (find_student (put_row ss row) id) ≡ true → is_some (find_student ss id) ≡ false → row.id.0 == id.0 ≡ true
put-knows ss row id h none = by_test (is_some (find_student ss row.id)) h
  where
    new : Student
    new = record { row = row; asks = [] }

    own : (b : Bool) → b || false ≡ true → b ≡ true
    own true e = refl
    own false e = e

    by_test : (b : Bool) → is_some (find_student (cond b (map (with_row row) ss) (ss ++ new ∷ [])) id) ≡ true → row.id.0 == id.0 ≡ true
    by_test true e = absurd (not_both (is_some (find_student ss id)) (sym (known-map (with_row row) (row-id row) ss id) ∙ e) none)
    by_test false e =
        own (row.id.0 == id.0)
        (sym (any-find (λ s. s.row.id.0 == id.0) (ss ++ new ∷ []) ∙ any-append (λ s. s.row.id.0 == id.0) ss (new ∷ [])
        ∙ ap (λ b. b || list_any (λ s. s.row.id.0 == id.0) (new ∷ [])) (sym (any-find (λ s. s.row.id.0 == id.0) ss) ∙ none)) ∙ e)

-- who was known is known after a row is put
still-known : (ss : List Student) (row : StudentRow) (id : StudentId) → is_some (find_student ss id) ≡ true → is_some (find_student (put_row ss row) id) ≡ true
still-known ss row id h = by_test (is_some (find_student ss row.id))
  where
    new : Student
    new = record { row = row; asks = [] }

    by_test : (b : Bool) → is_some (find_student (cond b (map (with_row row) ss) (ss ++ new ∷ [])) id) ≡ true
    by_test true = known-map (with_row row) (row-id row) ss id ∙ h
    by_test false = ap is_some (same-left (λ s. s.row.id.0 == id.0) ss (new ∷ []) h) ∙ h

-- ---- the calendars

module _ (t u : Weeks) (w : World) (told : ToldWeeks t w) (keeps : Keeps t u) where
  -- where the same students are known
  same-students : (c : Change) → KeptWorld w → Fits w c → is_quiet c ≡ true
      → ((id : StudentId) → is_some (find_student (changed w c).students id) ≡ true → has_row u id.0 ≡ true) → ToldWeeks u (changed w c)
  same-students c k f q known = record {
    taken = λ id day slot within. keeps.taken id.0 day slot ∙ told.taken id day slot within ∙ sym (quiet-keeps-weeks w c k f q id day slot);
    credits = λ id. keeps.credits id.0 ∙ told.credits id ∙ sym (quiet-keeps-credits w c k f q id);
    few = λ id.
        subst (λ es. credits_at u id.0 ≤ 255 * length (filter (λ e. e.student.0 == id.0) es)) (sym (quiet-roster w c q))
        (subst (λ n. n ≤ 255 * length (held_by w id)) (sym (keeps.credits id.0)) (told.few id));
    students = known;
  }

  old : (id : StudentId) → is_some (find_student w.students id) ≡ true → has_row u id.0 ≡ true
  old id h = keeps.rows id.0 (told.students id h)

  put : (row : StudentRow) → has_row u row.id.0 ≡ true → (id : StudentId) → is_some (find_student (put_row w.students row) id) ≡ true → has_row u id.0 ≡ true
  put row new id h =
      ⊎_elim (old id) (λ none. subst (λ n. has_row u n ≡ true) (eqb-true row.id.0 id.0 (put-knows w.students row id h none)) new) (decide (is_some (find_student w.students id)))

  after : (c : Change) → KeptWorld w → Fits w c → is_quiet c ≡ true → has_new u c ≡ true → ToldWeeks u (changed w c)
  after (Offering row) k f q new = same-students (Offering row) k f q old
  after (student_change row) k f q new = same-students (student_change row) k f q (put row new)
  after (Requests student asks) k f q new =
      same-students (Requests student asks) k f q
      (λ id h. old id (sym (known-map (with_asks student asks) (asks-id student asks) w.students id) ∙ h))
  after (Reserve r) k f q new = same-students (Reserve r) k f q old
  after (Unreserve id) k f q new = same-students (Unreserve id) k f q old
  after (Expiry id day) k f q new = same-students (Expiry id day) k f q old
  after (Restrict r) k f q new = same-students (Restrict r) k f q old
  after (Unrestrict id) k f q new = same-students (Unrestrict id) k f q old
  after (new_cap cap limit) k f q new = same-students (new_cap cap limit) k f q old
  after (Cancelled id) k f q new = same-students (Cancelled id) k f q old
  after (Day day) k f q new = same-students (Day day) k f q old
  after (Enrol e) k f q new = absurd (not_both false q refl)
  after (Leave student course) k f q new = absurd (not_both false q refl)

pub quiet-is-told : QuietIsTold
quiet-is-told t u w c k f q told keeps new = after t u w told keeps c k f q new

-- a student who was known is known after the change
knows : (w : World) (c : Change) → is_quiet c ≡ true → (id : StudentId) → is_some (find_student w.students id) ≡ true → is_some (find_student (changed w c).students id) ≡ true
knows w (Offering row) q id h = h
knows w (student_change row) q id h = still-known w.students row id h
knows w (Requests student asks) q id h = known-map (with_asks student asks) (asks-id student asks) w.students id ∙ h
knows w (Reserve r) q id h = h
knows w (Unreserve r) q id h = h
knows w (Expiry r day) q id h = h
knows w (Restrict r) q id h = h
knows w (Unrestrict r) q id h = h
knows w (new_cap cap limit) q id h = h
knows w (Cancelled section) q id h = h
knows w (Day day) q id h = h
knows w (Enrol e) q id h = absurd (not_both false q refl)
knows w (Leave student course) q id h = absurd (not_both false q refl)

pub back-is-told : BackIsTold
back-is-told t w c k f q told = record {
  taken = λ id day slot within. told.taken id day slot within ∙ quiet-keeps-weeks w c k f q id day slot;
  credits = λ id. told.credits id ∙ quiet-keeps-credits w c k f q id;
  few = λ id. subst (λ es. credits_at t id.0 ≤ 255 * length (filter (λ e. e.student.0 == id.0) es)) (quiet-roster w c q) (told.few id);
  students = λ id h. told.students id (knows w c q id h);
}
