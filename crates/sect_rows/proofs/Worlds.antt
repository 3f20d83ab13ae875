-- A change by a command with a text keeps that what a reply can tell of the world has a text; and a student's credits are few.
use Rattle.std.specs.Prelude.{◌≡◌, ℕ, ◌+◌, ◌*◌, ◌≤◌, Bool, true, false, not, ◌==◌, nat_le, cond, List, [], ◌∷◌, ◌++◌, length, map, filter, sum_by, Option, Some, None, refl}
use Rattle.std.specs.Option.{is_some, option_map_or}
use Rattle.std.proofs.Common.{sym, subst, arith}
use Rattle.std.proofs.lemmas.List.Sums.{sum_by-cons}
use Rattle.sect_base.specs.declared.limit.Cap.TheVariants.{Course as cap_course, Config as cap_config, Section as cap_section}
use Rattle.sect_people.specs.Student.{find_student}
use Rattle.sect_people.specs.Changes.{with_row, with_asks}
use Rattle.sect_catalog.specs.Catalogue.{all_courses, find_course}
use Rattle.sect_catalog.specs.Limits.{course_limit, config_limit, section_limit, capped_course, capped_section, capped_subpart, capped_config, with_limit}
use Rattle.sect_model.specs.Data.{StudentId, CourseId, ReservationId, Cap, Limit, OfferingRow, CourseRow, ConfigRow, SubpartRow, SectionRow, StudentRow, Student, Ask, Reservation, Choice}
use Rattle.sect_model.specs.World.{World, enrol, enrol_all, leave, leave_all, put_behind, is_in, credits_of, held_by}
use Rattle.sect_model.specs.Change.{put_offering, put_student, put_asks, put_limit, add_reservation, drop_reservation, expire, put_expiry}
use Rattle.sect_model.specs.Allowed.{credits_held, max_credits}
use Rattle.sect_model.specs.GoodWorld.{GoodWorld}
use Rattle.sect_model.proofs.Members.{sum-part, filter-filter}
use Rattle.sect_moment.proofs.CreditLemmas.{credits-few}
use Rattle.sect_wire.specs.Fits.{FitsList, FitsSection, FitsLimit, FitsOfferingRow, FitsCourseRow, FitsConfigRow, FitsSubpartRow, FitsSectionRow, FitsStudentRow, FitsAsk}
use Rattle.sect_rows.specs.States.{FitsWorld, FitsStudentAsks, FitsReserved, FitsEnrolment}
use Rattle.sect_rows.proofs.Each.{each-one, each-map, each-filter, each-put, each-found, each-flat_map}

-- ---- limits

one-limit : (b : Bool) (l m : Limit) → FitsLimit l → FitsLimit m → FitsLimit (cond b l m)
one-limit true l m h k = h
one-limit false l m h k = k

module _ (limit : Limit) (l : FitsLimit limit) where
  course-limit : (cap : Cap) (c : CourseRow) → FitsLimit c.limit → FitsLimit (course_limit cap limit c)
  course-limit (cap_course id) c h = one-limit (c.id.0 == id.0) limit c.limit l h
  course-limit (cap_config id) c h = h
  course-limit (cap_section id) c h = h

  config-limit : (cap : Cap) (g : ConfigRow) → FitsLimit g.limit → FitsLimit (config_limit cap limit g)
  config-limit (cap_course id) g h = h
  config-limit (cap_config id) g h = one-limit (g.id.0 == id.0) limit g.limit l h
  config-limit (cap_section id) g h = h

  section-limit : (cap : Cap) (s : SectionRow) → FitsLimit s.limit → FitsLimit (section_limit cap limit s)
  section-limit (cap_course id) s h = h
  section-limit (cap_config id) s h = h
  section-limit (cap_section id) s h = one-limit (s.id.0 == id.0) limit s.limit l h

  module _ (cap : Cap) where
    course-capped : (c : CourseRow) → FitsCourseRow c → FitsCourseRow (capped_course cap limit c)
    course-capped c h = (h.0, course-limit cap c h.1, h.2)

    section-capped : (s : SectionRow) → FitsSectionRow s → FitsSectionRow (capped_section cap limit s)
    section-capped s h = (h.0, section-limit cap s h.1, h.2, h.3)

    subpart-capped : (p : SubpartRow) → FitsSubpartRow p → FitsSubpartRow (capped_subpart cap limit p)
    subpart-capped p h = (h.0, each-map FitsSectionRow FitsSectionRow (capped_section cap limit) p.sections section-capped h.1)

    config-capped : (g : ConfigRow) → FitsConfigRow g → FitsConfigRow (capped_config cap limit g)
    config-capped g h = (h.0, config-limit cap g h.1, each-map FitsSubpartRow FitsSubpartRow (capped_subpart cap limit) g.subparts subpart-capped h.2)

    offering-capped : (o : OfferingRow) → FitsOfferingRow o → FitsOfferingRow (with_limit cap limit o)
    offering-capped o h = (
      h.0,
      each-map FitsCourseRow FitsCourseRow (capped_course cap limit) o.courses course-capped h.1,
      each-map FitsConfigRow FitsConfigRow (capped_config cap limit) o.configs config-capped h.2,
    )

-- ---- the changes

row-put : (row : StudentRow) → FitsStudentRow row → (s : Student) → FitsStudentAsks s → FitsStudentAsks (with_row row s)
row-put row r s h = by_test (s.row.id.0 == row.id.0)
  where
    by_test : (b : Bool) → FitsStudentAsks (cond b (record s { row = row }) s)
    by_test true = (r, h.1)
    by_test false = h

asks-put : (student : StudentId) (asks : List Ask) → FitsList FitsAsk asks → (s : Student) → FitsStudentAsks s → FitsStudentAsks (with_asks student asks s)
asks-put student asks r s h = by_test (s.row.id.0 == student.0)
  where
    by_test : (b : Bool) → FitsStudentAsks (cond b (record s { asks = asks }) s)
    by_test true = (h.0, r)
    by_test false = h

expiry-put : (id : ReservationId) (expiry : Option ℕ) (r : Reservation) → FitsReserved r → FitsReserved (expire id expiry r)
expiry-put id expiry r h = by_test (r.id.0 == id.0)
  where
    by_test : (b : Bool) → FitsReserved (cond b (record r { expiry = expiry }) r)
    by_test true = h
    by_test false = h

module _ (w : World) (f : FitsWorld w) where
  pub offering-fits : (row : OfferingRow) → FitsOfferingRow row → FitsWorld (put_offering w row)
  offering-fits row h = record { offerings = each-one FitsOfferingRow w.catalogue.rows row f.offerings h; students = f.students; reservations = f.reservations; roster = f.roster }

  pub student-fits : (row : StudentRow) → FitsStudentRow row → FitsWorld (put_student w row)
  student-fits row h = record { offerings = f.offerings; students = by_known (is_some (find_student w.students row.id)); reservations = f.reservations; roster = f.roster }
    where
      by_known : (b : Bool) → FitsList FitsStudentAsks (cond b (map (with_row row) w.students) (w.students ++ record { row = row; asks = [] } ∷ []))
      by_known true = each-map FitsStudentAsks FitsStudentAsks (with_row row) w.students (row-put row h) f.students
      by_known false = each-one FitsStudentAsks w.students (record { row = row; asks = [] }) f.students (h, tt)

  pub asks-fit : (student : StudentId) (asks : List Ask) → FitsList FitsAsk asks → FitsWorld (put_asks w student asks)
  asks-fit student asks h = record {
    offerings = f.offerings;
    students = each-map FitsStudentAsks FitsStudentAsks (with_asks student asks) w.students (asks-put student asks h) f.students;
    reservations = f.reservations;
    roster = f.roster;
  }

  pub reservation-fits : (r : Reservation) → FitsReserved r → FitsWorld (add_reservation w r)
  reservation-fits r h = record { offerings = f.offerings; students = f.students; reservations = each-put FitsReserved (λ x. x.offering.0) r w.reservations h f.reservations; roster = f.roster }

  pub reservation-gone : (id : ReservationId) → FitsWorld (drop_reservation w id)
  reservation-gone id = record { offerings = f.offerings; students = f.students; reservations = each-filter FitsReserved (λ r. not (r.id.0 == id.0)) w.reservations f.reservations; roster = f.roster }

  pub expiry-fits : (id : ReservationId) (expiry : Option ℕ) → FitsWorld (put_expiry w id expiry)
  expiry-fits id expiry = record { offerings = f.offerings; students = f.students; reservations = each-map FitsReserved FitsReserved (expire id expiry) w.reservations (expiry-put id expiry) f.reservations; roster = f.roster }

  pub limit-fits : (cap : Cap) (limit : Limit) → FitsLimit limit → FitsWorld (put_limit w cap limit)
  limit-fits cap limit h = record { offerings = each-map FitsOfferingRow FitsOfferingRow (with_limit cap limit) w.catalogue.rows (offering-capped limit h cap) f.offerings; students = f.students; reservations = f.reservations; roster = f.roster }

  -- what changes nothing of these
  pub same-fits : (v : World) → v.catalogue.rows ≡ w.catalogue.rows → v.students ≡ w.students → v.reservations ≡ w.reservations → v.roster ≡ w.roster → FitsWorld v
  same-fits v rows students reservations roster = record {
    offerings = subst (FitsList FitsOfferingRow) (sym rows) f.offerings;
    students = subst (FitsList FitsStudentAsks) (sym students) f.students;
    reservations = subst (FitsList FitsReserved) (sym reservations) f.reservations;
    roster = subst (FitsList FitsEnrolment) (sym roster) f.roster;
  }

  pub leave-fits : (student : StudentId) (course : CourseId) → FitsWorld (leave w student course)
  leave-fits student course = record { offerings = f.offerings; students = f.students; reservations = f.reservations; roster = each-filter FitsEnrolment (λ e. not (is_in student course e)) w.roster f.roster }

  pub enrol-fits : (student : StudentId) (choice : Choice) → FitsList FitsSection choice.sections → FitsWorld (enrol w student choice)
  enrol-fits student choice h = record {
    offerings = f.offerings;
    students = f.students;
    reservations = f.reservations;
    roster = each-put FitsEnrolment (λ x. x.student.0) (record { student = student; choice = choice }) w.roster h f.roster;
  }

pub leave_all-fits : (courses : List CourseId) (w : World) (student : StudentId) → FitsWorld w → FitsWorld (leave_all w student courses)
leave_all-fits [] w student f = f
leave_all-fits (c ∷ cs) w student f = leave_all-fits cs (leave w student c) student (leave-fits w f student c)

abbrev pub HasSections : Choice → Type 0
HasSections c = FitsList FitsSection c.sections

pub enrol_all-fits : (choices : List Choice) (w : World) (student : StudentId) → FitsList HasSections choices → FitsWorld w → FitsWorld (enrol_all w student choices)
enrol_all-fits [] w student h f = f
enrol_all-fits (c ∷ cs) w student h f = enrol_all-fits cs (enrol w student c) student h.1 (enrol-fits w f student c h.0)

-- ---- credits

pub course-credits : (w : World) → FitsWorld w → (course : CourseId) → credits_of w course ≤ 30
course-credits w f course = by_found (find_course w.catalogue.rows course) refl
  where
    by_found : (o : Option CourseRow) → find_course w.catalogue.rows course ≡ o → option_map_or (λ c. c.credits) o 0 ≤ 30
    by_found None e = omega arith
    by_found (Some c) e =
        (each-found FitsCourseRow (λ c. c.id.0 == course.0) (all_courses w.catalogue.rows) c
        (each-flat_map FitsOfferingRow FitsCourseRow (λ o. o.courses) w.catalogue.rows (λ o h. h.1) f.offerings) e).2

sum-put : {X : Type 0} (key f : X → ℕ) (p : X → Bool) (x : X) (xs : List X) → sum_by f (filter p (put_behind key x xs)) ≤ f x + sum_by f (filter p xs)
sum-put {X = X} key f p x xs = at xs
  where
    less : (b : Bool) (zs : List X) (z : X) → sum_by f (cond b (z ∷ zs) zs) ≤ f z + sum_by f zs
    less true zs z = omega (arith, sum_by-cons f z zs)
    less false zs z = omega arith

    at : (xs : List X) → sum_by f (filter p (put_behind key x xs)) ≤ f x + sum_by f (filter p xs)
    at [] = less (p x) [] x
    at (y ∷ ys) = by_order (nat_le (key y) (key x)) (at ys)
      where
        kept : (b : Bool) → sum_by f (filter p (put_behind key x ys)) ≤ f x + sum_by f (filter p ys)
            → sum_by f (cond b (y ∷ filter p (put_behind key x ys)) (filter p (put_behind key x ys))) ≤ f x + sum_by f (cond b (y ∷ filter p ys) (filter p ys))
        kept true ih = omega (arith, ih, sum_by-cons f y (filter p (put_behind key x ys)), sum_by-cons f y (filter p ys))
        kept false ih = ih

        by_order : (b : Bool) → sum_by f (filter p (put_behind key x ys)) ≤ f x + sum_by f (filter p ys)
            → sum_by f (filter p (cond b (y ∷ put_behind key x ys) (x ∷ y ∷ ys))) ≤ f x + sum_by f (filter p (y ∷ ys))
        by_order true ih = kept (p y) ih
        by_order false ih = less (p x) (filter p (y ∷ ys)) x

pub left-credits : (courses : List CourseId) (w : World) (student : StudentId) → credits_held (leave_all w student courses) student ≤ credits_held w student
left-credits [] w student = omega arith
left-credits (c ∷ cs) w student = omega (arith, left-credits cs (leave w student c) student, less)
  where
    less : credits_held (leave w student c) student ≤ credits_held w student
    less =
        subst (λ es. sum_by (λ e. credits_of w e.choice.course) es ≤ credits_held w student)
        (sym (filter-filter (λ e. e.student.0 == student.0) (λ e. not (is_in student c e)) w.roster))
        (sum-part (λ e. credits_of w e.choice.course) (λ e. not (is_in student c e)) (held_by w student))

pub enrolled-credits : (choices : List Choice) (w : World) (student : StudentId) → FitsWorld w → FitsList HasSections choices
    → credits_held (enrol_all w student choices) student ≤ credits_held w student + 30 * length choices
enrolled-credits [] w student f h = omega arith
enrolled-credits (c ∷ cs) w student f h =
    omega (
      arith,
      enrolled-credits cs (enrol w student c) student (enrol-fits w f student c h.0) h.1,
      course-credits w f c.course,
      sum-put (λ x. x.student.0) (λ e. credits_of w e.choice.course) (λ e. e.student.0 == student.0) (record { student = student; choice = c }) w.roster,
    )

-- a known student's credits are a number of 16 bits
pub held-credits : (w : World) (student : StudentId) → FitsWorld w → GoodWorld w → is_some (find_student w.students student) ≡ true → credits_held w student ≤ 65535
held-credits w student f good known = omega (arith, credits-few w student good known, most)
  where
    most : max_credits w student ≤ 65535
    most = by_found (find_student w.students student) refl
      where
        by_found : (o : Option Student) → find_student w.students student ≡ o → option_map_or (λ s. s.row.max_credits) o 0 ≤ 65535
        by_found None e = omega arith
        by_found (Some s) e = (each-found FitsStudentAsks (λ s. s.row.id.0 == student.0) w.students s f.students e).0.1
