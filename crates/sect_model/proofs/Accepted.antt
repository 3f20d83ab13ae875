-- A command that isn't refused fits the world.
use Rattle.std.specs.Prelude.{◌≡◌, ℕ, ◌≤◌, Bool, true, false, not, ◌&&◌, ◌||◌, ◌==◌, nat_lt, nat_le, List, [], ◌∷◌, length, map, find, flat_map, Option, Some, None, refl, ⊤}
use Rattle.std.specs.List.{list_any, list_all}
use Rattle.std.specs.Bool.{then_some}
use Rattle.std.specs.Option.{option_map, option_map_or, option_or, option_and_then, is_none, is_some, option_to_list}
use Rattle.std.proofs.Common.{sym, ◌∙◌, ap, subst, arith, inl, inr}
use Rattle.std.proofs.lemmas.Bool.Decides.{nat_tests}
use Rattle.sect_base.specs.Capped.{capped}
use Rattle.sect_base.specs.declared.limit.Cap.TheVariants.{Course as cap_course, Config as cap_config, Section as cap_section}
use Rattle.sect_base.specs.declared.limit.Level.TheVariants.{Section}
use Rattle.sect_people.specs.Student.{find_student}
use Rattle.sect_people.specs.Fault as requests
use Rattle.sect_catalog.specs.Fault as rows
use Rattle.sect_catalog.specs.Catalogue.{places, find_offering, find_course, find_config, find_section, all_courses, has_course, is_cancelled}
use Rattle.sect_reserve.specs.declared.row.ReserveFault.{ReserveFault}
use Rattle.sect_reserve.specs.declared.row.ReserveFault.TheVariants.{Known, Foreign}
use Rattle.sect_command.specs.declared.command.Command.{Command}
use Rattle.sect_command.specs.declared.command.Command.TheVariants.{Offering, Student as student_row, Requests, Reserve, Unreserve, Expire, Restrict, Unrestrict, SetLimit, Cancel, Enrol, Drop, Swap, Wait, Unwait, Batch}
use Rattle.sect_command.specs.declared.reply.Refusal.{Refusal}
use Rattle.sect_command.specs.declared.reply.Refusal.TheVariants.{NotYours, Unknown, EmptyWant, TooMany, NotEnrolled, LimitBelow, InUse, Row}
use Rattle.sect_command.specs.declared.reply.RowFault.TheVariants.{Offering as offering_fault, Request as request_fault, Reserve as reserve_fault}
use Rattle.sect_model.specs.Data.{StudentId, CourseId, SectionId, ConfigId, Cap, Want, Audience, OfferingRow, Student}
use Rattle.sect_model.specs.World.{World, State, course_ids, offering_of, reservation_of, holds}
use Rattle.sect_people.specs.Order.{all_differ}
use Rattle.sect_model.specs.Counts.{count_of, counted_of, used_of}
use Rattle.sect_model.specs.Allowed.{credits_held, reservations_of, restrictions_of}
use Rattle.sect_model.specs.Change.{place_of}
use Rattle.sect_model.specs.Refusals.{first_of, conditions_of, refusal_of, is_yours, too_many, unknown_student, unknown_students, unknown_course, unknown_section, unknown_in_want, unknown_in_wants, many_in_want, many_in_wants, is_empty_want, not_enrolled_in, unknown_cap, section_fits, reserve_fault_of, foreign_in, level_of, restriction_of, lists_config}
use Rattle.sect_model.specs.Accepted.{CommandFits}
use Rattle.sect_model.specs.Premises.{courses_known, sections_known, is_sized, want_fits}
use Rattle.sect_model.specs.Kept.{KeptWorld, has_place_in}
use Rattle.sect_model.specs.Fits.{lists_fit, is_known_cap}
use Rattle.sect_model.specs.Laws.{AcceptedFits}
use Rattle.sect_model.proofs.Members
use Rattle.sect_model.proofs.Members.{Member, all-of, both, both-left, both-right, not_both, not_true, if_false, neither-left, neither-right}
use Rattle.sect_model.proofs.PlaceLemmas.{places-listed}
use Rattle.sect_catalog.proofs.RemoveLemmas.{map-none}
use Rattle.std.proofs.lemmas.Bool.{ltb-false, not-false}

-- ---- what is said by no refusal

or-none : {X : Type 0} (a b : Option X) → option_or a b ≡ None → (a ≡ None) × (b ≡ None)
or-none None b h = (refl, h)
or-none (Some x) b h = cc

unsaid : {X : Type 0} (b : Bool) (x : X) → then_some b x ≡ None → b ≡ false
unsaid true x h = cc
unsaid false x h = refl

some-is : {X : Type 0} (o : Option X) → is_none o ≡ false → is_some o ≡ true
some-is None h = absurd (not_both true refl h)
some-is (Some x) h = refl

-- none of the refusals is said
abbrev AllNone : List (Option Refusal) → Type 0
AllNone [] = ⊤
AllNone (r ∷ rs) = (r ≡ None) × AllNone rs

pub none-each : (rs : List (Option Refusal)) → first_of rs ≡ None → AllNone rs
none-each [] h = tt
none-each (r ∷ rs) h = let p = or-none r (first_of rs) h in (p.0, none-each rs p.1)

-- ---- ids

known-student : (w : World) (id : StudentId) → unknown_student w id ≡ None → is_some (find_student w.students id) ≡ true
known-student w id h = some-is (find_student w.students id) (unsaid (is_none (find_student w.students id)) (Unknown id.0) h)

known-students : (w : World) (ids : List StudentId) → unknown_students w ids ≡ None → list_all (λ s. is_some (find_student w.students s)) ids ≡ true
known-students w [] h = refl
known-students w (id ∷ ids) h =
    let p = or-none (unknown_student w id) (unknown_students w ids) h in
    both (is_some (find_student w.students id)) (list_all (λ s. is_some (find_student w.students s)) ids) (known-student w id p.0) (known-students w ids p.1)

-- a course that is found has an offering
pub course-offering : (w : World) (id : CourseId) → is_some (find_course w.catalogue.rows id) ≡ true → is_some (offering_of w id) ≡ true
course-offering w id h =
    let c = Members.known (find_course w.catalogue.rows id) h in
    let f = Members.find-member (λ c. c.id.0 == id.0) (all_courses w.catalogue.rows) c.0 c.1 in
    let o = Members.member-flat_map (λ o. o.courses) w.catalogue.rows c.0 f.0 in
    Members.find-some (λ o. has_course o id) w.catalogue.rows o.0 o.1 (Members.any-of (λ c. c.id.0 == id.0) o.0.courses c.0 o.2 f.1)

found-courses : (w : World) (ids : List CourseId) → unknown_course w ids ≡ None → list_all (λ c. is_some (find_course w.catalogue.rows c)) ids ≡ true
found-courses w [] h = refl
found-courses w (id ∷ ids) h =
    let p = or-none (then_some (is_none (find_course w.catalogue.rows id)) (Unknown id.0)) (unknown_course w ids) h in
    both (is_some (find_course w.catalogue.rows id)) (list_all (λ c. is_some (find_course w.catalogue.rows c)) ids)
    (some-is (find_course w.catalogue.rows id) (unsaid _ (Unknown id.0) p.0)) (found-courses w ids p.1)

found-sections : (w : World) (ids : List SectionId) → unknown_section w ids ≡ None → list_all (λ s. is_some (find_section w.catalogue.rows s)) ids ≡ true
found-sections w [] h = refl
found-sections w (id ∷ ids) h =
    let p = or-none (then_some (is_none (find_section w.catalogue.rows id)) (Unknown id.0)) (unknown_section w ids) h in
    both (is_some (find_section w.catalogue.rows id)) (list_all (λ s. is_some (find_section w.catalogue.rows s)) ids)
    (some-is (find_section w.catalogue.rows id) (unsaid _ (Unknown id.0) p.0)) (found-sections w ids p.1)

-- ---- wants

one_to_six : (n : ℕ) → n == 0 ≡ false → nat_lt 6 n ≡ false → nat_le 1 n && nat_le n 6 ≡ true
one_to_six n some few = both (nat_le 1 n) (nat_le n 6) (grind (arith, nat_tests, some)) (grind (arith, nat_tests, few))

want-fits : (w : World) (want : Want) → unknown_in_want w want ≡ None → is_empty_want want ≡ false → many_in_want want ≡ None → want_fits w want ≡ true
want-fits w want known some few =
    let k = or-none (unknown_course w want.courses) (unknown_section w want.only) known in
    let n = or-none (too_many 6 (length want.courses)) (too_many 1200 (length want.only)) few in
    both (courses_known w want && sections_known w want) (is_sized want)
    (both (courses_known w want) (sections_known w want)
    (Members.all-of (λ c. is_some (offering_of w c)) want.courses (λ c m. course-offering w c (Members.all-at (λ c. is_some (find_course w.catalogue.rows c)) want.courses (found-courses w want.courses k.0) c m)))
    (found-sections w want.only k.1))
    (one_to_six (length want.courses) some (unsaid _ (TooMany (capped (length want.courses))) n.0))

wants-fit : (w : World) (wants : List Want) → unknown_in_wants w wants ≡ None → list_any is_empty_want wants ≡ false → many_in_wants wants ≡ None → list_all (want_fits w) wants ≡ true
wants-fit w [] known some few = refl
wants-fit w (want ∷ wants) known some few =
    let k = or-none (unknown_in_want w want) (unknown_in_wants w wants) known in
    let n = or-none (many_in_want want) (many_in_wants wants) few in
    both (want_fits w want) (list_all (want_fits w) wants)
    (want-fits w want k.0 (neither-left (is_empty_want want) (list_any is_empty_want wants) some) n.0)
    (wants-fit w wants k.1 (neither-right (is_empty_want want) (list_any is_empty_want wants) some) n.1)

-- the courses given are held, and none is named twice
given-held : (w : World) (student : StudentId) (earlier cs : List CourseId) → not_enrolled_in w student earlier cs ≡ None → list_all (holds w student) cs ≡ true
given-held w student earlier [] h = refl
given-held w student earlier (c ∷ cs) h =
    let p = or-none (then_some (not (holds w student c) || list_any (λ e. e.0 == c.0) earlier) (NotEnrolled c)) (not_enrolled_in w student (c ∷ earlier) cs) h in
    both (holds w student c) (list_all (holds w student) cs)
    (not-false (holds w student c) (neither-left (not (holds w student c)) (list_any (λ e. e.0 == c.0) earlier) (unsaid _ (NotEnrolled c) p.0)))
    (given-held w student (c ∷ earlier) cs p.1)

given-new : (w : World) (student : StudentId) (earlier cs : List CourseId) → not_enrolled_in w student earlier cs ≡ None
    → (d : CourseId) → Member cs d → list_any (λ e. e.0 == d.0) earlier ≡ false
given-new w student earlier [] h d m = absurd m
given-new w student earlier (c ∷ cs) h d (inl e) =
    let p = or-none (then_some (not (holds w student c) || list_any (λ e. e.0 == c.0) earlier) (NotEnrolled c)) (not_enrolled_in w student (c ∷ earlier) cs) h in
    subst (λ x. list_any (λ e. e.0 == x.0) earlier ≡ false) e (neither-right (not (holds w student c)) (list_any (λ e. e.0 == c.0) earlier) (unsaid _ (NotEnrolled c) p.0))
given-new w student earlier (c ∷ cs) h d (inr m) =
    let p = or-none (then_some (not (holds w student c) || list_any (λ e. e.0 == c.0) earlier) (NotEnrolled c)) (not_enrolled_in w student (c ∷ earlier) cs) h in
    neither-right (c.0 == d.0) (list_any (λ e. e.0 == d.0) earlier) (given-new w student (c ∷ earlier) cs p.1 d m)

given-differ : (w : World) (student : StudentId) (earlier cs : List CourseId) → not_enrolled_in w student earlier cs ≡ None → all_differ (map (λ c. c.0) cs) ≡ true
given-differ w student earlier [] h = refl
given-differ w student earlier (c ∷ cs) h =
    let p = or-none (then_some (not (holds w student c) || list_any (λ e. e.0 == c.0) earlier) (NotEnrolled c)) (not_enrolled_in w student (c ∷ earlier) cs) h in
    both (not (list_any (λ m. m == c.0) (map (λ c. c.0) cs))) (all_differ (map (λ c. c.0) cs))
    (if_false _ (Members.none-of (λ m. m == c.0) (map (λ c. c.0) cs) (λ n m. other n (Members.member-map (λ c. c.0) cs n m) p.1)))
    (given-differ w student (c ∷ earlier) cs p.1)
  where
    swapped : (a b : ℕ) → a == b ≡ false → b == a ≡ false
    swapped a b h = grind (arith, nat_tests, h)

    other : (n : ℕ) → (d : CourseId) × Member cs d × (d.0 ≡ n) → not_enrolled_in w student (c ∷ earlier) cs ≡ None → n == c.0 ≡ false
    other n d h = swapped c.0 n (ap (λ x. c.0 == x) (sym d.2) ∙ neither-left (c.0 == d.0.0) (list_any (λ e. e.0 == d.0.0) earlier) (given-new w student (c ∷ earlier) cs h d.0 d.1))

-- the parts of wants that fit
all-courses : (w : World) (wants : List Want) → list_all (want_fits w) wants ≡ true → list_all (courses_known w) wants ≡ true
all-courses w wants h = Members.all-of (courses_known w) wants (λ x m. both-left _ _ (both-left _ (is_sized x) (Members.all-at (want_fits w) wants h x m)))

all-sections : (w : World) (wants : List Want) → list_all (want_fits w) wants ≡ true → list_all (sections_known w) wants ≡ true
all-sections w wants h = Members.all-of (sections_known w) wants (λ x m. both-right (courses_known w x) _ (both-left _ (is_sized x) (Members.all-at (want_fits w) wants h x m)))

all-sized : (w : World) (wants : List Want) → list_all (want_fits w) wants ≡ true → list_all is_sized wants ≡ true
all-sized w wants h = Members.all-of is_sized wants (λ x m. both-right (courses_known w x && sections_known w x) _ (Members.all-at (want_fits w) wants h x m))

-- ---- rows

pub few_given : length {A = CourseId} [] ≤ 4
few_given = omega arith

pub few_taken : (want : Want) → length (want ∷ []) ≤ 4
few_taken want = omega arith

student-row : (o : Option Student) (credits most n : ℕ) → is_none o && nat_le 50000 n ≡ false → nat_lt most credits ≡ false → option_map_or (λ s. nat_le credits most) o (nat_lt n 50000) ≡ true
student-row None credits most n few held = grind (arith, nat_tests, few)
student-row (Some s) credits most n few held = grind (arith, nat_tests, held)

below : (n : ℕ) → nat_le 50 n ≡ false → nat_lt n 50 ≡ true
below n h = grind (arith, nat_tests, h)

no_use : (n : ℕ) → nat_lt 0 n ≡ false → n == 0 ≡ true
no_use n h = grind (arith, nat_tests, h)

limit-fits : (counted : ℕ) (o : Option ℕ) → option_map_or (λ n. nat_lt n counted) o false ≡ false → option_map_or (nat_le counted) o true ≡ true
limit-fits counted None h = refl
limit-fits counted (Some n) h = grind (arith, nat_tests, h)

known-cap : (w : World) (cap : Cap) → unknown_cap w cap ≡ None → is_known_cap w cap ≡ true
known-cap w (cap_course id) h = both-left _ true (found-courses w (id ∷ []) h)
known-cap w (cap_config id) h = some-is (find_config w.catalogue.rows id) (unsaid _ (Unknown id.0) h)
known-cap w (cap_section id) h = both-left _ true (found-sections w (id ∷ []) h)

-- ---- reservations and restrictions

foreign-none : (o : OfferingRow) (id : ℕ) (used groups : Bool) (audience : Audience) (configs : List ConfigId) (sections : List SectionId)
    → reserve_fault_of o id used groups audience configs sections ≡ None → list_all (section_fits o configs) sections ≡ true
foreign-none o id used groups audience configs sections h =
    let foreign = map-none Foreign (foreign_in o audience configs sections) (or-none (option_map Foreign (foreign_in o audience configs sections)) _ (or-none (then_some used (Known id)) _ h).1).0 in
    let rest = (or-none (option_map (λ c. c.0) (find (λ c. not (lists_config (map (λ g. g.id) o.configs) c)) configs)) _ foreign).1 in
    let own = map-none (λ s. s.0) (find (λ s. not (section_fits o configs s)) sections) (or-none (option_map (λ s. s.0) (find (λ s. not (section_fits o configs s)) sections)) _ rest).0 in
    all-of (section_fits o configs) sections (λ s m. by_test s (section_fits o configs s) refl (Members.find-some (λ s. not (section_fits o configs s)) sections s m) own)
  where
    by_test : (s : SectionId) (b : Bool) → section_fits o configs s ≡ b → (not (section_fits o configs s) ≡ true → is_some (find (λ s. not (section_fits o configs s)) sections) ≡ true)
        → find (λ s. not (section_fits o configs s)) sections ≡ None → b ≡ true
    by_test s true e some none = refl
    by_test s false e some none = absurd (not_both (is_some (find (λ s. not (section_fits o configs s)) sections)) (some (ap not e)) (ap is_some none))

lists-fit : (w : World) → KeptWorld w → (o : OfferingRow) → Member w.catalogue.rows o → (id : ℕ) (used groups : Bool) (audience : Audience) (configs : List ConfigId) (sections : List SectionId)
    → reserve_fault_of o id used groups audience configs sections ≡ None
    → lists_fit id used groups audience (record { configs = configs; sections = flat_map (place_of w) sections }) o ≡ true
lists-fit w k o is_row id used groups audience configs sections h =
    let placed = places-listed w k.rows_pass o is_row configs sections (foreign-none o id used groups audience configs sections h) in
    both (is_none (reserve_fault_of o id used groups audience configs (map (λ p. p.section) (flat_map (place_of w) sections)))) (list_all (has_place_in o) (flat_map (place_of w) sections))
    (ap (λ ss. is_none (reserve_fault_of o id used groups audience configs ss)) placed.0 ∙ ap is_none h) placed.1

-- a row whose offering is known and that has no fault
offering-fits : (fault : OfferingRow → Option ReserveFault) (fits : OfferingRow → Bool) (x : Option OfferingRow) → is_none x ≡ false
    → option_and_then fault x ≡ None → ((o : OfferingRow) → x ≡ Some o → fault o ≡ None → fits o ≡ true) → option_map_or fits x false ≡ true
offering-fits fault fits None known none each = absurd (not_both true refl known)
offering-fits fault fits (Some o) known none each = each o refl none

-- ---- each command

accepted : (s : State) (command : Command) → KeptWorld s.world → first_of (conditions_of s command) ≡ None → CommandFits s.world command
accepted s (Offering row) k h =
    ap is_none (map-none (λ f. Row (offering_fault f)) (rows.fault_of s.world.catalogue row) (none-each (conditions_of s (Offering row)) h).0)
accepted s (student_row row) k h =
    let a = none-each (conditions_of s (student_row row)) h in
    let b = a.1 in
    let c = b.1 in
    student-row (find_student s.world.students row.id) (credits_held s.world row.id) row.max_credits (length s.world.students)
    (unsaid _ (TooMany 50001) a.0) (unsaid _ (LimitBelow (capped (credits_held s.world row.id))) c.1.0)
accepted s (Requests student asks) k h =
    let a = none-each (conditions_of s (Requests student asks)) h in
    both (is_some (find_student s.world.students student)) (is_none (requests.fault_of asks (course_ids s.world))) (known-student s.world student a.0)
    (ap is_none (map-none (λ f. Row (request_fault f)) (requests.fault_of asks (course_ids s.world)) a.1.0))
accepted s (Reserve row) k h =
    let w : World = s.world in
    let used : Bool = is_some (reservation_of w row.id) in
    let a = none-each (conditions_of s (Reserve row)) h in
    let b = a.1 in
    let fault = map-none (λ f. Row (reserve_fault f)) (option_and_then (λ o. reserve_fault_of o row.id.0 used true row.audience row.configs row.sections) (find_offering w.catalogue.rows row.offering)) b.1.0 in
    both _ (nat_lt (length (reservations_of w row.offering)) 50)
    (offering-fits (λ o. reserve_fault_of o row.id.0 used true row.audience row.configs row.sections)
    (lists_fit row.id.0 used true row.audience (record { configs = row.configs; sections = flat_map (place_of w) row.sections }))
    (find_offering w.catalogue.rows row.offering) (unsaid _ (Unknown row.offering.0) a.0) fault
    (λ o e none. lists-fit w k o (Members.find-member (λ o. o.id.0 == row.offering.0) w.catalogue.rows o e).0 row.id.0 used true row.audience row.configs row.sections none))
    (below (length (reservations_of w row.offering)) (unsaid _ (TooMany 51) b.0))
accepted s (Unreserve id) k h =
    let a = none-each (conditions_of s (Unreserve id)) h in
    both (is_some (reservation_of s.world id)) (used_of s.world id == 0) (some-is (reservation_of s.world id) (unsaid _ (Unknown id.0) a.0))
    (no_use (used_of s.world id) (unsaid _ (InUse (capped (used_of s.world id))) a.1.0))
accepted s (Expire id expiry) k h = some-is (reservation_of s.world id) (unsaid _ (Unknown id.0) (none-each (conditions_of s (Expire id expiry)) h).0)
accepted s (Restrict row) k h =
    let w : World = s.world in
    let used : Bool = is_some (restriction_of w row.id) in
    let a = none-each (conditions_of s (Restrict row)) h in
    let b = a.1 in
    let fault = map-none (λ f. Row (reserve_fault f)) (option_and_then (λ o. reserve_fault_of o row.id.0 used false row.audience row.configs row.sections) (find_offering w.catalogue.rows row.offering)) b.1.0 in
    both _ (nat_lt (length (restrictions_of w row.offering)) 50)
    (offering-fits (λ o. reserve_fault_of o row.id.0 used false row.audience row.configs row.sections)
    (lists_fit row.id.0 used false row.audience (record { configs = row.configs; sections = flat_map (place_of w) row.sections }))
    (find_offering w.catalogue.rows row.offering) (unsaid _ (Unknown row.offering.0) a.0) fault
    (λ o e none. lists-fit w k o (Members.find-member (λ o. o.id.0 == row.offering.0) w.catalogue.rows o e).0 row.id.0 used false row.audience row.configs row.sections none))
    (below (length (restrictions_of w row.offering)) (unsaid _ (TooMany 51) b.0))
accepted s (Unrestrict id) k h = some-is (restriction_of s.world id) (unsaid _ (Unknown id.0) (none-each (conditions_of s (Unrestrict id)) h).0)
accepted s (SetLimit cap limit) k h =
    let a = none-each (conditions_of s (SetLimit cap limit)) h in
    let counted : ℕ = counted_of s.world (level_of cap) in
    both (is_known_cap s.world cap) (option_map_or (nat_le counted) (places limit) true) (known-cap s.world cap a.0)
    (limit-fits counted (places limit) (unsaid _ (LimitBelow (capped counted)) a.1.0))
accepted s (Cancel id) k h = λ new.
    let a = none-each (conditions_of s (Cancel id)) h in
    both (is_some (find_section s.world.catalogue.rows id) && not (is_cancelled s.world.catalogue id)) (count_of s.world (Section id) == 0)
    (both (is_some (find_section s.world.catalogue.rows id)) (not (is_cancelled s.world.catalogue id)) (both-left _ true (found-sections s.world (id ∷ []) a.0)) (if_false _ new))
    (no_use (count_of s.world (Section id)) (unsaid _ (InUse (capped (count_of s.world (Section id)))) a.1.0))
accepted s (Enrol student want budget) k h =
    let a = none-each (conditions_of s (Enrol student want budget)) h in
    let b = a.1 in
    let c = b.1 in
    let fits = want-fits s.world want b.0 (unsaid (is_empty_want want) EmptyWant c.0) c.1.0 in
    let all : list_all (want_fits s.world) (want ∷ []) ≡ true = both (want_fits s.world want) true fits refl in record {
      student = known-student s.world student a.0;
      courses = all-courses s.world (want ∷ []) all;
      sections = all-sections s.world (want ∷ []) all;
      held = refl;
      distinct = refl;
      few_given = few_given;
      few_taken = few_taken want;
      sized = all-sized s.world (want ∷ []) all;
    }
accepted s (Drop student course) k h =
    let a = none-each (conditions_of s (Drop student course)) h in
    let b = a.1 in
    not-false (holds s.world student course) (unsaid _ (NotEnrolled course) b.1.0)
accepted s (Swap student give take budget) k h =
    let a = none-each (conditions_of s (Swap student give take budget)) h in
    let b = a.1 in
    let c = b.1 in
    let d = c.1 in
    let e = d.1 in
    let f = e.1 in
    let g = f.1 in
    let i = g.1 in
    let all = wants-fit s.world take c.0 (neither-left (list_any is_empty_want take) (length give == 0 && length take == 0) (unsaid _ EmptyWant d.0)) g.0 in record {
      student = known-student s.world student a.0;
      courses = all-courses s.world take all;
      sections = all-sections s.world take all;
      held = given-held s.world student [] give i.0;
      distinct = given-differ s.world student [] give i.0;
      few_given = ltb-false 4 (length give) (unsaid _ (TooMany (capped (length give))) e.0);
      few_taken = ltb-false 4 (length take) (unsaid _ (TooMany (capped (length take))) f.0);
      sized = all-sized s.world take all;
    }
accepted s (Wait student want give class) k h =
    let a = none-each (conditions_of s (Wait student want give class)) h in
    let b = a.1 in
    let c = b.1 in
    let d = c.1 in
    let e = d.1 in
    let f = e.1 in
    let g = f.1 in
    (known-student s.world student a.0, want-fits s.world want b.0 (unsaid (is_empty_want want) EmptyWant d.0) e.0, given-held s.world student [] (option_to_list give) g.0)
accepted s (Unwait student ticket) k h = tt
accepted s (Batch students) k h = known-students s.world students (none-each (conditions_of s (Batch students)) h).0

pub accepted-fits : AcceptedFits
unfolding refusal_of
accepted-fits s caller command k h = accepted s command k (or-none (then_some (not (is_yours caller command)) NotYours) (first_of (conditions_of s command)) h).1
