-- Nobody is marked but those who were, and those whom the change concerns.
use Rattle.std.specs.Prelude.{◌≡◌, ℕ, zero, suc, ◌<◌, Bool, true, false, ◌||◌, ◌&&◌, ◌==◌, cond, List, [], ◌∷◌, ◌++◌, length, map, Option, Some, None, Result, Ok, Err, OnOk, refl}
use Rattle.std.specs.List.{list_any}
use Rattle.std.specs.Option.{option_map_or, is_some}
use Rattle.std.proofs.Common.{sym, ◌∙◌, ap, subst, arith, get_or}
use Rattle.std.proofs.lemmas.Bool.{eqb-true, eq-eqb}
use Rattle.sect_base.specs.declared.ids.StudentId.{StudentId}
use Rattle.sect_base.specs.declared.ids.CourseId.{CourseId}
use Rattle.sect_catalog.specs.Catalogue.{has_course}
use Rattle.sect_catalog.specs.declared.row.CourseRow.{CourseRow}
use Rattle.sect_catalog.specs.declared.row.OfferingRow.{OfferingRow}
use Rattle.sect_catalog.proofs.SearchLemmas.{any-append}
use Rattle.sect_model.specs.declared.held.Waiting.{Waiting}
use Rattle.sect_model.specs.World.{World, offering_of}
use Rattle.sect_model.specs.Kept.{KeptWorld}
use Rattle.sect_model.specs.Freer.{Among, touches}
use Rattle.sect_model.proofs.Members.{member-map, neither-left, neither-right, none-at, none-of, not_both}
use Rattle.sect_model.proofs.FreerLemmas.{member}
use Rattle.sect_wait.specs.Indexed.{AreTold, MarksTold}
use Rattle.sect_wait.specs.Marked.{Marked, MarksMore, concerns, is_source, wants_one, wants_some}
use Rattle.sect_wait.specs.declared.opened.Opened.{Opened}
use Rattle.sect_wait.specs.Opened.{NotesAll, courses_with, gives_and_wants}
use Rattle.sect_wait.specs.Touched.{MarksOnly, SeeksOnly, is_concerned, is_named, may_be_sought}
use Rattle.sect_wait.proofs.MarkLemmas.{first-off, off-and, on-ok, touches-row}
use Rattle.sect_wait.proofs.NeedLemmas.{all-kept, neither, second-off}
use Rattle.sect_wait.proofs.OpenedLemmas.{courses-are}

-- ---- one entry

pub no-ticket : (m : Marked) (e : Waiting) → is_named m e ≡ false → list_any (λ t. t == e.ticket) m.tickets ≡ false
no-ticket m e h = neither-left (list_any (λ t. t == e.ticket) m.tickets) (is_source m e) h

pub no-source : (m : Marked) (e : Waiting) → is_named m e ≡ false → is_source m e ≡ false
no-source m e h = neither-right (list_any (λ t. t == e.ticket) m.tickets) (is_source m e) h

none-more : {X : Type 0} (test : X → Bool) (xs : List X) (x : X) → list_any test xs ≡ false → test x ≡ false → list_any test (xs ++ x ∷ []) ≡ false
none-more test xs x h i = any-append test xs (x ∷ []) ∙ neither (list_any test xs) (test x || false) h (neither (test x) false i refl)

none-get : {X : Type 0} (test : X → Bool) (xs : List X) (i : ℕ) (d : X) → i < length xs → list_any test xs ≡ false → test (get_or xs i d) ≡ false
none-get test [] i d few h = absurd (omega (arith, few))
none-get test (x ∷ xs) zero d few h = neither-left (test x) (list_any test xs) h
none-get test (x ∷ xs) (suc i) d few h = none-get test xs i d (omega (arith, few)) (neither-right (test x) (list_any test xs) h)

-- a ticket more is marked
pub ticket-only : (m n : Marked) (ticket : ℕ) (es : List Waiting) → n ≡ record m { tickets = m.tickets ++ ticket ∷ [] } → MarksOnly (λ e. ticket == e.ticket) es m n
ticket-only m n ticket es is e a h none =
    ap (λ x. is_named x e) is
    ∙ neither (list_any (λ t. t == e.ticket) (m.tickets ++ ticket ∷ [])) (is_source m e) (none-more (λ t. t == e.ticket) m.tickets ticket (no-ticket m e h) none) (no-source m e h)

-- a course more is marked for all
pub course-only : (m n : Marked) (course : CourseId) (es : List Waiting) → n ≡ record m { courses = m.courses ++ course ∷ []; from = None } → MarksOnly (λ e. list_any (λ c. course.0 == c.0) e.want.courses) es m n
course-only m n course es is e a h none =
    let source : (m.all || wants_one m.courses e) || (is_some e.give && wants_one m.givers e) ≡ false = no-source m e h in
    let wide : m.all || wants_one m.courses e ≡ false = neither-left (m.all || wants_one m.courses e) (is_some e.give && wants_one m.givers e) source in
    ap (λ x. is_named x e) is
    ∙ neither (list_any (λ t. t == e.ticket) m.tickets) ((m.all || wants_one (m.courses ++ course ∷ []) e) || (is_some e.give && wants_one m.givers e)) (no-ticket m e h)
    (neither (m.all || wants_one (m.courses ++ course ∷ []) e) (is_some e.give && wants_one m.givers e)
    (neither m.all (wants_one (m.courses ++ course ∷ []) e) (neither-left m.all (wants_one m.courses e) wide)
    (none-more (λ (d : CourseId). list_any (λ (c : CourseId). d.0 == c.0) e.want.courses) m.courses course (neither-right m.all (wants_one m.courses e) wide) none))
    (neither-right (m.all || wants_one m.courses e) (is_some e.give && wants_one m.givers e) source))

-- a course more is marked for those who give one up
pub giver-only : (m n : Marked) (course : CourseId) (es : List Waiting) → n ≡ record m { givers = m.givers ++ course ∷ []; from = None }
    → MarksOnly (λ e. is_some e.give && list_any (λ c. course.0 == c.0) e.want.courses) es m n
giver-only m n course es is e a h none =
    let source : (m.all || wants_one m.courses e) || (is_some e.give && wants_one m.givers e) ≡ false = no-source m e h in
    ap (λ x. is_named x e) is
    ∙ neither (list_any (λ t. t == e.ticket) m.tickets) ((m.all || wants_one m.courses e) || (is_some e.give && wants_one (m.givers ++ course ∷ []) e)) (no-ticket m e h)
    (neither (m.all || wants_one m.courses e) (is_some e.give && wants_one (m.givers ++ course ∷ []) e) (neither-left (m.all || wants_one m.courses e) (is_some e.give && wants_one m.givers e) source)
    (by_give (is_some e.give) (neither-right (m.all || wants_one m.courses e) (is_some e.give && wants_one m.givers e) source) none))
  where
    by_give : (b : Bool) → b && wants_one m.givers e ≡ false → b && list_any (λ c. course.0 == c.0) e.want.courses ≡ false → b && wants_one (m.givers ++ course ∷ []) e ≡ false
    by_give true g i = none-more (λ (d : CourseId). list_any (λ (c : CourseId). d.0 == c.0) e.want.courses) m.givers course g i
    by_give false g i = refl

-- ---- one after the other

pub same-only : (test : Waiting → Bool) (es : List Waiting) (m : Marked) → MarksOnly test es m m
same-only test es m e a h none = h

pub both-only : (test : Waiting → Bool) (es : List Waiting) (m k n : Marked) → MarksOnly test es m k → MarksOnly test es k n → MarksOnly test es m n
both-only test es m k n first second e a h none = second e a (first e a h none) none

pub more-only : (test more : Waiting → Bool) (es : List Waiting) (m n : Marked) → ((e : Waiting) → more e ≡ false → test e ≡ false) → MarksOnly test es m n → MarksOnly more es m n
more-only test more es m n wider only e a h none = only e a h (wider e none)

-- those whom one of the things concerns, of which one more was marked
pub each-only : {X : Type 0} (test : X → Waiting → Bool) (xs : List X) (i : ℕ) (d : X) (es : List Waiting) (m k n : Marked) → i < length xs
    → MarksOnly (λ e. list_any (λ y. test y e) xs) es m k → MarksOnly (test (get_or xs i d)) es k n → MarksOnly (λ e. list_any (λ y. test y e) xs) es m n
each-only test xs i d es m k n few so_far one e a h none = one e a (so_far e a h none) (none-get (λ y. test y e) xs i d few none)

-- ---- tickets whose entries pass a test

module _ (es : List Waiting) (ticket : ℕ) (own : Waiting → Bool) where
  pub own-marked : (m n : Marked) → MarksTold (Some (ticket ∷ [])) m n → MarksMore (λ e. ticket == e.ticket && own e) es m n
  own-marked m n told = record { kept = told.kept; added = λ e a u. off-and (ticket == e.ticket) (own e) (neither-left (ticket == e.ticket) false (told.added e u)) }

  pub own-only : (m n : Marked) → ((e : Waiting) → Among es e → e.ticket ≡ ticket → true ≡ own e) → MarksOnly (λ e. ticket == e.ticket) es m n → MarksOnly own es m n
  own-only m n its only e a h none = only e a h (by_ticket (ticket == e.ticket) refl)
    where
      by_ticket : (b : Bool) → ticket == e.ticket ≡ b → b ≡ false
      by_ticket true same = absurd (not_both (own e) (sym (its e a (sym (eqb-true ticket e.ticket same)))) none)
      by_ticket false other = refl

  pub own-elsewhere : (m : Marked) → ((e : Waiting) → Among es e → e.ticket ≡ ticket → false ≡ own e) → MarksMore (λ e. ticket == e.ticket && own e) es m m
  own-elsewhere m away = record { kept = all-kept m; added = λ e a u. by_ticket e a (ticket == e.ticket) refl }
    where
      by_ticket : (e : Waiting) → Among es e → (b : Bool) → ticket == e.ticket ≡ b → b && own e ≡ false
      by_ticket e a true same = sym (away e a (sym (eqb-true ticket e.ticket same)))
      by_ticket e a false other = refl

-- whose tickets are told, and are marked where they are their own
pub own-told : (es : List Waiting) (own : Waiting → Bool) (tickets : List ℕ) (m n : Marked) → AreTold own es (Some tickets) → MarksMore (λ e. list_any (λ t. t == e.ticket && own e) tickets) es m n → MarksMore own es m n
own-told es own tickets m n are marks = record { kept = marks.kept; added = λ e a u. by_own e a (marks.added e a u) (own e) refl }
  where
    by_own : (e : Waiting) → Among es e → list_any (λ t. t == e.ticket && own e) tickets ≡ false → (b : Bool) → own e ≡ b → own e ≡ false
    by_own e a none true its = are e a (none-of (λ t. t == e.ticket) tickets (λ t i.
        first-off (t == e.ticket) (ap (λ b. t == e.ticket && b) (sym its) ∙ none-at (λ t. t == e.ticket && own e) tickets none t i)))
    by_own e a none false its = its

-- all of them are looked at
pub own-all : (es : List Waiting) (own : Waiting → Bool) (m n : Marked) → MarksMore (λ e. list_any (λ (d : Waiting). d.ticket == e.ticket && own e) es) es m n → MarksMore own es m n
own-all es own m n marks = record { kept = marks.kept; added = λ e a u. by_own e (none-at (λ (d : Waiting). d.ticket == e.ticket && own e) es (marks.added e a u) e (member es e a)) }
  where
    by_own : (e : Waiting) → e.ticket == e.ticket && own e ≡ false → own e ≡ false
    by_own e h = sym (ap (λ b. b && own e) (eq-eqb e.ticket e.ticket refl)) ∙ h

-- ---- entries of an offering, and of a student

pub row-only : {A E : Type 0} (o : OfferingRow) (m n : Marked) (r : Result A E) → OnOk r ((es : List Waiting) → MarksOnly (wants_some o.courses) es m n) → OnOk r ((es : List Waiting) → MarksOnly (concerns None (Some o)) es m n)
row-only o m n r marks = on-ok r (λ each es. more-only (wants_some o.courses) (concerns None (Some o)) es m n wants (each es)) marks
  where
    wants : (e : Waiting) → concerns None (Some o) e ≡ false → wants_some o.courses e ≡ false
    wants e none = none-of (λ d. list_any (λ c. d.id.0 == c.0) e.want.courses) o.courses (λ d n. none-of (λ c. d.id.0 == c.0) e.want.courses (λ c m.
        none-at (λ d. d.id.0 == c.0) o.courses (none-at (has_course o) e.want.courses none c m) d n))

pub student-only : (student : StudentId) (es : List Waiting) (m n : Marked) → MarksOnly (λ e. student.0 == e.student.0) es m n → MarksOnly (concerns (Some student) None) es m n
student-only student es m n = more-only (λ e. student.0 == e.student.0) (concerns (Some student) None) es m n (λ e h. neither-left (student.0 == e.student.0) false h)

pub student-more : (student : StudentId) (es : List Waiting) (m n : Marked) → MarksMore (λ e. student.0 == e.student.0) es m n → MarksMore (concerns (Some student) None) es m n
student-more student es m n marks = record { kept = marks.kept; added = λ e a u. neither (student.0 == e.student.0) false (marks.added e a u) refl }

pub concerned-only : {A E : Type 0} (student : Option StudentId) (row : Option OfferingRow) (es : List Waiting) (m k n : Marked) (r : Result A E) → MarksOnly (concerns student None) es m k
    → OnOk r ((fs : List Waiting) → MarksOnly (concerns None row) fs k n) → OnOk r (MarksOnly (concerns student row) es m n)
concerned-only student row es m k n r own marks = on-ok r (λ each. join (each es)) marks
  where
    join : MarksOnly (concerns None row) es k n → MarksOnly (concerns student row) es m n
    join wanting e a h none =
        wanting e a
        (own e a h (neither (option_map_or (λ s. s.0 == e.student.0) student false) false (neither-left _ (option_map_or (λ o. list_any (has_course o) e.want.courses) row false) none) refl))
        (neither-right (option_map_or (λ s. s.0 == e.student.0) student false) _ none)

-- ---- changes

concerned-row : (w : World) (student : StudentId) (course : CourseId) (e : Waiting) → KeptWorld w → is_concerned w student course e ≡ false → concerns (Some student) (offering_of w course) e ≡ false
concerned-row w student course e k none =
    neither (student.0 == e.student.0) (option_map_or (λ o. list_any (has_course o) e.want.courses) (offering_of w course) false) (neither-left (student.0 == e.student.0) (touches w e.want course) none)
    (sym (touches-row w e.want course (offering_of w course) k refl) ∙ neither-right (student.0 == e.student.0) (touches w e.want course) none)

pub leave-only : {A E : Type 0} (w : World) (es : List Waiting) (student : StudentId) (course : CourseId) (o : Option OfferingRow) (m n : Marked) (r : Result A E) → KeptWorld w
    → o ≡ offering_of w course → OnOk r (MarksOnly (concerns (Some student) o) es m n) → OnOk r (MarksOnly (is_concerned w student course) es m n)
leave-only w es student course o m n r k its marks =
    on-ok r (more-only (concerns (Some student) (offering_of w course)) (is_concerned w student course) es m n (λ e none. concerned-row w student course e k none))
    (subst (λ x. OnOk r (MarksOnly (concerns (Some student) x) es m n)) its marks)

pub enrol-only : {A E : Type 0} (w : World) (es : List Waiting) (student : StudentId) (course : CourseId) (b : Bool) (o p : Option OfferingRow) (m l n : Marked) (r : Result A E) → KeptWorld w
    → o ≡ cond b (offering_of w course) None → p ≡ offering_of w course → MarksOnly (concerns (Some student) o) es m l → OnOk r (MarksOnly (concerns None p) es l n)
    → OnOk r (MarksOnly (is_concerned w student course) es m n)
enrol-only w es student course b o p m l n r k its all first marks = on-ok r join marks
  where
    by_free : (e : Waiting) (b : Bool) → concerns (Some student) (offering_of w course) e ≡ false → concerns (Some student) (cond b (offering_of w course) None) e ≡ false
    by_free e true h = h
    by_free e false h = neither (student.0 == e.student.0) false (neither-left (student.0 == e.student.0) (option_map_or (λ o. list_any (has_course o) e.want.courses) (offering_of w course) false) h) refl

    join : MarksOnly (concerns None p) es l n → MarksOnly (is_concerned w student course) es m n
    join second e a h none =
        let away : concerns (Some student) (offering_of w course) e ≡ false = concerned-row w student course e k none in
        second e a (first e a h (ap (λ x. concerns (Some student) x e) its ∙ by_free e b away))
        (ap (λ x. concerns None x e) all ∙ neither-right (student.0 == e.student.0) (option_map_or (λ o. list_any (has_course o) e.want.courses) (offering_of w course) false) away)

-- ---- what opened

module _ (m : Marked) (courses : List CourseId) (e : Waiting) (h : may_be_sought m courses e ≡ false) where
  pub unnamed : is_named m e ≡ false
  unnamed = neither-left (is_named m e) (wants_one courses e) h

  pub unwanting : wants_one courses e ≡ false
  unwanting = neither-right (is_named m e) (wants_one courses e) h

-- what holds anyway
pub any-ok : {A E P : Type 0} (r : Result A E) → P → OnOk r P
any-ok (Ok x) p = p
any-ok (Err x) p = tt

pub same-seeks : (test : Waiting → Bool) (es : List Waiting) (m : Marked) (courses : List CourseId) → SeeksOnly test es m courses m courses
same-seeks test es m courses e a h none = h

-- marks more, while what opened stays
pub marks-seek : (test : Waiting → Bool) (es : List Waiting) (m n : Marked) (courses : List CourseId) → MarksOnly test es m n → SeeksOnly test es m courses n courses
marks-seek test es m n courses only e a h none = neither (is_named n e) (wants_one courses e) (only e a (unnamed m courses e h) none) (unwanting m courses e h)

pub wider-seeks : (test more : Waiting → Bool) (es : List Waiting) (m n : Marked) (cs ds : List CourseId) → ((e : Waiting) → more e ≡ false → test e ≡ false) → SeeksOnly test es m cs n ds → SeeksOnly more es m cs n ds
wider-seeks test more es m n cs ds wider only e a h none = only e a h (wider e none)

pub both-seek : (test more all : Waiting → Bool) (es : List Waiting) (m k n : Marked) (cs ds xs : List CourseId) → ((e : Waiting) → all e ≡ false → (test e ≡ false) × (more e ≡ false))
    → SeeksOnly test es m cs k ds → SeeksOnly more es k ds n xs → SeeksOnly all es m cs n xs
both-seek test more all es m k n cs ds xs parts first second e a h none = second e a (first e a h (parts e none).0) (parts e none).1

-- who wants what opened is marked, and that is forgotten
pub fallen-seek : (es : List Waiting) (m n : Marked) (cs ds : List CourseId) → ds ≡ [] → MarksOnly (wants_one cs) es m n → SeeksOnly (λ e. false) es m cs n ds
fallen-seek es m n cs ds none only e a h i = ap (λ xs. may_be_sought n xs e) none ∙ neither (is_named n e) false (only e a (unnamed m cs e h) (unwanting m cs e h)) refl

-- of these only who gives a course up is marked
pub shut-seek : (es : List Waiting) (m n : Marked) (cs ds : List CourseId) → ds ≡ [] → MarksOnly (gives_and_wants cs) es m n → SeeksOnly (λ e. false) es m cs n ds
shut-seek es m n cs ds none only = fallen-seek es m n cs ds none (more-only (gives_and_wants cs) (wants_one cs) es m n gives only)
  where
    gives : (e : Waiting) → wants_one cs e ≡ false → gives_and_wants cs e ≡ false
    gives e h = none-of (λ (d : CourseId). is_some e.give && list_any (λ c. d.0 == c.0) e.want.courses) cs (λ d i.
        second-off (is_some e.give) (list_any (λ c. d.0 == c.0) e.want.courses) (none-at (λ (d : CourseId). list_any (λ c. d.0 == c.0) e.want.courses) cs h d i))

-- ---- a leaving

-- who wants no course of the offering wants none that opened
opened-unwanted : (w : World) (course : CourseId) (e : Waiting) → KeptWorld w → touches w e.want course ≡ false → wants_one (courses_with w course) e ≡ false
opened-unwanted w course e k none = by_row (offering_of w course) (sym (touches-row w e.want course (offering_of w course) k refl) ∙ none)
  where
    by_row : (row : Option OfferingRow) → option_map_or (λ o. list_any (has_course o) e.want.courses) row false ≡ false → wants_one (option_map_or (λ o. map (λ c. c.id) o.courses) row []) e ≡ false
    by_row None h = refl
    by_row (Some o) h = none-of (λ (d : CourseId). list_any (λ c. d.0 == c.0) e.want.courses) (map (λ c. c.id) o.courses) (λ d i.
        let x = member-map (λ (c : CourseRow). c.id) o.courses d i in
        none-of (λ (c : CourseId). d.0 == c.0) e.want.courses (λ c m.
        ap (λ (y : CourseId). y.0 == c.0) (sym x.2) ∙ none-at (λ d. d.id.0 == c.0) o.courses (none-at (has_course o) e.want.courses h c m) x.0 x.1))

-- the student's marks, those that are noted in the offering, and what opened of it
pub left-seek : (w : World) (k : KeptWorld w) (student : StudentId) (course : CourseId) (es : List Waiting) (m l n : Marked) (o : Opened) (p : Option OfferingRow) → NotesAll w student course o
    → p ≡ offering_of w course → MarksOnly (concerns (Some student) None) es m l → MarksOnly (concerns None p) es l n → SeeksOnly (is_concerned w student course) es m [] n o.courses.items
left-seek w k student course es m l n o p notes all own noted e a h none =
    let named : is_named m e ≡ false = unnamed m [] e h in
    let away : concerns (Some student) (offering_of w course) e ≡ false = concerned-row w student course e k none in
    neither (is_named n e) (wants_one o.courses.items e)
    (noted e a (own e a named (neither (student.0 == e.student.0) false (neither-left (student.0 == e.student.0) (touches w e.want course) none) refl))
    (ap (λ x. concerns None x e) all ∙ neither-right (student.0 == e.student.0) (option_map_or (λ o. list_any (has_course o) e.want.courses) (offering_of w course) false) away))
    (ap (λ cs. wants_one cs e) (courses-are w k student course notes.0 notes.1 o notes.2) ∙ opened-unwanted w course e k (neither-right (student.0 == e.student.0) (touches w e.want course) none))
