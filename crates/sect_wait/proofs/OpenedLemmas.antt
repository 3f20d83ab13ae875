-- What a leaving opens: nothing but what is noted, and once that is closed again, nothing.
use Rattle.std.specs.Prelude.{◌≡◌, ℕ, ◌+◌, ◌-◌, ◌≤◌, pos, ◌-ℤ◌, int_lt, Bool, true, false, not, ◌&&◌, ◌==◌, nat_lt, cond, List, [], ◌∷◌, length, map, filter, find, sum_by, Option, Some, None, Result, Ok, Err, IfOk, OnOk, IsTrue, refl, ◌⊎◌}
use Rattle.std.specs.List.{list_any, list_all}
use Rattle.std.specs.Option.{option_map, option_map_or, option_and_then, option_to_list, is_some}
use Rattle.std.proofs.Common.{sym, ◌∙◌, ap, subst, arith, inl, inr}
use Rattle.std.proofs.lemmas.Bool.{eqb-true, eq-eqb}
use Rattle.std.proofs.lemmas.Bool.Decides.{nat_tests}
use Rattle.std.proofs.lemmas.Int.{ints}
use Rattle.std.proofs.lemmas.List.Sums.{sum_by-cons}
use Rattle.sect_base.specs.declared.limit.Level.TheVariants.{Course, Offering, Config, Section}
use Rattle.sect_catalog.specs.Catalogue.{places, has_course}
use Rattle.sect_model.specs.declared.change.Change.TheVariants.{Leave, Enrol}
use Rattle.sect_model.specs.Data.{StudentId, CourseId, OfferingId, ReservationId, OfferingRow, Level, Reservation}
use Rattle.sect_model.specs.declared.held.Enrolment.{Enrolment}
use Rattle.sect_model.specs.declared.held.Waiting.{Waiting}
use Rattle.sect_model.specs.World.{World, offering_of, is_in, reservation_of, used_by, held_by, holds, leave, enrol, insert_enrolment}
use Rattle.sect_model.specs.Counts.{is_at, count_of, used_of}
use Rattle.sect_model.specs.Space.{places_at, active_at, remaining, has_unlimited, has_place, has_unreserved}
use Rattle.sect_model.specs.GoodWorld.{reservation_fits}
use Rattle.sect_model.specs.Fits.{Fits, changed}
use Rattle.sect_model.specs.Kept.{KeptWorld, entry_fits}
use Rattle.sect_model.specs.Freer.{Among, NoMove, has_room, frees_some, may_open, touches, NoFreer}
use Rattle.sect_model.proofs.Members
use Rattle.sect_model.proofs.Members.{Member, all-at, both, both-left, both-right, neither-left, neither-right, not_both, not_true, decide, known-test, none-at, none-of}
use Rattle.sect_model.proofs.Limits.{same-course, same-config, same-section}
use Rattle.sect_model.proofs.Easy.{sound}
use Rattle.sect_model.proofs.EnrolLeave.{find-own}
use Rattle.sect_model.proofs.PutLemmas.{filter-put}
use Rattle.sect_model.proofs.RosterLemmas.{count-insert}
use Rattle.sect_model.proofs.ChangeLemmas.{changes-keep}
use Rattle.sect_model.proofs.FreerLemmas.{among, member, filter-part}
use Rattle.sect_model.proofs.FreerEnrol.{if-not, more-space, one-more}
use Rattle.sect_model.proofs.FreerFrame.{member-put, plain-no-freer}
use Rattle.sect_space.proofs.Bounds.{held-once}
use Rattle.sect_wait.specs.declared.opened.Opened.{Opened}
use Rattle.sect_wait.specs.Marked.{Marked, Needless, is_marked, is_noted, is_noted_in, may_need, wants_one, concerns, OthersNeedNoSearch, MarksKept, MarksMore}
use Rattle.sect_wait.specs.Opened.{OpenedSince, WasBlocked, OthersBut, Notes, NotesAll, levels_at, courses_with, gives_and_wants, is_closed_again}
use Rattle.sect_wait.specs.Queued.{Queued, left}
use Rattle.sect_wait.proofs.FreedLemmas.{frees-none}
use Rattle.sect_wait.proofs.MarkLemmas.{off-and, among-without, leave-concerns}
use Rattle.sect_wait.proofs.NeedLemmas.{all-kept, both-kept, neither, needless-stays, plain-need, same-notes}

-- ---- a level without a place has no unreserved space

no-space : (l c s : ℕ) → nat_lt c l ≡ false → int_lt (pos 0) (pos l -ℤ pos (c + s)) ≡ false
no-space l c s h = grind (arith, ints, nat_tests, h)

by-limit : (limit : Option ℕ) (u : Bool) (c s : ℕ) → option_map_or (nat_lt c) limit true ≡ false → option_map_or (int_lt (pos 0)) (option_map (λ l. cond u (pos 0) (pos l -ℤ pos (c + s))) limit) true ≡ false
by-limit None u c s h = absurd (not_both true refl h)
by-limit (Some l) true c s h = refl
by-limit (Some l) false c s h = no-space l c s h

pub full-unreserved : (w : World) (level : Level) → has_place w level ≡ false → has_unreserved w level ≡ false
full-unreserved w level h = by-limit (places_at w level) (has_unlimited (active_at w level)) (count_of w level) (sum_by (remaining w) (active_at w level)) h

-- ---- the leaving

same-offering : (a b : OfferingId) → a.0 ≡ b.0 → a ≡ b
same-offering a b e = λ i. record { 0 = e i }

rest-more : (o : Option ℕ) (a b : ℕ) → a ≤ b → option_map_or (λ l. l - b) o 0 ≤ option_map_or (λ l. l - a) o 0
rest-more None a b e = omega arith
rest-more (Some l) a b e = omega (arith, e)

sum-le : {X : Type 0} (f g : X → ℕ) (xs : List X) → ((x : X) → f x ≤ g x) → sum_by f xs ≤ sum_by g xs
sum-le f g [] h = omega arith
sum-le f g (x ∷ xs) h = omega (arith, h x, sum-le f g xs h, sum_by-cons f x xs, sum_by-cons g x xs)

no-more : (c d s t : ℕ) → d ≡ c → s ≤ t → c + s ≤ d + t
no-more c d s t e le = omega (arith, e, le)

module _ (w : World) (k : KeptWorld w) (student : StudentId) (course : CourseId) (x : Enrolment) (alone : filter (is_in student course) w.roster ≡ x ∷ []) (o : Opened) (notes : Notes w x.choice o) where
  abbrev gone : World
  gone = leave w student course

  its-own : Member w.roster x × (is_in student course x ≡ true)
  its-own = Members.member-filter (is_in student course) w.roster x (subst (λ es. Member es x) (sym alone) (inl refl))

  only-one : (y : Enrolment) → Member w.roster y → is_in student course y ≡ true → x ≡ y
  only-one y m i = by_list (subst (λ es. Member es y) alone (Members.member-of_filter (is_in student course) w.roster y m i))
    where
      by_list : Member (x ∷ []) y → x ≡ y
      by_list (inl is) = is
      by_list (inr a) = absurd a

  -- what the enrolment doesn't pass is counted as before
  count-same : (p : Enrolment → Bool) → p x ≡ false → length (filter p gone.roster) ≡ length (filter p w.roster)
  count-same p none = ap length (filter-part p (λ y. not (is_in student course y)) w.roster (λ y m t.
      Members.if_false (is_in student course y) (if-not (is_in student course y) (λ i.
      not_both (p y) t (ap p (sym (only-one y m i)) ∙ none)))))

  count-kept : (level : Level) → is_at w level x ≡ false → count_of gone level ≡ count_of w level
  count-kept (Course id) none = count-same (is_at w (Course id)) none
  count-kept (Offering id) none = count-same (is_at w (Offering id)) none
  count-kept (Config id) none = count-same (is_at w (Config id)) none
  count-kept (Section id) none = count-same (is_at w (Section id)) none

  places-kept : (level : Level) → places_at gone level ≡ places_at w level
  places-kept (Course id) = refl
  places-kept (Offering id) = refl
  places-kept (Config id) = refl
  places-kept (Section id) = refl

  -- where it counts is a level of its choice
  at-level : (level : Level) → is_at w level x ≡ true → Member (levels_at w x.choice) level
  at-level (Course id) t = inl (ap Course (same-course x.choice.course id (eqb-true x.choice.course.0 id.0 t)))
  at-level (Config id) t = inr (inl (ap Config (same-config x.choice.config id (eqb-true x.choice.config.0 id.0 t))))
  at-level (Section id) t =
      let s = Members.any-at (λ s. s.0 == id.0) x.choice.sections t in
      inr (inr (Members.member-left (map Section x.choice.sections) _ (Section id)
      (subst (λ s. Member (map Section x.choice.sections) (Section s)) (same-section s.0 id (eqb-true s.0.0 id.0 s.2)) (Members.member-of_map Section x.choice.sections s.0 s.1))))
  at-level (Offering id) t =
      let row = known-test (λ r. r.id.0 == id.0) (offering_of w x.choice.course) t in
      inr (inr (Members.member-right (map Section x.choice.sections) _ (Offering id)
      (subst (λ (r : Option OfferingRow). Member (option_to_list (option_map (λ r. Offering r.id) r)) (Offering id)) (sym row.1)
      (inl (ap Offering (same-offering row.0.id id (eqb-true row.0.id.0 id.0 row.2)))))))

  noted : (test : Level → Bool) (ls : List Level) (level : Level) → ls ≡ filter (λ l. not (test l)) (levels_at w x.choice) → is_at w level x ≡ true → (test level ≡ true) ⊎ Among ls level
  noted test ls level is at = by_test (decide (test level))
    where
      by_test : (test level ≡ true) ⊎ (test level ≡ false) → (test level ≡ true) ⊎ Among ls level
      by_test (inl t) = inl t
      by_test (inr f) = inr (among ls level (subst (λ ms. Member ms level) (sym is) (Members.member-of_filter (λ l. not (test l)) (levels_at w x.choice) level (at-level level at) (Members.if_false (test level) f))))

  place-noted : (level : Level) → has_place gone level ≡ true → (has_place w level ≡ true) ⊎ Among o.full.items level
  place-noted level h = by_place (decide (is_at w level x))
    where
      by_place : (is_at w level x ≡ true) ⊎ (is_at w level x ≡ false) → (has_place w level ≡ true) ⊎ Among o.full.items level
      by_place (inl t) = noted (has_place w) o.full.items level notes.full t
      by_place (inr f) = inl (sym (λ i. option_map_or (nat_lt (count-kept level f i)) (places-kept level i) true) ∙ h)

  unreserved-noted : (level : Level) → has_unreserved gone level ≡ true → (has_unreserved w level ≡ true) ⊎ Among o.reserved.items level
  unreserved-noted level h = by_place (decide (is_at w level x))
    where
      by_place : (is_at w level x ≡ true) ⊎ (is_at w level x ≡ false) → (has_unreserved w level ≡ true) ⊎ Among o.reserved.items level
      by_place (inl t) = noted (has_unreserved w) o.reserved.items level notes.reserved t
      by_place (inr f) = inl (more-space (has_unlimited (active_at w level)) (places_at w level)
          (count_of w level + sum_by (remaining w) (active_at w level)) (count_of gone level + sum_by (remaining gone) (active_at w level))
          (no-more (count_of w level) (count_of gone level) (sum_by (remaining w) (active_at w level)) (sum_by (remaining gone) (active_at w level)) (count-kept level f)
          (sum-le (remaining w) (remaining gone) (active_at w level) (λ r. rest-more (places r.limit) (used_of gone r.id) (used_of w r.id)
          (Members.count-part (λ e. option_map_or (λ i. i.0 == r.id.0) e.choice.reservation false) (λ y. not (is_in student course y)) w.roster))))
          (ap (λ p. option_map_or (int_lt (pos 0)) (option_map (λ limit. cond (has_unlimited (active_at w level)) (pos 0) (pos limit -ℤ pos (count_of gone level + sum_by (remaining gone) (active_at w level)))) p) true) (sym (places-kept level)) ∙ h))

  room-noted : (r : Reservation) → Member w.reservations r → has_room gone r ≡ true → (has_room w r ≡ true) ⊎ Among o.used_up.items r.id
  room-noted r m h = by_use (decide (option_map_or (λ i. i.0 == r.id.0) x.choice.reservation false))
    where
      by_named : (named : Option ReservationId) → option_map_or (λ i. i.0 == r.id.0) named false ≡ true → option_and_then (reservation_of w) named ≡ Some r
      by_named None t = absurd (not_both false t refl)
      by_named (Some i) t = find-own (λ r. r.id.0) w.reservations k.reservations_differ r m i.0 (sym (eqb-true i.0 r.id.0 t))

      by_room : (b : Bool) → has_room w r ≡ b → used_by w x.choice ≡ Some r → (has_room w r ≡ true) ⊎ Among o.used_up.items r.id
      by_room true t its = inl t
      by_room false f its = inr (subst (λ ids. Among ids r.id)
          (sym (notes.used_up ∙ ap (λ u. option_map_or (λ r. cond (has_room w r) [] (r.id ∷ [])) u []) its ∙ ap (λ b. cond b [] (r.id ∷ [])) f)) (inl refl))

      by_use : (option_map_or (λ i. i.0 == r.id.0) x.choice.reservation false ≡ true) ⊎ (option_map_or (λ i. i.0 == r.id.0) x.choice.reservation false ≡ false) → (has_room w r ≡ true) ⊎ Among o.used_up.items r.id
      by_use (inl t) = by_room (has_room w r) refl (by_named x.choice.reservation t)
      by_use (inr f) = inl (sym (ap (λ n. option_map_or (nat_lt n) (places r.limit) true) (count-same (λ e. option_map_or (λ i. i.0 == r.id.0) e.choice.reservation false) f)) ∙ h)

  leave-since : (e : Waiting) → student.0 == e.student.0 ≡ false → OpenedSince w gone.roster o e
  leave-since e unlike = record {
    kept = k;
    held = filter-part (λ y. y.student.0 == e.student.0) (λ y. not (is_in student course y)) w.roster (λ y m t.
        Members.if_false (is_in student course y) (if-not (is_in student course y) (λ i.
        not_both (student.0 == e.student.0)
        (eq-eqb student.0 e.student.0 (sym (eqb-true y.student.0 student.0 (both-left _ _ i)) ∙ eqb-true y.student.0 e.student.0 t)) unlike)));
    wanted = λ c row wanted its. record {
      place = λ level is h. place-noted level h;
      unreserved = λ level is h. unreserved-noted level h;
      room = λ id r found own h. room-noted r (Members.find-member (λ r. r.id.0 == id.0) w.reservations r found).0 h;
    };
  }

  -- the courses of the offering opened
  pub courses-are : o.courses.items ≡ courses_with w course
  courses-are = notes.courses ∙ ap (courses_with w) (same-course x.choice.course course (eqb-true x.choice.course.0 course.0 (both-right (x.student.0 == student.0) _ its-own.1)))

  -- whom the student's marks leave out, and who wants nothing of the offering
  unwanted : (e : Waiting) → student.0 == e.student.0 ≡ false → wants_one o.courses.items e ≡ false → concerns (Some student) (offering_of w course) e ≡ false
  unwanted e unlike none =
      neither (student.0 == e.student.0) _ unlike
      (by_row (offering_of w course) (ap (λ cs. wants_one cs e) (sym courses-are) ∙ none))
    where
      by_row : (row : Option OfferingRow) → wants_one (option_map_or (λ r. map (λ c. c.id) r.courses) row []) e ≡ false → option_map_or (λ r. list_any (has_course r) e.want.courses) row false ≡ false
      by_row None h = refl
      by_row (Some r) h = none-of (has_course r) e.want.courses (λ c m. none-of (λ d. d.id.0 == c.0) r.courses (λ d n.
          none-at (λ a. d.id.0 == a.0) e.want.courses
          (none-at (λ (a : CourseId). list_any (λ b. a.0 == b.0) e.want.courses) (map (λ c. c.id) r.courses) h d.id (Members.member-of_map (λ c. c.id) r.courses d n)) c m))

  pub left-but : (es : List Waiting) (m l n : Marked) → Fits w (Leave student course) → IsTrue (list_all (entry_fits w) es) → OthersNeedNoSearch w es m → MarksMore (concerns (Some student) None) es m l
      → MarksMore (is_noted_in l.spent (offering_of w course)) es l n → OthersBut (leave w student course) es n o
  left-but es m l n fits fit others own noted = record {
    others = λ e a u none. stays e a (unwanted e (unlike e a u) none) (old e a u);
    blocked = λ e a u give. by_old e a u (old e a u);
  }
    where
      kept : MarksKept m n
      kept = both-kept m l n own.kept noted.kept

      unlike : (e : Waiting) → Among es e → is_marked n e ≡ false → student.0 == e.student.0 ≡ false
      unlike e a u = neither-left (student.0 == e.student.0) false (own.added e a (noted.kept.marks e u))

      old : (e : Waiting) → Among es e → is_marked n e ≡ false → Needless w (is_noted m.spent e) e
      old e a u = others e a (kept.marks e u)

      stays : (e : Waiting) → Among es e → concerns (Some student) (offering_of w course) e ≡ false → Needless w (is_noted m.spent e) e → Needless (leave w student course) (is_noted n.spent e) e
      stays e a away h =
          same-notes (leave w student course) e m n kept
          (needless-stays w e (is_noted m.spent e) (Leave student course) k fits (all-at (entry_fits w) es fit e (member es e a))
          (plain-need w e (is_noted m.spent e) (Leave student course) refl (leave-concerns w student course e k away)) h)

      -- who is noted as spent and isn't marked wants no course of the offering
      elsewhere : (e : Waiting) → Among es e → is_marked n e ≡ false → is_noted m.spent e ≡ true → concerns (Some student) (offering_of w course) e ≡ false
      elsewhere e a u has =
          neither (student.0 == e.student.0) _ (unlike e a u)
          (sym (λ i. has i && concerns None (offering_of w course) e) ∙ (λ i. is_noted (sym own.kept.spent i) e && concerns None (offering_of w course) e) ∙ noted.added e a u)

      by_old : (e : Waiting) → Among es e → is_marked n e ≡ false → Needless w (is_noted m.spent e) e → Needless (leave w student course) (is_noted n.spent e) e ⊎ WasBlocked (leave w student course) o e
      by_old e a u (inl none) = inr (record { before = w; same = refl; since = leave-since e (unlike e a u); none = none })
      by_old e a u (inr h) = inl (stays e a (elsewhere e a u h.0) (inr h))

-- ---- an enrolment of another student since the leaving

enrol-since : (w v : World) (o : Opened) (e : Waiting) (x : Enrolment) → w ≡ record v { roster = w.roster } → KeptWorld w → Fits w (Enrol x) → x.student.0 == e.student.0 ≡ false → frees_some w x.choice ≡ false
    → OpenedSince v w.roster o e → OpenedSince v (insert_enrolment x w.roster) o e
enrol-since w v o e x same k fits unlike none since = record {
  kept = since.kept;
  held = freer.held ∙ since.held;
  wanted = λ c row wanted its.
      let was = since.wanted c row wanted its in
      let now = freer.wanted c row wanted its in
      record {
        place = λ level is h. was.place level is (now.place level is h);
        unreserved = λ level is h. was.unreserved level is (now.unreserved level is h);
        room = λ id r found own h. was.room id r found own (now.room id r found own h);
      };
}
  where
    fitting : reservation_fits v x ≡ true
    fitting = subst (λ (u : World). reservation_fits u x ≡ true) same (sound (changed w (Enrol x)) (changes-keep w (Enrol x) k fits).good x (member-put (λ y. y.student.0) x w.roster)).reservation

    freeing : frees_some v x.choice ≡ false
    freeing = subst (λ (u : World). frees_some u x.choice ≡ false) same none

    freer : NoFreer (record v { roster = w.roster }) (record v { roster = insert_enrolment x w.roster }) e.student e.want
    freer =
        one-more v w.roster (insert_enrolment x w.roster) x (λ p. count-insert p x w.roster) since.kept.reservations_differ e.student e.want
        (filter-put (λ y. y.student.0) (λ y. y.student.0 == e.student.0) x w.roster unlike)
        (λ c row level wanted its is. frees-none v x fitting freeing level)

enrol-blocked : (w : World) (o : Opened) (e : Waiting) (x : Enrolment) → KeptWorld w → Fits w (Enrol x) → x.student.0 == e.student.0 ≡ false → frees_some w x.choice ≡ false
    → WasBlocked w o e → WasBlocked (enrol w x.student x.choice) o e
enrol-blocked w o e x k fits unlike none b = record {
  before = b.before;
  same = ap (λ (u : World). record u { roster = insert_enrolment x w.roster }) b.same;
  since = enrol-since w b.before o e x b.same k fits unlike none b.since;
  none = b.none;
}

pub enrolled-but : (w : World) (es : List Waiting) (m n : Marked) (o : Opened) (x : Enrolment) → KeptWorld w → Fits w (Enrol x) → IsTrue (list_all (entry_fits w) es) → OthersBut w es m o
    → MarksMore (λ e. may_need w (is_noted m.spent e) e (Enrol x)) es m n → (frees_some w x.choice ≡ true → o.courses.items ≡ []) → OthersBut (changed w (Enrol x)) es n o
enrolled-but w es m n o x k fits fit but marks freed = record {
  others = λ e a u none. stays e a u (but.others e a (marks.kept.marks e u) none);
  blocked = λ e a u give. by_free e a u (decide (frees_some w x.choice)) (but.blocked e a (marks.kept.marks e u) give);
}
  where
    stays : (e : Waiting) → Among es e → is_marked n e ≡ false → Needless w (is_noted m.spent e) e → Needless (changed w (Enrol x)) (is_noted n.spent e) e
    stays e a u none =
        same-notes (changed w (Enrol x)) e m n marks.kept (needless-stays w e (is_noted m.spent e) (Enrol x) k fits (all-at (entry_fits w) es fit e (member es e a)) (marks.added e a u) none)

    by_free : (e : Waiting) → Among es e → is_marked n e ≡ false → (frees_some w x.choice ≡ true) ⊎ (frees_some w x.choice ≡ false) → Needless w (is_noted m.spent e) e ⊎ WasBlocked w o e
        → Needless (changed w (Enrol x)) (is_noted n.spent e) e ⊎ WasBlocked (changed w (Enrol x)) o e
    by_free e a u free (inl none) = inl (stays e a u none)
    by_free e a u (inl t) (inr b) = inl (stays e a u (but.others e a (marks.kept.marks e u) (ap (λ cs. wants_one cs e) (freed t))))
    by_free e a u (inr f) (inr b) = inr (enrol-blocked w o e x k fits (neither-left (x.student.0 == e.student.0) _ (neither-left (may_open w e (Enrol x)) _ (marks.added e a u))) f b)

pub enrolled-ok : {A E : Type 0} (w v : World) (es : List Waiting) (m n : Marked) (o : Opened) (x : Enrolment) (r : Result A E) → KeptWorld w → Fits w (Enrol x) → IsTrue (list_all (entry_fits w) es)
    → OnOk r (v ≡ changed w (Enrol x)) → OthersBut w es m o → MarksMore (λ e. may_need w (is_noted m.spent e) e (Enrol x)) es m n → (frees_some w x.choice ≡ true → o.courses.items ≡ []) → OnOk r (OthersBut v es n o)
enrolled-ok w v es m n o x (Ok y) k fits fit is but marks freed = subst (λ u. OthersBut u es n o) (sym is) (enrolled-but w es m n o x k fits fit but marks freed)
enrolled-ok w v es m n o x (Err y) k fits fit is but marks freed = tt

-- ---- once all is closed again

closed-freer : (v : World) (rs : List Enrolment) (o : Opened) (e : Waiting) → is_closed_again (record v { roster = rs }) o ≡ true → OpenedSince v rs o e → NoFreer v (record v { roster = rs }) e.student e.want
closed-freer v rs o e closed since = record {
  row = refl;
  held = since.held;
  same = λ y m. record { offering = λ id. refl; credits = refl; meetings = λ s n. refl; overlap = refl };
  wanted = λ c row wanted its.
      let was = since.wanted c row wanted its in
      record {
        row = its;
        credits = refl;
        sections = λ s m. refl;
        cancelled = λ s m h. h;
        reservations = refl;
        found = λ id r h own. h;
        activity = λ r own. refl;
        room = λ id r found own h. room-before id r found h (was.room id r found own h);
        restrictions = refl;
        place = λ level is h. level-before (has_place v level) (has_place w) o.full.items level (both-left _ _ (both-left _ _ closed)) h (was.place level is h);
        unreserved = λ level is h. level-before (has_unreserved v level) (has_unreserved w) o.reserved.items level (both-right (list_all (λ l. not (has_place w l)) o.full.items) _ (both-left _ _ closed)) h (was.unreserved level is h);
      };
}
  where
    w : World
    w = record v { roster = rs }

    level-before : (b : Bool) (test : Level → Bool) (ls : List Level) (level : Level) → list_all (λ l. not (test l)) ls ≡ true → test level ≡ true → (b ≡ true) ⊎ Among ls level → b ≡ true
    level-before b test ls level all h (inl t) = t
    level-before b test ls level all h (inr a) = absurd (not_both (test level) h (not_true (test level) (all-at (λ l. not (test l)) ls all level (member ls level a))))

    room-before : (id : ReservationId) (r : Reservation) → reservation_of v id ≡ Some r → has_room w r ≡ true → (has_room v r ≡ true) ⊎ Among o.used_up.items r.id → has_room v r ≡ true
    room-before id r found h (inl t) = t
    room-before id r found h (inr a) =
        let at = Members.find-member (λ r. r.id.0 == id.0) v.reservations r found in
        let own : reservation_of v r.id ≡ Some r = ap (λ n. reservation_of v (record { 0 = n })) (eqb-true r.id.0 id.0 at.1) ∙ found in
        absurd (not_both (has_room w r) h (sym (ap (λ p. option_map_or (has_room w) p true) own)
        ∙ not_true (option_map_or (has_room w) (reservation_of v r.id) true)
        (all-at (λ i. not (option_map_or (has_room w) (reservation_of v i) true)) o.used_up.items (both-right (list_all (λ l. not (has_place w l)) o.full.items && list_all (λ l. not (has_unreserved w l)) o.reserved.items) _ closed) r.id (member o.used_up.items r.id a))))

closed-none : (w : World) (o : Opened) (e : Waiting) → KeptWorld w → is_closed_again w o ≡ true → e.give ≡ None → WasBlocked w o e → NoMove w e
closed-none w o e k closed give b =
    let now : World = record b.before { roster = w.roster } in
    let away : option_map_or (λ c. not (touches b.before e.want c)) e.give true ≡ true = ap (λ g. option_map_or (λ c. not (touches b.before e.want c)) g true) give in
    subst (λ u. NoMove u e) (sym b.same)
    (plain-no-freer b.before now e b.since.kept (subst KeptWorld b.same k) away away
    (closed-freer b.before w.roster o e (subst (λ u. is_closed_again u o ≡ true) b.same closed) b.since) b.none)

gives-nothing : (o : Opened) (e : Waiting) → wants_one o.courses.items e ≡ true → gives_and_wants o.courses.items e ≡ false → e.give ≡ None
gives-nothing o e wants none =
    let d = Members.any-at (λ (d : CourseId). list_any (λ c. d.0 == c.0) e.want.courses) o.courses.items wants in
    by_give e.give (sym (ap (λ b. is_some e.give && b) d.2) ∙ none-at (λ (d : CourseId). is_some e.give && list_any (λ c. d.0 == c.0) e.want.courses) o.courses.items none d.0 d.1)
  where
    by_give : (give : Option CourseId) → is_some give && true ≡ false → give ≡ None
    by_give None h = refl
    by_give (Some c) h = absurd (not_both true refl h)

-- where no entry gives a course up, nobody is to be marked
pub no-givers : (es : List Waiting) (cs : List CourseId) (m : Marked) → list_any (λ e. is_some e.give) es ≡ false → MarksMore (gives_and_wants cs) es m m
no-givers es cs m none = record {
  kept = all-kept m;
  added = λ e a u. none-of (λ (d : CourseId). is_some e.give && list_any (λ c. d.0 == c.0) e.want.courses) cs (λ d n.
      off-and (is_some e.give) (list_any (λ c. d.0 == c.0) e.want.courses) (none-at (λ (e : Waiting). is_some e.give) es none e (member es e a)));
}

pub shut-but : (w : World) (es : List Waiting) (m n : Marked) (o p : Opened) → KeptWorld w → is_closed_again w o ≡ true → MarksMore (gives_and_wants o.courses.items) es m n → OthersBut w es m o → OthersBut w es n p
shut-but w es m n o p k closed marks but = record { others = λ e a u none. stays e a u; blocked = λ e a u give. inl (stays e a u) }
  where
    stays : (e : Waiting) → Among es e → is_marked n e ≡ false → Needless w (is_noted n.spent e) e
    stays e a u = same-notes w e m n marks.kept (by_want (decide (wants_one o.courses.items e)))
      where
        by_before : e.give ≡ None → Needless w (is_noted m.spent e) e ⊎ WasBlocked w o e → Needless w (is_noted m.spent e) e
        by_before give (inl none) = none
        by_before give (inr b) = inl (closed-none w o e k closed give b)

        by_want : (wants_one o.courses.items e ≡ true) ⊎ (wants_one o.courses.items e ≡ false) → Needless w (is_noted m.spent e) e
        by_want (inl t) = let give = gives-nothing o e t (marks.added e a u) in by_before give (but.blocked e a (marks.kept.marks e u) give)
        by_want (inr f) = but.others e a (marks.kept.marks e u) f

-- ---- falling back, and none opened

pub all-but : (w : World) (es : List Waiting) (m : Marked) (o : Opened) → OthersNeedNoSearch w es m → OthersBut w es m o
all-but w es m o others = record { others = λ e a u none. others e a u; blocked = λ e a u give. inl (others e a u) }

pub fallen-back : (w : World) (es : List Waiting) (m n : Marked) (o : Opened) → MarksMore (wants_one o.courses.items) es m n → OthersBut w es m o → OthersNeedNoSearch w es n
fallen-back w es m n o marks but e a u = same-notes w e m n marks.kept (but.others e a (marks.kept.marks e u) (marks.added e a u))

pub none-but : (w : World) (es : List Waiting) (m : Marked) (o : Opened) → o.courses.items ≡ [] → OthersBut w es m o → OthersNeedNoSearch w es m
none-but w es m o none but e a u = but.others e a u (ap (λ cs. wants_one cs e) none)

pub left-others : (w : World) (q p : Queued) (m : Marked) (o : Opened) (ticket : ℕ) → p ≡ left q ticket → OthersBut w q.entries m o → OthersBut w p.entries m o
left-others w q p m o ticket is but = subst (λ (x : Queued). OthersBut w x.entries m o) (sym is) (record {
  others = λ e a u none. but.others e (among-without q.entries ticket e a) u none;
  blocked = λ e a u give. but.blocked e (among-without q.entries ticket e a) u give;
})

-- the notes of a student's enrolment in the course
pub noted-all : (w : World) (k : KeptWorld w) (student : StudentId) (course : CourseId) (es : List Waiting) (m l n : Marked) (o : Opened) → NotesAll w student course o → Fits w (Leave student course)
    → IsTrue (list_all (entry_fits w) es) → OthersNeedNoSearch w es m → MarksMore (concerns (Some student) None) es m l → MarksMore (is_noted_in l.spent (offering_of w course)) es l n
    → OthersBut (leave w student course) es n o
noted-all w k student course es m l n o notes fits fit others own noted = left-but w k student course notes.0 notes.1 o notes.2 es m l n fits fit others own noted

-- the one enrolment of the student in the course is found among those that it holds
singled : (ys : List Enrolment) (x : Enrolment) → length ys ≡ 1 → Member ys x → ys ≡ x ∷ []
singled [] x one m = absurd m
singled (y ∷ []) x one (inl is) = ap (λ z. z ∷ []) is
singled (y ∷ []) x one (inr m) = absurd m
singled (y ∷ z ∷ zs) x one m = absurd (omega (arith, one))

module _ (w : World) (k : KeptWorld w) (student : StudentId) (course : CourseId) (holding : holds w student course ≡ true) where
  pub found-alone : (x : Enrolment) → find (λ x. x.choice.course.0 == course.0) (held_by w student) ≡ Some x → filter (is_in student course) w.roster ≡ x ∷ []
  found-alone x found =
      let m = Members.find-member (λ (x : Enrolment). x.choice.course.0 == course.0) (held_by w student) x found in
      let n = Members.member-filter (λ (x : Enrolment). x.student.0 == student.0) w.roster x m.0 in
      singled (filter (is_in student course) w.roster) x (held-once w k student course holding) (Members.member-of_filter (is_in student course) w.roster x n.0 (both (x.student.0 == student.0) _ n.1 m.1))

  pub found-some : {P : Type 0} → find (λ x. x.choice.course.0 == course.0) (held_by w student) ≡ None → P
  found-some none =
      let y = Members.any-at (is_in student course) w.roster holding in
      absurd (not_both (is_some (find (λ (x : Enrolment). x.choice.course.0 == course.0) (held_by w student)))
      (Members.find-some (λ (x : Enrolment). x.choice.course.0 == course.0) (held_by w student) y.0
      (Members.member-of_filter (λ (x : Enrolment). x.student.0 == student.0) w.roster y.0 y.1 (both-left _ (y.0.choice.course.0 == course.0) y.2)) (both-right (y.0.student.0 == student.0) _ y.2))
      (ap is_some none))

pub if-ok : {A E : Type 0} {P Q : A → Type 0} (r : Result A E) → ((a : A) → P a → Q a) → IfOk r P → IfOk r Q
if-ok (Ok a) f p = f a p
if-ok (Err e) f p = tt
