-- Marks: what a change may open is marked, and an entry that isn't marked needs no search.
use Rattle.std.specs.Prelude.{◌≡◌, ℕ, zero, suc, ◌<◌, Bool, true, false, not, ◌||◌, ◌&&◌, ◌==◌, cond, List, [], ◌∷◌, ◌++◌, length, filter, Option, Some, None, Result, Ok, Err, OnOk, IsTrue, refl, ◌⊎◌}
use Rattle.std.specs.List.{list_any, list_all}
use Rattle.std.specs.Option.{option_map_or, is_some}
use Rattle.std.specs.Ordering.{nat_cmp, is_eq}
use Rattle.std.specs.BTreeSet.{BTreeSet, contains}
use Rattle.std.proofs.lemmas.Bool.Decides.{nat_tests}
use Rattle.sect_catalog.proofs.SearchLemmas.{any-append}
use Rattle.std.proofs.Common.{sym, ◌∙◌, ap, subst, arith, inl, inr, get_or}
use Rattle.std.proofs.lemmas.Bool.{eq-eqb, eqb-true}
use Rattle.sect_base.specs.Tree.{Tree}
use Rattle.sect_catalog.specs.Catalogue.{has_course}
use Rattle.sect_model.specs.Data.{OfferingRow, StudentId, CourseId, Want}
use Rattle.sect_model.specs.declared.held.Enrolment.{Enrolment}
use Rattle.sect_model.specs.declared.pick.Outcome.{Outcome}
use Rattle.sect_model.specs.declared.held.Waiting.{Waiting}
use Rattle.sect_model.specs.declared.change.Change.{Change}
use Rattle.sect_model.specs.declared.change.Change.TheVariants.{Enrol, Leave}
use Rattle.sect_model.specs.declared.pick.Outcome.TheVariants.{Blocked, Spent}
use Rattle.sect_model.specs.World.{World, leave, offering_of, is_of}
use Rattle.sect_model.specs.Outcome.{outcome_of}
use Rattle.sect_model.specs.Fits.{Fits, changed}
use Rattle.sect_model.specs.Kept.{KeptWorld, entry_fits}
use Rattle.sect_model.specs.Settle.{without, is_placeable, move_of}
use Rattle.sect_model.specs.Freer.{Among, NoMove, may_open, touches, frees_some}
use Rattle.sect_model.proofs.Members
use Rattle.sect_model.proofs.Members.{all-at, neither-left, neither-right, none-of, not_both}
use Rattle.sect_model.proofs.FreerLemmas.{among, member}
use Rattle.sect_model.proofs.FreerIndex.{touches-listed}
use Rattle.sect_model.proofs.FreerSettle.{blocked-no-move}
use Rattle.sect_frame.specs.Frame.{touches_entry}
use Rattle.sect_frame.proofs.NeedLemmas.{spent-needs-none}
use Rattle.sect_model.specs.Settle.{Settled, settle, is_settled, first_entry}
use Rattle.sect_model.proofs.SettleLemmas.{settles, settled-stays, next_entry-none}
use Rattle.sect_wait.specs.declared.entry.Left.{Left}
use Rattle.sect_wait.specs.declared.marks.Turn.{Turn}
use Rattle.sect_wait.specs.Indexed.{has_ticket}
use Rattle.sect_wait.specs.Placing.{IsBest, KeepsListed, RestNeedNone}
use Rattle.sect_wait.specs.Queued.{Queued, state_of}
use Rattle.std.specs.Prelude.{is_err}
use Rattle.sect_wait.specs.Marked.{Marked, no_marks, is_marked, is_noted, is_noted_in, may_need, Needless, OthersNeedNoSearch, MarksMore, concerns, is_from, is_source, wants_one, IsSetOf, IsSetOfCourses}
use Rattle.sect_wait.proofs.NeedLemmas.{neither, needless-stays, needless-unplaced, same-notes, both-kept}

-- ---- entries

pub among-append : (es : List Waiting) (f e : Waiting) → Among (es ++ f ∷ []) e → Among es e ⊎ Among (f ∷ []) e
among-append [] f e h = inr h
among-append (d ∷ es) f e (inl h) = inl (inl h)
among-append (d ∷ es) f e (inr h) = by_rest (among-append es f e h)
  where
    by_rest : Among es e ⊎ Among (f ∷ []) e → Among (d ∷ es) e ⊎ Among (f ∷ []) e
    by_rest (inl i) = inl (inr i)
    by_rest (inr i) = inr i

pub among-get : (es : List Waiting) (i : ℕ) (d : Waiting) → i < length es → Among es (get_or es i d)
among-get [] i d h = absurd (omega (arith, h))
among-get (e ∷ es) zero d h = inl refl
among-get (e ∷ es) (suc i) d h = inr (among-get es i d (omega (arith, h)))

pub among-without : (es : List Waiting) (ticket : ℕ) (e : Waiting) → Among (without es ticket) e → Among es e
among-without es ticket e h = among es e (Members.member-filter (λ f. not (f.ticket == ticket)) es e (member (without es ticket) e h)).0

-- what holds of all entries holds of the one at a place
pub each-at : {P : Waiting → Type 0} (es : List Waiting) (i : ℕ) (e : Waiting) → i < length es → e ≡ get_or es i e → ((f : Waiting) → Among es f → P f) → (f : Waiting) → Among (e ∷ []) f → P f
each-at es i e few at each f (inl h) = each f (subst (Among es) (sym at ∙ h) (among-get es i e few))
each-at es i e few at each f (inr h) = absurd h

pub others-without : (w : World) (es : List Waiting) (m : Marked) (ticket : ℕ) → OthersNeedNoSearch w es m → OthersNeedNoSearch w (without es ticket) m
others-without w es m ticket others e a unmarked = others e (among-without es ticket e a) unmarked

-- ---- one entry

any-more : (ts : List ℕ) (t ticket : ℕ) → list_any (λ s. s == ticket) (ts ++ t ∷ []) ≡ false → list_any (λ s. s == ticket) ts ≡ false
any-more [] t ticket h = refl
any-more (s ∷ ts) t ticket h = neither (s == ticket) (list_any (λ s. s == ticket) ts) (neither-left (s == ticket) _ h) (any-more ts t ticket (neither-right (s == ticket) _ h))

-- marking a ticket takes no mark off
pub mark-kept : (m : Marked) (ticket : ℕ) (e : Waiting) → is_marked (record m { tickets = m.tickets ++ ticket ∷ [] }) e ≡ false → is_marked m e ≡ false
mark-kept m ticket e h =
    neither (list_any (λ s. s == e.ticket) m.tickets) (is_source m e && is_from m.from e) (any-more m.tickets ticket e.ticket (neither-left _ (is_source m e && is_from m.from e) h))
    (neither-right (list_any (λ s. s == e.ticket) (m.tickets ++ ticket ∷ [])) _ h)

any-last : (ts : List ℕ) (t : ℕ) → list_any (λ s. s == t) (ts ++ t ∷ []) ≡ false → ⊥
any-last [] t h = differ (sym (eq-eqb t t refl) ∙ neither-left (t == t) false h)
  where
    differ : true ≡ false → ⊥
    differ e = cc
any-last (s ∷ ts) t h = any-last ts t (neither-right (s == t) _ h)

-- the entry of the ticket is marked
pub mark-marks : {P : Type 0} (m : Marked) (e : Waiting) → is_marked (record m { tickets = m.tickets ++ e.ticket ∷ [] }) e ≡ false → P
mark-marks m e h = absurd (any-last m.tickets e.ticket (neither-left _ (is_source m e && is_from m.from e) h))

-- ---- courses

pub first-off : (a : Bool) → a && true ≡ false → a ≡ false
first-off true h = h
first-off false h = refl

pub off-and : (a b : Bool) → a ≡ false → a && b ≡ false
off-and true b h = absurd (not_both true refl h)
off-and false b h = refl

and-any : {X : Type 0} (g : Bool) (test : X → Bool) (xs : List X) (x : X) → g && list_any test (xs ++ x ∷ []) ≡ false → (g && list_any test xs ≡ false) × (g && test x ≡ false)
and-any true test xs x h =
    let two : list_any test xs || list_any test (x ∷ []) ≡ false = sym (any-append test xs (x ∷ [])) ∙ h in
    (neither-left _ (list_any test (x ∷ [])) two, neither-left (test x) false (neither-right (list_any test xs) _ two))
and-any false test xs x h = (refl, refl)

-- who isn't marked from any turn on is marked by no course
unsourced : (m : Marked) (e : Waiting) → m.from ≡ None → is_marked m e ≡ false → is_source m e ≡ false
unsourced m e none h = first-off (is_source m e) (ap (λ (t : Option Turn). is_source m e && is_from t e) (sym none) ∙ neither-right (list_any (λ s. s == e.ticket) m.tickets) _ h)

pub off-source : (m : Marked) (e : Waiting) → list_any (λ s. s == e.ticket) m.tickets ≡ false → is_source m e ≡ false → is_marked m e ≡ false
off-source m e ticket source = neither (list_any (λ s. s == e.ticket) m.tickets) (is_source m e && is_from m.from e) ticket (off-and (is_source m e) (is_from m.from e) source)

-- a course more is marked for all
pub course-marks : (m n : Marked) (course : CourseId) (es : List Waiting) → n ≡ record m { courses = m.courses ++ course ∷ []; from = None } → MarksMore (λ e. list_any (λ c. course.0 == c.0) e.want.courses) es m n
course-marks m n course es is = record { kept = record { marks = λ e h. (off e h).0; spent = ap (λ (x : Marked). x.spent) is }; added = λ e a h. (off e h).1 }
  where
    off : (e : Waiting) → is_marked n e ≡ false → (is_marked m e ≡ false) × (list_any (λ c. course.0 == c.0) e.want.courses ≡ false)
    off e h =
        let k : Marked = record m { courses = m.courses ++ course ∷ []; from = None } in
        let u : is_marked k e ≡ false = ap (λ x. is_marked x e) (sym is) ∙ h in
        let source : (m.all || wants_one (m.courses ++ course ∷ []) e) || (is_some e.give && wants_one m.givers e) ≡ false = unsourced k e refl u in
        let wanted : m.all || wants_one (m.courses ++ course ∷ []) e ≡ false = neither-left (m.all || wants_one (m.courses ++ course ∷ []) e) _ source in
        let two = and-any true (λ (d : CourseId). list_any (λ (c : CourseId). d.0 == c.0) e.want.courses) m.courses course (neither-right m.all _ wanted) in (
          off-source m e (neither-left (list_any (λ s. s == e.ticket) m.tickets) _ u)
              (neither (m.all || wants_one m.courses e) (is_some e.give && wants_one m.givers e) (neither m.all (wants_one m.courses e) (neither-left m.all _ wanted) two.0) (neither-right (m.all || wants_one (m.courses ++ course ∷ []) e) _ source)),
          two.1,
        )

-- a course more is marked for those who give one up
pub giver-marks : (m n : Marked) (course : CourseId) (es : List Waiting) → n ≡ record m { givers = m.givers ++ course ∷ []; from = None } → MarksMore (λ e. is_some e.give && list_any (λ c. course.0 == c.0) e.want.courses) es m n
giver-marks m n course es is = record { kept = record { marks = λ e h. (off e h).0; spent = ap (λ (x : Marked). x.spent) is }; added = λ e a h. (off e h).1 }
  where
    off : (e : Waiting) → is_marked n e ≡ false → (is_marked m e ≡ false) × (is_some e.give && list_any (λ c. course.0 == c.0) e.want.courses ≡ false)
    off e h =
        let k : Marked = record m { givers = m.givers ++ course ∷ []; from = None } in
        let u : is_marked k e ≡ false = ap (λ x. is_marked x e) (sym is) ∙ h in
        let source : (m.all || wants_one m.courses e) || (is_some e.give && wants_one (m.givers ++ course ∷ []) e) ≡ false = unsourced k e refl u in
        let two = and-any (is_some e.give) (λ (d : CourseId). list_any (λ (c : CourseId). d.0 == c.0) e.want.courses) m.givers course (neither-right (m.all || wants_one m.courses e) _ source) in (
          off-source m e (neither-left (list_any (λ s. s == e.ticket) m.tickets) _ u)
              (neither (m.all || wants_one m.courses e) (is_some e.give && wants_one m.givers e) (neither-left (m.all || wants_one m.courses e) _ source) two.0),
          two.1,
        )

-- a blocked search tells that the entry has no move
pub blocked-rest : (w : World) (e : Waiting) (left : Left) (o : Outcome) (tree : Tree) (visits : ℕ) → KeptWorld w → IsTrue (entry_fits w e)
    → o ≡ outcome_of w (move_of w e) 2000 → o ≡ Blocked tree visits → RestNeedNone w (e ∷ []) left
blocked-rest w e left o tree visits k fits is blocked f (inl h) unlisted = inl (subst (NoMove w) h (blocked-no-move w e visits tree k fits (sym is ∙ blocked)))
blocked-rest w e left o tree visits k fits is blocked f (inr h) unlisted = absurd h

-- a spent search tells that the entry needs no other one
pub spent-rest : (w : World) (e : Waiting) (left : Left) (before : List ℕ) (o : Outcome) (visits : ℕ) → left.spent.items ≡ before ++ e.ticket ∷ []
    → o ≡ outcome_of w (move_of w e) 2000 → o ≡ Spent visits → RestNeedNone w (e ∷ []) left
spent-rest w e left before o visits noted is spent f (inl h) unlisted = subst (λ x. Needless w (is_noted left.spent.items x) x) h (inr (own (has_ticket e.ticket left.spent.items) refl, spent-needs-none w e visits (sym is ∙ spent)))
  where
    own : (b : Bool) → has_ticket e.ticket left.spent.items ≡ b → b ≡ true
    own true has = refl
    own false has = absurd (any-last before e.ticket (ap (has_ticket e.ticket) (sym noted) ∙ has))
spent-rest w e left before o visits noted is spent f (inr h) unlisted = absurd h

-- an entry that is left to be tried again isn't one of the rest
pub again-rest : (w : World) (e : Waiting) (left : Left) (before : List ℕ) → left.again.items ≡ before ++ e.ticket ∷ [] → RestNeedNone w (e ∷ []) left
again-rest w e left before is f (inl h) unlisted = absurd (any-last before e.ticket (ap (λ ts. has_ticket e.ticket ts) (sym is) ∙ ap (λ (x : Waiting). has_ticket x.ticket left.again.items) h ∙ unlisted))
again-rest w e left before is f (inr h) unlisted = absurd h

pub listed-keeps : (before after : List ℕ) (ticket : ℕ) → after ≡ before ++ ticket ∷ [] → KeepsListed before after
listed-keeps before after ticket is t h = any-more before ticket t (ap (has_ticket t) (sym is) ∙ h)

pub same-keeps : (before after : List ℕ) → after ≡ before → KeepsListed before after
same-keeps before after is t h = ap (has_ticket t) (sym is) ∙ h

-- ---- changes

-- a want touches a course where it lists a course of its offering
pub touches-row : (w : World) (want : Want) (course : CourseId) (o : Option OfferingRow) → KeptWorld w → offering_of w course ≡ o
    → touches w want course ≡ option_map_or (λ o. list_any (has_course o) want.courses) o false
touches-row w want course (Some o) k its = touches-listed w want course o k its
touches-row w want course None k its =
    none-of (λ c. option_map_or (λ o. is_of w o.id course) (offering_of w c) false) want.courses (λ c m. by_row (offering_of w c))
  where
    by_row : (x : Option OfferingRow) → option_map_or (λ o. is_of w o.id course) x false ≡ false
    by_row None = refl
    by_row (Some x) = ap (λ y. option_map_or (λ z. z.id.0 == x.id.0) y false) its

pub leave-concerns : (w : World) (student : StudentId) (course : CourseId) (e : Waiting) → KeptWorld w → concerns (Some student) (offering_of w course) e ≡ false
    → may_open w e (Leave student course) ≡ false
leave-concerns w student course e k h =
    neither (student.0 == e.student.0) (touches w e.want course) (neither-left (student.0 == e.student.0) _ h)
    (touches-row w e.want course (offering_of w course) k refl ∙ neither-right (student.0 == e.student.0) _ h)

enrol-concerns : (w : World) (x : Enrolment) (e : Waiting) → KeptWorld w → concerns (Some x.student) (cond (frees_some w x.choice) (offering_of w x.choice.course) None) e ≡ false
    → may_open w e (Enrol x) ≡ false
enrol-concerns w x e k h =
    neither (x.student.0 == e.student.0) (touches w e.want x.choice.course && frees_some w x.choice) (neither-left (x.student.0 == e.student.0) _ h)
    (by_frees (frees_some w x.choice) (neither-right (x.student.0 == e.student.0) _ h))
  where
    and_false : (b : Bool) → b && false ≡ false
    and_false true = refl
    and_false false = refl

    and_none : (b c : Bool) → b ≡ false → b && c ≡ false
    and_none true c h = cc
    and_none false c h = refl

    by_frees : (f : Bool) → option_map_or (λ o. list_any (has_course o) e.want.courses) (cond f (offering_of w x.choice.course) None) false ≡ false
        → touches w e.want x.choice.course && f ≡ false
    by_frees true h = and_none (touches w e.want x.choice.course) true (touches-row w e.want x.choice.course (offering_of w x.choice.course) k refl ∙ h)
    by_frees false h = and_false (touches w e.want x.choice.course)

pub more-test : (test more : Waiting → Bool) (es : List Waiting) (m n : Marked) → ((e : Waiting) → more e ≡ false → test e ≡ false) → MarksMore more es m n → MarksMore test es m n
more-test test more es m n h marks = record { kept = marks.kept; added = λ e a unmarked. h e (marks.added e a unmarked) }

pub on-ok : {A E P Q : Type 0} (r : Result A E) → (P → Q) → OnOk r P → OnOk r Q
on-ok (Ok x) f p = f p
on-ok (Err x) f p = tt

pub leave-marks : {A E : Type 0} (w : World) (es : List Waiting) (student : StudentId) (course : CourseId) (o : Option OfferingRow) (m n : Marked) (r : Result A E) → KeptWorld w
    → o ≡ offering_of w course → OnOk r (MarksMore (concerns (Some student) o) es m n) → OnOk r (MarksMore (λ e. may_open w e (Leave student course)) es m n)
leave-marks w es student course o m n r k its marks =
    on-ok r (more-test (λ e. may_open w e (Leave student course)) (concerns (Some student) (offering_of w course)) es m n (λ e h. leave-concerns w student course e k h))
    (subst (λ x. OnOk r (MarksMore (concerns (Some student) x) es m n)) its marks)

-- where no entry is noted, none is marked for that
pub none-noted : (row : Option OfferingRow) (es : List Waiting) (m : Marked) → true ≡ (length m.spent == 0) → MarksMore (is_noted_in m.spent row) es m m
none-noted row es m none = record { kept = record { marks = λ e h. h; spent = refl }; added = λ e a u. by_list e m.spent none }
  where
    by_list : (e : Waiting) (spent : List ℕ) → true ≡ (length spent == 0) → is_noted_in spent row e ≡ false
    by_list e [] h = refl
    by_list e (x ∷ xs) h = let same : length (x ∷ xs) ≡ 0 = eqb-true (length (x ∷ xs)) 0 (sym h) in absurd (omega (arith, same))

-- whom an enrolment may give a move is marked, and of those noted as spent whom it touches
pub enrol-marks : {A E : Type 0} (w : World) (es : List Waiting) (x : Enrolment) (o p : Option OfferingRow) (m l n : Marked) (r : Result A E) → KeptWorld w
    → o ≡ cond (frees_some w x.choice) (offering_of w x.choice.course) None → p ≡ offering_of w x.choice.course → MarksMore (concerns (Some x.student) o) es m l → OnOk r (MarksMore (is_noted_in l.spent p) es l n)
    → OnOk r (MarksMore (λ e. may_need w (is_noted m.spent e) e (Enrol x)) es m n)
enrol-marks w es x o p m l n r k its all first marks = on-ok r join marks
  where
    touched : (e : Waiting) (b : Bool) → b && option_map_or (λ o. list_any (has_course o) e.want.courses) (offering_of w x.choice.course) false ≡ false → x.student.0 == e.student.0 ≡ false
        → b && (x.student.0 == e.student.0 || touches w e.want x.choice.course) ≡ false
    touched e true h unlike = neither (x.student.0 == e.student.0) (touches w e.want x.choice.course) unlike (touches-row w e.want x.choice.course (offering_of w x.choice.course) k refl ∙ h)
    touched e false h unlike = refl

    join : MarksMore (is_noted_in l.spent p) es l n → MarksMore (λ e. may_need w (is_noted m.spent e) e (Enrol x)) es m n
    join second = record {
      kept = both-kept m l n first.kept second.kept;
      added = λ e a u.
          let c : concerns (Some x.student) (cond (frees_some w x.choice) (offering_of w x.choice.course) None) e ≡ false = ap (λ y. concerns (Some x.student) y e) (sym its) ∙ first.added e a (second.kept.marks e u) in
          neither (may_open w e (Enrol x)) (is_noted m.spent e && touches_entry w e (Enrol x)) (enrol-concerns w x e k c)
          (touched e (is_noted m.spent e)
          ((λ i. is_noted (sym first.kept.spent i) e && concerns None (sym all i) e) ∙ second.added e a u)
          (neither-left (x.student.0 == e.student.0) _ c));
    }

-- once what a change may open or touches is marked, the others need no search after it
pub changed-others : (w v : World) (es : List Waiting) (m n : Marked) (change : Change) → KeptWorld w → Fits w change → IsTrue (list_all (entry_fits w) es)
    → v ≡ changed w change → OthersNeedNoSearch w es m → MarksMore (λ e. may_need w (is_noted m.spent e) e change) es m n → OthersNeedNoSearch v es n
changed-others w v es m n change k fits fit is others marks e a unmarked =
    subst (λ u. Needless u (is_noted n.spent e) e) (sym is)
    (same-notes (changed w change) e m n marks.kept
    (needless-stays w e (is_noted m.spent e) change k fits (all-at (entry_fits w) es fit e (member es e a)) (marks.added e a unmarked) (others e a (marks.kept.marks e unmarked))))

pub made-others : {A E : Type 0} (w v : World) (es : List Waiting) (m n : Marked) (change : Change) (r : Result A E) → KeptWorld w → Fits w change
    → IsTrue (list_all (entry_fits w) es) → OnOk r (v ≡ changed w change) → OthersNeedNoSearch w es m → MarksMore (λ e. may_need w (is_noted m.spent e) e change) es m n
    → OnOk r (OthersNeedNoSearch v es n)
made-others w v es m n change (Ok x) k fits fit is others marks = changed-others w v es m n change k fits fit is others marks
made-others w v es m n change (Err x) k fits fit is others marks = tt

-- ---- settling

pub none-left : (w : World) (es : List Waiting) → ((e : Waiting) → Among es e → is_placeable w e ≡ false) → filter (is_placeable w) es ≡ []
none-left w [] h = refl
none-left w (e ∷ es) h = (λ i. cond (h e (inl refl) i) (e ∷ filter (is_placeable w) es) (filter (is_placeable w) es)) ∙ none-left w es (λ f a. h f (inr a))

none-marked : (e : Waiting) (b : Bool) → (b && false) && true ≡ false
none-marked e true = refl
none-marked e false = refl

-- where nobody is marked, nobody is placed
pub unmarked-none : (w : World) (es : List Waiting) (m : Marked) → m ≡ no_marks m.spent → OthersNeedNoSearch w es m → IsBest w es None
unmarked-none w es m none others =
    ap first_entry (none-left w es (λ e a. needless-unplaced w e (is_noted m.spent e) (others e a (ap (λ x. is_marked x e) none ∙ none-marked e (is_some e.give)))))

pub unmarked-settled : (w : World) (q : Queued) (m : Marked) → m ≡ no_marks m.spent → OthersNeedNoSearch w q.entries m
    → settle (state_of w q) ≡ record { state = state_of w q; placed = [] }
unmarked-settled w q m none others = settled-stays (state_of w q) (next_entry-none (state_of w q) (unmarked-none w q.entries m none others))

pub unmarked-rests : (w : World) (q : Queued) (m : Marked) → m ≡ no_marks m.spent → OthersNeedNoSearch w q.entries m → IsTrue (is_settled (state_of w q))
unmarked-rests w q m none others = subst (λ u. IsTrue (is_settled u)) (ap (λ (x : Settled). x.state) (unmarked-settled w q m none others)) (settles (state_of w q))

-- where all are marked, there are no others
pub all-others : (w : World) (es : List Waiting) (m n : Marked) → n ≡ record m { all = true; from = None } → OthersNeedNoSearch w es n
all-others w es m n is e a h = absurd (not_both true refl (neither-right (list_any (λ s. s == e.ticket) m.tickets) true (ap (λ x. is_marked x e) (sym is) ∙ h)))

pub ok-of : {A E P : Type 0} (r : Result A E) → is_err r ≡ false → OnOk r P → P
ok-of (Ok x) h p = p
ok-of (Err x) h p = cc

-- the entries fit where a student left
pub left-fit : {A E : Type 0} (w v : World) (es : List Waiting) (student : StudentId) (course : CourseId) (r : Result A E) → OnOk r (v ≡ leave w student course) → IsTrue (list_all (entry_fits w) es)
    → OnOk r (IsTrue (list_all (entry_fits v) es))
left-fit w v es student course (Ok x) is fit = subst (λ u. IsTrue (list_all (entry_fits u) es)) (sym is) fit
left-fit w v es student course (Err x) is fit = tt

-- ---- the set of the tickets

same_order : (a b : ℕ) → is_eq (nat_cmp a b) ≡ (a == b)
same_order a b = grind (arith, nat_tests)

-- the set of the keys has that of one element more
key-more : {X : Type 0} (key : X → ℕ) (xs : List X) (x : X) (old new : BTreeSet ℕ) → ((q : ℕ) → contains nat_cmp old q ≡ list_any (λ y. key y == q) xs)
    → ((q : ℕ) → contains nat_cmp new q ≡ cond (is_eq (nat_cmp (key x) q)) true (contains nat_cmp old q)) → (q : ℕ) → contains nat_cmp new q ≡ list_any (λ y. key y == q) (xs ++ x ∷ [])
key-more key xs x old new has after q =
    after q ∙ (λ i. cond (same_order (key x) q i) true (has q i)) ∙ by_test (key x == q) (list_any (λ y. key y == q) xs) ∙ sym (any-append (λ y. key y == q) xs (x ∷ []))
  where
    by_test : (b a : Bool) → cond b true a ≡ a || (b || false)
    by_test true true = refl
    by_test true false = refl
    by_test false true = refl
    by_test false false = refl

-- the set has one ticket more
pub set-more : (ts : List ℕ) (ticket : ℕ) (old new : BTreeSet ℕ) → IsSetOf ts old
    → ((q : ℕ) → contains nat_cmp new q ≡ cond (is_eq (nat_cmp ticket q)) true (contains nat_cmp old q)) → IsSetOf (ts ++ ticket ∷ []) new
set-more ts ticket old new k after = record { has = key-more (λ t. t) ts ticket old new k.has after }

-- and one course more
pub courses-more : (cs : List CourseId) (course : CourseId) (old new : BTreeSet ℕ) → IsSetOfCourses cs old
    → ((q : ℕ) → contains nat_cmp new q ≡ cond (is_eq (nat_cmp course.0 q)) true (contains nat_cmp old q)) → IsSetOfCourses (cs ++ course ∷ []) new
courses-more cs course old new k after = record { has = key-more (λ c. c.0) cs course old new k.has after }

-- whether one of these is one of those, whichever are gone through first
pub one-of-both : (cs ds : List CourseId) → list_any (λ c. list_any (λ d. d.0 == c.0) ds) cs ≡ list_any (λ d. list_any (λ c. d.0 == c.0) cs) ds
one-of-both cs ds = Members.same_test (list_any (λ c. list_any (λ d. d.0 == c.0) ds) cs) (list_any (λ d. list_any (λ c. d.0 == c.0) cs) ds) there back
  where
    there : list_any (λ c. list_any (λ d. d.0 == c.0) ds) cs ≡ true → list_any (λ d. list_any (λ c. d.0 == c.0) cs) ds ≡ true
    there h =
        let c = Members.any-at (λ (c : CourseId). list_any (λ d. d.0 == c.0) ds) cs h in
        let d = Members.any-at (λ (d : CourseId). d.0 == c.0.0) ds c.2 in
        Members.any-of (λ (d : CourseId). list_any (λ c. d.0 == c.0) cs) ds d.0 d.1 (Members.any-of (λ (c : CourseId). d.0.0 == c.0) cs c.0 c.1 d.2)

    back : list_any (λ d. list_any (λ c. d.0 == c.0) cs) ds ≡ true → list_any (λ c. list_any (λ d. d.0 == c.0) ds) cs ≡ true
    back h =
        let d = Members.any-at (λ (d : CourseId). list_any (λ c. d.0 == c.0) cs) ds h in
        let c = Members.any-at (λ (c : CourseId). d.0.0 == c.0) cs d.2 in
        Members.any-of (λ (c : CourseId). list_any (λ d. d.0 == c.0) ds) cs c.0 c.1 (Members.any-of (λ (d : CourseId). d.0 == c.0.0) ds d.0 d.1 c.2)
