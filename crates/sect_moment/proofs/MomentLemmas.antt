-- What is counted at a path: what was counted before, less what leaves, and what was made.
use Rattle.std.specs.Prelude.{◌≡◌, ℕ, ◌+◌, ◌≤◌, Bool, true, false, not, ◌&&◌, ◌||◌, ◌==◌, nat_le, cond, List, [], ◌∷◌, ◌++◌, length, map, filter, count_by, refl}
use Rattle.std.specs.List.{list_any, list_all}
use Rattle.std.proofs.Common.{sym, ◌∙◌, ap, arith, append_assoc}
use Rattle.std.proofs.lemmas.Bool.{eq-eqb}
use Rattle.std.proofs.lemmas.Bool.Decides.{nat_tests}
use Rattle.std.proofs.lemmas.List.Sums.{length-filter}
use Rattle.sect_base.specs.declared.limit.Level.TheVariants.{Course, Offering, Config, Section}
use Rattle.sect_model.specs.Data.{StudentId, CourseId, ReservationId, Choice, Level, Move}
use Rattle.sect_model.specs.declared.held.Enrolment.{Enrolment}
use Rattle.sect_model.specs.World.{World, is_in, held_by, insert_enrolment, enrol, enrol_all, leave, leave_all}
use Rattle.sect_model.specs.Counts.{is_at, count_of, used_of}
use Rattle.sect_model.specs.Kept.{is_ordered}
use Rattle.sect_model.specs.Path.{Path}
use Rattle.sect_model.specs.Rules.{world_at}
use Rattle.sect_model.proofs.Members.{both-left, both-right, filter-filter, filter-same, member-filter}
use Rattle.sect_model.proofs.RosterLemmas.{count-insert, ordered-insert, ordered-filter}
use Rattle.sect_model.proofs.TurnLemmas.{not-or, any-append}
use Rattle.sect_model.proofs.ListLemmas.{any-filter-both}
use Rattle.sect_moment.specs.Moment.{is_given, is_left, enrolment, with_made, moved_roster, moved, counts_at, uses}
use Rattle.sect_moment.proofs.NthLemmas.{filter-both}

-- ---- the world at a path

filter-all : {X : Type 0} (xs : List X) → filter (λ x. true) xs ≡ xs
filter-all [] = refl
filter-all (x ∷ xs) = ap (λ ys. x ∷ ys) (filter-all xs)

leave-roster : (st : StudentId) (give : List CourseId) (w : World) → leave_all w st give ≡ record w { roster = filter (λ e. not (is_left st give e)) w.roster }
leave-roster st [] w = λ i. record w { roster = sym (filter-all w.roster) i }
leave-roster st (c ∷ cs) w =
    leave-roster st cs (leave w st c)
    ∙ (λ i. record w {
      roster = (sym (filter-both (λ e. not (is_in st c e)) (λ e. not (is_left st cs e)) w.roster)
          ∙ (λ j. filter (λ e. sym (not-or (is_in st c e) (is_left st cs e)) j) w.roster)) i;
    })

enrol-roster : (st : StudentId) (cs : List Choice) (w : World) → enrol_all w st cs ≡ record w { roster = with_made st cs w.roster }
enrol-roster st [] w = refl
enrol-roster st (c ∷ cs) w = enrol-roster st cs (enrol w st c)

pub world-moved : (w : World) (mv : Move) (p : Path) → world_at w mv p ≡ moved w mv.student mv.give p.done
world-moved w mv p =
    (λ i. enrol_all (leave-roster mv.student mv.give w i) mv.student p.done)
    ∙ enrol-roster mv.student p.done (record w { roster = filter (λ e. not (is_left mv.student mv.give e)) w.roster })

-- ---- counts

count-made : (p : Enrolment → Bool) (st : StudentId) (cs : List Choice) (es : List Enrolment)
    → length (filter p (with_made st cs es)) ≡ length (filter p es) + length (filter (λ c. p (enrolment st c)) cs)
count-made p st [] es = omega arith
count-made p st (c ∷ cs) es =
    count-made p st cs (insert_enrolment (enrolment st c) es) ∙ by_test (p (enrolment st c)) (count-insert p (enrolment st c) es)
  where
    by_test : (b : Bool) → length (filter p (insert_enrolment (enrolment st c) es)) ≡ cond b 1 0 + length (filter p es)
        → length (filter p (insert_enrolment (enrolment st c) es)) + length (filter (λ c. p (enrolment st c)) cs)
        ≡ length (filter p es) + length (cond b (c ∷ filter (λ c. p (enrolment st c)) cs) (filter (λ c. p (enrolment st c)) cs))
    by_test true e = omega (arith, e)
    by_test false e = omega (arith, e)

-- what passes and stays, and what passes and leaves
count-split : {X : Type 0} (p q : X → Bool) (xs : List X) → length (filter p (filter (λ x. not (q x)) xs)) + length (filter (λ x. q x && p x) xs) ≡ length (filter p xs)
count-split p q [] = refl
count-split {X = X} p q (x ∷ xs) = by_test (q x) (p x) refl (count-split p q xs)
  where
    by_test : (a b : Bool) → p x ≡ b → length (filter p (filter (λ x. not (q x)) xs)) + length (filter (λ x. q x && p x) xs) ≡ length (filter p xs)
        → length (filter p (cond (not a) (x ∷ filter (λ x. not (q x)) xs) (filter (λ x. not (q x)) xs))) + length (cond (a && b) (x ∷ filter (λ x. q x && p x) xs) (filter (λ x. q x && p x) xs))
        ≡ length (cond b (x ∷ filter p xs) (filter p xs))
    by_test true true e ih = omega (arith, ih)
    by_test true false e ih = ih
    by_test false true e ih = (λ i. length (cond (e i) (x ∷ filter p (filter (λ x. not (q x)) xs)) (filter p (filter (λ x. not (q x)) xs))) + length (filter (λ x. q x && p x) xs)) ∙ omega (arith, ih)
    by_test false false e ih = (λ i. length (cond (e i) (x ∷ filter p (filter (λ x. not (q x)) xs)) (filter p (filter (λ x. not (q x)) xs))) + length (filter (λ x. q x && p x) xs)) ∙ ih

any-beside : {X : Type 0} (a : Bool) (f : X → Bool) (xs : List X) → list_any (λ x. a && f x) xs ≡ a && list_any f xs
any-beside true f xs = refl
any-beside false f [] = refl
any-beside false f (x ∷ xs) = any-beside false f xs

abbrev own : StudentId → Enrolment → Bool
own st e = e.student.0 == st.0

left-own : (st : StudentId) (give : List CourseId) (e : Enrolment) → is_left st give e ≡ own st e && is_given give e.choice.course
left-own st give e = any-beside (own st e) (λ c. e.choice.course.0 == c.0) give

and-assoc : (a b c : Bool) → (a && b) && c ≡ a && (b && c)
and-assoc true b c = refl
and-assoc false b c = refl

-- what leaves is among what the student holds
filter-left : (p : Choice → Bool) (st : StudentId) (give : List CourseId) (es : List Enrolment)
    → filter (λ e. is_left st give e && p e.choice) es ≡ filter (λ e. is_given give e.choice.course && p e.choice) (filter (own st) es)
filter-left p st give es =
    (λ i. filter (λ e. (ap (λ b. b && p e.choice) (left-own st give e) ∙ and-assoc (own st e) (is_given give e.choice.course) (p e.choice)) i) es)
    ∙ filter-both (own st) (λ e. is_given give e.choice.course && p e.choice) es

moved-count : (p : Choice → Bool) (st : StudentId) (give : List CourseId) (done : List Choice) (es : List Enrolment)
    → length (filter (λ e. p e.choice) (moved_roster st give done es)) + length (filter (λ e. is_given give e.choice.course && p e.choice) (filter (own st) es))
    ≡ length (filter (λ e. p e.choice) es) + length (filter p done)
moved-count p st give done es =
    let m = count-made (λ e. p e.choice) st done (filter (λ e. not (is_left st give e)) es) in
    let s = count-split (λ e. p e.choice) (is_left st give) es in
    let f = ap length (filter-left p st give es) in
    omega (arith, m, s, f)

pub left-few : (p : Choice → Bool) (st : StudentId) (give : List CourseId) (es : List Enrolment)
    → count_by (λ e. is_given give e.choice.course && p e.choice) (filter (own st) es) ≤ length (filter (λ e. p e.choice) es)
left-few p st give es =
    let s = count-split (λ e. p e.choice) (is_left st give) es in
    let f = ap length (filter-left p st give es) in
    omega (arith, s, f, length-filter (λ e. is_given give e.choice.course && p e.choice) (filter (own st) es))

at-counts : (w : World) (st : StudentId) (give : List CourseId) (done : List Choice) (level : Level) (e : Enrolment) → is_at (moved w st give done) level e ≡ counts_at w level e.choice
at-counts w st give done (Course id) e = refl
at-counts w st give done (Offering id) e = refl
at-counts w st give done (Config id) e = refl
at-counts w st give done (Section id) e = refl

at-counted : (w : World) (level : Level) (e : Enrolment) → is_at w level e ≡ counts_at w level e.choice
at-counted w (Course id) e = refl
at-counted w (Offering id) e = refl
at-counted w (Config id) e = refl
at-counted w (Section id) e = refl

pub count-by-choice : (w : World) (level : Level) → count_of w level ≡ length (filter (λ e. counts_at w level e.choice) w.roster)
count-by-choice w level = λ i. length (filter (λ e. at-counted w level e i) w.roster)

pub count-moved : (w : World) (st : StudentId) (give : List CourseId) (done : List Choice) (level : Level)
    → count_of (moved w st give done) level + count_by (λ e. is_given give e.choice.course && counts_at w level e.choice) (held_by w st) ≡ count_of w level + count_by (counts_at w level) done
count-moved w st give done level =
    let a : count_of (moved w st give done) level ≡ length (filter (λ e. counts_at w level e.choice) (moved_roster st give done w.roster))
    = λ i. length (filter (λ e. at-counts w st give done level e i) (moved_roster st give done w.roster)) in
    let m = moved-count (counts_at w level) st give done w.roster in
    omega (arith, a, m, count-by-choice w level, length-filter (λ e. is_given give e.choice.course && counts_at w level e.choice) (held_by w st), length-filter (counts_at w level) done)

pub used-moved : (w : World) (st : StudentId) (give : List CourseId) (done : List Choice) (id : ReservationId)
    → used_of (moved w st give done) id + count_by (λ e. is_given give e.choice.course && uses id e.choice) (held_by w st) ≡ used_of w id + count_by (uses id) done
used-moved w st give done id =
    let m = moved-count (uses id) st give done w.roster in
    omega (arith, m, length-filter (λ e. is_given give e.choice.course && uses id e.choice) (held_by w st), length-filter (uses id) done)

-- ---- what the student holds

own-none : (st : StudentId) (n : ℕ) (es : List Enrolment) → nat_le n st.0 ≡ false → list_all (λ f. nat_le n f.student.0) es ≡ true → filter (own st) es ≡ []
own-none st n [] low h = refl
own-none st n (e ∷ es) low h =
    (λ i. cond (other (both-left (nat_le n e.student.0) _ h) i) (e ∷ filter (own st) es) (filter (own st) es)) ∙ own-none st n es low (both-right (nat_le n e.student.0) _ h)
  where
    other : nat_le n e.student.0 ≡ true → e.student.0 == st.0 ≡ false
    other k = grind (arith, nat_tests, k, low)

own-insert : (st : StudentId) (c : Choice) (es : List Enrolment) → is_ordered es ≡ true → filter (own st) (insert_enrolment (enrolment st c) es) ≡ filter (own st) es ++ enrolment st c ∷ []
own-insert st c [] h = λ i. cond (eq-eqb st.0 st.0 refl i) (enrolment st c ∷ []) []
own-insert st c (x ∷ xs) h = by_test (own-insert st c xs (both-right (list_all (λ f. nat_le x.student.0 f.student.0) xs) _ h)) (nat_le x.student.0 st.0) refl
  where
    same : nat_le x.student.0 x.student.0 ≡ true
    same = grind (arith, nat_tests)

    split : (b : Bool) → filter (own st) (insert_enrolment (enrolment st c) xs) ≡ filter (own st) xs ++ enrolment st c ∷ []
        → cond b (x ∷ filter (own st) (insert_enrolment (enrolment st c) xs)) (filter (own st) (insert_enrolment (enrolment st c) xs)) ≡ cond b (x ∷ filter (own st) xs) (filter (own st) xs) ++ enrolment st c ∷ []
    split true ih = ap (λ ys. x ∷ ys) ih
    split false ih = ih

    by_test : filter (own st) (insert_enrolment (enrolment st c) xs) ≡ filter (own st) xs ++ enrolment st c ∷ []
        → (b : Bool) → nat_le x.student.0 st.0 ≡ b
        → filter (own st) (cond b (x ∷ insert_enrolment (enrolment st c) xs) (enrolment st c ∷ x ∷ xs)) ≡ filter (own st) (x ∷ xs) ++ enrolment st c ∷ []
    by_test ih true e = split (own st x) ih
    by_test ih false e =
        let none : filter (own st) (x ∷ xs) ≡ [] = own-none st x.student.0 (x ∷ xs) e (both_all h) in
        (λ i. cond (eq-eqb st.0 st.0 refl i) (enrolment st c ∷ none i) (none i)) ∙ (λ i. sym none i ++ enrolment st c ∷ [])
      where
        both_all : list_all (λ f. nat_le x.student.0 f.student.0) xs && is_ordered xs ≡ true → list_all (λ f. nat_le x.student.0 f.student.0) (x ∷ xs) ≡ true
        both_all k = λ i. same i && both-left (list_all (λ f. nat_le x.student.0 f.student.0) xs) _ k i

held-made : (st : StudentId) (cs : List Choice) (es : List Enrolment) → is_ordered es ≡ true → filter (own st) (with_made st cs es) ≡ filter (own st) es ++ map (enrolment st) cs
held-made st [] es h = sym (append-none (filter (own st) es))
  where
    append-none : {X : Type 0} (xs : List X) → xs ++ [] ≡ xs
    append-none [] = refl
    append-none (x ∷ xs) = ap (λ ys. x ∷ ys) (append-none xs)
held-made st (c ∷ cs) es h =
    held-made st cs (insert_enrolment (enrolment st c) es) (ordered-insert (enrolment st c) es h)
    ∙ ap (λ xs. xs ++ map (enrolment st) cs) (own-insert st c es h)
    ∙ append_assoc (filter (own st) es) (enrolment st c ∷ []) (map (enrolment st) cs)

held-kept : (st : StudentId) (give : List CourseId) (es : List Enrolment)
    → filter (own st) (filter (λ e. not (is_left st give e)) es) ≡ filter (λ e. not (is_given give e.choice.course)) (filter (own st) es)
held-kept st give es =
    filter-filter (own st) (λ e. not (is_left st give e)) es
    ∙ filter-same (λ e. not (is_left st give e)) (λ e. not (is_given give e.choice.course)) (filter (own st) es)
    (λ e m. ap not (left-own st give e ∙ ap (λ b. b && is_given give e.choice.course) (member-filter (own st) es e m).1))

-- the enrolments that stay, and then those made
pub held-moved : (w : World) (st : StudentId) (give : List CourseId) (done : List Choice) → is_ordered w.roster ≡ true
    → held_by (moved w st give done) st ≡ filter (λ e. not (is_given give e.choice.course)) (held_by w st) ++ map (enrolment st) done
held-moved w st give done h =
    held-made st done (filter (λ e. not (is_left st give e)) w.roster) (ordered-filter (λ e. e.student.0) (λ e. not (is_left st give e)) w.roster h)
    ∙ ap (λ xs. xs ++ map (enrolment st) done) (held-kept st give w.roster)

any-map : {X Y : Type 0} (f : X → Y) (test : Y → Bool) (xs : List X) → list_any test (map f xs) ≡ list_any (λ x. test (f x)) xs
any-map f test [] = refl
any-map f test (x ∷ xs) = λ i. test (f x) || any-map f test xs i

pub any-moved : (p : Choice → Bool) (st : StudentId) (give : List CourseId) (held : List Enrolment) (done : List Choice)
    → list_any (λ e. p e.choice) (filter (λ e. not (is_given give e.choice.course)) held ++ map (enrolment st) done)
    ≡ list_any (λ e. not (is_given give e.choice.course) && p e.choice) held || list_any p done
any-moved p st give held done =
    any-append (λ e. p e.choice) (filter (λ e. not (is_given give e.choice.course)) held) (map (enrolment st) done)
    ∙ (λ i. any-filter-both (λ e. not (is_given give e.choice.course)) (λ e. p e.choice) held i || any-map (enrolment st) (λ e. p e.choice) done i)
