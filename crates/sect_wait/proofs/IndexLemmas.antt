-- The index of a queue: a ticket more or less in it, and what its tickets tell of the entries.
use Rattle.std.specs.Prelude.{◌≡◌, ℕ, zero, suc, ◌+◌, ◌<◌, Bool, true, false, not, ◌==◌, cond, List, [], ◌∷◌, ◌++◌, length, take, drop, insert, filter, Option, Some, None, Result, Ok, Err, OnOk, OnErr, refl, ◌⊎◌}
use Rattle.std.specs.List.{list_any, list_all}
use Rattle.std.specs.Option.{is_some}
use Rattle.std.specs.BTreeMap.{BTreeMap}
use Rattle.std.specs.Global.{Vec}
use Rattle.std.proofs.Common.{sym, ◌∙◌, ap, subst, inl, inr, get_or}
use Rattle.std.proofs.lemmas.Bool.{eq-eqb, eqb-true}
use Rattle.std.proofs.lemmas.List.{take_more}
use Rattle.sect_base.specs.declared.ids.CourseId.{CourseId}
use Rattle.sect_base.specs.declared.ids.StudentId.{StudentId}
use Rattle.sect_base.specs.declared.table.Table.{Table}
use Rattle.sect_base.specs.Table.{value_at}
use Rattle.sect_catalog.proofs.SearchLemmas.{any-append}
use Rattle.sect_model.specs.declared.held.Waiting.{Waiting}
use Rattle.sect_model.specs.Freer.{Among}
use Rattle.sect_model.specs.Settle.{without}
use Rattle.sect_model.proofs.Members
use Rattle.sect_model.proofs.Members.{Member, both, both-left, both-right, or-left, or-right, all-at, all-of, any-at, any-of, none-of, not_true, if_false, not_both, decide, member-of_filter, member-append}
use Rattle.sect_model.proofs.FreerLemmas.{among, member}
use Rattle.sect_wait.specs.declared.by_student.ByStudent.{ByStudent}
use Rattle.sect_wait.specs.declared.index.Index.{Index}
use Rattle.sect_wait.specs.Indexed.{tickets_by, own_tickets, has_ticket, KeepsTickets, KeepsOtherTickets, KeepsOwn, KeepsOthersOwn, KeepsWaited, is_indexed, IsIndexOf, is_told, AreTold}
use Rattle.sect_wait.proofs.MarkLemmas.{among-append}

-- ---- the tickets of a number

module _ (old new : BTreeMap ℕ (Vec ℕ)) (number ticket : ℕ) where
  -- the ticket was put behind those of the number
  module _ (more : (n : ℕ) → tickets_by new n ≡ cond (number == n) (tickets_by old n ++ ticket ∷ []) (tickets_by old n)) where
    put-keeps : KeepsTickets old new
    put-keeps n t has = ap (has_ticket t) (more n) ∙ by_test (number == n)
      where
        by_test : (b : Bool) → has_ticket t (cond b (tickets_by old n ++ ticket ∷ []) (tickets_by old n)) ≡ true
        by_test true = any-append (λ s. s == t) (tickets_by old n) (ticket ∷ []) ∙ or-left (has_ticket t (tickets_by old n)) _ has
        by_test false = has

    put-has : has_ticket ticket (tickets_by new number) ≡ true
    put-has =
        ap (has_ticket ticket) (more number ∙ ap (λ b. cond b (tickets_by old number ++ ticket ∷ []) (tickets_by old number)) (eq-eqb number number refl))
        ∙ any-append (λ s. s == ticket) (tickets_by old number) (ticket ∷ []) ∙ or-right (has_ticket ticket (tickets_by old number)) _ (or-left (ticket == ticket) false (eq-eqb ticket ticket refl))

  -- the ticket was taken away from those of the number
  pub taken-keeps : ((n : ℕ) → tickets_by new n ≡ cond (number == n) (filter (λ t. not (t == ticket)) (tickets_by old n)) (tickets_by old n)) → KeepsOtherTickets ticket old new
  taken-keeps less n other differs has = ap (has_ticket other) (less n) ∙ by_test (number == n)
    where
      kept : has_ticket other (filter (λ t. not (t == ticket)) (tickets_by old n)) ≡ true
      kept =
          let found = any-at (λ t. t == other) (tickets_by old n) has in
          any-of (λ t. t == other) (filter (λ t. not (t == ticket)) (tickets_by old n)) found.0
          (member-of_filter (λ t. not (t == ticket)) (tickets_by old n) found.0 found.1 (if_false (found.0 == ticket) (ap (λ t. t == ticket) (eqb-true found.0 other found.2) ∙ differs))) found.2

      by_test : (b : Bool) → has_ticket other (cond b (filter (λ t. not (t == ticket)) (tickets_by old n)) (tickets_by old n)) ≡ true
      by_test true = kept
      by_test false = has

  pub note-keeps : {A E : Type 0} (r : Result A E) → OnOk r ((n : ℕ) → tickets_by new n ≡ cond (number == n) (tickets_by old n ++ ticket ∷ []) (tickets_by old n))
      → OnErr r ((n : ℕ) → tickets_by new n ≡ tickets_by old n) → KeepsTickets old new
  note-keeps (Ok x) more same = put-keeps more
  note-keeps (Err x) more same = λ n t has. ap (has_ticket t) (same n) ∙ has

  pub note-has : {A E : Type 0} (r : Result A E) → OnOk r ((n : ℕ) → tickets_by new n ≡ cond (number == n) (tickets_by old n ++ ticket ∷ []) (tickets_by old n))
      → OnOk r (has_ticket ticket (tickets_by new number) ≡ true)
  note-has (Ok x) more = put-has more
  note-has (Err x) more = tt

-- ---- the tickets of a student

module _ (old new : ByStudent) where
  -- tickets stay, and so does who waited
  pub own-kept : KeepsWaited old new → KeepsTickets old.tickets new.tickets → KeepsOwn old new
  own-kept waited keeps n t has = by_test (is_some (value_at old.waited n)) refl has
    where
      by_test : (b : Bool) → is_some (value_at old.waited n) ≡ b → has_ticket t (cond b (tickets_by old.tickets n) []) ≡ true → has_ticket t (own_tickets new n) ≡ true
      by_test true was h = ap (λ b. has_ticket t (cond b (tickets_by new.tickets n) [])) (waited n was) ∙ keeps n t h
      by_test false was h = absurd (not_both false h refl)

  pub own-has : {A E : Type 0} (r : Result A E) (student ticket : ℕ) → is_some (value_at new.waited student) ≡ true → OnOk r (has_ticket ticket (tickets_by new.tickets student) ≡ true)
      → OnOk r (has_ticket ticket (own_tickets new student) ≡ true)
  own-has (Ok x) student ticket waited has = ap (λ b. has_ticket ticket (cond b (tickets_by new.tickets student) [])) waited ∙ has
  own-has (Err x) student ticket waited has = tt

  -- the ticket was taken away from those of a student
  pub own-struck : (ticket : ℕ) → new.waited ≡ old.waited → KeepsOtherTickets ticket old.tickets new.tickets → KeepsOthersOwn ticket old new
  own-struck ticket same keeps n other differs has =
      ap (λ (t : Table Unit). has_ticket other (cond (is_some (value_at t n)) (tickets_by new.tickets n) [])) same ∙ by_test (is_some (value_at old.waited n)) has
    where
      by_test : (b : Bool) → has_ticket other (cond b (tickets_by old.tickets n) []) ≡ true → has_ticket other (cond b (tickets_by new.tickets n) []) ≡ true
      by_test true h = keeps n other differs h
      by_test false h = h

-- one course more has the ticket
pub courses-more : (old new : BTreeMap ℕ (Vec ℕ)) (ticket : ℕ) (cs : List CourseId) (i : ℕ) (none : CourseId) → i < length cs → KeepsTickets old new
    → list_all (λ d. has_ticket ticket (tickets_by old d.0)) (take i cs) ≡ true → has_ticket ticket (tickets_by new (get_or cs i none).0) ≡ true
    → list_all (λ d. has_ticket ticket (tickets_by new d.0)) (take (i + 1) cs) ≡ true
courses-more old new ticket cs i none few keeps so_far one =
    ap (list_all (λ d. has_ticket ticket (tickets_by new d.0))) (take_more cs i none few)
    ∙ all-of (λ d. has_ticket ticket (tickets_by new d.0)) (take i cs ++ get_or cs i none ∷ []) (λ d m. by_place d (member-append (take i cs) (get_or cs i none ∷ []) d m))
  where
    by_place : (d : CourseId) → Member (take i cs) d ⊎ Member (get_or cs i none ∷ []) d → has_ticket ticket (tickets_by new d.0) ≡ true
    by_place d (inl m) = keeps d.0 ticket (all-at (λ d. has_ticket ticket (tickets_by old d.0)) (take i cs) so_far d m)
    by_place d (inr (inl is)) = subst (λ (x : CourseId). has_ticket ticket (tickets_by new x.0) ≡ true) is one
    by_place d (inr (inr m)) = absurd m

pub keeps-joins : (a b c : BTreeMap ℕ (Vec ℕ)) → KeepsTickets a b → KeepsTickets b c → KeepsTickets a c
keeps-joins a b c k l n t has = l n t (k n t has)

pub others-join : (ticket : ℕ) (a b c : BTreeMap ℕ (Vec ℕ)) → KeepsOtherTickets ticket a b → KeepsOtherTickets ticket b c → KeepsOtherTickets ticket a c
others-join ticket a b c k l n t differs has = l n t differs (k n t differs has)

-- ---- the index of entries

module _ (i j : Index) where
  indexed-kept : KeepsOwn i.students j.students → KeepsTickets i.courses j.courses → (e : Waiting) → is_indexed i e ≡ true → is_indexed j e ≡ true
  indexed-kept ss cs e h =
      both (has_ticket e.ticket (own_tickets j.students e.student.0)) (list_all (λ c. has_ticket e.ticket (tickets_by j.courses c.0)) e.want.courses)
      (ss e.student.0 e.ticket (both-left (has_ticket e.ticket (own_tickets i.students e.student.0)) _ h))
      (all-of (λ c. has_ticket e.ticket (tickets_by j.courses c.0)) e.want.courses (λ c m.
      cs c.0 e.ticket (all-at (λ c. has_ticket e.ticket (tickets_by i.courses c.0)) e.want.courses (both-right (has_ticket e.ticket (own_tickets i.students e.student.0)) _ h) c m)))

  indexed-other : (ticket : ℕ) → KeepsOthersOwn ticket i.students j.students → KeepsOtherTickets ticket i.courses j.courses → (e : Waiting) → e.ticket == ticket ≡ false
      → is_indexed i e ≡ true → is_indexed j e ≡ true
  indexed-other ticket ss cs e differs h =
      both (has_ticket e.ticket (own_tickets j.students e.student.0)) (list_all (λ c. has_ticket e.ticket (tickets_by j.courses c.0)) e.want.courses)
      (ss e.student.0 e.ticket differs (both-left (has_ticket e.ticket (own_tickets i.students e.student.0)) _ h))
      (all-of (λ c. has_ticket e.ticket (tickets_by j.courses c.0)) e.want.courses (λ c m.
      cs c.0 e.ticket differs (all-at (λ c. has_ticket e.ticket (tickets_by i.courses c.0)) e.want.courses (both-right (has_ticket e.ticket (own_tickets i.students e.student.0)) _ h) c m)))

  -- an entry more was noted, and others may stand
  pub index-kept : (es : List Waiting) → j.whole ≡ i.whole → KeepsOwn i.students j.students → KeepsTickets i.courses j.courses → IsIndexOf i es → IsIndexOf j es
  index-kept es same ss cs k whole e a = indexed-kept ss cs e (k (sym same ∙ whole) e a)

  pub index-joined : (es fs : List Waiting) (e : Waiting) → fs ≡ es ++ e ∷ [] → j.whole ≡ i.whole → KeepsOwn i.students j.students → KeepsTickets i.courses j.courses
      → is_indexed j e ≡ true → IsIndexOf i es → IsIndexOf j fs
  index-joined es fs e is same ss cs noted k whole f a = by_place (among-append es e f (subst (λ gs. Among gs f) is a))
    where
      by_place : Among es f ⊎ Among (e ∷ []) f → is_indexed j f ≡ true
      by_place (inl a) = indexed-kept ss cs f (k (sym same ∙ whole) f a)
      by_place (inr (inl is)) = subst (λ x. is_indexed j x ≡ true) is noted
      by_place (inr (inr a)) = absurd a

  -- the entry of the ticket left
  pub index-left : (es fs : List Waiting) (ticket : ℕ) → fs ≡ without es ticket → j.whole ≡ i.whole → KeepsOthersOwn ticket i.students j.students → KeepsOtherTickets ticket i.courses j.courses
      → IsIndexOf i es → IsIndexOf j fs
  index-left es fs ticket is same ss cs k whole f a =
      let m = Members.member-filter (λ (e : Waiting). not (e.ticket == ticket)) es f (member (without es ticket) f (subst (λ gs. Among gs f) is a)) in
      indexed-other ticket ss cs f (not_true (f.ticket == ticket) m.1) (k (sym same ∙ whole) f (among es f m.0))

  -- the entry came back
  pub index-back : (es fs : List Waiting) (place : ℕ) (e : Waiting) → fs ≡ insert es place e → (j.whole ≡ true → i.whole ≡ true) → KeepsOwn i.students j.students → KeepsTickets i.courses j.courses
      → (j.whole ≡ true → is_indexed j e ≡ true) → IsIndexOf i es → IsIndexOf j fs
  index-back es fs place e is was ss cs noted k whole f a = by_place (among-insert es place (subst (λ gs. Among gs f) is a))
    where
      among-insert : (es : List Waiting) (n : ℕ) → Among (take n es ++ e ∷ drop n es) f → (e ≡ f) ⊎ Among es f
      among-insert es zero a = a
      among-insert [] (suc n) a = a
      among-insert (d ∷ es) (suc n) (inl is) = inr (inl is)
      among-insert (d ∷ es) (suc n) (inr a) = later (among-insert es n a)
        where
          later : (e ≡ f) ⊎ Among es f → (e ≡ f) ⊎ Among (d ∷ es) f
          later (inl is) = inl is
          later (inr a) = inr (inr a)

      by_place : (e ≡ f) ⊎ Among es f → is_indexed j f ≡ true
      by_place (inl is) = subst (λ x. is_indexed j x ≡ true) is (noted whole)
      by_place (inr a) = indexed-kept ss cs f (k (was whole) f a)

-- entries behind the others went
pub index-front : (i : Index) (es fs gs : List Waiting) → es ≡ fs ++ gs → IsIndexOf i es → IsIndexOf i fs
index-front i es fs gs is k whole f a = k whole f (subst (λ hs. Among hs f) (sym is) (among-left fs a))
  where
    among-left : (fs : List Waiting) → Among fs f → Among (fs ++ gs) f
    among-left [] a = absurd a
    among-left (e ∷ fs) (inl same) = inl same
    among-left (e ∷ fs) (inr a) = inr (among-left fs a)

-- ---- what the index tells

module _ (i : Index) (es : List Waiting) (k : IsIndexOf i es) where
  pub told-student : (student : StudentId) (told : Option (List ℕ)) → told ≡ cond i.whole (Some (own_tickets i.students student.0)) None → AreTold (λ e. student.0 == e.student.0) es told
  told-student student told is e a unmarked = by_whole i.whole refl (ap (λ o. is_told o e.ticket) (sym is) ∙ unmarked)
    where
      by_student : i.whole ≡ true → has_ticket e.ticket (own_tickets i.students student.0) ≡ false → (b : Bool) → student.0 == e.student.0 ≡ b → b ≡ false
      by_student whole none true same =
          absurd (not_both _ (ap (λ n. has_ticket e.ticket (own_tickets i.students n)) (eqb-true student.0 e.student.0 same) ∙ both-left (has_ticket e.ticket (own_tickets i.students e.student.0)) _ (k whole e a)) none)
      by_student whole none false same = refl

      by_whole : (b : Bool) → i.whole ≡ b → is_told (cond b (Some (own_tickets i.students student.0)) None) e.ticket ≡ false → student.0 == e.student.0 ≡ false
      by_whole true whole none = by_student whole none (student.0 == e.student.0) refl
      by_whole false whole none = absurd (not_both true refl none)

  pub told-course : (course : CourseId) (told : Option (List ℕ)) → told ≡ cond i.whole (Some (tickets_by i.courses course.0)) None
      → AreTold (λ e. list_any (λ c. course.0 == c.0) e.want.courses) es told
  told-course course told is e a unmarked = by_whole i.whole refl (ap (λ o. is_told o e.ticket) (sym is) ∙ unmarked)
    where
      by_course : i.whole ≡ true → has_ticket e.ticket (tickets_by i.courses course.0) ≡ false → (c : CourseId) → Member e.want.courses c → (b : Bool) → course.0 == c.0 ≡ b → b ≡ false
      by_course whole none c m true same =
          absurd (not_both _ (ap (λ n. has_ticket e.ticket (tickets_by i.courses n)) (eqb-true course.0 c.0 same)
          ∙ all-at (λ c. has_ticket e.ticket (tickets_by i.courses c.0)) e.want.courses (both-right (has_ticket e.ticket (own_tickets i.students e.student.0)) _ (k whole e a)) c m) none)
      by_course whole none c m false same = refl

      by_whole : (b : Bool) → i.whole ≡ b → is_told (cond b (Some (tickets_by i.courses course.0)) None) e.ticket ≡ false → list_any (λ c. course.0 == c.0) e.want.courses ≡ false
      by_whole true whole none = none-of (λ c. course.0 == c.0) e.want.courses (λ c m. by_course whole none c m (course.0 == c.0) refl)
      by_whole false whole none = absurd (not_both true refl none)
