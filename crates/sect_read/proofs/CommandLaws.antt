-- Commands are read exactly.
use Rattle.std.proofs.Common.{◌≡◌, ℕ, Bool, false, List, [], ◌∷◌, ◌++◌, Option, None, Some, refl, ap, sym, ◌∙◌, append_assoc, arith, decimal, lit≤, lit<}
use Rattle.std.specs.Prelude.{codes, flat_map}
use Rattle.std.specs.Str.{bytes_eq}
use Rattle.sect_base.specs.declared.ids.CourseId.{CourseId}
use Rattle.sect_base.specs.declared.ids.SectionId.{SectionId}
use Rattle.sect_base.specs.declared.ids.ReservationId.{ReservationId}
use Rattle.sect_base.specs.declared.ids.RestrictionId.{RestrictionId}
use Rattle.sect_base.specs.declared.ids.StudentId.{StudentId}
use Rattle.sect_base.specs.declared.limit.Cap.{Cap}
use Rattle.sect_catalog.specs.declared.row.OfferingRow.{OfferingRow}
use Rattle.sect_people.specs.declared.row.StudentRow.{StudentRow}
use Rattle.sect_people.specs.declared.row.Ask.{Ask}
use Rattle.sect_command.specs.declared.command.ReserveRow.{ReserveRow}
use Rattle.sect_command.specs.declared.command.RestrictRow.{RestrictRow}
use Rattle.sect_base.specs.declared.choice.Want.{Want}
use Rattle.sect_base.specs.declared.limit.Limit.{Limit}
use Rattle.sect_command.specs.declared.command.Command.{Command}
use Rattle.sect_command.specs.declared.command.Command.TheVariants as commands
use Rattle.sect_words.specs.Days.{day_text}
use Rattle.sect_words.specs.Words.{list_text, optional_text, limit_text, student_text}
use Rattle.sect_text.specs.Commands.{ask_words, cap_words, want_words, give_words, optional_give_words, budget_words, class_words}
use Rattle.sect_read.specs.Fits.{FitsStated, FitsList, FitsWant, FitsOptional, FitsDay, FitsStudent, FitsCourse, FitsSection, FitsReservation, FitsRestriction, FitsCap, FitsLimit, FitsAsk, Fits64, FitsOfferingRow, FitsStudentRow, FitsReserveRow, FitsRestrictRow}
use Rattle.sect_read.specs.Lines.{May, IsTake, AreEach, IsCommand}
use Rattle.sect_read.specs.declared.verb.Verb.{Verb}
use Rattle.sect_read.specs.declared.verb.Verb.TheVariants as verbs
use Rattle.sect_words.specs.Reading.{◌>>=◌, word_at, each_at, begins}
use Rattle.sect_read.specs.ReadingCommands.{
  optional_give_at,
  offering_command_at,
  student_command_at,
  requests_at,
  reserve_command_at,
  unreserve_at,
  expire_at,
  restrict_command_at,
  unrestrict_at,
  set_limit_at,
  cancel_at,
  budget_at,
  stated_at,
  want_at,
  take_starts,
  take_at,
  enrol_at,
  drop_at,
  swap_at,
  wait_at,
  unwait_at,
  batch_at,
  verb_text,
  verb_of,
  verb_among,
  all_verbs,
  arguments_at,
  command_at,
}
use Rattle.sect_read.proofs.Steps.{Exact, Quiet, word_found, word_step, words_step, bind_found, if_found, end_step, word_then, words_then, word_back, words_back, same_word}
use Rattle.sect_read.proofs.WordLaws.{exact_u64}
use Rattle.sect_read.proofs.ValueLaws.{exact_student, exact_reservation, exact_restriction, exact_optional_day, exact_limit, exact_section, exact_course, exact_students}
use Rattle.sect_read.proofs.RowLaws.{takes_offering, offering_args, takes_student, student_args, takes_asks, stop_asks, takes_gives}
use Rattle.sect_read.proofs.ArgumentLaws.{takes_reserve, reserve_args, takes_restrict, restrict_args, takes_cap, stated_found, stated_again, stated_stop, want_found, want_again, takes_found, takes_again, takes_stop, takes_optional_give}

-- what was read behind a verb is spelled so
abbrev Spells : Bool → Verb → List (List ℕ) → Command → List (List ℕ) → Type 0
Spells shown verb ws c rest = (t : List (List ℕ)) × IsCommand shown c (verb_text verb ∷ t) × (ws ≡ t ++ rest)

offering_found : (shown : Bool) (ws : List (List ℕ)) (c : Command) (rest : List (List ℕ)) → offering_command_at ws ≡ Some (c, rest) → Spells shown verbs.Offering ws c rest
unfolding offering_command_at
offering_found shown ws c rest e = words_step takes_offering ws _ _ e (λ row r1 f1 e1 p.
    end_step (commands.Offering row) c r1 rest p (λ y r. Spells shown verbs.Offering ws y r) (offering_args row, (f1, refl), e1))

student_found : (shown : Bool) (ws : List (List ℕ)) (c : Command) (rest : List (List ℕ)) → student_command_at ws ≡ Some (c, rest) → Spells shown verbs.Student ws c rest
unfolding student_command_at
student_found shown ws c rest e = words_step takes_student ws _ _ e (λ row r1 f1 e1 p.
    end_step (commands.Student row) c r1 rest p (λ y r. Spells shown verbs.Student ws y r) (student_args row, (f1, refl), e1))

reserve_found : (shown : Bool) (ws : List (List ℕ)) (c : Command) (rest : List (List ℕ)) → reserve_command_at ws ≡ Some (c, rest) → Spells shown verbs.Reserve ws c rest
unfolding reserve_command_at
reserve_found shown ws c rest e = words_step takes_reserve ws _ _ e (λ row r1 f1 e1 p.
    end_step (commands.Reserve row) c r1 rest p (λ y r. Spells shown verbs.Reserve ws y r) (reserve_args row, (f1, refl), e1))

restrict_found : (shown : Bool) (ws : List (List ℕ)) (c : Command) (rest : List (List ℕ)) → restrict_command_at ws ≡ Some (c, rest) → Spells shown verbs.Restrict ws c rest
unfolding restrict_command_at
restrict_found shown ws c rest e = words_step takes_restrict ws _ _ e (λ row r1 f1 e1 p.
    end_step (commands.Restrict row) c r1 rest p (λ y r. Spells shown verbs.Restrict ws y r) (restrict_args row, (f1, refl), e1))

requests_found : (shown : Bool) (ws : List (List ℕ)) (c : Command) (rest : List (List ℕ)) → requests_at ws ≡ Some (c, rest) → Spells shown verbs.Requests ws c rest
unfolding requests_at
requests_found shown ws c rest e = word_step exact_student ws _ _ e (λ student r1 f1 e1 p.
    words_step takes_asks r1 _ _ p (λ asked r2 f2 e2 p.
    end_step (commands.Requests student asked) c r2 rest p (λ y r. Spells shown verbs.Requests ws y r) (decimal student.0 ∷ flat_map ask_words asked, ((f1, f2), refl), (word_then _ ws r1 _ e1 e2))))

unreserve_found : (shown : Bool) (ws : List (List ℕ)) (c : Command) (rest : List (List ℕ)) → unreserve_at ws ≡ Some (c, rest) → Spells shown verbs.Unreserve ws c rest
unfolding unreserve_at
unreserve_found shown ws c rest e = word_step exact_reservation ws _ _ e (λ id r1 f1 e1 p.
    end_step (commands.Unreserve id) c r1 rest p (λ y r. Spells shown verbs.Unreserve ws y r) (decimal id.0 ∷ [], (f1, refl), e1))

expire_found : (shown : Bool) (ws : List (List ℕ)) (c : Command) (rest : List (List ℕ)) → expire_at ws ≡ Some (c, rest) → Spells shown verbs.Expire ws c rest
unfolding expire_at
expire_found shown ws c rest e = word_step exact_reservation ws _ _ e (λ id r1 f1 e1 p.
    word_step exact_optional_day r1 _ _ p (λ expiry r2 f2 e2 p.
    end_step (commands.Expire id expiry) c r2 rest p (λ y r. Spells shown verbs.Expire ws y r) (decimal id.0 ∷ optional_text day_text expiry ∷ [], ((f1, f2), refl), (word_then _ ws r1 _ e1 e2))))

unrestrict_found : (shown : Bool) (ws : List (List ℕ)) (c : Command) (rest : List (List ℕ)) → unrestrict_at ws ≡ Some (c, rest) → Spells shown verbs.Unrestrict ws c rest
unfolding unrestrict_at
unrestrict_found shown ws c rest e = word_step exact_restriction ws _ _ e (λ id r1 f1 e1 p.
    end_step (commands.Unrestrict id) c r1 rest p (λ y r. Spells shown verbs.Unrestrict ws y r) (decimal id.0 ∷ [], (f1, refl), e1))

set_limit_found : (shown : Bool) (ws : List (List ℕ)) (c : Command) (rest : List (List ℕ)) → set_limit_at ws ≡ Some (c, rest) → Spells shown verbs.Limit ws c rest
unfolding set_limit_at
set_limit_found shown ws c rest e = words_step takes_cap ws _ _ e (λ cap r1 f1 e1 p.
    word_step exact_limit r1 _ _ p (λ limit r2 f2 e2 p.
    end_step (commands.SetLimit cap limit) c r2 rest p (λ y r. Spells shown verbs.Limit ws y r)
    (cap_words cap ++ (limit_text limit ∷ []), ((f1, f2), refl), words_then (cap_words cap) ws r1 _ e1 e2 ∙ sym (append_assoc (cap_words cap) (limit_text limit ∷ []) r2))))

cancel_found : (shown : Bool) (ws : List (List ℕ)) (c : Command) (rest : List (List ℕ)) → cancel_at ws ≡ Some (c, rest) → Spells shown verbs.Cancel ws c rest
unfolding cancel_at
cancel_found shown ws c rest e = word_step exact_section ws _ _ e (λ id r1 f1 e1 p.
    end_step (commands.Cancel id) c r1 rest p (λ y r. Spells shown verbs.Cancel ws y r) (decimal id.0 ∷ [], (f1, refl), e1))

drop_found : (shown : Bool) (ws : List (List ℕ)) (c : Command) (rest : List (List ℕ)) → drop_at ws ≡ Some (c, rest) → Spells shown verbs.Drop ws c rest
unfolding drop_at
drop_found shown ws c rest e = word_step exact_student ws _ _ e (λ student r1 f1 e1 p.
    word_step exact_course r1 _ _ p (λ course r2 f2 e2 p.
    end_step (commands.Drop student course) c r2 rest p (λ y r. Spells shown verbs.Drop ws y r) (decimal student.0 ∷ decimal course.0 ∷ [], ((f1, f2), refl), (word_then _ ws r1 _ e1 e2))))

unwait_found : (shown : Bool) (ws : List (List ℕ)) (c : Command) (rest : List (List ℕ)) → unwait_at ws ≡ Some (c, rest) → Spells shown verbs.Unwait ws c rest
unfolding unwait_at
unwait_found shown ws c rest e = word_step exact_student ws _ _ e (λ student r1 f1 e1 p.
    word_step exact_u64 r1 _ _ p (λ ticket r2 f2 e2 p.
    end_step (commands.Unwait student ticket) c r2 rest p (λ y r. Spells shown verbs.Unwait ws y r) (decimal student.0 ∷ decimal ticket ∷ [], ((f1, f2), refl), (word_then _ ws r1 _ e1 e2))))

batch_found : (shown : Bool) (ws : List (List ℕ)) (c : Command) (rest : List (List ℕ)) → batch_at ws ≡ Some (c, rest) → Spells shown verbs.Batch ws c rest
unfolding batch_at
batch_found shown ws c rest e = word_step exact_students ws _ _ e (λ students r1 f1 e1 p.
    end_step (commands.Batch students) c r1 rest p (λ y r. Spells shown verbs.Batch ws y r) (list_text 43 student_text students ∷ [], (f1, refl), e1))

-- parts one behind another, grouped to the left
pub regroup : (a b c rest : List (List ℕ)) → (a ++ (b ++ c)) ++ rest ≡ a ++ (b ++ (c ++ rest))
regroup a b c rest = append_assoc a (b ++ c) rest ∙ ap (λ (ws : List (List ℕ)). a ++ ws) (append_assoc b c rest)

-- each want of a row has a text
takes_fit : (shown : Bool) (xs : List Want) (t : List (List ℕ)) → AreEach (IsTake shown) xs t → FitsList FitsWant xs
takes_fit shown [] t e = tt
takes_fit shown (x ∷ xs) t each = (each.2.4, takes_fit shown xs each.1 each.3)

budget_found : (shown : Bool) (ws : List (List ℕ)) (n : ℕ) (rest : List (List ℕ)) → budget_at shown ws ≡ Some (n, rest) → (written : Bool) × May shown written × FitsStated 20000 n × (ws ≡ budget_words written n ++ rest)
budget_found shown ws n rest e = stated_found (codes "budget") 20000 2000 shown (lit< tt) (omega arith, omega arith) ws n rest e

enrol_found : (shown : Bool) (ws : List (List ℕ)) (c : Command) (rest : List (List ℕ)) → enrol_at shown ws ≡ Some (c, rest) → Spells shown verbs.Enrol ws c rest
unfolding enrol_at
enrol_found shown ws c rest e = word_step exact_student ws _ _ e (λ student r1 f1 e1 p.
    bind_found (want_at shown r1) _ _ p (λ want is2 p.
    bind_found (budget_at shown want.1) _ _ p (λ budget is3 p.
    let w = want_found shown r1 want.0 want.1 is2 in
    let b = budget_found shown want.1 budget.0 budget.1 is3 in
    end_step (commands.Enrol student want.0 budget.0) c budget.1 rest p (λ y r. Spells shown verbs.Enrol ws y r) (
      decimal student.0 ∷ want_words w.1.0 w.1.1 want.0 ++ budget_words b.0 budget.0,
      (w.1.0, w.1.1, b.0, w.1.2, w.1.3, b.1, (f1, w.1.4, b.2), refl),
      word_then _ ws r1 _ e1 (w.2 ∙ ap (λ (vs : List (List ℕ)). vs ++ want.1) w.1.5 ∙ ap (λ (vs : List (List ℕ)). want_words w.1.0 w.1.1 want.0 ++ vs) b.3
          ∙ sym (append_assoc (want_words w.1.0 w.1.1 want.0) (budget_words b.0 budget.0) budget.1)),
    ))))

swap_found : (shown : Bool) (ws : List (List ℕ)) (c : Command) (rest : List (List ℕ)) → swap_at shown ws ≡ Some (c, rest) → Spells shown verbs.Swap ws c rest
unfolding swap_at
swap_found shown ws c rest e = word_step exact_student ws _ _ e (λ student r1 f1 e1 p.
    words_step takes_gives r1 _ _ p (λ given r2 f2 e2 p.
    bind_found (each_at take_starts (take_at shown) r2) _ _ p (λ taken is3 p.
    bind_found (budget_at shown taken.1) _ _ p (λ budget is4 p.
    let t = takes_found shown r2 taken.0 taken.1 is3 in
    let b = budget_found shown taken.1 budget.0 budget.1 is4 in
    end_step (commands.Swap student given taken.0 budget.0) c budget.1 rest p (λ y r. Spells shown verbs.Swap ws y r) (
      decimal student.0 ∷ flat_map give_words given ++ (t.0 ++ budget_words b.0 budget.0),
      (t.0, b.0, t.1, b.1, (f1, f2, takes_fit shown taken.0 t.0 t.1, b.2), refl),
      word_then _ ws r1 _ e1 (words_then (flat_map give_words given) r1 r2 _ e2 (words_then t.0 r2 taken.1 _ t.2 b.3)
          ∙ sym (regroup (flat_map give_words given) t.0 (budget_words b.0 budget.0) budget.1)),
    )))))

wait_found : (shown : Bool) (ws : List (List ℕ)) (c : Command) (rest : List (List ℕ)) → wait_at shown ws ≡ Some (c, rest) → Spells shown verbs.Wait ws c rest
unfolding wait_at
wait_found shown ws c rest e = word_step exact_student ws _ _ e (λ student r1 f1 e1 p.
    bind_found (want_at shown r1) _ _ p (λ want is2 p.
    words_step takes_optional_give want.1 _ _ p (λ give r3 f3 e3 p.
    bind_found (stated_at (codes "class") 9 5 shown r3) _ _ p (λ class is4 p.
    let w = want_found shown r1 want.0 want.1 is2 in
    let k = stated_found (codes "class") 9 5 shown (lit< tt) (omega arith, omega arith) r3 class.0 class.1 is4 in
    end_step (commands.Wait student want.0 give class.0) c class.1 rest p (λ y r. Spells shown verbs.Wait ws y r) (
      decimal student.0 ∷ want_words w.1.0 w.1.1 want.0 ++ (optional_give_words give ++ class_words k.0 class.0),
      (w.1.0, w.1.1, k.0, w.1.2, w.1.3, k.1, (f1, w.1.4, f3, k.2), refl),
      word_then _ ws r1 _ e1 (w.2 ∙ ap (λ (vs : List (List ℕ)). vs ++ want.1) w.1.5
          ∙ ap (λ (vs : List (List ℕ)). want_words w.1.0 w.1.1 want.0 ++ vs) (words_then (optional_give_words give) want.1 r3 _ e3 k.3)
          ∙ sym (regroup (want_words w.1.0 w.1.1 want.0) (optional_give_words give) (class_words k.0 class.0) class.1)),
    )))))

-- what is read behind a verb is spelled so
pub arguments_found : (shown : Bool) (verb : Verb) (ws : List (List ℕ)) (c : Command) (rest : List (List ℕ)) → arguments_at shown verb ws ≡ Some (c, rest)
    → (t : List (List ℕ)) × IsCommand shown c (verb_text verb ∷ t) × (ws ≡ t ++ rest)
arguments_found shown verbs.Offering ws c rest e = offering_found shown ws c rest e
arguments_found shown verbs.Student ws c rest e = student_found shown ws c rest e
arguments_found shown verbs.Requests ws c rest e = requests_found shown ws c rest e
arguments_found shown verbs.Reserve ws c rest e = reserve_found shown ws c rest e
arguments_found shown verbs.Unreserve ws c rest e = unreserve_found shown ws c rest e
arguments_found shown verbs.Expire ws c rest e = expire_found shown ws c rest e
arguments_found shown verbs.Restrict ws c rest e = restrict_found shown ws c rest e
arguments_found shown verbs.Unrestrict ws c rest e = unrestrict_found shown ws c rest e
arguments_found shown verbs.Limit ws c rest e = set_limit_found shown ws c rest e
arguments_found shown verbs.Cancel ws c rest e = cancel_found shown ws c rest e
arguments_found shown verbs.Enrol ws c rest e = enrol_found shown ws c rest e
arguments_found shown verbs.Drop ws c rest e = drop_found shown ws c rest e
arguments_found shown verbs.Swap ws c rest e = swap_found shown ws c rest e
arguments_found shown verbs.Wait ws c rest e = wait_found shown ws c rest e
arguments_found shown verbs.Unwait ws c rest e = unwait_found shown ws c rest e
arguments_found shown verbs.Batch ws c rest e = batch_found shown ws c rest e

-- ---- what is spelled is read

-- the words behind the verb of a command are read as the command, where nothing of it follows
abbrev Back : Bool → Command → List (List ℕ) → Type 0
Back shown c words = (verb : Verb) × (t : List (List ℕ)) × (words ≡ verb_text verb ∷ t) × ((rest : List (List ℕ)) → Quiet rest → arguments_at shown verb (t ++ rest) ≡ Some (c, rest))

offering_back : (row : OfferingRow) → FitsOfferingRow row → (rest : List (List ℕ)) → Quiet rest → offering_command_at (offering_args row ++ rest) ≡ Some (commands.Offering row, rest)
unfolding offering_command_at
offering_back row fits rest quiet = words_back takes_offering row rest _ _ fits quiet refl

student_back : (row : StudentRow) → FitsStudentRow row → (rest : List (List ℕ)) → Quiet rest → student_command_at (student_args row ++ rest) ≡ Some (commands.Student row, rest)
unfolding student_command_at
student_back row fits rest quiet = words_back takes_student row rest _ _ fits quiet refl

reserve_back : (row : ReserveRow) → FitsReserveRow row → (rest : List (List ℕ)) → Quiet rest → reserve_command_at (reserve_args row ++ rest) ≡ Some (commands.Reserve row, rest)
unfolding reserve_command_at
reserve_back row fits rest quiet = words_back takes_reserve row rest _ _ fits quiet refl

restrict_back : (row : RestrictRow) → FitsRestrictRow row → (rest : List (List ℕ)) → Quiet rest → restrict_command_at (restrict_args row ++ rest) ≡ Some (commands.Restrict row, rest)
unfolding restrict_command_at
restrict_back row fits rest quiet = words_back takes_restrict row rest _ _ fits quiet refl

requests_back : (student : StudentId) (asked : List Ask) → FitsStudent student → FitsList FitsAsk asked → (rest : List (List ℕ)) → Quiet rest → requests_at ((decimal student.0 ∷ flat_map ask_words asked) ++ rest) ≡ Some (commands.Requests student asked, rest)
unfolding requests_at
requests_back student asked fits each rest quiet = word_back exact_student student _ _ _ fits (words_back takes_asks asked rest _ _ each (stop_asks rest quiet) refl)

unreserve_back : (id : ReservationId) → FitsReservation id → (rest : List (List ℕ)) → Quiet rest → unreserve_at ((decimal id.0 ∷ []) ++ rest) ≡ Some (commands.Unreserve id, rest)
unfolding unreserve_at
unreserve_back id fits rest quiet = word_back exact_reservation id rest _ _ fits refl

expire_back : (id : ReservationId) (expiry : Option ℕ) → FitsReservation id → FitsOptional FitsDay expiry → (rest : List (List ℕ)) → Quiet rest → expire_at ((decimal id.0 ∷ optional_text day_text expiry ∷ []) ++ rest) ≡ Some (commands.Expire id expiry, rest)
unfolding expire_at
expire_back id expiry fits day rest quiet = word_back exact_reservation id _ _ _ fits (word_back exact_optional_day expiry rest _ _ day refl)

unrestrict_back : (id : RestrictionId) → FitsRestriction id → (rest : List (List ℕ)) → Quiet rest → unrestrict_at ((decimal id.0 ∷ []) ++ rest) ≡ Some (commands.Unrestrict id, rest)
unfolding unrestrict_at
unrestrict_back id fits rest quiet = word_back exact_restriction id rest _ _ fits refl

set_limit_back : (cap : Cap) (limit : Limit) → FitsCap cap → FitsLimit limit → (rest : List (List ℕ)) → Quiet rest → set_limit_at ((cap_words cap ++ (limit_text limit ∷ [])) ++ rest) ≡ Some (commands.SetLimit cap limit, rest)
unfolding set_limit_at
set_limit_back cap limit fits most rest quiet = ap set_limit_at (append_assoc (cap_words cap) (limit_text limit ∷ []) rest) ∙ words_back takes_cap cap (limit_text limit ∷ rest) _ _ fits tt (word_back exact_limit limit rest _ _ most refl)

cancel_back : (id : SectionId) → FitsSection id → (rest : List (List ℕ)) → Quiet rest → cancel_at ((decimal id.0 ∷ []) ++ rest) ≡ Some (commands.Cancel id, rest)
unfolding cancel_at
cancel_back id fits rest quiet = word_back exact_section id rest _ _ fits refl

drop_back : (student : StudentId) (course : CourseId) → FitsStudent student → FitsCourse course → (rest : List (List ℕ)) → Quiet rest → drop_at ((decimal student.0 ∷ decimal course.0 ∷ []) ++ rest) ≡ Some (commands.Drop student course, rest)
unfolding drop_at
drop_back student course fits fits2 rest quiet = word_back exact_student student _ _ _ fits (word_back exact_course course rest _ _ fits2 refl)

unwait_back : (student : StudentId) (ticket : ℕ) → FitsStudent student → Fits64 ticket → (rest : List (List ℕ)) → Quiet rest → unwait_at ((decimal student.0 ∷ decimal ticket ∷ []) ++ rest) ≡ Some (commands.Unwait student ticket, rest)
unfolding unwait_at
unwait_back student ticket fits fits2 rest quiet = word_back exact_student student _ _ _ fits (word_back exact_u64 ticket rest _ _ fits2 refl)

batch_back : (students : List StudentId) → FitsList FitsStudent students → (rest : List (List ℕ)) → Quiet rest → batch_at ((list_text 43 student_text students ∷ []) ++ rest) ≡ Some (commands.Batch students, rest)
unfolding batch_at
batch_back students fits rest quiet = word_back exact_students students rest _ _ fits refl

budget_back : (shown written : Bool) (n : ℕ) (rest : List (List ℕ)) → May shown written → FitsStated 20000 n → Quiet rest → budget_at shown (budget_words written n ++ rest) ≡ Some (n, rest)
budget_back shown written n rest may fits quiet = stated_again (codes "budget") 20000 2000 shown written (lit< tt) n rest may fits (quiet 98 _ (lit≤ tt))

enrol_back : (shown only rank written : Bool) (student : StudentId) (want : Want) (budget : ℕ) → May shown only → May shown rank → May shown written → FitsStudent student → FitsWant want → FitsStated 20000 budget → (rest : List (List ℕ)) → Quiet rest
    → enrol_at shown ((decimal student.0 ∷ want_words only rank want ++ budget_words written budget) ++ rest) ≡ Some (commands.Enrol student want budget, rest)
unfolding enrol_at
enrol_back shown only rank written student want budget may_only may_rank may fits fits2 fits3 rest quiet =
    let behind = budget_words written budget ++ rest in
    ap (λ (ws : List (List ℕ)). enrol_at shown (decimal student.0 ∷ ws)) (append_assoc (want_words only rank want) (budget_words written budget) rest)
    ∙ word_back exact_student student _ _ _ fits (
    ap (λ o. o >>= λ w. budget_at shown w.1 >>= λ b. Some (commands.Enrol student w.0 b.0, b.1))
    (want_again shown want (want_words only rank want) behind (only, rank, may_only, may_rank, fits2, refl)
    (stated_stop (codes "only") (codes "budget") 2000 written budget rest refl (quiet 111 _ (lit≤ tt)), stated_stop (codes "rank") (codes "budget") 2000 written budget rest refl (quiet 114 _ (lit≤ tt))))
    ∙ ap (λ o. o >>= λ b. Some (commands.Enrol student want b.0, b.1)) (budget_back shown written budget rest may fits3 quiet))

swap_back : (shown written : Bool) (student : StudentId) (given : List CourseId) (taken : List Want) (budget : ℕ) (takes : List (List ℕ)) → AreEach (IsTake shown) taken takes → May shown written → FitsStudent student → FitsList FitsCourse given
    → FitsStated 20000 budget → (rest : List (List ℕ)) → Quiet rest
    → swap_at shown ((decimal student.0 ∷ flat_map give_words given ++ (takes ++ budget_words written budget)) ++ rest) ≡ Some (commands.Swap student given taken budget, rest)
unfolding swap_at
swap_back shown written student given taken budget takes each may fits fits2 fits3 rest quiet =
    let behind = budget_words written budget ++ rest in
    let stop : (word : List ℕ) → bytes_eq (codes "budget") word ≡ false → begins word rest ≡ false → begins word behind ≡ false = λ word apart e. stated_stop word (codes "budget") 2000 written budget rest apart e in
    ap (λ (ws : List (List ℕ)). swap_at shown (decimal student.0 ∷ ws)) (regroup (flat_map give_words given) takes (budget_words written budget) rest)
    ∙ word_back exact_student student _ _ _ fits (
    words_back takes_gives given (takes ++ behind) _ _ fits2 (tt, takes_stop shown (codes "give") taken takes behind refl each (stop (codes "give") refl (quiet 103 _ (lit≤ tt)))) (
    ap (λ o. o >>= λ t. budget_at shown t.1 >>= λ b. Some (commands.Swap student given t.0 b.0, b.1))
    (takes_again shown taken takes behind each (stop (codes "only") refl (quiet 111 _ (lit≤ tt)), stop (codes "rank") refl (quiet 114 _ (lit≤ tt))) (stop (codes "take") refl (quiet 116 _ (lit≤ tt))))
    ∙ ap (λ o. o >>= λ b. Some (commands.Swap student given taken b.0, b.1)) (budget_back shown written budget rest may fits3 quiet)))

give_stop : (word : List ℕ) (give : Option CourseId) (rest : List (List ℕ)) → bytes_eq (codes "give") word ≡ false → begins word rest ≡ false → begins word (optional_give_words give ++ rest) ≡ false
give_stop word None rest apart stop = stop
give_stop word (Some id) rest apart stop = apart

wait_back : (shown only rank written : Bool) (student : StudentId) (want : Want) (give : Option CourseId) (class : ℕ) → May shown only → May shown rank → May shown written → FitsStudent student → FitsWant want → FitsOptional FitsCourse give
    → FitsStated 9 class → (rest : List (List ℕ)) → Quiet rest
    → wait_at shown ((decimal student.0 ∷ want_words only rank want ++ (optional_give_words give ++ class_words written class)) ++ rest) ≡ Some (commands.Wait student want give class, rest)
unfolding wait_at
wait_back shown only rank written student want give class may_only may_rank may fits fits2 fits3 fits4 rest quiet =
    let behind = class_words written class ++ rest in
    let stop : (word : List ℕ) → bytes_eq (codes "class") word ≡ false → begins word rest ≡ false → begins word behind ≡ false = λ word apart e. stated_stop word (codes "class") 5 written class rest apart e in
    ap (λ (ws : List (List ℕ)). wait_at shown (decimal student.0 ∷ ws)) (regroup (want_words only rank want) (optional_give_words give) (class_words written class) rest)
    ∙ word_back exact_student student _ _ _ fits (
    ap (λ o. o >>= λ w. optional_give_at w.1 >>= λ g. stated_at (codes "class") 9 5 shown g.1 >>= λ k. Some (commands.Wait student w.0 g.0 k.0, k.1))
    (want_again shown want (want_words only rank want) (optional_give_words give ++ behind) (only, rank, may_only, may_rank, fits2, refl)
    (give_stop (codes "only") give behind refl (stop (codes "only") refl (quiet 111 _ (lit≤ tt))), give_stop (codes "rank") give behind refl (stop (codes "rank") refl (quiet 114 _ (lit≤ tt)))))
    ∙ words_back takes_optional_give give behind _ _ fits3 (stop (codes "give") refl (quiet 103 _ (lit≤ tt))) (
    ap (λ o. o >>= λ k. Some (commands.Wait student want give k.0, k.1)) (stated_again (codes "class") 9 5 shown written (lit< tt) class rest may fits4 (quiet 99 _ (lit≤ tt)))))

-- what is spelled as a command is read so
pub command_back : (shown : Bool) (c : Command) (words : List (List ℕ)) → IsCommand shown c words → Back shown c words
command_back shown (commands.Offering row) words is = (verbs.Offering, offering_args row, is.1, λ rest quiet. offering_back row is.0 rest quiet)
command_back shown (commands.Student row) words is = (verbs.Student, student_args row, is.1, λ rest quiet. student_back row is.0 rest quiet)
command_back shown (commands.Requests student asked) words is = (verbs.Requests, decimal student.0 ∷ flat_map ask_words asked, is.1, λ rest quiet. requests_back student asked is.0.0 is.0.1 rest quiet)
command_back shown (commands.Reserve row) words is = (verbs.Reserve, reserve_args row, is.1, λ rest quiet. reserve_back row is.0 rest quiet)
command_back shown (commands.Unreserve id) words is = (verbs.Unreserve, decimal id.0 ∷ [], is.1, λ rest quiet. unreserve_back id is.0 rest quiet)
command_back shown (commands.Expire id expiry) words is = (verbs.Expire, decimal id.0 ∷ optional_text day_text expiry ∷ [], is.1, λ rest quiet. expire_back id expiry is.0.0 is.0.1 rest quiet)
command_back shown (commands.Restrict row) words is = (verbs.Restrict, restrict_args row, is.1, λ rest quiet. restrict_back row is.0 rest quiet)
command_back shown (commands.Unrestrict id) words is = (verbs.Unrestrict, decimal id.0 ∷ [], is.1, λ rest quiet. unrestrict_back id is.0 rest quiet)
command_back shown (commands.SetLimit cap limit) words is = (verbs.Limit, cap_words cap ++ (limit_text limit ∷ []), is.1, λ rest quiet. set_limit_back cap limit is.0.0 is.0.1 rest quiet)
command_back shown (commands.Cancel id) words is = (verbs.Cancel, decimal id.0 ∷ [], is.1, λ rest quiet. cancel_back id is.0 rest quiet)
command_back shown (commands.Enrol student want budget) words is =
    (verbs.Enrol, decimal student.0 ∷ want_words is.0 is.1 want ++ budget_words is.2 budget, is.7, λ rest quiet. enrol_back shown is.0 is.1 is.2 student want budget is.3 is.4 is.5 is.6.0 is.6.1 is.6.2 rest quiet)
command_back shown (commands.Drop student course) words is = (verbs.Drop, decimal student.0 ∷ decimal course.0 ∷ [], is.1, λ rest quiet. drop_back student course is.0.0 is.0.1 rest quiet)
command_back shown (commands.Swap student given taken budget) words is =
    (verbs.Swap, decimal student.0 ∷ flat_map give_words given ++ (is.0 ++ budget_words is.1 budget), is.5, λ rest quiet. swap_back shown is.1 student given taken budget is.0 is.2 is.3 is.4.0 is.4.1 is.4.3 rest quiet)
command_back shown (commands.Wait student want give class) words is =
    (verbs.Wait, decimal student.0 ∷ want_words is.0 is.1 want ++ (optional_give_words give ++ class_words is.2 class), is.7, λ rest quiet. wait_back shown is.0 is.1 is.2 student want give class is.3 is.4 is.5 is.6.0 is.6.1 is.6.2 is.6.3 rest quiet)
command_back shown (commands.Unwait student ticket) words is = (verbs.Unwait, decimal student.0 ∷ decimal ticket ∷ [], is.1, λ rest quiet. unwait_back student ticket is.0.0 is.0.1 rest quiet)
command_back shown (commands.Batch students) words is = (verbs.Batch, list_text 43 student_text students ∷ [], is.1, λ rest quiet. batch_back students is.0 rest quiet)

-- ---- verbs

among_found : (vs : List Verb) (word : List ℕ) (verb : Verb) → verb_among vs word ≡ Some verb → word ≡ verb_text verb
among_found [] word verb e = absurd (cc)
among_found (v ∷ vs) word verb e = if_found (bytes_eq word (verb_text v)) (Some v) (verb_among vs word) verb e
    (λ b e. same_word word (verb_text v) b ∙ ap verb_text (let same : v ≡ verb = cc in same))
    (λ b e. among_found vs word verb e)

pub verb_found : (word : List ℕ) (verb : Verb) → verb_of word ≡ Some verb → word ≡ verb_text verb
unfolding verb_of
verb_found word verb e = among_found all_verbs word verb e

pub verb_again : (verb : Verb) → verb_of (verb_text verb) ≡ Some verb
unfolding verb_of
verb_again verbs.Offering = refl
verb_again verbs.Student = refl
verb_again verbs.Requests = refl
verb_again verbs.Reserve = refl
verb_again verbs.Unreserve = refl
verb_again verbs.Expire = refl
verb_again verbs.Restrict = refl
verb_again verbs.Unrestrict = refl
verb_again verbs.Limit = refl
verb_again verbs.Cancel = refl
verb_again verbs.Enrol = refl
verb_again verbs.Drop = refl
verb_again verbs.Swap = refl
verb_again verbs.Wait = refl
verb_again verbs.Unwait = refl
verb_again verbs.Batch = refl

-- the verb of a word is read exactly
pub exact_verb : Exact verb_of verb_text (λ verb. Unit {0})
exact_verb = record { found = λ word verb e. (tt, verb_found word verb e); again = λ verb fits. verb_again verb }

any_found : (ws : List (List ℕ)) (verb : Verb) (rest : List (List ℕ)) → word_at verb_of ws ≡ Some (verb, rest) → ws ≡ verb_text verb ∷ rest
any_found ws verb rest e = (word_found exact_verb ws verb rest e).1

-- what is read as a command is spelled so
pub command_found : (shown : Bool) (ws : List (List ℕ)) (c : Command) (rest : List (List ℕ)) → command_at shown ws ≡ Some (c, rest) → (t : List (List ℕ)) × IsCommand shown c t × (ws ≡ t ++ rest)
unfolding command_at
command_found shown ws c rest e = bind_found (word_at verb_of ws) _ _ e (λ verb is p.
    let a = arguments_found shown verb.0 verb.1 c rest p in
    (verb_text verb.0 ∷ a.0, a.1, any_found ws verb.0 verb.1 is ∙ ap (λ (vs : List (List ℕ)). verb_text verb.0 ∷ vs) a.2))

-- what is spelled as a command is read so, where nothing of it follows
pub command_again : (shown : Bool) (c : Command) (words rest : List (List ℕ)) → IsCommand shown c words → Quiet rest → command_at shown (words ++ rest) ≡ Some (c, rest)
unfolding command_at
command_again shown c words rest is quiet =
    let back = command_back shown c words is in
    ap (λ (ws : List (List ℕ)). command_at shown (ws ++ rest)) back.2
    ∙ word_back exact_verb back.0 (back.1 ++ rest) _ _ tt (back.3 rest quiet)
