-- Rows that commands carry are read exactly.
use Rattle.std.proofs.Common.{◌≡◌, ℕ, ◌<◌, Bool, true, false, List, ◌∷◌, ◌++◌, length, Some, refl, ap, sym, ◌∙◌, append_assoc, arith, decimal, lit≤, lit<}
use Rattle.std.specs.Prelude.{codes, flat_map, ◌||◌}
use Rattle.sect_base.specs.declared.ids.CourseId.{CourseId}
use Rattle.sect_base.specs.declared.ids.ConfigId.{ConfigId}
use Rattle.sect_base.specs.declared.ids.SectionId.{SectionId}
use Rattle.sect_base.specs.declared.ids.GroupId.{GroupId}
use Rattle.sect_base.specs.declared.choice.Curriculum.{Curriculum}
use Rattle.sect_catalog.specs.declared.row.OfferingRow.{OfferingRow}
use Rattle.sect_catalog.specs.declared.row.CourseRow.{CourseRow}
use Rattle.sect_catalog.specs.declared.row.ConfigRow.{ConfigRow}
use Rattle.sect_catalog.specs.declared.row.SubpartRow.{SubpartRow}
use Rattle.sect_catalog.specs.declared.row.SectionRow.{SectionRow}
use Rattle.sect_people.specs.declared.row.StudentRow.{StudentRow}
use Rattle.sect_people.specs.declared.row.CourseAsk.{CourseAsk}
use Rattle.sect_people.specs.declared.row.Ask.{Ask}
use Rattle.sect_people.specs.declared.row.Ask.TheVariants as asks
use Rattle.sect_base.specs.Pattern.{Pattern}
use Rattle.sect_base.specs.MeetingText.{meeting_text}
use Rattle.sect_words.specs.Words.{list_text, course_text}
use Rattle.sect_text.specs.Commands.{section_words, subpart_words, config_words, course_words, group_words, curriculum_words, mark_words, ask_words, config_id_words, section_id_words, give_words}
use Rattle.sect_read.specs.Fits.{FitsSectionRow, FitsSubpartRow, FitsConfigRow, FitsCourseRow, FitsOfferingRow, FitsStudentRow, FitsAsk, FitsList, FitsGroup, FitsCurriculum, FitsConfig, FitsSection, FitsCourse}
use Rattle.sect_words.specs.Reading.{each_at, begins, later_parts, mark_at, with_rest}
use Rattle.sect_read.specs.ReadingRows.{section_starts, section_row_at, subpart_starts, subpart_at, config_starts, config_row_at, course_starts, course_row_at, offering_at, group_starts, group_at, curriculum_starts, curriculum_word_at, student_row_at, course_ask_at, free_ask_at, ask_starts, ask_at, config_id_at, section_id_at, give_starts, give_at}
use Rattle.sect_read.proofs.Steps.{Takes, Any, Quiet, key_step, word_step, words_step, begins_step, end_step, word_then, words_then, word_back, words_back, mark_found, mark_again, not_first, not_mark, word_found}
use Rattle.sect_read.proofs.Rows.{StopEach, takes_each}
use Rattle.sect_read.proofs.WordLaws.{exact_u16, exact_between}
use Rattle.sect_read.proofs.ValueLaws.{exact_section, exact_subpart, exact_config, exact_course, exact_group, exact_student, exact_offering, exact_limit, exact_optional_section, exact_meetings, exact_meeting, exact_courses}
use Rattle.sect_read.proofs.PartLaws.{exact_curriculum}

section_row_found : (ws : List (List ℕ)) (x : SectionRow) (rest : List (List ℕ)) → section_row_at ws ≡ Some (x, rest) → FitsSectionRow x × (ws ≡ section_words x ++ rest)
unfolding section_row_at
section_row_found ws x rest e = key_step (codes "section") ws _ _ e (λ r0 e0 p.
    word_step exact_section r0 _ _ p (λ id r1 f1 e1 p.
    word_step exact_limit r1 _ _ p (λ limit r2 f2 e2 p.
    word_step exact_optional_section r2 _ _ p (λ parent r3 f3 e3 p.
    word_step exact_meetings r3 _ _ p (λ meetings r4 f4 e4 p.
    end_step _ x r4 rest p (λ y r. FitsSectionRow y × (ws ≡ section_words y ++ r)) ((f1, f2, f3, f4), word_then (codes "section") ws r0 _ e0 (word_then _ r0 r1 _ e1 (word_then _ r1 r2 _ e2 (word_then _ r2 r3 _ e3 e4)))))))))

section_row_again : (x : SectionRow) (rest : List (List ℕ)) → FitsSectionRow x → Any rest → section_row_at (section_words x ++ rest) ≡ Some (x, rest)
unfolding section_row_at
section_row_again x rest fits stop = word_back exact_section x.id _ _ _ fits.0 (word_back exact_limit x.limit _ _ _ fits.1 (word_back exact_optional_section x.parent _ _ _ fits.2 (word_back exact_meetings x.meetings _ _ _ fits.3 (refl))))

pub takes_section_row : Takes section_row_at FitsSectionRow section_words Any
takes_section_row = record { found = section_row_found; again = section_row_again }

pub takes_section_rows : Takes (each_at section_starts section_row_at) (FitsList FitsSectionRow) (flat_map section_words) (StopEach section_starts Any)
takes_section_rows = takes_each section_starts takes_section_row (λ x rest fits. refl) (λ x rest fits. tt) (λ x fits. omega arith)

-- what may follow a subpart
abbrev pub StopSubpart : List (List ℕ) → Type 0
StopSubpart = StopEach section_starts Any

subpart_row_found : (ws : List (List ℕ)) (x : SubpartRow) (rest : List (List ℕ)) → subpart_at ws ≡ Some (x, rest) → FitsSubpartRow x × (ws ≡ subpart_words x ++ rest)
unfolding subpart_at
subpart_row_found ws x rest e = key_step (codes "subpart") ws _ _ e (λ r0 e0 p.
    word_step exact_subpart r0 _ _ p (λ id r1 f1 e1 p.
    words_step takes_section_rows r1 _ _ p (λ sections r2 f2 e2 p.
    end_step _ x r2 rest p (λ y r. FitsSubpartRow y × (ws ≡ subpart_words y ++ r)) ((f1, f2), word_then (codes "subpart") ws r0 _ e0 (word_then _ r0 r1 _ e1 e2)))))

subpart_row_again : (x : SubpartRow) (rest : List (List ℕ)) → FitsSubpartRow x → StopSubpart rest → subpart_at (subpart_words x ++ rest) ≡ Some (x, rest)
unfolding subpart_at
subpart_row_again x rest fits stop = word_back exact_subpart x.id _ _ _ fits.0 (words_back takes_section_rows x.sections rest _ _ fits.1 stop (refl))

pub takes_subpart_row : Takes subpart_at FitsSubpartRow subpart_words StopSubpart
takes_subpart_row = record { found = subpart_row_found; again = subpart_row_again }

pub takes_subpart_rows : Takes (each_at subpart_starts subpart_at) (FitsList FitsSubpartRow) (flat_map subpart_words) (StopEach subpart_starts StopSubpart)
takes_subpart_rows = takes_each subpart_starts takes_subpart_row (λ x rest fits. refl) (λ x rest fits. (tt, refl)) (λ x fits. omega arith)

-- what may follow a configuration
abbrev pub StopConfig : List (List ℕ) → Type 0
StopConfig = StopEach subpart_starts StopSubpart

config_row_found : (ws : List (List ℕ)) (x : ConfigRow) (rest : List (List ℕ)) → config_row_at ws ≡ Some (x, rest) → FitsConfigRow x × (ws ≡ config_words x ++ rest)
unfolding config_row_at
config_row_found ws x rest e = key_step (codes "config") ws _ _ e (λ r0 e0 p.
    word_step exact_config r0 _ _ p (λ id r1 f1 e1 p.
    word_step exact_limit r1 _ _ p (λ limit r2 f2 e2 p.
    words_step takes_subpart_rows r2 _ _ p (λ subparts r3 f3 e3 p.
    end_step _ x r3 rest p (λ y r. FitsConfigRow y × (ws ≡ config_words y ++ r)) ((f1, f2, f3), word_then (codes "config") ws r0 _ e0 (word_then _ r0 r1 _ e1 (word_then _ r1 r2 _ e2 e3)))))))

config_row_again : (x : ConfigRow) (rest : List (List ℕ)) → FitsConfigRow x → StopConfig rest → config_row_at (config_words x ++ rest) ≡ Some (x, rest)
unfolding config_row_at
config_row_again x rest fits stop = word_back exact_config x.id _ _ _ fits.0 (word_back exact_limit x.limit _ _ _ fits.1 (words_back takes_subpart_rows x.subparts rest _ _ fits.2 stop (refl)))

pub takes_config_row : Takes config_row_at FitsConfigRow config_words StopConfig
takes_config_row = record { found = config_row_found; again = config_row_again }

pub takes_config_rows : Takes (each_at config_starts config_row_at) (FitsList FitsConfigRow) (flat_map config_words) (StopEach config_starts StopConfig)
takes_config_rows = takes_each config_starts takes_config_row (λ x rest fits. refl) (λ x rest fits. ((tt, refl), refl)) (λ x fits. omega arith)

course_row_found : (ws : List (List ℕ)) (x : CourseRow) (rest : List (List ℕ)) → course_row_at ws ≡ Some (x, rest) → FitsCourseRow x × (ws ≡ course_words x ++ rest)
unfolding course_row_at
course_row_found ws x rest e = key_step (codes "course") ws _ _ e (λ r0 e0 p.
    word_step exact_course r0 _ _ p (λ id r1 f1 e1 p.
    word_step exact_limit r1 _ _ p (λ limit r2 f2 e2 p.
    word_step (exact_between 0 30 (lit< tt)) r2 _ _ p (λ credits r3 f3 e3 p.
    end_step _ x r3 rest p (λ y r. FitsCourseRow y × (ws ≡ course_words y ++ r)) ((f1, f2, f3.1), word_then (codes "course") ws r0 _ e0 (word_then _ r0 r1 _ e1 (word_then _ r1 r2 _ e2 e3)))))))

course_row_again : (x : CourseRow) (rest : List (List ℕ)) → FitsCourseRow x → Any rest → course_row_at (course_words x ++ rest) ≡ Some (x, rest)
unfolding course_row_at
course_row_again x rest fits stop = word_back exact_course x.id _ _ _ fits.0 (word_back exact_limit x.limit _ _ _ fits.1 (word_back (exact_between 0 30 (lit< tt)) x.credits _ _ _ (omega arith, fits.2) (refl)))

pub takes_course_row : Takes course_row_at FitsCourseRow course_words Any
takes_course_row = record { found = course_row_found; again = course_row_again }

pub takes_course_rows : Takes (each_at course_starts course_row_at) (FitsList FitsCourseRow) (flat_map course_words) (StopEach course_starts Any)
takes_course_rows = takes_each course_starts takes_course_row (λ x rest fits. refl) (λ x rest fits. tt) (λ x fits. omega arith)

group_found : (ws : List (List ℕ)) (x : GroupId) (rest : List (List ℕ)) → group_at ws ≡ Some (x, rest) → FitsGroup x × (ws ≡ group_words x ++ rest)
unfolding group_at
group_found ws x rest e = key_step (codes "group") ws _ _ e (λ r0 e0 p. let q = word_found exact_group r0 x rest p in (q.0, word_then (codes "group") ws r0 _ e0 q.1))

group_again : (x : GroupId) (rest : List (List ℕ)) → FitsGroup x → Any rest → group_at (group_words x ++ rest) ≡ Some (x, rest)
unfolding group_at
group_again x rest fits stop = ap (with_rest rest) (exact_group.again x fits)

pub takes_group : Takes group_at FitsGroup group_words Any
takes_group = record { found = group_found; again = group_again }

pub takes_groups : Takes (each_at group_starts group_at) (FitsList FitsGroup) (flat_map group_words) (StopEach group_starts Any)
takes_groups = takes_each group_starts takes_group (λ x rest fits. refl) (λ x rest fits. tt) (λ x fits. omega arith)

curriculum_found : (ws : List (List ℕ)) (x : Curriculum) (rest : List (List ℕ)) → curriculum_word_at ws ≡ Some (x, rest) → FitsCurriculum x × (ws ≡ curriculum_words x ++ rest)
unfolding curriculum_word_at
curriculum_found ws x rest e = key_step (codes "curriculum") ws _ _ e (λ r0 e0 p. let q = word_found exact_curriculum r0 x rest p in (q.0, word_then (codes "curriculum") ws r0 _ e0 q.1))

curriculum_again : (x : Curriculum) (rest : List (List ℕ)) → FitsCurriculum x → Any rest → curriculum_word_at (curriculum_words x ++ rest) ≡ Some (x, rest)
unfolding curriculum_word_at
curriculum_again x rest fits stop = ap (with_rest rest) (exact_curriculum.again x fits)

pub takes_curriculum : Takes curriculum_word_at FitsCurriculum curriculum_words Any
takes_curriculum = record { found = curriculum_found; again = curriculum_again }

pub takes_curriculums : Takes (each_at curriculum_starts curriculum_word_at) (FitsList FitsCurriculum) (flat_map curriculum_words) (StopEach curriculum_starts Any)
takes_curriculums = takes_each curriculum_starts takes_curriculum (λ x rest fits. refl) (λ x rest fits. tt) (λ x fits. omega arith)

config_id_found : (ws : List (List ℕ)) (x : ConfigId) (rest : List (List ℕ)) → config_id_at ws ≡ Some (x, rest) → FitsConfig x × (ws ≡ config_id_words x ++ rest)
unfolding config_id_at
config_id_found ws x rest e = key_step (codes "config") ws _ _ e (λ r0 e0 p. let q = word_found exact_config r0 x rest p in (q.0, word_then (codes "config") ws r0 _ e0 q.1))

config_id_again : (x : ConfigId) (rest : List (List ℕ)) → FitsConfig x → Any rest → config_id_at (config_id_words x ++ rest) ≡ Some (x, rest)
unfolding config_id_at
config_id_again x rest fits stop = ap (with_rest rest) (exact_config.again x fits)

pub takes_config_id : Takes config_id_at FitsConfig config_id_words Any
takes_config_id = record { found = config_id_found; again = config_id_again }

pub takes_config_ids : Takes (each_at config_starts config_id_at) (FitsList FitsConfig) (flat_map config_id_words) (StopEach config_starts Any)
takes_config_ids = takes_each config_starts takes_config_id (λ x rest fits. refl) (λ x rest fits. tt) (λ x fits. omega arith)

section_id_found : (ws : List (List ℕ)) (x : SectionId) (rest : List (List ℕ)) → section_id_at ws ≡ Some (x, rest) → FitsSection x × (ws ≡ section_id_words x ++ rest)
unfolding section_id_at
section_id_found ws x rest e = key_step (codes "section") ws _ _ e (λ r0 e0 p. let q = word_found exact_section r0 x rest p in (q.0, word_then (codes "section") ws r0 _ e0 q.1))

section_id_again : (x : SectionId) (rest : List (List ℕ)) → FitsSection x → Any rest → section_id_at (section_id_words x ++ rest) ≡ Some (x, rest)
unfolding section_id_at
section_id_again x rest fits stop = ap (with_rest rest) (exact_section.again x fits)

pub takes_section_id : Takes section_id_at FitsSection section_id_words Any
takes_section_id = record { found = section_id_found; again = section_id_again }

pub takes_section_ids : Takes (each_at section_starts section_id_at) (FitsList FitsSection) (flat_map section_id_words) (StopEach section_starts Any)
takes_section_ids = takes_each section_starts takes_section_id (λ x rest fits. refl) (λ x rest fits. tt) (λ x fits. omega arith)

give_found : (ws : List (List ℕ)) (x : CourseId) (rest : List (List ℕ)) → give_at ws ≡ Some (x, rest) → FitsCourse x × (ws ≡ give_words x ++ rest)
unfolding give_at
give_found ws x rest e = key_step (codes "give") ws _ _ e (λ r0 e0 p. let q = word_found exact_course r0 x rest p in (q.0, word_then (codes "give") ws r0 _ e0 q.1))

give_again : (x : CourseId) (rest : List (List ℕ)) → FitsCourse x → Any rest → give_at (give_words x ++ rest) ≡ Some (x, rest)
unfolding give_at
give_again x rest fits stop = ap (with_rest rest) (exact_course.again x fits)

pub takes_give : Takes give_at FitsCourse give_words Any
takes_give = record { found = give_found; again = give_again }

pub takes_gives : Takes (each_at give_starts give_at) (FitsList FitsCourse) (flat_map give_words) (StopEach give_starts Any)
takes_gives = takes_each give_starts takes_give (λ x rest fits. refl) (λ x rest fits. tt) (λ x fits. omega arith)

-- what stands behind the verb of an offering
abbrev pub offering_args : OfferingRow → List (List ℕ)
offering_args o = decimal o.id.0 ∷ flat_map course_words o.courses ++ flat_map config_words o.configs

offering_found : (ws : List (List ℕ)) (x : OfferingRow) (rest : List (List ℕ)) → offering_at ws ≡ Some (x, rest) → FitsOfferingRow x × (ws ≡ offering_args x ++ rest)
unfolding offering_at
offering_found ws x rest e = word_step exact_offering ws _ _ e (λ id r1 f1 e1 p.
    words_step takes_course_rows r1 _ _ p (λ courses r2 f2 e2 p.
    words_step takes_config_rows r2 _ _ p (λ configs r3 f3 e3 p.
    end_step _ x r3 rest p (λ y r. FitsOfferingRow y × (ws ≡ offering_args y ++ r)) (
      (f1, f2, f3),
      word_then _ ws r1 _ e1 (words_then (flat_map course_words courses) r1 r2 _ e2 e3 ∙ sym (append_assoc (flat_map course_words courses) (flat_map config_words configs) r3)),
    ))))

offering_again : (x : OfferingRow) (rest : List (List ℕ)) → FitsOfferingRow x → Quiet rest → offering_at (offering_args x ++ rest) ≡ Some (x, rest)
unfolding offering_at
offering_again x rest fits quiet =
    ap (λ (ws : List (List ℕ)). offering_at (decimal x.id.0 ∷ ws)) (append_assoc (flat_map course_words x.courses) (flat_map config_words x.configs) rest)
    ∙ word_back exact_offering x.id _ _ _ fits.0 (
    words_back takes_course_rows x.courses (flat_map config_words x.configs ++ rest) _ _ fits.1 (tt, not_first (codes "course") config_words (λ y r. refl) x.configs rest (quiet 99 _ (lit≤ tt))) (
    words_back takes_config_rows x.configs rest _ _ fits.2 (((tt, quiet 115 _ (lit≤ tt)), quiet 115 _ (lit≤ tt)), quiet 99 _ (lit≤ tt)) refl))

pub takes_offering : Takes offering_at FitsOfferingRow offering_args Quiet
takes_offering = record { found = offering_found; again = offering_again }

-- what stands behind the verb of a student
abbrev pub student_args : StudentRow → List (List ℕ)
student_args s = decimal s.id.0 ∷ codes "max" ∷ decimal s.max_credits ∷ flat_map group_words s.groups ++ flat_map curriculum_words s.curricula

student_found : (ws : List (List ℕ)) (x : StudentRow) (rest : List (List ℕ)) → student_row_at ws ≡ Some (x, rest) → FitsStudentRow x × (ws ≡ student_args x ++ rest)
unfolding student_row_at
student_found ws x rest e = word_step exact_student ws _ _ e (λ id r1 f1 e1 p.
    key_step (codes "max") r1 _ _ p (λ r2 e2 p.
    word_step exact_u16 r2 _ _ p (λ credits r3 f3 e3 p.
    words_step takes_groups r3 _ _ p (λ groups r4 f4 e4 p.
    words_step takes_curriculums r4 _ _ p (λ curricula r5 f5 e5 p.
    end_step _ x r5 rest p (λ y r. FitsStudentRow y × (ws ≡ student_args y ++ r)) (
      (f1, f3, f4, f5),
      word_then _ ws r1 _ e1 (word_then (codes "max") r1 r2 _ e2 (word_then _ r2 r3 _ e3
          (words_then (flat_map group_words groups) r3 r4 _ e4 e5 ∙ sym (append_assoc (flat_map group_words groups) (flat_map curriculum_words curricula) r5)))),
    ))))))

student_again : (x : StudentRow) (rest : List (List ℕ)) → FitsStudentRow x → Quiet rest → student_row_at (student_args x ++ rest) ≡ Some (x, rest)
unfolding student_row_at
student_again x rest fits quiet =
    ap (λ (ws : List (List ℕ)). student_row_at (decimal x.id.0 ∷ codes "max" ∷ decimal x.max_credits ∷ ws)) (append_assoc (flat_map group_words x.groups) (flat_map curriculum_words x.curricula) rest)
    ∙ word_back exact_student x.id _ _ _ fits.0 (
    word_back exact_u16 x.max_credits _ _ _ fits.1 (
    words_back takes_groups x.groups (flat_map curriculum_words x.curricula ++ rest) _ _ fits.2 (tt, not_first (codes "group") curriculum_words (λ y r. refl) x.curricula rest (quiet 103 _ (lit≤ tt))) (
    words_back takes_curriculums x.curricula rest _ _ fits.3 (tt, quiet 99 _ (lit≤ tt)) refl)))

pub takes_student : Takes student_row_at FitsStudentRow student_args Quiet
takes_student = record { found = student_found; again = student_again }

-- ---- requests

-- what may follow a request
abbrev pub StopAsk : List (List ℕ) → Type 0
StopAsk rest = (begins (codes "wait") rest ≡ false) × (begins (codes "substitute") rest ≡ false)

course_ask_found : (ws : List (List ℕ)) (x : Ask) (rest : List (List ℕ)) → course_ask_at ws ≡ Some (x, rest) → FitsAsk x × (codes "course" ∷ ws ≡ ask_words x ++ rest)
unfolding course_ask_at
course_ask_found ws x rest e = word_step exact_courses ws _ _ e (λ courses r1 f1 e1 p.
    let wait = mark_at (codes "wait") r1 in
    let substitute = mark_at (codes "substitute") wait.1 in
    end_step (asks.Course (record { courses = courses; wait = wait.0; substitute = substitute.0 })) x substitute.1 rest p (λ y r. FitsAsk y × (codes "course" ∷ ws ≡ ask_words y ++ r)) (
      f1,
      ap (λ (vs : List (List ℕ)). codes "course" ∷ vs) (word_then (list_text 43 course_text courses) ws r1 _ e1
          (mark_found (codes "wait") r1 ∙ ap (λ (vs : List (List ℕ)). mark_words (codes "wait") wait.0 ++ vs) (mark_found (codes "substitute") wait.1)
          ∙ sym (append_assoc (mark_words (codes "wait") wait.0) (mark_words (codes "substitute") substitute.0) substitute.1))),
    ))

free_ask_found : (ws : List (List ℕ)) (x : Ask) (rest : List (List ℕ)) → free_ask_at ws ≡ Some (x, rest) → FitsAsk x × (codes "free" ∷ ws ≡ ask_words x ++ rest)
unfolding free_ask_at
free_ask_found ws x rest e = word_step exact_meeting ws _ _ e (λ meeting r1 f1 e1 p.
    end_step (asks.Free meeting) x r1 rest p (λ y r. FitsAsk y × (codes "free" ∷ ws ≡ ask_words y ++ r)) (f1, ap (λ (vs : List (List ℕ)). codes "free" ∷ vs) e1))

ask_found : (ws : List (List ℕ)) (x : Ask) (rest : List (List ℕ)) → ask_at ws ≡ Some (x, rest) → FitsAsk x × (ws ≡ ask_words x ++ rest)
unfolding ask_at
ask_found ws x rest e = begins_step (codes "course") ws _ _ _ e
    (λ is e. let q = course_ask_found (later_parts ws) x rest e in (q.0, is ∙ q.1))
    (λ no e. begins_step (codes "free") ws _ _ _ e
    (λ is e. let q = free_ask_found (later_parts ws) x rest e in (q.0, is ∙ q.1))
    (λ no e. absurd (cc)))

course_ask_again : (a : CourseAsk) (rest : List (List ℕ)) → FitsAsk (asks.Course a) → StopAsk rest
    → course_ask_at (list_text 43 course_text a.courses ∷ (mark_words (codes "wait") a.wait ++ mark_words (codes "substitute") a.substitute) ++ rest) ≡ Some (asks.Course a, rest)
unfolding course_ask_at
course_ask_again a rest fits stop =
    let wait = mark_again (codes "wait") a.wait (mark_words (codes "substitute") a.substitute ++ rest) (not_mark (codes "wait") (codes "substitute") a.substitute rest refl stop.0) in
    let substitute = mark_again (codes "substitute") a.substitute rest stop.1 in
    ap (λ (ws : List (List ℕ)). course_ask_at (list_text 43 course_text a.courses ∷ ws)) (append_assoc (mark_words (codes "wait") a.wait) (mark_words (codes "substitute") a.substitute) rest)
    ∙ word_back exact_courses a.courses _ _ _ fits (
    ap (λ (p : Bool × List (List ℕ)). Some (asks.Course (record { courses = a.courses; wait = p.0; substitute = (mark_at (codes "substitute") p.1).0 }), (mark_at (codes "substitute") p.1).1)) wait
    ∙ ap (λ (p : Bool × List (List ℕ)). Some (asks.Course (record { courses = a.courses; wait = a.wait; substitute = p.0 }), p.1)) substitute)

free_ask_again : (rest : List (List ℕ)) (x : Pattern) → FitsAsk (asks.Free x) → free_ask_at (meeting_text x ∷ rest) ≡ Some (asks.Free x, rest)
unfolding free_ask_at
free_ask_again rest x fits = word_back exact_meeting x rest _ _ fits refl

ask_again : (x : Ask) (rest : List (List ℕ)) → FitsAsk x → StopAsk rest → ask_at (ask_words x ++ rest) ≡ Some (x, rest)
unfolding ask_at
ask_again (asks.Course a) rest fits stop = course_ask_again a rest fits stop
ask_again (asks.Free m) rest fits stop = free_ask_again rest m fits

takes_ask : Takes ask_at FitsAsk ask_words StopAsk
takes_ask = record { found = ask_found; again = ask_again }

ask_begun : (x : Ask) (rest : List (List ℕ)) → FitsAsk x → ask_starts (ask_words x ++ rest) ≡ true
ask_begun (asks.Course a) rest fits = refl
ask_begun (asks.Free m) rest fits = refl

ask_stops : (x : Ask) (rest : List (List ℕ)) → FitsAsk x → StopAsk (ask_words x ++ rest)
ask_stops (asks.Course a) rest fits = (refl, refl)
ask_stops (asks.Free m) rest fits = (refl, refl)

ask_long : (x : Ask) → FitsAsk x → 0 < length (ask_words x)
ask_long (asks.Course a) fits = omega arith
ask_long (asks.Free m) fits = omega arith

pub takes_asks : Takes (each_at ask_starts ask_at) (FitsList FitsAsk) (flat_map ask_words) (StopEach ask_starts StopAsk)
takes_asks = takes_each ask_starts takes_ask ask_begun ask_stops ask_long

pub stop_asks : (rest : List (List ℕ)) → Quiet rest → StopEach ask_starts StopAsk rest
stop_asks rest quiet = ((quiet 119 _ (lit≤ tt), quiet 115 _ (lit≤ tt)), ap (λ (b : Bool). b || begins (codes "free") rest) (quiet 99 _ (lit≤ tt)) ∙ quiet 102 _ (lit≤ tt))
