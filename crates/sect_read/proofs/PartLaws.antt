-- Words that have parts of their own are read exactly.
use Rattle.std.proofs.Common.{◌≡◌, ℕ, ◌==◌, false, List, [], ◌∷◌, ◌++◌, map, append-nil, Option, None, Some, refl, ap, sym, ◌∙◌, arith, decimal, lit<, inl, inr}
use Rattle.std.specs.Prelude.{codes}
use Rattle.sect_base.specs.declared.choice.Choice.{Choice}
use Rattle.sect_base.specs.declared.choice.Curriculum.{Curriculum}
use Rattle.sect_reserve.specs.declared.row.Audience.{Audience}
use Rattle.sect_reserve.specs.declared.row.Audience.TheVariants as audiences
use Rattle.sect_words.specs.Parts.{joined, pieces}
use Rattle.sect_words.specs.Words.{list_text, optional_text, major_text, class_text, student_text, reservation_text, section_text, sections_text, curriculum_text, audience_parts, audience_text, choice_text}
use Rattle.sect_read.specs.declared.request.Request.{Request}
use Rattle.sect_read.specs.Fits.{Fits8, Fits32, FitsList, FitsOptional, FitsCurriculum, FitsAudience, FitsChoice}
use Rattle.sect_words.specs.Reading.{whole, later_parts}
use Rattle.sect_words.specs.ReadingWords.{curriculum_at, curriculum_of, students_at, group_audience_at, study_at, course_audience_at, audience_at, audience_of, choice_at, choice_of}
use Rattle.sect_read.specs.ReadingReplies.{request_at, request_of}
use Rattle.sect_read.proofs.Steps.{Exact, Takes, Any, whole_found, word_step, begins_step, end_step, word_then, word_back}
use Rattle.sect_words.proofs.Pieces.{Lacks, joined_pieces, pieces_joined}
use Rattle.sect_read.proofs.Bytes.{lacks_decimal, all_joined, each_text}
use Rattle.sect_read.proofs.WordLaws.{exact_u8, exact_u32, small32}
use Rattle.sect_read.proofs.ValueLaws.{
  exact_area,
  exact_class,
  exact_course,
  exact_config,
  exact_group,
  exact_majors,
  exact_classs,
  exact_students,
  exact_optional_reservation,
  exact_sections,
}

-- the words come apart where they were joined
abbrev pub ComesApart : ℕ → List (List ℕ) → Type 0
ComesApart mark parts = pieces mark (joined mark parts) ≡ parts

-- a text all of whose parts are taken is read exactly
pub exact_whole : {X : Type 0} (mark : ℕ) {at : List (List ℕ) → Option (X × List (List ℕ))} {Fits : X → Type 0} {words : X → List (List ℕ)} {Stop : List (List ℕ) → Type 0} (takes : Takes at Fits words Stop)
    → Stop [] → ((x : X) → Fits x → ComesApart mark (words x)) → Exact (λ text. whole (at (pieces mark text))) (λ x. joined mark (words x)) Fits
exact_whole mark {at = at} {words = words} takes stop apart = record {
  found = λ text x e.
      let p = takes.found (pieces mark text) x [] (whole_found (at (pieces mark text)) x e) in
      (p.0, sym (joined_pieces mark text) ∙ ap (joined mark) (p.1 ∙ append-nil (words x)));
  again = λ x fits. ap (λ (parts : List (List ℕ)). whole (at parts)) (apart x fits ∙ sym (append-nil (words x))) ∙ ap whole (takes.again x [] fits stop);
}

-- a list of numbers has digits, `+` and `-` alone
pub lacks_list : {X : Type 0} {Fits : X → Type 0} (mark : ℕ) (text : X → List ℕ) → (43 == mark) ≡ false → (45 == mark) ≡ false → ((x : X) → Fits x → Lacks mark (text x)) → (xs : List X) → FitsList Fits xs
    → Lacks mark (list_text 43 text xs)
lacks_list mark text plus minus each [] fits = (minus, tt)
lacks_list mark text plus minus each (x ∷ xs) fits = all_joined (λ byte. (byte == mark) ≡ false) 43 plus (map text (x ∷ xs)) (each_text (λ byte. (byte == mark) ≡ false) text each (x ∷ xs) fits)

pub lacks_optional : {X : Type 0} {Fits : X → Type 0} (mark : ℕ) (text : X → List ℕ) → (45 == mark) ≡ false → ((x : X) → Fits x → Lacks mark (text x)) → (o : Option X) → FitsOptional Fits o
    → Lacks mark (optional_text text o)
lacks_optional mark text minus each None fits = (minus, tt)
lacks_optional mark text minus each (Some x) fits = each x fits

-- a number has no colon, no slash and no dot
pub no_colon : (n : ℕ) → Fits32 n → Lacks 58 (decimal n)
no_colon n fits = lacks_decimal 58 n (inr (lit< tt)) (small32 n fits)

pub no_slash : (n : ℕ) → Fits32 n → Lacks 47 (decimal n)
no_slash n fits = lacks_decimal 47 n (inl (lit< tt)) (small32 n fits)

pub no_dot : (n : ℕ) → Fits32 n → Lacks 46 (decimal n)
no_dot n fits = lacks_decimal 46 n (inl (lit< tt)) (small32 n fits)

-- ---- curricula

abbrev curriculum_parts : Curriculum → List (List ℕ)
curriculum_parts c = decimal c.area.0 ∷ decimal c.class.0 ∷ list_text 43 major_text c.majors ∷ []

curriculum_found : (ws : List (List ℕ)) (x : Curriculum) (rest : List (List ℕ)) → curriculum_at ws ≡ Some (x, rest) → FitsCurriculum x × (ws ≡ curriculum_parts x ++ rest)
unfolding curriculum_at
curriculum_found ws x rest e = word_step exact_area ws _ _ e (λ area r1 f1 e1 p.
    word_step exact_class r1 _ _ p (λ class r2 f2 e2 p.
    word_step exact_majors r2 _ _ p (λ majors r3 f3 e3 p.
    end_step _ x r3 rest p (λ y r. FitsCurriculum y × (ws ≡ curriculum_parts y ++ r)) ((f1, f2, f3), word_then _ ws r1 _ e1 (word_then _ r1 r2 _ e2 e3)))))

curriculum_again : (x : Curriculum) (rest : List (List ℕ)) → FitsCurriculum x → Any rest → curriculum_at (curriculum_parts x ++ rest) ≡ Some (x, rest)
unfolding curriculum_at
curriculum_again x rest fits stop = word_back exact_area x.area _ _ _ fits.0 (word_back exact_class x.class _ _ _ fits.1 (word_back exact_majors x.majors _ _ _ fits.2 refl))

takes_curriculum : Takes curriculum_at FitsCurriculum curriculum_parts Any
takes_curriculum = record { found = curriculum_found; again = curriculum_again }

curriculum_apart : (x : Curriculum) → FitsCurriculum x → ComesApart 58 (curriculum_parts x)
curriculum_apart x fits =
    pieces_joined 58 (decimal x.area.0) (decimal x.class.0 ∷ list_text 43 major_text x.majors ∷ []) (no_colon x.area.0 fits.0)
    (no_colon x.class.0 fits.1, (lacks_list 58 major_text refl refl (λ m f. no_colon m.0 f) x.majors fits.2, tt))

pub exact_curriculum : Exact curriculum_of curriculum_text FitsCurriculum
exact_curriculum = exact_whole 58 takes_curriculum tt curriculum_apart

-- ---- audiences

students_found : (ws : List (List ℕ)) (x : Audience) (rest : List (List ℕ)) → students_at ws ≡ Some (x, rest) → FitsAudience x × (codes "students" ∷ ws ≡ audience_parts x ++ rest)
unfolding students_at
students_found ws x rest e = word_step exact_students ws _ _ e (λ ids r1 f1 e1 p.
    end_step (audiences.Students ids) x r1 rest p (λ y r. FitsAudience y × (codes "students" ∷ ws ≡ audience_parts y ++ r)) (f1, ap (λ (vs : List (List ℕ)). codes "students" ∷ vs) e1))

group_found : (ws : List (List ℕ)) (x : Audience) (rest : List (List ℕ)) → group_audience_at ws ≡ Some (x, rest) → FitsAudience x × (codes "group" ∷ ws ≡ audience_parts x ++ rest)
unfolding group_audience_at
group_found ws x rest e = word_step exact_group ws _ _ e (λ id r1 f1 e1 p.
    end_step (audiences.Group id) x r1 rest p (λ y r. FitsAudience y × (codes "group" ∷ ws ≡ audience_parts y ++ r)) (f1, ap (λ (vs : List (List ℕ)). codes "group" ∷ vs) e1))

study_found : (ws : List (List ℕ)) (x : Audience) (rest : List (List ℕ)) → study_at ws ≡ Some (x, rest) → FitsAudience x × (codes "curriculum" ∷ ws ≡ audience_parts x ++ rest)
unfolding study_at
study_found ws x rest e = word_step exact_area ws _ _ e (λ area r1 f1 e1 p.
    word_step exact_classs r1 _ _ p (λ classes r2 f2 e2 p.
    word_step exact_majors r2 _ _ p (λ majors r3 f3 e3 p.
    end_step (audiences.Curriculum area classes majors) x r3 rest p (λ y r. FitsAudience y × (codes "curriculum" ∷ ws ≡ audience_parts y ++ r)) (
      (f1, f2, f3),
      ap (λ (vs : List (List ℕ)). codes "curriculum" ∷ vs) (word_then _ ws r1 _ e1 (word_then _ r1 r2 _ e2 e3)),
    ))))

course_found : (ws : List (List ℕ)) (x : Audience) (rest : List (List ℕ)) → course_audience_at ws ≡ Some (x, rest) → FitsAudience x × (codes "course" ∷ ws ≡ audience_parts x ++ rest)
unfolding course_audience_at
course_found ws x rest e = word_step exact_course ws _ _ e (λ id r1 f1 e1 p.
    end_step (audiences.Course id) x r1 rest p (λ y r. FitsAudience y × (codes "course" ∷ ws ≡ audience_parts y ++ r)) (f1, ap (λ (vs : List (List ℕ)). codes "course" ∷ vs) e1))

audience_found : (ws : List (List ℕ)) (x : Audience) (rest : List (List ℕ)) → audience_at ws ≡ Some (x, rest) → FitsAudience x × (ws ≡ audience_parts x ++ rest)
unfolding audience_at
audience_found ws x rest e = begins_step (codes "students") ws _ _ _ e
    (λ is e. let q = students_found (later_parts ws) x rest e in (q.0, is ∙ q.1))
    (λ no e. begins_step (codes "group") ws _ _ _ e
    (λ is e. let q = group_found (later_parts ws) x rest e in (q.0, is ∙ q.1))
    (λ no e. begins_step (codes "curriculum") ws _ _ _ e
    (λ is e. let q = study_found (later_parts ws) x rest e in (q.0, is ∙ q.1))
    (λ no e. begins_step (codes "course") ws _ _ _ e
    (λ is e. let q = course_found (later_parts ws) x rest e in (q.0, is ∙ q.1))
    (λ no e. absurd (cc)))))

audience_again : (x : Audience) (rest : List (List ℕ)) → FitsAudience x → Any rest → audience_at (audience_parts x ++ rest) ≡ Some (x, rest)
unfolding audience_at students_at group_audience_at study_at course_audience_at
audience_again (audiences.Students ids) rest fits stop = word_back exact_students ids rest _ _ fits refl
audience_again (audiences.Group id) rest fits stop = word_back exact_group id rest _ _ fits refl
audience_again (audiences.Curriculum area classes majors) rest fits stop =
    word_back exact_area area _ _ _ fits.0 (word_back exact_classs classes _ _ _ fits.1 (word_back exact_majors majors _ _ _ fits.2 refl))
audience_again (audiences.Course id) rest fits stop = word_back exact_course id rest _ _ fits refl

takes_audience : Takes audience_at FitsAudience audience_parts Any
takes_audience = record { found = audience_found; again = audience_again }

-- a word of letters
abbrev Plain : List ℕ → Type 0
Plain word = Lacks 58 word

audience_apart : (x : Audience) → FitsAudience x → ComesApart 58 (audience_parts x)
audience_apart (audiences.Students ids) fits =
    pieces_joined 58 (codes "students") (list_text 43 student_text ids ∷ []) (refl, (refl, (refl, (refl, (refl, (refl, (refl, (refl, tt)))))))) (lacks_list 58 student_text refl refl (λ s f. no_colon s.0 f) ids fits, tt)
audience_apart (audiences.Group id) fits = pieces_joined 58 (codes "group") (decimal id.0 ∷ []) (refl, (refl, (refl, (refl, (refl, tt))))) (no_colon id.0 fits, tt)
audience_apart (audiences.Curriculum area classes majors) fits =
    pieces_joined 58 (codes "curriculum") (decimal area.0 ∷ list_text 43 class_text classes ∷ list_text 43 major_text majors ∷ [])
    (refl, (refl, (refl, (refl, (refl, (refl, (refl, (refl, (refl, (refl, tt))))))))))
    (no_colon area.0 fits.0, (lacks_list 58 class_text refl refl (λ c f. no_colon c.0 f) classes fits.1, (lacks_list 58 major_text refl refl (λ m f. no_colon m.0 f) majors fits.2, tt)))
audience_apart (audiences.Course id) fits = pieces_joined 58 (codes "course") (decimal id.0 ∷ []) (refl, (refl, (refl, (refl, (refl, (refl, tt)))))) (no_colon id.0 fits, tt)

pub exact_audience : Exact audience_of audience_text FitsAudience
exact_audience = exact_whole 58 takes_audience tt audience_apart

-- ---- choices

abbrev choice_parts : Choice → List (List ℕ)
choice_parts c = decimal c.course.0 ∷ optional_text reservation_text c.reservation ∷ decimal c.config.0 ∷ sections_text c.sections ∷ []

choice_found : (ws : List (List ℕ)) (x : Choice) (rest : List (List ℕ)) → choice_at ws ≡ Some (x, rest) → FitsChoice x × (ws ≡ choice_parts x ++ rest)
unfolding choice_at
choice_found ws x rest e = word_step exact_course ws _ _ e (λ course r1 f1 e1 p.
    word_step exact_optional_reservation r1 _ _ p (λ reservation r2 f2 e2 p.
    word_step exact_config r2 _ _ p (λ config r3 f3 e3 p.
    word_step exact_sections r3 _ _ p (λ sections r4 f4 e4 p.
    end_step _ x r4 rest p (λ y r. FitsChoice y × (ws ≡ choice_parts y ++ r)) ((f1, f2, f3, f4), word_then _ ws r1 _ e1 (word_then _ r1 r2 _ e2 (word_then _ r2 r3 _ e3 e4)))))))

choice_again : (x : Choice) (rest : List (List ℕ)) → FitsChoice x → Any rest → choice_at (choice_parts x ++ rest) ≡ Some (x, rest)
unfolding choice_at
choice_again x rest fits stop =
    word_back exact_course x.course _ _ _ fits.0 (word_back exact_optional_reservation x.reservation _ _ _ fits.1
    (word_back exact_config x.config _ _ _ fits.2 (word_back exact_sections x.sections _ _ _ fits.3 refl)))

takes_choice : Takes choice_at FitsChoice choice_parts Any
takes_choice = record { found = choice_found; again = choice_again }

choice_apart : (x : Choice) → FitsChoice x → ComesApart 47 (choice_parts x)
choice_apart x fits =
    pieces_joined 47 (decimal x.course.0) (optional_text reservation_text x.reservation ∷ decimal x.config.0 ∷ sections_text x.sections ∷ []) (no_slash x.course.0 fits.0) (
      lacks_optional 47 reservation_text refl (λ r f. no_slash r.0 f) x.reservation fits.1,
      (
        no_slash x.config.0 fits.2,
        (all_joined (λ byte. (byte == 47) ≡ false) 43 refl (map section_text x.sections) (each_text (λ byte. (byte == 47) ≡ false) section_text (λ s f. no_slash s.0 f) x.sections fits.3.2), tt),
      ),
    )

pub exact_choice : Exact choice_of choice_text FitsChoice
exact_choice = exact_whole 47 takes_choice tt choice_apart

-- ---- the request of a line of a batch

abbrev pub FitsRequest : Request → Type 0
FitsRequest r = Fits32 r.student × Fits8 r.rank

abbrev request_parts : Request → List (List ℕ)
request_parts r = decimal r.student ∷ decimal r.rank ∷ []

-- `STUDENT.RANK`
abbrev pub request_text : Request → List ℕ
request_text r = joined 46 (decimal r.student ∷ decimal r.rank ∷ [])

request_found : (ws : List (List ℕ)) (x : Request) (rest : List (List ℕ)) → request_at ws ≡ Some (x, rest) → FitsRequest x × (ws ≡ request_parts x ++ rest)
unfolding request_at
request_found ws x rest e = word_step exact_u32 ws _ _ e (λ student r1 f1 e1 p.
    word_step exact_u8 r1 _ _ p (λ rank r2 f2 e2 p.
    end_step _ x r2 rest p (λ y r. FitsRequest y × (ws ≡ request_parts y ++ r)) ((f1, f2), word_then _ ws r1 _ e1 e2)))

request_again : (x : Request) (rest : List (List ℕ)) → FitsRequest x → Any rest → request_at (request_parts x ++ rest) ≡ Some (x, rest)
unfolding request_at
request_again x rest fits stop = word_back exact_u32 x.student _ _ _ fits.0 (word_back exact_u8 x.rank _ _ _ fits.1 refl)

takes_request : Takes request_at FitsRequest request_parts Any
takes_request = record { found = request_found; again = request_again }

request_apart : (x : Request) → FitsRequest x → ComesApart 46 (request_parts x)
request_apart x fits = pieces_joined 46 (decimal x.student) (decimal x.rank ∷ []) (no_dot x.student fits.0) (no_dot x.rank (omega (arith, fits.1)), tt)

pub exact_request : Exact request_of request_text FitsRequest
exact_request = exact_whole 46 takes_request tt request_apart
