-- What is read of a word has a text.
use Rattle.std.proofs.Common.{◌≡◌, ℕ, ◌+◌, ◌-◌, ◌/◌, ◌<◌, ◌≤◌, ◌^◌, true, false, Bool, List, [], ◌∷◌, Option, None, Some, refl, subst, arith, nat_le, lit<}
use Rattle.std.specs.Prelude.{◌&&◌}
use Rattle.std.specs.Str.{bytes_eq}
use Rattle.std.specs.Option.{option_map, option_or}
use Rattle.std.specs.List.{AllByRecursion}
use Rattle.std.proofs.lemmas.Option.{cond_some}
use Rattle.std.proofs.lemmas.Bool.{leb-true, and_parts}
use Rattle.sect_catalog.specs.declared.row.CourseRow.{CourseRow}
use Rattle.sect_base.specs.Pattern.{Pattern, IsPattern}
use Rattle.sect_base.specs.Weeks.{week_range}
use Rattle.sect_base.proofs.WeekLemmas.{week_range_sixty, week_range_some}
use Rattle.sect_words.specs.Parts.{joined, pieces}
use Rattle.sect_words.specs.Reading.{all_of, any_word, whole, word_at}
use Rattle.sect_words.specs.ReadingWords.{course_parts_at, course_row_of, list_of, meeting_of, optional_of}
use Rattle.sect_words.specs.Times.{dated_at, dated_of, dates_of, days_at, term_meeting_of, weeks_between}
use Rattle.sect_words.specs.Words.{dash}
use Rattle.sect_read.specs.Fits.{FitsCourseRow, FitsList, FitsOptional}
use Rattle.sect_read.proofs.PartLaws.{exact_audience, exact_curriculum}
use Rattle.sect_read.proofs.Steps.{Exact, bind_found, end_step, if_found, rest_found, whole_found, word_step}
use Rattle.sect_read.proofs.ValueLaws.{exact_course, exact_limit, exact_meeting}
use Rattle.sect_read.proofs.WordLaws.{exact_between}

-- whatever a reader gives of a word has a text
abbrev pub Sound : {X : Type 0} → (List ℕ → Option X) → (X → Type 0) → Type 0
Sound {X} of Fits = (word : List ℕ) (x : X) → of word ≡ Some x → Fits x

pub exact_sound : {X : Type 0} {of : List ℕ → Option X} {text : X → List ℕ} {Fits : X → Type 0} → Exact of text Fits → Sound of Fits
exact_sound exact word x e = (exact.found word x e).0

module _ {X : Type 0} {of : List ℕ → Option X} {Fits : X → Type 0} (sound : Sound of Fits) where
  -- of the first part
  pub word_sound : (parts : List (List ℕ)) (x : X) (rest : List (List ℕ)) → word_at of parts ≡ Some (x, rest) → Fits x
  word_sound [] x rest e = absurd (cc)
  word_sound (part ∷ parts) x rest e = sound part x (rest_found parts (of part) x rest e).0

  -- of all parts
  pub all_sound : (parts : List (List ℕ)) (xs : List X) → all_of of parts ≡ Some xs → FitsList Fits xs
  all_sound [] [] e = tt
  all_sound [] (x ∷ xs) e = absurd (cc)
  all_sound (part ∷ parts) xs e = bind_found (of part) _ _ e (λ y is e. bind_found (all_of of parts) _ _ e (λ ys more e.
      let same : y ∷ ys ≡ xs = cc in
      subst (λ (zs : List X). AllByRecursion Fits zs) same (sound part y is, all_sound parts ys more)))

  -- of a list
  pub list_sound : (mark : ℕ) → Sound (list_of mark of) (FitsList Fits)
  unfolding list_of
  list_sound mark word xs e = if_found (bytes_eq word dash) (Some []) (all_of of (pieces mark word)) xs e
      (λ b e. let same : [] ≡ xs = cc in subst (λ (zs : List X). FitsList Fits zs) same tt)
      (λ b e. all_sound (pieces mark word) xs e)

  -- of what may be missing
  pub optional_sound : Sound (optional_of of) (FitsOptional Fits)
  unfolding optional_of
  optional_sound word o e = if_found (bytes_eq word dash) (Some None) (option_map Some (of word)) o e
      (λ b e. let same : None ≡ o = cc in subst (λ (p : Option X). FitsOptional Fits p) same tt)
      (λ b e. by (of word) refl e)
    where
      by : (p : Option X) → of word ≡ p → option_map Some p ≡ Some o → FitsOptional Fits o
      by None is e = absurd (cc)
      by (Some x) is e = let same : Some x ≡ o = cc in subst (λ (p : Option X). FitsOptional Fits p) same (sound word x is)

-- ---- courses

course_parts_sound : (parts : List (List ℕ)) (x : CourseRow) (rest : List (List ℕ)) → course_parts_at parts ≡ Some (x, rest) → FitsCourseRow x
unfolding course_parts_at
course_parts_sound parts x rest e = word_step exact_course parts _ _ e (λ id r1 f1 e1 p.
    word_step exact_limit r1 _ _ p (λ limit r2 f2 e2 p.
    word_step (exact_between 0 30 (lit< tt)) r2 _ _ p (λ credits r3 f3 e3 p.
    end_step _ x r3 rest p (λ y r. FitsCourseRow y) (f1, f2, f3.1))))

pub course_row_sound : Sound course_row_of FitsCourseRow
course_row_sound word x e = course_parts_sound (pieces 58 word) x [] (whole_found (course_parts_at (pieces 58 word)) x e)

-- ---- meetings

-- some of the sixty weeks
abbrev SomeWeeks : ℕ → Type 0
SomeWeeks weeks = (0 < weeks) × (weeks < 2 ^ 60)

between_sound : (term first last weeks : ℕ) → weeks_between term first last ≡ Some weeks → SomeWeeks weeks
between_sound term first last weeks e =
    let test = cond_some (nat_le term first && nat_le first last && nat_le last (term + 419)) (week_range ((first - term) / 7) ((last - term) / 7)) weeks e in
    let outer = and_parts (nat_le term first && nat_le first last) (nat_le last (term + 419)) test.0 in
    let inner = and_parts (nat_le term first) (nat_le first last) outer.0 in
    let begun = leb-true term first inner.0 in
    let order = leb-true first last inner.1 in
    let within = leb-true last (term + 419) outer.1 in
    subst SomeWeeks test.1 (
      week_range_some ((first - term) / 7) ((last - term) / 7) (omega (arith, begun, order)),
      week_range_sixty ((first - term) / 7) ((last - term) / 7) (omega (arith, begun, order, within)),
    )

dates_sound : (term : ℕ) → Sound (dates_of term) SomeWeeks
unfolding dates_of
dates_sound term word weeks e = bind_found (whole (days_at (pieces 46 word))) _ _ e (λ days is e. between_sound term days.0 days.1 weeks e)

dated_parts_sound : (term : ℕ) (parts : List (List ℕ)) (x : Pattern) (rest : List (List ℕ)) → dated_at term parts ≡ Some (x, rest) → IsPattern x
unfolding dated_at
dated_parts_sound term parts x rest e = bind_found (word_at any_word parts) _ _ e (λ days is1 e.
    bind_found (word_at any_word days.1) _ _ e (λ time is2 e.
    bind_found (word_at (dates_of term) time.1) _ _ e (λ weeks is3 e.
    bind_found (meeting_of (joined 47 (days.0 ∷ time.0 ∷ (49 ∷ []) ∷ []))) _ _ e (λ meeting is4 e.
    let m = (exact_meeting.found (joined 47 (days.0 ∷ time.0 ∷ (49 ∷ []) ∷ [])) meeting is4).0 in
    let w = word_sound (dates_sound term) time.1 weeks.0 weeks.1 is3 in
    end_step _ x weeks.1 rest e (λ y r. IsPattern y) (record {
      some_day = m.some_day;
      weekdays = m.weekdays;
      begins = m.begins;
      some_slot = m.some_slot;
      ends = m.ends;
      some_week = w.0;
      sixty_weeks = w.1;
    })))))

dated_sound : (term : ℕ) → Sound (dated_of term) IsPattern
dated_sound term word x e = dated_parts_sound term (pieces 47 word) x [] (whole_found (dated_at term (pieces 47 word)) x e)

pub term_meeting_sound : (term : Option ℕ) → Sound (term_meeting_of term) IsPattern
term_meeting_sound None word x e = (exact_meeting.found word x e).0
term_meeting_sound (Some term) word x e = by (meeting_of word) refl e
  where
    by : (o : Option Pattern) → meeting_of word ≡ o → option_or o (dated_of term word) ≡ Some x → IsPattern x
    by (Some y) is e = let same : y ≡ x = cc in subst IsPattern same (exact_meeting.found word y is).0
    by None is e = dated_sound term word x e
