-- What stands behind verbs is read exactly: reservations, restrictions, levels, wants and what has a default.
use Rattle.std.proofs.Common.{◌≡◌, ℕ, ◌==◌, ◌+◌, ◌<◌, ◌^◌, Bool, true, false, List, [], ◌∷◌, ◌++◌, length, Option, None, Some, refl, ap, sym, ◌∙◌, subst, append_assoc, arith, decimal, lit≤, lit<}
use Rattle.std.specs.Prelude.{codes, flat_map, ◌||◌, not, if◌then◌else◌}
use Rattle.std.specs.Str.{bytes_eq}
use Rattle.std.proofs.lemmas.Option.{cond_some}
use Rattle.std.proofs.lemmas.Bool.{eqb-true, eq-eqb}
use Rattle.sect_base.specs.declared.ids.CourseId.{CourseId}
use Rattle.sect_base.specs.declared.ids.ConfigId.{ConfigId}
use Rattle.sect_base.specs.declared.ids.SectionId.{SectionId}
use Rattle.sect_base.specs.declared.choice.Want.{Want}
use Rattle.sect_base.specs.declared.limit.Cap.{Cap}
use Rattle.sect_base.specs.declared.limit.Cap.TheVariants as caps
use Rattle.sect_command.specs.declared.command.ReserveRow.{ReserveRow}
use Rattle.sect_command.specs.declared.command.RestrictRow.{RestrictRow}
use Rattle.sect_words.specs.Days.{day_text}
use Rattle.sect_words.specs.Words.{list_text, optional_text, limit_text, course_text, section_text, audience_text}
use Rattle.sect_text.specs.Commands.{mark_words, config_id_words, section_id_words, from_words, cap_words, stated_words, only_words, want_words, optional_give_words}
use Rattle.sect_read.specs.Fits.{FitsDay, FitsList, FitsOptional, FitsReserveRow, FitsRestrictRow, FitsCap, FitsStated, FitsSection, FitsWant, FitsCourse}
use Rattle.sect_read.specs.Lines.{May, IsTake, AreEach}
use Rattle.sect_words.specs.Reading.{◌>>=◌, word_at, each_at, begins, later_parts, mark_at}
use Rattle.sect_words.specs.ReadingWords.{between_of, day_of, list_of, section_of}
use Rattle.sect_read.specs.ReadingRows.{give_starts, give_at}
use Rattle.sect_read.specs.ReadingCommands.{from_at, reserve_at, restrict_at, course_cap_at, config_cap_at, section_cap_at, cap_at, shown_if, stated_at, is_empty, only_at, want_at, take_starts, take_at, optional_give_at}
use Rattle.sect_read.proofs.Steps.{Takes, Any, Quiet, key_step, word_step, words_step, begins_step, bind_found, if_found, end_step, word_then, words_then, word_back, words_back, word_same, mark_found, mark_again, not_first, not_mark}
use Rattle.sect_read.proofs.Rows.{some_found, some_again}
use Rattle.sect_read.proofs.WordLaws.{exact_between}
use Rattle.sect_read.proofs.ValueLaws.{exact_day, exact_optional_day, exact_reservation, exact_restriction, exact_offering, exact_limit, exact_course, exact_config, exact_section, exact_courses, exact_sections_of}
use Rattle.sect_read.proofs.PartLaws.{exact_audience}
use Rattle.sect_read.proofs.RowLaws.{takes_config_ids, takes_section_ids, takes_give}

-- ---- a first day

abbrev StopFrom : List (List ℕ) → Type 0
StopFrom rest = begins (codes "from") rest ≡ false

from_found : (ws : List (List ℕ)) (x : Option ℕ) (rest : List (List ℕ)) → from_at ws ≡ Some (x, rest) → FitsOptional FitsDay x × (ws ≡ from_words x ++ rest)
unfolding from_at
from_found ws x rest e = begins_step (codes "from") ws _ _ _ e
    (λ is e. word_step exact_day (later_parts ws) _ _ e (λ day r1 f1 e1 p.
    end_step (Some day) x r1 rest p (λ y r. FitsOptional FitsDay y × (ws ≡ from_words y ++ r)) (f1, is ∙ ap (λ (vs : List (List ℕ)). codes "from" ∷ vs) e1)))
    (λ no e. end_step None x ws rest e (λ y r. FitsOptional FitsDay y × (ws ≡ from_words y ++ r)) (tt, refl))

from_again : (x : Option ℕ) (rest : List (List ℕ)) → FitsOptional FitsDay x → StopFrom rest → from_at (from_words x ++ rest) ≡ Some (x, rest)
unfolding from_at
from_again None rest fits stop = ap (λ b. if b then (word_at day_of (later_parts rest) >>= λ day. Some (Some day.0, day.1)) else Some (None, rest)) stop
from_again (Some day) rest fits stop = word_back exact_day day rest _ _ fits refl

takes_from : Takes from_at (FitsOptional FitsDay) from_words StopFrom
takes_from = record { found = from_found; again = from_again }

-- ---- reservations and restrictions

-- the permissions of a reservation
abbrev permissions : Bool → Bool → Bool → List (List ℕ)
permissions over overlap must = mark_words (codes "over") over ++ (mark_words (codes "overlap") overlap ++ mark_words (codes "must") must)

-- what stands behind the expiry
abbrev terms : ReserveRow → List (List ℕ)
terms r = from_words r.first ++ (flat_map config_id_words r.configs ++ (flat_map section_id_words r.sections ++ permissions r.over r.overlap r.must))

-- what stands behind the verb of a reservation
abbrev pub reserve_args : ReserveRow → List (List ℕ)
reserve_args r = decimal r.id.0 ∷ decimal r.offering.0 ∷ audience_text r.audience ∷ limit_text r.limit ∷ optional_text day_text r.expiry ∷ terms r

-- parts one behind another, grouped to the left
regroup3 : (a b c rest : List (List ℕ)) → (a ++ (b ++ c)) ++ rest ≡ a ++ (b ++ (c ++ rest))
regroup3 a b c rest = append_assoc a (b ++ c) rest ∙ ap (λ (ws : List (List ℕ)). a ++ ws) (append_assoc b c rest)

permissions_found : (ws : List (List ℕ)) → ws ≡ permissions (mark_at (codes "over") ws).0 (mark_at (codes "overlap") (mark_at (codes "over") ws).1).0 (mark_at (codes "must") (mark_at (codes "overlap") (mark_at (codes "over") ws).1).1).0
    ++ (mark_at (codes "must") (mark_at (codes "overlap") (mark_at (codes "over") ws).1).1).1
permissions_found ws =
    let over = mark_at (codes "over") ws in
    let overlap = mark_at (codes "overlap") over.1 in
    let must = mark_at (codes "must") overlap.1 in
    mark_found (codes "over") ws
    ∙ ap (λ (vs : List (List ℕ)). mark_words (codes "over") over.0 ++ vs) (mark_found (codes "overlap") over.1)
    ∙ ap (λ (vs : List (List ℕ)). mark_words (codes "over") over.0 ++ (mark_words (codes "overlap") overlap.0 ++ vs)) (mark_found (codes "must") overlap.1)
    ∙ sym (regroup3 (mark_words (codes "over") over.0) (mark_words (codes "overlap") overlap.0) (mark_words (codes "must") must.0) must.1)

regroup4 : (a b c d rest : List (List ℕ)) → (a ++ (b ++ (c ++ d))) ++ rest ≡ a ++ (b ++ (c ++ (d ++ rest)))
regroup4 a b c d rest = append_assoc a (b ++ (c ++ d)) rest ∙ ap (λ (ws : List (List ℕ)). a ++ ws) (regroup3 b c d rest)

reserve_found : (ws : List (List ℕ)) (x : ReserveRow) (rest : List (List ℕ)) → reserve_at ws ≡ Some (x, rest) → FitsReserveRow x × (ws ≡ reserve_args x ++ rest)
unfolding reserve_at
reserve_found ws x rest e = word_step exact_reservation ws _ _ e (λ id r1 f1 e1 p.
    word_step exact_offering r1 _ _ p (λ offering r2 f2 e2 p.
    word_step exact_audience r2 _ _ p (λ audience r3 f3 e3 p.
    word_step exact_limit r3 _ _ p (λ limit r4 f4 e4 p.
    word_step exact_optional_day r4 _ _ p (λ expiry r5 f5 e5 p.
    words_step takes_from r5 _ _ p (λ first r6 f6 e6 p.
    words_step takes_config_ids r6 _ _ p (λ configs r7 f7 e7 p.
    words_step takes_section_ids r7 _ _ p (λ sections r8 f8 e8 p.
    let over = mark_at (codes "over") r8 in
    let overlap = mark_at (codes "overlap") over.1 in
    let must = mark_at (codes "must") overlap.1 in
    end_step (record { id = id; offering = offering; audience = audience; limit = limit; first = first; expiry = expiry; configs = configs; sections = sections; over = over.0; overlap = overlap.0; must = must.0 }) x must.1 rest p
    (λ y r. FitsReserveRow y × (ws ≡ reserve_args y ++ r)) (
      (f1, f2, f3, f4, f5, f6, f7, f8),
      word_then _ ws r1 _ e1 (word_then _ r1 r2 _ e2 (word_then _ r2 r3 _ e3 (word_then _ r3 r4 _ e4 (word_then _ r4 r5 _ e5
          (words_then (from_words first) r5 r6 _ e6 (words_then (flat_map config_id_words configs) r6 r7 _ e7 (words_then (flat_map section_id_words sections) r7 r8 _ e8 (permissions_found r8)))
          ∙ sym (regroup4 (from_words first) (flat_map config_id_words configs) (flat_map section_id_words sections) (permissions over.0 overlap.0 must.0) must.1)))))),
    )))))))))

permissions_stop : (word : List ℕ) (over overlap must : Bool) (rest : List (List ℕ)) → bytes_eq (codes "over") word ≡ false → bytes_eq (codes "overlap") word ≡ false → bytes_eq (codes "must") word ≡ false
    → begins word rest ≡ false → begins word (permissions over overlap must ++ rest) ≡ false
permissions_stop word over overlap must rest a b c stop =
    ap (begins word) (regroup3 (mark_words (codes "over") over) (mark_words (codes "overlap") overlap) (mark_words (codes "must") must) rest)
    ∙ not_mark word (codes "over") over (mark_words (codes "overlap") overlap ++ (mark_words (codes "must") must ++ rest)) a
    (not_mark word (codes "overlap") overlap (mark_words (codes "must") must ++ rest) b (not_mark word (codes "must") must rest c stop))

sections_stop : (word : List ℕ) (sections : List SectionId) (over overlap must : Bool) (rest : List (List ℕ)) → bytes_eq (codes "section") word ≡ false → bytes_eq (codes "over") word ≡ false → bytes_eq (codes "overlap") word ≡ false
    → bytes_eq (codes "must") word ≡ false → begins word rest ≡ false → begins word (flat_map section_id_words sections ++ (permissions over overlap must ++ rest)) ≡ false
sections_stop word sections over overlap must rest s a b c stop = not_first word section_id_words (λ x r. s) sections (permissions over overlap must ++ rest) (permissions_stop word over overlap must rest a b c stop)

from_stop : (configs : List ConfigId) (sections : List SectionId) (over overlap must : Bool) (rest : List (List ℕ)) → begins (codes "from") rest ≡ false
    → begins (codes "from") (flat_map config_id_words configs ++ (flat_map section_id_words sections ++ (permissions over overlap must ++ rest))) ≡ false
from_stop configs sections over overlap must rest stop =
    not_first (codes "from") config_id_words (λ x r. refl) configs (flat_map section_id_words sections ++ (permissions over overlap must ++ rest)) (sections_stop (codes "from") sections over overlap must rest refl refl refl refl stop)

permissions_again : {A : Type 0} (make : Bool → Bool → Bool → A) (over overlap must : Bool) (rest : List (List ℕ)) → Quiet rest →
    (let a = mark_at (codes "over") (permissions over overlap must ++ rest) in let b = mark_at (codes "overlap") a.1 in let c = mark_at (codes "must") b.1 in
    ◌≡◌ {A = Option (A × List (List ℕ))} (Some (make a.0 b.0 c.0, c.1)) (Some (make over overlap must, rest)))
permissions_again make over overlap must rest quiet =
    let third = mark_words (codes "must") must ++ rest in
    let second = mark_words (codes "overlap") overlap ++ third in
    let whole = regroup3 (mark_words (codes "over") over) (mark_words (codes "overlap") overlap) (mark_words (codes "must") must) rest in
    let one = mark_again (codes "over") over second (not_mark (codes "over") (codes "overlap") overlap third refl (not_mark (codes "over") (codes "must") must rest refl (quiet 111 _ (lit≤ tt)))) in
    let two = mark_again (codes "overlap") overlap third (not_mark (codes "overlap") (codes "must") must rest refl (quiet 111 _ (lit≤ tt))) in
    let three = mark_again (codes "must") must rest (quiet 109 _ (lit≤ tt)) in
    ap (λ (ws : List (List ℕ)). Some (
      make (mark_at (codes "over") ws).0 (mark_at (codes "overlap") (mark_at (codes "over") ws).1).0 (mark_at (codes "must") (mark_at (codes "overlap") (mark_at (codes "over") ws).1).1).0,
      (mark_at (codes "must") (mark_at (codes "overlap") (mark_at (codes "over") ws).1).1).1,
    )) whole
    ∙ ap (λ (p : Bool × List (List ℕ)). Some (make p.0 (mark_at (codes "overlap") p.1).0 (mark_at (codes "must") (mark_at (codes "overlap") p.1).1).0, (mark_at (codes "must") (mark_at (codes "overlap") p.1).1).1)) one
    ∙ ap (λ (p : Bool × List (List ℕ)). Some (make over p.0 (mark_at (codes "must") p.1).0, (mark_at (codes "must") p.1).1)) two
    ∙ ap (λ (p : Bool × List (List ℕ)). Some (make over overlap p.0, p.1)) three

reserve_again : (x : ReserveRow) (rest : List (List ℕ)) → FitsReserveRow x → Quiet rest → reserve_at (reserve_args x ++ rest) ≡ Some (x, rest)
unfolding reserve_at
reserve_again x rest fits quiet =
    let marks = permissions x.over x.overlap x.must in
    ap (λ (ws : List (List ℕ)). reserve_at (decimal x.id.0 ∷ decimal x.offering.0 ∷ audience_text x.audience ∷ limit_text x.limit ∷ optional_text day_text x.expiry ∷ ws))
    (regroup4 (from_words x.first) (flat_map config_id_words x.configs) (flat_map section_id_words x.sections) marks rest)
    ∙ word_back exact_reservation x.id _ _ _ fits.0 (word_back exact_offering x.offering _ _ _ fits.1 (word_back exact_audience x.audience _ _ _ fits.2
    (word_back exact_limit x.limit _ _ _ fits.3 (word_back exact_optional_day x.expiry _ _ _ fits.4
    (words_back takes_from x.first (flat_map config_id_words x.configs ++ (flat_map section_id_words x.sections ++ (marks ++ rest))) _ _ fits.5
    (from_stop x.configs x.sections x.over x.overlap x.must rest (quiet 102 _ (lit≤ tt)))
    (words_back takes_config_ids x.configs (flat_map section_id_words x.sections ++ (marks ++ rest)) _ _ fits.6
    (tt, sections_stop (codes "config") x.sections x.over x.overlap x.must rest refl refl refl refl (quiet 99 _ (lit≤ tt)))
    (words_back takes_section_ids x.sections (marks ++ rest) _ _ fits.7 (tt, permissions_stop (codes "section") x.over x.overlap x.must rest refl refl refl (quiet 115 _ (lit≤ tt)))
    (permissions_again (λ a b c. record { id = x.id; offering = x.offering; audience = x.audience; limit = x.limit; first = x.first; expiry = x.expiry; configs = x.configs; sections = x.sections; over = a; overlap = b; must = c })
    x.over x.overlap x.must rest quiet))))))))

pub takes_reserve : Takes reserve_at FitsReserveRow reserve_args Quiet
takes_reserve = record { found = reserve_found; again = reserve_again }

-- what stands behind the verb of a restriction
abbrev pub restrict_args : RestrictRow → List (List ℕ)
restrict_args r = decimal r.id.0 ∷ decimal r.offering.0 ∷ audience_text r.audience ∷ flat_map config_id_words r.configs ++ flat_map section_id_words r.sections

restrict_found : (ws : List (List ℕ)) (x : RestrictRow) (rest : List (List ℕ)) → restrict_at ws ≡ Some (x, rest) → FitsRestrictRow x × (ws ≡ restrict_args x ++ rest)
unfolding restrict_at
restrict_found ws x rest e = word_step exact_restriction ws _ _ e (λ id r1 f1 e1 p.
    word_step exact_offering r1 _ _ p (λ offering r2 f2 e2 p.
    word_step exact_audience r2 _ _ p (λ audience r3 f3 e3 p.
    words_step takes_config_ids r3 _ _ p (λ configs r4 f4 e4 p.
    words_step takes_section_ids r4 _ _ p (λ sections r5 f5 e5 p.
    end_step _ x r5 rest p (λ y r. FitsRestrictRow y × (ws ≡ restrict_args y ++ r)) (
      (f1, f2, f3, f4, f5),
      word_then _ ws r1 _ e1 (word_then _ r1 r2 _ e2 (word_then _ r2 r3 _ e3
          (words_then (flat_map config_id_words configs) r3 r4 _ e4 e5 ∙ sym (append_assoc (flat_map config_id_words configs) (flat_map section_id_words sections) r5)))),
    ))))))

restrict_again : (x : RestrictRow) (rest : List (List ℕ)) → FitsRestrictRow x → Quiet rest → restrict_at (restrict_args x ++ rest) ≡ Some (x, rest)
unfolding restrict_at
restrict_again x rest fits quiet =
    ap (λ (ws : List (List ℕ)). restrict_at (decimal x.id.0 ∷ decimal x.offering.0 ∷ audience_text x.audience ∷ ws)) (append_assoc (flat_map config_id_words x.configs) (flat_map section_id_words x.sections) rest)
    ∙ word_back exact_restriction x.id _ _ _ fits.0 (word_back exact_offering x.offering _ _ _ fits.1 (word_back exact_audience x.audience _ _ _ fits.2
    (words_back takes_config_ids x.configs (flat_map section_id_words x.sections ++ rest) _ _ fits.3 (tt, not_first (codes "config") section_id_words (λ y r. refl) x.sections rest (quiet 99 _ (lit≤ tt)))
    (words_back takes_section_ids x.sections rest _ _ fits.4 (tt, quiet 115 _ (lit≤ tt)) refl))))

pub takes_restrict : Takes restrict_at FitsRestrictRow restrict_args Quiet
takes_restrict = record { found = restrict_found; again = restrict_again }

-- ---- levels

course_cap_found : (ws : List (List ℕ)) (x : Cap) (rest : List (List ℕ)) → course_cap_at ws ≡ Some (x, rest) → FitsCap x × (codes "course" ∷ ws ≡ cap_words x ++ rest)
unfolding course_cap_at
course_cap_found ws x rest e = word_step exact_course ws _ _ e (λ id r1 f1 e1 p.
    end_step (caps.Course id) x r1 rest p (λ y r. FitsCap y × (codes "course" ∷ ws ≡ cap_words y ++ r)) (f1, ap (λ (vs : List (List ℕ)). codes "course" ∷ vs) e1))

config_cap_found : (ws : List (List ℕ)) (x : Cap) (rest : List (List ℕ)) → config_cap_at ws ≡ Some (x, rest) → FitsCap x × (codes "config" ∷ ws ≡ cap_words x ++ rest)
unfolding config_cap_at
config_cap_found ws x rest e = word_step exact_config ws _ _ e (λ id r1 f1 e1 p.
    end_step (caps.Config id) x r1 rest p (λ y r. FitsCap y × (codes "config" ∷ ws ≡ cap_words y ++ r)) (f1, ap (λ (vs : List (List ℕ)). codes "config" ∷ vs) e1))

section_cap_found : (ws : List (List ℕ)) (x : Cap) (rest : List (List ℕ)) → section_cap_at ws ≡ Some (x, rest) → FitsCap x × (codes "section" ∷ ws ≡ cap_words x ++ rest)
unfolding section_cap_at
section_cap_found ws x rest e = word_step exact_section ws _ _ e (λ id r1 f1 e1 p.
    end_step (caps.Section id) x r1 rest p (λ y r. FitsCap y × (codes "section" ∷ ws ≡ cap_words y ++ r)) (f1, ap (λ (vs : List (List ℕ)). codes "section" ∷ vs) e1))

cap_found : (ws : List (List ℕ)) (x : Cap) (rest : List (List ℕ)) → cap_at ws ≡ Some (x, rest) → FitsCap x × (ws ≡ cap_words x ++ rest)
unfolding cap_at
cap_found ws x rest e = begins_step (codes "course") ws _ _ _ e
    (λ is e. let q = course_cap_found (later_parts ws) x rest e in (q.0, is ∙ q.1))
    (λ no e. begins_step (codes "config") ws _ _ _ e
    (λ is e. let q = config_cap_found (later_parts ws) x rest e in (q.0, is ∙ q.1))
    (λ no e. begins_step (codes "section") ws _ _ _ e
    (λ is e. let q = section_cap_found (later_parts ws) x rest e in (q.0, is ∙ q.1))
    (λ no e. absurd (cc))))

cap_again : (x : Cap) (rest : List (List ℕ)) → FitsCap x → Any rest → cap_at (cap_words x ++ rest) ≡ Some (x, rest)
unfolding cap_at course_cap_at config_cap_at section_cap_at
cap_again (caps.Course id) rest fits stop = word_back exact_course id rest _ _ fits refl
cap_again (caps.Config id) rest fits stop = word_back exact_config id rest _ _ fits refl
cap_again (caps.Section id) rest fits stop = word_back exact_section id rest _ _ fits refl

pub takes_cap : Takes cap_at FitsCap cap_words Any
takes_cap = record { found = cap_found; again = cap_again }

-- ---- what has a default

abbrev NotDefault : Bool → ℕ → ℕ → Bool
NotDefault shown n default = shown || not (n == default)

stated_left : (key : List ℕ) (default n : ℕ) (shown : Bool) → NotDefault shown n default ≡ true → stated_words key default shown n ≡ key ∷ decimal n ∷ []
stated_left key default n shown e = ap (λ b. if b then key ∷ decimal n ∷ [] else []) e

stated_out : (key : List ℕ) (default : ℕ) → stated_words key default false default ≡ []
stated_out key default = ap (λ b. if not b then key ∷ decimal default ∷ [] else []) (eq-eqb default default refl)

may_same : (shown : Bool) → May shown shown
may_same shown e = e

may_none : (shown : Bool) → May shown false
may_none shown e = absurd (cc)

-- what is read as a stated number is spelled so
pub stated_found : (key : List ℕ) (most default : ℕ) (shown : Bool) → most < 2 ^ 64 → FitsStated most default → (ws : List (List ℕ)) (n : ℕ) (rest : List (List ℕ)) → stated_at key most default shown ws ≡ Some (n, rest)
    → (written : Bool) × May shown written × FitsStated most n × (ws ≡ stated_words key default written n ++ rest)
unfolding stated_at
stated_found key most default shown small fits ws n rest e = begins_step key ws _ _ _ e
    (λ is e. word_step (exact_between 1 most small) (later_parts ws) _ _ e (λ m r1 f1 e1 p.
    let test = cond_some (NotDefault shown m default) (m, r1) (n, rest) p in
    subst (λ (q : ℕ × List (List ℕ)). (written : Bool) × May shown written × FitsStated most q.0 × (ws ≡ stated_words key default written q.0 ++ q.1)) test.1
    (shown, may_same shown, f1, is ∙ ap (λ (vs : List (List ℕ)). key ∷ vs) e1 ∙ ap (λ (vs : List (List ℕ)). vs ++ r1) (sym (stated_left key default m shown test.0)))))
    (λ no e. end_step default n ws rest e (λ k r. (written : Bool) × May shown written × FitsStated most k × (ws ≡ stated_words key default written k ++ r))
    (false, may_none shown, fits, ap (λ (vs : List (List ℕ)). vs ++ ws) (sym (stated_out key default))))

shown_by : (shown written : Bool) (n default : ℕ) → May shown written → NotDefault written n default ≡ true → NotDefault shown n default ≡ true
shown_by true written n default may e = refl
shown_by false true n default may e = absurd (let p : false ≡ true = may refl in cc)
shown_by false false n default may e = e

default_by : (written : Bool) (n default : ℕ) → NotDefault written n default ≡ false → n ≡ default
default_by true n default e = absurd (cc)
default_by false n default e = by (n == default) refl e
  where
    by : (b : Bool) → (n == default) ≡ b → not b ≡ false → n ≡ default
    by true is e = eqb-true n default is
    by false is e = absurd (cc)

stated_by : (key : List ℕ) (most default : ℕ) (shown written : Bool) → most < 2 ^ 64 → (n : ℕ) (rest : List (List ℕ)) → May shown written → FitsStated most n → begins key rest ≡ false → (b : Bool) → NotDefault written n default ≡ b
    → stated_at key most default shown ((if b then key ∷ decimal n ∷ [] else []) ++ rest) ≡ Some (n, rest)
unfolding stated_at
stated_by key most default shown written small n rest may fits stop true is =
    ap (λ b. if b then (word_at (between_of 1 most) (decimal n ∷ rest) >>= λ m. shown_if (NotDefault shown m.0 default) m) else Some (default, key ∷ decimal n ∷ rest)) (word_same key key refl)
    ∙ word_back (exact_between 1 most small) n rest _ _ fits (ap (λ b. if b then Some (n, rest) else None) (shown_by shown written n default may is))
stated_by key most default shown written small n rest may fits stop false is =
    ap (λ b. if b then (word_at (between_of 1 most) (later_parts rest) >>= λ m. shown_if (NotDefault shown m.0 default) m) else Some (default, rest)) stop
    ∙ ap (λ (m : ℕ). Some (m, rest)) (sym (default_by written n default is))

-- what is spelled as a stated number is read so
pub stated_again : (key : List ℕ) (most default : ℕ) (shown written : Bool) → most < 2 ^ 64 → (n : ℕ) (rest : List (List ℕ)) → May shown written → FitsStated most n → begins key rest ≡ false
    → stated_at key most default shown (stated_words key default written n ++ rest) ≡ Some (n, rest)
stated_again key most default shown written small n rest may fits stop = stated_by key most default shown written small n rest may fits stop (NotDefault written n default) refl

-- a stated number begins with no other key
pub stated_stop : (word key : List ℕ) (default : ℕ) (written : Bool) (n : ℕ) (rest : List (List ℕ)) → bytes_eq key word ≡ false → begins word rest ≡ false → begins word (stated_words key default written n ++ rest) ≡ false
stated_stop word key default written n rest apart stop = by (NotDefault written n default)
  where
    by : (b : Bool) → begins word ((if b then key ∷ decimal n ∷ [] else []) ++ rest) ≡ false
    by true = apart
    by false = stop

only_left : (shown : Bool) (ids : List SectionId) → (shown || not (is_empty ids)) ≡ true → only_words shown ids ≡ codes "only" ∷ list_text 43 section_text ids ∷ []
only_left true ids e = refl
only_left false [] e = absurd (cc)
only_left false (id ∷ ids) e = refl

only_found : (shown : Bool) (ws : List (List ℕ)) (ids : List SectionId) (rest : List (List ℕ)) → only_at shown ws ≡ Some (ids, rest)
    → (written : Bool) × May shown written × FitsList FitsSection ids × (ws ≡ only_words written ids ++ rest)
unfolding only_at
only_found shown ws ids rest e = begins_step (codes "only") ws _ _ _ e
    (λ is e. word_step exact_sections_of (later_parts ws) _ _ e (λ all r1 f1 e1 p.
    let test = cond_some (shown || not (is_empty all)) (all, r1) (ids, rest) p in
    subst (λ (q : List SectionId × List (List ℕ)). (written : Bool) × May shown written × FitsList FitsSection q.0 × (ws ≡ only_words written q.0 ++ q.1)) test.1
    (shown, may_same shown, f1, is ∙ ap (λ (vs : List (List ℕ)). codes "only" ∷ vs) e1 ∙ ap (λ (vs : List (List ℕ)). vs ++ r1) (sym (only_left shown all test.0)))))
    (λ no e. end_step [] ids ws rest e (λ k r. (written : Bool) × May shown written × FitsList FitsSection k × (ws ≡ only_words written k ++ r)) (false, may_none shown, tt, refl))

only_here : (shown : Bool) (ids : List SectionId) (rest : List (List ℕ)) → (shown || not (is_empty ids)) ≡ true → FitsList FitsSection ids → only_at shown (codes "only" ∷ list_text 43 section_text ids ∷ rest) ≡ Some (ids, rest)
unfolding only_at
only_here shown ids rest e fits = word_back exact_sections_of ids rest _ _ fits (ap (λ b. if b then Some (ids, rest) else None) e)

only_again : (shown written : Bool) (ids : List SectionId) (rest : List (List ℕ)) → May shown written → FitsList FitsSection ids → begins (codes "only") rest ≡ false → only_at shown (only_words written ids ++ rest) ≡ Some (ids, rest)
unfolding only_at
only_again shown true ids rest may fits stop = only_here shown ids rest (ap (λ b. b || not (is_empty ids)) (may refl)) fits
only_again shown false [] rest may fits stop = ap (λ b. if b then (word_at (list_of 43 section_of) (later_parts rest) >>= λ ids. shown_if (shown || not (is_empty ids.0)) ids) else Some ([], rest)) stop
only_again shown false (id ∷ ids) rest may fits stop = only_here shown (id ∷ ids) rest (by shown) fits
  where
    by : (b : Bool) → (b || true) ≡ true
    by true = refl
    by false = refl

-- what may follow a want
abbrev pub StopWant : List (List ℕ) → Type 0
StopWant rest = (begins (codes "only") rest ≡ false) × (begins (codes "rank") rest ≡ false)

-- the words are those of the want
abbrev pub IsWant : Bool → Want → List (List ℕ) → Type 0
IsWant shown want words = (only rank : Bool) × May shown only × May shown rank × FitsWant want × (words ≡ want_words only rank want)

pub want_found : (shown : Bool) (ws : List (List ℕ)) (x : Want) (rest : List (List ℕ)) → want_at shown ws ≡ Some (x, rest) → (t : List (List ℕ)) × IsWant shown x t × (ws ≡ t ++ rest)
unfolding want_at
want_found shown ws x rest e = word_step exact_courses ws _ _ e (λ courses r1 f1 e1 p.
    bind_found (only_at shown r1) _ _ p (λ only is2 p.
    bind_found (stated_at (codes "rank") 21 21 shown only.1) _ _ p (λ rank is3 p.
    let o = only_found shown r1 only.0 only.1 is2 in
    let r = stated_found (codes "rank") 21 21 shown (lit< tt) (omega arith, omega arith) only.1 rank.0 rank.1 is3 in
    let w : Want = record { courses = courses; only = only.0; rank = rank.0 } in
    end_step w x rank.1 rest p (λ y s. (t : List (List ℕ)) × IsWant shown y t × (ws ≡ t ++ s)) (
      want_words o.0 r.0 w,
      (o.0, r.0, o.1, r.1, (f1, o.2, r.2), refl),
      word_then _ ws r1 _ e1 (words_then (only_words o.0 only.0) r1 only.1 _ o.3 r.3 ∙ sym (append_assoc (only_words o.0 only.0) (stated_words (codes "rank") 21 r.0 rank.0) rank.1)),
    ))))

want_words_again : (shown only rank : Bool) (x : Want) (rest : List (List ℕ)) → May shown only → May shown rank → FitsWant x → StopWant rest → want_at shown (want_words only rank x ++ rest) ≡ Some (x, rest)
unfolding want_at
want_words_again shown only rank x rest may_only may_rank fits stop =
    ap (λ (ws : List (List ℕ)). want_at shown (list_text 43 course_text x.courses ∷ ws)) (append_assoc (only_words only x.only) (stated_words (codes "rank") 21 rank x.rank) rest)
    ∙ word_back exact_courses x.courses _ _ _ fits.0 (
    ap (λ o. o >>= λ ids. stated_at (codes "rank") 21 21 shown ids.1 >>= λ n. Some (record { courses = x.courses; only = ids.0; rank = n.0 }, n.1))
    (only_again shown only x.only (stated_words (codes "rank") 21 rank x.rank ++ rest) may_only fits.1 (stated_stop (codes "only") (codes "rank") 21 rank x.rank rest refl stop.0))
    ∙ ap (λ o. o >>= λ n. Some (record { courses = x.courses; only = x.only; rank = n.0 }, n.1)) (stated_again (codes "rank") 21 21 shown rank (lit< tt) x.rank rest may_rank fits.2 stop.1))

pub want_again : (shown : Bool) (x : Want) (t rest : List (List ℕ)) → IsWant shown x t → StopWant rest → want_at shown (t ++ rest) ≡ Some (x, rest)
want_again shown x t rest is stop = ap (λ (ws : List (List ℕ)). want_at shown (ws ++ rest)) is.5 ∙ want_words_again shown is.0 is.1 x rest is.2 is.3 is.4 stop

-- ---- wants that are taken, and a course that is given up

take_found : (shown : Bool) (ws : List (List ℕ)) (x : Want) (rest : List (List ℕ)) → take_at shown ws ≡ Some (x, rest) → (t : List (List ℕ)) × IsTake shown x t × (ws ≡ t ++ rest)
unfolding take_at
take_found shown ws x rest e = key_step (codes "take") ws _ _ e (λ r0 e0 p.
    let w = want_found shown r0 x rest p in
    (codes "take" ∷ w.0, (w.1.0, w.1.1, w.1.2, w.1.3, w.1.4, ap (λ (vs : List (List ℕ)). codes "take" ∷ vs) w.1.5), word_then (codes "take") ws r0 _ e0 w.2))

take_again : (shown : Bool) (x : Want) (t rest : List (List ℕ)) → IsTake shown x t → StopWant rest → take_at shown (t ++ rest) ≡ Some (x, rest)
unfolding take_at
take_again shown x t rest is stop = ap (λ (ws : List (List ℕ)). take_at shown (ws ++ rest)) is.5 ∙ want_words_again shown is.0 is.1 x rest is.2 is.3 is.4 stop

-- what is read as wants that are taken is spelled so
pub takes_found : (shown : Bool) (ws : List (List ℕ)) (xs : List Want) (rest : List (List ℕ)) → each_at take_starts (take_at shown) ws ≡ Some (xs, rest)
    → (t : List (List ℕ)) × AreEach (IsTake shown) xs t × (ws ≡ t ++ rest)
takes_found shown ws xs rest e = some_found take_starts (take_at shown) (IsTake shown) (take_found shown) (length ws + 1) ws xs rest e

-- what is spelled as wants that are taken is read so
pub takes_again : (shown : Bool) (xs : List Want) (t rest : List (List ℕ)) → AreEach (IsTake shown) xs t → StopWant rest → take_starts rest ≡ false → each_at take_starts (take_at shown) (t ++ rest) ≡ Some (xs, rest)
takes_again shown xs t rest each stop last =
    some_again take_starts (take_at shown) (IsTake shown) StopWant (take_again shown)
    (λ x t rest is. ap (λ (ws : List (List ℕ)). take_starts (ws ++ rest)) is.5)
    (λ x t rest is. (ap (λ (ws : List (List ℕ)). begins (codes "only") (ws ++ rest)) is.5, ap (λ (ws : List (List ℕ)). begins (codes "rank") (ws ++ rest)) is.5))
    (λ x t is. subst (λ (ws : List (List ℕ)). 0 < length ws) (sym is.5) (omega arith))
    (length (t ++ rest) + 1) xs t rest each stop last (omega arith)

-- a row of wants that are taken begins with no other key
pub takes_stop : (shown : Bool) (word : List ℕ) (xs : List Want) (t rest : List (List ℕ)) → bytes_eq (codes "take") word ≡ false → AreEach (IsTake shown) xs t → begins word rest ≡ false → begins word (t ++ rest) ≡ false
takes_stop shown word [] t rest apart e stop = ap (λ (ws : List (List ℕ)). begins word (ws ++ rest)) e ∙ stop
takes_stop shown word (x ∷ xs) t rest apart each stop =
    ap (λ (ws : List (List ℕ)). begins word (ws ++ rest)) (each.4 ∙ ap (λ (ws : List (List ℕ)). ws ++ each.1) each.2.5) ∙ apart

abbrev StopGive : List (List ℕ) → Type 0
StopGive rest = begins (codes "give") rest ≡ false

optional_give_found : (ws : List (List ℕ)) (x : Option CourseId) (rest : List (List ℕ)) → optional_give_at ws ≡ Some (x, rest) → FitsOptional FitsCourse x × (ws ≡ optional_give_words x ++ rest)
unfolding optional_give_at
optional_give_found ws x rest e = if_found (give_starts ws) _ _ _ e
    (λ is e. words_step takes_give ws _ _ e (λ course r1 f1 e1 p. end_step (Some course) x r1 rest p (λ y r. FitsOptional FitsCourse y × (ws ≡ optional_give_words y ++ r)) (f1, e1)))
    (λ no e. end_step None x ws rest e (λ y r. FitsOptional FitsCourse y × (ws ≡ optional_give_words y ++ r)) (tt, refl))

optional_give_again : (x : Option CourseId) (rest : List (List ℕ)) → FitsOptional FitsCourse x → StopGive rest → optional_give_at (optional_give_words x ++ rest) ≡ Some (x, rest)
unfolding optional_give_at
optional_give_again None rest fits stop = ap (λ b. if b then (give_at rest >>= λ course. Some (Some course.0, course.1)) else Some (None, rest)) stop
optional_give_again (Some id) rest fits stop = words_back takes_give id rest _ _ fits tt refl

pub takes_optional_give : Takes optional_give_at (FitsOptional FitsCourse) optional_give_words StopGive
takes_optional_give = record { found = optional_give_found; again = optional_give_again }
