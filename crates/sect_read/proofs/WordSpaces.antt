-- No word has a space.
use Rattle.std.proofs.Common.{◌≡◌, ℕ, suc, zero, ◌==◌, Bool, true, false, List, [], ◌∷◌, ◌++◌, map, refl, arith, decimal, lit<, lit≤, inl}
use Rattle.std.specs.Prelude.{codes, flat_map, ◌&&◌, not}
use Rattle.std.specs.List.{AllByRecursion}
use Rattle.std.proofs.lemmas.Bool.{and_parts, not-true}
use Rattle.sect_base.specs.declared.choice.Choice.{Choice}
use Rattle.sect_base.specs.declared.choice.Curriculum.{Curriculum}
use Rattle.sect_base.specs.declared.limit.Limit.{Limit}
use Rattle.sect_base.specs.declared.limit.Limit.TheVariants.{Unlimited, Places}
use Rattle.sect_base.specs.declared.limit.Caller.{Caller}
use Rattle.sect_base.specs.declared.limit.Caller.TheVariants as callers
use Rattle.sect_base.specs.declared.rule.Rule.{Rule}
use Rattle.sect_base.specs.declared.rule.Rule.TheVariants as rules
use Rattle.sect_base.specs.Tree.{Tree, Trees, broken, split, none, more, rule_number}
use Rattle.sect_base.specs.Pattern.{Pattern}
use Rattle.sect_base.specs.MeetingText.{meeting_text}
use Rattle.sect_reserve.specs.declared.row.Audience.{Audience}
use Rattle.sect_reserve.specs.declared.row.Audience.TheVariants as audiences
use Rattle.sect_command.specs.TreeText.{tree_text, others_text, HasText, HaveTexts}
use Rattle.sect_words.specs.Days.{day_text}
use Rattle.sect_words.specs.Words.{list_text, optional_text, limit_text, section_text, reservation_text, student_text, class_text, major_text, caller_text, curriculum_text, audience_parts, audience_text, sections_text, choice_text}
use Rattle.sect_read.specs.Fits.{Fits32, Fits64, FitsDay, FitsList, FitsLimit, FitsCaller, FitsCurriculum, FitsAudience, FitsChoice}
use Rattle.sect_words.proofs.Pieces.{Lacks, pieces_joined}
use Rattle.sect_read.proofs.Bytes.{lacks_decimal, lacks_low, meeting_all, day_all, all_append, all_joined, each_text}
use Rattle.sect_read.proofs.PartLaws.{ComesApart, lacks_list, lacks_optional}
use Rattle.sect_words.proofs.Dates.{has_day}

-- no byte of the word is a space
abbrev pub Word : List ℕ → Type 0
Word word = Lacks 32 word

abbrev pub Words : List (List ℕ) → Type 0
Words words = AllByRecursion (Lacks 32) words

abbrev pub no_space : List ℕ → Bool
no_space [] = true
no_space (b ∷ bs) = not (b == 32) && no_space bs

-- a word that is written out
pub plain : (word : List ℕ) → no_space word ≡ true → Word word
plain [] e = tt
plain (b ∷ bs) e = let p = and_parts (not (b == 32)) (no_space bs) e in (not-true (b == 32) p.0, plain bs p.1)

pub key : (word : List ℕ) → no_space word ≡ true → Word word
key = plain

pub number : (n : ℕ) → Fits64 n → Word (decimal n)
number n fits = lacks_decimal 32 n (inl (lit< tt)) (omega (arith, fits))

pub words_append : (xs ys : List (List ℕ)) → Words xs → Words ys → Words (xs ++ ys)
words_append [] ys a b = b
words_append (x ∷ xs) ys a b = (a.0, words_append xs ys a.1 b)

pub words_each : {X : Type 0} {Fits : X → Type 0} (words : X → List (List ℕ)) → ((x : X) → Fits x → Words (words x)) → (xs : List X) → FitsList Fits xs → Words (flat_map words xs)
words_each words each [] fits = tt
words_each words each (x ∷ xs) fits = words_append (words x) (flat_map words xs) (each x fits.0) (words_each words each xs fits.1)

-- words without spaces come apart where they are joined by spaces
pub words_apart : (word : List ℕ) (words : List (List ℕ)) → Words (word ∷ words) → ComesApart 32 (word ∷ words)
words_apart word words w = pieces_joined 32 word words w.0 w.1

-- ---- words

pub day_word : (day : ℕ) → FitsDay day → Word (day_text day)
day_word day fits = lacks_low 32 45 (day_text day) (lit< tt) (day_all (day_text day) day (has_day day fits))

pub meeting_word : (p : Pattern) → Word (meeting_text p)
meeting_word p = lacks_low 32 45 (meeting_text p) (lit< tt) (meeting_all p)

pub limit_word : (limit : Limit) → FitsLimit limit → Word (limit_text limit)
limit_word Unlimited fits = (refl, tt)
limit_word (Places n) fits = number n (omega (arith, fits))

pub small : (n : ℕ) → Fits32 n → Word (decimal n)
small n fits = number n (omega (arith, fits))

pub caller_word : (caller : Caller) → FitsCaller caller → Word (caller_text caller)
caller_word (callers.Registrar n) fits = (refl, small n fits)
caller_word (callers.Student id) fits = (refl, small id.0 fits)

pub curriculum_word : (c : Curriculum) → FitsCurriculum c → Word (curriculum_text c)
curriculum_word c fits = all_joined (λ byte. (byte == 32) ≡ false) 58 refl (decimal c.area.0 ∷ decimal c.class.0 ∷ list_text 43 major_text c.majors ∷ [])
    (small c.area.0 fits.0, (small c.class.0 fits.1, (lacks_list 32 major_text refl refl (λ m f. small m.0 f) c.majors fits.2, tt)))

pub audience_word : (a : Audience) → FitsAudience a → Word (audience_text a)
audience_word (audiences.Students ids) fits = all_joined (λ byte. (byte == 32) ≡ false) 58 refl (audience_parts (audiences.Students ids))
    (key (codes "students") refl, (lacks_list 32 student_text refl refl (λ s f. small s.0 f) ids fits, tt))
audience_word (audiences.Group id) fits = all_joined (λ byte. (byte == 32) ≡ false) 58 refl (audience_parts (audiences.Group id)) (key (codes "group") refl, (small id.0 fits, tt))
audience_word (audiences.Curriculum area classes majors) fits = all_joined (λ byte. (byte == 32) ≡ false) 58 refl (audience_parts (audiences.Curriculum area classes majors))
    (key (codes "curriculum") refl, (small area.0 fits.0, (lacks_list 32 class_text refl refl (λ c f. small c.0 f) classes fits.1, (lacks_list 32 major_text refl refl (λ m f. small m.0 f) majors fits.2, tt))))
audience_word (audiences.Course id) fits = all_joined (λ byte. (byte == 32) ≡ false) 58 refl (audience_parts (audiences.Course id)) (key (codes "course") refl, (small id.0 fits, tt))

pub choice_word : (c : Choice) → FitsChoice c → Word (choice_text c)
choice_word c fits = all_joined (λ byte. (byte == 32) ≡ false) 47 refl (decimal c.course.0 ∷ optional_text reservation_text c.reservation ∷ decimal c.config.0 ∷ sections_text c.sections ∷ []) (
  small c.course.0 fits.0,
  (
    lacks_optional 32 reservation_text refl (λ r f. small r.0 f) c.reservation fits.1,
    (
      small c.config.0 fits.2,
      (all_joined (λ byte. (byte == 32) ≡ false) 43 refl (map section_text c.sections) (each_text (λ byte. (byte == 32) ≡ false) section_text (λ s f. small s.0 f) c.sections fits.3.2), tt),
    ),
  ),
)

pub rule_small : (rule : Rule) → Fits64 (rule_number rule)
rule_small rules.InOffering = lit≤ tt
rule_small rules.Credits = lit≤ tt
rule_small rules.NotApplicable = lit≤ tt
rule_small rules.Expired = lit≤ tt
rule_small rules.UsedUp = lit≤ tt
rule_small rules.MustUse = lit≤ tt
rule_small rules.CourseFull = lit≤ tt
rule_small rules.OfferingFull = lit≤ tt
rule_small rules.OfferingReserved = lit≤ tt
rule_small rules.ConfigFull = lit≤ tt
rule_small rules.ConfigReserved = lit≤ tt
rule_small rules.NotIncluded = lit≤ tt
rule_small rules.Restricted = lit≤ tt
rule_small rules.Cancelled = lit≤ tt
rule_small rules.Parent = lit≤ tt
rule_small rules.SectionFull = lit≤ tt
rule_small rules.SectionReserved = lit≤ tt
rule_small rules.Overlap = lit≤ tt
rule_small rules.FreeTime = lit≤ tt
rule_small rules.NotAsked = lit≤ tt

pub rule_word : (rule : Rule) → Word (decimal (rule_number rule))
rule_word rule = number (rule_number rule) (rule_small rule)

pub others_word : (deep : ℕ) → ((u : Tree) → HasText deep u → Word (tree_text u)) → (ts : Trees) → HaveTexts deep ts → Word (others_text ts)
others_word deep one none fits = (refl, tt)
others_word deep one (more t ts) fits = (refl, all_append (λ byte. (byte == 32) ≡ false) (tree_text t) (others_text ts) (one t fits.0) (others_word deep one ts fits.1))

pub tree_word : (deep : ℕ) (t : Tree) → HasText deep t → Word (tree_text t)
tree_word deep (broken rule n) fits = all_append (λ byte. (byte == 32) ≡ false) (decimal (rule_number rule)) (58 ∷ decimal n) (rule_word rule) (refl, number n (omega (arith, fits)))
tree_word zero (split ts) fits = absurd fits
tree_word (suc deep) (split none) fits = absurd fits
tree_word (suc deep) (split (more t ts)) fits = (refl, all_append (λ byte. (byte == 32) ≡ false) (tree_text t) (others_text ts) (tree_word deep t fits.0) (others_word deep (λ u f. tree_word deep u f) ts fits.1))
