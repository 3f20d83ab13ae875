-- No byte of a word, and of words with spaces between them, is below a space: so none is a line feed or a carriage return.
use Rattle.std.proofs.Common.{◌≡◌, ℕ, suc, zero, ◌==◌, ◌+◌, ◌/◌, ◌%◌, ◌≤◌, Bool, true, false, List, [], ◌∷◌, ◌++◌, map, refl, arith, decimal, lit≤, nat_le, nat_lt, cond}
use Rattle.std.specs.Prelude.{codes, flat_map, ◌&&◌, Option, None, Some, if◌then◌else◌}
use Rattle.std.specs.List.{AllByRecursion}
use Rattle.std.proofs.lemmas.Bool.{and_parts, leb-true}
use Rattle.std.specs.Fmt.{digit_glyph, digits, digits_onto}
use Rattle.sect_base.specs.declared.choice.Choice.{Choice}
use Rattle.sect_base.specs.declared.choice.Curriculum.{Curriculum}
use Rattle.sect_base.specs.declared.limit.Caller.{Caller}
use Rattle.sect_base.specs.declared.limit.Caller.TheVariants as callers
use Rattle.sect_base.specs.declared.limit.Limit.{Limit}
use Rattle.sect_base.specs.declared.limit.Limit.TheVariants.{Unlimited, Places}
use Rattle.sect_base.specs.Tree.{Tree, Trees, broken, split, none, more, rule_number}
use Rattle.sect_base.specs.DayText.{date_text}
use Rattle.sect_base.specs.MeetingText.{meeting_text}
use Rattle.sect_base.specs.Pattern.{Pattern}
use Rattle.sect_reserve.specs.declared.row.Audience.{Audience}
use Rattle.sect_reserve.specs.declared.row.Audience.TheVariants as audiences
use Rattle.sect_command.specs.TreeText.{tree_text, others_text, inside_text}
use Rattle.sect_words.specs.Days.{day_text, either_of, found_below, has_number, or_nothing, text_if}
use Rattle.sect_words.specs.Parts.{joined, sentence}
use Rattle.sect_words.specs.Words.{audience_parts, audience_text, caller_text, choice_text, class_text, curriculum_text, limit_text, list_text, major_text, optional_text, reservation_text, section_text, sections_text, student_text}
use Rattle.sect_read.proofs.Bytes.{AtLeast, all_append, all_joined, all_weaker, meeting_all}

-- no byte of the text is below a space
abbrev pub Plain : List ℕ → Type 0
Plain text = AtLeast 32 text

-- no byte of any of the words is
abbrev pub Plains : List (List ℕ) → Type 0
Plains words = AllByRecursion (AtLeast 32) words

abbrev are_high : List ℕ → Bool
are_high [] = true
are_high (b ∷ bs) = nat_le 32 b && are_high bs

-- a word that is written out
pub key : (word : List ℕ) → are_high word ≡ true → Plain word
key [] e = tt
key (b ∷ bs) e = let p = and_parts (nat_le 32 b) (are_high bs) e in (leb-true 32 b p.0, key bs p.1)

-- ---- words together

pub append : (xs ys : List (List ℕ)) → Plains xs → Plains ys → Plains (xs ++ ys)
append [] ys a b = b
append (x ∷ xs) ys a b = (a.0, append xs ys a.1 b)

pub each : {X : Type 0} (words : X → List (List ℕ)) → ((x : X) → Plains (words x)) → (xs : List X) → Plains (flat_map words xs)
each words one [] = tt
each words one (x ∷ xs) = append (words x) (flat_map words xs) (one x) (each words one xs)

pub joins : (mark : ℕ) → 32 ≤ mark → (parts : List (List ℕ)) → Plains parts → Plain (joined mark parts)
joins mark high parts plain = all_joined (λ b. 32 ≤ b) mark high parts plain

mapped : {X : Type 0} (text : X → List ℕ) → ((x : X) → Plain (text x)) → (xs : List X) → Plains (map text xs)
mapped text one [] = tt
mapped text one (x ∷ xs) = (one x, mapped text one xs)

pub listed : {X : Type 0} (text : X → List ℕ) → ((x : X) → Plain (text x)) → (xs : List X) → Plain (list_text 43 text xs)
listed text one [] = (lit≤ tt, tt)
listed text one (x ∷ xs) = joins 43 (lit≤ tt) (map text (x ∷ xs)) (mapped text one (x ∷ xs))

pub optional : {X : Type 0} (text : X → List ℕ) → ((x : X) → Plain (text x)) → (o : Option X) → Plain (optional_text text o)
optional text one None = (lit≤ tt, tt)
optional text one (Some x) = one x

either : (P : List ℕ → Type 0) (b : Bool) (xs ys : List ℕ) → P xs → P ys → P (if b then xs else ys)
either P true xs ys p q = p
either P false xs ys p q = q

-- ---- numbers

glyph : (d : ℕ) (low : Bool) → 32 ≤ (if low then 48 + d else (if false then 55 + d else 87 + d))
glyph d true = omega arith
glyph d false = omega arith

spelt : (k n : ℕ) (behind : List ℕ) → Plain behind → Plain (digits_onto k 10 false n behind)
spelt zero n behind plain = plain
spelt (suc k) n behind plain =
    let longer : Plain (digit_glyph false (n % 10) ∷ behind) = (glyph (n % 10) (nat_lt (n % 10) 10), plain) in
    either Plain (n / 10 == 0) (digit_glyph false (n % 10) ∷ behind) (digits_onto k 10 false (n / 10) (digit_glyph false (n % 10) ∷ behind)) longer
    (spelt k (n / 10) (digit_glyph false (n % 10) ∷ behind) longer)

pub number : (n : ℕ) → Plain (decimal n)
unfolding digits
number n = spelt 64 n [] tt

-- ---- days and meetings

high : {low : ℕ} (text : List ℕ) → 32 ≤ low → AtLeast low text → Plain text
high {low} text above all = all_weaker (λ b. low ≤ b) (λ b. 32 ≤ b) (λ b h. omega (arith, above, h)) text all

pub meeting : (p : Pattern) → Plain (meeting_text p)
meeting p = high {low = 45} (meeting_text p) (lit≤ tt) (meeting_all p)

-- the text, where there is one
abbrev Found : Option (List ℕ) → Type 0
Found None = Unit {0}
Found (Some text) = Plain text

date : (year month day : ℕ) → Plain (date_text year month day)
date year month day =
    (omega arith, (omega arith, (omega arith, (omega arith, (lit≤ tt, (omega arith, (omega arith, (lit≤ tt, (omega arith, (omega arith, tt))))))))))

dated : (is : Bool) (text : List ℕ) → Plain text → Found (if is then Some text else None)
dated true text plain = plain
dated false text plain = tt

first_of : (a b : Option (List ℕ)) → Found a → Found b → Found (either_of a b)
first_of None b p q = q
first_of (Some text) b p q = p

below : (find : ℕ → Option (List ℕ)) → ((n : ℕ) → Found (find n)) → (n : ℕ) → Found (found_below find n)
unfolding found_below
below find one zero = tt
below find one (suc n) = first_of (find n) (found_below find n) (one n) (below find one n)

text_of : (found : Option (List ℕ)) → Found found → Plain (or_nothing found)
text_of None p = tt
text_of (Some text) p = p

pub day : (n : ℕ) → Plain (day_text n)
unfolding day_text
day n =
    text_of (found_below (λ year. found_below (λ month. found_below (text_if n year month) 32) 13) 10000)
    (below (λ year. found_below (λ month. found_below (text_if n year month) 32) 13) (λ year.
    below (λ month. found_below (text_if n year month) 32) (λ month.
    below (text_if n year month) (λ d. dated (has_number n year month d) (date_text year month d) (date year month d)) 32) 13) 10000)

-- ---- words

pub limit : (l : Limit) → Plain (limit_text l)
limit Unlimited = (lit≤ tt, tt)
limit (Places n) = number n

pub caller : (c : Caller) → Plain (caller_text c)
caller (callers.Registrar n) = (lit≤ tt, number n)
caller (callers.Student id) = (lit≤ tt, number id.0)

pub curriculum : (c : Curriculum) → Plain (curriculum_text c)
curriculum c =
    joins 58 (lit≤ tt) (decimal c.area.0 ∷ decimal c.class.0 ∷ list_text 43 major_text c.majors ∷ [])
    (number c.area.0, (number c.class.0, (listed major_text (λ m. number m.0) c.majors, tt)))

parts_of : (a : Audience) → Plains (audience_parts a)
parts_of (audiences.Students ids) = (key (codes "students") refl, (listed student_text (λ s. number s.0) ids, tt))
parts_of (audiences.Group id) = (key (codes "group") refl, (number id.0, tt))
parts_of (audiences.Curriculum area classes majors) =
    (key (codes "curriculum") refl, (number area.0, (listed class_text (λ c. number c.0) classes, (listed major_text (λ m. number m.0) majors, tt))))
parts_of (audiences.Course id) = (key (codes "course") refl, (number id.0, tt))

pub audience : (a : Audience) → Plain (audience_text a)
audience a = joins 58 (lit≤ tt) (audience_parts a) (parts_of a)

pub choice : (c : Choice) → Plain (choice_text c)
choice c =
    joins 47 (lit≤ tt) (decimal c.course.0 ∷ optional_text reservation_text c.reservation ∷ decimal c.config.0 ∷ sections_text c.sections ∷ []) (
      number c.course.0,
      (
        optional reservation_text (λ r. number r.0) c.reservation,
        (
          number c.config.0,
          (joins 43 (lit≤ tt) (map section_text c.sections) (mapped section_text (λ s. number s.0) c.sections), tt),
        ),
      ),
    )

mutual
  pub tree : (t : Tree) → Plain (tree_text t)
  tree (broken rule n) = all_append (λ b. 32 ≤ b) (decimal (rule_number rule)) (58 ∷ decimal n) (number (rule_number rule)) (lit≤ tt, number n)
  tree (split ts) = (lit≤ tt, inside ts)

  inside : (ts : Trees) → Plain (inside_text ts)
  inside none = (lit≤ tt, tt)
  inside (more t ts) = all_append (λ b. 32 ≤ b) (tree_text t) (others_text ts) (tree t) (others ts)

  others : (ts : Trees) → Plain (others_text ts)
  others none = (lit≤ tt, tt)
  others (more t ts) = (lit≤ tt, all_append (λ b. 32 ≤ b) (tree_text t) (others_text ts) (tree t) (others ts))

-- words with spaces between them
pub sentence_plain : (words : List (List ℕ)) → Plains words → Plain (sentence words)
sentence_plain words plain = joins 32 (lit≤ tt) words plain
