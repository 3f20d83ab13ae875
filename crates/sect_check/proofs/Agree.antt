-- The walk over words goes on exactly where the reader does: words, keys and groups in a row.
use Rattle.std.proofs.Common.{◌≡◌, ℕ, zero, suc, ◌+◌, Bool, true, false, List, [], ◌∷◌, length, Option, Some, None, refl, sym, ◌∙◌, subst}
use Rattle.std.specs.Prelude.{⊤, if◌then◌else◌}
use Rattle.std.specs.Option.{is_some, option_map}
use Rattle.std.specs.Str.{bytes_eq}
use Rattle.sect_words.specs.Parts.{pieces}
use Rattle.sect_words.specs.Reading.{◌>>=◌, all_of, begins, each_at, in_front, key_at, later_parts, some_of, with_rest, word_at}
use Rattle.sect_words.specs.ReadingWords.{audience_of, between_of, caller_of, curriculum_of, day_of, limit_of, list_of, meeting_of, optional_of, u16_of, u32_of, u64_of}
use Rattle.sect_words.specs.Words.{dash}
use Rattle.sect_check.specs.declared.form.Form.{Form}
use Rattle.sect_check.specs.declared.form.Form.TheVariants as forms
use Rattle.sect_check.specs.Fits.{fits}
use Rattle.sect_check.specs.Walks.{Walk, each_walk, key_walk, passed, some_walk, stopped, walk_on, word_walk}

-- the walk passes what is read, and stops where nothing is
abbrev pub Agree : {X : Type 0} → Walk → Option (X × List (List ℕ)) → Type 0
Agree (passed rest) (Some (x, left)) = rest ≡ left
Agree (passed rest) None = ⊥
Agree (stopped rest form) None = ⊤
Agree (stopped rest form) (Some (x, left)) = ⊥

pub agree_then : {X Y : Type 0} (w : Walk) (r : Option (X × List (List ℕ))) (f : List (List ℕ) → Walk) (g : X × List (List ℕ) → Option (Y × List (List ℕ)))
    → Agree w r → ((x : X) (rest : List (List ℕ)) → Agree (f rest) (g (x, rest))) → Agree (walk_on w f) (r >>= g)
agree_then (passed rest) (Some (x, left)) f g same next = subst (λ (l : List (List ℕ)). Agree (f l) (g (x, left))) (sym same) (next x left)
agree_then (passed rest) None f g same next = absurd same
agree_then (stopped rest form) None f g same next = tt
agree_then (stopped rest form) (Some (x, left)) f g same next = absurd same

-- what is made of what was read leaves the same words
pub agree_made : {X Y : Type 0} (w : Walk) (r : Option (X × List (List ℕ))) (make : X × List (List ℕ) → Y) → Agree w r → Agree w (r >>= λ p. Some (make p, p.1))
agree_made (passed rest) (Some (x, left)) make same = same
agree_made (passed rest) None make same = absurd same
agree_made (stopped rest form) None make same = tt
agree_made (stopped rest form) (Some (x, left)) make same = absurd same

pub agree_kept : {X : Type 0} (w : Walk) (r : Option (X × List (List ℕ))) → Agree w r → Agree w (r >>= λ p. Some p)
agree_kept (passed rest) (Some (x, left)) same = same
agree_kept (passed rest) None same = absurd same
agree_kept (stopped rest form) None same = tt
agree_kept (stopped rest form) (Some (x, left)) same = absurd same

-- ---- words

pub word_by : {X : Type 0} (b : Bool) (o : Option X) (word : List ℕ) (words : List (List ℕ)) (form : Form) → b ≡ is_some o
    → Agree (if b then passed words else stopped (word ∷ words) form) (with_rest words o)
word_by true (Some x) word words form e = refl
word_by true None word words form e = absurd (cc)
word_by false None word words form e = tt
word_by false (Some x) word words form e = absurd (cc)

pub agree_word : {X : Type 0} (form : Form) (of : List ℕ → Option X) → ((word : List ℕ) → fits form word ≡ is_some (of word)) → (words : List (List ℕ))
    → Agree (word_walk form words) (word_at of words)
unfolding word_walk
agree_word form of same [] = tt
agree_word form of same (word ∷ words) = word_by (fits form word) (of word) word words form (same word)

pub some_map : {X Y : Type 0} (f : X → Y) (o : Option X) → is_some o ≡ is_some (option_map f o)
some_map f None = refl
some_map f (Some x) = refl

-- an id of any kind
pub agree_id : {X : Type 0} (f : ℕ → X) (words : List (List ℕ)) → Agree (word_walk forms.Id words) (word_at (λ word. option_map f (u32_of word)) words)
unfolding fits
agree_id f words = agree_word forms.Id (λ word. option_map f (u32_of word)) (λ word. some_map f (u32_of word)) words

pub next_is : {X Y : Type 0} (o : Option X) (r : Option Y) (p : Option (List X)) (q : Option (List Y)) → is_some o ≡ is_some r → is_some p ≡ is_some q
    → is_some (o >>= λ x. p >>= λ xs. Some (x ∷ xs)) ≡ is_some (r >>= λ y. q >>= λ ys. Some (y ∷ ys))
next_is None None p q e f = refl
next_is None (Some y) p q e f = absurd (cc)
next_is (Some x) None p q e f = absurd (cc)
next_is (Some x) (Some y) None None e f = refl
next_is (Some x) (Some y) None (Some ys) e f = absurd (cc)
next_is (Some x) (Some y) (Some xs) None e f = absurd (cc)
next_is (Some x) (Some y) (Some xs) (Some ys) e f = refl

pub all_is : {X : Type 0} (f : ℕ → X) (parts : List (List ℕ)) → is_some (all_of u32_of parts) ≡ is_some (all_of (λ word. option_map f (u32_of word)) parts)
all_is f [] = refl
all_is f (part ∷ parts) = next_is (u32_of part) (option_map f (u32_of part)) (all_of u32_of parts) (all_of (λ word. option_map f (u32_of word)) parts)
    (some_map f (u32_of part)) (all_is f parts)

pub either : {A B : Type 0} (b : Bool) (x : Option A) (y : Option B) (z : Option A) (w : Option B) → is_some x ≡ is_some y → is_some z ≡ is_some w
    → is_some (if b then x else z) ≡ is_some (if b then y else w)
either true x y z w e f = e
either false x y z w e f = f

-- ids of any kind
pub agree_ids : {X : Type 0} (f : ℕ → X) (words : List (List ℕ))
    → Agree (word_walk forms.Ids words) (word_at (list_of 43 (λ word. option_map f (u32_of word))) words)
unfolding fits list_of
agree_ids f words = agree_word forms.Ids (list_of 43 (λ word. option_map f (u32_of word)))
    (λ word. either (bytes_eq word dash) (Some []) (Some []) (all_of u32_of (pieces 43 word)) (all_of
    (λ word. option_map f (u32_of word)) (pieces 43 word)) refl (all_is f (pieces 43 word)))
    words

-- an id, or none
pub agree_optional_id : {X : Type 0} (f : ℕ → X) (words : List (List ℕ))
    → Agree (word_walk forms.OptionalId words) (word_at (optional_of (λ word. option_map f (u32_of word))) words)
unfolding fits optional_of
agree_optional_id f words = agree_word forms.OptionalId (optional_of (λ word. option_map f (u32_of word)))
    (λ word. either (bytes_eq word dash) (Some None) (Some None) (option_map Some (u32_of word)) (option_map Some (option_map f (u32_of word))) refl
    (sym (some_map Some (u32_of word)) ∙ some_map f (u32_of word) ∙ some_map Some (option_map f (u32_of word))))
    words

pub agree_limit : (words : List (List ℕ)) → Agree (word_walk forms.Limit words) (word_at limit_of words)
unfolding fits
agree_limit words = agree_word forms.Limit limit_of (λ word. refl) words

pub agree_day : (words : List (List ℕ)) → Agree (word_walk forms.OptionalDay words) (word_at (optional_of day_of) words)
unfolding fits
agree_day words = agree_word forms.OptionalDay (optional_of day_of) (λ word. refl) words

pub agree_audience : (words : List (List ℕ)) → Agree (word_walk forms.Audience words) (word_at audience_of words)
unfolding fits
agree_audience words = agree_word forms.Audience audience_of (λ word. refl) words

pub agree_number : (words : List (List ℕ)) → Agree (word_walk forms.Number words) (word_at u64_of words)
unfolding fits
agree_number words = agree_word forms.Number u64_of (λ word. refl) words

pub agree_caller : (words : List (List ℕ)) → Agree (word_walk forms.Caller words) (word_at caller_of words)
unfolding fits
agree_caller words = agree_word forms.Caller caller_of (λ word. refl) words

pub agree_meetings : (words : List (List ℕ)) → Agree (word_walk forms.Meetings words) (word_at (list_of 43 meeting_of) words)
unfolding fits
agree_meetings words = agree_word forms.Meetings (list_of 43 meeting_of) (λ word. refl) words

pub agree_meeting : (words : List (List ℕ)) → Agree (word_walk forms.Meeting words) (word_at meeting_of words)
unfolding fits
agree_meeting words = agree_word forms.Meeting meeting_of (λ word. refl) words

pub agree_credits : (words : List (List ℕ)) → Agree (word_walk forms.Credits words) (word_at (between_of 0 30) words)
unfolding fits
agree_credits words = agree_word forms.Credits (between_of 0 30) (λ word. refl) words

pub agree_most : (words : List (List ℕ)) → Agree (word_walk forms.MostCredits words) (word_at u16_of words)
unfolding fits
agree_most words = agree_word forms.MostCredits u16_of (λ word. refl) words

pub agree_curriculum : (words : List (List ℕ)) → Agree (word_walk forms.Curriculum words) (word_at curriculum_of words)
unfolding fits
agree_curriculum words = agree_word forms.Curriculum curriculum_of (λ word. refl) words

pub agree_one_day : (words : List (List ℕ)) → Agree (word_walk forms.Day words) (word_at day_of words)
unfolding fits
agree_one_day words = agree_word forms.Day day_of (λ word. refl) words

pub agree_up : (most : ℕ) (words : List (List ℕ)) → Agree (word_walk (forms.UpTo most) words) (word_at (between_of 1 most) words)
unfolding fits
agree_up most words = agree_word (forms.UpTo most) (between_of 1 most) (λ word. refl) words

-- ---- keys

pub must_by : {Y : Type 0} (b : Bool) (words later : List (List ℕ)) (form : Form) (f : List (List ℕ) → Walk) (g : List (List ℕ) → Option (Y × List (List ℕ)))
    → ((rest : List (List ℕ)) → Agree (f rest) (g rest)) → Agree (walk_on (if b then passed later else stopped words form) f)
    ((if b then Some later else None) >>= g)
must_by true words later form f g next = next later
must_by false words later form f g next = tt

pub agree_must : {Y : Type 0} (key : List ℕ) (form : Form) (words : List (List ℕ)) (f : List (List ℕ) → Walk) (g : List (List ℕ) → Option (Y × List (List ℕ)))
    → ((rest : List (List ℕ)) → Agree (f rest) (g rest)) → Agree (walk_on (key_walk key form words) f) (key_at key words >>= g)
unfolding key_walk
agree_must key form words f g next = must_by (begins key words) words (later_parts words) form f g next

-- a group whose key stands there
pub agree_key : {Y : Type 0} (key : List ℕ) (words : List (List ℕ)) (w : Walk) (g : List (List ℕ) → Option (Y × List (List ℕ))) → begins key words ≡ true
    → Agree w (g (later_parts words)) → Agree w (key_at key words >>= g)
agree_key key words w g e same = subst (λ (b : Bool). Agree w ((if b then Some (later_parts words) else None) >>= g)) (sym e) same

-- what may be left out
pub agree_if : {X : Type 0} (b : Bool) (w : Walk) (r : Option (X × List (List ℕ))) (words : List (List ℕ)) (x : X) → (b ≡ true → Agree w r)
    → Agree (if b then w else passed words) (if b then r else Some (x, words))
agree_if true w r words x same = same refl
agree_if false w r words x same = refl

-- ---- groups in a row

pub front_same : {X : Type 0} (x : X) (w : Walk) (r : Option (List X × List (List ℕ))) → Agree w r → Agree w (in_front x r)
front_same x (passed rest) (Some (xs, left)) same = same
front_same x (passed rest) None same = absurd same
front_same x (stopped rest form) None same = tt
front_same x (stopped rest form) (Some (xs, left)) same = absurd same

pub each_by : {X : Type 0} (b : Bool) (w : Walk) (r : Option (X × List (List ℕ))) (f : List (List ℕ) → Walk) (g : X × List (List ℕ)
    → Option (List X × List (List ℕ))) (words : List (List ℕ))
    → (b ≡ true → Agree w r) → ((x : X) (rest : List (List ℕ)) → Agree (f rest) (g (x, rest)))
    → Agree (if b then walk_on w f else passed words) (if b then (r >>= g) else Some ([], words))
each_by true w r f g words here next = agree_then w r f g (here refl) next
each_by false w r f g words here next = refl

pub some_agree : {X : Type 0} (starts : List (List ℕ) → Bool) (walk : List (List ℕ) → Walk) (at : List (List ℕ) → Option (X × List (List ℕ)))
    → ((words : List (List ℕ)) → starts words ≡ true → Agree (walk words) (at words)) → (n : ℕ) (words : List (List ℕ))
    → Agree (some_walk starts walk n words) (some_of starts at n words)
some_agree starts walk at same zero words = tt
some_agree starts walk at same (suc n) words = each_by (starts words) (walk words) (at words) (λ rest. some_walk starts walk n rest)
    (λ first. in_front first.0 (some_of starts at n first.1)) words (same words)
    (λ x rest. front_same x (some_walk starts walk n rest) (some_of starts at n rest) (some_agree starts walk at same n rest))

pub agree_each : {X : Type 0} (starts : List (List ℕ) → Bool) (walk : List (List ℕ) → Walk) (at : List (List ℕ) → Option (X × List (List ℕ)))
    → ((words : List (List ℕ)) → starts words ≡ true → Agree (walk words) (at words)) → (words : List (List ℕ))
    → Agree (each_walk starts walk words) (each_at starts at words)
agree_each starts walk at same words = some_agree starts walk at same (length words + 1) words
