-- Reading parts from the first to the last: a value and the parts behind it, or nothing.
use Rattle.std.specs.Prelude.{◌≡◌, ℕ, zero, suc, ◌+◌, Bool, true, false, List, [], ◌∷◌, length, if◌then◌else◌, Option, None, Some, Result, Ok, Err}
use Rattle.std.specs.Str.{bytes_eq}
use Rattle.sect_base.specs.declared.duplicate.Memory.{Memory}
use Rattle.sect_words.specs.declared.fault.Fault.{Fault}
use Rattle.sect_words.specs.declared.fault.Fault.TheVariants as faults
use Rattle.sect_words.specs.Days.{found_below}

infixl 10 ◌>>=◌
-- what a value leads to, where there is one
abbrev pub ◌>>=◌ : {A B : Type 0} → Option A → (A → Option B) → Option B
None >>= f = None
(Some x) >>= f = f x

-- what was returned is what reading the word gives, unless memory ran out
abbrev pub Means : {X : Type 0} → Result X Fault → Option X → Type 0
Means (Ok x) read = read ≡ Some x
Means (Err faults.Bad) read = read ≡ None
Means (Err faults.Memory) read = Unit {0}

-- what was returned, with the parts that are left, is what reading the parts gives, unless memory ran out
abbrev pub Reads : {X : Type 0} → Result X Fault → List (List ℕ) → Option (X × List (List ℕ)) → Type 0
Reads (Ok x) rest read = read ≡ Some (x, rest)
Reads (Err faults.Bad) rest read = read ≡ None
Reads (Err faults.Memory) rest read = Unit {0}

-- no part is left
abbrev pub is_nil : List (List ℕ) → Bool
is_nil [] = true
is_nil (part ∷ parts) = false

-- the same, of what is seen of what was returned
abbrev pub ReadsAs : {X Y : Type 0} → (X → Y) → Result X Fault → List (List ℕ) → Option (Y × List (List ℕ)) → Type 0
ReadsAs view (Ok x) rest read = read ≡ Some (view x, rest)
ReadsAs view (Err faults.Bad) rest read = read ≡ None
ReadsAs view (Err faults.Memory) rest read = Unit {0}

-- the word was passed, with the parts that are left
abbrev pub Passes : Result (Unit {0}) Fault → List (List ℕ) → Option (List (List ℕ)) → Type 0
Passes (Ok _) rest read = read ≡ Some rest
Passes (Err faults.Bad) rest read = read ≡ None
Passes (Err faults.Memory) rest read = Unit {0}

-- nothing is left
abbrev pub Ends : Result (Unit {0}) Fault → List (List ℕ) → Type 0
Ends (Ok _) rest = rest ≡ []
Ends (Err faults.Bad) rest = is_nil rest ≡ false
Ends (Err faults.Memory) rest = ⊥

-- what was found is what reading gives, unless memory ran out
abbrev pub Finds : {X : Type 0} → Result (Option X) Memory → Option X → Type 0
Finds (Ok found) read = read ≡ found
Finds (Err _) read = Unit {0}

-- the first part, where there is one
abbrev pub first_part : List (List ℕ) → Option (List ℕ)
first_part [] = None
first_part (part ∷ parts) = Some part

-- the parts behind the first
abbrev pub later_parts : List (List ℕ) → List (List ℕ)
later_parts [] = []
later_parts (part ∷ parts) = parts

-- the first part is this word
abbrev pub begins : List ℕ → List (List ℕ) → Bool
begins word [] = false
begins word (part ∷ parts) = bytes_eq part word

-- the parts behind this word, where it is the first
abbrev pub key_at : List ℕ → List (List ℕ) → Option (List (List ℕ))
key_at word parts = if begins word parts then Some (later_parts parts) else None

-- a word that is there is taken
abbrev pub marked_if : Bool → List (List ℕ) → Bool × List (List ℕ)
marked_if true parts = (true, later_parts parts)
marked_if false parts = (false, parts)

-- whether the word is the first part, and the parts behind it
abbrev pub mark_at : List ℕ → List (List ℕ) → Bool × List (List ℕ)
mark_at word parts = marked_if (begins word parts) parts

-- the value, with what is left
abbrev pub with_rest : {X : Type 0} → List (List ℕ) → Option X → Option (X × List (List ℕ))
with_rest rest None = None
with_rest rest (Some x) = Some (x, rest)

-- the value of the first part
abbrev pub word_at : {X : Type 0} → (List ℕ → Option X) → List (List ℕ) → Option (X × List (List ℕ))
word_at of [] = None
word_at of (part ∷ parts) = with_rest parts (of part)

-- the word as it is
abbrev pub any_word : List ℕ → Option (List ℕ)
any_word word = Some word

-- nothing is left
abbrev pub whole : {X : Type 0} → Option (X × List (List ℕ)) → Option X
whole None = None
whole (Some (x, [])) = Some x
whole (Some (x, part ∷ parts)) = None

-- a value in front of others
abbrev pub in_front : {X : Type 0} → X → Option (List X × List (List ℕ)) → Option (List X × List (List ℕ))
in_front x None = None
in_front x (Some (xs, rest)) = Some (x ∷ xs, rest)

-- the values in a row, at most so many, as long as another one starts
abbrev pub some_of : {X : Type 0} → (List (List ℕ) → Bool) → (List (List ℕ) → Option (X × List (List ℕ))) → ℕ → List (List ℕ) → Option (List X × List (List ℕ))
some_of starts at zero parts = None
some_of starts at (suc n) parts = if starts parts then (at parts >>= λ first. in_front first.0 (some_of starts at n first.1)) else Some ([], parts)

-- the values in a row, as long as another one starts
abbrev pub each_at : {X : Type 0} → (List (List ℕ) → Bool) → (List (List ℕ) → Option (X × List (List ℕ))) → List (List ℕ) → Option (List X × List (List ℕ))
each_at starts at parts = some_of starts at (length parts + 1) parts

-- the values of all parts
abbrev pub all_of : {X : Type 0} → (List ℕ → Option X) → List (List ℕ) → Option (List X)
all_of of [] = Some []
all_of of (part ∷ parts) = of part >>= λ x. all_of of parts >>= λ xs. Some (x ∷ xs)

-- the value, where it passes the test
abbrev pub only_where : {X : Type 0} → Bool → X → Option X
only_where test x = if test then Some x else None

-- the number, where the word is its text
abbrev pub number_if : (ℕ → List ℕ) → List ℕ → ℕ → Option ℕ
number_if text word n = only_where (bytes_eq (text n) word) n

-- the number below the bound whose text it is
abbrev pub number_with : (ℕ → List ℕ) → ℕ → List ℕ → Option ℕ
number_with text bound word = found_below (number_if text word) bound
