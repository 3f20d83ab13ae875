-- Readers of words that give the one value whose text it is.
use Rattle.std.proofs.Common.{◌≡◌, ℕ, Bool, true, false, List, Option, None, Some, refl, ap, ◌∙◌}
use Rattle.std.specs.Prelude.{if◌then◌else◌}
use Rattle.std.specs.Str.{bytes_eq}
use Rattle.std.proofs.lemmas.Slice.Eq.{bytes_eq-Decides}
use Rattle.sect_words.specs.Reading.{◌>>=◌}

-- the value of a step that gave one, and what the next step gives of it
pub bind_found : {A B : Type 0} (o : Option A) (f : A → Option B) (y : B) {G : Type 0} → (o >>= f) ≡ Some y → ((x : A) → o ≡ Some x → f x ≡ Some y → G) → G
bind_found (Some x) f y e k = k x refl e
bind_found None f y e k = absurd (cc)

-- a reader of a word gives the one value whose text it is
pub record Exact {X : Type 0} (of : List ℕ → Option X) (text : X → List ℕ) (Fits : X → Type 0) : Type 0 where
  pub found : (word : List ℕ) (x : X) → of word ≡ Some x → Fits x × (word ≡ text x)
  pub again : (x : X) → Fits x → of (text x) ≡ Some x

-- the value whose text was told
pub by_found : {X : Type 0} {of : List ℕ → Option X} {text : X → List ℕ} {Fits : X → Type 0} → Exact of text Fits → (word : List ℕ) (x : X) → Fits x → word ≡ text x → of word ≡ Some x
by_found {of = of} exact word x fits is = ap of is ∙ exact.again x fits

-- no value has the text
pub by_none : {X : Type 0} {of : List ℕ → Option X} {text : X → List ℕ} {Fits : X → Type 0} → Exact of text Fits → (word : List ℕ) → ((x : X) → Fits x → word ≡ text x → ⊥) → of word ≡ None
by_none {X = X} {of = of} exact word none = by (of word) refl
  where
    by : (o : Option X) → of word ≡ o → o ≡ None
    by None e = refl
    by (Some x) e = let p = exact.found word x e in absurd (none x p.0 p.1)

-- two words are the same
pub same_word : (a b : List ℕ) → bytes_eq a b ≡ true → a ≡ b
same_word a b e = (bytes_eq-Decides a b).0 e

pub word_same : (a b : List ℕ) → a ≡ b → bytes_eq a b ≡ true
word_same a b e = (bytes_eq-Decides a b).1 e

-- which way a test went
pub if_found : {A : Type 0} (b : Bool) (x y : Option A) (z : A) {G : Type 0} → (if b then x else y) ≡ Some z → (b ≡ true → x ≡ Some z → G) → (b ≡ false → y ≡ Some z → G) → G
if_found true x y z e hit miss = hit refl e
if_found false x y z e hit miss = miss refl e
