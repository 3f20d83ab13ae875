-- Steps of reading: what each takes from the front.
use Rattle.std.proofs.Common.{◌≡◌, ℕ, Bool, true, false, List, [], ◌∷◌, ◌++◌, Option, None, Some, refl, ap, ◌∙◌, subst, append_assoc, arith, ◌==◌, ◌≤◌}
use Rattle.std.specs.Prelude.{if◌then◌else◌, flat_map}
use Rattle.std.specs.Str.{bytes_eq}
use Rattle.std.proofs.lemmas.Bool.{and_left, ne_eqb}
use Rattle.sect_text.specs.Commands.{mark_words}
use Rattle.sect_words.specs.Reading.{◌>>=◌, begins, later_parts, key_at, mark_at, marked_if, with_rest, word_at, whole}
pub use Rattle.sect_words.proofs.Exact.{Exact, bind_found, by_found, by_none, if_found, same_word, word_same}

-- the words are those of the value
abbrev pub Spelled : {X : Type 0} → (X → Type 0) → (X → List (List ℕ)) → X → List (List ℕ) → Type 0
Spelled Fits words x t = Fits x × (t ≡ words x)

-- a reader takes the words of a value from the front, where what follows stops it
pub record Takes {X : Type 0} (at : List (List ℕ) → Option (X × List (List ℕ))) (Fits : X → Type 0) (words : X → List (List ℕ)) (Stop : List (List ℕ) → Type 0) : Type 0 where
  pub found : (ws : List (List ℕ)) (x : X) (rest : List (List ℕ)) → at ws ≡ Some (x, rest) → Fits x × (ws ≡ words x ++ rest)
  pub again : (x : X) (rest : List (List ℕ)) → Fits x → Stop rest → at (words x ++ rest) ≡ Some (x, rest)

-- the word in front
pub begins_found : (word : List ℕ) (ws : List (List ℕ)) → begins word ws ≡ true → ws ≡ word ∷ later_parts ws
begins_found word [] e = absurd (cc)
begins_found word (w ∷ ws) e = ap (λ v. v ∷ ws) (same_word w word e)

none_found : {A : Type 0} {G : Type 0} (z : A) → None ≡ Some z → G
none_found z e = absurd (cc)

-- what is found where the first part is this word
pub begins_step : {A : Type 0} (word : List ℕ) (ws : List (List ℕ)) (x y : Option A) (z : A) {G : Type 0} → (if begins word ws then x else y) ≡ Some z
    → (ws ≡ word ∷ later_parts ws → x ≡ Some z → G) → (begins word ws ≡ false → y ≡ Some z → G) → G
begins_step word ws x y z e hit miss = if_found (begins word ws) x y z e (λ b. hit (begins_found word ws b)) miss

some_is : {A : Type 0} (x y : A) → Some x ≡ Some y → x ≡ y
some_is x y e = cc

pub key_found : (word : List ℕ) (ws rest : List (List ℕ)) → key_at word ws ≡ Some rest → ws ≡ word ∷ rest
key_found word ws rest e = if_found (begins word ws) (Some (later_parts ws)) None rest e
    (λ b e. begins_found word ws b ∙ ap (λ r. word ∷ r) (some_is (later_parts ws) rest e))
    (λ b e. none_found rest e)

-- a key is passed
pub key_step : {B : Type 0} (word : List ℕ) (ws : List (List ℕ)) (f : List (List ℕ) → Option B) (y : B) {G : Type 0} → (key_at word ws >>= f) ≡ Some y
    → ((rest : List (List ℕ)) → ws ≡ word ∷ rest → f rest ≡ Some y → G) → G
key_step word ws f y e k = bind_found (key_at word ws) f y e (λ rest is. k rest (key_found word ws rest is))

-- what was read of a part, and what is left behind it
pub rest_found : {X : Type 0} (rest : List (List ℕ)) (o : Option X) (x : X) (r : List (List ℕ)) → with_rest rest o ≡ Some (x, r) → (o ≡ Some x) × (rest ≡ r)
rest_found rest None x r e = absurd (cc)
rest_found rest (Some y) x r e = (ap (λ (p : _). Some p.0) (some_is (y, rest) (x, r) e), ap (λ (p : _). p.1) (some_is (y, rest) (x, r) e))

pub word_found : {X : Type 0} {of : List ℕ → Option X} {text : X → List ℕ} {Fits : X → Type 0} (exact : Exact of text Fits) (ws : List (List ℕ)) (x : X) (rest : List (List ℕ))
    → word_at of ws ≡ Some (x, rest) → Fits x × (ws ≡ text x ∷ rest)
word_found exact [] x rest e = absurd (cc)
word_found {of = of} exact (w ∷ ws) x rest e =
    let p = rest_found ws (of w) x rest e in
    let q = exact.found w x p.0 in
    (q.0, λ i. q.1 i ∷ p.1 i)

-- a word is taken
pub word_step : {X B : Type 0} {of : List ℕ → Option X} {text : X → List ℕ} {Fits : X → Type 0} (exact : Exact of text Fits) (ws : List (List ℕ)) (f : X × List (List ℕ) → Option B) (y : B) {G : Type 0}
    → (word_at of ws >>= f) ≡ Some y → ((x : X) (rest : List (List ℕ)) → Fits x → ws ≡ text x ∷ rest → f (x, rest) ≡ Some y → G) → G
word_step {of = of} exact ws f y e k = bind_found (word_at of ws) f y e (λ p is. let q = word_found exact ws p.0 p.1 is in k p.0 p.1 q.0 q.1)

-- some words are taken
pub words_step : {X B : Type 0} {at : List (List ℕ) → Option (X × List (List ℕ))} {Fits : X → Type 0} {words : X → List (List ℕ)} {Stop : List (List ℕ) → Type 0} (takes : Takes at Fits words Stop)
    (ws : List (List ℕ)) (f : X × List (List ℕ) → Option B) (y : B) {G : Type 0}
    → (at ws >>= f) ≡ Some y → ((x : X) (rest : List (List ℕ)) → Fits x → ws ≡ words x ++ rest → f (x, rest) ≡ Some y → G) → G
words_step {at = at} takes ws f y e k = bind_found (at ws) f y e (λ p is. let q = takes.found ws p.0 p.1 is in k p.0 p.1 q.0 q.1)

-- what was put together of what was taken
pub end_step : {X : Type 0} (a x : X) (r rest : List (List ℕ)) → ◌≡◌ {A = Option (X × List (List ℕ))} (Some (a, r)) (Some (x, rest)) → (P : X → List (List ℕ) → Type 0) → P a r → P x rest
end_step a x r rest e P h = subst (λ (p : _). P p.0 p.1) (some_is (a, r) (x, rest) e) h

-- a word in front of the words behind it
pub word_then : (word : List ℕ) (ws rest more : List (List ℕ)) → ws ≡ word ∷ rest → rest ≡ more → ws ≡ word ∷ more
word_then word ws rest more e f = e ∙ ap (λ r. word ∷ r) f

-- words in front of the words behind them
pub words_then : (words ws rest more : List (List ℕ)) → ws ≡ words ++ rest → rest ≡ more → ws ≡ words ++ more
words_then words ws rest more e f = e ∙ ap (λ r. words ++ r) f

mark_by : (word : List ℕ) (ws : List (List ℕ)) (b : Bool) → begins word ws ≡ b → ws ≡ mark_words word (marked_if b ws).0 ++ (marked_if b ws).1
mark_by word ws true e = begins_found word ws e
mark_by word ws false e = refl

-- a mark is taken, where it is there
pub mark_found : (word : List ℕ) (ws : List (List ℕ)) → ws ≡ mark_words word (mark_at word ws).0 ++ (mark_at word ws).1
mark_found word ws = mark_by word ws (begins word ws) refl

pub mark_again : (word : List ℕ) (b : Bool) (rest : List (List ℕ)) → begins word rest ≡ false → mark_at word (mark_words word b ++ rest) ≡ (b, rest)
mark_again word true rest e = ap (λ b. marked_if b (word ∷ rest)) (word_same word word refl)
mark_again word false rest e = ap (λ b. marked_if b rest) e

-- nothing is left
pub whole_found : {X : Type 0} (o : Option (X × List (List ℕ))) (x : X) → whole o ≡ Some x → o ≡ Some (x, [])
whole_found None x e = absurd (cc)
whole_found (Some (y, [])) x e = ap (λ z. Some (z, [])) (some_is y x e)
whole_found (Some (y, w ∷ ws)) x e = absurd (cc)

-- a word that was put in front is taken
pub word_back : {X B : Type 0} {of : List ℕ → Option X} {text : X → List ℕ} {Fits : X → Type 0} (exact : Exact of text Fits) (x : X) (rest : List (List ℕ)) (f : X × List (List ℕ) → Option B) (y : Option B)
    → Fits x → f (x, rest) ≡ y → (word_at of (text x ∷ rest) >>= f) ≡ y
word_back exact x rest f y fits e = ap (λ o. with_rest rest o >>= f) (exact.again x fits) ∙ e

-- words that were put in front are taken
pub words_back : {X B : Type 0} {at : List (List ℕ) → Option (X × List (List ℕ))} {Fits : X → Type 0} {words : X → List (List ℕ)} {Stop : List (List ℕ) → Type 0} (takes : Takes at Fits words Stop)
    (x : X) (rest : List (List ℕ)) (f : X × List (List ℕ) → Option B) (y : Option B) → Fits x → Stop rest → f (x, rest) ≡ y → (at (words x ++ rest) >>= f) ≡ y
words_back takes x rest f y fits stop e = ap (λ o. o >>= f) (takes.again x rest fits stop) ∙ e

-- anything may follow
abbrev pub Any : List (List ℕ) → Type 0
Any rest = Unit {0}

-- no word that begins with a letter follows
abbrev pub Quiet : List (List ℕ) → Type 0
Quiet rest = (b : ℕ) (bs : List ℕ) → 97 ≤ b → begins (b ∷ bs) rest ≡ false

pub quiet_end : Quiet []
quiet_end b bs h = refl

pub quiet_equals : (rest : List (List ℕ)) → Quiet ((61 ∷ []) ∷ rest)
quiet_equals rest b bs h = and_left (61 == b) _ (ne_eqb 61 b (λ e. absurd (omega (arith, e, h))))

-- values that begin with another word don't begin with this one
pub not_first : {X : Type 0} (word : List ℕ) (words : X → List (List ℕ)) → ((x : X) (rest : List (List ℕ)) → begins word (words x ++ rest) ≡ false)
    → (xs : List X) (rest : List (List ℕ)) → begins word rest ≡ false → begins word (flat_map words xs ++ rest) ≡ false
not_first word words each [] rest e = e
not_first word words each (x ∷ xs) rest e = ap (begins word) (append_assoc (words x) (flat_map words xs) rest) ∙ each x (flat_map words xs ++ rest)

pub not_mark : (word other : List ℕ) (b : Bool) (rest : List (List ℕ)) → bytes_eq other word ≡ false → begins word rest ≡ false → begins word (mark_words other b ++ rest) ≡ false
not_mark word other true rest apart e = apart
not_mark word other false rest apart e = e
