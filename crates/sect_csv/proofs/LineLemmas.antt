-- The last line feed of a text, and the mark at its start.
use Rattle.std.proofs.Common.{◌≡◌, ◌≢◌, ◌<◌, ◌≤◌, ◌+◌, ◌-◌, length, take, get_or, arith, ℕ, List, [], ◌∷◌, ◌++◌, ◌==◌, ◌||◌, ◌⊎◌, inl, inr, Bool, true, false, if◌then◌else◌, ◌&&◌, refl, sym, ap, ◌∙◌, append_assoc}
use Rattle.std.proofs.lemmas.Bool.{eqb-true, ne_eqb}
use Rattle.std.proofs.lemmas.List.{take_more}
use Rattle.std.proofs.lemmas.List.Folds.{list_any-append}
use Rattle.csv.specs.Reading.{strip_bom, is_bom}
use Rattle.sect_csv.specs.Rows.{has_feed, through_last_feed}

or-true : (a b : Bool) → b ≡ true → (a || b) ≡ true
or-true true b e = refl
or-true false b e = e

or-left : (a b : Bool) → (a || b) ≡ true → b ≡ false → a ≡ true
or-left true b e none = refl
or-left false b e none = sym none ∙ e ∙ refl

pub feed-at : (v u : List ℕ) → has_feed (v ++ (10 ∷ u)) ≡ true
feed-at [] u = refl
feed-at (c ∷ v) u = or-true (c == 10) _ (feed-at v u)

pub through-none : (u : List ℕ) → has_feed u ≡ false → through_last_feed u ≡ []
unfolding through_last_feed
through-none [] none = refl
through-none (c ∷ u) none = rw none refl

pub through-at : (v m : List ℕ) → through_last_feed (v ++ (10 ∷ m)) ≡ v ++ (10 ∷ through_last_feed m)
unfolding through_last_feed
through-at [] m = refl
through-at (c ∷ v) m = rw (feed-at (c ∷ v) m) (ap (λ rest. c ∷ rest) (through-at v m))

-- where the last line feed of these bytes stands
pub record Last (xs : List ℕ) : Type 0 where
  pub before : List ℕ
  pub behind : List ℕ
  pub is : xs ≡ before ++ (10 ∷ behind)
  pub none : has_feed behind ≡ false

pub last-of : (xs : List ℕ) → (has_feed xs ≡ false) ⊎ Last xs
last-of [] = inl refl
last-of (c ∷ xs) = by (last-of xs)
  where
    at : (t : Bool) → (c == 10) ≡ t → has_feed xs ≡ false → (has_feed (c ∷ xs) ≡ false) ⊎ Last (c ∷ xs)
    at true is none = inr (record { before = []; behind = xs; is = ap (λ d. d ∷ xs) (eqb-true c 10 is); none = none })
    at false is none = inl (rw (is, none) refl)

    by : (has_feed xs ≡ false) ⊎ Last xs → (has_feed (c ∷ xs) ≡ false) ⊎ Last (c ∷ xs)
    by (inl none) = at (c == 10) refl none
    by (inr l) = inr (record { before = c ∷ l.before; behind = l.behind; is = ap (λ rest. c ∷ rest) l.is; none = l.none })

pub through-last : (xs : List ℕ) (l : Last xs) → through_last_feed xs ≡ l.before ++ (10 ∷ [])
through-last xs l =
    ap through_last_feed l.is ∙ through-at l.before l.behind ∙ ap (λ rest. l.before ++ (10 ∷ rest)) (through-none l.behind l.none)

-- whichever tests come first, a mark whose byte differs is none
differs-second : {A : Type 0} (s t : Bool) (x y : A) → (if s && false && t then x else y) ≡ y
differs-second true t x y = refl
differs-second false t x y = refl

differs-third : {A : Type 0} (s t : Bool) (x y : A) → (if s && t && false then x else y) ≡ y
differs-third true true x y = refl
differs-third true false x y = refl
differs-third false t x y = refl

-- a mark stands before each line feed
pub strip-at : (v m : List ℕ) → strip_bom (v ++ (10 ∷ m)) ≡ strip_bom (v ++ (10 ∷ [])) ++ m
unfolding strip_bom
strip-at [] [] = refl
strip-at [] (b ∷ []) = refl
strip-at [] (b ∷ c ∷ m) = refl
strip-at (a ∷ []) [] = refl
strip-at (a ∷ []) (c ∷ m) = differs-second (a == 0xEF) (c == 0xBF) m (a ∷ 10 ∷ c ∷ m)
strip-at (a ∷ b ∷ []) m =
    differs-third (a == 0xEF) (b == 0xBB) m (a ∷ b ∷ 10 ∷ m)
    ∙ ap (λ rest. rest ++ m) (sym (differs-third (a == 0xEF) (b == 0xBB) [] (a ∷ b ∷ 10 ∷ [])))
strip-at (a ∷ b ∷ c ∷ v) m = by (is_bom a b c)
  where
    by : (t : Bool) → (if t then v ++ (10 ∷ m) else a ∷ b ∷ c ∷ (v ++ (10 ∷ m)))
        ≡ (if t then v ++ (10 ∷ []) else a ∷ b ∷ c ∷ (v ++ (10 ∷ []))) ++ m
    by true = sym (append_assoc v (10 ∷ []) m)
    by false = ap (λ rest. a ∷ b ∷ c ∷ rest) (sym (append_assoc v (10 ∷ []) m))

pub strip-ends : (v : List ℕ) → (s : List ℕ) × (strip_bom (v ++ (10 ∷ [])) ≡ s ++ (10 ∷ []))
unfolding strip_bom
strip-ends [] = ([], refl)
strip-ends (a ∷ []) = (a ∷ [], refl)
strip-ends (a ∷ b ∷ []) = (a ∷ b ∷ [], differs-third (a == 0xEF) (b == 0xBB) [] (a ∷ b ∷ 10 ∷ []))
strip-ends (a ∷ b ∷ c ∷ v) = by (is_bom a b c)
  where
    by : (t : Bool) → (s : List ℕ) × ((if t then v ++ (10 ∷ []) else a ∷ b ∷ c ∷ (v ++ (10 ∷ []))) ≡ s ++ (10 ∷ []))
    by true = (v, refl)
    by false = (a ∷ b ∷ c ∷ v, refl)

or-false : (a : Bool) → (a || false) ≡ a
or-false true = refl
or-false false = refl

feed-push : (xs : List ℕ) (b : ℕ) → (b == 10) ≡ false → has_feed (xs ++ (b ∷ [])) ≡ has_feed xs
feed-push [] b other = rw other refl
feed-push (c ∷ xs) b other = ap (λ t. (c == 10) || t) (feed-push xs b other)

through-push : (xs : List ℕ) (b : ℕ) → (b == 10) ≡ false → through_last_feed (xs ++ (b ∷ [])) ≡ through_last_feed xs
unfolding through_last_feed
through-push [] b other = rw other refl
through-push (c ∷ xs) b other =
    ap (λ t. if t then c ∷ through_last_feed (xs ++ (b ∷ [])) else []) (feed-push (c ∷ xs) b other)
    ∙ ap (λ rest. if has_feed (c ∷ xs) then c ∷ rest else []) (through-push xs b other)

-- the bytes before a place, by the last of them
pub take-back : (xs : List ℕ) (n : ℕ) → 0 < n → n ≤ length xs → take n xs ≡ take (n - 1) xs ++ (get_or xs (n - 1) 0 ∷ [])
take-back xs n some within =
    let e : n - 1 + 1 ≡ n = omega arith in
    rw e at (take_more xs (n - 1) 0 (omega arith))

pub through-back : (xs : List ℕ) (n : ℕ) → 0 < n → n ≤ length xs → get_or xs (n - 1) 0 ≢ 10
    → through_last_feed (take n xs) ≡ through_last_feed (take (n - 1) xs)
through-back xs n some within other =
    ap through_last_feed (take-back xs n some within) ∙ through-push (take (n - 1) xs) (get_or xs (n - 1) 0) (ne_eqb _ 10 other)

pub through-found : (xs : List ℕ) (n : ℕ) → 0 < n → n ≤ length xs → get_or xs (n - 1) 0 ≡ 10
    → through_last_feed (take n xs) ≡ take n xs
through-found xs n some within feed =
    let back = take-back xs n some within ∙ ap (λ b. take (n - 1) xs ++ (b ∷ [])) feed in
    ap through_last_feed back ∙ through-at (take (n - 1) xs) [] ∙ ap (λ rest. take (n - 1) xs ++ (10 ∷ rest)) (through-none [] refl) ∙ sym back

pub feed-none : (xs ys : List ℕ) → has_feed xs ≡ false → has_feed ys ≡ false → has_feed (xs ++ ys) ≡ false
feed-none xs ys first second = list_any-append (λ b. b == 10) xs ys ∙ (λ i. first i || second i)
