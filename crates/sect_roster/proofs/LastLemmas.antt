-- The last enrolment of a student: where it stands, what is left without it, and how it comes back.
use Rattle.std.specs.Prelude.{◌≡◌, ℕ, zero, suc, ◌+◌, ◌-◌, ◌<◌, ◌≤◌, Bool, true, false, not, ◌&&◌, ◌||◌, ◌==◌, nat_le, nat_lt, cond, List, [], ◌∷◌, ◌++◌, take, drop, length, slice_get, Option, Some, None, refl}
use Rattle.std.specs.Bool.{then_some}
use Rattle.std.specs.List.{list_any, list_all}
use Rattle.std.specs.Option.{option_or, is_some}
use Rattle.std.proofs.Common.{sym, ◌∙◌, ap, subst, arith, get_or}
use Rattle.std.proofs.lemmas.Bool.{eq-eqb, eqb-true}
use Rattle.std.proofs.lemmas.Bool.Decides.{nat_tests}
use Rattle.std.proofs.lemmas.Option.{slice_get_read}
use Rattle.sect_people.specs.Index.{rank}
use Rattle.sect_people.proofs.RankLemmas.{rank_le-length}
use Rattle.sect_base.specs.declared.ids.StudentId.{StudentId}
use Rattle.sect_model.specs.declared.held.Enrolment.{Enrolment}
use Rattle.sect_model.specs.World.{insert_enrolment}
use Rattle.sect_model.specs.Kept.{is_ordered}
use Rattle.sect_model.proofs.Members.{both, both-left, both-right, not_both, neither-left, neither-right, or-left, or-right}
use Rattle.sect_model.proofs.ListLemmas.{some-is}
use Rattle.sect_roster.specs.Last.{last_of, drop_last_of}

-- ---- order

pub first-least : (e : Enrolment) (es : List Enrolment) → is_ordered (e ∷ es) ≡ true → list_all (λ f. nat_le e.student.0 f.student.0) es ≡ true
first-least e es h = both-left (list_all (λ f. nat_le e.student.0 f.student.0) es) _ h

pub rest-ordered : (e : Enrolment) (es : List Enrolment) → is_ordered (e ∷ es) ≡ true → is_ordered es ≡ true
rest-ordered e es h = both-right (list_all (λ f. nat_le e.student.0 f.student.0) es) _ h

-- nobody of a lower number comes behind
none-behind : (n : ℕ) (e : Enrolment) (es : List Enrolment) → nat_lt n e.student.0 ≡ true → list_all (λ f. nat_le e.student.0 f.student.0) es ≡ true → list_any (λ f. f.student.0 == n) es ≡ false
none-behind n e [] past h = refl
none-behind n e (f ∷ fs) past h =
    (λ i. later e.student.0 f.student.0 past (both-left _ _ h) i || list_any (λ f. f.student.0 == n) fs)
    ∙ none-behind n e fs past (both-right (nat_le e.student.0 f.student.0) _ h)
  where
    later : (a b : ℕ) → nat_lt n a ≡ true → nat_le a b ≡ true → b == n ≡ false
    later a b h k = grind (arith, nat_tests)

-- where one of the number comes behind, the first is at most it
at-most : (n : ℕ) (e : Enrolment) (es : List Enrolment) → list_all (λ f. nat_le e.student.0 f.student.0) es ≡ true → list_any (λ f. f.student.0 == n) es ≡ true → nat_le e.student.0 n ≡ true
at-most n e es h some = by_test (nat_lt n e.student.0) refl
  where
    turned : (a b : ℕ) → nat_lt a b ≡ false → nat_le b a ≡ true
    turned a b t = grind (arith, nat_tests)

    by_test : (b : Bool) → nat_lt n e.student.0 ≡ b → nat_le e.student.0 n ≡ true
    by_test true t = absurd (not_both _ some (none-behind n e es t h))
    by_test false t = turned n e.student.0 t

-- ---- the rank behind the last

up_to : (a b : ℕ) → nat_le a b ≡ true → nat_lt a (suc b) ≡ true
up_to a b h = grind (arith, nat_tests)

-- where some are the student's, the rank of the next number is above 0
pub rank-some : (n : ℕ) (es : List Enrolment) → is_ordered es ≡ true → list_any (λ e. e.student.0 == n) es ≡ true → 0 < rank (λ e. e.student.0) (suc n) es
rank-some n [] h some = absurd (not_both false some refl)
rank-some n (e ∷ es) h some = by_test (nat_lt e.student.0 (suc n)) refl
  where
    first : (a : ℕ) → nat_lt a (suc n) ≡ false → a == n ≡ false
    first a t = grind (arith, nat_tests)

    past : (a : ℕ) → nat_lt a (suc n) ≡ false → nat_lt n a ≡ true
    past a t = grind (arith, nat_tests)

    by_test : (b : Bool) → nat_lt e.student.0 (suc n) ≡ b → 0 < cond b (suc (rank (λ e. e.student.0) (suc n) es)) 0
    by_test true t = omega arith
    by_test false t = absurd (not_both (list_any (λ e. e.student.0 == n) (e ∷ es)) some
        ((λ i. first e.student.0 t i || list_any (λ e. e.student.0 == n) es) ∙ none-behind n e es (past e.student.0 t) (first-least e es h)))

-- where the first is the student's last, the rank of the next number is that of the rest
rank-none : (n : ℕ) (e : Enrolment) (es : List Enrolment) → e.student.0 == n ≡ true → list_all (λ f. nat_le e.student.0 f.student.0) es ≡ true → list_any (λ e. e.student.0 == n) es ≡ false
    → rank (λ e. e.student.0) (suc n) es ≡ 0
rank-none n e [] own h none = refl
rank-none n e (f ∷ fs) own h none =
    ap (λ b. cond b (suc (rank (λ e. e.student.0) (suc n) fs)) 0) (past e.student.0 f.student.0 own (both-left _ _ h) (neither-left (f.student.0 == n) _ none))
  where
    past : (a b : ℕ) → a == n ≡ true → nat_le a b ≡ true → b == n ≡ false → nat_lt b (suc n) ≡ false
    past a b e le other = grind (arith, nat_tests)

-- ---- whether there is one

-- where the student has none, there is no last
pub last-none : (student : StudentId) (es : List Enrolment) → list_any (λ e. e.student.0 == student.0) es ≡ false → last_of student es ≡ None
last-none student [] h = refl
last-none student (e ∷ es) h =
    ap (λ o. option_or o (then_some (e.student.0 == student.0) e)) (last-none student es (neither-right (e.student.0 == student.0) _ h))
    ∙ ap (λ b. then_some b e) (neither-left (e.student.0 == student.0) _ h)

-- where the student has one, what comes before it is not the last
pub last-some : (student : StudentId) (es : List Enrolment) → list_any (λ e. e.student.0 == student.0) es ≡ true → (o : Option Enrolment) → option_or (last_of student es) o ≡ last_of student es
last-some student [] h o = absurd (not_both false h refl)
last-some student (e ∷ es) h o = by_rest (list_any (λ e. e.student.0 == student.0) es) (e.student.0 == student.0) refl h (λ u o. last-some student es u o)
  where
    by_rest : (b a : Bool) → list_any (λ e. e.student.0 == student.0) es ≡ b → a || b ≡ true
        → (list_any (λ e. e.student.0 == student.0) es ≡ true → (o : Option Enrolment) → option_or (last_of student es) o ≡ last_of student es)
        → option_or (option_or (last_of student es) (then_some a e)) o ≡ option_or (last_of student es) (then_some a e)
    by_rest true a u s ih = (λ i. option_or (ih u (then_some a e) i) o) ∙ ih u o ∙ sym (ih u (then_some a e))
    by_rest false true u s ih = (λ i. option_or (option_or (last-none student es u i) (Some e)) o) ∙ (λ i. option_or (sym (last-none student es u) i) (Some e))
    by_rest false false u s ih = absurd (not_both false s refl)

-- the last is the student's
pub last-own : (student : StudentId) (es : List Enrolment) (last : Enrolment) → last_of student es ≡ Some last → last.student.0 == student.0 ≡ true
last-own student [] last e = cc
last-own student (x ∷ xs) last e = by_rest (last_of student xs) (x.student.0 == student.0) refl refl e (λ g. last-own student xs last g)
  where
    by_rest : (o : Option Enrolment) (b : Bool) → last_of student xs ≡ o → x.student.0 == student.0 ≡ b → option_or o (then_some b x) ≡ Some last
        → (last_of student xs ≡ Some last → last.student.0 == student.0 ≡ true) → last.student.0 == student.0 ≡ true
    by_rest (Some l) b s t e ih = ih (s ∙ e)
    by_rest None true s t e ih = subst (λ z. z.student.0 == student.0 ≡ true) (some-is last x e) t
    by_rest None false s t e ih = cc

-- ---- what is left

-- without the element before that rank, the student's last is gone
pub remove-last : (student : StudentId) (es : List Enrolment) (k : ℕ) → is_ordered es ≡ true → list_any (λ e. e.student.0 == student.0) es ≡ true
    → suc k ≡ rank (λ e. e.student.0) (suc student.0) es → take k es ++ drop (suc k) es ≡ drop_last_of student es
remove-last student [] k h some at = absurd (not_both false some refl)
remove-last student (e ∷ es) k h some at =
    by_rest (e.student.0 == student.0) (list_any (λ f. f.student.0 == student.0) es) refl refl some
    k (at ∙ ap (λ b. cond b (suc (rank (λ e. e.student.0) (suc student.0) es)) 0) within) (λ j u g. remove-last student es j (rest-ordered e es h) u g)
  where
    own-at-most : (a n : ℕ) → a == n ≡ true → nat_le a n ≡ true
    own-at-most a n t = grind (arith, nat_tests)

    low : (a b : Bool) → e.student.0 == student.0 ≡ a → list_any (λ f. f.student.0 == student.0) es ≡ b → a || b ≡ true → nat_le e.student.0 student.0 ≡ true
    low true b t u s = own-at-most e.student.0 student.0 t
    low false b t u s = at-most student.0 e es (first-least e es h) (u ∙ s)

    within : nat_lt e.student.0 (suc student.0) ≡ true
    within = up_to e.student.0 student.0 (low (e.student.0 == student.0) (list_any (λ f. f.student.0 == student.0) es) refl refl some)

    by_rest : (a b : Bool) → e.student.0 == student.0 ≡ a → list_any (λ f. f.student.0 == student.0) es ≡ b → a || b ≡ true
        → (k : ℕ) → suc k ≡ suc (rank (λ e. e.student.0) (suc student.0) es)
        → ((j : ℕ) → list_any (λ f. f.student.0 == student.0) es ≡ true → suc j ≡ rank (λ e. e.student.0) (suc student.0) es → take j es ++ drop (suc j) es ≡ drop_last_of student es)
        → take k (e ∷ es) ++ drop (suc k) (e ∷ es) ≡ cond (a && not b) es (e ∷ drop_last_of student es)
    by_rest true true t u s zero at ih = let some = rank-some student.0 es (rest-ordered e es h) u in absurd (omega (arith, at, some))
    by_rest true true t u s (suc k) at ih = ap (λ fs. e ∷ fs) (ih k u (omega (arith, at)))
    by_rest false true t u s zero at ih = let some = rank-some student.0 es (rest-ordered e es h) u in absurd (omega (arith, at, some))
    by_rest false true t u s (suc k) at ih = ap (λ fs. e ∷ fs) (ih k u (omega (arith, at)))
    by_rest true false t u s zero at ih = refl
    by_rest true false t u s (suc k) at ih = let none = rank-none student.0 e es t (first-least e es h) u in absurd (omega (arith, at, none))
    by_rest false false t u s k at ih = absurd (not_both false s refl)

-- and that element is the student's last
pub last-read : (student : StudentId) (es : List Enrolment) (k : ℕ) → is_ordered es ≡ true → list_any (λ e. e.student.0 == student.0) es ≡ true
    → suc k ≡ rank (λ e. e.student.0) (suc student.0) es → slice_get es k ≡ last_of student es
last-read student [] k h some at = absurd (not_both false some refl)
last-read student (e ∷ es) k h some at =
    by_rest (e.student.0 == student.0) (list_any (λ f. f.student.0 == student.0) es) refl refl some
    k (at ∙ ap (λ b. cond b (suc (rank (λ e. e.student.0) (suc student.0) es)) 0) within) (λ j u g. last-read student es j (rest-ordered e es h) u g)
  where
    own-at-most : (a n : ℕ) → a == n ≡ true → nat_le a n ≡ true
    own-at-most a n t = grind (arith, nat_tests)

    low : (a b : Bool) → e.student.0 == student.0 ≡ a → list_any (λ f. f.student.0 == student.0) es ≡ b → a || b ≡ true → nat_le e.student.0 student.0 ≡ true
    low true b t u s = own-at-most e.student.0 student.0 t
    low false b t u s = at-most student.0 e es (first-least e es h) (u ∙ s)

    within : nat_lt e.student.0 (suc student.0) ≡ true
    within = up_to e.student.0 student.0 (low (e.student.0 == student.0) (list_any (λ f. f.student.0 == student.0) es) refl refl some)

    by_rest : (a b : Bool) → e.student.0 == student.0 ≡ a → list_any (λ f. f.student.0 == student.0) es ≡ b → a || b ≡ true
        → (k : ℕ) → suc k ≡ suc (rank (λ e. e.student.0) (suc student.0) es)
        → ((j : ℕ) → list_any (λ f. f.student.0 == student.0) es ≡ true → suc j ≡ rank (λ e. e.student.0) (suc student.0) es → slice_get es j ≡ last_of student es)
        → slice_get (e ∷ es) k ≡ option_or (last_of student es) (then_some a e)
    by_rest a true t u s zero at ih = let some = rank-some student.0 es (rest-ordered e es h) u in absurd (omega (arith, at, some))
    by_rest a true t u s (suc k) at ih = ih k u (omega (arith, at)) ∙ sym (last-some student es u (then_some a e))
    by_rest true false t u s zero at ih = ap (λ o. option_or o (Some e)) (sym (last-none student es u))
    by_rest true false t u s (suc k) at ih = let none = rank-none student.0 e es t (first-least e es h) u in absurd (omega (arith, at, none))
    by_rest false false t u s k at ih = absurd (not_both false s refl)

-- the same, of an element that was read there
pub last-found : (student : StudentId) (es : List Enrolment) (k : ℕ) (last : Enrolment) → is_ordered es ≡ true → list_any (λ e. e.student.0 == student.0) es ≡ true
    → suc k ≡ rank (λ e. e.student.0) (suc student.0) es → last ≡ get_or es k last → Some last ≡ last_of student es
last-found student es k last h some at is =
    let within : k < length es = omega (arith, at, rank_le-length (λ (e : Enrolment). e.student.0) (suc student.0) es) in
    sym (slice_get_read es (length es) k last refl within is) ∙ last-read student es k h some at

-- where a search stopped behind the student's last, that one stands before
pub before : (n : ℕ) (es read : List Enrolment) (r : ℕ) → is_ordered es ≡ true → list_any (λ e. e.student.0 == n) es ≡ true → read ≡ es → r ≡ rank (λ e. e.student.0) (n + 1) read
    → (suc (r - 1) ≡ rank (λ e. e.student.0) (suc n) es) × (1 ≤ r)
before n es read r h some same at =
    let next : n + 1 ≡ suc n = omega arith in
    let is : r ≡ rank (λ e. e.student.0) (suc n) es = at ∙ (λ i. rank (λ e. e.student.0) (next i) (same i)) in
    let above = rank-some n es h some in
    (omega (arith, is, above), omega (arith, is, above))

-- the others stay in order
pub ordered-last : (student : StudentId) (es : List Enrolment) → is_ordered es ≡ true → is_ordered (drop_last_of student es) ≡ true
ordered-last student [] h = refl
ordered-last student (e ∷ es) h = by_test (e.student.0 == student.0 && not (list_any (λ f. f.student.0 == student.0) es)) (ordered-last student es (rest-ordered e es h))
  where
    all-last : (n : ℕ) (fs : List Enrolment) → list_all (λ f. nat_le n f.student.0) fs ≡ true → list_all (λ f. nat_le n f.student.0) (drop_last_of student fs) ≡ true
    all-last n [] g = refl
    all-last n (f ∷ fs) g = one (f.student.0 == student.0 && not (list_any (λ f. f.student.0 == student.0) fs)) (all-last n fs (both-right (nat_le n f.student.0) _ g))
      where
        one : (b : Bool) → list_all (λ f. nat_le n f.student.0) (drop_last_of student fs) ≡ true → list_all (λ f. nat_le n f.student.0) (cond b fs (f ∷ drop_last_of student fs)) ≡ true
        one true ih = both-right (nat_le n f.student.0) _ g
        one false ih = both (nat_le n f.student.0) _ (both-left (nat_le n f.student.0) _ g) ih

    by_test : (b : Bool) → is_ordered (drop_last_of student es) ≡ true → is_ordered (cond b es (e ∷ drop_last_of student es)) ≡ true
    by_test true ih = rest-ordered e es h
    by_test false ih = both (list_all (λ f. nat_le e.student.0 f.student.0) (drop_last_of student es)) _ (all-last e.student.0 es (first-least e es h)) ih

pub same-student : (student : StudentId) (e : Enrolment) → e.student.0 == student.0 ≡ true → e.student ≡ student
same-student student e h = let same = eqb-true e.student.0 student.0 h in λ i. record { 0 = same i }

-- ---- back and forth

-- those behind the student's last come later
alone : (n : ℕ) (e : Enrolment) (fs : List Enrolment) → list_all (λ f. nat_le e.student.0 f.student.0) fs ≡ true → list_any (λ f. f.student.0 == n) fs ≡ false → e.student.0 == n ≡ true → insert_enrolment e fs ≡ e ∷ fs
alone n e [] g none t = refl
alone n e (f ∷ fs) g none t = ap (λ b. cond b (f ∷ insert_enrolment e fs) (e ∷ f ∷ fs)) (past e.student.0 f.student.0 t (both-left _ _ g) (neither-left (f.student.0 == n) _ none))
  where
    past : (a b : ℕ) → a == n ≡ true → nat_le a b ≡ true → b == n ≡ false → nat_le b a ≡ false
    past a b t le other = grind (arith, nat_tests)

-- put behind the others of the student again, it stands where it stood
pub put-last : (student : StudentId) (es : List Enrolment) (last : Enrolment) → is_ordered es ≡ true → last_of student es ≡ Some last → insert_enrolment last (drop_last_of student es) ≡ es
put-last student [] last h l = cc
put-last student (e ∷ es) last h l =
    by_rest (e.student.0 == student.0) (list_any (λ f. f.student.0 == student.0) es) refl refl l (λ g. put-last student es last (rest-ordered e es h) g)
  where
    same : last.student.0 ≡ student.0
    same = eqb-true last.student.0 student.0 (last-own student (e ∷ es) last l)

    low : list_any (λ f. f.student.0 == student.0) es ≡ true → nat_le e.student.0 last.student.0 ≡ true
    low u = ap (nat_le e.student.0) same ∙ at-most student.0 e es (first-least e es h) u

    by_rest : (a b : Bool) → e.student.0 == student.0 ≡ a → list_any (λ f. f.student.0 == student.0) es ≡ b → option_or (last_of student es) (then_some a e) ≡ Some last
        → (last_of student es ≡ Some last → insert_enrolment last (drop_last_of student es) ≡ es)
        → insert_enrolment last (cond (a && not b) es (e ∷ drop_last_of student es)) ≡ e ∷ es
    by_rest true true t u l ih =
        (λ i. cond (low u i) (e ∷ insert_enrolment last (drop_last_of student es)) (last ∷ e ∷ drop_last_of student es))
        ∙ ap (λ fs. e ∷ fs) (ih (sym (last-some student es u (Some e)) ∙ l))
    by_rest false true t u l ih =
        (λ i. cond (low u i) (e ∷ insert_enrolment last (drop_last_of student es)) (last ∷ e ∷ drop_last_of student es))
        ∙ ap (λ fs. e ∷ fs) (ih (sym (last-some student es u None) ∙ l))
    by_rest true false t u l ih =
        let is : e ≡ last = some-is last e ((λ i. option_or (sym (last-none student es u) i) (Some e)) ∙ l) in
        ap (λ x. insert_enrolment x es) (sym is) ∙ alone student.0 e es (first-least e es h) u t
    by_rest false false t u l ih = absurd (not_both true refl (ap is_some (sym ((λ i. option_or (sym (last-none student es u) i) None) ∙ l))))

own : (e : Enrolment) → e.student.0 == e.student.0 ≡ true
own e = eq-eqb e.student.0 e.student.0 refl

-- the new enrolment is one of its student's
some-put : (e : Enrolment) (es : List Enrolment) → list_any (λ f. f.student.0 == e.student.0) (insert_enrolment e es) ≡ true
some-put e [] = or-left (e.student.0 == e.student.0) false (own e)
some-put e (x ∷ xs) = by_test (nat_le x.student.0 e.student.0) (some-put e xs)
  where
    by_test : (b : Bool) → list_any (λ f. f.student.0 == e.student.0) (insert_enrolment e xs) ≡ true → list_any (λ f. f.student.0 == e.student.0) (cond b (x ∷ insert_enrolment e xs) (e ∷ x ∷ xs)) ≡ true
    by_test true ih = or-right (x.student.0 == e.student.0) _ ih
    by_test false ih = or-left (e.student.0 == e.student.0) _ (own e)

-- nobody behind it is the student
none-past : (e x : Enrolment) (xs : List Enrolment) → is_ordered (x ∷ xs) ≡ true → nat_le x.student.0 e.student.0 ≡ false → list_any (λ f. f.student.0 == e.student.0) (x ∷ xs) ≡ false
none-past e x xs h t =
    (λ i. other x.student.0 e.student.0 t i || list_any (λ f. f.student.0 == e.student.0) xs) ∙ none-behind e.student.0 x xs (past x.student.0 e.student.0 t) (first-least x xs h)
  where
    other : (a b : ℕ) → nat_le a b ≡ false → a == b ≡ false
    other a b t = grind (arith, nat_tests)

    past : (a b : ℕ) → nat_le a b ≡ false → nat_lt b a ≡ true
    past a b t = grind (arith, nat_tests)

pub drop-put : (e : Enrolment) (es : List Enrolment) → is_ordered es ≡ true → drop_last_of e.student (insert_enrolment e es) ≡ es
drop-put e [] h = ap (λ b. cond (b && true) [] (e ∷ [])) (own e)
drop-put e (x ∷ xs) h = by_test (nat_le x.student.0 e.student.0) refl (drop-put e xs (rest-ordered x xs h))
  where
    kept : (a b : Bool) (ys zs : List Enrolment) → b ≡ true → cond (a && not b) ys zs ≡ zs
    kept true b ys zs u = ap (λ b. cond (not b) ys zs) u
    kept false b ys zs u = refl

    by_test : (b : Bool) → nat_le x.student.0 e.student.0 ≡ b → drop_last_of e.student (insert_enrolment e xs) ≡ xs → drop_last_of e.student (cond b (x ∷ insert_enrolment e xs) (e ∷ x ∷ xs)) ≡ x ∷ xs
    by_test true t ih =
        kept (x.student.0 == e.student.0) (list_any (λ f. f.student.0 == e.student.0) (insert_enrolment e xs)) (insert_enrolment e xs) (x ∷ drop_last_of e.student (insert_enrolment e xs)) (some-put e xs)
        ∙ ap (λ ys. x ∷ ys) ih
    by_test false t ih = λ i. cond (own e i && not (none-past e x xs h t i)) (x ∷ xs) (e ∷ drop_last_of e.student (x ∷ xs))

pub last-put : (e : Enrolment) (es : List Enrolment) → is_ordered es ≡ true → last_of e.student (insert_enrolment e es) ≡ Some e
last-put e [] h = ap (λ b. then_some b e) (own e)
last-put e (x ∷ xs) h = by_test (nat_le x.student.0 e.student.0) refl (last-put e xs (rest-ordered x xs h))
  where
    by_test : (b : Bool) → nat_le x.student.0 e.student.0 ≡ b → last_of e.student (insert_enrolment e xs) ≡ Some e → last_of e.student (cond b (x ∷ insert_enrolment e xs) (e ∷ x ∷ xs)) ≡ Some e
    by_test true t ih = ap (λ o. option_or o (then_some (x.student.0 == e.student.0) x)) ih
    by_test false t ih = (λ i. option_or (last-none e.student (x ∷ xs) (none-past e x xs h t) i) (then_some (own e i) e))
