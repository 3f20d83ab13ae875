-- A student's requests: few, and found by the student's id.
use Rattle.std.specs.Prelude.{◌≡◌, ℕ, zero, suc, ◌+◌, ◌<◌, Bool, true, false, ◌==◌, nat_lt, List, [], ◌∷◌, ◌++◌, take, filter_map, find, Option, Some, None, refl}
use Rattle.std.specs.List.{enumerate_from, cons_option}
use Rattle.std.specs.Option.{option_or, option_map, option_map_or, is_none, option_to_list}
use Rattle.std.specs.Bool.{then_some}
use Rattle.std.proofs.Common.{◌≤◌, length, get_or, sym, ◌∙◌, ap, arith, append_assoc}
use Rattle.std.proofs.lemmas.Bool.Decides.{nat_tests}
use Rattle.sect_base.specs.Capped.{capped}
use Rattle.sect_base.specs.declared.ids.CourseId.{CourseId}
use Rattle.sect_base.specs.declared.ids.StudentId.{StudentId}
use Rattle.sect_people.specs.declared.row.Ask.{Ask}
use Rattle.sect_people.specs.declared.row.RequestFault.TheVariants.{UnknownCourse, Twice, TooMany}
use Rattle.sect_people.specs.Fault.{fault_of, is_unknown, courses_of_all, repeated_after, first_bad_length}
use Rattle.sect_people.specs.Student.{Student, find_student}
use Rattle.sect_model.specs.World.{World, course_ids}
use Rattle.sect_model.specs.Batch.{asks_of}
use Rattle.sect_model.specs.Kept.{KeptWorld, asks_pass}
use Rattle.sect_command.specs.declared.view.UnmetView.{UnmetView}
use Rattle.sect_model.specs.Look.{unmet_ask}
use Rattle.sect_view.specs.Unmet.{unmet_among}
use Rattle.sect_model.proofs.Members.{all-at, find-member, not_both}

third : {X : Type 0} (a b c : Option X) → is_none (option_or a (option_or b c)) ≡ true → is_none c ≡ true
third (Some x) b c h = absurd (not_both false h refl)
third None (Some x) c h = absurd (not_both false h refl)
third None None c h = h

passed-few : (asks : List Ask) (known : List CourseId) → is_none (fault_of asks known) ≡ true → length asks ≤ 20
passed-few asks known h =
    by_test (nat_lt 20 (length asks)) refl
    (third (option_map (λ c. UnknownCourse c.0) (find (is_unknown known) (courses_of_all asks))) (option_map Twice (repeated_after [] (courses_of_all asks)))
    (option_map (λ n. TooMany (capped n)) (option_or (then_some (nat_lt 20 (length asks)) (length asks)) (first_bad_length asks))) h)
  where
    by_test : (b : Bool) → nat_lt 20 (length asks) ≡ b → is_none (option_map (λ n. TooMany (capped n)) (option_or (then_some b (length asks)) (first_bad_length asks))) ≡ true → length asks ≤ 20
    by_test true t h = absurd (not_both false h refl)
    by_test false t h = grind (arith, nat_tests, t)

-- a known student has at most 20 requests, and another none
pub asks-few : (w : World) → KeptWorld w → (id : StudentId) → length (asks_of w id) ≤ 20
asks-few w k id = by_found (find_student w.students id) refl
  where
    by_found : (o : Option Student) → find_student w.students id ≡ o → length (option_map_or (λ s. s.asks) o []) ≤ 20
    by_found None e = omega arith
    by_found (Some s) e = passed-few s.asks (course_ids w) (all-at (asks_pass w) w.students k.asks_pass s (find-member (λ s. s.row.id.0 == id.0) w.students s e).0)

-- what a look-up lends
pub asks-lent : (o : Option Student) (asks : List Ask) → Some asks ≡ option_map (λ s. s.asks) o → option_map_or (λ s. s.asks) o [] ≡ asks
asks-lent None asks e = cc
asks-lent (Some s) asks e = cc

pub asks-none : (o : Option Student) → None ≡ option_map (λ s. s.asks) o → option_map_or (λ s. s.asks) o [] ≡ []
asks-none None e = refl
asks-none (Some s) e = cc

first-of : {Y : Type 0} (o p : Option Y) → o ≡ p → cons_option o [] ≡ option_to_list p
first-of None p h = ap option_to_list h
first-of (Some z) p h = ap option_to_list h

behind : {Y : Type 0} (o : Option Y) (us vs ws : List Y) → us ≡ vs ++ ws → cons_option o us ≡ cons_option o vs ++ ws
behind None us vs ws h = h
behind (Some z) us vs ws h = ap (λ us. z ∷ us) h

-- one element more, with its number
numbered : {X Y : Type 0} (f : ℕ × X → Option Y) (n : ℕ) (xs : List X) (i m : ℕ) (x : X) → i < length xs → x ≡ get_or xs i x → m ≡ n + i
    → filter_map f (enumerate_from n (take (suc i) xs)) ≡ filter_map f (enumerate_from n (take i xs)) ++ option_to_list (f (m, x))
numbered f n [] i m x l e k = absurd (omega (arith, l))
numbered f n (y ∷ ys) zero m x l e k = let same : n ≡ m = omega (arith, k) in first-of (f (n, y)) (f (m, x)) (λ i. f (same i, sym e i))
numbered f n (y ∷ ys) (suc i) m x l e k =
    behind (f (n, y)) (filter_map f (enumerate_from (n + 1) (take (suc i) ys))) (filter_map f (enumerate_from (n + 1) (take i ys))) (option_to_list (f (m, x)))
    (numbered f (n + 1) ys i m x (omega (arith, l)) e (omega (arith, k)))

-- one request more
pub asks-more : (w : World) (student : StudentId) (asks : List Ask) (i next rank : ℕ) (ask : Ask) (before views new : List UnmetView) → i < length asks → ask ≡ get_or asks i ask → next ≡ i + 1 → rank ≡ i + 1
    → views ≡ before ++ unmet_among w student (take i asks) → new ≡ views ++ option_to_list (unmet_ask w student (rank, ask))
    → new ≡ before ++ unmet_among w student (take next asks)
asks-more w student asks i next rank ask before views new l e n k so put =
    let next_is : next ≡ suc i = omega (arith, n) in
    let rank_is : rank ≡ 1 + i = omega (arith, k) in
    put ∙ ap (λ vs. vs ++ option_to_list (unmet_ask w student (rank, ask))) so
    ∙ append_assoc before (unmet_among w student (take i asks)) (option_to_list (unmet_ask w student (rank, ask)))
    ∙ ap (λ vs. before ++ vs) (sym (numbered (unmet_ask w student) 1 asks i rank ask l e rank_is))
    ∙ ap (λ j. before ++ unmet_among w student (take j asks)) (sym next_is)
