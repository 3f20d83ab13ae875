-- What a student holds, and courses that are given up.
use Rattle.std.specs.Prelude.{◌≡◌, ℕ, zero, suc, Bool, true, false, not, ◌==◌, ◌||◌, List, [], ◌∷◌, take, drop, refl}
use Rattle.std.specs.List.{list_any}
use Rattle.std.specs.Option.{option_or}
use Rattle.std.specs.Bool.{then_some}
use Rattle.std.proofs.Common.{◌<◌, length, get_or, sym, ◌∙◌, ap, arith}
use Rattle.std.proofs.Math.Seq.{drop-cons}
use Rattle.sect_base.specs.declared.ids.CourseId.{CourseId}
use Rattle.sect_base.specs.declared.ids.StudentId.{StudentId}
use Rattle.sect_command.specs.declared.reply.Refusal.TheVariants.{NotEnrolled}
use Rattle.sect_model.specs.World.{World, holds}
use Rattle.sect_model.specs.Refusals.{not_enrolled_in}

abbrev is : ℕ → CourseId → Bool
is n c = c.0 == n

swap : (a b c : Bool) → a || (b || c) ≡ b || (a || c)
swap true true c = refl
swap true false c = refl
swap false true c = refl
swap false false c = refl

-- only which courses stand earlier counts
same-earlier : (w : World) (s : StudentId) (e f : List CourseId) → ((n : ℕ) → list_any (is n) e ≡ list_any (is n) f) → (cs : List CourseId) → not_enrolled_in w s e cs ≡ not_enrolled_in w s f cs
same-earlier w s e f h [] = refl
same-earlier w s e f h (c ∷ cs) =
    λ i. option_or (then_some (not (holds w s c) || h c.0 i) (NotEnrolled c)) (same-earlier w s (c ∷ e) (c ∷ f) (λ n j. is n c || h n j) cs i)

-- one course more has been taken
moved : (cs : List CourseId) (k : ℕ) (d : CourseId) (n : ℕ) → k < length cs → is n (get_or cs k d) || list_any (is n) (take k cs) ≡ list_any (is n) (take (suc k) cs)
moved [] k d n l = absurd (omega (arith, l))
moved (x ∷ xs) zero d n l = refl
moved (x ∷ xs) (suc k) d n l =
    swap (is n (get_or xs k d)) (is n x) (list_any (is n) (take k xs)) ∙ (λ i. is n x || moved xs k d n (omega (arith, l)) i)

-- what one course tells, and where it tells nothing the rest
pub given-at : (w : World) (s : StudentId) (cs : List CourseId) (k next : ℕ) (d : CourseId) → next ≡ suc k → k < length cs
    → (b : Bool) → b ≡ not (holds w s (get_or cs k d)) || list_any (λ e. e.0 == (get_or cs k d).0) (take k cs)
    → option_or (then_some b (NotEnrolled (get_or cs k d))) (not_enrolled_in w s (take next cs) (drop next cs)) ≡ not_enrolled_in w s (take k cs) (drop k cs)
given-at w s cs k next d n l b h =
    (λ i. option_or (then_some (h i) (NotEnrolled (get_or cs k d))) (not_enrolled_in w s (take (n i) cs) (drop (n i) cs)))
    ∙ ap (option_or (then_some (not (holds w s (get_or cs k d)) || list_any (is (get_or cs k d).0) (take k cs)) (NotEnrolled (get_or cs k d))))
    (same-earlier w s (take (suc k) cs) (get_or cs k d ∷ take k cs) (λ n. sym (moved cs k d n l)) (drop (suc k) cs))
    ∙ sym (ap (not_enrolled_in w s (take k cs)) (drop-cons cs k d l))
