-- The moves of unmet requests fit.
use Rattle.std.specs.Prelude.{◌≡◌, ℕ, ◌+◌, Bool, true, false, ◌&&◌, cond, List, [], ◌∷◌, filter_map, flat_map, All, Option, Some, None, refl}
use Rattle.std.specs.List.{list_any, list_all, enumerate_from, cons_option}
use Rattle.std.specs.Option.{is_some, option_map_or}
use Rattle.std.proofs.Common.{◌∙◌, ap, arith, subst}
use Rattle.std.proofs.lemmas.List.Folds.{list_all-append}
use Rattle.std.proofs.lemmas.List.Sums.{AllPass-from_list_all}
use Rattle.sect_people.specs.Student.{Student, find_student}
use Rattle.sect_people.specs.Changes.{ids_of}
use Rattle.sect_people.specs.declared.row.Ask.{Ask}
use Rattle.sect_people.specs.declared.row.Ask.TheVariants.{Course as asks_course, Free}
use Rattle.sect_command.specs.declared.view.UnmetView.{UnmetView}
use Rattle.sect_model.specs.Data.{StudentId}
use Rattle.sect_model.specs.World.{World, holds}
use Rattle.sect_model.specs.Kept.{KeptWorld}
use Rattle.sect_model.specs.Premises.{MoveFits, courses_known, is_sized, want_fits}
use Rattle.sect_model.specs.Batch.{asks_of, want_of}
use Rattle.sect_model.specs.Look.{unmet_ask, unmet_views, students_by_id}
use Rattle.sect_model.proofs.Members.{both, both-left, both-right}
use Rattle.sect_model.proofs.BatchLemmas.{ask_fits, asks-fit}
use Rattle.sect_view.specs.Unmet.{unmet_among}
use Rattle.sect_view.proofs.RowLemmas.{unmet-by-id}
use Rattle.sect_survey.specs.Survey.{unmarked, unmet_move}

-- the student is known, and the request's want fits
abbrev unmet_fits : World → UnmetView → Bool
unmet_fits w u = is_some (find_student w.students u.student) && want_fits w (want_of (unmarked u.courses) 0)

move-fits : (w : World) (u : UnmetView) → unmet_fits w u ≡ true → MoveFits w (unmet_move u)
move-fits w u h =
    let want = want_of (unmarked u.courses) 0 in
    let fits = both-right (is_some (find_student w.students u.student)) (want_fits w want) h in
    record {
      student = both-left (is_some (find_student w.students u.student)) (want_fits w want) h;
      courses = both (courses_known w want) true (both-left (courses_known w want) true (both-left (courses_known w want && true) (is_sized want) fits)) refl;
      sections = refl;
      held = refl;
      distinct = refl;
      few_given = omega arith;
      few_taken = omega arith;
      sized = both (is_sized want) true (both-right (courses_known w want && true) (is_sized want) fits) refl;
    }

-- those of a known student's requests that are unmet
asks-unmet : (w : World) (student : StudentId) → is_some (find_student w.students student) ≡ true → (n : ℕ) (asks : List Ask) → list_all (ask_fits w) asks ≡ true
    → list_all (unmet_fits w) (filter_map (unmet_ask w student) (enumerate_from n asks)) ≡ true
asks-unmet w student known n [] h = refl
asks-unmet w student known n (Free pattern ∷ asks) h = asks-unmet w student known (n + 1) asks h
asks-unmet w student known n (asks_course ask ∷ asks) h =
    by_test (list_any (holds w student) ask.courses) (asks-unmet w student known (n + 1) asks (both-right (want_fits w (want_of ask 0)) (list_all (ask_fits w) asks) h))
  where
    rest : List UnmetView
    rest = filter_map (unmet_ask w student) (enumerate_from (n + 1) asks)

    view : UnmetView
    view = record { student = student; rank = n; courses = ask.courses }

    by_test : (b : Bool) → list_all (unmet_fits w) rest ≡ true → list_all (unmet_fits w) (cons_option (cond b None (Some view)) rest) ≡ true
    by_test true ih = ih
    by_test false ih =
        both (unmet_fits w view) (list_all (unmet_fits w) rest)
        (both (is_some (find_student w.students student)) (want_fits w (want_of ask 0)) known (both-left (want_fits w (want_of ask 0)) (list_all (ask_fits w) asks) h)) ih

student-unmet : (w : World) → KeptWorld w → (student : StudentId) → list_all (unmet_fits w) (unmet_among w student (asks_of w student)) ≡ true
student-unmet w k student = by_found (find_student w.students student) refl (asks-fit w k student)
  where
    by_found : (o : Option Student) → find_student w.students student ≡ o → list_all (ask_fits w) (option_map_or (λ s. s.asks) o []) ≡ true
        → list_all (unmet_fits w) (unmet_among w student (option_map_or (λ s. s.asks) o [])) ≡ true
    by_found None e h = refl
    by_found (Some s) e h = asks-unmet w student (ap is_some e) 1 s.asks h

all-flat : {X Y : Type 0} (test : Y → Bool) (f : X → List Y) → ((x : X) → list_all test (f x) ≡ true) → (xs : List X) → list_all test (flat_map f xs) ≡ true
all-flat test f h [] = refl
all-flat test f h (x ∷ xs) = list_all-append test (f x) (flat_map f xs) ∙ both (list_all test (f x)) (list_all test (flat_map f xs)) (h x) (all-flat test f h xs)

-- the move of each unmet request fits
pub moves-fit : (w : World) → KeptWorld w → All (λ u. MoveFits w (unmet_move u)) (flat_map (unmet_views w) (students_by_id w))
moves-fit w k =
    let fit : list_all (unmet_fits w) (flat_map (unmet_views w) (students_by_id w)) ≡ true =
    subst (λ us. list_all (unmet_fits w) us ≡ true) (unmet-by-id w k)
    (all-flat (unmet_fits w) (λ id. unmet_among w id (asks_of w id)) (λ id. student-unmet w k id) (ids_of w.students)) in
    λ n d l. move-fits w _ (AllPass-from_list_all (unmet_fits w) (flat_map (unmet_views w) (students_by_id w)) fit n d l)
