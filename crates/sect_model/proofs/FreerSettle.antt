-- What a search tells of an entry's moves, and that the entries that may have one decide.
use Rattle.std.specs.Prelude.{◌≡◌, ◌≤◌, Bool, true, false, ◌&&◌, cond, List, [], ◌∷◌, length, map, filter, Option, Some, None, refl}
use Rattle.std.specs.Option.{option_map_or, option_to_list, is_some}
use Rattle.std.proofs.Common.{ap, arith}
use Rattle.sect_people.specs.Student.{find_student}
use Rattle.sect_people.specs.Order.{all_differ}
use Rattle.sect_model.specs.Data.{CourseId, Waiting, Choice}
use Rattle.sect_model.specs.World.{World, holds}
use Rattle.sect_model.specs.Move.{is_allowed_move}
use Rattle.sect_model.specs.Settle.{move_of, placement_of, is_placeable, first_entry, waiting_budget}
use Rattle.sect_model.specs.Premises.{MoveFits, courses_known, sections_known, is_sized, want_fits}
use Rattle.sect_model.specs.Kept.{entry_fits}
use Rattle.sect_model.specs.Freer.{BlockedHasNoMove, NoMoveIsNotPlaced, TouchedDecide}
use Rattle.sect_model.proofs.Members
use Rattle.sect_model.proofs.Members.{Member, all-of, both, both-left, both-right, not_both, decide}
use Rattle.sect_model.proofs.KeptMoves.{found-allowed}
use Rattle.sect_model.proofs.RefutedLemmas.{blocked-refutes}
use Rattle.sect_model.proofs.StandLemmas.{stands}
use Rattle.sect_model.proofs.FreerLemmas.{among, filter-part}

pub no-move-unplaced : NoMoveIsNotPlaced
no-move-unplaced w e none = by_found (placement_of w e) refl
  where
    by_found : (o : Option (List Choice)) → placement_of w e ≡ o → option_map_or (λ choices. true) o false ≡ false
    by_found None h = refl
    by_found (Some choices) h = absurd (not_both (is_allowed_move w (move_of w e) choices) (found-allowed w (move_of w e) waiting_budget choices h) (none choices))

-- the move of an entry that fits, fits
pub entry-move-fits : (w : World) (e : Waiting) → entry_fits w e ≡ true → MoveFits w (move_of w e)
entry-move-fits w e h = record {
  student = both-left _ (want_fits w e.want) h;
  courses = both (courses_known w e.want) true (both-left _ _ (both-left _ (is_sized e.want) want)) refl;
  sections = both (sections_known w e.want) true (both-right (courses_known w e.want) _ (both-left _ (is_sized e.want) want)) refl;
  held = all-of (holds w e.student) (filter (holds w e.student) (option_to_list e.give)) (λ c m. (Members.member-filter (holds w e.student) (option_to_list e.give) c m).1);
  distinct = distinct e.give;
  few_given = few e.give;
  few_taken = omega arith;
  sized = both (is_sized e.want) true (both-right (courses_known w e.want && sections_known w e.want) _ want) refl;
}
  where
    want : want_fits w e.want ≡ true
    want = both-right (is_some (find_student w.students e.student)) _ h

    distinct-by : (c : CourseId) (b : Bool) → all_differ (map (λ c. c.0) (cond b (c ∷ []) [])) ≡ true
    distinct-by c true = refl
    distinct-by c false = refl

    distinct : (give : Option CourseId) → all_differ (map (λ c. c.0) (filter (holds w e.student) (option_to_list give))) ≡ true
    distinct None = refl
    distinct (Some c) = distinct-by c (holds w e.student c)

    few-by : (c : CourseId) (b : Bool) → length (cond b (c ∷ []) []) ≤ 4
    few-by c true = omega arith
    few-by c false = omega arith

    few : (give : Option CourseId) → length (filter (holds w e.student) (option_to_list give)) ≤ 4
    few None = omega arith
    few (Some c) = few-by c (holds w e.student c)

pub blocked-no-move : BlockedHasNoMove
blocked-no-move w e visits tree k fits h =
    (blocked-refutes w (move_of w e) waiting_budget visits tree (record { checked = k.rows_pass; reservations_differ = k.reservations_differ }) (stands w (move_of w e) (entry-move-fits w e fits)) h).1

pub touched-decide : TouchedDecide
touched-decide w entries touched none =
    ap first_entry (filter-part (is_placeable w) touched entries (λ e m t. by_touch e m t (touched e) refl))
  where
    by_touch : (e : Waiting) → Member entries e → is_placeable w e ≡ true → (b : Bool) → touched e ≡ b → touched e ≡ true
    by_touch e m t true h = h
    by_touch e m t false h = absurd (not_both (is_placeable w e) t (none e (among entries e m) h))
