-- Each change of the parts, and each taken back, followed by their numbers and weeks.
use Rattle.std.specs.Prelude.{◌≡◌, ◌≤◌, true, false, ◌==◌, find, Option, Some, None, Result, Ok, Err, IfOk, OnErr, refl}
use Rattle.std.specs.List.{list_any, position_or_len}
use Rattle.std.specs.Option.{option_map_or, is_some}
use Rattle.std.proofs.Common.{sym, ◌∙◌, ap, subst, ⊎_elim}
use Rattle.sect_base.specs.declared.duplicate.Memory.{Memory}
use Rattle.sect_base.specs.declared.ids.OfferingId.{OfferingId}
use Rattle.sect_base.specs.declared.ids.ReservationId.{ReservationId}
use Rattle.sect_base.specs.declared.ids.StudentId.{StudentId}
use Rattle.sect_base.specs.declared.ids.CourseId.{CourseId}
use Rattle.sect_model.specs.declared.held.Enrolment.{Enrolment}
use Rattle.sect_model.specs.declared.change.Change.{Change}
use Rattle.sect_model.specs.declared.change.Change.TheVariants.{Offering, Student, Requests, Reserve, Unreserve, Expiry, Restrict, Unrestrict, Cap as new_cap, Cancelled, Day, Enrol, Leave}
use Rattle.sect_model.specs.World.{World, reservation_of, is_in, holds, insert_enrolment}
use Rattle.sect_model.specs.Kept.{KeptWorld}
use Rattle.sect_model.specs.Fits.{Fits, changed}
use Rattle.sect_model.proofs.Members
use Rattle.sect_model.proofs.Members.{any-at, both-left, either, not_both, or-right}
use Rattle.sect_model.proofs.ChangeLemmas.{changes-keep}
use Rattle.sect_numbers.specs.declared.numbers.Numbers.{Numbers}
use Rattle.sect_numbers.specs.Numbers.{Told, Grown, has_uses, counted_ids}
use Rattle.sect_numbers.specs.OneMore.{with_roster, IsMore}
use Rattle.sect_numbers.specs.Quiet.{is_quiet, has_new, has_old}
use Rattle.sect_numbers.proofs.MoreLemmas.{inserted}
use Rattle.sect_roster.specs.Rostered.{of_student, number_held, put_among}
use Rattle.sect_space.proofs.RoomLemmas.{among}
use Rattle.sect_numbers.proofs.KnownLemmas.{told-grown, told-of-others}
use Rattle.sect_numbers.proofs.BackLemmas.{told-before-others}
use Rattle.sect_numbers.proofs.IdLemmas.{counted-id}
use Rattle.sect_weeks.specs.declared.weeks.Weeks.{Weeks}
use Rattle.sect_weeks.specs.Busy.{ToldWeeks}
use Rattle.sect_weeks.specs.Quiet.{has_new as has_student}
use Rattle.sect_weeks.specs.Rows.{Keeps}
use Rattle.sect_weeks.proofs.ToldLemmas.{kept-is-told}
use Rattle.sect_weeks.proofs.QuietLemmas.{quiet-is-told, back-is-told}
use Rattle.sect_space.specs.declared.back.Back.{Back}
use Rattle.sect_space.specs.declared.back.Back.TheVariants.{Enrolled, Left}
use Rattle.sect_space.specs.declared.parts.Parts.{Parts}
use Rattle.sect_space.specs.Back.{back_of, taken_back, no_change, offering_id, is_of_quiet, mark_of}
use Rattle.sect_space.specs.Counting.{OneBehind, OneAhead}
use Rattle.sect_space.specs.Made.{Made, Unchanged, Taken, Ready}
use Rattle.sect_space.specs.Parts.{roomed_of, numbered_of, Numbered, Followed}
use Rattle.sect_space.specs.Roomed.{Roomed}
use Rattle.sect_space.specs.Room.{HasRoom, KeepsUses}
use Rattle.sect_space.specs.Undoing.{MadeBy}
use Rattle.sect_roster.proofs.InsertLemmas.{find-dropped}
use Rattle.sect_space.proofs.ReadyLemmas.{ready}
use Rattle.sect_space.proofs.TakenBack.{taken-back}
use Rattle.sect_space.proofs.WorldLemmas.{kept-either}

-- ---- uses

-- no count of uses goes where no row goes
pub uses-stay : (p q : Parts) (n m : Numbers) → Numbered p n → ((id : ReservationId) → has_uses n id ≡ true → has_uses m id ≡ true) → KeepsUses (numbered_of p n) (numbered_of q m)
uses-stay p q n m i rows id h =
    or-right (is_some (reservation_of (roomed_of q).world id)) (list_any (λ k. k == id.0) (counted_ids m)) (counted-id m id ∙ rows id had)
  where
    had : has_uses n id ≡ true
    had =
        ⊎_elim (λ known. i.told.reservations id known) (λ listed. sym (counted-id n id) ∙ listed)
        (either (is_some (reservation_of (roomed_of p).world id)) (list_any (λ k. k == id.0) (counted_ids n)) h)

pub uses-kept : (r : Roomed) (p q : Parts) (n m : Numbers) → numbered_of p n ≡ r → Numbered p n → ((id : ReservationId) → has_uses n id ≡ true → has_uses m id ≡ true) → KeepsUses r (numbered_of q m)
uses-kept r p q n m e i rows = subst (λ s. KeepsUses s (numbered_of q m)) e (uses-stay p q n m i rows)

-- ---- what is asked of the world is asked of its parts

pub fits-in : (r : Roomed) (p : Parts) (n : Numbers) (c : Change) → numbered_of p n ≡ r → Fits r.world c → Fits (roomed_of p).world c
fits-in r p n c e f = subst (λ s. Fits s.world c) (sym e) f

pub made-in : (r : Roomed) (p : Parts) (n : Numbers) (b : Back) → numbered_of p n ≡ r → MadeBy r b → MadeBy (numbered_of p n) b
made-in r p n b e m = subst (λ s. MadeBy s b) (sym e) m

-- ---- changes

pub kept-made : (p q : Parts) (n : Numbers) (c : Change) (b : Back) → Numbered p n → Fits (roomed_of p).world c → Made (roomed_of p) (roomed_of q) c b → KeptWorld (roomed_of q).world
kept-made p q n c b i f made = subst KeptWorld (sym made.world) (changes-keep (roomed_of p).world c i.kept f)

pub numbered-quiet : (p q : Parts) (n m : Numbers) (c : Change) (result : Result Back Memory) → Numbered p n → Fits (roomed_of p).world c → is_quiet c ≡ true → Grown n m → has_new m c ≡ true
    → IfOk result (λ b. Made (roomed_of p) (roomed_of q) c b) → OnErr result (Unchanged (roomed_of p) (roomed_of q)) → Numbered q m
numbered-quiet p q n m c (Ok b) i f quiet g new made same = record {
  kept = kept-either (roomed_of p) (roomed_of q) c (Ok b) i.kept f made same;
  told = subst (Told m) (sym made.world) (told-of-others n m (roomed_of p).world c i.kept f quiet i.told g new);
}
numbered-quiet p q n m c (Err e) i f quiet g new made same = record {
  kept = kept-either (roomed_of p) (roomed_of q) c (Err e) i.kept f made same;
  told = subst (Told m) (sym same.world) (told-grown n m (roomed_of p).world i.told g);
}

pub weeks-quiet : (p q : Parts) (n : Numbers) (k l : Weeks) (c : Change) (result : Result Back Memory) → Followed p n k → Fits (roomed_of p).world c → is_quiet c ≡ true → Keeps k l → has_student l c ≡ true
    → IfOk result (λ b. Made (roomed_of p) (roomed_of q) c b) → OnErr result (Unchanged (roomed_of p) (roomed_of q)) → ToldWeeks l (roomed_of q).world
weeks-quiet p q n k l c (Ok b) i f quiet keeps new made same =
    subst (ToldWeeks l) (sym made.world) (quiet-is-told k l (roomed_of p).world c i.numbered.kept f quiet i.weeks keeps new)
weeks-quiet p q n k l c (Err e) i f quiet keeps new made same = subst (ToldWeeks l) (sym same.world) (kept-is-told k l (roomed_of p).world i.weeks keeps)

-- the offering that is kept of an enrolment is its course's, as before
pub its-offering : (r s : Roomed) (e : Enrolment) (offering : Option OfferingId) → Made r s (Enrol e) (Enrolled e.student offering) → offering ≡ offering_id s.world e.choice.course
its-offering r s e offering made = ap (λ b. (mark_of b).offering) made.recorded ∙ sym (ap (λ w. offering_id w e.choice.course) made.world)

pub enrolled-behind : (p q : Parts) (n : Numbers) (k : Weeks) (e : Enrolment) (b : Back) → Followed p n k → Fits (roomed_of p).world (Enrol e) → Made (roomed_of p) (roomed_of q) (Enrol e) b
    → OneBehind n k (roomed_of q).world e
enrolled-behind p q n k e b i f made =
    let w = (roomed_of p).world in
    record {
      less = w.roster;
      is_more = subst (λ es. IsMore w.roster es e) (sym (ap (λ (v : World). v.roster) made.world)) (inserted e w.roster);
      kept = subst KeptWorld (sym made.world) (changes-keep w (Enrol e) i.numbered.kept f);
      told = subst (λ v. Told n (with_roster v w.roster)) (sym made.world) i.numbered.told;
      weeks = subst (λ v. ToldWeeks k (with_roster v w.roster)) (sym made.world) i.weeks;
    }

pub left-ahead : (p q : Parts) (n : Numbers) (k : Weeks) (student : StudentId) (course : CourseId) (place : _) (e : Enrolment) (b : Back) → Followed p n k
    → Made (roomed_of p) (roomed_of q) (Leave student course) b → place ≤ number_held e.student.0 (roomed_of q).world.roster → (roomed_of p).world.roster ≡ put_among place e (roomed_of q).world.roster
    → OneAhead n k (roomed_of q).world e
left-ahead p q n k student course place e b i made within last =
    let w = (roomed_of p).world in
    let v = (roomed_of q).world in
    record {
      more = w.roster;
      is_more = subst (λ es. IsMore v.roster es e) (sym last) (among e v.roster place within);
      kept = subst (λ u. KeptWorld (with_roster u w.roster)) (sym made.world) i.numbered.kept;
      told = subst (λ u. Told n (with_roster u w.roster)) (sym made.world) i.numbered.told;
      weeks = subst (λ u. ToldWeeks k (with_roster u w.roster)) (sym made.world) i.weeks;
    }

-- ---- changes taken back

-- the world before the change
pub back-before : (p : Parts) (n : Numbers) (b : Back) (m : MadeBy (numbered_of p n) b) → taken_back (roomed_of p).world b ≡ m.before
back-before p n b m = (λ i. taken_back (sym m.led i) (sym m.recorded i)) ∙ taken-back m.before m.change m.kept m.fits

pub back-kept : (p : Parts) (n : Numbers) (b : Back) → MadeBy (numbered_of p n) b → KeptWorld (taken_back (roomed_of p).world b)
back-kept p n b m = subst KeptWorld (sym (back-before p n b m)) m.kept

pub back-ready : (p : Parts) (n : Numbers) (b : Back) → MadeBy (numbered_of p n) b → Ready (roomed_of p) b
back-ready p n b m =
    let l = m.room.lists in
    subst (Ready (roomed_of p)) m.recorded
    (ready (roomed_of p) m.before m.change m.kept m.fits (record { roster = l.roster; reservations = l.reservations; restrictions = l.restrictions; reservation_ids = l.reservation_ids; restriction_ids = l.restriction_ids }) m.led)

leaves : (w : World) (student : StudentId) (course : CourseId) (o : Option Enrolment) → find (is_in student course) w.roster ≡ o → holds w student course ≡ true
    → is_of_quiet (option_map_or (λ e. Left (position_or_len (is_in student course) (of_student student.0 w.roster)) e (offering_id w course)) o (no_change w)) ≡ true → false ≡ true
leaves w student course None e h q =
    let f = any-at (is_in student course) w.roster h in
    absurd (not_both (is_some (find (is_in student course) w.roster)) (Members.find-some (is_in student course) w.roster f.0 f.1 f.2) (ap is_some e))
leaves w student course (Some x) e h q = q

-- what is kept of a change tells whether it enrols nobody, and nobody leaves by it
pub of-quiet : (w : World) (c : Change) → Fits w c → is_of_quiet (back_of w c) ≡ true → is_quiet c ≡ true
of-quiet w (Offering row) f h = refl
of-quiet w (Student row) f h = refl
of-quiet w (Requests student asks) f h = refl
of-quiet w (Reserve r) f h = refl
of-quiet w (Unreserve id) f h = refl
of-quiet w (Expiry id day) f h = refl
of-quiet w (Restrict r) f h = refl
of-quiet w (Unrestrict id) f h = refl
of-quiet w (new_cap cap limit) f h = refl
of-quiet w (Cancelled id) f h = refl
of-quiet w (Day day) f h = refl
of-quiet w (Enrol e) f h = h
of-quiet w (Leave student course) f h = leaves w student course (find (is_in student course) w.roster) refl f h

-- a reservation that is gone has its count of uses
gone-counted : (p : Parts) (n : Numbers) (w : World) (id : ReservationId) → HasRoom (numbered_of p n) w → changed w (Unreserve id) ≡ (roomed_of p).world → is_some (reservation_of w id) ≡ true → has_uses n id ≡ true
gone-counted p n w id room led known =
    ⊎_elim
    (λ here. absurd (not_both (is_some (reservation_of (roomed_of p).world id)) here gone))
    (λ listed. sym (counted-id n id) ∙ listed)
    (either (is_some (reservation_of (roomed_of p).world id)) (list_any (λ k. k == id.0) (counted_ids n)) (room.uses id known))
  where
    gone : is_some (reservation_of (roomed_of p).world id) ≡ false
    gone = ap (λ (v : World). is_some (reservation_of v id)) (sym led) ∙ ap is_some (find-dropped (λ r. r.id.0 == id.0) w.reservations)

old-rows : (p : Parts) (n : Numbers) (w : World) (c : Change) → HasRoom (numbered_of p n) w → changed w c ≡ (roomed_of p).world → Fits w c → has_old n c ≡ true
old-rows p n w (Offering row) room led f = refl
old-rows p n w (Student row) room led f = refl
old-rows p n w (Requests student asks) room led f = refl
old-rows p n w (Reserve r) room led f = refl
old-rows p n w (Unreserve id) room led f = gone-counted p n w id room led (both-left (is_some (reservation_of w id)) _ f)
old-rows p n w (Expiry id day) room led f = refl
old-rows p n w (Restrict r) room led f = refl
old-rows p n w (Unrestrict id) room led f = refl
old-rows p n w (new_cap cap limit) room led f = refl
old-rows p n w (Cancelled id) room led f = refl
old-rows p n w (Day day) room led f = refl
old-rows p n w (Enrol e) room led f = refl
old-rows p n w (Leave student course) room led f = refl

pub back-quiet : (p q : Parts) (n : Numbers) (b : Back) → Numbered p n → MadeBy (numbered_of p n) b → is_of_quiet b ≡ true → Taken (roomed_of p) (roomed_of q) b → Numbered q n
back-quiet p q n b i m quiet taken =
    let same = taken.world ∙ back-before p n b m in
    let before =
    told-before-others n m.before m.change m.kept m.fits (of-quiet m.before m.change m.fits (ap is_of_quiet m.recorded ∙ quiet))
    (subst (Told n) (sym m.led) i.told) (old-rows p n m.before m.change m.room m.led m.fits) in
    record { kept = subst KeptWorld (sym same) m.kept; told = subst (Told n) (sym same) before }

pub weeks-back : (p q : Parts) (n : Numbers) (k : Weeks) (b : Back) → ToldWeeks k (roomed_of p).world → MadeBy (numbered_of p n) b → is_of_quiet b ≡ true → Taken (roomed_of p) (roomed_of q) b → ToldWeeks k (roomed_of q).world
weeks-back p q n k b told m quiet taken =
    let same = taken.world ∙ back-before p n b m in
    subst (ToldWeeks k) (sym same)
    (back-is-told k m.before m.change m.kept m.fits (of-quiet m.before m.change m.fits (ap is_of_quiet m.recorded ∙ quiet)) (subst (ToldWeeks k) (sym m.led) told))

pub removed-ahead : (p q : Parts) (n : Numbers) (k : Weeks) (student : StudentId) (offering : Option OfferingId) (e : Enrolment) → Followed p n k
    → Taken (roomed_of p) (roomed_of q) (Enrolled student offering) → (roomed_of p).world.roster ≡ insert_enrolment e (roomed_of q).world.roster
    → OneAhead n k (roomed_of q).world e
removed-ahead p q n k student offering e i taken last =
    let w = (roomed_of p).world in
    let v = (roomed_of q).world in
    record {
      more = w.roster;
      is_more = subst (λ es. IsMore v.roster es e) (sym last) (inserted e v.roster);
      kept = subst (λ u. KeptWorld (with_roster u w.roster)) (sym taken.world) i.numbered.kept;
      told = subst (λ u. Told n (with_roster u w.roster)) (sym taken.world) i.numbered.told;
      weeks = subst (λ u. ToldWeeks k (with_roster u w.roster)) (sym taken.world) i.weeks;
    }

pub put-behind : (p q : Parts) (n : Numbers) (k : Weeks) (place : _) (e : Enrolment) (offering : Option OfferingId) → Followed p n k → MadeBy (numbered_of p n) (Left place e offering)
    → Taken (roomed_of p) (roomed_of q) (Left place e offering) → OneBehind n k (roomed_of q).world e
put-behind p q n k place e offering i m taken =
    let w = (roomed_of p).world in
    record {
      less = w.roster;
      is_more = subst (λ es. IsMore w.roster es e) (sym (ap (λ (v : World). v.roster) taken.world)) (among e w.roster place (back-ready p n (Left place e offering) m).1);
      kept = subst KeptWorld (sym taken.world) (back-kept p n (Left place e offering) m);
      told = subst (λ v. Told n (with_roster v w.roster)) (sym taken.world) i.numbered.told;
      weeks = subst (λ v. ToldWeeks k (with_roster v w.roster)) (sym taken.world) i.weeks;
    }

pub kept-back : (p q : Parts) (n : Numbers) (b : Back) → MadeBy (numbered_of p n) b → Taken (roomed_of p) (roomed_of q) b → KeptWorld (roomed_of q).world
kept-back p q n b m taken = subst KeptWorld (sym taken.world) (back-kept p n b m)
