-- A world after a change, or one that was not made, is kept.
use Rattle.std.specs.Prelude.{◌≡◌, ℕ, ◌+◌, ◌≤◌, ◌==◌, not, Result, Ok, Err, IfOk, OnErr}
use Rattle.std.proofs.Common.{sym, subst, arith}
use Rattle.sect_base.specs.declared.duplicate.Memory.{Memory}
use Rattle.sect_model.specs.declared.change.Change.{Change}
use Rattle.sect_model.specs.declared.change.Change.TheVariants.{Offering, Student, Requests, Reserve, Unreserve, Expiry, Restrict, Unrestrict, Cap as new_cap, Cancelled, Day, Enrol, Leave}
use Rattle.sect_model.specs.World.{World, is_in, insert_enrolment}
use Rattle.sect_model.specs.Kept.{KeptWorld}
use Rattle.sect_model.specs.Fits.{Fits, changed}
use Rattle.sect_model.proofs.ChangeLemmas.{changes-keep}
use Rattle.sect_space.specs.declared.back.Back.{Back}
use Rattle.sect_space.specs.Roomed.{Roomed}
use Rattle.sect_roster.specs.Rostered.{number_held}
use Rattle.sect_numbers.proofs.MoreLemmas.{inserted}
use Rattle.sect_model.proofs.Members.{count-part}
use Rattle.sect_space.specs.Room.{KeepsLists, free_for}
use Rattle.sect_space.specs.Made.{Made, Unchanged}
use Rattle.sect_space.proofs.RoomLemmas.{at-most-one, takes-at-most-one}

-- whether the change was made or not
pub kept-either : (r s : Roomed) (change : Change) (result : Result Back Memory) → KeptWorld r.world → Fits r.world change
    → IfOk result (λ back. Made r s change back) → OnErr result (Unchanged r s) → KeptWorld s.world
kept-either r s change (Ok back) k f made same = subst KeptWorld (sym made.world) (changes-keep r.world change k f)
kept-either r s change (Err m) k f made same = subst KeptWorld (sym same.world) k

-- no change adds more than one enrolment
one-more : (n : ℕ) (w : World) (change : Change) → number_held n (changed w change).roster ≤ number_held n w.roster + 1
one-more n w (Offering row) = omega arith
one-more n w (Student row) = omega arith
one-more n w (Requests student asks) = omega arith
one-more n w (Reserve r) = omega arith
one-more n w (Unreserve id) = omega arith
one-more n w (Expiry id day) = omega arith
one-more n w (Restrict r) = omega arith
one-more n w (Unrestrict id) = omega arith
one-more n w (new_cap cap limit) = omega arith
one-more n w (Cancelled id) = omega arith
one-more n w (Day day) = omega arith
one-more n w (Enrol e) = at-most-one n w.roster (insert_enrolment (record { student = e.student; choice = e.choice }) w.roster) (record { student = e.student; choice = e.choice }) (inserted (record { student = e.student; choice = e.choice }) w.roster)
one-more n w (Leave student course) = less (count-part (λ e. e.student.0 == n) (λ e. not (is_in student course e)) w.roster)
  where
    less : {a b : ℕ} → a ≤ b → a ≤ b + 1
    less h = omega (arith, h)

-- so a change takes at most one place of a student
pub takes-one : (r s : Roomed) (change : Change) → s.world ≡ changed r.world change → KeepsLists r s → (n : ℕ) → free_for r n ≤ free_for s n + 1
takes-one r s change e k n = takes-at-most-one r s n (subst (λ w. number_held n w.roster ≤ number_held n r.world.roster + 1) (sym e) (one-more n r.world change)) (k.roster n)

pub takes-none : (r s : Roomed) → Unchanged r s → (n : ℕ) → free_for r n ≤ free_for s n + 1
takes-none r s u n = takes-at-most-one r s n (subst (λ w. number_held n w.roster ≤ number_held n r.world.roster + 1) (sym u.world) (more (number_held n r.world.roster))) (u.room.roster n)
  where
    more : (a : ℕ) → a ≤ a + 1
    more a = omega arith
