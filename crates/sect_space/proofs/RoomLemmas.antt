-- The room of each student, and of each offering, after one row more or less.
use Rattle.std.specs.Prelude.{◌≡◌, ℕ, ◌+◌, ◌-◌, ◌<◌, ◌≤◌, Bool, true, false, ◌==◌, not, cond, List, length, filter, find, insert, map, Option, Some, refl}
use Rattle.std.specs.List.{position_or_len}
use Rattle.std.proofs.Common.{sym, ◌∙◌, ap, subst, arith}
use Rattle.std.proofs.lemmas.Bool.{eqb-true}
use Rattle.std.proofs.lemmas.List.Edits.{length-insert}
use Rattle.sect_base.specs.declared.ids.StudentId.{StudentId}
use Rattle.sect_base.specs.declared.ids.CourseId.{CourseId}
use Rattle.sect_base.specs.declared.ids.ReservationId.{ReservationId}
use Rattle.sect_reserve.specs.declared.row.Reservation.{Reservation}
use Rattle.sect_people.specs.Index.{rank}
use Rattle.sect_model.specs.declared.held.Enrolment.{Enrolment}
use Rattle.sect_model.specs.Change.{expire}
use Rattle.sect_model.specs.World.{is_in}
use Rattle.sect_model.proofs.Members.{both-left}
use Rattle.sect_model.proofs.ListLemmas.{found-passes}
use Rattle.sect_numbers.specs.OneMore.{IsMore}
use Rattle.sect_numbers.proofs.MoreLemmas.{put_back}
use Rattle.sect_roster.specs.Slots.{Room, capacity_of, number_of, put_among as put_among_its_own}
use Rattle.sect_roster.proofs.AmongLemmas.{number-insert, number-map, rank-within, left-place as left-among}
use Rattle.sect_roster.specs.Rostered.{of_student, number_held, put_among}
use Rattle.sect_space.specs.Roomed.{Roomed}
use Rattle.sect_space.specs.Room.{free_for, room_for, room_in}

-- one put among those of its student is one more
pub among : (e : Enrolment) (es : List Enrolment) (place : ℕ) → place ≤ number_held e.student.0 es → IsMore es (put_among place e es) e
among e es place within = put_back e es (rank (λ x. x.student.0) e.student.0 es + place) (omega (arith, within, rank-within (λ (x : Enrolment). x.student.0) e.student.0 es))

-- how many a student has where one is more
held-more : (n : ℕ) (less more : List Enrolment) (e : Enrolment) → IsMore less more e → (b : Bool) → e.student.0 == n ≡ b → number_held n more ≡ cond b 1 0 + number_held n less
held-more n less more e m b t = m.counts (λ x. x.student.0 == n) ∙ ap (λ c. cond c 1 0 + number_held n less) t

pub at-least : (n : ℕ) (less more : List Enrolment) (e : Enrolment) → IsMore less more e → number_held n less ≤ number_held n more
at-least n less more e m = by (e.student.0 == n) refl
  where
    by : (b : Bool) → e.student.0 == n ≡ b → number_held n less ≤ number_held n more
    by true t = omega (arith, held-more n less more e m true t)
    by false t = omega (arith, held-more n less more e m false t)

pub at-most-one : (n : ℕ) (less more : List Enrolment) (e : Enrolment) → IsMore less more e → number_held n more ≤ number_held n less + 1
at-most-one n less more e m = by (e.student.0 == n) refl
  where
    by : (b : Bool) → e.student.0 == n ≡ b → number_held n more ≤ number_held n less + 1
    by true t = omega (arith, held-more n less more e m true t)
    by false t = omega (arith, held-more n less more e m false t)

-- ---- rooms

-- more enrolments and no less capacity: no less room
pub room-more : (r s : Roomed) (n : ℕ) → number_held n r.world.roster ≤ number_held n s.world.roster → capacity_of r.rooms n ≤ capacity_of s.rooms n → room_for r n ≤ room_for s n
room-more r s n held capacity = by (number_held n r.world.roster) (number_held n s.world.roster) (capacity_of r.rooms n) (capacity_of s.rooms n) held capacity
  where
    by : (a b c d : ℕ) → a ≤ b → c ≤ d → a + (c - a) ≤ b + (d - b)
    by a b c d h k = omega (arith, h, k)

-- one enrolment less, which had its place, and the same capacity: no less room
pub room-less : (r s : Roomed) (e : Enrolment) → IsMore s.world.roster r.world.roster e → s.rooms ≡ r.rooms → number_held e.student.0 r.world.roster ≤ capacity_of r.rooms e.student.0
    → (n : ℕ) → room_for r n ≤ room_for s n
room-less r s e m same fits n = by (e.student.0 == n) refl
  where
    own : (a b c d : ℕ) → a ≤ c → c ≡ d → a + (c - a) ≤ b + (d - b)
    own a b c d h k = omega (arith, h, k)

    others : (a b c d : ℕ) → a ≡ 0 + b → c ≡ d → a + (c - a) ≤ b + (d - b)
    others a b c d h k = omega (arith, h, k)

    by : (b : Bool) → e.student.0 == n ≡ b → room_for r n ≤ room_for s n
    by true t =
        own (number_held n r.world.roster) (number_held n s.world.roster) (capacity_of r.rooms n) (capacity_of s.rooms n)
        (subst (λ k. number_held k r.world.roster ≤ capacity_of r.rooms k) (eqb-true e.student.0 n t) fits) (ap (λ rs. capacity_of rs n) (sym same))
    by false t =
        others (number_held n r.world.roster) (number_held n s.world.roster) (capacity_of r.rooms n) (capacity_of s.rooms n)
        (held-more n s.world.roster r.world.roster e m false t) (ap (λ rs. capacity_of rs n) (sym same))

-- where at most one is more, and no room went, at most one place was taken
pub takes-at-most-one : (r s : Roomed) (n : ℕ) → number_held n s.world.roster ≤ number_held n r.world.roster + 1 → room_for r n ≤ room_for s n → free_for r n ≤ free_for s n + 1
takes-at-most-one r s n held room = by (number_held n r.world.roster) (number_held n s.world.roster) (free_for r n) (free_for s n) held room
  where
    by : (a b c d : ℕ) → b ≤ a + 1 → a + c ≤ b + d → c ≤ d + 1
    by a b c d h k = omega (arith, h, k)

-- ---- the one that left

-- its place, and room for it
pub left-place : (student : StudentId) (course : CourseId) (es : List Enrolment) (x : Enrolment) (room : ℕ) → length (filter (is_in student course) es) ≡ 1 → find (is_in student course) es ≡ Some x
    → number_held student.0 es ≤ number_held student.0 (filter (λ e. not (is_in student course e)) es) + room
    → (0 < room) × (position_or_len (is_in student course) (of_student student.0 es) ≤ number_held student.0 (filter (λ e. not (is_in student course e)) es))
left-place student course es x room one f fits =
    let mine = eqb-true x.student.0 student.0 (both-left (x.student.0 == student.0) _ (found-passes (is_in student course) es x f)) in
    let left = left-among (λ e. e.student.0) (is_in student course) student.0 es x one (sym f) mine in
    (omega (arith, left.0, fits), left.1)

-- ---- the rows of each offering

-- one put among those of its number is one more
pub among-length : {X : Type 0} (key : X → ℕ) (place : ℕ) (x : X) (xs : List X) → place ≤ number_of key (key x) xs → length (put_among_its_own key place x xs) ≡ length xs + 1
among-length key place x xs within = length-insert xs (rank key (key x) xs + place) x (omega (arith, within, rank-within key (key x) xs))

module _ {X : Type 0} (key : X → ℕ) (xs ys : List X) (old new : List Room) where
  -- no fewer rows and no less capacity: no less room
  pub more-in : (n : ℕ) → number_of key n xs ≤ number_of key n ys → capacity_of old n ≤ capacity_of new n → room_in key xs old n ≤ room_in key ys new n
  more-in n rows capacity = by (number_of key n xs) (number_of key n ys) (capacity_of old n) (capacity_of new n) rows capacity
    where
      by : (a b c d : ℕ) → a ≤ b → c ≤ d → a + (c - a) ≤ b + (d - b)
      by a b c d h k = omega (arith, h, k)

  -- one row more, and no less capacity
  pub put-in : (k : ℕ) (x : X) → ys ≡ insert xs k x → (n : ℕ) → capacity_of old n ≤ capacity_of new n → room_in key xs old n ≤ room_in key ys new n
  put-in k x is n capacity = more-in n (by (key x == n) (ap (number_of key n) is ∙ number-insert key n xs k x)) capacity
    where
      by : (b : Bool) → number_of key n ys ≡ cond b 1 0 + number_of key n xs → number_of key n xs ≤ number_of key n ys
      by true e = omega (arith, e)
      by false e = omega (arith, e)

  -- one row less, which had its place, and the same capacity
  pub less-in : (k : ℕ) (x : X) → xs ≡ insert ys k x → new ≡ old → number_of key (key x) xs ≤ capacity_of old (key x) → (n : ℕ) → room_in key xs old n ≤ room_in key ys new n
  less-in k x is same fits n = by (key x == n) refl (ap (number_of key n) is ∙ number-insert key n ys k x)
    where
      own : (a b c d : ℕ) → a ≤ c → c ≡ d → a + (c - a) ≤ b + (d - b)
      own a b c d h k = omega (arith, h, k)

      others : (a b c d : ℕ) → a ≡ 0 + b → c ≡ d → a + (c - a) ≤ b + (d - b)
      others a b c d h k = omega (arith, h, k)

      by : (b : Bool) → key x == n ≡ b → number_of key n xs ≡ cond b 1 0 + number_of key n ys → room_in key xs old n ≤ room_in key ys new n
      by true t e =
          own (number_of key n xs) (number_of key n ys) (capacity_of old n) (capacity_of new n)
          (subst (λ k. number_of key k xs ≤ capacity_of old k) (eqb-true (key x) n t) fits) (ap (λ rs. capacity_of rs n) (sym same))
      by false t e = others (number_of key n xs) (number_of key n ys) (capacity_of old n) (capacity_of new n) e (ap (λ rs. capacity_of rs n) (sym same))

  -- rows that were changed and kept their numbers, and the same capacity
  pub same-in : (f : X → X) → ((x : X) → key (f x) ≡ key x) → ys ≡ map f xs → new ≡ old → (n : ℕ) → room_in key xs old n ≤ room_in key ys new n
  same-in f kept is same n =
      more-in n (by (number_of key n xs) (number_of key n ys) (ap (number_of key n) is ∙ number-map key n f xs kept))
      (by (capacity_of old n) (capacity_of new n) (ap (λ rs. capacity_of rs n) same))
    where
      by : (a b : ℕ) → b ≡ a → a ≤ b
      by a b e = omega (arith, e)

-- another expiry day leaves the offering
pub expired-offering : (id : ReservationId) (day : Option ℕ) (r : Reservation) → (expire id day r).offering.0 ≡ r.offering.0
expired-offering id day r = by (r.id.0 == id.0)
  where
    by : (b : Bool) → (cond b (record r { expiry = day }) r).offering.0 ≡ r.offering.0
    by true = refl
    by false = refl
