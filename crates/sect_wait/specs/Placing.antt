-- The entry that is placed next, and what its placement makes of the world.
use Rattle.std.specs.Prelude.{◌≡◌, ℕ, Bool, true, false, ◌&&◌, ◌||◌, ◌==◌, nat_lt, nat_le, List, [], ◌∷◌, ◌++◌, filter, Option, Some, None}
use Rattle.std.specs.Option.{option_map_or, option_to_list}
use Rattle.sect_base.specs.declared.ids.CourseId.{CourseId}
use Rattle.sect_base.specs.declared.choice.Choice.{Choice}
use Rattle.sect_model.specs.declared.held.Waiting.{Waiting}
use Rattle.sect_model.specs.declared.held.Placed.{Placed}
use Rattle.sect_model.specs.declared.held.Enrolment.{Enrolment}
use Rattle.sect_model.specs.World.{World, enrol, leave_all, holds}
use Rattle.sect_model.specs.Settle.{first_entry, is_placeable, placement_of}
use Rattle.sect_model.specs.Freer.{Among}
use Rattle.sect_wait.specs.declared.next.Candidate.{Candidate}
use Rattle.std.specs.BTreeSet.{BTreeSet}
use Rattle.sect_wait.specs.Indexed.{has_ticket}
use Rattle.sect_wait.specs.declared.entry.Left.{Left}
use Rattle.sect_wait.specs.declared.marks.Turn.{Turn}
use Rattle.sect_wait.specs.declared.opened.Opened.{Opened}
use Rattle.sect_wait.specs.Marked.{Marked, Needless, OthersNeedNoSearch, is_noted, no_marks}
use Rattle.sect_wait.specs.Opened.{OthersBut}
use Rattle.sect_wait.specs.Touched.{AreOnList}

-- the candidate of an entry that a choice places
abbrev pub candidate_of : Waiting → Choice → Candidate
candidate_of e choice = record { ticket = e.ticket; class = e.class; student = e.student; give = e.give; choice = choice }

-- the candidate is this entry, with the one choice that its search finds
pub record IsOf (w : World) (e : Waiting) (c : Candidate) : Type 0 where
  pub ticket : c.ticket ≡ e.ticket
  pub class : c.class ≡ e.class
  pub student : c.student ≡ e.student
  pub give : c.give ≡ e.give
  pub choice : placement_of w e ≡ Some (c.choice ∷ [])

-- the candidate is the first of the entries that can be placed, and there is none where none can be
abbrev pub IsBest : World → List Waiting → Option Candidate → Type 0
IsBest w es None = first_entry (filter (is_placeable w) es) ≡ None
IsBest w es (Some c) = (e : Waiting) × (first_entry (filter (is_placeable w) es) ≡ Some e) × IsOf w e c

-- the candidate is of a smaller class than the entry, or of the same class and no larger ticket
abbrev pub is_before : Candidate → Waiting → Bool
is_before c e = nat_lt c.class e.class || c.class == e.class && nat_le c.ticket e.ticket

-- the best so far comes before the entry, or is its own candidate
abbrev pub is_behind : Option Candidate → Waiting → Bool
is_behind best e = option_map_or (λ c. is_before c e) best false

-- each ticket that was listed is listed
abbrev pub KeepsListed : List ℕ → List ℕ → Type 0
KeepsListed before after = (ticket : ℕ) → has_ticket ticket after ≡ false → has_ticket ticket before ≡ false

-- each ticket that was left to be tried again still is, and likewise each that was left as spent
pub record KeepsLeft (before after : Left) : Type 0 where
  pub again : KeepsListed before.again.items after.again.items
  pub spent : KeepsListed before.spent.items after.spent.items

-- each entry that isn't left to be tried again needs no search
abbrev pub RestNeedNone : World → List Waiting → Left → Type 0
RestNeedNone w es left = (e : Waiting) → Among es e → has_ticket e.ticket left.again.items ≡ false → Needless w (is_noted left.spent.items e) e

-- each entry before the best that isn't left to be tried again needs no search, where these and those left are noted as spent
abbrev pub OthersTried : World → List Waiting → Option Candidate → List ℕ → Left → Type 0
OthersTried w es best spent left =
    (e : Waiting) → Among es e → has_ticket e.ticket left.again.items ≡ false → is_behind best e ≡ false
    → Needless w (is_noted spent e || is_noted left.spent.items e) e

-- of the entries those were tried that have one of these tickets: this is the first of them that can be placed, and those of
-- them before it that aren't left need no search
pub record Tried (w : World) (es : List Waiting) (tickets : List ℕ) (best : Option Candidate) (spent : List ℕ) (left : Left) : Type 0 where
  pub tried : List Waiting
  pub within : (e : Waiting) → Among tried e → Among es e
  pub all : (e : Waiting) → Among es e → has_ticket e.ticket tickets ≡ true → Among tried e
  pub first : IsBest w tried best
  pub others : OthersTried w tried best spent left

-- those of one ticket more were tried, where the tickets in the set were
abbrev pub TriesMore : World → List Waiting → ℕ → BTreeSet ℕ → List ℕ → Option Candidate → Left → Option Candidate → Left → Type 0
TriesMore w es ticket set spent best left best_now left_now =
    (before : List ℕ) → AreOnList set before → Tried w es before best spent left → Tried w es (before ++ ticket ∷ []) best_now spent left_now

-- what holds of the others once the best was found: where there is none, all were tried
abbrev pub OthersAfter : World → List Waiting → Option Candidate → Marked → Opened → Type 0
OthersAfter w es None m o = OthersNeedNoSearch w es m
OthersAfter w es (Some c) m o = OthersBut w es m o

-- when a candidate's entry is tried
abbrev pub turn_of : Candidate → Turn
turn_of c = record { class = c.class; ticket = c.ticket }

-- the marks from the turn of the best on, and none where there is no best
abbrev pub marks_from : Option Candidate → Marked → Marked
marks_from None m = no_marks m.spent
marks_from (Some c) m = record m { from = Some (turn_of c) }

-- the course that is given up, where the student holds it
abbrev pub given_by : World → Candidate → List CourseId
given_by w c = filter (holds w c.student) (option_to_list c.give)

-- the world in which the candidate's course is given up
abbrev pub given_up : World → Candidate → World
given_up w c = leave_all w c.student (given_by w c)

-- the enrolment by the candidate's choice
abbrev pub enrolment_of : Candidate → Enrolment
enrolment_of c = record { student = c.student; choice = c.choice }

-- the world in which the candidate is placed
abbrev pub moved : World → Candidate → World
moved w c = enrol (given_up w c) c.student c.choice

-- what the placement gives the student
abbrev pub placed_of : Candidate → Placed
placed_of c = record { ticket = c.ticket; student = c.student; choice = c.choice }
