-- Which waiting entries must be tried: the others need no search.
use Rattle.std.specs.Prelude.{◌≡◌, ℕ, Bool, true, false, ◌||◌, ◌&&◌, ◌==◌, nat_lt, nat_le, List, [], Option, None, ◌⊎◌}
use Rattle.std.specs.List.{list_any}
use Rattle.std.specs.Option.{option_map_or, is_some}
use Rattle.std.specs.Ordering.{nat_cmp}
use Rattle.std.specs.BTreeSet.{BTreeSet, contains}
use Rattle.sect_base.specs.declared.ids.StudentId.{StudentId}
use Rattle.sect_base.specs.declared.ids.CourseId.{CourseId}
use Rattle.sect_catalog.specs.declared.row.CourseRow.{CourseRow}
use Rattle.sect_catalog.specs.declared.row.OfferingRow.{OfferingRow}
use Rattle.sect_catalog.specs.Catalogue.{has_course}
use Rattle.sect_model.specs.declared.held.Waiting.{Waiting}
use Rattle.sect_model.specs.World.{World}
use Rattle.sect_model.specs.declared.change.Change.{Change}
use Rattle.sect_model.specs.Freer.{Among, NoMove, may_open}
use Rattle.sect_frame.specs.Frame.{IsSpent, touches_entry}
use Rattle.sect_wait.specs.declared.marks.Turn.{Turn}

-- what is marked: tickets, and from a turn on those who want one of the courses, those who give up a course and want one of
-- others, or all; and the tickets that are noted as those of spent searches
pub record Marked : Type 0 where
  pub all : Bool
  pub tickets : List ℕ
  pub courses : List CourseId
  pub givers : List CourseId
  pub from : Option Turn
  pub spent : List ℕ

-- the set has the tickets
pub record IsSetOf (tickets : List ℕ) (set : BTreeSet ℕ) : Type 0 where
  pub has : (ticket : ℕ) → contains nat_cmp set ticket ≡ list_any (λ t. t == ticket) tickets

-- the set has the courses
pub record IsSetOfCourses (courses : List CourseId) (set : BTreeSet ℕ) : Type 0 where
  pub has : (course : ℕ) → contains nat_cmp set course ≡ list_any (λ d. d.0 == course) courses

-- nobody is marked, and these tickets are noted as spent
abbrev pub no_marks : List ℕ → Marked
no_marks spent = record { all = false; tickets = []; courses = []; givers = []; from = None; spent = spent }

-- the entry's turn is this one or a later one
abbrev pub is_from : Option Turn → Waiting → Bool
is_from from e = option_map_or (λ t. nat_lt t.class e.class || t.class == e.class && nat_le t.ticket e.ticket) from true

-- the entry wants one of these courses
abbrev pub wants_one : List CourseId → Waiting → Bool
wants_one courses e = list_any (λ d. list_any (λ c. d.0 == c.0) e.want.courses) courses

-- all are marked, or a course that the entry wants, or it gives up a course and wants one that is marked for such
abbrev pub is_source : Marked → Waiting → Bool
is_source m e = (m.all || wants_one m.courses e) || (is_some e.give && wants_one m.givers e)

-- whether the entry is marked
abbrev pub is_marked : Marked → Waiting → Bool
is_marked m e = list_any (λ t. t == e.ticket) m.tickets || (is_source m e && is_from m.from e)

-- the entry is noted as one whose search was spent
abbrev pub is_noted : List ℕ → Waiting → Bool
is_noted spent e = list_any (λ t. t == e.ticket) spent

-- the entry needs no search: it has no move, or where it is noted as spent, its search is spent in this world
abbrev pub Needless : World → Bool → Waiting → Type 0
Needless w noted e = NoMove w e ⊎ ((noted ≡ true) × IsSpent w e)

-- after the change the entry may need a search: it may have a move, or where it is noted as spent, it is touched
abbrev pub may_need : World → Bool → Waiting → Change → Bool
may_need w noted e change = may_open w e change || (noted && touches_entry w e change)

-- each entry that isn't marked needs no search
abbrev pub OthersNeedNoSearch : World → List Waiting → Marked → Type 0
OthersNeedNoSearch w entries m = (e : Waiting) → Among entries e → is_marked m e ≡ false → Needless w (is_noted m.spent e) e

-- no mark is taken off, and the same tickets are noted as spent
pub record MarksKept (before after : Marked) : Type 0 where
  pub marks : (e : Waiting) → is_marked after e ≡ false → is_marked before e ≡ false
  pub spent : after.spent ≡ before.spent

-- the marks are the same, and beside what was noted as spent these tickets are
pub record NotesMore (tickets : List ℕ) (before after : Marked) : Type 0 where
  pub marks : after ≡ record before { spent = after.spent }
  pub noted : (e : Waiting) → is_noted before.spent e || is_noted tickets e ≡ true → is_noted after.spent e ≡ true

-- no mark is taken off, and each entry that passes the test is marked
pub record MarksMore (test : Waiting → Bool) (entries : List Waiting) (before : Marked) (after : Marked) : Type 0 where
  pub kept : MarksKept before after
  pub added : (e : Waiting) → Among entries e → is_marked after e ≡ false → test e ≡ false

-- the entry is of this student, or wants a course of this offering
abbrev pub concerns : Option StudentId → Option OfferingRow → Waiting → Bool
concerns student row e = option_map_or (λ s. s.0 == e.student.0) student false || option_map_or (λ o. list_any (has_course o) e.want.courses) row false

-- the entry is noted as spent, and wants a course of this offering
abbrev pub is_noted_in : List ℕ → Option OfferingRow → Waiting → Bool
is_noted_in spent row e = is_noted spent e && concerns None row e

-- the entry wants one of these courses
abbrev pub wants_some : List CourseRow → Waiting → Bool
wants_some courses e = list_any (λ d. list_any (λ c. d.id.0 == c.0) e.want.courses) courses
