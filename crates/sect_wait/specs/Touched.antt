-- Which entries a settling touches: those that are marked at its start or want what opened, and those that a placement concerns.
use Rattle.std.specs.Prelude.{◌≡◌, ℕ, Bool, false, ◌&&◌, ◌||◌, ◌==◌, List, length, filter}
use Rattle.std.specs.List.{list_any}
use Rattle.std.specs.Option.{option_map_or}
use Rattle.std.specs.Ordering.{nat_cmp}
use Rattle.std.specs.BTreeSet.{BTreeSet, contains}
use Rattle.sect_base.specs.declared.ids.StudentId.{StudentId}
use Rattle.sect_base.specs.declared.ids.CourseId.{CourseId}
use Rattle.sect_model.specs.declared.held.Waiting.{Waiting}
use Rattle.sect_model.specs.declared.held.Placed.{Placed}
use Rattle.sect_model.specs.World.{World}
use Rattle.sect_model.specs.Freer.{Among, touches}
use Rattle.sect_wait.specs.declared.next.Candidate.{Candidate}
use Rattle.sect_wait.specs.declared.opened.Opened.{Opened}
use Rattle.sect_wait.specs.Indexed.{has_ticket}
use Rattle.sect_wait.specs.Marked.{Marked, is_source, wants_one}
use Rattle.sect_wait.specs.Opened.{is_sought}

-- the entry is marked, from whatever turn on: by its ticket, by a course that it wants, or with all
abbrev pub is_named : Marked → Waiting → Bool
is_named m e = list_any (λ t. t == e.ticket) m.tickets || is_source m e

-- the entry is marked, from whatever turn on, or wants one of the courses that opened
abbrev pub may_be_sought : Marked → List CourseId → Waiting → Bool
may_be_sought m courses e = is_named m e || wants_one courses e

-- a change of this student in the offering of this course concerns the entry: it is the student's, or wants a course of the offering
abbrev pub is_concerned : World → StudentId → CourseId → Waiting → Bool
is_concerned w student course e = student.0 == e.student.0 || touches w e.want course

-- the placement concerns the entry: it gives its student a course, or takes one away, by a change that concerns the entry
abbrev pub placement_concerns : World → List Waiting → Placed → Waiting → Bool
placement_concerns w entries p e =
    is_concerned w p.student p.choice.course e || list_any (λ d. d.ticket == p.ticket && option_map_or (touches w e.want) d.give false) entries

-- the entry is touched in a settling: marked at its start, or wanting what opened, or concerned by one of its placements
abbrev pub is_touched : World → List Waiting → Marked → List CourseId → List Placed → Waiting → Bool
is_touched w entries m courses placed e = may_be_sought m courses e || list_any (λ p. placement_concerns w entries p e) placed

-- how many of the entries are touched in a settling
abbrev pub count_touched : World → List Waiting → Marked → List CourseId → List Placed → ℕ
count_touched w entries m courses placed = length (filter (is_touched w entries m courses placed) entries)

-- nobody is marked now who neither was nor passes the test
abbrev pub MarksOnly : (Waiting → Bool) → List Waiting → Marked → Marked → Type 0
MarksOnly test entries before after = (e : Waiting) → Among entries e → is_named before e ≡ false → test e ≡ false → is_named after e ≡ false

-- nobody is marked or wants what opened now who neither did before nor passes the test
abbrev pub SeeksOnly : (Waiting → Bool) → List Waiting → Marked → List CourseId → Marked → List CourseId → Type 0
SeeksOnly test entries m courses n now = (e : Waiting) → Among entries e → may_be_sought m courses e ≡ false → test e ≡ false → may_be_sought n now e ≡ false

-- the candidate's move concerns the entry
abbrev pub candidate_concerns : World → Candidate → Waiting → Bool
candidate_concerns w c e = is_concerned w c.student c.choice.course e || option_map_or (touches w e.want) c.give false

-- the ticket is that of an entry that is sought
abbrev pub is_sought_ticket : Marked → Opened → List Waiting → ℕ → Bool
is_sought_ticket m o entries ticket = list_any (λ d. is_sought m o d && d.ticket == ticket) entries

-- only tickets of entries that are sought were put on the list
abbrev pub ListsSought : Marked → Opened → List Waiting → List ℕ → List ℕ → Type 0
ListsSought m o entries before after = (ticket : ℕ) → is_sought_ticket m o entries ticket ≡ false → has_ticket ticket before ≡ false → has_ticket ticket after ≡ false

-- how many of the entries are sought
abbrev pub count_sought : Marked → Opened → List Waiting → ℕ
count_sought m o entries = length (filter (is_sought m o) entries)

-- how many of the entries are sought and have their tickets in the set
abbrev pub count_tried : Marked → Opened → List Waiting → BTreeSet ℕ → ℕ
count_tried m o entries tried = length (filter (λ e. is_sought m o e && contains nat_cmp tried e.ticket) entries)

-- only this ticket was put into the set
abbrev pub PutsOnly : ℕ → BTreeSet ℕ → BTreeSet ℕ → Type 0
PutsOnly ticket before after = (t : ℕ) → contains nat_cmp before t ≡ false → ticket == t ≡ false → contains nat_cmp after t ≡ false

-- the tickets in the set are on the list
abbrev pub AreOnList : BTreeSet ℕ → List ℕ → Type 0
AreOnList set tickets = (t : ℕ) → has_ticket t tickets ≡ false → contains nat_cmp set t ≡ false

-- only this ticket was put on the list
abbrev pub AddsOnly : ℕ → List ℕ → List ℕ → Type 0
AddsOnly ticket before after = (t : ℕ) → has_ticket t before ≡ false → ticket == t ≡ false → has_ticket t after ≡ false
