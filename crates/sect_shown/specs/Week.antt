-- The week of a student, in order of time.
use Rattle.std.specs.Prelude.{ℕ, suc, zero, ◌+◌, ◌/◌, ◌%◌, ◌^◌, ◌==◌, Bool, ◌&&◌, cond, List, [], ◌∷◌, ◌++◌, codes, decimal, flat_map}
use Rattle.sect_base.specs.declared.choice.Choice.{Choice}
use Rattle.sect_base.specs.declared.ids.StudentId.{StudentId}
use Rattle.sect_catalog.specs.declared.row.OfferingRow.{OfferingRow}
use Rattle.sect_base.specs.MeetingText.{meeting_text}
use Rattle.sect_base.specs.Pattern.{Pattern, has_bit}
use Rattle.sect_report.specs.Line.{line_text}
use Rattle.sect_shown.specs.declared.hour.Hour.{Hour}
use Rattle.sect_shown.specs.Hours.{hours_of}

-- the meeting on one of its weekdays alone
abbrev pub on_weekday : ℕ → Pattern → Pattern
on_weekday day m = record { days = 2 ^ day; start = m.start; slots = m.slots; weeks = m.weeks }

-- `WEEKDAY/HHMM-HHMM/WEEKS course ID section ID`
abbrev pub hour_text : ℕ → Hour → List ℕ
hour_text day h =
    meeting_text (on_weekday day h.meeting)
    ++ 32 ∷ line_text (codes "course" ∷ decimal h.course.0 ∷ codes "section" ∷ decimal h.section.0 ∷ [])

-- the hour begins on the weekday at the slot
abbrev pub begins_at : ℕ → ℕ → Hour → Bool
begins_at day slot h = has_bit h.meeting.days day && h.meeting.start == slot

-- the line of the hour, where it begins then
abbrev pub begun_text : ℕ → ℕ → Hour → List ℕ
begun_text day slot h = cond (begins_at day slot h) (hour_text day h) []

-- the lines of the hours that begin at a slot of the week, of which a day has 288
abbrev pub slot_text : List Hour → ℕ → List ℕ
slot_text hours slot = flat_map (begun_text (slot / 288) (slot % 288)) hours

-- the lines of the hours that begin at so many slots of the week, from one on
unfoldable pub slots_text : List Hour → ℕ → ℕ → List ℕ
slots_text hours slot zero = []
slots_text hours slot (suc n) = slot_text hours slot ++ slots_text hours (slot + 1) n

-- the student, and the lines of the week: day by day in order of time
abbrev pub timetable_text : List OfferingRow → StudentId → List Choice → List ℕ
timetable_text rows student held =
    line_text (codes "student" ∷ decimal student.0 ∷ []) ++ slots_text (hours_of rows held) 0 2016
