-- What a request, its reply and the placements behind it name.
use Rattle.std.specs.Prelude.{Bool, true, false, ◌==◌, ◌||◌, List}
use Rattle.std.specs.List.{list_any}
use Rattle.sect_base.specs.declared.ids.SectionId.{SectionId}
use Rattle.sect_base.specs.declared.ids.StudentId.{StudentId}
use Rattle.sect_base.specs.declared.choice.Want.{Want}
use Rattle.sect_base.specs.declared.limit.Caller.{Caller}
use Rattle.sect_base.specs.declared.limit.Caller.TheVariants as callers
use Rattle.sect_base.specs.declared.limit.Cap.{Cap}
use Rattle.sect_base.specs.declared.limit.Cap.TheVariants as caps
use Rattle.sect_catalog.specs.declared.row.ConfigRow.{ConfigRow}
use Rattle.sect_catalog.specs.declared.row.OfferingRow.{OfferingRow}
use Rattle.sect_command.specs.declared.command.Command.{Command}
use Rattle.sect_command.specs.declared.command.Command.TheVariants as commands
use Rattle.sect_command.specs.declared.reply.Line.{Line}
use Rattle.sect_command.specs.declared.reply.LineResult.{LineResult}
use Rattle.sect_command.specs.declared.reply.LineResult.TheVariants as results
use Rattle.sect_command.specs.declared.reply.Reply.{Reply}
use Rattle.sect_command.specs.declared.reply.Reply.TheVariants as replies
use Rattle.sect_machine.specs.Placed.{has_section}
use Rattle.sect_model.specs.declared.held.Placed.{Placed}
use Rattle.sect_model.specs.Choice.{lists_section}
use Rattle.sect_model.specs.Data.{Choice}
use Rattle.sect_reserve.specs.declared.row.Audience.{Audience}
use Rattle.sect_reserve.specs.declared.row.Audience.TheVariants as audiences

-- ---- students

-- whether the student is listed
abbrev pub lists_student : List StudentId → StudentId → Bool
lists_student ids student = list_any (λ id. id.0 == student.0) ids

-- whether the student is the caller
abbrev pub is_caller : StudentId → Caller → Bool
is_caller student (callers.Registrar n) = false
is_caller student (callers.Student id) = id.0 == student.0

-- whether the audience lists the student
abbrev pub audience_lists : StudentId → Audience → Bool
audience_lists student (audiences.Students ids) = lists_student ids student
audience_lists student (audiences.Group id) = false
audience_lists student (audiences.Curriculum area classes majors) = false
audience_lists student (audiences.Course id) = false

-- whether the command names the student; a reply names none that its command doesn't
abbrev pub command_names_student : StudentId → Command → Bool
command_names_student student (commands.Offering row) = false
command_names_student student (commands.Student row) = row.id.0 == student.0
command_names_student student (commands.Requests id asked) = id.0 == student.0
command_names_student student (commands.Reserve row) = audience_lists student row.audience
command_names_student student (commands.Unreserve id) = false
command_names_student student (commands.Expire id expiry) = false
command_names_student student (commands.Restrict row) = audience_lists student row.audience
command_names_student student (commands.Unrestrict id) = false
command_names_student student (commands.SetLimit cap limit) = false
command_names_student student (commands.Cancel id) = false
command_names_student student (commands.Enrol id want budget) = id.0 == student.0
command_names_student student (commands.Drop id course) = id.0 == student.0
command_names_student student (commands.Swap id give take budget) = id.0 == student.0
command_names_student student (commands.Wait id want give class) = id.0 == student.0
command_names_student student (commands.Unwait id ticket) = id.0 == student.0
command_names_student student (commands.Batch ids) = lists_student ids student

-- whether one of the placements is the student's
abbrev pub places_student : StudentId → List Placed → Bool
places_student student placed = list_any (λ p. p.student.0 == student.0) placed

-- ---- sections

-- whether the configuration has the section
abbrev pub config_has : SectionId → ConfigRow → Bool
config_has section row = list_any (has_section section) row.subparts

-- whether the offering has the section
abbrev pub offering_has : SectionId → OfferingRow → Bool
offering_has section row = list_any (config_has section) row.configs

-- whether the section is the one whose limit is set
abbrev pub caps_section : SectionId → Cap → Bool
caps_section section (caps.Course id) = false
caps_section section (caps.Config id) = false
caps_section section (caps.Section id) = id.0 == section.0

-- whether the want lists the section
abbrev pub wants_section : SectionId → Want → Bool
wants_section section want = lists_section want.only section

-- whether the command names the section
abbrev pub command_names_section : SectionId → Command → Bool
command_names_section section (commands.Offering row) = offering_has section row
command_names_section section (commands.Student row) = false
command_names_section section (commands.Requests id asked) = false
command_names_section section (commands.Reserve row) = lists_section row.sections section
command_names_section section (commands.Unreserve id) = false
command_names_section section (commands.Expire id expiry) = false
command_names_section section (commands.Restrict row) = lists_section row.sections section
command_names_section section (commands.Unrestrict id) = false
command_names_section section (commands.SetLimit cap limit) = caps_section section cap
command_names_section section (commands.Cancel id) = id.0 == section.0
command_names_section section (commands.Enrol id want budget) = wants_section section want
command_names_section section (commands.Drop id course) = false
command_names_section section (commands.Swap id give take budget) = list_any (wants_section section) take
command_names_section section (commands.Wait id want give class) = wants_section section want
command_names_section section (commands.Unwait id ticket) = false
command_names_section section (commands.Batch ids) = false

-- whether the choice takes the section
abbrev pub takes_section : SectionId → Choice → Bool
takes_section section choice = lists_section choice.sections section

-- whether the result of a request of a batch takes the section
abbrev pub result_takes : SectionId → LineResult → Bool
result_takes section (results.Met choice) = takes_section section choice
result_takes section (results.Held course) = false
result_takes section (results.Blocked visits tree) = false
result_takes section results.Spent = false
result_takes section (results.Waiting ticket) = false
result_takes section results.Skipped = false

-- whether the line of a batch takes the section
abbrev pub line_takes : SectionId → Line → Bool
line_takes section line = result_takes section line.result

-- whether the reply takes the section
abbrev pub reply_takes : SectionId → Reply → Bool
reply_takes section replies.Amended = false
reply_takes section (replies.Enrolled choice) = takes_section section choice
reply_takes section (replies.Dropped course) = false
reply_takes section (replies.Swapped choices) = list_any (takes_section section) choices
reply_takes section (replies.Waiting ticket) = false
reply_takes section (replies.Placed ticket choice) = takes_section section choice
reply_takes section (replies.Batched lines) = list_any (line_takes section) lines
reply_takes section (replies.Blocked visits tree) = false
reply_takes section (replies.Spent budget) = false
reply_takes section (replies.Refused refusal) = false

-- whether one of the placements takes the section
abbrev pub places_section : SectionId → List Placed → Bool
places_section section placed = list_any (λ p. takes_section section p.choice) placed
