-- The forms in words.
use Rattle.std.specs.Prelude.{ℕ, List, ◌++◌, codes, decimal}
use Rattle.sect_check.specs.declared.form.Form.{Form}
use Rattle.sect_check.specs.declared.form.Form.TheVariants as forms
use Rattle.sect_read.specs.declared.verb.Verb.{Verb}
use Rattle.sect_read.specs.declared.verb.Verb.TheVariants as verbs

-- the words of this command, in their order
unfoldable pub command_shape : Verb → List ℕ
command_shape verbs.Offering = codes "offering ID course ID LIMIT CREDITS .. config ID LIMIT subpart ID section ID LIMIT PARENT MEETINGS .."
command_shape verbs.Student = codes "student ID max N [group ID ..] [curriculum AREA:CLASS:MAJORS ..]"
command_shape verbs.Requests = codes "requests STUDENT [course IDS [wait] [substitute] | free MEETING ..]"
command_shape verbs.Reserve = codes "reserve ID OFFERING AUDIENCE LIMIT EXPIRY [from DAY] [config ID ..] [section ID ..] [over] [overlap] [must]"
command_shape verbs.Unreserve = codes "unreserve ID"
command_shape verbs.Expire = codes "expire ID EXPIRY"
command_shape verbs.Restrict = codes "restrict ID OFFERING AUDIENCE [config ID ..] [section ID ..]"
command_shape verbs.Unrestrict = codes "unrestrict ID"
command_shape verbs.Limit = codes "limit course|config|section ID LIMIT"
command_shape verbs.Cancel = codes "cancel SECTION"
command_shape verbs.Enrol = codes "enrol STUDENT IDS [only IDS] [rank N] [budget N]"
command_shape verbs.Drop = codes "drop STUDENT COURSE"
command_shape verbs.Swap = codes "swap STUDENT [give COURSE ..] [take IDS [only IDS] [rank N] ..] [budget N]"
command_shape verbs.Wait = codes "wait STUDENT IDS [only IDS] [rank N] [give COURSE] [class N]"
command_shape verbs.Unwait = codes "unwait STUDENT TICKET"
command_shape verbs.Batch = codes "batch IDS"

-- the form in words
unfoldable pub form_text : Form → List ℕ
form_text forms.DayMark = codes "@ and a day, as @2025-08-01"
form_text forms.Caller = codes "r and a registrar's number, or s and a student's id"
form_text forms.Number = codes "a number of 64 bits, without a sign and without a zero in front"
form_text forms.Command =
    codes "a command: offering, student, requests, reserve, unreserve, expire, restrict, unrestrict, limit, cancel, enrol, drop, swap, wait, unwait or batch"
form_text forms.Id = codes "an id: a number of 32 bits, without a sign and without a zero in front"
form_text forms.Ids = codes "ids joined by +, or - for none"
form_text forms.OptionalId = codes "an id, or - for none"
form_text forms.Limit = codes "a limit: a number of 32 bits, or - for no limit"
form_text forms.Credits = codes "credits from 0 to 30"
form_text forms.MostCredits = codes "the most credits, from 0 to 65535"
form_text forms.Day = codes "a day, as 2025-08-01"
form_text forms.OptionalDay = codes "a day, as 2025-08-01, or - for none"
form_text forms.Meeting = codes "a meeting: DAYS/HHMM-HHMM/WEEKS, as MW/0900-1015/1-15"
form_text forms.Meetings = codes "meetings DAYS/HHMM-HHMM/WEEKS joined by +, as MW/0900-1015/1-15, or - for none"
form_text forms.Audience = codes "students:IDS, group:ID, curriculum:AREA:CLASSES:MAJORS or course:ID"
form_text forms.Curriculum = codes "a curriculum: AREA:CLASS:MAJORS"
form_text (forms.UpTo most) = codes "a number from 1 to " ++ decimal most
form_text forms.Max = codes "max"
form_text forms.Level = codes "course, config or section"
form_text (forms.End verb) = codes "the end of the line, or a word in this order: " ++ command_shape verb
