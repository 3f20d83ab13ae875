-- What has a text: each number is of its size, each day, meeting, tree and choice is one, and each list that may not be empty isn't.
use Rattle.std.specs.Prelude.{ℕ, ◌<◌, ◌≤◌, List, length, Option, Some, None}
use Rattle.std.specs.List.{AllByRecursion}
use Rattle.sect_base.specs.declared.ids.CourseId.{CourseId}
use Rattle.sect_base.specs.declared.ids.ConfigId.{ConfigId}
use Rattle.sect_base.specs.declared.ids.SubpartId.{SubpartId}
use Rattle.sect_base.specs.declared.ids.SectionId.{SectionId}
use Rattle.sect_base.specs.declared.ids.OfferingId.{OfferingId}
use Rattle.sect_base.specs.declared.ids.ReservationId.{ReservationId}
use Rattle.sect_base.specs.declared.ids.RestrictionId.{RestrictionId}
use Rattle.sect_base.specs.declared.ids.StudentId.{StudentId}
use Rattle.sect_base.specs.declared.ids.GroupId.{GroupId}
use Rattle.sect_base.specs.declared.ids.AreaId.{AreaId}
use Rattle.sect_base.specs.declared.ids.ClassId.{ClassId}
use Rattle.sect_base.specs.declared.ids.MajorId.{MajorId}
use Rattle.sect_base.specs.declared.choice.Choice.{Choice}
use Rattle.sect_base.specs.declared.choice.Curriculum.{Curriculum}
use Rattle.sect_base.specs.declared.choice.Want.{Want}
use Rattle.sect_base.specs.declared.limit.Limit.{Limit}
use Rattle.sect_base.specs.declared.limit.Limit.TheVariants.{Unlimited, Places}
use Rattle.sect_base.specs.declared.limit.Caller.{Caller}
use Rattle.sect_base.specs.declared.limit.Caller.TheVariants as callers
use Rattle.sect_base.specs.declared.limit.Cap.{Cap}
use Rattle.sect_base.specs.declared.limit.Cap.TheVariants as caps
use Rattle.sect_base.specs.declared.limit.Id.{Id}
use Rattle.sect_base.specs.Tree.{Tree}
use Rattle.sect_base.specs.Day.{LAST_DAY}
use Rattle.sect_base.specs.Pattern.{IsPattern}
use Rattle.sect_catalog.specs.declared.row.OfferingRow.{OfferingRow}
use Rattle.sect_catalog.specs.declared.row.CourseRow.{CourseRow}
use Rattle.sect_catalog.specs.declared.row.ConfigRow.{ConfigRow}
use Rattle.sect_catalog.specs.declared.row.SubpartRow.{SubpartRow}
use Rattle.sect_catalog.specs.declared.row.SectionRow.{SectionRow}
use Rattle.sect_catalog.specs.declared.row.CatalogFault.{CatalogFault}
use Rattle.sect_catalog.specs.declared.row.CatalogFault.TheVariants as catalog
use Rattle.sect_people.specs.declared.row.StudentRow.{StudentRow}
use Rattle.sect_people.specs.declared.row.CourseAsk.{CourseAsk}
use Rattle.sect_people.specs.declared.row.Ask.{Ask}
use Rattle.sect_people.specs.declared.row.Ask.TheVariants as asks
use Rattle.sect_people.specs.declared.row.RequestFault.{RequestFault}
use Rattle.sect_people.specs.declared.row.RequestFault.TheVariants as request
use Rattle.sect_reserve.specs.declared.row.Audience.{Audience}
use Rattle.sect_reserve.specs.declared.row.Audience.TheVariants as audiences
use Rattle.sect_reserve.specs.declared.row.ReserveFault.{ReserveFault}
use Rattle.sect_reserve.specs.declared.row.ReserveFault.TheVariants as reserve
use Rattle.sect_command.specs.TreeText.{HasText}
use Rattle.sect_command.specs.declared.command.ReserveRow.{ReserveRow}
use Rattle.sect_command.specs.declared.command.RestrictRow.{RestrictRow}
use Rattle.sect_command.specs.declared.command.Command.{Command}
use Rattle.sect_command.specs.declared.command.Command.TheVariants as commands
use Rattle.sect_command.specs.declared.reply.Reply.{Reply}
use Rattle.sect_command.specs.declared.reply.Reply.TheVariants as replies
use Rattle.sect_command.specs.declared.reply.Line.{Line}
use Rattle.sect_command.specs.declared.reply.LineResult.{LineResult}
use Rattle.sect_command.specs.declared.reply.LineResult.TheVariants as results
use Rattle.sect_command.specs.declared.reply.Refusal.{Refusal}
use Rattle.sect_command.specs.declared.reply.Refusal.TheVariants as refusals
use Rattle.sect_command.specs.declared.reply.RowFault.{RowFault}
use Rattle.sect_command.specs.declared.reply.RowFault.TheVariants as faults
use Rattle.sect_once.specs.declared.entry.Entry.{Entry}
use Rattle.sect_once.specs.declared.entry.Request.{Request}

-- a number of 8 bits
abbrev pub Fits8 : ℕ → Type 0
Fits8 n = n ≤ 255

-- a number of 16 bits
abbrev pub Fits16 : ℕ → Type 0
Fits16 n = n ≤ 65535

-- a number of 32 bits
abbrev pub Fits32 : ℕ → Type 0
Fits32 n = n ≤ 4294967295

-- a number of 64 bits
abbrev pub Fits64 : ℕ → Type 0
Fits64 n = n ≤ 18446744073709551615

-- the number of a course's id has 32 bits
abbrev pub FitsCourse : CourseId → Type 0
FitsCourse id = Fits32 id.0

-- the number of a configuration's id has 32 bits
abbrev pub FitsConfig : ConfigId → Type 0
FitsConfig id = Fits32 id.0

-- the number of a subpart's id has 32 bits
abbrev pub FitsSubpart : SubpartId → Type 0
FitsSubpart id = Fits32 id.0

-- the number of a section's id has 32 bits
abbrev pub FitsSection : SectionId → Type 0
FitsSection id = Fits32 id.0

-- the number of an offering's id has 32 bits
abbrev pub FitsOffering : OfferingId → Type 0
FitsOffering id = Fits32 id.0

-- the number of a reservation's id has 32 bits
abbrev pub FitsReservation : ReservationId → Type 0
FitsReservation id = Fits32 id.0

-- the number of a restriction's id has 32 bits
abbrev pub FitsRestriction : RestrictionId → Type 0
FitsRestriction id = Fits32 id.0

-- the number of a student's id has 32 bits
abbrev pub FitsStudent : StudentId → Type 0
FitsStudent id = Fits32 id.0

-- the number of a group's id has 32 bits
abbrev pub FitsGroup : GroupId → Type 0
FitsGroup id = Fits32 id.0

-- the number of an area's id has 32 bits
abbrev pub FitsArea : AreaId → Type 0
FitsArea id = Fits32 id.0

-- the number of a class's id has 32 bits
abbrev pub FitsClass : ClassId → Type 0
FitsClass id = Fits32 id.0

-- the number of a major's id has 32 bits
abbrev pub FitsMajor : MajorId → Type 0
FitsMajor id = Fits32 id.0

-- the day is one of the years 1970 to 2199
abbrev pub FitsDay : ℕ → Type 0
FitsDay day = day ≤ LAST_DAY

-- each of them has a text
abbrev pub FitsList : {X : Type 0} → (X → Type 0) → List X → Type 0
FitsList Fits xs = AllByRecursion Fits xs

-- it has a text, where there is one
abbrev pub FitsOptional : {X : Type 0} → (X → Type 0) → Option X → Type 0
FitsOptional Fits None = Unit {0}
FitsOptional Fits (Some x) = Fits x

-- a limit is unlimited, or a number of 32 bits
abbrev pub FitsLimit : Limit → Type 0
FitsLimit Unlimited = Unit {0}
FitsLimit (Places n) = Fits32 n

-- a registrar or a student, each with a number of 32 bits
abbrev pub FitsCaller : Caller → Type 0
FitsCaller (callers.Registrar n) = Fits32 n
FitsCaller (callers.Student id) = FitsStudent id

-- the caller's number has 32 bits, the request's 64
abbrev pub FitsId : Id → Type 0
FitsId id = FitsCaller id.caller × Fits64 id.number

-- an area, a class and majors, each with a number of its size
abbrev pub FitsCurriculum : Curriculum → Type 0
FitsCurriculum c = FitsArea c.area × FitsClass c.class × FitsList FitsMajor c.majors

-- each id that an audience names has a number of its size
abbrev pub FitsAudience : Audience → Type 0
FitsAudience (audiences.Students ids) = FitsList FitsStudent ids
FitsAudience (audiences.Group id) = FitsGroup id
FitsAudience (audiences.Curriculum area classes majors) = FitsArea area × FitsList FitsClass classes × FitsList FitsMajor majors
FitsAudience (audiences.Course id) = FitsCourse id

-- one to six sections
abbrev pub FitsSections : List SectionId → Type 0
FitsSections ids = (0 < length ids) × (length ids ≤ 6) × FitsList FitsSection ids

-- a choice names one to six sections
abbrev pub FitsChoice : Choice → Type 0
FitsChoice c = FitsCourse c.course × FitsOptional FitsReservation c.reservation × FitsConfig c.config × FitsSections c.sections

-- at most 36 brackets lie round a leaf, and each split has an option
abbrev pub FitsTree : Tree → Type 0
FitsTree t = HasText 36 t

-- a section's id, limit, parent and meetings have texts
abbrev pub FitsSectionRow : SectionRow → Type 0
FitsSectionRow s = FitsSection s.id × FitsLimit s.limit × FitsOptional FitsSection s.parent × FitsList IsPattern s.meetings

-- a subpart's id and its sections have texts
abbrev pub FitsSubpartRow : SubpartRow → Type 0
FitsSubpartRow p = FitsSubpart p.id × FitsList FitsSectionRow p.sections

-- a configuration's id, limit and subparts have texts
abbrev pub FitsConfigRow : ConfigRow → Type 0
FitsConfigRow g = FitsConfig g.id × FitsLimit g.limit × FitsList FitsSubpartRow g.subparts

-- credits are at most 30
abbrev pub FitsCourseRow : CourseRow → Type 0
FitsCourseRow c = FitsCourse c.id × FitsLimit c.limit × (c.credits ≤ 30)

-- an offering's id, courses and configurations have texts
abbrev pub FitsOfferingRow : OfferingRow → Type 0
FitsOfferingRow o = FitsOffering o.id × FitsList FitsCourseRow o.courses × FitsList FitsConfigRow o.configs

-- a student's id, maximum, groups and curricula have texts
abbrev pub FitsStudentRow : StudentRow → Type 0
FitsStudentRow s = FitsStudent s.id × Fits16 s.max_credits × FitsList FitsGroup s.groups × FitsList FitsCurriculum s.curricula

-- the courses that a request names have texts
abbrev pub FitsCourseAsk : CourseAsk → Type 0
FitsCourseAsk a = FitsList FitsCourse a.courses

-- a request for courses or a free time has a text
abbrev pub FitsAsk : Ask → Type 0
FitsAsk (asks.Course ask) = FitsCourseAsk ask
FitsAsk (asks.Free meeting) = IsPattern meeting

-- a reservation's parts have texts, each day among them
abbrev pub FitsReserveRow : ReserveRow → Type 0
FitsReserveRow r =
    FitsReservation r.id × FitsOffering r.offering × FitsAudience r.audience × FitsLimit r.limit × FitsOptional FitsDay r.expiry × FitsOptional FitsDay r.first
    × FitsList FitsConfig r.configs × FitsList FitsSection r.sections

-- a restriction's parts have texts
abbrev pub FitsRestrictRow : RestrictRow → Type 0
FitsRestrictRow r = FitsRestriction r.id × FitsOffering r.offering × FitsAudience r.audience × FitsList FitsConfig r.configs × FitsList FitsSection r.sections

-- the level whose limit is set has a text
abbrev pub FitsCap : Cap → Type 0
FitsCap (caps.Course id) = FitsCourse id
FitsCap (caps.Config id) = FitsConfig id
FitsCap (caps.Section id) = FitsSection id

-- a number from 1 to `most`
abbrev pub FitsStated : ℕ → ℕ → Type 0
FitsStated most n = (1 ≤ n) × (n ≤ most)

-- a rank is 1 to 21
abbrev pub FitsWant : Want → Type 0
FitsWant w = FitsList FitsCourse w.courses × FitsList FitsSection w.only × FitsStated 21 w.rank

-- a budget is 1 to 20,000, and a class 1 to 9
abbrev pub FitsCommand : Command → Type 0
FitsCommand (commands.Offering row) = FitsOfferingRow row
FitsCommand (commands.Student row) = FitsStudentRow row
FitsCommand (commands.Requests student asked) = FitsStudent student × FitsList FitsAsk asked
FitsCommand (commands.Reserve row) = FitsReserveRow row
FitsCommand (commands.Unreserve id) = FitsReservation id
FitsCommand (commands.Expire reservation expiry) = FitsReservation reservation × FitsOptional FitsDay expiry
FitsCommand (commands.Restrict row) = FitsRestrictRow row
FitsCommand (commands.Unrestrict id) = FitsRestriction id
FitsCommand (commands.SetLimit cap limit) = FitsCap cap × FitsLimit limit
FitsCommand (commands.Cancel id) = FitsSection id
FitsCommand (commands.Enrol student want budget) = FitsStudent student × FitsWant want × FitsStated 20000 budget
FitsCommand (commands.Drop student course) = FitsStudent student × FitsCourse course
FitsCommand (commands.Swap student given taken budget) = FitsStudent student × FitsList FitsCourse given × FitsList FitsWant taken × FitsStated 20000 budget
FitsCommand (commands.Wait student want give class) = FitsStudent student × FitsWant want × FitsOptional FitsCourse give × FitsStated 9 class
FitsCommand (commands.Unwait student ticket) = FitsStudent student × Fits64 ticket
FitsCommand (commands.Batch students) = FitsList FitsStudent students

-- the number that a fault of an offering names has its size
abbrev pub FitsCatalogFault : CatalogFault → Type 0
FitsCatalogFault (catalog.Known n) = Fits32 n
FitsCatalogFault catalog.NoCourse = Unit {0}
FitsCatalogFault catalog.NoConfig = Unit {0}
FitsCatalogFault (catalog.NoSubpart n) = Fits32 n
FitsCatalogFault (catalog.NoSection n) = Fits32 n
FitsCatalogFault (catalog.BadParent n) = Fits32 n
FitsCatalogFault (catalog.TooMany n) = Fits32 n

-- the number that a fault of requests names has its size
abbrev pub FitsRequestFault : RequestFault → Type 0
FitsRequestFault (request.UnknownCourse n) = Fits32 n
FitsRequestFault (request.Twice n) = Fits32 n
FitsRequestFault (request.TooMany n) = Fits32 n

-- the number that a fault of a reservation names has its size
abbrev pub FitsReserveFault : ReserveFault → Type 0
FitsReserveFault (reserve.Known n) = Fits32 n
FitsReserveFault (reserve.Foreign n) = Fits32 n
FitsReserveFault reserve.NoGroup = Unit {0}
FitsReserveFault (reserve.TooMany n) = Fits32 n

-- the fault of a row has a text
abbrev pub FitsRowFault : RowFault → Type 0
FitsRowFault (faults.Offering fault) = FitsCatalogFault fault
FitsRowFault (faults.Request fault) = FitsRequestFault fault
FitsRowFault (faults.Reserve fault) = FitsReserveFault fault

-- the number that a refusal names has its size
abbrev pub FitsRefusal : Refusal → Type 0
FitsRefusal refusals.NotYours = Unit {0}
FitsRefusal (refusals.Unknown n) = Fits32 n
FitsRefusal refusals.EmptyWant = Unit {0}
FitsRefusal (refusals.TooMany n) = Fits32 n
FitsRefusal (refusals.NotEnrolled course) = FitsCourse course
FitsRefusal (refusals.WaitingAlready ticket) = Fits64 ticket
FitsRefusal refusals.NotWaiting = Unit {0}
FitsRefusal (refusals.LimitBelow n) = Fits32 n
FitsRefusal (refusals.InUse n) = Fits32 n
FitsRefusal (refusals.Row fault) = FitsRowFault fault

-- the result of one request of a batch has a text, its tree among it
abbrev pub FitsResult : LineResult → Type 0
FitsResult (results.Met choice) = FitsChoice choice
FitsResult (results.Held course) = FitsCourse course
FitsResult (results.Blocked visits tree) = Fits32 visits × FitsTree tree
FitsResult results.Spent = Unit {0}
FitsResult (results.Waiting ticket) = Fits64 ticket
FitsResult results.Skipped = Unit {0}

-- a batch's line has a text
abbrev pub FitsLine : Line → Type 0
FitsLine l = FitsStudent l.student × Fits8 l.rank × FitsResult l.result

-- a reply has a text, its tree among it
abbrev pub FitsReply : Reply → Type 0
FitsReply replies.Amended = Unit {0}
FitsReply (replies.Enrolled choice) = FitsChoice choice
FitsReply (replies.Dropped course) = FitsCourse course
FitsReply (replies.Swapped choices) = FitsList FitsChoice choices
FitsReply (replies.Waiting ticket) = Fits64 ticket
FitsReply (replies.Placed ticket choice) = Fits64 ticket × FitsChoice choice
FitsReply (replies.Batched lines) = FitsList FitsLine lines
FitsReply (replies.Blocked visits tree) = Fits32 visits × FitsTree tree
FitsReply (replies.Spent budget) = Fits32 budget
FitsReply (replies.Refused refusal) = FitsRefusal refusal

-- the day, the id and the command of a request have texts
abbrev pub FitsRequest : Request Command → Type 0
FitsRequest r = FitsDay r.day × FitsId r.id × FitsCommand r.command

-- the day, the id, the command and the reply of an entry have texts
abbrev pub FitsEntry : Entry Command Reply → Type 0
FitsEntry e = FitsDay e.day × FitsId e.id × FitsCommand e.command × FitsReply e.reply
