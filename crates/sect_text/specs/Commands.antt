-- The words of a command. What has a default is left out where it is the default, unless it is shown.
use Rattle.std.specs.Prelude.{ℕ, ◌==◌, Bool, true, false, not, ◌||◌, List, [], ◌∷◌, ◌++◌, flat_map, if◌then◌else◌, Option, Some, None, codes, decimal}
use Rattle.sect_base.specs.declared.ids.CourseId.{CourseId}
use Rattle.sect_base.specs.declared.ids.ConfigId.{ConfigId}
use Rattle.sect_base.specs.declared.ids.SectionId.{SectionId}
use Rattle.sect_base.specs.declared.ids.GroupId.{GroupId}
use Rattle.sect_base.specs.declared.choice.Curriculum.{Curriculum}
use Rattle.sect_base.specs.declared.choice.Want.{Want}
use Rattle.sect_base.specs.declared.limit.Cap.{Cap}
use Rattle.sect_base.specs.declared.limit.Cap.TheVariants as caps
use Rattle.sect_catalog.specs.declared.row.OfferingRow.{OfferingRow}
use Rattle.sect_catalog.specs.declared.row.CourseRow.{CourseRow}
use Rattle.sect_catalog.specs.declared.row.ConfigRow.{ConfigRow}
use Rattle.sect_catalog.specs.declared.row.SubpartRow.{SubpartRow}
use Rattle.sect_catalog.specs.declared.row.SectionRow.{SectionRow}
use Rattle.sect_people.specs.declared.row.StudentRow.{StudentRow}
use Rattle.sect_people.specs.declared.row.CourseAsk.{CourseAsk}
use Rattle.sect_people.specs.declared.row.Ask.{Ask}
use Rattle.sect_people.specs.declared.row.Ask.TheVariants as asks
use Rattle.sect_command.specs.declared.command.ReserveRow.{ReserveRow}
use Rattle.sect_command.specs.declared.command.RestrictRow.{RestrictRow}
use Rattle.sect_command.specs.declared.command.Command.{Command}
use Rattle.sect_command.specs.declared.command.Command.TheVariants as commands
use Rattle.sect_base.specs.MeetingText.{meeting_text}
use Rattle.sect_words.specs.Parts.{sentence}
use Rattle.sect_words.specs.Days.{day_text}
use Rattle.sect_words.specs.Words.{list_text, optional_text, limit_text, course_text, section_text, student_text, curriculum_text, audience_text}

-- `section ID LIMIT PARENT MEETINGS`
abbrev pub section_words : SectionRow → List (List ℕ)
section_words s = codes "section" ∷ decimal s.id.0 ∷ limit_text s.limit ∷ optional_text section_text s.parent ∷ list_text 43 meeting_text s.meetings ∷ []

-- `subpart ID` and its sections
abbrev pub subpart_words : SubpartRow → List (List ℕ)
subpart_words p = codes "subpart" ∷ decimal p.id.0 ∷ flat_map section_words p.sections

-- `config ID LIMIT` and its subparts
abbrev pub config_words : ConfigRow → List (List ℕ)
config_words g = codes "config" ∷ decimal g.id.0 ∷ limit_text g.limit ∷ flat_map subpart_words g.subparts

-- `course ID LIMIT CREDITS`
abbrev pub course_words : CourseRow → List (List ℕ)
course_words c = codes "course" ∷ decimal c.id.0 ∷ limit_text c.limit ∷ decimal c.credits ∷ []

-- `offering ID`, its courses and its configurations
abbrev pub offering_words : OfferingRow → List (List ℕ)
offering_words o = codes "offering" ∷ decimal o.id.0 ∷ flat_map course_words o.courses ++ flat_map config_words o.configs

-- `group ID`
abbrev pub group_words : GroupId → List (List ℕ)
group_words id = codes "group" ∷ decimal id.0 ∷ []

-- `curriculum AREA:CLASS:MAJORS`
abbrev pub curriculum_words : Curriculum → List (List ℕ)
curriculum_words c = codes "curriculum" ∷ curriculum_text c ∷ []

-- `student ID max N`, the groups and the curricula
abbrev pub student_words : StudentRow → List (List ℕ)
student_words s = codes "student" ∷ decimal s.id.0 ∷ codes "max" ∷ decimal s.max_credits ∷ flat_map group_words s.groups ++ flat_map curriculum_words s.curricula

-- the word, where it holds
abbrev pub mark_words : List ℕ → Bool → List (List ℕ)
mark_words word true = word ∷ []
mark_words word false = []

-- `course IDS [wait] [substitute]`
abbrev pub course_ask_words : CourseAsk → List (List ℕ)
course_ask_words a = codes "course" ∷ list_text 43 course_text a.courses ∷ mark_words (codes "wait") a.wait ++ mark_words (codes "substitute") a.substitute

-- a course request, or `free MEETING`
abbrev pub ask_words : Ask → List (List ℕ)
ask_words (asks.Course ask) = course_ask_words ask
ask_words (asks.Free meeting) = codes "free" ∷ meeting_text meeting ∷ []

-- `config ID` for each
abbrev pub config_id_words : ConfigId → List (List ℕ)
config_id_words id = codes "config" ∷ decimal id.0 ∷ []

-- `section ID` for each
abbrev pub section_id_words : SectionId → List (List ℕ)
section_id_words id = codes "section" ∷ decimal id.0 ∷ []

-- `from DAY`, where there is a first day
abbrev pub from_words : Option ℕ → List (List ℕ)
from_words None = []
from_words (Some day) = codes "from" ∷ day_text day ∷ []

-- `reserve ID OFFERING AUDIENCE LIMIT EXPIRY`, the first day, the configurations, the sections and the permissions
abbrev pub reserve_words : ReserveRow → List (List ℕ)
reserve_words r =
    codes "reserve" ∷ decimal r.id.0 ∷ decimal r.offering.0 ∷ audience_text r.audience ∷ limit_text r.limit ∷ optional_text day_text r.expiry
    ∷ from_words r.first ++ (flat_map config_id_words r.configs ++ (flat_map section_id_words r.sections
    ++ (mark_words (codes "over") r.over ++ (mark_words (codes "overlap") r.overlap ++ mark_words (codes "must") r.must))))

-- `restrict ID OFFERING AUDIENCE`, the configurations and the sections
abbrev pub restrict_words : RestrictRow → List (List ℕ)
restrict_words r =
    codes "restrict" ∷ decimal r.id.0 ∷ decimal r.offering.0 ∷ audience_text r.audience ∷ flat_map config_id_words r.configs ++ flat_map section_id_words r.sections

-- the level and its id
abbrev pub cap_words : Cap → List (List ℕ)
cap_words (caps.Course id) = codes "course" ∷ decimal id.0 ∷ []
cap_words (caps.Config id) = codes "config" ∷ decimal id.0 ∷ []
cap_words (caps.Section id) = codes "section" ∷ decimal id.0 ∷ []

-- the key and a number, which may be left out where it is the default
abbrev pub stated_words : List ℕ → ℕ → Bool → ℕ → List (List ℕ)
stated_words key default shown n = if shown || not (n == default) then key ∷ decimal n ∷ [] else []

-- `only IDS`, which may be left out where there is none
abbrev pub only_words : Bool → List SectionId → List (List ℕ)
only_words true ids = codes "only" ∷ list_text 43 section_text ids ∷ []
only_words false [] = []
only_words false (id ∷ ids) = codes "only" ∷ list_text 43 section_text (id ∷ ids) ∷ []

-- `IDS [only IDS] [rank N]`, where each may be shown though it is the default: no section, rank 21
abbrev pub want_words : Bool → Bool → Want → List (List ℕ)
want_words only rank w = list_text 43 course_text w.courses ∷ only_words only w.only ++ stated_words (codes "rank") 21 rank w.rank

-- a want as it is printed
abbrev pub printed_want : Want → List (List ℕ)
printed_want w = want_words false false w

-- `give COURSE`
abbrev pub give_words : CourseId → List (List ℕ)
give_words id = codes "give" ∷ decimal id.0 ∷ []

-- `give COURSE`, where one is given up
abbrev pub optional_give_words : Option CourseId → List (List ℕ)
optional_give_words None = []
optional_give_words (Some id) = give_words id

-- `take WANT`
abbrev pub take_words : Want → List (List ℕ)
take_words w = codes "take" ∷ printed_want w

-- `budget N`, which may be left out where it is 2000
abbrev pub budget_words : Bool → ℕ → List (List ℕ)
budget_words shown budget = stated_words (codes "budget") 2000 shown budget

-- `class N`, which may be left out where it is 5
abbrev pub class_words : Bool → ℕ → List (List ℕ)
class_words shown class = stated_words (codes "class") 5 shown class

-- the words of a command as it is printed
abbrev pub command_words : Command → List (List ℕ)
command_words (commands.Offering row) = offering_words row
command_words (commands.Student row) = student_words row
command_words (commands.Requests student asked) = codes "requests" ∷ decimal student.0 ∷ flat_map ask_words asked
command_words (commands.Reserve row) = reserve_words row
command_words (commands.Unreserve id) = codes "unreserve" ∷ decimal id.0 ∷ []
command_words (commands.Expire reservation expiry) = codes "expire" ∷ decimal reservation.0 ∷ optional_text day_text expiry ∷ []
command_words (commands.Restrict row) = restrict_words row
command_words (commands.Unrestrict id) = codes "unrestrict" ∷ decimal id.0 ∷ []
command_words (commands.SetLimit cap limit) = codes "limit" ∷ cap_words cap ++ (limit_text limit ∷ [])
command_words (commands.Cancel id) = codes "cancel" ∷ decimal id.0 ∷ []
command_words (commands.Enrol student want budget) = codes "enrol" ∷ decimal student.0 ∷ printed_want want ++ budget_words false budget
command_words (commands.Drop student course) = codes "drop" ∷ decimal student.0 ∷ decimal course.0 ∷ []
command_words (commands.Swap student give take budget) =
    codes "swap" ∷ decimal student.0 ∷ flat_map give_words give ++ (flat_map take_words take ++ budget_words false budget)
command_words (commands.Wait student want give class) =
    codes "wait" ∷ decimal student.0 ∷ printed_want want ++ (optional_give_words give ++ class_words false class)
command_words (commands.Unwait student ticket) = codes "unwait" ∷ decimal student.0 ∷ decimal ticket ∷ []
command_words (commands.Batch students) = codes "batch" ∷ list_text 43 student_text students ∷ []

-- the text of a command as it is printed
abbrev pub command_text : Command → List ℕ
command_text c = sentence (command_words c)
