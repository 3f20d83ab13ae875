-- No byte of a command's text is below a space.
use Rattle.std.proofs.Common.{ℕ, ◌==◌, Bool, true, false, List, [], ◌∷◌, ◌++◌, Option, None, Some, refl, decimal}
use Rattle.std.specs.Prelude.{codes, flat_map, not, if◌then◌else◌}
use Rattle.sect_base.specs.declared.ids.CourseId.{CourseId}
use Rattle.sect_base.specs.declared.ids.ConfigId.{ConfigId}
use Rattle.sect_base.specs.declared.ids.SectionId.{SectionId}
use Rattle.sect_base.specs.declared.choice.Want.{Want}
use Rattle.sect_base.specs.declared.limit.Cap.{Cap}
use Rattle.sect_base.specs.declared.limit.Cap.TheVariants as caps
use Rattle.sect_base.specs.MeetingText.{meeting_text}
use Rattle.sect_catalog.specs.declared.row.OfferingRow.{OfferingRow}
use Rattle.sect_catalog.specs.declared.row.CourseRow.{CourseRow}
use Rattle.sect_catalog.specs.declared.row.ConfigRow.{ConfigRow}
use Rattle.sect_catalog.specs.declared.row.SubpartRow.{SubpartRow}
use Rattle.sect_catalog.specs.declared.row.SectionRow.{SectionRow}
use Rattle.sect_people.specs.declared.row.StudentRow.{StudentRow}
use Rattle.sect_people.specs.declared.row.Ask.{Ask}
use Rattle.sect_people.specs.declared.row.Ask.TheVariants as asks
use Rattle.sect_command.specs.declared.command.ReserveRow.{ReserveRow}
use Rattle.sect_command.specs.declared.command.RestrictRow.{RestrictRow}
use Rattle.sect_command.specs.declared.command.Command.{Command}
use Rattle.sect_command.specs.declared.command.Command.TheVariants as commands
use Rattle.sect_words.specs.Days.{day_text}
use Rattle.sect_words.specs.Words.{course_text, limit_text, list_text, section_text, student_text}
use Rattle.sect_text.specs.Commands.{
  ask_words,
  budget_words,
  cap_words,
  class_words,
  command_words,
  config_id_words,
  config_words,
  course_words,
  curriculum_words,
  from_words,
  give_words,
  group_words,
  mark_words,
  offering_words,
  only_words,
  optional_give_words,
  printed_want,
  reserve_words,
  restrict_words,
  section_id_words,
  section_words,
  stated_words,
  student_words,
  subpart_words,
  take_words,
}
use Rattle.sect_clerk.proofs.Plain.{Plain, Plains, append, audience, curriculum, day, each, key, limit, listed, meeting, number, optional}

-- ---- offerings and students

section_plain : (s : SectionRow) → Plains (section_words s)
section_plain s =
    (key (codes "section") refl, (number s.id.0, (limit s.limit, (optional section_text (λ p. number p.0) s.parent, (listed meeting_text meeting s.meetings, tt)))))

subpart_plain : (p : SubpartRow) → Plains (subpart_words p)
subpart_plain p = (key (codes "subpart") refl, (number p.id.0, each section_words section_plain p.sections))

config_plain : (g : ConfigRow) → Plains (config_words g)
config_plain g = (key (codes "config") refl, (number g.id.0, (limit g.limit, each subpart_words subpart_plain g.subparts)))

course_plain : (c : CourseRow) → Plains (course_words c)
course_plain c = (key (codes "course") refl, (number c.id.0, (limit c.limit, (number c.credits, tt))))

offering_plain : (o : OfferingRow) → Plains (offering_words o)
offering_plain o = (
  key (codes "offering") refl,
  (
    number o.id.0,
    append (flat_map course_words o.courses) (flat_map config_words o.configs) (each course_words course_plain o.courses) (each config_words config_plain o.configs),
  ),
)

student_plain : (s : StudentRow) → Plains (student_words s)
student_plain s = (
  key (codes "student") refl,
  (
    number s.id.0,
    (
      key (codes "max") refl,
      (
        number s.max_credits,
        append (flat_map group_words s.groups) (flat_map curriculum_words s.curricula)
            (each group_words (λ g. (key (codes "group") refl, (number g.0, tt))) s.groups)
            (each curriculum_words (λ c. (key (codes "curriculum") refl, (curriculum c, tt))) s.curricula),
      ),
    ),
  ),
)

marked : (word : List ℕ) (b : Bool) → Plain word → Plains (mark_words word b)
marked word true plain = (plain, tt)
marked word false plain = tt

course_ids : (ids : List CourseId) → Plain (list_text 43 course_text ids)
course_ids ids = listed course_text (λ c. number c.0) ids

section_ids : (ids : List SectionId) → Plain (list_text 43 section_text ids)
section_ids ids = listed section_text (λ s. number s.0) ids

ask_plain : (a : Ask) → Plains (ask_words a)
ask_plain (asks.Course a) = (
  key (codes "course") refl,
  (
    course_ids a.courses,
    append (mark_words (codes "wait") a.wait) (mark_words (codes "substitute") a.substitute)
        (marked (codes "wait") a.wait (key (codes "wait") refl)) (marked (codes "substitute") a.substitute (key (codes "substitute") refl)),
  ),
)
ask_plain (asks.Free m) = (key (codes "free") refl, (meeting m, tt))

-- ---- reservations and restrictions

configs_plain : (ids : List ConfigId) → Plains (flat_map config_id_words ids)
configs_plain ids = each config_id_words (λ g. (key (codes "config") refl, (number g.0, tt))) ids

sections_plain : (ids : List SectionId) → Plains (flat_map section_id_words ids)
sections_plain ids = each section_id_words (λ s. (key (codes "section") refl, (number s.0, tt))) ids

from_plain : (first : Option ℕ) → Plains (from_words first)
from_plain None = tt
from_plain (Some d) = (key (codes "from") refl, (day d, tt))

permits_plain : (r : ReserveRow) → Plains (mark_words (codes "over") r.over ++ (mark_words (codes "overlap") r.overlap ++ mark_words (codes "must") r.must))
permits_plain r =
    append (mark_words (codes "over") r.over) (mark_words (codes "overlap") r.overlap ++ mark_words (codes "must") r.must)
    (marked (codes "over") r.over (key (codes "over") refl))
    (append (mark_words (codes "overlap") r.overlap) (mark_words (codes "must") r.must)
    (marked (codes "overlap") r.overlap (key (codes "overlap") refl)) (marked (codes "must") r.must (key (codes "must") refl)))

reserve_plain : (r : ReserveRow) → Plains (reserve_words r)
reserve_plain r = (
  key (codes "reserve") refl,
  (
    number r.id.0,
    (
      number r.offering.0,
      (
        audience r.audience,
        (
          limit r.limit,
          (
            optional day_text day r.expiry,
            append (from_words r.first) _ (from_plain r.first)
                (append (flat_map config_id_words r.configs) _ (configs_plain r.configs)
                (append (flat_map section_id_words r.sections) _ (sections_plain r.sections) (permits_plain r))),
          ),
        ),
      ),
    ),
  ),
)

restrict_plain : (r : RestrictRow) → Plains (restrict_words r)
restrict_plain r = (
  key (codes "restrict") refl,
  (
    number r.id.0,
    (
      number r.offering.0,
      (
        audience r.audience,
        append (flat_map config_id_words r.configs) (flat_map section_id_words r.sections) (configs_plain r.configs) (sections_plain r.sections),
      ),
    ),
  ),
)

cap_plain : (cap : Cap) → Plains (cap_words cap)
cap_plain (caps.Course id) = (key (codes "course") refl, (number id.0, tt))
cap_plain (caps.Config id) = (key (codes "config") refl, (number id.0, tt))
cap_plain (caps.Section id) = (key (codes "section") refl, (number id.0, tt))

-- ---- wants

where_it : (b : Bool) (words : List (List ℕ)) → Plains words → Plains (if b then words else [])
where_it true words plain = plain
where_it false words plain = tt

stated_plain : (word : List ℕ) (default n : ℕ) → Plain word → Plains (stated_words word default false n)
stated_plain word default n plain = where_it (not (n == default)) (word ∷ decimal n ∷ []) (plain, (number n, tt))

only_plain : (ids : List SectionId) → Plains (only_words false ids)
only_plain [] = tt
only_plain (id ∷ ids) = (key (codes "only") refl, (section_ids (id ∷ ids), tt))

want_plain : (w : Want) → Plains (printed_want w)
want_plain w = (
  course_ids w.courses,
  append (only_words false w.only) (stated_words (codes "rank") 21 false w.rank) (only_plain w.only)
      (stated_plain (codes "rank") 21 w.rank (key (codes "rank") refl)),
)

give_plain : (id : CourseId) → Plains (give_words id)
give_plain id = (key (codes "give") refl, (number id.0, tt))

given_plain : (id : Option CourseId) → Plains (optional_give_words id)
given_plain None = tt
given_plain (Some id) = give_plain id

budget_plain : (n : ℕ) → Plains (budget_words false n)
budget_plain n = stated_plain (codes "budget") 2000 n (key (codes "budget") refl)

-- ---- commands

pub command_plain : (c : Command) → Plains (command_words c)
command_plain (commands.Offering row) = offering_plain row
command_plain (commands.Student row) = student_plain row
command_plain (commands.Requests student asked) = (key (codes "requests") refl, (number student.0, each ask_words ask_plain asked))
command_plain (commands.Reserve row) = reserve_plain row
command_plain (commands.Unreserve id) = (key (codes "unreserve") refl, (number id.0, tt))
command_plain (commands.Expire id expiry) = (key (codes "expire") refl, (number id.0, (optional day_text day expiry, tt)))
command_plain (commands.Restrict row) = restrict_plain row
command_plain (commands.Unrestrict id) = (key (codes "unrestrict") refl, (number id.0, tt))
command_plain (commands.SetLimit cap places) = (key (codes "limit") refl, append (cap_words cap) (limit_text places ∷ []) (cap_plain cap) (limit places, tt))
command_plain (commands.Cancel id) = (key (codes "cancel") refl, (number id.0, tt))
command_plain (commands.Enrol student want budget) =
    (key (codes "enrol") refl, (number student.0, append (printed_want want) (budget_words false budget) (want_plain want) (budget_plain budget)))
command_plain (commands.Drop student course) = (key (codes "drop") refl, (number student.0, (number course.0, tt)))
command_plain (commands.Swap student given taken budget) = (
  key (codes "swap") refl,
  (
    number student.0,
    append (flat_map give_words given) _ (each give_words give_plain given)
        (append (flat_map take_words taken) (budget_words false budget) (each take_words (λ w. (key (codes "take") refl, want_plain w)) taken) (budget_plain budget)),
  ),
)
command_plain (commands.Wait student want give class) = (
  key (codes "wait") refl,
  (
    number student.0,
    append (printed_want want) _ (want_plain want)
        (append (optional_give_words give) (class_words false class) (given_plain give) (stated_plain (codes "class") 5 class (key (codes "class") refl))),
  ),
)
command_plain (commands.Unwait student ticket) = (key (codes "unwait") refl, (number student.0, (number ticket, tt)))
command_plain (commands.Batch students) = (key (codes "batch") refl, (listed student_text (λ s. number s.0) students, tt))
