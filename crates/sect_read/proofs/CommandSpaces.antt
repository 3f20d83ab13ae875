-- No word of a command has a space.
use Rattle.std.proofs.Common.{ℕ, ◌==◌, Bool, true, false, List, [], ◌∷◌, Option, None, Some, refl, arith, decimal}
use Rattle.std.specs.Prelude.{codes, flat_map, not, if◌then◌else◌}
use Rattle.sect_base.specs.declared.ids.CourseId.{CourseId}
use Rattle.sect_base.specs.declared.ids.ConfigId.{ConfigId}
use Rattle.sect_base.specs.declared.ids.SectionId.{SectionId}
use Rattle.sect_base.specs.declared.choice.Want.{Want}
use Rattle.sect_base.specs.declared.limit.Cap.{Cap}
use Rattle.sect_base.specs.declared.limit.Cap.TheVariants as caps
use Rattle.sect_base.specs.MeetingText.{meeting_text}
use Rattle.sect_catalog.specs.declared.row.OfferingRow.{OfferingRow}
use Rattle.sect_catalog.specs.declared.row.CourseRow.{CourseRow}
use Rattle.sect_catalog.specs.declared.row.ConfigRow.{ConfigRow}
use Rattle.sect_catalog.specs.declared.row.SubpartRow.{SubpartRow}
use Rattle.sect_catalog.specs.declared.row.SectionRow.{SectionRow}
use Rattle.sect_people.specs.declared.row.StudentRow.{StudentRow}
use Rattle.sect_people.specs.declared.row.Ask.{Ask}
use Rattle.sect_people.specs.declared.row.Ask.TheVariants as asks
use Rattle.sect_command.specs.declared.command.ReserveRow.{ReserveRow}
use Rattle.sect_command.specs.declared.command.RestrictRow.{RestrictRow}
use Rattle.sect_command.specs.declared.command.Command.{Command}
use Rattle.sect_command.specs.declared.command.Command.TheVariants as commands
use Rattle.sect_words.specs.Days.{day_text}
use Rattle.sect_words.specs.Words.{list_text, optional_text, limit_text, course_text, section_text, student_text}
use Rattle.sect_text.specs.Commands.{section_words, subpart_words, config_words, course_words, offering_words, group_words, curriculum_words, student_words, mark_words, ask_words, config_id_words, section_id_words, from_words, reserve_words, restrict_words, cap_words, stated_words, only_words, printed_want, give_words, optional_give_words, take_words, budget_words, class_words, command_words}
use Rattle.sect_read.specs.Fits.{Fits64, FitsDay, FitsList, FitsOptional, FitsSectionRow, FitsSubpartRow, FitsConfigRow, FitsCourseRow, FitsOfferingRow, FitsStudentRow, FitsAsk, FitsReserveRow, FitsRestrictRow, FitsCap, FitsStated, FitsWant, FitsCommand, FitsCourse, FitsConfig, FitsSection}
use Rattle.sect_read.proofs.PartLaws.{ComesApart, lacks_list, lacks_optional}
use Rattle.sect_read.proofs.WordSpaces.{Word, Words, audience_word, curriculum_word, day_word, key, limit_word, meeting_word, number, small, words_apart, words_append, words_each}

section_row_words : (s : SectionRow) → FitsSectionRow s → Words (section_words s)
section_row_words s fits = (
  key (codes "section") refl,
  (
    small s.id.0 fits.0,
    (
      limit_word s.limit fits.1,
      (
        lacks_optional 32 section_text refl (λ p f. small p.0 f) s.parent fits.2,
        (lacks_list 32 meeting_text refl refl (λ m f. meeting_word m) s.meetings fits.3, tt),
      ),
    ),
  ),
)

subpart_row_words : (p : SubpartRow) → FitsSubpartRow p → Words (subpart_words p)
subpart_row_words p fits = (key (codes "subpart") refl, (small p.id.0 fits.0, words_each section_words section_row_words p.sections fits.1))

config_row_words : (g : ConfigRow) → FitsConfigRow g → Words (config_words g)
config_row_words g fits = (key (codes "config") refl, (small g.id.0 fits.0, (limit_word g.limit fits.1, words_each subpart_words subpart_row_words g.subparts fits.2)))

course_row_words : (c : CourseRow) → FitsCourseRow c → Words (course_words c)
course_row_words c fits = (key (codes "course") refl, (small c.id.0 fits.0, (limit_word c.limit fits.1, (number c.credits (omega (arith, fits.2)), tt))))

offering_row_words : (o : OfferingRow) → FitsOfferingRow o → Words (offering_words o)
offering_row_words o fits = (
  key (codes "offering") refl,
  (
    small o.id.0 fits.0,
    words_append (flat_map course_words o.courses) (flat_map config_words o.configs) (words_each course_words course_row_words o.courses fits.1) (words_each config_words config_row_words o.configs fits.2),
  ),
)

student_row_words : (s : StudentRow) → FitsStudentRow s → Words (student_words s)
student_row_words s fits = (
  key (codes "student") refl,
  (
    small s.id.0 fits.0,
    (
      key (codes "max") refl,
      (
        number s.max_credits (omega (arith, fits.1)),
        words_append (flat_map group_words s.groups) (flat_map curriculum_words s.curricula)
            (words_each group_words (λ g f. (key (codes "group") refl, (small g.0 f, tt))) s.groups fits.2) (words_each curriculum_words (λ c f. (key (codes "curriculum") refl, (curriculum_word c f, tt))) s.curricula fits.3),
      ),
    ),
  ),
)

mark_word : (word : List ℕ) (b : Bool) → Word word → Words (mark_words word b)
mark_word word true w = (w, tt)
mark_word word false w = tt

course_ids : (ids : List CourseId) → FitsList FitsCourse ids → Word (list_text 43 course_text ids)
course_ids ids fits = lacks_list 32 course_text refl refl (λ c f. small c.0 f) ids fits

section_ids : (ids : List SectionId) → FitsList FitsSection ids → Word (list_text 43 section_text ids)
section_ids ids fits = lacks_list 32 section_text refl refl (λ s f. small s.0 f) ids fits

asked_words : (a : Ask) → FitsAsk a → Words (ask_words a)
asked_words (asks.Course a) fits = (
  key (codes "course") refl,
  (
    course_ids a.courses fits,
    words_append (mark_words (codes "wait") a.wait) (mark_words (codes "substitute") a.substitute)
        (mark_word (codes "wait") a.wait (key (codes "wait") refl)) (mark_word (codes "substitute") a.substitute (key (codes "substitute") refl)),
  ),
)
asked_words (asks.Free m) fits = (key (codes "free") refl, (meeting_word m, tt))

configs_words : (ids : List ConfigId) → FitsList FitsConfig ids → Words (flat_map config_id_words ids)
configs_words ids fits = words_each config_id_words (λ g f. (key (codes "config") refl, (small g.0 f, tt))) ids fits

sections_words : (ids : List SectionId) → FitsList FitsSection ids → Words (flat_map section_id_words ids)
sections_words ids fits = words_each section_id_words (λ s f. (key (codes "section") refl, (small s.0 f, tt))) ids fits

first_words : (day : Option ℕ) → FitsOptional FitsDay day → Words (from_words day)
first_words None fits = tt
first_words (Some day) fits = (key (codes "from") refl, (day_word day fits, tt))

day_or_dash : (day : Option ℕ) → FitsOptional FitsDay day → Word (optional_text day_text day)
day_or_dash day fits = lacks_optional 32 day_text refl day_word day fits

reserve_row_words : (r : ReserveRow) → FitsReserveRow r → Words (reserve_words r)
reserve_row_words r fits = (
  key (codes "reserve") refl,
  (
    small r.id.0 fits.0,
    (
      small r.offering.0 fits.1,
      (
        audience_word r.audience fits.2,
        (
          limit_word r.limit fits.3,
          (
            day_or_dash r.expiry fits.4,
            words_append (from_words r.first) _ (first_words r.first fits.5) (words_append (flat_map config_id_words r.configs) _ (configs_words r.configs fits.6) (words_append (flat_map section_id_words r.sections) _ (sections_words r.sections fits.7)
                (words_append (mark_words (codes "over") r.over) _ (mark_word (codes "over") r.over (key (codes "over") refl)) (words_append (mark_words (codes "overlap") r.overlap) (mark_words (codes "must") r.must)
                (mark_word (codes "overlap") r.overlap (key (codes "overlap") refl)) (mark_word (codes "must") r.must (key (codes "must") refl)))))),
          ),
        ),
      ),
    ),
  ),
)

restrict_row_words : (r : RestrictRow) → FitsRestrictRow r → Words (restrict_words r)
restrict_row_words r fits = (
  key (codes "restrict") refl,
  (
    small r.id.0 fits.0,
    (
      small r.offering.0 fits.1,
      (
        audience_word r.audience fits.2,
        words_append (flat_map config_id_words r.configs) (flat_map section_id_words r.sections) (configs_words r.configs fits.3) (sections_words r.sections fits.4),
      ),
    ),
  ),
)

level_words : (cap : Cap) → FitsCap cap → Words (cap_words cap)
level_words (caps.Course id) fits = (key (codes "course") refl, (small id.0 fits, tt))
level_words (caps.Config id) fits = (key (codes "config") refl, (small id.0 fits, tt))
level_words (caps.Section id) fits = (key (codes "section") refl, (small id.0 fits, tt))

if_words : (b : Bool) (xs : List (List ℕ)) → Words xs → Words (if b then xs else [])
if_words true xs w = w
if_words false xs w = tt

number_words : (word : List ℕ) (default n : ℕ) → Word word → Fits64 n → Words (stated_words word default false n)
number_words word default n w fits = if_words (not (n == default)) (word ∷ decimal n ∷ []) (w, (number n fits, tt))

some_only : (ids : List SectionId) → FitsList FitsSection ids → Words (only_words false ids)
some_only [] fits = tt
some_only (id ∷ ids) fits = (key (codes "only") refl, (section_ids (id ∷ ids) fits, tt))

wanted_words : (w : Want) → FitsWant w → Words (printed_want w)
wanted_words w fits = (
  course_ids w.courses fits.0,
  words_append (only_words false w.only) (stated_words (codes "rank") 21 false w.rank) (some_only w.only fits.1)
      (number_words (codes "rank") 21 w.rank (key (codes "rank") refl) (omega (arith, fits.2))),
)

given_words : (id : CourseId) → FitsCourse id → Words (give_words id)
given_words id fits = (key (codes "give") refl, (small id.0 fits, tt))

maybe_given : (id : Option CourseId) → FitsOptional FitsCourse id → Words (optional_give_words id)
maybe_given None fits = tt
maybe_given (Some id) fits = given_words id fits

budget_number : (n : ℕ) → FitsStated 20000 n → Words (budget_words false n)
budget_number n fits = number_words (codes "budget") 2000 n (key (codes "budget") refl) (omega (arith, fits))

-- a printed command is of words without spaces
pub command_spaces : (c : Command) → FitsCommand c → Words (command_words c)
command_spaces (commands.Offering row) fits = offering_row_words row fits
command_spaces (commands.Student row) fits = student_row_words row fits
command_spaces (commands.Requests student asked) fits = (key (codes "requests") refl, (small student.0 fits.0, words_each ask_words asked_words asked fits.1))
command_spaces (commands.Reserve row) fits = reserve_row_words row fits
command_spaces (commands.Unreserve id) fits = (key (codes "unreserve") refl, (small id.0 fits, tt))
command_spaces (commands.Expire id expiry) fits = (key (codes "expire") refl, (small id.0 fits.0, (day_or_dash expiry fits.1, tt)))
command_spaces (commands.Restrict row) fits = restrict_row_words row fits
command_spaces (commands.Unrestrict id) fits = (key (codes "unrestrict") refl, (small id.0 fits, tt))
command_spaces (commands.SetLimit cap limit) fits = (key (codes "limit") refl, words_append (cap_words cap) (limit_text limit ∷ []) (level_words cap fits.0) (limit_word limit fits.1, tt))
command_spaces (commands.Cancel id) fits = (key (codes "cancel") refl, (small id.0 fits, tt))
command_spaces (commands.Enrol student want budget) fits = (key (codes "enrol") refl, (small student.0 fits.0, words_append (printed_want want) (budget_words false budget) (wanted_words want fits.1) (budget_number budget fits.2)))
command_spaces (commands.Drop student course) fits = (key (codes "drop") refl, (small student.0 fits.0, (small course.0 fits.1, tt)))
command_spaces (commands.Swap student given taken budget) fits = (
  key (codes "swap") refl,
  (
    small student.0 fits.0,
    words_append (flat_map give_words given) _ (words_each give_words given_words given fits.1) (words_append (flat_map take_words taken) (budget_words false budget)
        (words_each take_words (λ w f. (key (codes "take") refl, wanted_words w f)) taken fits.2) (budget_number budget fits.3)),
  ),
)
command_spaces (commands.Wait student want give class) fits = (
  key (codes "wait") refl,
  (
    small student.0 fits.0,
    words_append (printed_want want) _ (wanted_words want fits.1) (words_append (optional_give_words give) (class_words false class) (maybe_given give fits.2)
        (number_words (codes "class") 5 class (key (codes "class") refl) (omega (arith, fits.3)))),
  ),
)
command_spaces (commands.Unwait student ticket) fits = (key (codes "unwait") refl, (small student.0 fits.0, (number ticket fits.1, tt)))
command_spaces (commands.Batch students) fits = (key (codes "batch") refl, (lacks_list 32 student_text refl refl (λ s f. small s.0 f) students fits, tt))

-- the words of a printed command are its words
pub command_apart : (x : Command) → FitsCommand x → ComesApart 32 (command_words x)
command_apart (commands.Offering row) fits = words_apart _ _ (command_spaces (commands.Offering row) fits)
command_apart (commands.Student row) fits = words_apart _ _ (command_spaces (commands.Student row) fits)
command_apart (commands.Requests student asked) fits = words_apart _ _ (command_spaces (commands.Requests student asked) fits)
command_apart (commands.Reserve row) fits = words_apart _ _ (command_spaces (commands.Reserve row) fits)
command_apart (commands.Unreserve id) fits = words_apart _ _ (command_spaces (commands.Unreserve id) fits)
command_apart (commands.Expire id expiry) fits = words_apart _ _ (command_spaces (commands.Expire id expiry) fits)
command_apart (commands.Restrict row) fits = words_apart _ _ (command_spaces (commands.Restrict row) fits)
command_apart (commands.Unrestrict id) fits = words_apart _ _ (command_spaces (commands.Unrestrict id) fits)
command_apart (commands.SetLimit cap limit) fits = words_apart _ _ (command_spaces (commands.SetLimit cap limit) fits)
command_apart (commands.Cancel id) fits = words_apart _ _ (command_spaces (commands.Cancel id) fits)
command_apart (commands.Enrol student want budget) fits = words_apart _ _ (command_spaces (commands.Enrol student want budget) fits)
command_apart (commands.Drop student course) fits = words_apart _ _ (command_spaces (commands.Drop student course) fits)
command_apart (commands.Swap student given taken budget) fits = words_apart _ _ (command_spaces (commands.Swap student given taken budget) fits)
command_apart (commands.Wait student want give class) fits = words_apart _ _ (command_spaces (commands.Wait student want give class) fits)
command_apart (commands.Unwait student ticket) fits = words_apart _ _ (command_spaces (commands.Unwait student ticket) fits)
command_apart (commands.Batch students) fits = words_apart _ _ (command_spaces (commands.Batch students) fits)
