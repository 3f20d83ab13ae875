-- How far the words of a line go as those of a request.
use Rattle.std.specs.Prelude.{◌≡◌, ◌↔◌, ℕ, zero, suc, ◌+◌, ◌||◌, Bool, List, [], ◌∷◌, length, if◌then◌else◌, Option, None, Some, Result, Ok, Err, codes}
use Rattle.sect_read.specs.declared.line.LineAsk.{LineAsk}
use Rattle.sect_read.specs.Lines.{IsLine}
use Rattle.sect_read.specs.ReadingCommands.{take_starts}
use Rattle.sect_read.specs.ReadingLines.{at_of}
use Rattle.sect_read.specs.ReadingRows.{ask_starts, config_starts, course_starts, curriculum_starts, give_starts, group_starts, section_starts, subpart_starts}
use Rattle.sect_words.specs.Parts.{pieces}
use Rattle.sect_words.specs.Reading.{begins, later_parts, mark_at}
use Rattle.sect_check.specs.declared.form.Form.{Form}
use Rattle.sect_check.specs.declared.form.Form.TheVariants as forms
use Rattle.sect_check.specs.declared.form.Halt.{Halt}
use Rattle.sect_check.specs.declared.form.Halt.TheVariants as halts
use Rattle.sect_read.specs.declared.verb.Verb.{Verb}
use Rattle.sect_read.specs.declared.verb.Verb.TheVariants as verbs
use Rattle.sect_read.specs.ReadingCommands.{verb_of}
use Rattle.sect_check.specs.Fits.{fits}

-- the words behind those that were passed, or those from the first that has not the form that is expected there
pub data Walk : Type 0 where
  passed : List (List ℕ) → Walk
  stopped : List (List ℕ) → Form → Walk

-- a walk that goes on with the words that are left
abbrev pub walk_on : Walk → (List (List ℕ) → Walk) → Walk
walk_on (passed rest) next = next rest
walk_on (stopped rest form) next = stopped rest form

infixl 10 ◌>>=◌
-- the same, between the steps of a walk
abbrev pub ◌>>=◌ : Walk → (List (List ℕ) → Walk) → Walk
walk >>= next = walk_on walk next

-- what was returned, with the words that are left, is this walk, unless memory ran out
abbrev pub Walks : Result (Unit {0}) Halt → List (List ℕ) → Walk → Type 0
Walks (Ok _) rest walk = walk ≡ passed rest
Walks (Err (halts.Bad form)) rest walk = walk ≡ stopped rest form
Walks (Err halts.Memory) rest walk = Unit {0}

-- a word of this form
unfoldable pub word_walk : Form → List (List ℕ) → Walk
word_walk form [] = stopped [] form
word_walk form (word ∷ words) = if fits form word then passed words else stopped (word ∷ words) form

-- a word, which stands for this form
unfoldable pub key_walk : List ℕ → Form → List (List ℕ) → Walk
key_walk key form words = if begins key words then passed (later_parts words) else stopped words form

-- a word of this form behind a key, where the key stands there
unfoldable pub option_walk : List ℕ → Form → List (List ℕ) → Walk
option_walk key form words = if begins key words then word_walk form (later_parts words) else passed words

-- the words behind a mark, where it stands there
abbrev pub behind_mark : List ℕ → List (List ℕ) → List (List ℕ)
behind_mark key words = (mark_at key words).1

-- so many groups at most, as long as another one starts
abbrev pub some_walk : (List (List ℕ) → Bool) → (List (List ℕ) → Walk) → ℕ → List (List ℕ) → Walk
some_walk starts walk zero words = stopped words forms.Command
some_walk starts walk (suc n) words = if starts words then (walk words >>= λ rest. some_walk starts walk n rest) else passed words

-- groups in a row, as long as another one starts
abbrev pub each_walk : (List (List ℕ) → Bool) → (List (List ℕ) → Walk) → List (List ℕ) → Walk
each_walk starts walk words = some_walk starts walk (length words + 1) words

-- a key, and a word of this form
abbrev pub pair_walk : Form → List (List ℕ) → Walk
pair_walk form words = word_walk form (later_parts words)

-- `section ID LIMIT PARENT MEETINGS`
unfoldable pub section_walk : List (List ℕ) → Walk
section_walk words = do
  id ← word_walk forms.Id (later_parts words)
  limit ← word_walk forms.Limit id
  parent ← word_walk forms.OptionalId limit
  word_walk forms.Meetings parent

-- `subpart ID` and its sections
unfoldable pub subpart_walk : List (List ℕ) → Walk
subpart_walk words = do
  id ← word_walk forms.Id (later_parts words)
  each_walk section_starts section_walk id

-- `config ID LIMIT` and its subparts
unfoldable pub config_walk : List (List ℕ) → Walk
config_walk words = do
  id ← word_walk forms.Id (later_parts words)
  limit ← word_walk forms.Limit id
  each_walk subpart_starts subpart_walk limit

-- `course ID LIMIT CREDITS`
unfoldable pub course_walk : List (List ℕ) → Walk
course_walk words = do
  id ← word_walk forms.Id (later_parts words)
  limit ← word_walk forms.Limit id
  word_walk forms.Credits limit

-- `course IDS [wait] [substitute]`
unfoldable pub course_ask_walk : List (List ℕ) → Walk
course_ask_walk words = do
  courses ← word_walk forms.Ids (later_parts words)
  passed (behind_mark (codes "substitute") (behind_mark (codes "wait") courses))

-- a request for courses, or a free time
unfoldable pub ask_walk : List (List ℕ) → Walk
ask_walk words = if begins (codes "course") words then course_ask_walk words else pair_walk forms.Meeting words

-- `IDS [only IDS] [rank N]`
unfoldable pub want_walk : List (List ℕ) → Walk
want_walk words = do
  courses ← word_walk forms.Ids words
  only ← option_walk (codes "only") forms.Ids courses
  option_walk (codes "rank") (forms.UpTo 21) only

-- `take WANT`
abbrev pub take_walk : List (List ℕ) → Walk
take_walk words = want_walk (later_parts words)

-- `[budget N]`
abbrev pub budget_walk : List (List ℕ) → Walk
budget_walk words = option_walk (codes "budget") (forms.UpTo 20000) words

-- behind `offering`
unfoldable pub offering_walk : List (List ℕ) → Walk
offering_walk words = do
  id ← word_walk forms.Id words
  courses ← each_walk course_starts course_walk id
  each_walk config_starts config_walk courses

-- behind `student`
unfoldable pub student_walk : List (List ℕ) → Walk
student_walk words = do
  id ← word_walk forms.Id words
  key ← key_walk (codes "max") forms.Max id
  most ← word_walk forms.MostCredits key
  groups ← each_walk group_starts (pair_walk forms.Id) most
  each_walk curriculum_starts (pair_walk forms.Curriculum) groups

-- behind `requests`
unfoldable pub requests_walk : List (List ℕ) → Walk
requests_walk words = do
  student ← word_walk forms.Id words
  each_walk ask_starts ask_walk student

-- behind `reserve`
unfoldable pub reserve_walk : List (List ℕ) → Walk
reserve_walk words = do
  id ← word_walk forms.Id words
  offering ← word_walk forms.Id id
  audience ← word_walk forms.Audience offering
  limit ← word_walk forms.Limit audience
  expiry ← word_walk forms.OptionalDay limit
  first ← option_walk (codes "from") forms.Day expiry
  configs ← each_walk config_starts (pair_walk forms.Id) first
  sections ← each_walk section_starts (pair_walk forms.Id) configs
  passed (behind_mark (codes "must") (behind_mark (codes "overlap") (behind_mark (codes "over") sections)))

-- behind `expire`
unfoldable pub expire_walk : List (List ℕ) → Walk
expire_walk words = do
  id ← word_walk forms.Id words
  word_walk forms.OptionalDay id

-- behind `restrict`
unfoldable pub restrict_walk : List (List ℕ) → Walk
restrict_walk words = do
  id ← word_walk forms.Id words
  offering ← word_walk forms.Id id
  audience ← word_walk forms.Audience offering
  configs ← each_walk config_starts (pair_walk forms.Id) audience
  each_walk section_starts (pair_walk forms.Id) configs

-- `course`, `config` or `section`
unfoldable pub level_walk : List (List ℕ) → Walk
level_walk words =
    if begins (codes "course") words || (begins (codes "config") words || begins (codes "section") words) then passed (later_parts words)
    else stopped words forms.Level

-- behind `limit`
unfoldable pub limit_walk : List (List ℕ) → Walk
limit_walk words = do
  level ← level_walk words
  id ← word_walk forms.Id level
  word_walk forms.Limit id

-- behind `enrol`
unfoldable pub enrol_walk : List (List ℕ) → Walk
enrol_walk words = do
  student ← word_walk forms.Id words
  want ← want_walk student
  budget_walk want

-- behind `drop`
unfoldable pub drop_walk : List (List ℕ) → Walk
drop_walk words = do
  student ← word_walk forms.Id words
  word_walk forms.Id student

-- behind `swap`
unfoldable pub swap_walk : List (List ℕ) → Walk
swap_walk words = do
  student ← word_walk forms.Id words
  given ← each_walk give_starts (pair_walk forms.Id) student
  taken ← each_walk take_starts take_walk given
  budget_walk taken

-- behind `wait`
unfoldable pub wait_walk : List (List ℕ) → Walk
wait_walk words = do
  student ← word_walk forms.Id words
  want ← want_walk student
  give ← option_walk (codes "give") forms.Id want
  option_walk (codes "class") (forms.UpTo 9) give

-- behind `unwait`
unfoldable pub unwait_walk : List (List ℕ) → Walk
unwait_walk words = do
  student ← word_walk forms.Id words
  word_walk forms.Number student

-- what stands behind the word of this command
unfoldable pub arguments_walk : Verb → List (List ℕ) → Walk
arguments_walk verbs.Offering words = offering_walk words
arguments_walk verbs.Student words = student_walk words
arguments_walk verbs.Requests words = requests_walk words
arguments_walk verbs.Reserve words = reserve_walk words
arguments_walk verbs.Unreserve words = word_walk forms.Id words
arguments_walk verbs.Expire words = expire_walk words
arguments_walk verbs.Restrict words = restrict_walk words
arguments_walk verbs.Unrestrict words = word_walk forms.Id words
arguments_walk verbs.Limit words = limit_walk words
arguments_walk verbs.Cancel words = word_walk forms.Id words
arguments_walk verbs.Enrol words = enrol_walk words
arguments_walk verbs.Drop words = drop_walk words
arguments_walk verbs.Swap words = swap_walk words
arguments_walk verbs.Wait words = wait_walk words
arguments_walk verbs.Unwait words = unwait_walk words
arguments_walk verbs.Batch words = word_walk forms.Ids words

-- nothing stands behind this command
abbrev pub end_walk : Verb → List (List ℕ) → Walk
end_walk verb [] = passed []
end_walk verb (word ∷ words) = stopped (word ∷ words) (forms.End verb)

-- `@` and a day, where the first word begins with `@`
abbrev pub day_by : Option (List ℕ) → List (List ℕ) → Walk
day_by None words = passed words
day_by (Some text) words = if fits forms.Day text then passed (later_parts words) else stopped words forms.DayMark

-- the day of the line, where it names one
unfoldable pub day_walk : List (List ℕ) → Walk
day_walk words = day_by (at_of words) words

-- the caller and the number behind the day
unfoldable pub front_walk : List (List ℕ) → Walk
front_walk words = do
  day ← day_walk words
  caller ← word_walk forms.Caller day
  word_walk forms.Number caller

-- a command, whose word comes first
abbrev pub verb_walk : Option Verb → List (List ℕ) → Walk
verb_walk None words = stopped words forms.Command
verb_walk (Some verb) words = arguments_walk verb (later_parts words) >>= end_walk verb

-- the command that the first of these words names
abbrev pub verb_at : List (List ℕ) → Option Verb
verb_at [] = None
verb_at (word ∷ words) = verb_of word

-- the words of a request
unfoldable pub request_walk : List (List ℕ) → Walk
request_walk words = do
  front ← front_walk words
  verb_walk (verb_at front) front

-- the words of a line
abbrev pub line_walk : List ℕ → Walk
line_walk line = request_walk (pieces 32 line)

-- the words of a line are passed to its end exactly where it is a request
abbrev pub PassesRequests : Type 0
PassesRequests = (line : List ℕ) → (line_walk line ≡ passed []) ↔ ((ask : LineAsk) × IsLine line ask)
