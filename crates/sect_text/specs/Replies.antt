-- The words of a reply.
use Rattle.std.specs.Prelude.{◌≡◌, ℕ, ◌≤◌, ◌-◌, Bool, true, false, not, List, [], ◌∷◌, ◌++◌, flat_map, codes, decimal, length, take}
use Rattle.std.specs.List.{list_all}
use Rattle.sect_base.specs.declared.choice.Choice.{Choice}
use Rattle.sect_catalog.specs.declared.row.CatalogFault.{CatalogFault}
use Rattle.sect_catalog.specs.declared.row.CatalogFault.TheVariants as catalog
use Rattle.sect_people.specs.declared.row.RequestFault.{RequestFault}
use Rattle.sect_people.specs.declared.row.RequestFault.TheVariants as request
use Rattle.sect_reserve.specs.declared.row.ReserveFault.{ReserveFault}
use Rattle.sect_reserve.specs.declared.row.ReserveFault.TheVariants as reserve
use Rattle.sect_command.specs.TreeText.{tree_text}
use Rattle.sect_command.specs.declared.reply.Reply.{Reply}
use Rattle.sect_command.specs.declared.reply.Reply.TheVariants as replies
use Rattle.sect_command.specs.declared.reply.Line.{Line}
use Rattle.sect_command.specs.declared.reply.LineResult.{LineResult}
use Rattle.sect_command.specs.declared.reply.LineResult.TheVariants as results
use Rattle.sect_command.specs.declared.reply.Refusal.{Refusal}
use Rattle.sect_command.specs.declared.reply.Refusal.TheVariants as refusals
use Rattle.sect_command.specs.declared.reply.RowFault.{RowFault}
use Rattle.sect_command.specs.declared.reply.RowFault.TheVariants as faults
use Rattle.sect_words.specs.Parts.{behind, joined, sentence}
use Rattle.sect_words.specs.Words.{choice_text}

-- the fault of an offering's row: its name, and its number where it has one
abbrev pub catalog_fault_words : CatalogFault → List (List ℕ)
catalog_fault_words (catalog.Known n) = codes "Known" ∷ decimal n ∷ []
catalog_fault_words catalog.NoCourse = codes "NoCourse" ∷ []
catalog_fault_words catalog.NoConfig = codes "NoConfig" ∷ []
catalog_fault_words (catalog.NoSubpart n) = codes "NoSubpart" ∷ decimal n ∷ []
catalog_fault_words (catalog.NoSection n) = codes "NoSection" ∷ decimal n ∷ []
catalog_fault_words (catalog.BadParent n) = codes "BadParent" ∷ decimal n ∷ []
catalog_fault_words (catalog.TooMany n) = codes "TooMany" ∷ decimal n ∷ []

-- the fault of requests
abbrev pub request_fault_words : RequestFault → List (List ℕ)
request_fault_words (request.UnknownCourse n) = codes "UnknownCourse" ∷ decimal n ∷ []
request_fault_words (request.Twice n) = codes "Twice" ∷ decimal n ∷ []
request_fault_words (request.TooMany n) = codes "TooMany" ∷ decimal n ∷ []

-- the fault of a reservation's or a restriction's row
abbrev pub reserve_fault_words : ReserveFault → List (List ℕ)
reserve_fault_words (reserve.Known n) = codes "Known" ∷ decimal n ∷ []
reserve_fault_words (reserve.Foreign n) = codes "Foreign" ∷ decimal n ∷ []
reserve_fault_words reserve.NoGroup = codes "NoGroup" ∷ []
reserve_fault_words (reserve.TooMany n) = codes "TooMany" ∷ decimal n ∷ []

-- the kind of the row, and its fault
abbrev pub row_fault_words : RowFault → List (List ℕ)
row_fault_words (faults.Offering fault) = codes "offering" ∷ catalog_fault_words fault
row_fault_words (faults.Request fault) = codes "request" ∷ request_fault_words fault
row_fault_words (faults.Reserve fault) = codes "reserve" ∷ reserve_fault_words fault

-- the name of the refusal, and its number where it has one
abbrev pub refusal_words : Refusal → List (List ℕ)
refusal_words refusals.NotYours = codes "NotYours" ∷ []
refusal_words (refusals.Unknown n) = codes "Unknown" ∷ decimal n ∷ []
refusal_words refusals.EmptyWant = codes "EmptyWant" ∷ []
refusal_words (refusals.TooMany n) = codes "TooMany" ∷ decimal n ∷ []
refusal_words (refusals.NotEnrolled course) = codes "NotEnrolled" ∷ decimal course.0 ∷ []
refusal_words (refusals.WaitingAlready ticket) = codes "WaitingAlready" ∷ decimal ticket ∷ []
refusal_words refusals.NotWaiting = codes "NotWaiting" ∷ []
refusal_words (refusals.LimitBelow n) = codes "LimitBelow" ∷ decimal n ∷ []
refusal_words (refusals.InUse n) = codes "InUse" ∷ decimal n ∷ []
refusal_words (refusals.Row fault) = codes "Row" ∷ row_fault_words fault

-- what became of a course request
abbrev pub result_words : LineResult → List (List ℕ)
result_words (results.Met choice) = codes "met" ∷ choice_text choice ∷ []
result_words (results.Held course) = codes "held" ∷ decimal course.0 ∷ []
result_words (results.Blocked visits tree) = codes "blocked" ∷ decimal visits ∷ tree_text tree ∷ []
result_words results.Spent = codes "spent" ∷ []
result_words (results.Waiting ticket) = codes "waiting" ∷ decimal ticket ∷ []
result_words results.Skipped = codes "skipped" ∷ []

-- `STUDENT.RANK RESULT`
abbrev pub line_words : Line → List (List ℕ)
line_words l = joined 46 (decimal l.student.0 ∷ decimal l.rank ∷ []) ∷ result_words l.result

-- what became of a course request, behind a space, with each word up to the tree and the space before that
abbrev pub result_front : LineResult → List ℕ
result_front (results.Met choice) = behind 32 (result_words (results.Met choice))
result_front (results.Held course) = behind 32 (result_words (results.Held course))
result_front (results.Blocked visits tree) = behind 32 (codes "blocked" ∷ decimal visits ∷ [] ∷ [])
result_front results.Spent = behind 32 (result_words results.Spent)
result_front (results.Waiting ticket) = behind 32 (result_words (results.Waiting ticket))
result_front results.Skipped = behind 32 (result_words results.Skipped)

-- whether what became of a course request ends in a tree
abbrev pub ends_in_tree : LineResult → Bool
ends_in_tree (results.Met choice) = false
ends_in_tree (results.Held course) = false
ends_in_tree (results.Blocked visits tree) = true
ends_in_tree results.Spent = false
ends_in_tree (results.Waiting ticket) = false
ends_in_tree results.Skipped = false

-- the tree that it ends in, or nothing
abbrev pub tree_rest : LineResult → List ℕ
tree_rest (results.Met choice) = []
tree_rest (results.Held course) = []
tree_rest (results.Blocked visits tree) = tree_text tree
tree_rest results.Spent = []
tree_rest (results.Waiting ticket) = []
tree_rest results.Skipped = []

-- a line behind a space, up to its tree
abbrev pub line_front : Line → List ℕ
line_front l = (32 ∷ decimal l.student.0) ++ ((46 ∷ decimal l.rank) ++ result_front l.result)

-- the line ends in no tree
abbrev pub is_plain : Line → Bool
is_plain l = not (ends_in_tree l.result)

-- so many of the lines are appended in one piece: one or more, seven at most, and each but the last ends in no tree
pub record IsPiece (lines : List Line) (n : ℕ) : Type 0 where
  pub some : 1 ≤ n
  pub within : n ≤ length lines
  pub few : n ≤ 7
  pub plain : list_all is_plain (take (n - 1) lines) ≡ true

-- a choice alone
abbrev pub choice_words : Choice → List (List ℕ)
choice_words c = choice_text c ∷ []

-- the words of a reply
abbrev pub reply_words : Reply → List (List ℕ)
reply_words replies.Amended = codes "amended" ∷ []
reply_words (replies.Enrolled choice) = codes "enrolled" ∷ choice_text choice ∷ []
reply_words (replies.Dropped course) = codes "dropped" ∷ decimal course.0 ∷ []
reply_words (replies.Swapped choices) = codes "swapped" ∷ flat_map choice_words choices
reply_words (replies.Waiting ticket) = codes "waiting" ∷ decimal ticket ∷ []
reply_words (replies.Placed ticket choice) = codes "placed" ∷ decimal ticket ∷ choice_text choice ∷ []
reply_words (replies.Batched lines) = codes "batched" ∷ flat_map line_words lines
reply_words (replies.Blocked visits tree) = codes "blocked" ∷ decimal visits ∷ tree_text tree ∷ []
reply_words (replies.Spent budget) = codes "spent" ∷ decimal budget ∷ []
reply_words (replies.Refused refusal) = codes "refused" ∷ refusal_words refusal

-- the text of a reply
abbrev pub reply_text : Reply → List ℕ
reply_text r = sentence (reply_words r)
