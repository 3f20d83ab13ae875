-- Reading a reply from its words.
use Rattle.std.specs.Prelude.{ℕ, Bool, List, if◌then◌else◌, Option, None, Some, codes, not}
use Rattle.std.specs.Str.{bytes_eq}
use Rattle.sect_base.specs.Tree.{Tree}
use Rattle.sect_catalog.specs.declared.row.CatalogFault.{CatalogFault}
use Rattle.sect_catalog.specs.declared.row.CatalogFault.TheVariants as catalog
use Rattle.sect_people.specs.declared.row.RequestFault.{RequestFault}
use Rattle.sect_people.specs.declared.row.RequestFault.TheVariants as request
use Rattle.sect_reserve.specs.declared.row.ReserveFault.{ReserveFault}
use Rattle.sect_reserve.specs.declared.row.ReserveFault.TheVariants as reserve
use Rattle.sect_command.specs.declared.reply.Reply.{Reply}
use Rattle.sect_command.specs.declared.reply.Reply.TheVariants as replies
use Rattle.sect_command.specs.declared.reply.Line.{Line}
use Rattle.sect_command.specs.declared.reply.LineResult.{LineResult}
use Rattle.sect_command.specs.declared.reply.LineResult.TheVariants as results
use Rattle.sect_command.specs.declared.reply.Refusal.{Refusal}
use Rattle.sect_command.specs.declared.reply.Refusal.TheVariants as refusals
use Rattle.sect_command.specs.declared.reply.RowFault.{RowFault}
use Rattle.sect_command.specs.declared.reply.RowFault.TheVariants as faults
use Rattle.sect_read.specs.declared.request.Request.{Request}
use Rattle.sect_words.specs.Parts.{pieces}
use Rattle.sect_words.specs.Reading.{◌>>=◌, any_word, word_at, each_at, begins, later_parts, is_nil, whole}
use Rattle.sect_words.specs.ReadingWords.{u8_of, u32_of, u64_of, course_of, student_id, choice_of, tree_of_word}

-- a value that is made of the next word
abbrev pub made_at : {X Y : Type 0} → (X → Y) → (List ℕ → Option X) → List (List ℕ) → Option (Y × List (List ℕ))
made_at make of parts = word_at of parts >>= λ x. Some (make x.0, x.1)

-- the fault of an offering's row with this name
unfoldable pub catalog_fault_named : List ℕ → List (List ℕ) → Option (CatalogFault × List (List ℕ))
catalog_fault_named name parts =
    if bytes_eq name (codes "Known") then made_at catalog.Known u32_of parts else
    (if bytes_eq name (codes "NoCourse") then Some (catalog.NoCourse, parts) else
    (if bytes_eq name (codes "NoConfig") then Some (catalog.NoConfig, parts) else
    (if bytes_eq name (codes "NoSubpart") then made_at catalog.NoSubpart u32_of parts else
    (if bytes_eq name (codes "NoSection") then made_at catalog.NoSection u32_of parts else
    (if bytes_eq name (codes "BadParent") then made_at catalog.BadParent u32_of parts else
    (if bytes_eq name (codes "TooMany") then made_at catalog.TooMany u32_of parts else None))))))

-- the fault of requests with this name
unfoldable pub request_fault_named : List ℕ → List (List ℕ) → Option (RequestFault × List (List ℕ))
request_fault_named name parts =
    if bytes_eq name (codes "UnknownCourse") then made_at request.UnknownCourse u32_of parts else
    (if bytes_eq name (codes "Twice") then made_at request.Twice u32_of parts else
    (if bytes_eq name (codes "TooMany") then made_at request.TooMany u32_of parts else None))

-- the fault of a reservation's row with this name
unfoldable pub reserve_fault_named : List ℕ → List (List ℕ) → Option (ReserveFault × List (List ℕ))
reserve_fault_named name parts =
    if bytes_eq name (codes "Known") then made_at reserve.Known u32_of parts else
    (if bytes_eq name (codes "Foreign") then made_at reserve.Foreign u32_of parts else
    (if bytes_eq name (codes "NoGroup") then Some (reserve.NoGroup, parts) else
    (if bytes_eq name (codes "TooMany") then made_at reserve.TooMany u32_of parts else None)))

unfoldable pub offering_fault_at : List (List ℕ) → Option (RowFault × List (List ℕ))
offering_fault_at parts = do
  name ← word_at any_word parts
  fault ← catalog_fault_named name.0 name.1
  Some (faults.Offering fault.0, fault.1)

unfoldable pub asked_fault_at : List (List ℕ) → Option (RowFault × List (List ℕ))
asked_fault_at parts = do
  name ← word_at any_word parts
  fault ← request_fault_named name.0 name.1
  Some (faults.Request fault.0, fault.1)

unfoldable pub reserved_fault_at : List (List ℕ) → Option (RowFault × List (List ℕ))
reserved_fault_at parts = do
  name ← word_at any_word parts
  fault ← reserve_fault_named name.0 name.1
  Some (faults.Reserve fault.0, fault.1)

-- the kind of the row, and its fault
unfoldable pub row_fault_at : List (List ℕ) → Option (RowFault × List (List ℕ))
row_fault_at parts =
    if begins (codes "offering") parts then offering_fault_at (later_parts parts) else
    (if begins (codes "request") parts then asked_fault_at (later_parts parts) else
    (if begins (codes "reserve") parts then reserved_fault_at (later_parts parts) else None))

unfoldable pub row_refusal_at : List (List ℕ) → Option (Refusal × List (List ℕ))
row_refusal_at parts = do
  fault ← row_fault_at parts
  Some (refusals.Row fault.0, fault.1)

-- the refusal with this name
unfoldable pub refusal_named : List ℕ → List (List ℕ) → Option (Refusal × List (List ℕ))
refusal_named name parts =
    if bytes_eq name (codes "NotYours") then Some (refusals.NotYours, parts) else
    (if bytes_eq name (codes "Unknown") then made_at refusals.Unknown u32_of parts else
    (if bytes_eq name (codes "EmptyWant") then Some (refusals.EmptyWant, parts) else
    (if bytes_eq name (codes "TooMany") then made_at refusals.TooMany u32_of parts else
    (if bytes_eq name (codes "NotEnrolled") then made_at refusals.NotEnrolled course_of parts else
    (if bytes_eq name (codes "WaitingAlready") then made_at refusals.WaitingAlready u64_of parts else
    (if bytes_eq name (codes "NotWaiting") then Some (refusals.NotWaiting, parts) else
    (if bytes_eq name (codes "LimitBelow") then made_at refusals.LimitBelow u32_of parts else
    (if bytes_eq name (codes "InUse") then made_at refusals.InUse u32_of parts else
    (if bytes_eq name (codes "Row") then row_refusal_at parts else None)))))))))

unfoldable pub refusal_at : List (List ℕ) → Option (Refusal × List (List ℕ))
refusal_at parts = do
  name ← word_at any_word parts
  refusal_named name.0 name.1

-- how many decisions were visited, and the tree
unfoldable pub blocked_at : List (List ℕ) → Option ((ℕ × Tree) × List (List ℕ))
blocked_at parts = do
  visits ← word_at u32_of parts
  tree ← word_at tree_of_word visits.1
  Some ((visits.0, tree.0), tree.1)

unfoldable pub blocked_result_at : List (List ℕ) → Option (LineResult × List (List ℕ))
blocked_result_at parts = do
  blocked ← blocked_at parts
  Some (results.Blocked blocked.0.0 blocked.0.1, blocked.1)

-- what became of a course request, by its first word
unfoldable pub result_named : List ℕ → List (List ℕ) → Option (LineResult × List (List ℕ))
result_named name parts =
    if bytes_eq name (codes "met") then made_at results.Met choice_of parts else
    (if bytes_eq name (codes "held") then made_at results.Held course_of parts else
    (if bytes_eq name (codes "blocked") then blocked_result_at parts else
    (if bytes_eq name (codes "spent") then Some (results.Spent, parts) else
    (if bytes_eq name (codes "waiting") then made_at results.Waiting u64_of parts else
    (if bytes_eq name (codes "skipped") then Some (results.Skipped, parts) else None)))))

unfoldable pub result_at : List (List ℕ) → Option (LineResult × List (List ℕ))
result_at parts = do
  name ← word_at any_word parts
  result_named name.0 name.1

unfoldable pub request_at : List (List ℕ) → Option (Request × List (List ℕ))
request_at parts = do
  student ← word_at u32_of parts
  rank ← word_at u8_of student.1
  Some (record { student = student.0; rank = rank.0 }, rank.1)

-- `STUDENT.RANK`
abbrev pub request_of : List ℕ → Option Request
request_of word = whole (request_at (pieces 46 word))

-- there is another word
abbrev pub any_starts : List (List ℕ) → Bool
any_starts parts = not (is_nil parts)

unfoldable pub line_at : List (List ℕ) → Option (Line × List (List ℕ))
line_at parts = do
  request ← word_at request_of parts
  became ← result_at request.1
  Some (record { student = student_id request.0.student; rank = request.0.rank; result = became.0 }, became.1)

unfoldable pub swapped_at : List (List ℕ) → Option (Reply × List (List ℕ))
swapped_at parts = do
  choices ← each_at any_starts (word_at choice_of) parts
  Some (replies.Swapped choices.0, choices.1)

unfoldable pub placed_at : List (List ℕ) → Option (Reply × List (List ℕ))
placed_at parts = do
  ticket ← word_at u64_of parts
  choice ← word_at choice_of ticket.1
  Some (replies.Placed ticket.0 choice.0, choice.1)

unfoldable pub batched_at : List (List ℕ) → Option (Reply × List (List ℕ))
batched_at parts = do
  lines ← each_at any_starts line_at parts
  Some (replies.Batched lines.0, lines.1)

unfoldable pub blocked_reply_at : List (List ℕ) → Option (Reply × List (List ℕ))
blocked_reply_at parts = do
  blocked ← blocked_at parts
  Some (replies.Blocked blocked.0.0 blocked.0.1, blocked.1)

unfoldable pub refused_at : List (List ℕ) → Option (Reply × List (List ℕ))
refused_at parts = do
  refusal ← refusal_at parts
  Some (replies.Refused refusal.0, refusal.1)

-- the reply with this first word
unfoldable pub reply_named : List ℕ → List (List ℕ) → Option (Reply × List (List ℕ))
reply_named name parts =
    if bytes_eq name (codes "amended") then Some (replies.Amended, parts) else
    (if bytes_eq name (codes "enrolled") then made_at replies.Enrolled choice_of parts else
    (if bytes_eq name (codes "dropped") then made_at replies.Dropped course_of parts else
    (if bytes_eq name (codes "swapped") then swapped_at parts else
    (if bytes_eq name (codes "waiting") then made_at replies.Waiting u64_of parts else
    (if bytes_eq name (codes "placed") then placed_at parts else
    (if bytes_eq name (codes "batched") then batched_at parts else
    (if bytes_eq name (codes "blocked") then blocked_reply_at parts else
    (if bytes_eq name (codes "spent") then made_at replies.Spent u32_of parts else
    (if bytes_eq name (codes "refused") then refused_at parts else None)))))))))

unfoldable pub reply_at : List (List ℕ) → Option (Reply × List (List ℕ))
reply_at parts = do
  name ← word_at any_word parts
  reply_named name.0 name.1

-- the reply of a text
abbrev pub reply_of : List ℕ → Option Reply
reply_of text = whole (reply_at (pieces 32 text))
