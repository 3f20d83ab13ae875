-- Answers as JSON.
use Rattle.std.specs.Prelude.{ℕ, List, ◌++◌, codes, decimal, ⊤}
use Rattle.json.specs.Print.{quoted}
use Rattle.serde_json.specs.Data.{Data, number, unsigned, string, object, member, no_members}
use Rattle.sect_once.specs.declared.answer.Answer.{Answer}
use Rattle.sect_once.specs.declared.answer.Answer.TheVariants as answers
use Rattle.sect_command.specs.declared.reply.Reply.{Reply}
use Rattle.sect_text.specs.Replies.{reply_text}
use Rattle.sect_read.specs.Fits.{Fits32}

-- the status of an answer
abbrev pub answer_status : Answer Reply → ℕ
answer_status (answers.Done place reply) = 200
answer_status (answers.NumberReused place) = 409
answer_status answers.LogFull = 409
answer_status answers.KeeperFault = 503
answer_status answers.Memory = 507

-- an object that names an error
abbrev pub error_data : List ℕ → Data
error_data word = object (member (codes "error") (string word) no_members)

-- the data of an answer
abbrev pub answer_data : Answer Reply → Data
answer_data (answers.Done place reply) =
    object (member (codes "place") (number (unsigned place)) (member (codes "reply") (string (reply_text reply)) no_members))
answer_data (answers.NumberReused place) =
    object (member (codes "error") (string (codes "reused")) (member (codes "place") (number (unsigned place)) no_members))
answer_data answers.LogFull = error_data (codes "full")
answer_data answers.KeeperFault = error_data (codes "fault")
answer_data answers.Memory = error_data (codes "memory")

-- its text
abbrev pub answer_body : Answer Reply → List ℕ
answer_body (answers.Done place reply) =
    codes "{\"place\":" ++ (decimal place ++ (codes ",\"reply\":" ++ (quoted (reply_text reply) ++ codes "}")))
answer_body (answers.NumberReused place) = codes "{\"error\":\"reused\",\"place\":" ++ (decimal place ++ codes "}")
answer_body answers.LogFull = codes "{\"error\":\"full\"}"
answer_body answers.KeeperFault = codes "{\"error\":\"fault\"}"
answer_body answers.Memory = codes "{\"error\":\"memory\"}"

-- the request acted, or had acted before
abbrev pub IsDone : Answer Reply → Type 0
IsDone (answers.Done place reply) = ⊤
IsDone (answers.NumberReused place) = ⊥
IsDone answers.LogFull = ⊥
IsDone answers.KeeperFault = ⊥
IsDone answers.Memory = ⊥

-- the place that the answer names has 32 bits
abbrev pub FitsPlace : Answer Reply → Type 0
FitsPlace (answers.Done place reply) = Fits32 place
FitsPlace (answers.NumberReused place) = Fits32 place
FitsPlace answers.LogFull = ⊤
FitsPlace answers.KeeperFault = ⊤
FitsPlace answers.Memory = ⊤
