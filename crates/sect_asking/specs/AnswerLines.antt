-- The line that answers a request.
use Rattle.std.specs.Prelude.{ℕ, List, ◌++◌, codes, decimal}
use Rattle.sect_command.specs.declared.reply.Reply.{Reply}
use Rattle.sect_once.specs.declared.answer.Answer.{Answer}
use Rattle.sect_once.specs.declared.answer.Answer.TheVariants as answers
use Rattle.sect_text.specs.Replies.{reply_text}

-- the place and the reply, or a word that says why there is none
abbrev pub answer_line : Answer Reply → List ℕ
answer_line (answers.Done place reply) = decimal place ++ (codes " " ++ (reply_text reply ++ codes "\n"))
answer_line (answers.NumberReused place) = codes "reused " ++ (decimal place ++ codes "\n")
answer_line answers.LogFull = codes "full\n"
answer_line answers.KeeperFault = codes "fault\n"
answer_line answers.Memory = codes "memory\n"
