-- What tells a request and a reply.
use Rattle.std.specs.Prelude.{◌≡◌, ℕ, List}
use Rattle.sect_base.specs.declared.limit.Id.{Id}
use Rattle.sect_command.specs.declared.command.Command.{Command}
use Rattle.sect_command.specs.declared.reply.Reply.{Reply}
use Rattle.sect_text.specs.Replies.{reply_text}
use Rattle.sect_text.specs.Rows.{asked_part, day_part, request_part}

-- the text is that of the request, as it stands in a row
abbrev pub IsRequestText : Id → ℕ → Command → List ℕ → Type 0
IsRequestText id day command text = text ≡ request_part id day command

-- the texts are those of the request's day with a space, and of what stands behind it in a row
abbrev pub IsAskedText : Id → ℕ → Command → List ℕ → List ℕ → Type 0
IsAskedText id day command dated rest = (dated ≡ day_part day) × (rest ≡ asked_part id command)

-- the text is that of the reply
abbrev pub IsReplyText : Reply → List ℕ → Type 0
IsReplyText reply text = text ≡ reply_text reply
