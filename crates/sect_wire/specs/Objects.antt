-- Which requests an object must take that is asked what texts say, and how it tells its replies.
use Rattle.std.specs.Prelude.{ℕ, List}
use Rattle.sect_base.specs.declared.limit.Id.{Id}
use Rattle.sect_command.specs.declared.command.Command.{Command}
use Rattle.sect_command.specs.declared.reply.Reply.{Reply}
use Rattle.sect_text.specs.ToldRows.{IsAskedText, IsReplyText}
use Rattle.sect_read.specs.Fits.{FitsCommand, FitsDay, FitsId}

-- each request whose id, day and command have texts may be asked
abbrev pub TakesTexts : (Id → ℕ → Command → Type 0) → Type 0
TakesTexts may_ask = (id : Id) (day : ℕ) (command : Command) → FitsId id → FitsDay day → FitsCommand command → may_ask id day command

-- the texts of a request's day and of the rest are those that are asked for
abbrev pub AsksTexts : (Id → ℕ → Command → List ℕ → List ℕ → Type 0) → Type 0
AsksTexts is_asked = (id : Id) (day : ℕ) (command : Command) (dated rest : List ℕ) → IsAskedText id day command dated rest → is_asked id day command dated rest

-- what tells a reply is its text
abbrev pub TellsTexts : (Reply → List ℕ → Type 0) → Type 0
TellsTexts is_told = (reply : Reply) (text : List ℕ) → is_told reply text → IsReplyText reply text
