-- What was counted of a history.
use Rattle.std.specs.Prelude.{◌≡◌, List}
use Rattle.sect_command.specs.declared.command.Command.{Command}
use Rattle.sect_command.specs.declared.reply.Reply.{Reply}
use Rattle.sect_once.specs.declared.entry.Entry.{Entry}
use Rattle.sect_tell.specs.declared.audits.Found.{Found}
use Rattle.sect_tell.specs.Audit.{blocked, verified}
use Rattle.sect_history.specs.Step.{state_of}

-- the counts and the day are those of the history
pub record IsFoundIn (es : List (Entry Command Reply)) (found : Found) : Type 0 where
  pub blocked_is : found.blocked ≡ blocked es
  pub verified_is : found.verified ≡ verified es
  pub day_is : found.day ≡ (state_of es).world.day
