-- What a request asks for, by its method, its target and its body.
use Rattle.std.specs.Prelude.{◌≡◌, ℕ, List, [], if◌then◌else◌, Option, None, Some, Result, Ok, Err, unwrap_or, ⊤}
use Rattle.std.specs.Str.{bytes_eq}
use Rattle.sect_base.specs.declared.limit.Id.{Id}
use Rattle.sect_command.specs.declared.command.Command.{Command}
use Rattle.sect_wire.specs.Bodies.{command_of}
use Rattle.sect_talk.specs.Pages.{method_text}
use Rattle.sect_talk.specs.declared.page.Method.TheVariants.{Get, Post}
use Rattle.sect_read.specs.Fits.{FitsCommand, FitsDay, FitsId}
use Rattle.sect_answer.specs.Targets.{IsTarget}
use Rattle.sect_answer.specs.declared.target.Target.{Target}
use Rattle.sect_answer.specs.declared.target.Target.TheVariants.{Ask, Look}
use Rattle.sect_words.specs.Parts.{pieces}
use Rattle.sect_words.specs.Reading.{first_part}
use Rattle.sect_answer.specs.declared.errand.Errand.{Errand}
use Rattle.sect_answer.specs.declared.errand.Errand.TheVariants.{NoRoute, OtherMethod, NoCommand, Asks, Looks}

-- the bytes of a target before its first question mark, or all of them
abbrev pub path_of : List ℕ → List ℕ
path_of target = unwrap_or (first_part (pieces 63 target)) []

-- the path is this target's, or no target's
abbrev pub HasTarget : List ℕ → Option Target → Type 0
HasTarget path None = (t : Target) → IsTarget path t → ⊥
HasTarget path (Some t) = IsTarget path t

-- the command that the body says is asked under this id, where it says one
abbrev pub asks_with : Id → Result Command ℕ → Errand
asks_with id (Ok command) = Asks id command
asks_with id (Err n) = NoCommand

-- what is asked for, by the method, the command of the body and the target
abbrev pub errand_for : List ℕ → Result Command ℕ → Option Target → Errand
errand_for method said None = NoRoute
errand_for method said (Some (Ask id)) = if bytes_eq method (method_text Post) then asks_with id said else OtherMethod Post
errand_for method said (Some (Look query)) = if bytes_eq method (method_text Get) then Looks query else OtherMethod Get

-- this is what the request asks for
pub record IsErrand (method target body : List ℕ) (errand : Errand) : Type 0 where
  pub at : Option Target
  pub has_target : HasTarget (path_of target) at
  pub errand_is : errand ≡ errand_for method (command_of body) at

-- the id and the command of what is asked have texts
abbrev pub FitsErrand : Errand → Type 0
FitsErrand NoRoute = ⊤
FitsErrand (OtherMethod method) = ⊤
FitsErrand NoCommand = ⊤
FitsErrand (Asks id command) = FitsId id × FitsCommand command
FitsErrand (Looks query) = ⊤

-- what is asked may be asked on each day that has a text
abbrev pub MayDo : (Id → ℕ → Command → Type 0) → Errand → Type 0
MayDo may_ask NoRoute = ⊤
MayDo may_ask (OtherMethod method) = ⊤
MayDo may_ask NoCommand = ⊤
MayDo may_ask (Asks id command) = (day : ℕ) → FitsDay day → may_ask id day command
MayDo may_ask (Looks query) = ⊤
