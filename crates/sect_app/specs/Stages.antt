-- The generated commands by their kinds.
use Rattle.std.specs.Prelude.{ℕ, ◌+◌, ◌*◌}
use Rattle.sect_command.specs.declared.command.Command.{Command}
use Rattle.sect_machine.specs.Standing.{state_in}
use Rattle.sect_app.specs.declared.maker.Maker.{Maker}
use Rattle.sect_app.specs.declared.maker.Stage.{Stage}
use Rattle.sect_app.specs.declared.maker.Stage.TheVariants as stages
use Rattle.sect_app.specs.Generated.{batch_command, batches, offering_command, requests_command, student_command}
use Rattle.sect_app.specs.Made.{Tally}

-- the command of a kind at a place, from 0, for n offerings
abbrev pub stage_command : Stage → ℕ → ℕ → Command
stage_command stages.Offerings n place = offering_command (place + 1)
stage_command stages.Students n place = student_command (place + 1)
stage_command stages.Requests n place = requests_command n (place + 1)
stage_command stages.Batches n place = batch_command n place

-- how many commands of the kind there are
abbrev pub stage_count : Stage → ℕ → ℕ
stage_count stages.Offerings n = n
stage_count stages.Students n = 20 * n
stage_count stages.Requests n = 20 * n
stage_count stages.Batches n = batches n

-- the state of the maker's machine, with the counts
abbrev pub tally_in : Maker → Tally
tally_in m = record { state = state_in m.machine; met = m.met; blocked = m.blocked; spent = m.spent }
