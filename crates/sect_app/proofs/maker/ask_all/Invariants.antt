-- the commands so far were asked
use Rattle.std.proofs.Common.{◌≡◌}
use Rattle.sect_app.specs.Generated.{made_of}
use Rattle.sect_app.specs.Made.{tally_from}
use Rattle.sect_app.specs.Stages.{stage_command, tally_in}
use Rattle.sect_app.proofs.maker.ask_all.Given as goal

abbrev pub invariant-loop-place : goal.invariant-loop-place
invariant-loop-place l = tally_in l.maker ≡ tally_from l.day (tally_in l.initial.maker) (made_of (stage_command l.stage l.offerings) l.place)
