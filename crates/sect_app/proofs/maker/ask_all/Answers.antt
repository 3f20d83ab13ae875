use Rattle.sect_app.specs.Stages.{stage_command, tally_in}
use Rattle.sect_app.proofs.Making.{tally-more}
use Rattle.sect_app.proofs.maker.ask_all.Goals as goal

pub loop-place-preserved : goal.loop-place-preserved
loop-place-preserved c =
    tally-more c.args.day (tally_in c.args.maker.now) (stage_command c.args.stage c.args.offerings) c.loop-place.place (tally_in c.loop-place.maker)
    (tally_in c.ask.new.maker) c.in_ok-command.command c.loop-place.invariant c.in_ok-command.ensures c.in_ok-ask.ensures
