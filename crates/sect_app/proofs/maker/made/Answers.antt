use Rattle.sect_machine.specs.Standing.{state_in}
use Rattle.sect_app.specs.declared.maker.Stage.TheVariants as stages
use Rattle.sect_app.specs.Generated.{made_of}
use Rattle.sect_app.specs.Stages.{stage_command, stage_count, tally_in}
use Rattle.sect_app.proofs.Making.{all-made}
use Rattle.sect_app.proofs.maker.made.Goals as goal

pub returns : goal.returns
returns c =
    all-made c.args.day (state_in c.empty.result) (tally_in c.ask_all.new.maker) (tally_in c.ask_all-2.new.maker) (tally_in c.ask_all-3.new.maker)
    (tally_in c.ask_all-4.new.maker)
    (made_of (stage_command stages.Offerings c.args.offerings) (stage_count stages.Offerings c.args.offerings))
    (made_of (stage_command stages.Students c.args.offerings) (stage_count stages.Students c.args.offerings))
    (made_of (stage_command stages.Requests c.args.offerings) (stage_count stages.Requests c.args.offerings))
    (made_of (stage_command stages.Batches c.args.offerings) (stage_count stages.Batches c.args.offerings))
    c.empty.ensures c.in_ok-ask_all.ensures c.in_ok-ask_all-2.ensures c.in_ok-ask_all-3.ensures c.in_ok-ask_all-4.ensures
