-- The lines, and then the choice of the last one.
use Rattle.std.proofs.Common.{subst, sym}
use Rattle.sect_model.specs.Batch.{asks_of}
use Rattle.sect_batch.specs.Lines.{ToldOn, ChoiceFits, taking}
use Rattle.sect_batch.proofs.batching.some_lines.Goals as goal

pub enrol-requires-clause-fits : goal.enrol-requires-clause-fits
enrol-requires-clause-fits g c = subst (ChoiceFits c.args.world.now.world c.args.student) c.in-Some.is c.in_ok-stop.ensures.fits

pub returns-in_ok-enrol-in-Some-clause-told : goal.returns-in_ok-enrol-in-Some-clause-told
returns-in_ok-enrol-in-Some-clause-told g c =
    let w = c.args.world.now.world in
    subst (λ v. ToldOn c.args.student (asks_of w c.args.student) w c.args.lines.now c.args.from v c.lines_to_choice.new.lines c.in_ok-stop.stop.place) (sym c.in_ok-enrol-in-Some.ensures.ok)
    (subst (λ o. ToldOn c.args.student (asks_of w c.args.student) w c.args.lines.now c.args.from (taking w c.args.student o) c.lines_to_choice.new.lines c.in_ok-stop.stop.place) c.in-Some.is c.in_ok-stop.ensures.told)

pub returns-in-None-clause-told : goal.returns-in-None-clause-told
returns-in-None-clause-told g c =
    let w = c.args.world.now.world in
    subst (λ o. ToldOn c.args.student (asks_of w c.args.student) w c.args.lines.now c.args.from (taking w c.args.student o) c.lines_to_choice.new.lines c.in_ok-stop.stop.place) c.in-None.is c.in_ok-stop.ensures.told
