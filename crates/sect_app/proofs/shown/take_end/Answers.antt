use Rattle.std.proofs.Common.{[], false, true, refl}
use Rattle.sect_app.proofs.Outcomes.{through_done, through_memory}
use Rattle.sect_app.proofs.Pieces.{finished_going, fit_new, shows}
use Rattle.sect_app.proofs.shown.take_end.Goals as goal

pub ask_shown-requires : goal.ask_shown-requires
ask_shown-requires g c =
    fit_new c.each_command_of_a_table_has_a_text.ensures c.args.import.now c.end-told.new.self c.new-given.result.items c.end-told.new.out.items c.new-given.ensures.items c.end-told.ensures.given

pub returns-in-Some-clause-takes : goal.returns-in-Some-clause-takes
returns-in-Some-clause-takes g c = λ table term first taken old read same t.
    let goes = finished_going table term read c.end-told.result c.in-Ok.bad c.args.import.now c.end-told.new.self same c.in-Ok.ensures c.end-told.ensures.after c.end-told.ensures.answer in (
      true,
      c.in-Some.ensures.asked table term first taken old read true
          (shows read true c.args.import.now c.end-told.new.self c.new-given.result.items c.end-told.new.out.items c.open_row.result c.in-Ok.bad t same goes.0
          c.new-given.ensures.items c.end-told.ensures.given c.open_row.ensures goes.1),
    )

pub returns-in-None-clause-takes : goal.returns-in-None-clause-takes
returns-in-None-clause-takes g c = λ table term first taken old read same t.
    let goes = finished_going table term read c.end-told.result c.in-Ok.bad c.args.import.now c.end-told.new.self same c.in-Ok.ensures c.end-told.ensures.after c.end-told.ensures.answer in (
      true,
      through_done (c.in-None.ensures.asked table term first taken old read true
          (shows read true c.args.import.now c.end-told.new.self c.new-given.result.items c.end-told.new.out.items c.open_row.result c.in-Ok.bad t same goes.0
          c.new-given.ensures.items c.end-told.ensures.given c.open_row.ensures goes.1)) refl,
    )

pub returns-in-Err-clause-takes : goal.returns-in-Err-clause-takes
returns-in-Err-clause-takes g c = λ table term first taken old read same t. (false, through_memory t [])
