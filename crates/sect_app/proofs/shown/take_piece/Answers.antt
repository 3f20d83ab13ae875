use Rattle.std.proofs.Common.{◌++◌, false, refl}
use Rattle.sect_app.specs.Asking.{AnswersNumbered}
use Rattle.sect_app.proofs.Outcomes.{through_memory}
use Rattle.sect_app.proofs.Pieces.{fed_going, fit_new, shows, takes_piece}
use Rattle.sect_app.proofs.shown.take_piece.Goals as goal

pub ask_shown-requires : goal.ask_shown-requires
ask_shown-requires g c =
    fit_new c.each_command_of_a_table_has_a_text.ensures c.args.import.now c.feed-fed.new.self c.new-given.result.items c.feed-fed.new.out.items c.new-given.ensures.items c.feed-fed.ensures.given

pub returns-in-Ok-clause-takes : goal.returns-in-Ok-clause-takes
returns-in-Ok-clause-takes g c = λ table term first taken old read same t.
    let piece = c.args.piece.now in
    let goes = fed_going table term read piece c.feed-fed.result c.in-Ok.bad c.args.import.now c.feed-fed.new.self same c.in-Ok.ensures c.feed-fed.ensures.after c.feed-fed.ensures.answer in
    takes_piece (AnswersNumbered g.O.Object.stepped g.O.Object.is_row g.K.Keeper.rows g.K.Keeper.faults) table term first taken (g.T.Sink.taken c.ask_shown.new.sink) old c.ask_shown.new.asker read piece c.feed-fed.new.self c.ask_shown.new.next c.ask_shown.result goes.0
    (c.ask_shown.ensures.asked table term first taken old (read ++ piece) false
    (shows (read ++ piece) false c.args.import.now c.feed-fed.new.self c.new-given.result.items c.feed-fed.new.out.items c.open_row.result c.in-Ok.bad t same goes.0
    c.new-given.ensures.items c.feed-fed.ensures.given c.open_row.ensures goes.1))

pub returns-in-Err-clause-takes : goal.returns-in-Err-clause-takes
returns-in-Err-clause-takes g c = λ table term first taken old read same t. (read, c.args.piece.now, refl, through_memory t c.args.piece.now)
