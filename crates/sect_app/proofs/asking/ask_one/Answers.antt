use Rattle.std.proofs.Common.{refl}
use Rattle.sect_asking.specs.AnswerLines.{answer_line}
use Rattle.sect_asking.proofs.Asking.{is_told}
use Rattle.sect_app.specs.Asking.{AnswersNumbered}
use Rattle.sect_app.specs.Numbers.{id_of}
use Rattle.sect_app.proofs.Each.{one_unwritten}
use Rattle.sect_app.proofs.asking.ask_one.Goals as goal

pub returns-then-is_err-clause-asked : goal.returns-then-is_err-clause-asked
returns-then-is_err-clause-asked g c =
    let told = c.ask_numbered-told.ensures in
    one_unwritten (AnswersNumbered g.O.Object.stepped g.O.Object.is_row g.K.Keeper.rows g.K.Keeper.faults) g.T.Sink.taken (record { given = c.args.given; number = c.args.number })
    c.args.asker.now c.ask_numbered-told.new.asker c.args.sink.now c.write_before.new.sink c.args.gathered.now.items c.write_before.new.gathered.items c.write_before.result
    (answer_line c.ask_numbered-told.result)
    (record {
      day = told.0;
      answer = c.ask_numbered-told.result;
      on = told.1;
      answered = told.2;
      told = is_told g.O.Object.stepped g.O.Object.is_row g.K.Keeper.rows g.K.Keeper.faults c.args.asker.now.desk c.ask_numbered-told.new.asker.desk
          (id_of c.args.number) told.0 c.args.given.command c.ask_numbered-told.result told.2;
      written = refl;
    }) c.write_before.ensures.written
