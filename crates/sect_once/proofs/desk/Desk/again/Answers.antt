use Rattle.std.proofs.Common.{arith, refl}
use Rattle.sect_once.proofs.Acting.{keeps-refl, repeat_answer}
use Rattle.sect_once.proofs.desk.Desk.again.Goals as goal

pub returns-in-Ok : goal.returns-in-Ok
returns-in-Ok g c = λ day. repeat_answer g.O.Object.stepped g.O.Object.is_row g.K.Keeper.rows g.K.Keeper.faults c.args.self.now c.args.id day c.args.command.now c.args.place c.repeat.result
    c.in-Ok.entry c.in-Ok.ensures (c.requires.2 c.in-Ok.entry c.in-Ok.ensures) c.repeat.ensures

pub returns-in-Err : goal.returns-in-Err
returns-in-Err g c = λ day. record {
  roomy = λ new. absurd (new c.requires.0.0 c.requires.0.1 c.requires.0.2 c.requires.0.3);
  object = refl;
  log = refl;
  base = refl;
  rows_stay = keeps-refl _;
  faults_grow = omega arith;
}
