use Rattle.std.proofs.Common.{[], refl, arith, Some}
use Rattle.std.proofs.KnownBytes.{Consumes-nil}
use Rattle.sect_csv.specs.Intake.{beginning}
use Rattle.sect_app.proofs.Turns.{begun, ok_is, out_of_memory}
use Rattle.sect_app.proofs.table.run_table.Goals as goal

pub returns-in_default-vec-clause-ran : goal.returns-in_default-vec-clause-ran
returns-in_default-vec-clause-ran g c =
    out_of_memory (begun (beginning c.args.table c.args.term) (Some c.args.first) 0 refl refl (omega arith) refl) (g.S.Source.left c.args.source.now) [] (Consumes-nil (g.S.Source.left c.args.source.now))

pub pieces-init : goal.pieces-init
pieces-init g c = record {
  underway = begun c.in-Ok.import (Some c.args.first) 0 (ok_is c.in-Ok.import (beginning c.args.table c.args.term) c.in-Ok.ensures) refl (omega arith) refl;
  few = omega arith;
  room = omega (arith, c.in-Ok-vec.ensures.len);
  read_faults = omega arith;
  write_faults = omega arith;
}

pub returns-in-Some-clause-ran : goal.returns-in-Some-clause-ran
returns-in-Some-clause-ran g c =
    c.in-Some.ensures.ran c.args.table c.args.term c.args.first (g.S.Source.left c.args.source.now) (g.T.Sink.taken c.args.sink.now) c.args.asker.now c.pieces.invariant.underway
