use Rattle.std.proofs.Common.{◌+◌, ℕ, List, refl, arith, take, ap}
use Rattle.sect_app.proofs.Turns.{bytes_taken, read_failed, table_ended}
use Rattle.sect_app.proofs.table.turn.Goals as goal

pub returns-in-Ok-eq0-clause-ran : goal.returns-in-Ok-eq0-clause-ran
returns-in-Ok-eq0-clause-ran g c = λ table term first left taken old u.
    table_ended u (g.S.Source.left c.read_piece.new.source) (g.T.Sink.taken c.take_end.new.sink) c.take_end.new.asker (take c.in-Ok-eq0.field-0 c.read_piece.new.buffer.items) c.take_end.result
    c.in-Ok-eq0.ensures.bytes (ap (λ (n : ℕ). take n c.read_piece.new.buffer.items) c.in-Ok-eq0.field-0-test) (c.in-Ok-eq0.ensures.end c.in-Ok-eq0.field-0-test)
    (c.take_end.ensures.takes table term first taken old u.read u.fed u.through)

pub returns-in-Ok-clause-ran : goal.returns-in-Ok-clause-ran
returns-in-Ok-clause-ran g c = λ table term first left taken old u.
    bytes_taken u (g.S.Source.left c.read_piece.new.source) (g.T.Sink.taken c.take_piece.new.sink) c.take_piece.new.asker c.take_piece.new.import c.take_piece.new.next
    (c.args.total.now + c.in-Ok.count) c.in-Ok.count c.read_piece.new.buffer.items (take c.in-Ok.count c.deref.result.now) c.take_piece.result
    (ap (λ (l : List ℕ). take c.in-Ok.count l) c.deref.ensures.value) c.in-Ok.ensures.bound.1 c.in-Ok.ensures.bytes refl (omega (arith, c.in-Ok.ensures.bound.0, c.requires.bound)) (c.take_piece.ensures.takes table term first taken old u.read u.fed u.through)

pub returns-in-Err-clause-ran : goal.returns-in-Err-clause-ran
returns-in-Err-clause-ran g c = λ table term first left taken old u. read_failed u (g.S.Source.left c.read_piece.new.source) c.in-Err.ensures.err
