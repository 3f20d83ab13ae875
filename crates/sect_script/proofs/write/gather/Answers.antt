use Rattle.std.proofs.Common.{◌≡◌, ◌++◌, []}
use Rattle.sect_script.proofs.Gathering.{but_put, front_before, on_err, straight_err, straight_ok}
use Rattle.sect_script.proofs.write.gather.Goals as goal

pub returns-then-put_behind-clause-ok : goal.returns-then-put_behind-clause-ok
returns-then-put_behind-clause-ok g c =
    but_put (g.K.Sink.taken c.args.sink.now) (c.args.gathered.now.items ++ c.args.answer.now) c.put_behind.new.gathered.items (c.put_behind.ensures.put c.if-put_behind.true)

pub returns-in-Ok-clause-ok : goal.returns-in-Ok-clause-ok
returns-in-Ok-clause-ok g c =
    straight_ok c.write_straight.result (g.K.Sink.taken c.args.sink.now) (g.K.Sink.taken c.write_out.new.sink) (g.K.Sink.taken c.write_straight.new.sink)
    c.args.gathered.now.items c.put_behind.new.gathered.items c.args.answer.now c.write_out.new.gathered.items (c.put_behind.ensures.kept c.if-put_behind.false)
    c.in-Ok.ensures.ok c.in-Ok.ensures.none c.write_straight.ensures.ok

pub returns-in-Ok-clause-err : goal.returns-in-Ok-clause-err
returns-in-Ok-clause-err g c =
    straight_err c.write_straight.result (g.K.Sink.taken c.args.sink.now) (g.K.Sink.taken c.write_out.new.sink) (g.K.Sink.taken c.write_straight.new.sink)
    c.args.gathered.now.items c.put_behind.new.gathered.items c.args.answer.now (c.put_behind.ensures.kept c.if-put_behind.false)
    c.in-Ok.ensures.ok c.write_straight.ensures.err

pub returns-in-Ok-clause-none : goal.returns-in-Ok-clause-none
returns-in-Ok-clause-none g c = on_err c.write_straight.result (c.write_out.new.gathered.items ≡ []) c.in-Ok.ensures.none

pub returns-in-Err-clause-err : goal.returns-in-Err-clause-err
returns-in-Err-clause-err g c =
    front_before (g.K.Sink.taken c.args.sink.now) (g.K.Sink.taken c.write_out.new.sink) c.args.gathered.now.items c.put_behind.new.gathered.items c.args.answer.now
    (c.put_behind.ensures.kept c.if-put_behind.false) c.in-Err.ensures.err
