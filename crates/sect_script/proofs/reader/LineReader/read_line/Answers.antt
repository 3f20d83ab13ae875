use Rattle.std.proofs.Common.{arith}
use Rattle.std.proofs.lemmas.Result.{err_from_is_err_and}
use Rattle.sect_script.proofs.Gathered.{gathered_feed, gathered_all, gathered_more, reads_feed, reads_too_long, reads_failed, reads_unwritten}
use Rattle.sect_script.proofs.Gathering.{but_front, but_none, but_then}
use Rattle.sect_script.proofs.reader.LineReader.read_line.Goals as goal

pub returns-then-len-gt-MAX_LINE-clause-read : goal.returns-then-len-gt-MAX_LINE-clause-read
returns-then-len-gt-MAX_LINE-clause-read g c =
    reads_too_long _ _ _ _ _ _ _ c.move_line.new.self c.move_line.new.line.items c.in_ok-found.found c.loop-found.invariant.gathered c.in_ok-found.ensures (omega arith)

pub returns-then-found-clause-read : goal.returns-then-found-clause-read
returns-then-found-clause-read g c =
    let moves = rw c.if-found.true at c.in_ok-found.ensures in
    reads_feed _ _ _ _ c.move_line.new.line.items _ (gathered_feed _ _ _ _ _ _ _ c.loop-found.invariant.gathered moves) (omega arith) c.drop_return.ensures

pub returns-in_err-write_out-clause-read : goal.returns-in_err-write_out-clause-read
returns-in_err-write_out-clause-read g c =
    let p = err_from_is_err_and c.from_residual-in_err-write_out.result c.from_residual-in_err-write_out.ensures.1 in
    let moves = rw c.if-found.false at c.in_ok-found.ensures in
    rw (p.1, p.2) (reads_unwritten _ _ _ _ _ c.move_line.new.self c.move_line.new.line.items (gathered_all _ _ _ _ _ _ _ c.loop-found.invariant.gathered moves))

pub returns-in_err-write_out-clause-written : goal.returns-in_err-write_out-clause-written
returns-in_err-write_out-clause-written g c =
    let p = err_from_is_err_and c.from_residual-in_err-write_out.result c.from_residual-in_err-write_out.ensures.1 in
    rw (p.1, p.2) (but_front _ _ _ _ _ c.loop-found.invariant.written c.in_err-write_out.ensures.err, c.in_err-write_out.ensures.none)

pub returns-in_err-refill-clause-read : goal.returns-in_err-refill-clause-read
returns-in_err-refill-clause-read g c =
    let p = err_from_is_err_and c.from_residual-in_err-refill.result c.from_residual-in_err-refill.ensures.1 in
    let moves = rw c.if-found.false at c.in_ok-found.ensures in
    rw (p.1, p.2) (reads_failed _ _ _ _ _ _ c.refill.new.self c.move_line.new.line.items (gathered_all _ _ _ _ _ _ _ c.loop-found.invariant.gathered moves) moves.1 c.in_err-refill.ensures.err.0)

pub returns-in_err-refill-clause-written : goal.returns-in_err-refill-clause-written
returns-in_err-refill-clause-written g c =
    let p = err_from_is_err_and c.from_residual-in_err-refill.result c.from_residual-in_err-refill.ensures.1 in
    rw (p.1, p.2) (but_then _ _ _ _ _ _ c.loop-found.invariant.written (but_none _ _ _ _ c.in_ok-write_out.ensures.ok c.in_ok-write_out.ensures.none))

pub returns-then-is_empty-clause-written : goal.returns-then-is_empty-clause-written
returns-then-is_empty-clause-written g c =
    but_then _ _ _ _ _ _ c.loop-found.invariant.written (but_none _ _ _ _ c.in_ok-write_out.ensures.ok c.in_ok-write_out.ensures.none)

pub loop-found-preserved : goal.loop-found-preserved
loop-found-preserved g c =
    let moves = rw c.if-found.false at c.in_ok-found.ensures in
    record {
      gathered = gathered_more _ _ _ _ _ _ _ (gathered_all _ _ _ _ _ _ _ c.loop-found.invariant.gathered moves) moves.1 c.in_ok-refill.ensures.ok;
      short = omega arith;
      written = but_then _ _ _ _ _ _ c.loop-found.invariant.written (but_none _ _ _ _ c.in_ok-write_out.ensures.ok c.in_ok-write_out.ensures.none);
      faults = omega (arith, c.in_ok-refill.ensures.cause.later);
      write_faults = omega (arith, c.loop-found.invariant.write_faults, c.in_ok-write_out.ensures.cause.later);
    }
