-- Nine bytes, of which each is known.
use Rattle.std.proofs.Common.{arith}
use Rattle.sect_base.proofs.ClockLemmas.{time_bytes, time_from_reads, one_slot}
use Rattle.sect_base.proofs.clock_text.read_time.Goals as goal
use Rattle.sect_base.proofs.clock_text.read_time.Goals.{then-text-ne9-via-then-text-ne9, then-text-ne9-via-else-text-ne9+then-text-ne45}

pub returns-then-text-ne9-clause-none : goal.returns-then-text-ne9-clause-none
returns-then-text-ne9-clause-none c = λ start end says.
    let bytes = time_bytes c.args.text.now start end says.is_text in
    elim c.then-text-ne9.branch [
      | then-text-ne9-via-then-text-ne9 w ↦ w.if-text-ne9.true bytes.nine
      | then-text-ne9-via-else-text-ne9+then-text-ne45 w ↦ w.if-text-ne45.true bytes.dash
    ]

pub returns-in_err-start-clause-none : goal.returns-in_err-start-clause-none
returns-in_err-start-clause-none c =
    rw c.from_residual.ensures
    (λ start end says.
    c.in_err-start.ensures.none start (omega (arith, says.begins)) (time_bytes c.args.text.now start end says.is_text).first)

pub returns-in_err-end-clause-none : goal.returns-in_err-end-clause-none
returns-in_err-end-clause-none c =
    rw c.from_residual-in_err-end.ensures
    (λ start end says. c.in_err-end.ensures.none end says.hours (time_bytes c.args.text.now start end says.is_text).second)

pub returns-then-start-lt288-clause-found : goal.returns-then-start-lt288-clause-found
returns-then-start-lt288-clause-found c = record {
  begins = c.if-start-lt288.true;
  hours = c.in_ok-end.ensures.hours;
  is_text =
      time_from_reads c.args.text.now c.in_ok-start.start c.in_ok-end.end (omega arith) (omega arith) c.in_ok-start.ensures.found c.in_ok-end.ensures.found;
}

pub returns-else-start-lt288-clause-none : goal.returns-else-start-lt288-clause-none
returns-else-start-lt288-clause-none c = λ start end says.
    let same = one_slot c.args.text.now 0 start c.in_ok-start.start (time_bytes c.args.text.now start end says.is_text).first c.in_ok-start.ensures.found in
    omega (arith, same, says.begins, c.if-start-lt288.false)
