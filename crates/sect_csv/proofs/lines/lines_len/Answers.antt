use Rattle.std.proofs.Common.{◌≡◌, ◌∙◌, arith, refl}
use Rattle.sect_csv.specs.Rows.{through_last_feed}
use Rattle.sect_csv.proofs.LineLemmas.{through-back, through-found}
use Rattle.sect_csv.proofs.lines.lines_len.Goals as goal

pub loop-end-preserved : goal.loop-end-preserved
loop-end-preserved c =
    let inv = c.loop-end.invariant in (
      omega (arith, inv.0),
      inv.1 ∙ through-back c.args.bytes.now c.loop-end.end c.loop-end-test.true inv.0 c.if-bytes-end-ne10.true,
    )

pub returns-else-bytes-end-ne10-clause-lines : goal.returns-else-bytes-end-ne10-clause-lines
returns-else-bytes-end-ne10-clause-lines c =
    let inv = c.loop-end.invariant in
    inv.1 ∙ through-found c.args.bytes.now c.loop-end.end c.loop-end-test.true inv.0 c.if-bytes-end-ne10.false

pub returns-after-loop-end-clause-lines : goal.returns-after-loop-end-clause-lines
unfolding through_last_feed
returns-after-loop-end-clause-lines c =
    let none : c.loop-end.end ≡ 0 = omega (arith, c.loop-end-test.false) in
    c.loop-end.invariant.1 ∙ rw none refl
