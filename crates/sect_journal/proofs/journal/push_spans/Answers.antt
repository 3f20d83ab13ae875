use Rattle.std.proofs.Common.{[], arith}
use Rattle.sect_journal.proofs.Groups.{behind_first}
use Rattle.sect_journal.proofs.journal.push_spans.Goals as goal

pub overflow_add-gate : goal.overflow_add-gate
overflow_add-gate c =
    let far = behind_first (λ row. row.now) c.loop-rest.gate c.loop-rest.rest.now (record { ref_ptr = (0, 0); now = [] }) (omega (arith, c.in-len1-up.len_at_least)) in
    omega (arith, far, c.loop-rest.invariant.behind, c.requires.bound)

pub overflow_add-gate-in-len1-up-2 : goal.overflow_add-gate-in-len1-up-2
overflow_add-gate-in-len1-up-2 c =
    let far = behind_first (λ row. row.now) c.loop-rest.gate c.loop-rest.rest.now (record { ref_ptr = (0, 0); now = [] }) (omega (arith, c.in-len1-up.len_at_least)) in
    omega (arith, far, c.loop-rest.invariant.behind, c.requires.bound)
