use Rattle.std.proofs.Common.{◌∙◌, sym}
use Rattle.sect_once.proofs.Openings.{bad_next, takes_next}
use Rattle.sect_once.proofs.past.Past.take_next.Goals as goal

pub returns-then-branch-clause-ok : goal.returns-then-branch-clause-ok
returns-then-branch-clause-ok g c = let found = rw c.if-not-branch.false at c.in_ok-row.ensures.found in let taken = rw c.if-branch.true at c.in_ok-take.ensures.taken in
    takes_next g.O.Object.start g.O.Object.stepped g.O.Object.is_row (g.K.Keeper.rows c.args.keeper.now) c.args.self.now c.take.new.self c.args.at _ _ c.as_slice.ensures.value found taken

pub returns-else-branch-clause-err : goal.returns-else-branch-clause-err
returns-else-branch-clause-err g c = let found = rw c.if-not-branch.false at c.in_ok-row.ensures.found in let taken = rw c.if-branch.false at c.in_ok-take.ensures.taken in
    (c.acted-number.ensures ∙ sym c.requires, bad_next g.O.Object.start g.O.Object.stepped g.O.Object.is_row (g.K.Keeper.rows c.args.keeper.now) c.args.self.now c.take.new.self c.args.at _ _ c.as_slice.ensures.value found taken)
