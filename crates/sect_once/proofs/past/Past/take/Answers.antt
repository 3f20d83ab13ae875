-- A row that isn't taken at once is taken, or not, where it would have been.
use Rattle.std.proofs.Common.{subst}
use Rattle.std.proofs.lemmas.Result.{IfOk-weaker}
use Rattle.sect_once.specs.Opening.{Takes}
use Rattle.sect_once.proofs.past.Past.take.Goals as goal

pub returns-clause-taken : goal.returns-clause-taken
returns-clause-taken g c = let same = rw c.if-branch.false at c.in_ok-take_by_request.ensures.taken in
    IfOk-weaker c.take_whole.result (Takes g.O.Object.start g.O.Object.stepped g.O.Object.is_row c.take_by_request.new.self c.take_whole.new.self c.args.row.now)
    (Takes g.O.Object.start g.O.Object.stepped g.O.Object.is_row c.args.self.now c.take_whole.new.self c.args.row.now)
    (λ b h. subst (λ t. Takes g.O.Object.start g.O.Object.stepped g.O.Object.is_row t c.take_whole.new.self c.args.row.now b) same h) c.take_whole.ensures.taken
