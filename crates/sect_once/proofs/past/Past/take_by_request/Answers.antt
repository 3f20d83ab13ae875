-- A request that is taken again is an entry that follows.
use Rattle.std.proofs.Common.{◌≡◌, true, false}
use Rattle.std.proofs.lemmas.Result.{IfOk-weaker}
use Rattle.sect_once.specs.Opening.{ActsAgain, TakesAtOnce}
use Rattle.sect_once.proofs.Openings.{again_at_once}
use Rattle.sect_once.proofs.past.Past.take_by_request.Goals as goal

pub returns-clause-taken : goal.returns-clause-taken
returns-clause-taken g c = let room = rw c.if-is_full.false at c.is_full.ensures in
    IfOk-weaker c.act_again.result (ActsAgain g.O.Object.start g.O.Object.stepped g.O.Object.is_row c.args.self.now c.act_again.new.self c.in-Some.request.id c.in-Some.request.day c.in-Some.request.command c.args.row.now)
    (TakesAtOnce g.O.Object.start g.O.Object.stepped g.O.Object.is_row c.args.self.now c.act_again.new.self c.args.row.now)
    (λ b h. again_at_once g.O.Object.start g.O.Object.stepped g.O.Object.is_row c.args.self.now c.act_again.new.self c.in-Some.request.id c.in-Some.request.day c.in-Some.request.command c.args.row.now (λ f. let e : false ≡ true = room.1 f in absurd cc) (c.has.ensures.new c.if-has.false) b h) c.act_again.ensures.taken
