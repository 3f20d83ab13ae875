use Rattle.std.proofs.Common.{subst}
use Rattle.sect_once.specs.declared.answer.Seen.TheVariants.{Place, Reused}
use Rattle.sect_once.specs.Desks.{FindsIn}
use Rattle.sect_once.specs.History.{history}
use Rattle.sect_clerk.proofs.Repeats.{would_repeat, would_reuse}
use Rattle.sect_clerk.proofs.trier.Trier.would_answer.Goals as goal

pub returns-in-Place-clause-answer : goal.returns-in-Place-clause-answer
returns-in-Place-clause-answer g c = let found = rw c.in-Place.is at c.in-Ok.ensures.seen in
    would_repeat g.O.Object.stepped g.O.Object.is_row c.args.id.now c.args.day c.args.command c.args.self.now.desk c.in-Place.place c.repeat.result
    (subst (λ s. FindsIn (history s.desk.log) c.args.id.now c.args.command (Place c.in-Place.place)) c.self.view_is found) c.repeat.ensures

pub returns-in-Reused-clause-answer : goal.returns-in-Reused-clause-answer
returns-in-Reused-clause-answer g c = let found = rw c.in-Reused.is at c.in-Ok.ensures.seen in
    would_reuse c.args.id.now c.args.command c.args.self.now.desk c.in-Reused.place
    (subst (λ s. FindsIn (history s.desk.log) c.args.id.now c.args.command (Reused c.in-Reused.place)) c.self.view_is found)
