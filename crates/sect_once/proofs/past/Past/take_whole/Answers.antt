use Rattle.std.proofs.Common.{◌≡◌, true, false, refl}
use Rattle.std.proofs.lemmas.Result.{IfOk-weaker}
use Rattle.sect_once.specs.Opening.{Resumes, Takes}
use Rattle.sect_once.proofs.Openings.{acted_bad, takes_from}
use Rattle.sect_once.proofs.past.Past.take_whole.Goals as goal

pub returns-then-has-clause-taken : goal.returns-then-has-clause-taken
returns-then-has-clause-taken g c = let written = rw c.in-Some.is at c.in_ok-entry.ensures.found in (acted_bad g.O.Object.start g.O.Object.stepped g.O.Object.is_row c.args.self.now.entries c.args.row.now c.in-Some.entry written (c.has.ensures.acted c.if-has.true), refl)

pub returns-clause-taken : goal.returns-clause-taken
returns-clause-taken g c = let written = rw c.in-Some.is at c.in_ok-entry.ensures.found in let room = rw c.if-is_full.false at c.is_full.ensures in
    IfOk-weaker c.resume.result (Resumes g.O.Object.start g.O.Object.stepped g.O.Object.is_row c.args.self.now c.resume.new.self c.in-Some.entry) (Takes g.O.Object.start g.O.Object.stepped g.O.Object.is_row c.args.self.now c.resume.new.self c.args.row.now)
    (λ b h. takes_from g.O.Object.start g.O.Object.stepped g.O.Object.is_row c.args.self.now c.resume.new.self c.args.row.now c.in-Some.entry (λ f. let e : false ≡ true = room.1 f in absurd cc) written (c.has.ensures.new c.if-has.false) b h) c.resume.ensures.resumed
