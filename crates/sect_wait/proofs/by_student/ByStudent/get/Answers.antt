-- Who never waited has none.
use Rattle.std.proofs.Common.{◌∙◌, ap, cond, sym, []}
use Rattle.std.specs.Option.{is_some}
use Rattle.sect_wait.specs.Indexed.{tickets_by}
use Rattle.sect_wait.proofs.by_student.ByStudent.get.Goals as goal

pub returns-in-Some : goal.returns-in-Some
returns-in-Some c =
    let n = c.args.student.0 in
    c.tickets_of.ensures ∙ sym (ap (λ o. cond (is_some o) (tickets_by c.args.self.now.tickets n) []) (sym c.get.ensures ∙ c.in-Some.is))

pub returns-in-None : goal.returns-in-None
returns-in-None c = sym (ap (λ o. cond (is_some o) (tickets_by c.args.self.now.tickets c.args.student.0) []) (sym c.get.ensures ∙ c.in-None.is))
