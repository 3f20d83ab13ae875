-- Nobody waited.
use Rattle.std.proofs.Common.{ap, cond, []}
use Rattle.std.specs.Option.{is_some}
use Rattle.sect_wait.specs.Indexed.{tickets_by}
use Rattle.sect_wait.proofs.by_student.ByStudent.empty.Goals as goal

pub returns : goal.returns
returns c = λ n. ap (λ o. cond (is_some o) (tickets_by c.new.result n) []) (c.empty.ensures n)
