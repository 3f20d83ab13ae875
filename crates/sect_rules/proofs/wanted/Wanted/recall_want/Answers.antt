-- the want is the path's
use Rattle.std.proofs.Common.{◌≡◌, subst, Some}
use Rattle.sect_model.specs.Path.{want_at}
use Rattle.sect_moment.specs.Completed.{opened}
use Rattle.sect_rules.proofs.wanted.Wanted.recall_want.Goals as goal

pub returns : goal.returns
returns c = subst (λ v. want_at v.mv (opened v.done) ≡ Some v.want) c.self.view_is c.self.invariant.0
