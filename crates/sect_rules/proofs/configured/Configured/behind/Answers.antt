-- the subparts are the same
use Rattle.std.specs.Prelude.{◌<◌, length}
use Rattle.std.proofs.Common.{sym, subst}
use Rattle.sect_rules.proofs.configured.Configured.behind.Goals as goal

pub push-requires : goal.push-requires
push-requires c = subst (λ v. length v.sections < 6) (sym c.self.view_is) c.requires

pub of-requires : goal.of-requires
of-requires c = c.self.invariant.0
