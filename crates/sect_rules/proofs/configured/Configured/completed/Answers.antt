-- there is room for the section
use Rattle.std.specs.Prelude.{◌<◌, length}
use Rattle.std.proofs.Common.{sym, subst}
use Rattle.sect_rules.proofs.configured.Configured.completed.Goals as goal

pub push-requires : goal.push-requires
push-requires c = subst (λ v. length v.sections < 6) (sym c.self.view_is) c.requires
