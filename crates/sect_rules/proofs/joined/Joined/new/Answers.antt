-- the configurations are those of the course
use Rattle.std.specs.List.{All}
use Rattle.std.proofs.Common.{◌∙◌, sym, subst, Some}
use Rattle.sect_moment.specs.Found.{IsConfig}
use Rattle.sect_rules.proofs.joined.Joined.new.Goals as goal

pub invariant_of-result : goal.invariant_of-result
invariant_of-result c = (
  c.requires,
  c.new-rows.ensures ∙ c.configs.ensures.value,
  subst (All (IsConfig c.args.on.now.wanted.world (Some c.args.on.now.course))) (sym c.new-rows.ensures) c.configs.ensures.found,
)
