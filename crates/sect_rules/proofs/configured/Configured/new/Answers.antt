-- the subparts of the configuration's row
use Rattle.std.specs.Prelude.{[]}
use Rattle.std.specs.Option.{option_map_or}
use Rattle.std.proofs.Common.{◌∙◌, ap, sym}
use Rattle.sect_rules.proofs.configured.Configured.new.Goals as goal

pub of-requires : goal.of-requires
of-requires c = c.as_slice.ensures ∙ sym (ap (λ x. option_map_or (λ g. g.subparts) x []) c.requires)
