-- what is found is found in the rest
use Rattle.std.proofs.Common.{◌≡◌, drop}
use Rattle.std.specs.Prelude.{not, find, map}
use Rattle.sect_model.specs.Refusals.{lists_config}
use Rattle.sect_refuse.proofs.row.foreign_config.Given as goal

abbrev pub invariant-loop-config : goal.invariant-loop-config
invariant-loop-config l =
    find (λ c. not (lists_config (map (λ g. g.id) l.offering.configs) c)) l.configs ≡ find (λ c. not (lists_config (map (λ g. g.id) l.offering.configs) c)) (drop l.config-index l.configs)
