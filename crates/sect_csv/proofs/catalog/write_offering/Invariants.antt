-- The rows written and those left make up the text.
use Rattle.std.proofs.Common.{◌≡◌, ◌++◌, drop}
use Rattle.std.specs.List.{flat_map}
use Rattle.sect_csv.specs.Tables.{config_text}
use Rattle.sect_csv.proofs.catalog.write_offering.Given as goal

abbrev pub invariant-loop-config : goal.invariant-loop-config
invariant-loop-config l = l.sheet ++ flat_map (config_text l.offering) (drop l.config-index l.config-items) ≡ l.fn.sheet ++ flat_map (config_text l.offering) l.config-items
