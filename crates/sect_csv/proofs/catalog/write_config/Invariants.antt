-- The rows written and those left make up the text.
use Rattle.std.proofs.Common.{◌≡◌, ◌++◌, drop}
use Rattle.std.specs.List.{flat_map}
use Rattle.sect_csv.specs.Tables.{subpart_text}
use Rattle.sect_csv.proofs.catalog.write_config.Given as goal

abbrev pub invariant-loop-subpart : goal.invariant-loop-subpart
invariant-loop-subpart l = l.sheet ++ flat_map (subpart_text l.offering l.config) (drop l.subpart-index l.subpart-items) ≡ l.fn.sheet ++ flat_map (subpart_text l.offering l.config) l.subpart-items
