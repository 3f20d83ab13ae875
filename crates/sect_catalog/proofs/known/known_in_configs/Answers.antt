-- One part more.
use Rattle.std.proofs.Common.{flat_map}
use Rattle.sect_catalog.specs.Fault.{config_ids}
use Rattle.sect_catalog.specs.Place.{is_taken}
use Rattle.sect_catalog.proofs.KnownLemmas.{first_id, first-parts}
use Rattle.sect_catalog.proofs.SearchLemmas.{found_by, passed_by}
use Rattle.sect_catalog.proofs.known.known_in_configs.Goals as goal

pub returns-in-Some : goal.returns-in-Some
returns-in-Some c =
    found_by (λ xs. first_id (is_taken c.args.index.now c.args.row.now) (flat_map config_ids xs)) (λ x. first_id (is_taken c.args.index.now c.args.row.now) (config_ids x)) (first-parts (is_taken c.args.index.now c.args.row.now) config_ids)
    (first_id (is_taken c.args.index.now c.args.row.now) (flat_map config_ids c.args.configs.now)) c.known_in_config.result c.args.configs.now c.loop-config.config-index c.config-item.result c.in-Some.id
    c.loop-config-test.true c.config-item.is c.loop-config.invariant c.known_in_config.ensures c.in-Some.is

pub loop-config-preserved : goal.loop-config-preserved
loop-config-preserved c =
    passed_by (λ xs. first_id (is_taken c.args.index.now c.args.row.now) (flat_map config_ids xs)) (λ x. first_id (is_taken c.args.index.now c.args.row.now) (config_ids x)) (first-parts (is_taken c.args.index.now c.args.row.now) config_ids)
    (first_id (is_taken c.args.index.now c.args.row.now) (flat_map config_ids c.args.configs.now)) c.known_in_config.result c.args.configs.now c.loop-config.config-index c.config-item.result
    c.loop-config-test.true c.config-item.is c.loop-config.invariant c.known_in_config.ensures c.in_default.not-Some
