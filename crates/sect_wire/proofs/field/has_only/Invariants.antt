-- all members are named where the rest of the keys are
use Rattle.std.proofs.Common.{◌≡◌, map}
use Rattle.serde_json.specs.View.{view}
use Rattle.sect_wire.specs.Values.{has_only}
use Rattle.sect_wire.proofs.Names.{known}
use Rattle.sect_wire.proofs.field.has_only.Given as goal

abbrev pub invariant-loop-name : goal.invariant-loop-name
invariant-loop-name l = known (map (λ n. n.now) l.fn.names) l.name-iterator ≡ has_only (map (λ n. n.now) l.fn.names) (view l.fn.value)
