-- the values so far and those of the rest are those of all
use Rattle.std.proofs.Common.{◌≡◌, length}
use Rattle.serde_json.specs.View.{items_view}
use Rattle.sect_wire.specs.Values.{each_in}
use Rattle.sect_words.proofs.Loops.{in_all}
use Rattle.sect_wire.proofs.from_json.read_each.Given as goal

abbrev pub invariant-loop-rest : goal.invariant-loop-rest
invariant-loop-rest g l = in_all l.items.items (each_in g.T.FromJson.reads (items_view l.rest)) ≡ each_in g.T.FromJson.reads (items_view l.fn.values)

abbrev pub decreases-loop-rest : goal.decreases-loop-rest
decreases-loop-rest g l = length l.rest
