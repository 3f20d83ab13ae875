-- The words that are left are allowed where all of them are.
use Rattle.std.proofs.Common.{◌≡◌, length, map}
use Rattle.std.specs.String.{string_bytes}
use Rattle.sect_usage.specs.Items.{items_of}
use Rattle.sect_usage.specs.Options.{allows}
use Rattle.sect_usage.proofs.options.allowed.Given as goal

abbrev pub invariant-loop-item : goal.invariant-loop-item
invariant-loop-item g l = allows (g.V.Commands.program.takes l.verb) (items_of (map string_bytes l.rest)) ≡ allows (g.V.Commands.program.takes l.verb) (items_of (map string_bytes l.fn.words))

abbrev pub decreases-loop-item : goal.decreases-loop-item
decreases-loop-item g l = length l.rest
