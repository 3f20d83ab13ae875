-- the requests so far
use Rattle.std.proofs.Common.{◌≡◌}
use Rattle.sect_app.specs.Generated.{ask_of, made_of}
use Rattle.sect_app.proofs.generate.asks.Given as goal

abbrev pub invariant-loop-j : goal.invariant-loop-j
invariant-loop-j l = l.asks.items ≡ made_of (ask_of l.n l.s) l.j
