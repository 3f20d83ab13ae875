-- the students so far
use Rattle.std.proofs.Common.{◌≡◌, ◌+◌}
use Rattle.sect_app.specs.Generated.{made_of}
use Rattle.sect_app.proofs.generate.students.Given as goal

abbrev pub invariant-loop-place : goal.invariant-loop-place
invariant-loop-place l = l.students.items ≡ made_of (λ place. record { 0 = l.before + place + 1 }) l.place
