use Rattle.std.specs.Prelude.{◌≡◌, ℕ, ◌<◌, ◌/◌, nat_lt, ◌&&◌, ◌||◌}
use Rattle.sect_base.specs.Calendar.{is_set, takes_pair}
use Rattle.sect_base.proofs.calendar.Calendar.add.Given as goal

abbrev pub invariant-loop-word : goal.invariant-loop-word
invariant-loop-word l = (d slot : ℕ) → slot < 288 → is_set l.self d slot ≡ (is_set l.initial.self d slot || nat_lt (slot / 64) l.word && takes_pair l.m d slot)
