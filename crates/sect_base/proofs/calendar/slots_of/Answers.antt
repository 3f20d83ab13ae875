-- The bits below the end that aren't below the start.
use Rattle.std.proofs.Common.{arith}
use Rattle.sect_base.proofs.CalendarLemmas.{slot_bits}
use Rattle.sect_base.proofs.calendar.slots_of.Goals as goal

pub returns : goal.returns
returns c = λ bit within.
    slot_bits c.bits_below-2.result c.bits_below.result c.args.start c.args.end c.args.word bit (omega arith) within
    (rw c.saturating_sub.ensures at (c.bits_below.ensures bit within)) (rw c.saturating_sub-2.ensures at (c.bits_below-2.ensures bit within))
