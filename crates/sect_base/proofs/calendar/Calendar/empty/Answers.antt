-- Words that are all 0 have no bit.
use Rattle.std.proofs.Common.{refl}
use Rattle.sect_base.proofs.CalendarLemmas.{is_set-empty}
use Rattle.sect_base.proofs.calendar.Calendar.empty.Goals as goal

pub returns : goal.returns
returns c = is_set-empty _ refl
