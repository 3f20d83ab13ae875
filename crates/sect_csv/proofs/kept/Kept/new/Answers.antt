use Rattle.std.proofs.Common.{refl}
use Rattle.csv.specs.Reading.{strip_bom}
use Rattle.sect_csv.specs.Rows.{rows_within, shown_rows, through_last_feed}
use Rattle.sect_csv.proofs.kept.Kept.new.Goals as goal

pub invariant_of-result : goal.invariant_of-result
unfolding shown_rows rows_within strip_bom through_last_feed
invariant_of-result c = rw c.new.ensures.items refl
