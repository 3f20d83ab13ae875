-- By how the rows of a log open.
use Rattle.sect_app.proofs.Openings.{rows_open}
use Rattle.sect_app.proofs.laws.the_rows_of_a_log_are_taken.Goals as goal

pub returns : goal.returns
returns c = rows_open c.a_row_is_of_one_entry.ensures
