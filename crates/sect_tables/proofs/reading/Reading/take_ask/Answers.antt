use Rattle.csv.specs.Records.{fields_of}
use Rattle.sect_tables.specs.Rows.{same_student}
use Rattle.sect_tables.proofs.Steps.{alike, found_in, nothing_behind, requests_none, requests_on, taken_out}
use Rattle.sect_tables.proofs.reading.Reading.take_ask.Goals as goal

pub returns-in-Ok-clause-read : goal.returns-in-Ok-clause-read
returns-in-Ok-clause-read c =
    alike c.next_ask.result c.next_ask.new.self _ _
    (requests_on _ c.args.self.now (fields_of c.args.row.now) c.in-Ok.first c.in-Ok.so_far _ (taken_out _ _ _ c.self.view_is c.take.ensures.after)
    (found_in same_student _ _ _ _ _ c.self.view_is c.take.ensures.value c.in-Ok.ensures)) c.next_ask.ensures

pub returns-in-Ok-clause-given : goal.returns-in-Ok-clause-given
returns-in-Ok-clause-given c =
    nothing_behind _ _ _
    (requests_none c.args.self.now (fields_of c.args.row.now) c.in-Ok.first c.in-Ok.so_far _
    (found_in same_student _ _ _ _ _ c.self.view_is c.take.ensures.value c.in-Ok.ensures))
