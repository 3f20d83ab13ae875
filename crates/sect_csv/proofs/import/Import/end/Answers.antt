-- What the end makes of an import.
use Rattle.std.proofs.Common.{◌≡◌, ◌-◌, false, length, take, ◌++◌, None, ap, map, rules, sym, ◌∙◌}
use Rattle.csv.specs.Records.{fields_of}
use Rattle.sect_csv.proofs.ImportLemmas.{after_finished, finished_step}
use Rattle.sect_csv.specs.Inside.{intake_of}
use Rattle.sect_csv.specs.Intake.{with_end}
use Rattle.sect_tables.specs.Progress.{Progress}
use Rattle.sect_tables.specs.Rows.{Step, rows_read}
use Rattle.sect_csv.proofs.import.Import.end.Goals as goal

pub invariant_of-self-2 : goal.invariant_of-self-2
invariant_of-self-2 c =
    let s = c.self.inside in
    let rows = map fields_of c.in-Ok.rows.items in
    let well : s.fault ≡ None = search rules in
    let going : s.ended ≡ false = search rules in
    let step = finished_step s c.end.new.self rows c.self.invariant going well c.end.ensures.same (search rules) in
    let read : c.take_last_rows.new.reading ≡ (with_end (rows_read s.reading rows)).0 = search rules in
    let reads = read ∙ sym (ap (λ (t : Step). t.0) step) in
    record { whole = λ _. c.self.invariant.whole well; reads = λ _ _. reads; counts = c.rows-self-inside.ensures ∙ ap (λ (p : Progress). p.rows) reads; opened = c.open_row-self-inside.ensures ∙ ap (λ (p : Progress). p.open_row) reads }

pub returns-clause-after : goal.returns-clause-after
returns-clause-after c =
    let s = c.self.inside in
    let rows = map fields_of c.in-Ok.rows.items in
    let well : s.fault ≡ None = search rules in
    let going : s.ended ≡ false = search rules in
    let same = c.end.ensures.same in
    let step = finished_step s c.end.new.self rows c.self.invariant going well same (search rules) in
    let read : c.take_last_rows.new.reading ≡ (with_end (rows_read s.reading rows)).0 = search rules in
    let reads = read ∙ sym (ap (λ (t : Step). t.0) step) in
    let bytes : take (length c.end.new.self - s.unread) c.end.new.self ≡ take (length s.records - s.unread) s.records = cc in
    let finished = after_finished (intake_of s) (take (length c.end.new.self - s.unread) c.end.new.self) c.take_last_rows.new.reading going well bytes reads in
    rw (← c.self.view_is, c.answer-2.ensures, c.fault-self-inside.ensures) finished

pub returns-clause-given : goal.returns-clause-given
returns-clause-given c =
    let s = c.self.inside in
    let rows = map fields_of c.in-Ok.rows.items in
    let well : s.fault ≡ None = search rules in
    let going : s.ended ≡ false = search rules in
    let step = finished_step s c.end.new.self rows c.self.invariant going well c.end.ensures.same (search rules) in
    let given : c.take_last_rows.new.out.items ≡ c.args.out.now.items ++ (with_end (rows_read s.reading rows)).1 = search rules in
    rw (← c.self.view_is) record { given = (with_end (rows_read s.reading rows)).1; appended = given; new_ones = ap (λ (t : Step). t.1) step }
