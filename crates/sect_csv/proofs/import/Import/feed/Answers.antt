-- What a piece makes of an import.
use Rattle.std.proofs.Common.{◌≡◌, ℕ, ◌-◌, false, List, [], ◌++◌, None, append-nil, ap, length, map, rules, sym, take, ◌∙◌}
use Rattle.csv.specs.Records.{fields_of}
use Rattle.sect_csv.proofs.ImportLemmas.{after_fed, bytes_before, fed_step, whole_bytes}
use Rattle.sect_csv.specs.Intake.{read_so_far}
use Rattle.sect_csv.specs.Inside.{intake_of}
use Rattle.sect_tables.specs.Progress.{Progress}
use Rattle.sect_tables.specs.Rows.{Step, rows_read}
use Rattle.sect_csv.proofs.import.Import.feed.Goals as goal

pub returns-then-is_err-clause-given : goal.returns-then-is_err-clause-given
returns-then-is_err-clause-given c =
    let s = c.self.inside in
    let piece = c.args.piece.now in
    let well : s.fault ≡ None = search rules in
    let old_bytes = whole_bytes s.records s.unread (c.self.invariant.whole well) in
    let new_bytes = bytes_before s.records piece in
    let same : c.take_rows.new.out.items ≡ c.args.out.now.items = search rules in
    let longer : c.feed.new.self ≡ s.records ++ piece = search rules in
    let bytes : take (length c.feed.new.self - length piece) c.feed.new.self ≡ take (length s.records - s.unread) s.records = cc in
    let others = ap (λ (bytes : List ℕ). (read_so_far s.table s.term bytes s.ended).1) bytes in
    rw (← c.self.view_is) record { given = []; appended = cc (append-nil c.args.out.now.items); new_ones = others ∙ sym (append-nil _) }

pub invariant_of-self-2 : goal.invariant_of-self-2
invariant_of-self-2 c =
    let s = c.self.inside in
    let rows = map fields_of c.in-Ok.rows.items in
    let well : s.fault ≡ None = search rules in
    let going : s.ended ≡ false = search rules in
    let step = fed_step s c.reuse.new.self c.args.piece.now rows c.self.invariant going well (search rules) (search rules) in
    let read : c.take_rows.new.reading ≡ (rows_read s.reading rows).0 = search rules in
    let reads = read ∙ sym (ap (λ (t : Step). t.0) step) in
    record { whole = λ _. c.self.invariant.whole well; reads = λ _ _. reads; counts = c.rows-self-inside.ensures ∙ ap (λ (p : Progress). p.rows) reads; opened = c.open_row-self-inside.ensures ∙ ap (λ (p : Progress). p.open_row) reads }

pub returns-clause-after : goal.returns-clause-after
returns-clause-after c =
    let s = c.self.inside in
    let piece = c.args.piece.now in
    let rows = map fields_of c.in-Ok.rows.items in
    let well : s.fault ≡ None = search rules in
    let going : s.ended ≡ false = search rules in
    let longer : c.reuse.new.self ≡ s.records ++ piece = search rules in
    let step = fed_step s c.reuse.new.self piece rows c.self.invariant going well longer (search rules) in
    let read : c.take_rows.new.reading ≡ (rows_read s.reading rows).0 = search rules in
    let reads = read ∙ sym (ap (λ (t : Step). t.0) step) in
    let old_bytes = whole_bytes s.records s.unread (c.self.invariant.whole well) in
    let new_bytes = whole_bytes c.reuse.new.self s.unread (c.self.invariant.whole well) in
    let bytes : take (length c.reuse.new.self - s.unread) c.reuse.new.self ≡ take (length s.records - s.unread) s.records ++ piece = cc in
    let fed = after_fed (intake_of s) piece (take (length c.reuse.new.self - s.unread) c.reuse.new.self) c.take_rows.new.reading going well bytes reads in
    rw (← c.self.view_is, c.answer-2.ensures, c.fault-self-inside.ensures) fed

pub returns-clause-given : goal.returns-clause-given
returns-clause-given c =
    let s = c.self.inside in
    let rows = map fields_of c.in-Ok.rows.items in
    let well : s.fault ≡ None = search rules in
    let going : s.ended ≡ false = search rules in
    let step = fed_step s c.reuse.new.self c.args.piece.now rows c.self.invariant going well (search rules) (search rules) in
    let given : c.take_rows.new.out.items ≡ c.args.out.now.items ++ (rows_read s.reading rows).1 = search rules in
    rw (← c.self.view_is) record { given = (rows_read s.reading rows).1; appended = given; new_ones = ap (λ (t : Step). t.1) step }
