use Rattle.std.proofs.Common.{Bool, [], ◌+◌, ap, refl, subst, ◌∙◌, ℕ}
use Rattle.sect_csv.specs.Intake.{Intake, reading_of}
use Rattle.sect_app.specs.Underway.{LooksPast}
use Rattle.sect_app.proofs.Turns.{out_of_memory, past_limit, read_failed, table_ended}
use Rattle.sect_app.proofs.table.end_of_bytes.Goals as goal

pub returns-in-Some-clause-ran : goal.returns-in-Some-clause-ran
returns-in-Some-clause-ran g c = λ table term first left taken old u.
    let looks = subst (λ (b : Bool). LooksPast b (g.S.Source.left c.args.source.now) (g.S.Source.left c.has_more.new.source)) c.in-Ok-true.field-0-test c.in-Ok-true.ensures.looks in
    past_limit u (g.S.Source.left c.has_more.new.source) c.in-Some.line looks.0 looks.1 looks.2 refl
    (c.in-Some.ensures ∙ ap (λ (n : ℕ). n + 1) (c.rows.ensures ∙ ap (λ (i : Intake). (reading_of i).rows) u.fed))

pub returns-in-None-clause-ran : goal.returns-in-None-clause-ran
returns-in-None-clause-ran g c = λ table term first left taken old u.
    let looks = subst (λ (b : Bool). LooksPast b (g.S.Source.left c.args.source.now) (g.S.Source.left c.has_more.new.source)) c.in-Ok-true.field-0-test c.in-Ok-true.ensures.looks in
    out_of_memory u (g.S.Source.left c.has_more.new.source) looks.0 looks.1

pub returns-in-Ok-false-clause-ran : goal.returns-in-Ok-false-clause-ran
returns-in-Ok-false-clause-ran g c = λ table term first left taken old u.
    let looks = subst (λ (b : Bool). LooksPast b (g.S.Source.left c.args.source.now) (g.S.Source.left c.has_more.new.source)) c.in-Ok-false.field-0-test c.in-Ok-false.ensures.looks in
    table_ended u (g.S.Source.left c.has_more.new.source) (g.T.Sink.taken c.take_end.new.sink) c.take_end.new.asker [] c.take_end.result looks.0 refl looks.1
    (c.take_end.ensures.takes table term first taken old u.read u.fed u.through)

pub returns-in-Err-clause-ran : goal.returns-in-Err-clause-ran
returns-in-Err-clause-ran g c = λ table term first left taken old u. read_failed u (g.S.Source.left c.has_more.new.source) c.in-Err.ensures.err
