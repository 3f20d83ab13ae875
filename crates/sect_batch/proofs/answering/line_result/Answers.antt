-- Held, skipped, or searched.
use Rattle.std.proofs.Common.{◌∙◌, find, sym}
use Rattle.sect_batch.specs.Lines.{has_course}
use Rattle.sect_batch.proofs.LineLemmas.{held-same, held-line, skipped-line, searched-line}
use Rattle.sect_batch.proofs.answering.line_result.Goals as goal

pub returns-in-Some-clause-line : goal.returns-in-Some-clause-line
returns-in-Some-clause-line g c = λ b t.
    let held = sym c.in-Some.is ∙ c.held_course.ensures ∙ (λ i. find (has_course (c.requires.held i)) (c.as_slice.ensures i)) ∙ held-same c.args.world.now.world c.args.student c.args.ask.now.courses in
    held-line c.args.world.now.world c.args.lines.now c.args.student c.args.rank c.args.ask.now b c.in-Some.course t held

pub returns-then-is_skipped-clause-line : goal.returns-then-is_skipped-clause-line
returns-then-is_skipped-clause-line g c = λ b t.
    let held = sym c.in-None.is ∙ c.held_course.ensures ∙ (λ i. find (has_course (c.requires.held i)) (c.as_slice.ensures i)) ∙ held-same c.args.world.now.world c.args.student c.args.ask.now.courses in
    skipped-line c.args.world.now.world c.args.lines.now c.args.student c.args.rank c.args.ask.now b t held (sym c.is_skipped.ensures ∙ c.if-is_skipped.true)

pub returns-else-is_skipped-clause-line : goal.returns-else-is_skipped-clause-line
returns-else-is_skipped-clause-line g c =
    let held = sym c.in-None.is ∙ c.held_course.ensures ∙ (λ i. find (has_course (c.requires.held i)) (c.as_slice.ensures i)) ∙ held-same c.args.world.now.world c.args.student c.args.ask.now.courses in
    searched-line c.args.world.now.world c.args.lines.now c.args.student c.args.rank c.args.ask.now c.search_for.result held (sym c.is_skipped.ensures ∙ c.if-is_skipped.false) c.search_for.ensures.line
