-- Where memory ran out, the enrolments made are taken back.
use Rattle.std.proofs.Common.{◌≡◌, ◌∙◌, ap, drop, length, subst, sym, take}
use Rattle.sect_space.specs.Undo.{Since, undone}
use Rattle.sect_space.proofs.Steps.{since-none, since-undone}
use Rattle.sect_batch.proofs.BatchLemmas.{on-err}
use Rattle.sect_batch.proofs.batching.all_or_none.Goals as goal

pub returns-then-is_err-clause-err : goal.returns-then-is_err-clause-err
returns-then-is_err-clause-err g c =
    let w = c.args.world.now.world in
    let v = c.all_lines-lines.new.world.world in
    let bs = c.args.undo.now.backs in
    let cs = c.all_lines-lines.new.undo.backs in
    let back : c.undo_to.new.self.world ≡ w = c.undo_to.ensures.world ∙ ap (λ n. undone v (drop n cs)) c.len-made.ensures ∙ (since-undone w v bs cs c.recall_kept.ensures c.all_lines-lines.ensures.since).0 in
    on-err c.all_lines-lines.result back

pub returns-then-is_err-clause-since : goal.returns-then-is_err-clause-since
returns-then-is_err-clause-since g c =
    let w = c.args.world.now.world in
    let v = c.all_lines-lines.new.world.world in
    let bs = c.args.undo.now.backs in
    let cs = c.all_lines-lines.new.undo.backs in
    let undo : (undone v (drop (length bs) cs) ≡ w) × (take (length bs) cs ≡ bs) = since-undone w v bs cs c.recall_kept.ensures c.all_lines-lines.ensures.since in
    let back : c.undo_to.new.self.world ≡ w = c.undo_to.ensures.world ∙ ap (λ n. undone v (drop n cs)) c.len-made.ensures ∙ undo.0 in
    let kept : c.undo_to.new.undo.backs ≡ bs = c.undo_to.ensures.recorded ∙ ap (λ n. take n cs) c.len-made.ensures ∙ undo.1 in
    subst (λ u. Since w bs u c.undo_to.new.undo.backs) (sym back) (subst (λ ds. Since w bs w ds) (sym kept) (since-none w bs))
