-- Where nobody waits for the offering, what the leaving may open is marked.
use Rattle.sect_model.specs.declared.change.Change.TheVariants.{Leave}
use Rattle.sect_wait.proofs.MarkLemmas.{changed-others}
use Rattle.std.proofs.Common.{refl}
use Rattle.sect_wait.proofs.NeedLemmas.{plain-marks}
use Rattle.sect_wait.proofs.OpenedLemmas.{all-but}
use Rattle.std.proofs.Common.{[], subst, sym}
use Rattle.sect_wait.specs.Touched.{SeeksOnly, is_concerned}
use Rattle.sect_wait.proofs.OnlyLemmas.{marks-seek}
use Rattle.sect_wait.proofs.leaving.leave_course.Goals as goal

pub returns-in_ok-make-clause-others : goal.returns-in_ok-make-clause-others
returns-in_ok-make-clause-others c =
    let w = c.args.world.now.world in
    let v = c.make.new.world.world in
    let es = c.args.queue.now.queue.entries in
    all-but v es c.mark_leaving.new.marks c.none.result
    (changed-others w v es c.args.marks.now c.mark_leaving.new.marks (Leave c.args.student c.args.course) c.recall_kept.ensures c.requires.held c.requires.fit c.in_ok-make.ensures.ok c.requires.others
    (plain-marks w es c.args.marks.now c.mark_leaving.new.marks (Leave c.args.student c.args.course) (λ e. refl) c.in_ok-mark_leaving.ensures.more))

pub returns-in_ok-make-clause-only : goal.returns-in_ok-make-clause-only
returns-in_ok-make-clause-only c =
    let w = c.args.world.now.world in
    let es = c.args.queue.now.queue.entries in
    let n = c.mark_leaving.new.marks in
    subst (λ cs. SeeksOnly (is_concerned w c.args.student c.args.course) es c.args.marks.now [] n cs) (sym c.none.ensures.courses)
    (marks-seek (is_concerned w c.args.student c.args.course) es c.args.marks.now n [] c.in_ok-mark_leaving.ensures.only)
