-- What the leaving may open is marked.
use Rattle.std.proofs.Common.{◌∙◌, false, refl, sym}
use Rattle.sect_model.specs.declared.change.Change.TheVariants.{Leave}
use Rattle.sect_wait.proofs.MarkLemmas.{made-others, left-fit, on-ok}
use Rattle.sect_wait.proofs.NeedLemmas.{plain-marks}
use Rattle.sect_wait.proofs.OpenedLemmas.{all-but, fallen-back}
use Rattle.sect_wait.specs.Touched.{is_concerned}
use Rattle.sect_wait.proofs.OnlyLemmas.{any-ok, both-seek, marks-seek}
use Rattle.sect_wait.proofs.place.leave.Goals as goal

pub returns-in_ok-mark_leaving-clause-fit : goal.returns-in_ok-mark_leaving-clause-fit
returns-in_ok-mark_leaving-clause-fit c =
    left-fit c.args.world.now.world c.make.new.world.world c.args.queue.now.queue.entries c.args.student c.args.course c.make.result c.make.ensures.ok c.requires.fit

pub returns-in_ok-mark_leaving-clause-others : goal.returns-in_ok-mark_leaving-clause-others
returns-in_ok-mark_leaving-clause-others c =
    let w = c.args.world.now.world in
    let v = c.make.new.world.world in
    let es = c.args.queue.now.queue.entries in
    on-ok c.make.result (all-but v es c.mark_leaving.new.marks c.fall_back.new.opened)
    (made-others w v es c.fall_back.new.marks c.mark_leaving.new.marks (Leave c.args.student c.args.course) c.make.result c.recall_kept.ensures
    (sym c.holds.ensures ∙ c.if-holds.true) c.requires.fit c.make.ensures.ok
    (fallen-back w es c.args.marks.now c.fall_back.new.marks c.args.opened.now (c.in_ok-fall_back.ensures.more es) c.requires.others)
    (plain-marks w es c.fall_back.new.marks c.mark_leaving.new.marks (Leave c.args.student c.args.course) (λ e. refl) c.in_ok-mark_leaving.ensures.more))

pub returns-in_ok-mark_leaving-clause-only : goal.returns-in_ok-mark_leaving-clause-only
returns-in_ok-mark_leaving-clause-only c =
    let es = c.args.queue.now.queue.entries in
    let test = is_concerned c.args.world.now.world c.args.student c.args.course in
    let k = c.fall_back.new.marks in
    let n = c.mark_leaving.new.marks in
    let ds = c.fall_back.new.opened.courses.items in
    any-ok c.make.result (both-seek (λ e. false) test test es c.args.marks.now k n c.args.opened.now.courses.items ds ds (λ e none. (refl, none)) (c.in_ok-fall_back.ensures.only es)
    (marks-seek test es k n ds c.in_ok-mark_leaving.ensures.only))
