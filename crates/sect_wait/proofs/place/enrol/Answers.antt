-- What the enrolment may open is marked.
use Rattle.sect_wait.specs.Placing.{enrolment_of}
use Rattle.sect_wait.proofs.OpenedLemmas.{enrolled-ok}
use Rattle.sect_wait.specs.Touched.{is_concerned}
use Rattle.std.proofs.Common.{false, refl}
use Rattle.sect_wait.proofs.OnlyLemmas.{any-ok, both-seek, marks-seek}
use Rattle.sect_wait.proofs.place.enrol.Goals as goal

pub returns-clause-others : goal.returns-clause-others
returns-clause-others c =
    let w = c.args.world.now.world in
    let es = c.args.queue.now.queue.entries in
    enrolled-ok w c.make.new.world.world es c.fall_back_where_freed.new.marks c.mark_enrolment.new.marks c.fall_back_where_freed.new.opened (enrolment_of c.args.candidate.now) c.make.result c.recall_kept.ensures
    c.requires.fits c.requires.fit c.make.ensures.ok (c.in_ok-fall_back_where_freed.ensures.others es c.requires.others) c.in_ok-mark_enrolment.ensures.more c.in_ok-fall_back_where_freed.ensures.none

pub returns-clause-only : goal.returns-clause-only
returns-clause-only c =
    let es = c.args.queue.now.queue.entries in
    let d = c.args.candidate.now in
    let test = is_concerned c.args.world.now.world d.student d.choice.course in
    let k = c.fall_back_where_freed.new.marks in
    let n = c.mark_enrolment.new.marks in
    let ds = c.fall_back_where_freed.new.opened.courses.items in
    any-ok c.make.result (both-seek (λ e. false) test test es c.args.marks.now k n c.args.opened.now.courses.items ds ds (λ e none. (refl, none)) (c.in_ok-fall_back_where_freed.ensures.only es)
    (marks-seek test es k n ds c.in_ok-mark_enrolment.ensures.only))
