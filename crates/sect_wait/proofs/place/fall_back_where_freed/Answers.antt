-- Who wants what opened is marked, or nothing is changed.
use Rattle.sect_wait.proofs.MarkLemmas.{on-ok}
use Rattle.sect_wait.proofs.OpenedLemmas.{all-but, fallen-back}
use Rattle.sect_wait.proofs.place.fall_back_where_freed.Goals as goal

pub returns-then-frees-clause-others : goal.returns-then-frees-clause-others
returns-then-frees-clause-others c =
    let w = c.args.world.now.world in
    let n = c.fall_back.new.marks in
    on-ok c.fall_back.result (λ more es but. all-but w es n c.fall_back.new.opened (fallen-back w es c.args.marks.now n c.args.opened.now (more es) but)) c.fall_back.ensures.more
