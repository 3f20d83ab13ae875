-- The router's rows are the routes of the desk.
use Rattle.matchit.proofs.OnLiterals.{matchit_on_literals}
use Rattle.sect_answer.proofs.routes.desk_router.Goals as goal

pub returns : goal.returns
unfolding matchit_on_literals
returns c =
    let r1 = rw c.new-router.ensures at c.in_ok-insert.ensures.1 in
    let r2 = rw r1 at c.in_ok-insert-2.ensures.1 in
    let r3 = rw r2 at c.in_ok-insert-3.ensures.1 in
    let r4 = rw r3 at c.in_ok-insert-4.ensures.1 in
    let r5 = rw r4 at c.in_ok-insert-5.ensures.1 in
    let r6 = rw r5 at c.in_ok-insert-6.ensures.1 in
    rw r6 at c.in_ok-insert-7.ensures.1
