-- Each turn tries one ticket more, and at the end all sought ones were tried.
use Rattle.std.proofs.Common.{[], ◌≤◌, ◌∷◌, ◌+◌, ◌++◌, arith, length, sym, subst, take, get_or}
use Rattle.std.proofs.lemmas.List.{take_more, take_all}
use Rattle.std.specs.Option.{option_or}
use Rattle.sect_wait.specs.Placing.{Tried}
use Rattle.sect_wait.specs.Touched.{AreOnList, count_tried}
use Rattle.sect_wait.proofs.CountLemmas.{again-both, at-least, none-on-list, on-list-more, steps-more, tried-sought}
use Rattle.sect_wait.proofs.TriedLemmas.{tried-none, tried-best, tried-others}
use Rattle.sect_wait.proofs.next.best_of_sought.Goals as goal

pub loop-ticket-init : goal.loop-ticket-init
loop-ticket-init g c = (tried-none c.args.world.now.world c.args.queue.now.queue.entries c.args.marks.now.spent c.args.left.now, at-least c.args.steps.now (count_tried c.args.marks.now c.args.opened.now c.args.queue.now.queue.entries c.new-tried.result), none-on-list c.new-tried.result c.new-tried.ensures.empty, λ t none out. out)

pub loop-ticket-preserved : goal.loop-ticket-preserved
loop-ticket-preserved g c =
    let w = c.args.world.now.world in
    let es = c.args.queue.now.queue.entries in
    let ts = c.args.tickets.now in
    let i = c.loop-ticket.ticket-index in
    let before = take i ts in
    let more = take_more ts i 0 c.loop-ticket-test.true in
    let new = option_or c.in_ok-better_by.field-0 c.loop-ticket.best in
    let tried : Tried w es (before ++ get_or ts i 0 ∷ []) new c.args.marks.now.spent c.better_by.new.left = c.in_ok-better_by.ensures.tried before c.loop-ticket.invariant.2 c.loop-ticket.invariant.0 in (
      subst (λ o. Tried w es (take (i + 1) ts) o c.args.marks.now.spent c.better_by.new.left) (sym c.or-best.ensures)
          (subst (λ us. Tried w es us new c.args.marks.now.spent c.better_by.new.left) (sym more) tried),
      steps-more c.args.steps.now c.loop-ticket.steps c.better_by.new.steps (count_tried c.args.marks.now c.args.opened.now es c.loop-ticket.tried) (count_tried c.args.marks.now c.args.opened.now es c.better_by.new.tried)
          c.loop-ticket.invariant.1 c.in_ok-better_by.ensures.steps,
      subst (AreOnList c.better_by.new.tried) (sym more) (on-list-more c.loop-ticket.tried c.better_by.new.tried before (get_or ts i 0) c.loop-ticket.invariant.2 c.in_ok-better_by.ensures.puts),
      again-both c.args.marks.now c.args.opened.now es c.args.left.now.again.items c.loop-ticket.left.again.items c.better_by.new.left.again.items c.loop-ticket.invariant.3 c.in_ok-better_by.ensures.again,
    )

pub returns-clause-best : goal.returns-clause-best
returns-clause-best g c =
    let w = c.args.world.now.world in
    let q = c.args.queue.now.queue in
    let ts = c.args.tickets.now in
    let past : length ts ≤ c.loop-ticket.ticket-index = omega (arith, c.loop-ticket-test.false) in
    tried-best w q.entries q.next ts c.loop-ticket.best c.args.marks.now.spent c.loop-ticket.left c.recall_kept.ensures.kept.in_order
    (subst (λ us. Tried w q.entries us c.loop-ticket.best c.args.marks.now.spent c.loop-ticket.left) (take_all c.loop-ticket.ticket-index ts past) c.loop-ticket.invariant.0)
    (λ e a h. c.requires.others e a (c.requires.all e a h))

pub returns-clause-others : goal.returns-clause-others
returns-clause-others g c =
    let w = c.args.world.now.world in
    let q = c.args.queue.now.queue in
    let ts = c.args.tickets.now in
    let past : length ts ≤ c.loop-ticket.ticket-index = omega (arith, c.loop-ticket-test.false) in
    tried-others w q.entries q.next ts c.loop-ticket.best c.args.marks.now.spent c.loop-ticket.left c.recall_kept.ensures.kept.in_order
    (subst (λ us. Tried w q.entries us c.loop-ticket.best c.args.marks.now.spent c.loop-ticket.left) (take_all c.loop-ticket.ticket-index ts past) c.loop-ticket.invariant.0)
    (λ e a h. c.requires.others e a (c.requires.all e a h))

pub returns-clause-steps : goal.returns-clause-steps
returns-clause-steps g c =
    tried-sought c.args.marks.now c.args.opened.now c.args.queue.now.queue.entries c.loop-ticket.tried c.args.steps.now c.loop-ticket.steps c.loop-ticket.invariant.1
