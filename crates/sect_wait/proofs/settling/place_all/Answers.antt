-- Each round places the first entry that can be placed.
use Rattle.std.proofs.Common.{Some, None, ◌+◌, ◌*◌, ◌≡◌, ◌∙◌, ◌++◌, [], ◌∷◌, ◌≤◌, suc, ap, sym, subst, length}
use Rattle.sect_space.proofs.Steps.{since-both}
use Rattle.sect_wait.specs.Placing.{OthersAfter, placed_of}
use Rattle.sect_wait.specs.Queued.{state_of}
use Rattle.sect_wait.proofs.PlacingLemmas.{best-fits}
use Rattle.sect_wait.proofs.SettlingLemmas.{best-of, shorter, settling-more, settling-done}
use Rattle.sect_wait.specs.Touched.{count_touched}
use Rattle.sect_wait.proofs.TouchedLemmas.{counting-done, counting-more}
use Rattle.sect_wait.proofs.UndoLemmas.{since-joins}
use Rattle.sect_wait.proofs.settling.place_all.Goals as goal

pub place-requires-clause-fits : goal.place-requires-clause-fits
place-requires-clause-fits g c =
    let w = c.rounds.world.world in
    let es = c.rounds.queue.queue.entries in
    best-fits w es c.in-Some.candidate c.rounds.invariant.0.kept.entries_fit (best-of w es c.in_ok-candidate.field-0 (Some c.in-Some.candidate) c.in-Some.is c.in_ok-candidate.ensures.best)

pub returns-in_err-place-in-Some-clause-since : goal.returns-in_err-place-in-Some-clause-since
returns-in_err-place-in-Some-clause-since g c =
    since-both c.args.world.now.world c.rounds.world.world c.place.new.world.world c.args.undo.now.backs c.rounds.undo.backs c.place.new.undo.backs c.rounds.invariant.1 c.place.ensures.since

pub returns-in_err-place-in-Some-clause-queue_since : goal.returns-in_err-place-in-Some-clause-queue_since
returns-in_err-place-in-Some-clause-queue_since g c =
    since-joins c.args.queue.now.queue c.rounds.queue.queue c.place.new.queue.queue c.args.queue_undo.now c.rounds.queue_undo c.place.new.queue_undo c.rounds.invariant.2 c.place.ensures.queue_since

pub returns-in_err-push-in-Some-clause-since : goal.returns-in_err-push-in-Some-clause-since
returns-in_err-push-in-Some-clause-since g c =
    since-both c.args.world.now.world c.rounds.world.world c.place.new.world.world c.args.undo.now.backs c.rounds.undo.backs c.place.new.undo.backs c.rounds.invariant.1 c.place.ensures.since

pub returns-in_err-push-in-Some-clause-queue_since : goal.returns-in_err-push-in-Some-clause-queue_since
returns-in_err-push-in-Some-clause-queue_since g c =
    since-joins c.args.queue.now.queue c.rounds.queue.queue c.place.new.queue.queue c.args.queue_undo.now c.rounds.queue_undo c.place.new.queue_undo c.rounds.invariant.2 c.place.ensures.queue_since

pub rounds-smaller : goal.rounds-smaller
rounds-smaller g c =
    let w = c.rounds.world.world in
    let q = c.rounds.queue.queue in
    subst (λ p. suc (length p.entries) ≤ length q.entries) (sym c.in_ok-place-in-Some.ensures.queue)
    (shorter w q c.in-Some.candidate c.rounds.invariant.0.kept (best-of w q.entries c.in_ok-candidate.field-0 (Some c.in-Some.candidate) c.in-Some.is c.in_ok-candidate.ensures.best))

pub rounds-preserved : goal.rounds-preserved
rounds-preserved g c =
    let w = c.rounds.world.world in
    let q = c.rounds.queue.queue in
    let d = c.in-Some.candidate in
    let more : c.push.new.self.items ≡ c.rounds.placed.items ++ placed_of d ∷ [] = c.in_ok-push-in-Some.ensures.items ∙ ap (λ p. c.rounds.placed.items ++ p ∷ []) c.placed_of.ensures in (
      settling-more c.args.world.now.world c.args.queue.now.queue w q c.rounds.placed.items d c.place.new.world.world c.place.new.queue.queue c.push.new.self.items
          c.rounds.invariant.0 (best-of w q.entries c.in_ok-candidate.field-0 (Some d) c.in-Some.is c.in_ok-candidate.ensures.best)
          c.in_ok-place-in-Some.ensures.world c.in_ok-place-in-Some.ensures.queue more,
      since-both c.args.world.now.world w c.place.new.world.world c.args.undo.now.backs c.rounds.undo.backs c.place.new.undo.backs c.rounds.invariant.1 c.place.ensures.since,
      since-joins c.args.queue.now.queue q c.place.new.queue.queue c.args.queue_undo.now c.rounds.queue_undo c.place.new.queue_undo c.rounds.invariant.2 c.place.ensures.queue_since,
      c.place.ensures.undoable,
      c.place.ensures.queue_undoable,
      c.in_ok-place-in-Some.ensures.others,
      counting-more c.args.world.now.world c.args.queue.now.queue c.args.marks.now c.args.opened.now.courses.items c.args.steps.now w q c.rounds.marks c.rounds.opened.courses.items c.rounds.placed.items c.rounds.steps c.rounds.invariant.6
          c.shut.new.marks c.shut.new.opened c.next.new.steps c.in_ok-shut.ensures.only c.in_ok-candidate.ensures.steps d
          (best-of w q.entries c.in_ok-candidate.field-0 (Some d) c.in-Some.is c.in_ok-candidate.ensures.best) c.place.new.marks c.place.new.opened.courses.items c.next.new.marks c.in_ok-candidate.ensures.only
          c.in_ok-place-in-Some.ensures.only c.place.new.world.world c.place.new.queue.queue c.push.new.self.items c.in_ok-place-in-Some.ensures.world c.in_ok-place-in-Some.ensures.queue more,
    )

pub returns-in-None-clause-settled : goal.returns-in-None-clause-settled
returns-in-None-clause-settled g c =
    let w = c.rounds.world.world in
    let q = c.rounds.queue.queue in
    settling-done c.args.world.now.world c.args.queue.now.queue w q c.rounds.placed.items c.rounds.invariant.0
    (best-of w q.entries c.in_ok-candidate.field-0 None c.in-None.is c.in_ok-candidate.ensures.best)
    ∙ ap (λ ps. record { state = state_of w q; placed = ps }) (sym c.from_vec.ensures)

pub returns-in-None-clause-steps : goal.returns-in-None-clause-steps
returns-in-None-clause-steps g c =
    let w = c.rounds.world.world in
    let q = c.rounds.queue.queue in
    subst (λ ps. c.next.new.steps ≤ c.args.steps.now + (length ps + 1) * count_touched c.args.world.now.world c.args.queue.now.queue.entries c.args.marks.now c.args.opened.now.courses.items ps) (sym c.from_vec.ensures)
    (counting-done c.args.world.now.world c.args.queue.now.queue c.args.marks.now c.args.opened.now.courses.items c.args.steps.now w q c.rounds.marks c.rounds.opened.courses.items c.rounds.placed.items c.rounds.steps c.rounds.invariant.6
    c.shut.new.marks c.shut.new.opened c.next.new.steps c.in_ok-shut.ensures.only c.in_ok-candidate.ensures.steps)

pub next-requires-clause-others : goal.next-requires-clause-others
next-requires-clause-others g c = c.in_ok-shut.ensures.others c.rounds.invariant.5

pub place-requires-clause-others : goal.place-requires-clause-others
place-requires-clause-others g c =
    subst (λ b. OthersAfter c.rounds.world.world c.rounds.queue.queue.entries b c.next.new.marks c.shut.new.opened) c.in-Some.is c.in_ok-candidate.ensures.others

pub returns-in-None-clause-others : goal.returns-in-None-clause-others
returns-in-None-clause-others g c =
    subst (λ b. OthersAfter c.rounds.world.world c.rounds.queue.queue.entries b c.next.new.marks c.shut.new.opened) c.in-None.is c.in_ok-candidate.ensures.others
