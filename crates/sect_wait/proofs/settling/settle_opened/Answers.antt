-- Where memory ran out, the changes made are taken back.
use Rattle.std.proofs.Common.{◌≡◌, ◌∙◌, ap, drop, length, subst, sym, take}
use Rattle.sect_space.specs.Undo.{Since, undone}
use Rattle.sect_space.proofs.Steps.{since-none, since-undone}
use Rattle.sect_wait.specs.Queued.{state_of}
use Rattle.sect_wait.proofs.MarkLemmas.{unmarked-settled, unmarked-rests, all-others, ok-of}
use Rattle.sect_wait.proofs.OpenedLemmas.{none-but}
use Rattle.sect_wait.proofs.SettlingLemmas.{nobody-left, on-err}
use Rattle.sect_wait.proofs.settling.settle_opened.Goals as goal

pub returns-then-is_err-clause-err : goal.returns-then-is_err-clause-err
returns-then-is_err-clause-err g c =
    let w = c.args.world.now.world in
    let v = c.place_all-placed.new.world.world in
    let bs = c.args.undo.now.backs in
    let cs = c.place_all-placed.new.undo.backs in
    let back : c.undo_to.new.self.world ≡ w = c.undo_to.ensures.world ∙ ap (λ n. undone v (drop n cs)) c.len-made.ensures ∙ (since-undone w v bs cs c.recall_kept.ensures c.place_all-placed.ensures.since).0 in
    on-err c.place_all-placed.result back

pub returns-then-is_err-clause-since : goal.returns-then-is_err-clause-since
returns-then-is_err-clause-since g c =
    let w = c.args.world.now.world in
    let v = c.place_all-placed.new.world.world in
    let bs = c.args.undo.now.backs in
    let cs = c.place_all-placed.new.undo.backs in
    let undo : (undone v (drop (length bs) cs) ≡ w) × (take (length bs) cs ≡ bs) = since-undone w v bs cs c.recall_kept.ensures c.place_all-placed.ensures.since in
    let back : c.undo_to.new.self.world ≡ w = c.undo_to.ensures.world ∙ ap (λ n. undone v (drop n cs)) c.len-made.ensures ∙ undo.0 in
    let kept : c.undo_to.new.undo.backs ≡ bs = c.undo_to.ensures.recorded ∙ ap (λ n. take n cs) c.len-made.ensures ∙ undo.1 in
    subst (λ u. Since w bs u c.undo_to.new.undo.backs) (sym back) (subst (λ ds. Since w bs w ds) (sym kept) (since-none w bs))

pub returns-else-is_err-clause-nobody_left : goal.returns-else-is_err-clause-nobody_left
returns-else-is_err-clause-nobody_left g c =
    nobody-left (state_of c.args.world.now.world c.args.queue.now.queue) (state_of c.place_all-placed.new.world.world c.place_all-placed.new.queue.queue)
    c.place_all-placed.result c.place_all-placed.ensures.settled

pub returns-then-is_idle-clause-settled : goal.returns-then-is_idle-clause-settled
returns-then-is_idle-clause-settled g c =
    let w = c.args.world.now.world in
    let q = c.args.queue.now.queue in
    unmarked-settled w q c.args.marks.now (c.is_idle.ensures.none c.if-is_idle.true)
    (none-but w q.entries c.args.marks.now c.args.opened.now (c.is_idle.ensures.closed c.if-is_idle.true) c.requires.others)
    ∙ ap (λ ps. record { state = state_of w q; placed = ps }) (sym (c.from_vec.ensures ∙ c.new.ensures.items))

pub returns-then-is_idle-clause-nobody_left : goal.returns-then-is_idle-clause-nobody_left
returns-then-is_idle-clause-nobody_left g c =
    let w = c.args.world.now.world in
    let q = c.args.queue.now.queue in
    unmarked-rests w q c.args.marks.now (c.is_idle.ensures.none c.if-is_idle.true)
    (none-but w q.entries c.args.marks.now c.args.opened.now (c.is_idle.ensures.closed c.if-is_idle.true) c.requires.others)

pub returns-then-is_err-clause-others : goal.returns-then-is_err-clause-others
returns-then-is_err-clause-others g c = all-others c.undo_to.new.self.world c.undo_to-then-is_err.new.self.queue.entries c.place_all-placed.new.marks c.mark_all.new.self c.mark_all.ensures

pub returns-else-is_err-clause-others : goal.returns-else-is_err-clause-others
returns-else-is_err-clause-others g c = ok-of c.place_all-placed.result (sym c.is_err.ensures.value ∙ c.if-is_err.false) c.place_all-placed.ensures.others

pub returns-then-is_idle-clause-others : goal.returns-then-is_idle-clause-others
returns-then-is_idle-clause-others g c =
    none-but c.args.world.now.world c.args.queue.now.queue.entries c.args.marks.now c.args.opened.now (c.is_idle.ensures.closed c.if-is_idle.true) c.requires.others
