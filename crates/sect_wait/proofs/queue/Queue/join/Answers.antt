-- The entry that joined is the last, and the changes before it can still be taken back.
use Rattle.std.proofs.Common.{◌≤◌, ◌∙◌, ◌++◌, [], ◌∷◌, ap, arith, subst, sym, length, vec_capacity}
use Rattle.sect_wait.specs.declared.back.QueueBack.TheVariants.{Joined}
use Rattle.sect_wait.specs.Queued.{Queued, new_entry}
use Rattle.sect_wait.specs.Indexed.{IsIndexed}
use Rattle.sect_wait.proofs.GiverLemmas.{givers-few, givers-joined}
use Rattle.sect_wait.proofs.IndexLemmas.{index-joined, index-kept}
use Rattle.sect_wait.proofs.UndoLemmas.{join-queue, join-undoable, keep-undoable}
use Rattle.sect_wait.proofs.queue.Queue.join.Goals as goal

pub returns-in_err-push-clause-undoable : goal.returns-in_err-push-clause-undoable
returns-in_err-push-clause-undoable c =
    let i = c.self.inside in
    let q : Queued = record { entries = i.entries.items; next = i.next } in
    rw (← c.self.view_is, ← c.undo.view_is)
    (keep-undoable (vec_capacity i.entries) (vec_capacity c.push.new.self) q c.undo.inside.backs.items c.reserve.new.self.items c.push.new.self.items c.in_err-push.ensures.items c.reserve.ensures.items c.push.ensures.capacity)

pub invariant_of-self-2 : goal.invariant_of-self-2
invariant_of-self-2 c =
    let i = c.self.inside in
    let q : Queued = record { entries = i.entries.items; next = i.next } in
    let e = new_entry i.next c.args.student c.args.want c.args.give c.args.class in
    record {
      queue = join-queue q e c.push.new.self.items c.self.invariant.queue (λ _. i.next) c.in_ok-push.ensures.items;
      index = index-joined i.index c.note.new.self i.entries.items c.push.new.self.items e c.in_ok-push.ensures.items c.note.ensures.whole c.note.ensures.students c.note.ensures.courses
          c.in_ok-note.ensures.noted c.self.invariant.index;
      givers = c.with_giver-self-inside.ensures ∙ givers-joined i.givers i.entries.items c.push.new.self.items c.self.invariant.givers c.is_some-gives.result e c.is_some-gives.ensures c.in_ok-push.ensures.items;
    }

pub with_giver-self-inside-requires : goal.with_giver-self-inside-requires
with_giver-self-inside-requires c =
    let i = c.self.inside in
    let e = new_entry i.next c.args.student c.args.want c.args.give c.args.class in
    omega (arith, c.push.new.self.ok, givers-few c.push.new.self.items, givers-joined i.givers i.entries.items c.push.new.self.items c.self.invariant.givers c.is_some-gives.result e c.is_some-gives.ensures c.in_ok-push.ensures.items)

pub invariant_of-self : goal.invariant_of-self
invariant_of-self c =
    let i = c.self.inside in
    record {
      queue = c.self.invariant.queue;
      index = index-kept i.index c.note.new.self i.entries.items c.note.ensures.whole c.note.ensures.students c.note.ensures.courses c.self.invariant.index;
      givers = c.self.invariant.givers;
    }

pub invariant_of-self-in_err-push : goal.invariant_of-self-in_err-push
invariant_of-self-in_err-push c =
    let i = c.self.inside in
    subst (λ fs. IsIndexed (record { entries = fs; next = i.next }) c.note.new.self i.givers) (sym c.in_err-push.ensures.items) (record {
      queue = c.self.invariant.queue;
      index = index-kept i.index c.note.new.self i.entries.items c.note.ensures.whole c.note.ensures.students c.note.ensures.courses c.self.invariant.index;
      givers = c.self.invariant.givers;
    })

pub returns-clause-undoable : goal.returns-clause-undoable
returns-clause-undoable c =
    let i = c.self.inside in
    let q : Queued = record { entries = i.entries.items; next = i.next } in
    let few : length i.entries.items ≤ vec_capacity i.entries = omega (arith, i.entries.ok) in
    rw (← c.self.view_is, ← c.undo.view_is)
    (join-undoable (vec_capacity i.entries) (vec_capacity c.push.new.self) q (new_entry i.next c.args.student c.args.want c.args.give c.args.class) c.undo.inside.backs.items c.push-2.new.self.items c.push.new.self.items
    c.self.invariant.queue c.in_ok-push.ensures.items (c.in_ok-push-2.ensures.items ∙ ap (λ bs. bs ++ Joined ∷ []) c.reserve.ensures.items) c.push.ensures.capacity few)
