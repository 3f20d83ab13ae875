-- The queue is the one that the change left, the index has what stands again, and who gives a course up is counted.
use Rattle.std.proofs.Common.{◌-◌, ◌∙◌, arith, cond, rules}
use Rattle.std.specs.Option.{option_to_list}
use Rattle.sect_wait.specs.Queued.{IsQueue}
use Rattle.sect_wait.specs.Indexed.{count_givers}
use Rattle.sect_wait.proofs.GiverLemmas.{givers-few, givers-back, givers-popped, less-same}
use Rattle.sect_wait.proofs.IndexLemmas.{index-back, index-front}
use Rattle.sect_wait.proofs.queue.Queue.take_back.Goals as goal

pub without_giver-self-inside-requires : goal.without_giver-self-inside-requires
without_giver-self-inside-requires c =
    omega (arith, givers-popped c.self.inside.givers c.self.inside.entries.items c.pop.new.self.items c.self.invariant.givers c.does_give-gives.result c.pop.result c.does_give-gives.ensures c.pop.ensures.items)

pub invariant_of-self : goal.invariant_of-self
invariant_of-self c =
    let k : IsQueue (record { entries = c.pop.new.self.items; next = c.self.inside.next - 1 }) = search rules in
    record {
      queue = k;
      index = index-front c.self.inside.index c.self.inside.entries.items c.pop.new.self.items (option_to_list c.pop.result) c.pop.ensures.items c.self.invariant.index;
      givers = less-same c.without_giver-self-inside.result (cond c.does_give-gives.result 1 0) (count_givers c.pop.new.self.items) c.self.inside.givers c.without_giver-self-inside.ensures
          (givers-popped c.self.inside.givers c.self.inside.entries.items c.pop.new.self.items c.self.invariant.givers c.does_give-gives.result c.pop.result c.does_give-gives.ensures c.pop.ensures.items);
    }

pub with_giver-self-inside-requires : goal.with_giver-self-inside-requires
with_giver-self-inside-requires c =
    omega (
      arith,
      c.put_at.new.entries.ok,
      givers-few c.put_at.new.entries.items,
      givers-back c.self.inside.givers c.self.inside.entries.items c.put_at.new.entries.items c.self.invariant.givers c.is_some-gives.result c.in-Left.entry c.in-Left.place c.is_some-gives.ensures c.put_at.ensures.items,
    )

pub invariant_of-self-in-Left : goal.invariant_of-self-in-Left
invariant_of-self-in-Left c =
    let k : IsQueue (record { entries = c.put_at.new.entries.items; next = c.self.inside.next }) = search rules in
    record {
      queue = k;
      index = index-back c.self.inside.index c.note_again.new.self c.self.inside.entries.items c.put_at.new.entries.items c.in-Left.place c.in-Left.entry c.put_at.ensures.items
          c.note_again.ensures.whole c.note_again.ensures.students c.note_again.ensures.courses c.note_again.ensures.noted c.self.invariant.index;
      givers = c.with_giver-self-inside.ensures
          ∙ givers-back c.self.inside.givers c.self.inside.entries.items c.put_at.new.entries.items c.self.invariant.givers c.is_some-gives.result c.in-Left.entry c.in-Left.place c.is_some-gives.ensures c.put_at.ensures.items;
    }
