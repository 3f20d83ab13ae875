-- Each turn reads one more value, and the loop ends where none starts.
use Rattle.std.proofs.Common.{◌∙◌, sym, arith}
use Rattle.sect_words.proofs.Loops.{reach_step_to, reach_end}
use Rattle.sect_read.proofs.read_phrase.read_each.Goals as goal

pub loop-alloc-preserved : goal.loop-alloc-preserved
loop-alloc-preserved g c = record {
  reaches =
      reach_step_to g.T.ReadPhrase.starts (g.T.ReadPhrase.at c.args.shown) c.loop-alloc.items.items c.push_with_room.new.items.items c.loop-alloc.words c.read.new.words c.in_ok-item.item _ c.loop-alloc.invariant.reaches
      (sym c.starts.ensures ∙ c.loop-alloc-test.true) c.in_ok-item.ensures.reads c.in_ok-item.ensures.shorter c.in_ok-push_with_room.ensures.items;
  longest = omega (arith, c.in_ok-item.ensures.shorter, c.loop-alloc.invariant.longest);
}

pub returns-clause-reads : goal.returns-clause-reads
returns-clause-reads g c =
    rw c.from_vec.ensures
    (reach_end g.T.ReadPhrase.starts (g.T.ReadPhrase.at c.args.shown) c.loop-alloc.items.items c.loop-alloc.words _ c.loop-alloc.invariant.reaches (sym c.starts.ensures ∙ c.loop-alloc-test.false))
