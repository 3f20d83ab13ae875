-- One leaf more.
use Rattle.std.specs.Prelude.{nat_eq}
use Rattle.std.specs.HashSet.{contains}
use Rattle.sect_survey.specs.Counted.{count_in}
use Rattle.sect_survey.proofs.CountLemmas.{seen-more, section-more}
use Rattle.sect_survey.proofs.tally.count_sections.Goals as goal

pub loop-leaf-preserved : goal.loop-leaf-preserved
loop-leaf-preserved c = record {
  seen = λ section.
      seen-more c.args.leaves.now section c.loop-leaf.leaf-index _ (contains nat_eq c.loop-leaf.seen section.0) (contains nat_eq c.count_section.new.seen section.0)
      c.loop-leaf-test.true (c.loop-leaf.invariant.seen section) (c.in_ok-count_section.ensures.seen section);
  counts = λ section.
      section-more c.args.leaves.now section c.loop-leaf.leaf-index _ (contains nat_eq c.loop-leaf.seen section.0) (count_in c.args.counts.now section.0) (count_in c.loop-leaf.counts section.0)
      (count_in c.count_section.new.counts section.0) c.loop-leaf-test.true (c.loop-leaf.invariant.seen section) (c.loop-leaf.invariant.counts section) (c.in_ok-count_section.ensures.counts section);
}
