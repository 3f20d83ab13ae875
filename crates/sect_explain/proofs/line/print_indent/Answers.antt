-- Two spaces more, and none left.
use Rattle.std.proofs.Common.{arith}
use Rattle.std.proofs.lemmas.Grind.{common_steps}
use Rattle.sect_explain.specs.Explained.{indent}
use Rattle.std.specs.Prelude.{◌++◌}
use Rattle.sect_explain.proofs.ExplainLemmas.{indent-more, indent-none}
use Rattle.sect_explain.proofs.line.print_indent.Goals as goal

pub loop-left-preserved : goal.loop-left-preserved
loop-left-preserved c = record {
  whole = indent-more c.loop-left.left c.loop-left.into.items c.print_text.new.into.items (c.args.into.now.items ++ indent c.args.depth) c.loop-left-test.true
      c.in_ok-print_text.ensures.text c.loop-left.invariant.whole;
  front = grind (arith, common_steps);
}

pub returns-clause-text : goal.returns-clause-text
returns-clause-text c = indent-none c.loop-left.left c.loop-left.into.items (c.args.into.now.items ++ indent c.args.depth) c.loop-left-test.false c.loop-left.invariant.whole
