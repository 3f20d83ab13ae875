-- An option more with its tree, which is smaller than the split, and none left.
use Rattle.std.specs.Prelude.{◌≡◌, ◌+◌, ◌++◌, List, slice_get}
use Rattle.std.proofs.Common.{◌∙◌, ap, sym, arith}
use Rattle.sect_base.specs.Tree.{Tree, split, trees_of, size_of}
use Rattle.sect_base.specs.TreeOf.{tree_of}
use Rattle.sect_command.proofs.Printing.{front_stays, size_item}
use Rattle.sect_model.specs.Path.{options_at}
use Rattle.sect_explain.specs.Explained.{explain_each}
use Rattle.sect_explain.proofs.ExplainLemmas.{explain-split, got, one-more, without-option, without-tree}
use Rattle.sect_explain.proofs.tree.+print_below.Goals as goal

pub returns-in-None-clause-text : goal.returns-in-None-clause-text
returns-in-None-clause-text t c =
    let w = c.args.world.now.world in
    let mv = c.args.mv.now in
    let p = c.args.path.now in
    let trees = c.deref-tree-items.result.now in
    let same : split (trees_of trees) ≡ c.args.tree.now = ap (λ (ts : List Tree). split (trees_of ts)) c.deref-tree-items.ensures.value ∙ ap tree_of (sym c.in-Split.is) ∙ c.node.ensures in
    without-option w mv p c.args.depth (options_at w mv p) trees c.loop-tree.at c.loop-tree.into.items (c.args.into.now.items ++ explain_each w mv p c.args.depth (options_at w mv p) (trees_of trees))
    (sym c.option.ensures.value ∙ c.in-None.is) c.loop-tree.invariant.whole
    ∙ explain-split w mv p c.args.depth trees c.args.tree.now c.args.into.now.items same

pub print_below-requires : goal.print_below-requires
print_below-requires t c =
    let smaller = size_item c.deref-tree-items.result.now c.loop-tree.tree-index c.tree-item.result c.loop-tree-test.true (sym c.tree-item.is) in
    let whole : split (trees_of c.deref-tree-items.result.now) ≡ c.args.tree.now = ap (λ (ts : List Tree). split (trees_of ts)) c.deref-tree-items.ensures.value ∙ ap tree_of (sym c.in-Split.is) ∙ c.node.ensures in
    let same = ap size_of whole in
    (omega (arith, smaller, same, c.decreases), c.requires)

pub loop-tree-preserved : goal.loop-tree-preserved
loop-tree-preserved t c =
    let w = c.args.world.now.world in
    let mv = c.args.mv.now in
    let p = c.args.path.now in
    let trees = c.deref-tree-items.result.now in
    let read = got trees c.loop-tree.tree-index c.tree-item.result c.loop-tree-test.true (sym c.tree-item.is) in
    record {
      place = ap (λ n. n + 1) c.loop-tree.invariant.place;
      whole = one-more w mv p c.args.depth (options_at w mv p) trees c.loop-tree.at c.in-Some.pick c.tree-item.result c.extended.result
          (c.args.into.now.items ++ explain_each w mv p c.args.depth (options_at w mv p) (trees_of trees)) c.loop-tree.into.items c.print_decision.new.into.items c.print_below.new.into.items
          c.in_ok-below-in-Split.below (sym c.option.ensures.value ∙ c.in-Some.is) (ap (slice_get trees) c.loop-tree.invariant.place ∙ read) c.loop-tree.invariant.whole
          c.in_ok-print_decision-in-Split.ensures.text c.in_ok-below-in-Split.ensures c.extended.ensures c.in_ok-print_below-in-Split.ensures.text;
      front = front_stays c.args.into.now.items c.loop-tree.into.items c.print_below.new.into.items c.loop-tree.invariant.front
          (front_stays c.loop-tree.into.items c.print_decision.new.into.items c.print_below.new.into.items c.print_decision.ensures.front c.print_below.ensures.front);
    }

pub returns-after-loop-tree-clause-text : goal.returns-after-loop-tree-clause-text
returns-after-loop-tree-clause-text t c =
    let w = c.args.world.now.world in
    let mv = c.args.mv.now in
    let p = c.args.path.now in
    let trees = c.deref-tree-items.result.now in
    let same : split (trees_of trees) ≡ c.args.tree.now = ap (λ (ts : List Tree). split (trees_of ts)) c.deref-tree-items.ensures.value ∙ ap tree_of (sym c.in-Split.is) ∙ c.node.ensures in
    without-tree w mv p c.args.depth (options_at w mv p) trees c.loop-tree.at c.loop-tree.into.items (c.args.into.now.items ++ explain_each w mv p c.args.depth (options_at w mv p) (trees_of trees))
    (omega (arith, c.loop-tree-test.false, c.loop-tree.invariant.place)) c.loop-tree.invariant.whole
    ∙ explain-split w mv p c.args.depth trees c.args.tree.now c.args.into.now.items same
