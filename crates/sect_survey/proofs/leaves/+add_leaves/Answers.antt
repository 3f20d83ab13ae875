-- An option is smaller than its block.
use Rattle.std.proofs.Common.{◌≡◌, List, arith, ap, sym, ◌∙◌}
use Rattle.sect_base.specs.Tree.{Tree, split, trees_of, size_of}
use Rattle.sect_base.specs.TreeOf.{tree_of}
use Rattle.sect_command.proofs.Printing.{size_item}
use Rattle.sect_survey.proofs.leaves.+add_leaves.Goals as goal

pub add_leaves-requires : goal.add_leaves-requires
add_leaves-requires t c =
    let smaller = size_item c.deref-option-items.result.now c.loop-option.option-index c.option-item.result c.loop-option-test.true (sym c.option-item.is) in
    let whole : split (trees_of c.deref-option-items.result.now) ≡ c.args.tree.now = ap (λ (ts : List Tree). split (trees_of ts)) c.deref-option-items.ensures.value ∙ ap tree_of (sym c.in-Split.is) ∙ c.node.ensures in
    let same = ap size_of whole in
    (omega (arith, smaller, same, c.decreases), tt)
