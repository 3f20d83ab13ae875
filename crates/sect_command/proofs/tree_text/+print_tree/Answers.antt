-- What is printed of an option stands behind what stood before, and an option is smaller than its block.
use Rattle.std.proofs.Common.{◌≡◌, length, take, arith, ap, sym, ◌∙◌, List}
use Rattle.std.proofs.lemmas.Grind.{common_steps}
use Rattle.sect_base.specs.Tree.{Tree, split, trees_of, size_of}
use Rattle.sect_base.specs.TreeOf.{tree_of}
use Rattle.sect_command.proofs.Printing.{front_stays, size_item}
use Rattle.sect_command.proofs.tree_text.+print_tree.Goals as goal
use Rattle.sect_command.proofs.tree_text.+print_tree.Goals.{then-not-first+in_ok-push-in-Split-2, else-not-first}

pub print_tree-requires : goal.print_tree-requires
print_tree-requires t c =
    let smaller = size_item c.deref-option-items.result.now c.loop-option.option-index c.option-item.result c.loop-option-test.true (sym c.option-item.is) in
    let whole : split (trees_of c.deref-option-items.result.now) ≡ c.args.b.now = ap (λ (ts : List Tree). split (trees_of ts)) c.deref-option-items.ensures.value ∙ ap tree_of (sym c.in-Split.is) ∙ c.node.ensures in
    let same = ap size_of whole in
    (omega (arith, smaller, same, c.decreases), tt)

pub returns-in_err-print_tree-in-Split-clause-front :
    goal.returns-in_err-print_tree-in-Split-clause-front
returns-in_err-print_tree-in-Split-clause-front t c =
    let front : take (length c.args.into.now.items) c.if-not-first.into.items ≡ c.args.into.now.items =
    elim c.if-not-first.branch [ then-not-first+in_ok-push-in-Split-2 w ↦ grind (arith, common_steps) | else-not-first w ↦ grind (arith, common_steps) ] in
    front_stays c.args.into.now.items c.if-not-first.into.items c.print_tree.new.into.items front c.print_tree.ensures.front
