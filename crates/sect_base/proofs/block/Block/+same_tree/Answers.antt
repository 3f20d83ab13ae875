-- lists of two lengths are two lists
use Rattle.std.proofs.Common.{◌≡◌, sym, ap, ◌∙◌, length, arith}
use Rattle.sect_base.specs.TreeOf.{tree_of}
use Rattle.sect_base.proofs.TreeLemmas.{split_inj}
use Rattle.sect_base.proofs.block.Block.+same_tree.Goals as goal

pub returns-then-len : goal.returns-then-len
returns-then-len t c =
    let left = ap tree_of (sym c.in-Split-Split.is-0) ∙ c.self.view_is in
    let right = ap tree_of (sym c.in-Split-Split.is-1) ∙ c.other.view_is in
    let same = λ (e : c.args.self.now ≡ c.args.other.now). ap length (split_inj c.in-Split-Split.options.items c.in-Split-Split.others.items (left ∙ e ∙ sym right)) in
    (λ x. (cc), λ e. absurd (omega (arith, same e)))
