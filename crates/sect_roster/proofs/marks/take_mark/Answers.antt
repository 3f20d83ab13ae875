-- The mark of the id stands at its rank.
use Rattle.std.proofs.Common.{◌∙◌, ap, arith}
use Rattle.std.specs.List.{remove}
use Rattle.sect_people.specs.Index.{rank}
use Rattle.sect_roster.proofs.KeepsLemmas.{marks-left, marks-within}
use Rattle.sect_roster.proofs.marks.take_mark.Goals as goal

pub remove-requires : goal.remove-requires
remove-requires c =
    let ms = c.args.marks.now.items in
    let at = c.rank_near-rank.ensures ∙ ap (rank (λ m. m.id) c.args.id) c.as_slice.ensures.value in
    omega (arith, at, marks-within ms c.args.id c.requires.in_order c.requires.differ c.requires.some, c.args.marks.now.ok.0)

pub returns-clause-items : goal.returns-clause-items
returns-clause-items c =
    let ms = c.args.marks.now.items in
    let at = c.rank_near-rank.ensures ∙ ap (rank (λ m. m.id) c.args.id) c.as_slice.ensures.value in
    c.remove.ensures.items ∙ ap (remove ms) at ∙ marks-left ms c.args.id c.requires.in_order c.requires.differ c.requires.some
