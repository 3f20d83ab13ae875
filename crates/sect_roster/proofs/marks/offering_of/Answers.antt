-- What stands at the rank of the id is its mark, or the id has none.
use Rattle.std.proofs.Common.{◌∙◌, ap, sym, option_copied}
use Rattle.std.specs.Option.{option_map}
use Rattle.sect_roster.specs.declared.mark.Mark.{Mark}
use Rattle.sect_roster.proofs.FoundLemmas.{got, found-past, found-own, found-other}
use Rattle.sect_roster.proofs.marks.offering_of.Goals as goal

pub returns-in_err-mark : goal.returns-in_err-mark
returns-in_err-mark c =
    let read = got c.get.result c.args.marks.now c.rank_near-rank.result c.get.ensures.lookup.3 in
    c.from_residual.ensures
    ∙ ap (option_map (λ m. m.offering)) (sym (found-past (λ (m : Mark). m.id) c.args.id c.args.marks.now c.requires c.rank_near-rank.result c.rank_near-rank.ensures (sym (ap option_copied c.in_err-mark.was) ∙ read)))

pub returns-then-mark-id : goal.returns-then-mark-id
returns-then-mark-id c =
    let read = got c.get.result c.args.marks.now c.rank_near-rank.result c.get.ensures.lookup.3 in
    ap (option_map (λ m. m.offering)) (sym (found-own (λ (m : Mark). m.id) c.args.id c.args.marks.now c.requires c.rank_near-rank.result c.rank_near-rank.ensures c.in_ok-mark.mark.now (sym (ap option_copied c.in_ok-mark.was) ∙ read) c.if-mark-id.true))

pub returns-else-mark-id : goal.returns-else-mark-id
returns-else-mark-id c =
    let read = got c.get.result c.args.marks.now c.rank_near-rank.result c.get.ensures.lookup.3 in
    ap (option_map (λ m. m.offering)) (sym (found-other (λ (m : Mark). m.id) c.args.id c.args.marks.now c.requires c.rank_near-rank.result c.rank_near-rank.ensures c.in_ok-mark.mark.now (sym (ap option_copied c.in_ok-mark.was) ∙ read) c.if-mark-id.false))
