-- The mark stands behind the lower ids.
use Rattle.std.proofs.Common.{◌≡◌, ◌∙◌, ◌+◌, ap, arith, suc}
use Rattle.std.specs.List.{insert}
use Rattle.sect_people.specs.Index.{rank}
use Rattle.sect_people.proofs.RankLemmas.{rank_le-length}
use Rattle.sect_roster.specs.declared.mark.Mark.{Mark}
use Rattle.sect_roster.proofs.PlaceLemmas.{put-insert}
use Rattle.sect_roster.proofs.marks.put_mark.Goals as goal

pub put_at-requires-clause-within : goal.put_at-requires-clause-within
put_at-requires-clause-within c =
    let at = c.rank_near-rank.ensures ∙ ap (rank (λ m. m.id) (c.args.mark.id + 1)) c.as_slice.ensures.value in
    omega (arith, at, rank_le-length (λ (m : Mark). m.id) (c.args.mark.id + 1) c.args.marks.now.items)

pub returns-clause-items : goal.returns-clause-items
returns-clause-items c =
    let ms = c.args.marks.now.items in
    let next : c.args.mark.id + 1 ≡ suc c.args.mark.id = omega arith in
    let at : c.rank_near-rank.result ≡ rank (λ m. m.id) (suc c.args.mark.id) ms = c.rank_near-rank.ensures ∙ (λ i. rank (λ m. m.id) (next i) (c.as_slice.ensures.value i)) in
    c.put_at.ensures.items ∙ ap (λ k. insert ms k c.args.mark) at ∙ put-insert (λ m. m.id) c.args.mark ms
