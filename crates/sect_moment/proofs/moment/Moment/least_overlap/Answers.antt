-- of what is held and of what was chosen earlier
use Rattle.std.proofs.Common.{sym, ◌∙◌}
use Rattle.std.specs.Prelude.{flat_map, option_copied}
use Rattle.sect_model.specs.World.{held_by}
use Rattle.sect_model.specs.Rules.{least, held_overlaps, own_overlaps}
use Rattle.sect_moment.specs.Overlapped.{lesser_of, overlapped, own_overlapped}
use Rattle.sect_moment.proofs.LeastLemmas.{least-append}
use Rattle.sect_moment.proofs.moment.Moment.least_overlap.Goals as goal

pub returns : goal.returns
returns c =
    let v = c.args.self.now.at in
    let st = c.args.self.now.student in
    c.lesser_of.ensures
    ∙ (λ i. lesser_of ((c.least_held.ensures ∙ (λ j. least (flat_map (λ e. overlapped v (c.is_overlapping.ensures j) (c.requires j) e.choice) (held_by v st)))) i)
    ((c.least_own.ensures ∙ (λ j. least (own_overlapped v (option_copied c.args.r) c.args.earlier.now (c.requires j)))) i))
    ∙ sym (least-append (held_overlaps v st (option_copied c.args.r) c.args.section) (own_overlaps v (option_copied c.args.r) c.args.earlier.now c.args.section))
