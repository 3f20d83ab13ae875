-- the ids of a subpart's sections differ
use Rattle.std.proofs.Common.{sym, ◌∙◌, ap, subst, length}
use Rattle.std.specs.Prelude.{map}
use Rattle.std.specs.List.{All}
use Rattle.sect_people.specs.Order.{all_differ}
use Rattle.sect_model.specs.Choice.{subparts_of}
use Rattle.sect_moment.specs.Found.{IsSection}
use Rattle.sect_moment.proofs.NthLemmas.{member-got}
use Rattle.sect_moment.proofs.IdLemmas.{subpart-sections}
use Rattle.sect_rules.proofs.FoundLemmas.{sections-found}
use Rattle.sect_rules.proofs.rows.next_sections.Goals as goal

pub returns-in-Some-clause-differ : goal.returns-in-Some-clause-differ
returns-in-Some-clause-differ c =
    let w = c.args.world.now.world in
    ap (λ ss. all_differ (map (λ s. s.id.0) ss)) c.as_slice.ensures
    ∙ subpart-sections w c.recall_kept.ensures.rows_pass c.args.course c.args.config c.in-Some.row.now
    (member-got (subparts_of w c.args.course c.args.config) (length c.args.sections.now) c.in-Some.row.now (sym c.in-Some.ensures))

pub returns-in-Some-clause-found : goal.returns-in-Some-clause-found
returns-in-Some-clause-found c =
    let w = c.args.world.now.world in
    subst (All (IsSection w)) (sym c.as_slice.ensures)
    (sections-found w c.recall_kept.ensures.rows_pass c.args.course c.args.config c.in-Some.row.now
    (member-got (subparts_of w c.args.course c.args.config) (length c.args.sections.now) c.in-Some.row.now (sym c.in-Some.ensures)))
