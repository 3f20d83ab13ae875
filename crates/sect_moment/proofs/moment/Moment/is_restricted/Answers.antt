-- some apply, and none of those admits
use Rattle.std.proofs.Common.{sym, ◌∙◌, ap}
use Rattle.std.specs.Prelude.{not}
use Rattle.sect_moment.proofs.RestrictedLemmas.{restricted}
use Rattle.sect_moment.proofs.LeastLemmas.{and-true, and-false}
use Rattle.sect_moment.proofs.moment.Moment.is_restricted.Goals as goal

pub returns-then-any_applies : goal.returns-then-any_applies
returns-then-any_applies c =
    let v = c.args.self.now.at in
    ap not c.any_admits.ensures
    ∙ and-true _ _ (sym c.any_applies.ensures ∙ c.if-any_applies.true)
    ∙ restricted v c.args.self.now.student c.args.offering.now.id c.args.course c.args.config c.args.sections.now c.args.rows.now c.requires.rows

pub returns-else-any_applies : goal.returns-else-any_applies
returns-else-any_applies c =
    let v = c.args.self.now.at in
    c.any_applies.ensures
    ∙ and-false _ _ (sym c.any_applies.ensures ∙ c.if-any_applies.false)
    ∙ restricted v c.args.self.now.student c.args.offering.now.id c.args.course c.args.config c.args.sections.now c.args.rows.now c.requires.rows
