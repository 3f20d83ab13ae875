-- where there are no restrictions, none applies
use Rattle.std.proofs.Common.{sym, ◌∙◌, ◌++◌, ◌∷◌, []}
use Rattle.sect_moment.proofs.RestrictedLemmas.{unrestricted}
use Rattle.sect_moment.proofs.moment.Moment.restricts_section.Goals as goal

pub returns-then-is_empty : goal.returns-then-is_empty
returns-then-is_empty c =
    let a = c.args in
    unrestricted a.self.now.at a.self.now.student a.ground.now.offering.now.id a.course a.config (a.sections.now ++ a.section ∷ []) a.ground.now.restrictions.now c.requires.ground.restrictions
    (sym c.is_empty.ensures ∙ c.if-is_empty.true)
