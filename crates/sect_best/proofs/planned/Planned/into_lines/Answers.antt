-- The lines of verdicts that are told are told.
use Rattle.sect_best.proofs.ToldLemmas.{made-told}
use Rattle.sect_best.proofs.planned.Planned.into_lines.Goals as goal

pub returns-clause-told : goal.returns-clause-told
returns-clause-told c = made-told (λ v. v.items) c.lines_of.result c.as_slice.result.now c.into_vec.result.items c.args.self.verdicts c.into_vec.ensures c.lines_of.ensures c.requires.told
