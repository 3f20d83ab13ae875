-- Some subpart has it where it is among the sections of all.
use Rattle.std.proofs.Common.{◌∙◌, sym, ◌==◌}
use Rattle.sect_catalog.proofs.SearchLemmas.{any-parts}
use Rattle.sect_catalog.proofs.fault.stands_in.Goals as goal

pub returns : goal.returns
returns c = c.any_has.ensures ∙ sym (any-parts (λ e. e.id.0 == c.args.id.0) (λ p. p.sections) c.args.subparts.now)
