-- ids that rise differ
use Rattle.std.proofs.Common.{◌∙◌, sym}
use Rattle.sect_catalog.proofs.ApartLemmas.{apart}
use Rattle.sect_catalog.proofs.apart.ids_rise.Goals as goal

pub returns : goal.returns
returns c = λ rise. apart c.args.row.now c.past_row.result c.past_row.ensures (sym c.is_some.ensures ∙ rise)
