-- What stands behind the first space are the parts behind the first.
use Rattle.std.proofs.Common.{ap, sym, ◌∙◌}
use Rattle.sect_words.specs.Parts.{pieces}
use Rattle.sect_words.specs.Reading.{later_parts}
use Rattle.sect_words.proofs.Cuts.{pieces_some}
use Rattle.sect_read.proofs.line.behind_space.Goals as goal

pub returns : goal.returns
returns c = ap (pieces 32) c.split_at.ensures.back ∙ sym (ap later_parts (pieces_some 32 c.args.line.now c.in_ok-at.at (sym c.in_ok-at.was ∙ c.space_in.ensures)))
