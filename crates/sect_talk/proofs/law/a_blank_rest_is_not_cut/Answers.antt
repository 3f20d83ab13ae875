use Rattle.sect_talk.proofs.Blank.{blank_is_not_cut}
use Rattle.sect_talk.proofs.law.a_blank_rest_is_not_cut.Goals as goal

pub returns : goal.returns
returns c rest blank cut = blank_is_not_cut rest blank cut
