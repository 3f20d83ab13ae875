-- The choices found are as many as the requests taken.
use Rattle.std.proofs.Common.{ap, false, [], refl}
use Rattle.sect_model.specs.Settle.{found_in}
use Rattle.sect_model.proofs.KeptMoves.{found-allowed}
use Rattle.sect_model.proofs.Members.{not_both}
use Rattle.sect_survey.specs.Survey.{unmet_move}
use Rattle.sect_survey.proofs.laws.a_found_request_has_a_choice.Goals as goal

pub returns : goal.returns
returns c = λ w u visits e. not_both false (found-allowed w (unmet_move u) 2000 [] (ap found_in e)) refl
