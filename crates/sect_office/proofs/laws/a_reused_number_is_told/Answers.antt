use Rattle.sect_office.proofs.Calls.{reused_is_told}
use Rattle.sect_office.proofs.laws.a_reused_number_is_told.Goals as goal

pub returns : goal.returns
returns g c id day command old front own next answer place legal other shows = reused_is_told g.O.Object.is_row id day command old front own next answer place legal.once other shows
