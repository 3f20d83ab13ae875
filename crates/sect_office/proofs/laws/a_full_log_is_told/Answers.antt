use Rattle.sect_office.proofs.Calls.{full_is_told}
use Rattle.sect_office.proofs.laws.a_full_log_is_told.Goals as goal

pub returns : goal.returns
returns g c id day command old front own next answer never grown full new shows = full_is_told g.O.Object.is_row id day command old front own next answer never grown full new shows
