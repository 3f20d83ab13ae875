use Rattle.sect_office.proofs.Calls.{asks_calls, shows_calls}
use Rattle.sect_office.proofs.laws.own_calls_rise.Goals as goal

pub returns-clause-one : goal.returns-clause-one
returns-clause-one g c id day command old front own next answer grown shows = shows_calls g.O.Object.is_row id day command old front own next answer grown shows

pub returns-clause-all : goal.returns-clause-all
returns-clause-all g c old front own next asks h = asks_calls g.O.Object.is_row old own asks front next h
