-- The place among its own, behind the rank, is the place where it stood.
use Rattle.std.proofs.Common.{sym}
use Rattle.sect_model.specs.World.{is_in}
use Rattle.sect_roster.proofs.AmongLemmas.{comes-back}
use Rattle.sect_roster.proofs.OwnLemmas.{own-student}
use Rattle.sect_roster.proofs.rostered.what_was_taken_out_comes_back.Goals as goal

pub returns : goal.returns
returns c = λ student course es e ordered one is. comes-back (λ x. x.student.0) (is_in student course) student.0 es e ordered one is (own-student student course es e (sym is))
