-- What the laws of paths, trees and searches take of a move: nothing on what is given up, and nothing on how many wants there are.
use Rattle.std.specs.Prelude.{IsTrue}
use Rattle.std.specs.List.{list_all}
use Rattle.std.specs.Option.{is_some}
use Rattle.sect_people.specs.Student.{find_student}
use Rattle.sect_model.specs.Data.{Move}
use Rattle.sect_model.specs.World.{World}
use Rattle.sect_model.specs.Premises.{courses_known, sections_known, is_sized}

-- the student, courses and sections are known, and each want has one to six courses
pub record MoveStands (w : World) (mv : Move) : Type 0 where
  pub student : IsTrue (is_some (find_student w.students mv.student))
  pub courses : IsTrue (list_all (courses_known w) mv.take)
  pub sections : IsTrue (list_all (sections_known w) mv.take)
  pub sized : IsTrue (list_all is_sized mv.take)
