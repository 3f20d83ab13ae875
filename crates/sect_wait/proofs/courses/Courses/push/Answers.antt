-- The course stands behind the others, and the set has it.
use Rattle.std.proofs.Common.{◌∙◌, ◌++◌, ◌∷◌, [], ap, sym, subst}
use Rattle.sect_wait.specs.Marked.{IsSetOfCourses}
use Rattle.sect_wait.proofs.MarkLemmas.{courses-more}
use Rattle.sect_wait.proofs.courses.Courses.push.Goals as goal

pub invariant_of-self-2 : goal.invariant_of-self-2
invariant_of-self-2 c =
    let i = c.self.inside in
    subst (λ cs. IsSetOfCourses cs c.insert.new.self) (sym (c.push_reserved.ensures.items ∙ ap (λ cs. cs ++ c.args.course ∷ []) c.reserve.ensures.items))
    (courses-more i.list.items c.args.course i.set c.insert.new.self c.self.invariant c.in_ok-insert.ensures.updates.0)
