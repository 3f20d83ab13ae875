-- The courses of the want are gone through first.
use Rattle.std.proofs.Common.{◌∙◌, ap}
use Rattle.std.specs.Prelude.{◌==◌}
use Rattle.std.specs.List.{list_any}
use Rattle.sect_base.specs.declared.ids.CourseId.{CourseId}
use Rattle.sect_wait.proofs.MarkLemmas.{one-of-both}
use Rattle.sect_wait.proofs.courses.Courses.are_wanted.Goals as goal

pub returns : goal.returns
returns c =
    c.has_one.ensures ∙ ap (list_any (λ (a : CourseId). list_any (λ (d : CourseId). d.0 == a.0) c.args.self.now)) c.as_slice.ensures
    ∙ one-of-both c.args.entry.now.want.courses c.args.self.now
