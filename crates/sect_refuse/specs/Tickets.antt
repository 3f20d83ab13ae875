-- The least ticket, entry by entry.
use Rattle.std.specs.Prelude.{ℕ, Bool, ◌&&◌, ◌==◌, nat_le, cond, List, Option, Some, None}
use Rattle.sect_base.specs.declared.ids.StudentId.{StudentId}
use Rattle.sect_base.specs.declared.ids.CourseId.{CourseId}
use Rattle.sect_model.specs.declared.held.Waiting.{Waiting}
use Rattle.sect_model.specs.Batch.{share_course}

-- the lesser of two tickets, or the one that there is
abbrev pub lesser : Option ℕ → Option ℕ → Option ℕ
lesser None o = o
lesser (Some m) None = Some m
lesser (Some m) (Some n) = Some (cond (nat_le m n) m n)

-- the entry is the student's, and shares a course
abbrev pub is_shared : StudentId → List CourseId → Waiting → Bool
is_shared student courses e = e.student.0 == student.0 && share_course e.want.courses courses

-- the least ticket with an entry more
abbrev pub with_entry : StudentId → List CourseId → Option ℕ → Waiting → Option ℕ
with_entry student courses best e = cond (is_shared student courses e) (lesser best (Some e.ticket)) best
