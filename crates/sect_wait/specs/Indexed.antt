-- Which tickets an index has: those of each student, and those that want each course; and how many entries give one up.
use Rattle.std.specs.Prelude.{◌≡◌, ℕ, Bool, true, false, ◌&&◌, ◌==◌, cond, List, [], length, filter, Option}
use Rattle.std.specs.List.{list_any, list_all}
use Rattle.std.specs.Option.{is_some, option_map_or}
use Rattle.std.specs.Ordering.{nat_cmp}
use Rattle.std.specs.BTreeMap.{BTreeMap, get}
use Rattle.std.specs.Global.{Vec}
use Rattle.sect_base.specs.Table.{value_at}
use Rattle.sect_model.specs.declared.held.Waiting.{Waiting}
use Rattle.sect_model.specs.Freer.{Among}
use Rattle.sect_wait.specs.declared.by_student.ByStudent.{ByStudent}
use Rattle.sect_wait.specs.declared.index.Index.{Index}
use Rattle.sect_wait.specs.Queued.{Queued, IsQueue}
use Rattle.sect_wait.specs.Marked.{Marked, MarksKept, is_marked}

-- the tickets that stand by a number
abbrev pub tickets_by : BTreeMap ℕ (Vec ℕ) → ℕ → List ℕ
tickets_by index number = option_map_or (λ tickets. tickets.items) (get nat_cmp index number) []

-- whether the ticket is one of these
abbrev pub has_ticket : ℕ → List ℕ → Bool
has_ticket ticket tickets = list_any (λ t. t == ticket) tickets

-- each ticket stands where it stood, and maybe elsewhere
abbrev pub KeepsTickets : BTreeMap ℕ (Vec ℕ) → BTreeMap ℕ (Vec ℕ) → Type 0
KeepsTickets before after = (number ticket : ℕ) → has_ticket ticket (tickets_by before number) ≡ true → has_ticket ticket (tickets_by after number) ≡ true

-- each other ticket stands where it stood
abbrev pub KeepsOtherTickets : ℕ → BTreeMap ℕ (Vec ℕ) → BTreeMap ℕ (Vec ℕ) → Type 0
KeepsOtherTickets ticket before after =
    (number other : ℕ) → other == ticket ≡ false → has_ticket other (tickets_by before number) ≡ true → has_ticket other (tickets_by after number) ≡ true

-- the tickets of a student, none where the student never waited
abbrev pub own_tickets : ByStudent → ℕ → List ℕ
own_tickets students student = cond (is_some (value_at students.waited student)) (tickets_by students.tickets student) []

-- who ever waited is still told
abbrev pub KeepsWaited : ByStudent → ByStudent → Type 0
KeepsWaited before after = (student : ℕ) → is_some (value_at before.waited student) ≡ true → is_some (value_at after.waited student) ≡ true

-- each ticket is the student's whose it was, and maybe another's too
abbrev pub KeepsOwn : ByStudent → ByStudent → Type 0
KeepsOwn before after = (student ticket : ℕ) → has_ticket ticket (own_tickets before student) ≡ true → has_ticket ticket (own_tickets after student) ≡ true

-- each other ticket is the student's whose it was
abbrev pub KeepsOthersOwn : ℕ → ByStudent → ByStudent → Type 0
KeepsOthersOwn ticket before after =
    (student other : ℕ) → other == ticket ≡ false → has_ticket other (own_tickets before student) ≡ true → has_ticket other (own_tickets after student) ≡ true

-- the entry's ticket stands by its student, and by each course of its want
abbrev pub is_indexed : Index → Waiting → Bool
is_indexed i e = has_ticket e.ticket (own_tickets i.students e.student.0) && list_all (λ c. has_ticket e.ticket (tickets_by i.courses c.0)) e.want.courses

-- the index, where it is whole, has each of the entries
abbrev pub IsIndexOf : Index → List Waiting → Type 0
IsIndexOf i entries = i.whole ≡ true → (e : Waiting) → Among entries e → is_indexed i e ≡ true

-- the entry gives a course up
abbrev pub gives : Waiting → Bool
gives e = is_some e.give

-- how many of the entries give a course up
abbrev pub count_givers : List Waiting → ℕ
count_givers es = length (filter gives es)

-- the entries and the next ticket are those of a queue, the index is theirs, and so many of them give a course up
pub record IsIndexed (q : Queued) (i : Index) (counted : ℕ) : Type 0 where
  pub queue : IsQueue q
  pub index : IsIndexOf i q.entries
  pub givers : counted ≡ count_givers q.entries

-- the ticket is one of those that are told; where none are told, all tickets are meant
abbrev pub is_told : Option (List ℕ) → ℕ → Bool
is_told tickets ticket = option_map_or (has_ticket ticket) tickets true

-- the tickets of the entries that pass the test are told
abbrev pub AreTold : (Waiting → Bool) → List Waiting → Option (List ℕ) → Type 0
AreTold test entries tickets = (e : Waiting) → Among entries e → is_told tickets e.ticket ≡ false → test e ≡ false

-- no mark is taken off, and the entries of the tickets that are told are marked
pub record MarksTold (tickets : Option (List ℕ)) (before after : Marked) : Type 0 where
  pub kept : MarksKept before after
  pub added : (e : Waiting) → is_marked after e ≡ false → is_told tickets e.ticket ≡ false
