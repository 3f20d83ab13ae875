-- Who waits, and how an entry joins and leaves.
use Rattle.std.specs.Prelude.{ℕ, ◌+◌, ◌≤◌, List, [], ◌∷◌, ◌++◌, Option, IsTrue}
use Rattle.sect_base.specs.declared.ids.StudentId.{StudentId}
use Rattle.sect_base.specs.declared.ids.CourseId.{CourseId}
use Rattle.sect_base.specs.declared.choice.Want.{Want}
use Rattle.sect_model.specs.declared.held.Waiting.{Waiting}
use Rattle.sect_model.specs.World.{World, State}
use Rattle.sect_model.specs.Kept.{tickets_rise}
use Rattle.sect_model.specs.Settle.{without}

-- the entries in order of ticket, and the next ticket
pub record Queued : Type 0 where
  pub entries : List Waiting
  pub next : ℕ

-- a queue, and how many entries it holds without asking for memory
pub record RoomedQueue : Type 0 where
  pub queue : Queued
  pub room : ℕ

-- the tickets rise from 1, and the next one is above them
pub record IsQueue (q : Queued) : Type 0 where
  pub in_order : IsTrue (tickets_rise q.entries q.next)
  pub first : 1 ≤ q.next

-- nobody waits, and the next ticket is 1
abbrev pub empty_queue : Queued
empty_queue = record { entries = []; next = 1 }

-- the state of a world and a queue
abbrev pub state_of : World → Queued → State
state_of w q = record { world = w; entries = q.entries; next = q.next }

-- a new entry takes the next ticket
abbrev pub new_entry : ℕ → StudentId → Want → Option CourseId → ℕ → Waiting
new_entry ticket student want give class = record { ticket = ticket; student = student; want = want; give = give; class = class }

-- the queue with a new entry behind the others
abbrev pub joined : Queued → StudentId → Want → Option CourseId → ℕ → Queued
joined q student want give class = record { entries = q.entries ++ new_entry q.next student want give class ∷ []; next = q.next + 1 }

-- the queue but for the entry of a ticket
abbrev pub left : Queued → ℕ → Queued
left q ticket = record { entries = without q.entries ticket; next = q.next }
