-- What is kept of the changes of a queue, when they can be taken back, and the queue after that.
use Rattle.std.specs.Prelude.{◌≡◌, ℕ, ◌-◌, ◌≤◌, ◌==◌, List, [], ◌∷◌, ◌++◌, length, take, insert, find}
use Rattle.std.specs.List.{position_or_len}
use Rattle.std.specs.Option.{option_map, option_to_list}
use Rattle.sect_wait.specs.declared.back.QueueBack.{QueueBack}
use Rattle.sect_wait.specs.declared.back.QueueBack.TheVariants.{Joined, Left}
use Rattle.sect_wait.specs.Queued.{Queued, RoomedQueue, IsQueue}

-- what is kept where the entry of a ticket leaves: nothing where no entry has it
abbrev pub left_back : Queued → ℕ → List QueueBack
left_back q ticket = option_to_list (option_map (Left (position_or_len (λ e. e.ticket == ticket) q.entries)) (find (λ e. e.ticket == ticket) q.entries))

-- the queue in which the change is taken back
abbrev pub taken_back : Queued → QueueBack → Queued
taken_back q Joined = record { entries = take (length q.entries - 1) q.entries; next = q.next - 1 }
taken_back q (Left place e) = record { entries = insert q.entries place e; next = q.next }

-- the queue in which all of these are taken back, the last one first
abbrev pub undone : Queued → List QueueBack → Queued
undone q [] = q
undone q (b ∷ bs) = taken_back (undone q bs) b

-- where an entry stands again, its place is one of the list
abbrev pub Stands : Queued → QueueBack → Type 0
Stands q Joined = Unit {0}
Stands q (Left place e) = place ≤ length q.entries

-- the change can be taken back: it leaves a queue, for which there is room
pub record Ready (held : ℕ) (q : Queued) (b : QueueBack) : Type 0 where
  pub queue : IsQueue (taken_back q b)
  pub room : length (taken_back q b).entries ≤ held
  pub stands : Stands q b

-- each of the changes can be taken back, the last one first
abbrev pub AllReady : ℕ → Queued → List QueueBack → Type 0
AllReady held q [] = Unit {0}
AllReady held q (b ∷ bs) = AllReady held q bs × Ready held (undone q bs) b

-- the queue is as the recorded changes left it, and has room to take them back
abbrev pub Undoable : RoomedQueue → List QueueBack → Type 0
Undoable q backs = AllReady q.room q.queue backs

-- changes led from the one queue to the other, and were recorded behind what was recorded before
pub record Since (q : Queued) (backs : List QueueBack) (q_now : Queued) (backs_now : List QueueBack) : Type 0 where
  pub more : List QueueBack
  pub recorded : backs_now ≡ backs ++ more
  pub led : undone q_now more ≡ q
