-- A disk in memory.
use Rattle.std.specs.Prelude.{◌≡◌, ℕ, ◌+◌, ◌%◌, List, [], ◌∷◌, length, ◌==◌, if◌then◌else◌, Option, Some, None, Vec}
use Rattle.std.specs.declared.alloc.Global.{Global}
use Rattle.sect_edge.specs.Memory.{Calls}
use Rattle.sect_journal.specs.declared.memory.DiskCall.{DiskCall}
use Rattle.sect_journal.specs.declared.memory.DiskCall.TheVariants as calls
use Rattle.sect_journal.specs.Disk.{Content, Told, is_touched, put, touched, synced, goes_to}

-- what a call did: nothing, a write of a piece at a place, a write of so many bytes that failed, or a sync
pub data Step : Type 0 where
  Looked : Step
  Wrote : (at : ℕ) → (piece : List ℕ) → Step
  Tore : (at : ℕ) → (n : ℕ) → Step
  Synced : Step

-- the same of a call that was recorded
abbrev pub step_of : DiskCall → Step
step_of calls.Looked = Looked
step_of (calls.Wrote at piece) = Wrote at piece.items
step_of (calls.Tore at n) = Tore at n
step_of calls.Synced = Synced

-- a disk after a call. What a read gives is as before where a write failed
abbrev pub after : Told → Step → Told
after t Looked = t
after t (Wrote at piece) = goes_to t (touched t.now at (length piece) (put t.now.seen at piece))
after t (Tore at n) = goes_to t (touched t.now at n t.now.seen)
after t Synced = goes_to t (synced t.now)

-- after some calls
abbrev pub replay : Told → List Step → Told
replay t [] = t
replay t (step ∷ steps) = replay (after t step) steps

-- a disk with these bytes, all of them durable
abbrev pub fresh : List ℕ → Told
fresh bytes = record { now = record { durable = bytes; seen = bytes; pending = [] }; past = [] }

-- the bytes at first, what was done since, and the calls
pub record DiskState : Type 0 where
  pub first : List ℕ
  pub steps : List Step
  pub calls : Calls

-- what it tells
abbrev pub told_by : DiskState → Told
told_by disk = replay (fresh disk.first) disk.steps

-- the bytes, where they differ from those at first
abbrev pub or_first : Option (Vec ℕ Global) → List ℕ → List ℕ
or_first None first = first
or_first (Some bytes) first = bytes.items

-- these are the disk's bytes and ranges
pub record IsCached (c : Content) (first : List ℕ) (durable seen : Option (Vec ℕ Global)) (pending : List (ℕ × ℕ)) : Type 0 where
  pub durable_is : c.durable ≡ or_first durable first
  pub seen_is : c.seen ≡ or_first seen first
  pub pending_is : c.pending ≡ pending

-- these bytes, from place i on, with this one in place of each that may have been written
abbrev pub marked : List (ℕ × ℕ) → ℕ → ℕ → List ℕ → List ℕ
marked ranges mark i [] = []
marked ranges mark i (byte ∷ bytes) = (if is_touched ranges i then mark else byte) ∷ marked ranges mark (i + 1) bytes

-- the image that is picked: 0 is what is durable, 1 what a read gives, and else that with each byte marked
abbrev pub image_of : Content → ℕ → List ℕ
image_of c pick = if pick == 0 then c.durable else (if pick == 1 then c.seen else marked c.pending (pick % 256) 0 c.seen)
