-- What a disk tells, what its calls do to it, and which images a crash may leave.
use Rattle.std.specs.Prelude.{◌≡◌, ◌<◌, ◌≤◌, ℕ, ◌+◌, ◌-◌, min, max, List, [], ◌∷◌, ◌++◌, length, take, drop, slice_index, Bool, false, ◌&&◌, ◌||◌, nat_le, nat_lt, Option, Some, None, ⊤, All}

-- the bytes at the last sync that succeeded, those that a read gives, and the ranges written since, each as its place and its length
pub record Content : Type 0 where
  pub durable : List ℕ
  pub seen : List ℕ
  pub pending : List (ℕ × ℕ)

-- what the disk has now, and what it had before, the latest first
pub record Told : Type 0 where
  pub now : Content
  pub past : List Content

-- the byte at place i may have been written
abbrev pub is_touched : List (ℕ × ℕ) → ℕ → Bool
is_touched [] i = false
is_touched (range ∷ ranges) i = (nat_le range.0 i && nat_lt i (range.0 + range.1)) || is_touched ranges i

-- where the bytes end at the furthest
abbrev pub reach : ℕ → List (ℕ × ℕ) → ℕ
reach size [] = size
reach size (range ∷ ranges) = max (range.0 + range.1) (reach size ranges)

-- what a crash now may leave: any bytes in the ranges written and past the old end, and any end past the old one. Bytes outside stay
pub record IsImage (c : Content) (image : List ℕ) : Type 0 where
  pub no_shorter : length c.durable ≤ length image
  pub no_longer : length image ≤ reach (length c.durable) c.pending
  pub outside : (i : ℕ) → i < length c.durable → is_touched c.pending i ≡ false → slice_index image i ≡ slice_index c.durable i

-- the bytes after a piece was written at a place
abbrev pub put : List ℕ → ℕ → List ℕ → List ℕ
put bytes at piece = take at bytes ++ (piece ++ drop (length piece) (drop at bytes))

-- the bytes after n bytes were written at a place, wherever that stopped: outside the range they are as before
pub record Torn (at n : ℕ) (old new : List ℕ) : Type 0 where
  pub before : take at new ≡ take at old
  pub after : drop (at + n) new ≡ drop (at + n) old
  pub no_shorter : length old ≤ length new
  pub no_longer : length new ≤ max (length old) (at + n)

-- the disk goes on to this
abbrev pub goes_to : Told → Content → Told
goes_to t c = record { now = c; past = t.now ∷ t.past }

-- n bytes were written at a place, and this is what a read gives now
abbrev pub touched : Content → ℕ → ℕ → List ℕ → Content
touched c at n seen = record { durable = c.durable; seen = seen; pending = c.pending ++ (at, n) ∷ [] }

-- after a write
abbrev pub after_write : Option Told → ℕ → List ℕ → Option Told
after_write None at piece = None
after_write (Some t) at piece = Some (goes_to t (touched t.now at (length piece) (put t.now.seen at piece)))

-- after a write of n bytes that failed, which may have stopped anywhere
abbrev pub Tears : Option Told → ℕ → ℕ → Option Told → Type 0
Tears None at n new = new ≡ None
Tears (Some t) at n new = (seen : List ℕ) × Torn at n t.now.seen seen × (new ≡ Some (goes_to t (touched t.now at n seen)))

-- all that a read gives is durable
abbrev pub synced : Content → Content
synced c = record { durable = c.seen; seen = c.seen; pending = [] }

-- after a sync
abbrev pub after_sync : Option Told → Option Told
after_sync None = None
after_sync (Some t) = Some (goes_to t (synced t.now))

-- the place isn't past the end
abbrev pub IsWithin : Option Told → ℕ → Type 0
IsWithin None at = ⊤
IsWithin (Some t) at = at ≤ length t.now.seen

-- this is the number of bytes that a read may give
abbrev pub IsSize : Option Told → ℕ → Type 0
IsSize None n = ⊤
IsSize (Some t) n = n ≡ length t.now.seen

-- a read at a place gives as many bytes as there are, up to this room
abbrev pub Reads : Option Told → ℕ → ℕ → ℕ → List ℕ → Type 0
Reads None at room n bytes = ⊤
Reads (Some t) at room n bytes = (n ≡ min room (length t.now.seen - at)) × (take n bytes ≡ take n (drop at t.now.seen))

-- all that the disk had, the latest first
abbrev pub moments : Told → List Content
moments t = t.now ∷ t.past

-- at this moment and at each up to the later one the disk has P
pub record StaysIn (t u : Told) (P : Content → Type 0) : Type 0 where
  pub later : List Content
  pub grows : moments u ≡ later ++ moments t
  pub first : P t.now
  pub each : All P later

-- the same of a disk that tells
abbrev pub Stays : Option Told → Option Told → (Content → Type 0) → Type 0
Stays None new P = new ≡ None
Stays (Some t) new P = (u : Told) × (new ≡ Some u) × StaysIn t u P
