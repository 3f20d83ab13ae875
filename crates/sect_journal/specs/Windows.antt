-- Bytes of a disk that were read at once.
use Rattle.std.specs.Prelude.{◌≡◌, ℕ, ◌-◌, min, List, length, take, drop, Option, Some, None, ⊤}
use Rattle.sect_journal.specs.Disk.{Told}

-- these bytes are what a read gives from this place on
abbrev pub IsWindow : Option Told → ℕ → List ℕ → Type 0
IsWindow None place bytes = ⊤
IsWindow (Some t) place bytes = bytes ≡ take (length bytes) (drop place t.now.seen)

-- of so many bytes at a place as many stand in the window as on the disk
abbrev pub Reaches : Option Told → ℕ → List ℕ → ℕ → ℕ → Type 0
Reaches None place bytes at count = ⊤
Reaches (Some t) place bytes at count = min count (length bytes - (at - place)) ≡ min count (length t.now.seen - at)
