-- Bytes of a text of weeks taken one at a time. What comes out is the set where the text is the printed form of one.
use Rattle.std.specs.Prelude.{ℕ, ◌+◌, ◌-◌, ◌*◌, ◌%◌, ◌==◌, ◌&&◌, Bool, nat_lt, nat_le, List, fold, bit_or, if◌then◌else◌}
use Rattle.sect_base.specs.declared.week_scan.Scan.{Scan}
use Rattle.sect_base.specs.Weeks.{week_range}

-- the run of weeks from one number to another as a set, which is empty where they aren't two of 1 to 60 in order
abbrev pub run_set : ℕ → ℕ → ℕ
run_set first last = (if nat_lt 0 first && nat_le first last && nat_le last 60 then week_range (first - 1) (last - 1) else 0)

-- the weeks read so far with those of the run that is open
abbrev pub weeks_of_scan : Scan → ℕ
weeks_of_scan scan = bit_or scan.weeks (run_set (if scan.first == 0 then scan.number else scan.first) scan.number)

-- whether the byte is a digit
abbrev pub is_digit : ℕ → Bool
is_digit byte = nat_le 48 byte && nat_le byte 57

-- one byte more: a digit lengthens the number, a dash keeps it as the first of a run, and all else ends the run
abbrev pub scan_after : Scan → ℕ → Scan
scan_after scan byte =
    (if is_digit byte then record { weeks = scan.weeks; first = scan.first; number = scan.number % 10 * 10 + (byte - 48) } else
    (if byte == 45 then record { weeks = scan.weeks; first = scan.number; number = 0 } else record { weeks = weeks_of_scan scan; first = 0; number = 0 }))

-- nothing read
abbrev pub SCAN_START : Scan
SCAN_START = record { weeks = 0; first = 0; number = 0 }

-- the weeks of a text
unfoldable pub weeks_in : List ℕ → ℕ
weeks_in text = weeks_of_scan (fold scan_after SCAN_START text)
