-- What the first bytes behind a place tell of the gate there.
use Rattle.std.proofs.Common.{◌≡◌, ◌≢◌, inl, inr, ℕ, zero, suc, ◌+◌, ◌-◌, ◌<◌, ◌≤◌, min, Bool, true, false, ◌&&◌, nat_le, ◌==◌, if◌then◌else◌, List, [], ◌∷◌, ◌++◌, length, get_or, take, drop, map, Option, Some, None, refl, sym, ◌∙◌, ap, subst, arith, length-drop}
use Rattle.std.proofs.lemmas.Bool.{cases_eq, cases_lt}
use Rattle.std.proofs.lemmas.Bool.Decides.{nat_tests}
use Rattle.std.proofs.lemmas.List.{take-take, take_min, drop_more, drop_all, length-take-le, take-append-drop, map_push}
use Rattle.std.proofs.lemmas.List.Elements.{All-nil, All-push, All-weaker}
use Rattle.std.specs.Int.{w64, from_be_bytes}
use Rattle.sect_journal.specs.declared.journal.Span.{Span}
use Rattle.sect_journal.specs.declared.gate.Gate.TheVariants.{Closed, Bad, Open}
use Rattle.sect_journal.specs.Disk.{Told, IsSize, Reads}
use Rattle.sect_journal.specs.Text.{journal_rows, row_length, with_rows, rows_from}
use Rattle.sect_journal.specs.Standing.{IsFront, cut}
use Rattle.sect_journal.specs.Opening.{gate_of, GateIs, ReadsTo, EndsAt, IsBadAt}
use Rattle.sect_journal.specs.declared.journal.JournalFault.TheVariants.{BadJournal}
use Rattle.sect_journal.proofs.Front.{reads_bad, front_none, front_more}

same_length : (bytes : List ℕ) → row_length (take 8 bytes) ≡ row_length bytes
same_length bytes = ap (λ l. from_be_bytes w64 l) (take-take 8 8 bytes (omega arith))

chosen_open : (one a b : Bool) (n : ℕ) → one ≡ true → a ≡ true → b ≡ true → (if one then (if a && b then Open n else Bad) else Closed) ≡ Open n
chosen_open true true true n p q r = refl
chosen_open false a b n p q r = absurd (cc)
chosen_open true false b n p q r = absurd (cc)
chosen_open true true false n p q r = absurd (cc)

chosen_bad : (one a b : Bool) (n : ℕ) → one ≡ true → b ≡ false → (if one then (if a && b then Open n else Bad) else Closed) ≡ Bad
chosen_bad true true false n p r = refl
chosen_bad true false false n p r = refl
chosen_bad false a b n p r = absurd (cc)
chosen_bad true a true n p r = absurd (cc)

finds_open : (byte : ℕ) (bytes : List ℕ) → byte ≡ 1 → 8 + row_length bytes ≤ length bytes → gate_of (byte ∷ take 8 bytes) (suc (length bytes)) ≡ Open (row_length bytes)
finds_open byte bytes opens fits =
    let same = same_length bytes in
    let long : length (take 8 bytes) ≡ 8 = length-take-le 8 bytes (omega arith) in
    let one : (byte == 1) ≡ true = grind (arith, nat_tests) in
    let eight : nat_le 8 (length (take 8 bytes)) ≡ true = grind (arith, nat_tests) in
    let all : nat_le (9 + row_length (take 8 bytes)) (suc (length bytes)) ≡ true = let le : 9 + row_length (take 8 bytes) ≤ suc (length bytes) = omega arith in grind (arith, nat_tests) in
    chosen_open (byte == 1) (nat_le 8 (length (take 8 bytes))) (nat_le (9 + row_length (take 8 bytes)) (suc (length bytes))) (row_length (take 8 bytes)) one eight all
    ∙ ap (λ n. Open n) same

finds_bad : (byte : ℕ) (bytes : List ℕ) → byte ≡ 1 → length bytes < 8 + row_length bytes → gate_of (byte ∷ take 8 bytes) (suc (length bytes)) ≡ Bad
finds_bad byte bytes opens short =
    let same = same_length bytes in
    let one : (byte == 1) ≡ true = grind (arith, nat_tests) in
    let all : nat_le (9 + row_length (take 8 bytes)) (suc (length bytes)) ≡ false = let lt : suc (length bytes) < 9 + row_length (take 8 bytes) = omega arith in grind (arith, nat_tests) in
    chosen_bad (byte == 1) (nat_le 8 (length (take 8 bytes))) (nat_le (9 + row_length (take 8 bytes)) (suc (length bytes))) (row_length (take 8 bytes)) one all

finds_closed : (byte : ℕ) (bytes : List ℕ) (left : ℕ) → byte ≢ 1 → gate_of (byte ∷ bytes) left ≡ Closed
finds_closed byte bytes left shut = grind (arith, nat_tests)

take_head : (byte : ℕ) (bytes : List ℕ) (n : ℕ) → n ≡ min 9 (suc (length bytes)) → take n (byte ∷ bytes) ≡ byte ∷ take 8 bytes
take_head byte bytes zero is = absurd (omega arith)
take_head byte bytes (suc n) is =
    let e : n ≡ min 8 (length bytes) = omega arith in
    ap (λ k. byte ∷ take k bytes) e ∙ ap (λ l. byte ∷ l) (take_min 8 bytes)

-- the gate at a place that has a byte
gate_inside : (t : Told) (gate : ℕ) → gate < length t.now.seen → GateIs (Some t) gate (gate_of (get_or t.now.seen gate 0 ∷ take 8 (drop (gate + 1) t.now.seen)) (suc (length (drop (gate + 1) t.now.seen))))
gate_inside t gate lt =
    let seen = t.now.seen in
    let bytes = drop (gate + 1) seen in
    let byte = get_or seen gate 0 in
    elim (cases_eq byte 1) [
      | inl opens ↦ elim (cases_lt (length bytes) (8 + row_length bytes)) [
        | inl short ↦ subst (λ found. GateIs (Some t) gate found) (sym (finds_bad byte bytes opens short))
            (ap (λ l. rows_from gate 0 l) (drop_more seen gate 0 lt) ∙ ap (λ b. rows_from gate 0 (b ∷ bytes)) opens ∙ reads_bad gate bytes short)
        | inr fits ↦ subst (λ found. GateIs (Some t) gate found) (sym (finds_open byte bytes opens fits))
            (record { inside = lt; opens = opens; holds = grind (arith, nat_tests); is_length = refl })
      ]
      | inr shut ↦ subst (λ found. GateIs (Some t) gate found) (sym (finds_closed byte (take 8 bytes) (suc (length bytes)) shut))
          (record { inside = lt; closed = shut })
    ]

-- the gate that is read
pub gate_found : (told : Option Told) (gate size n : ℕ) (head : List ℕ) → IsSize told size → gate ≤ size → Reads told gate 9 n head → GateIs told gate (gate_of (take n head) (size - gate))
gate_found None gate size n head is_size le reads = tt
gate_found (Some t) gate size n head is_size le reads =
    let seen = t.now.seen in
    elim (cases_lt gate (length seen)) [
      | inl lt ↦
          let rest : drop gate seen ≡ get_or seen gate 0 ∷ drop (gate + 1) seen = drop_more seen gate 0 lt in
          let left : size - gate ≡ suc (length (drop (gate + 1) seen)) = omega (arith, length-drop (gate + 1) seen) in
          let first : take n head ≡ get_or seen gate 0 ∷ take 8 (drop (gate + 1) seen) =
          reads.1 ∙ ap (λ l. take n l) rest ∙ take_head (get_or seen gate 0) (drop (gate + 1) seen) n (omega (arith, reads.0, length-drop (gate + 1) seen)) in
          subst (λ l. GateIs (Some t) gate (gate_of l (size - gate))) (sym first)
          (subst (λ k. GateIs (Some t) gate (gate_of (get_or seen gate 0 ∷ take 8 (drop (gate + 1) seen)) k)) (sym left) (gate_inside t gate lt))
      | inr past ↦
          let rest : drop gate seen ≡ [] = drop_all gate seen past in
          let none : n ≡ 0 = omega (arith, reads.0) in
          let first : take n head ≡ [] = ap (λ k. take k head) none in
          subst (λ l. GateIs (Some t) gate (gate_of l (size - gate))) (sym first) (ap (λ l. rows_from gate 0 l) rest)
    ]

-- before the first gate
pub reads_none : (told : Option Told) → ReadsTo told [] 0
reads_none None = tt
reads_none (Some t) = record { within = omega arith; inside = All-nil (λ (span : Span). span.start + span.length ≤ 0); front = front_none }

-- over an open gate
pub reads_on : (told : Option Told) (spans : List Span) (gate size n : ℕ) → IsSize told size → gate + 9 + n ≤ size → ReadsTo told spans gate → GateIs told gate (Open n) → ReadsTo told (spans ++ record { start = gate + 9; length = n } ∷ []) (gate + (9 + n))
reads_on None spans gate size n is_size le reads found = tt
reads_on (Some t) spans gate size n is_size le reads found =
    let seen = t.now.seen in
    let span : Span = record { start = gate + 9; length = n } in
    record {
      within = omega arith;
      inside = All-push (λ s. s.start + s.length ≤ gate + (9 + n)) spans span (All-weaker (λ s. s.start + s.length ≤ gate) (λ s. s.start + s.length ≤ gate + (9 + n)) (λ s below. omega arith) spans reads.inside) (omega arith);
      front = subst (λ rows. IsFront (take (gate + (9 + n)) seen) rows) (sym (map_push (cut seen) spans span)) (front_more seen gate n (map (cut seen) spans) reads.front found.inside found.opens found.holds found.is_length);
    }

-- at a closed one
pub reads_end : (told : Option Told) (spans : List Span) (gate : ℕ) → ReadsTo told spans gate → GateIs told gate Closed → EndsAt told spans gate
reads_end None spans gate reads found = tt
reads_end (Some t) spans gate reads found = (record { within = found.inside; inside = reads.inside; front = reads.front }, found)

-- at a bad one
pub reads_bad_gate : (told : Option Told) (spans : List Span) (gate : ℕ) → ReadsTo told spans gate → GateIs told gate Bad → IsBadAt told (BadJournal gate)
reads_bad_gate None spans gate reads found = tt
reads_bad_gate (Some t) spans gate reads found =
    let seen = t.now.seen in
    let rows = map (cut seen) spans in
    ap (λ l. journal_rows l) (sym (take-append-drop gate seen))
    ∙ reads.front (drop gate seen)
    ∙ ap (λ k. with_rows rows (rows_from k 0 (drop gate seen))) (length-take-le gate seen reads.within)
    ∙ ap (λ r. with_rows rows r) found
