-- What a call makes of the fields of an import.
use Rattle.std.proofs.Common.{◌≡◌, ℕ, ◌-◌, Bool, true, false, List, ◌++◌, None, Some, arith, if◌then◌else◌, length, length-append, refl, sym, take, ◌∙◌}
use Rattle.std.proofs.lemmas.List.{take_all, take_at}
use Rattle.sect_csv.proofs.ReadingLemmas.{read_so_far-append, read_so_far-end}
use Rattle.sect_csv.specs.Inside.{IsImport, intake_of}
use Rattle.sect_csv.specs.Intake.{Intake, after, answer_to, commands_of, fault_of, fed, finished, is_over, read_so_far, settled, with_end}
use Rattle.sect_csv.specs.declared.import.Import.TheInside.{Inside}
use Rattle.sect_csv.specs.Rows.{all_rows, shown_rows}
use Rattle.sect_tables.specs.Progress.{Progress}
use Rattle.sect_tables.specs.Rows.{behind, rows_read}

-- all bytes count where none is unread
pub whole_bytes : (bytes : List ℕ) (unread : ℕ) → unread ≡ 0 → take (length bytes - unread) bytes ≡ bytes
whole_bytes bytes unread none = take_all (length bytes - unread) bytes (omega arith)

-- the bytes before a piece that is unread
pub bytes_before : (bytes piece : List ℕ) → take (length (bytes ++ piece) - length piece) (bytes ++ piece) ≡ bytes
bytes_before bytes piece = take_at bytes piece (length (bytes ++ piece) - length piece) (omega (arith, length-append bytes piece))

-- what a piece gives
pub fed_step : (s : Inside) (records piece : List ℕ) (rows : List (List (List ℕ))) → IsImport s → s.ended ≡ false → s.fault ≡ None →
    records ≡ s.records ++ piece → shown_rows (s.records ++ piece) ≡ shown_rows s.records ++ rows →
    read_so_far s.table s.term (take (length records - s.unread) records) s.ended ≡ behind (commands_of (intake_of s)) (rows_read s.reading rows)
fed_step s records piece rows good going well longer shown =
    let all = whole_bytes records s.unread (good.whole well) in
    let before = whole_bytes s.records s.unread (good.whole well) in
    let reads = good.reads going well in
    let next = read_so_far-append s.table s.term s.records (s.records ++ piece) rows shown in
    cc

-- what the end gives
pub finished_step : (s : Inside) (records : List ℕ) (rows : List (List (List ℕ))) → IsImport s → s.ended ≡ false → s.fault ≡ None →
    records ≡ s.records → all_rows s.records ≡ shown_rows s.records ++ rows →
    read_so_far s.table s.term (take (length records - s.unread) records) true ≡ behind (commands_of (intake_of s)) (with_end (rows_read s.reading rows))
finished_step s records rows good going well same all =
    let before = whole_bytes s.records s.unread (good.whole well) in
    let reads = good.reads going well in
    let next = read_so_far-end s.table s.term s.records rows all in
    cc

-- a call that reads makes the next import
pub after-fault_of : (p : Progress) (old next : Intake) → after (answer_to (fault_of p)) old next ≡ next
after-fault_of p old next = elim p.fault as (λ fault. after (answer_to (fault_of (record p { fault = fault }))) old next ≡ next) [ None ↦ refl | Some bad ↦ refl ]

-- an import that not_so over goes on
pub choose-other : {A : Type 0} (b : Bool) (x y : A) → b ≡ false → (if b then x else y) ≡ y
choose-other b x y not_so = rw not_so refl

pub is_going : (i : Intake) → i.ended ≡ false → i.fault ≡ None → is_over i ≡ false
is_going i going well = rw (going, well) refl

-- an import with another piece
pub after_fed : (i : Intake) (piece bytes : List ℕ) (p : Progress) → i.ended ≡ false → i.fault ≡ None →
    bytes ≡ i.bytes ++ piece → p ≡ (read_so_far i.table i.term bytes i.ended).0 →
    record i { bytes = bytes; fault = fault_of p } ≡ after (answer_to (fault_of p)) i (fed i piece)
after_fed i piece bytes p going well longer reads =
    let goes : fed i piece ≡ settled (record i { bytes = i.bytes ++ piece }) =
    choose-other (is_over i) i (settled (record i { bytes = i.bytes ++ piece })) (is_going i going well) in
    let reading : (read_so_far i.table i.term (i.bytes ++ piece) i.ended).0 ≡ p = cc in
    let next : settled (record i { bytes = i.bytes ++ piece }) ≡ record i { bytes = bytes; fault = fault_of p } = cc in
    sym (after-fault_of p i (fed i piece) ∙ goes ∙ next)

-- an import at its end
pub after_finished : (i : Intake) (bytes : List ℕ) (p : Progress) → i.ended ≡ false → i.fault ≡ None →
    bytes ≡ i.bytes → p ≡ (read_so_far i.table i.term bytes true).0 →
    record i { bytes = bytes; ended = true; fault = fault_of p } ≡ after (answer_to (fault_of p)) i (finished i)
after_finished i bytes p going well same reads =
    let goes : finished i ≡ settled (record i { ended = true }) =
    choose-other (is_over i) i (settled (record i { ended = true })) (is_going i going well) in
    let reading : (read_so_far i.table i.term i.bytes true).0 ≡ p = cc in
    let next : settled (record i { ended = true }) ≡ record i { bytes = bytes; ended = true; fault = fault_of p } = cc in
    sym (after-fault_of p i (finished i) ∙ goes ∙ next)
