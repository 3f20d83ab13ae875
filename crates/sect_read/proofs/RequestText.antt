-- The text of a request that is read is that which stands in a row.
use Rattle.std.proofs.Common.{◌≡◌, ℕ, ◌+◌, ◌-◌, ◌≤◌, List, [], ◌∷◌, ◌++◌, Some, length, take, refl, ap, sym, ◌∙◌, append_assoc, append-nil, length-append, arith}
use Rattle.std.specs.Prelude.{drop}
use Rattle.std.proofs.Common.{take-append-drop}
use Rattle.std.proofs.Math.Seq.{take-append_seam}
use Rattle.sect_command.specs.declared.command.Command.{Command}
use Rattle.sect_once.specs.declared.entry.Request.{Request}
use Rattle.sect_words.specs.Parts.{joined, pieces, sentence}
use Rattle.sect_words.specs.Reading.{whole}
use Rattle.sect_words.proofs.Pieces.{joined_pieces}
use Rattle.sect_text.specs.Commands.{command_text, command_words}
use Rattle.sect_text.specs.Rows.{id_words, is_marked, request_part, row_front}
use Rattle.sect_text.proofs.Sentences.{behind_front, spaced_command}
use Rattle.sect_read.specs.Fits.{FitsRequest}
use Rattle.sect_read.specs.ReadingLines.{request_at, request_of}
use Rattle.sect_read.proofs.Steps.{whole_found}
use Rattle.sect_read.proofs.LineLaws.{request_found, request_words}

-- the bytes before ` = `, and these
pub part_of_row : (row text rest : List ℕ) (at : ℕ) → row ≡ text ++ rest → take 3 rest ≡ 32 ∷ 61 ∷ 32 ∷ [] → (at ≡ 0 → ⊥) → length text ≡ at - 1 → 3 ≤ length rest
    → (at + 2 ≤ length row) × (take (at + 2) row ≡ text ++ 32 ∷ 61 ∷ 32 ∷ [])
part_of_row row text rest at is front some long three =
    let end : List ℕ = 32 ∷ 61 ∷ 32 ∷ [] in
    let apart : row ≡ text ++ (end ++ drop 3 rest) = is ∙ ap (λ (bytes : List ℕ). text ++ bytes) (sym (take-append-drop 3 rest) ∙ ap (λ (bytes : List ℕ). bytes ++ drop 3 rest) front) in
    let whole : row ≡ (text ++ end) ++ drop 3 rest = apart ∙ sym (append_assoc text end (drop 3 rest)) in
    let size = length-append text end in
    let place : at + 2 ≡ length (text ++ end) = omega (arith, long, some, size) in
    let sum = ap length is ∙ length-append text rest in
    (omega (arith, sum, long, three, some), (λ i. take (place i) (whole i)) ∙ take-append_seam (text ++ end) (drop 3 rest))

-- a text that is read as a request is that of its words
text_found : (text : List ℕ) (r : Request Command) → request_of text ≡ Some r → FitsRequest r × (text ≡ sentence (request_words r))
text_found text r e =
    let found = request_found (pieces 32 text) r [] (whole_found (request_at (pieces 32 text)) r e) in
    (found.0, sym (joined_pieces 32 text) ∙ ap (joined 32) (found.1 ∙ append-nil (request_words r)))

-- with ` = ` behind it, it is the request's part of a row
pub part_found : (text : List ℕ) (r : Request Command) → request_of text ≡ Some r → FitsRequest r × (text ++ 32 ∷ 61 ∷ 32 ∷ [] ≡ request_part r.id r.day r.command)
part_found text r e =
    let found = text_found text r e in
    let front = sentence (row_front (is_marked r.command) r.day ++ id_words r.id) in
    let command = command_text r.command in
    let end : List ℕ = 32 ∷ 61 ∷ 32 ∷ [] in
    let is : text ≡ front ++ 32 ∷ command =
    found.1 ∙ behind_front (is_marked r.command) r.day r.id (command_words r.command) ∙ ap (λ (bytes : List ℕ). front ++ bytes) (sym (spaced_command r.command)) in (
      found.0,
      ap (λ (bytes : List ℕ). bytes ++ end) is ∙ append_assoc front (32 ∷ command) end ∙ sym (append_assoc front (32 ∷ []) (command ++ end)),
    )
