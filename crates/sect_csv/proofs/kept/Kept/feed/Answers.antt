use Rattle.std.proofs.Common.{◌≡◌, ◌<◌, ◌≤◌, ◌+◌, ◌-◌, ◌++◌, ◌∙◌, [], ap, sym, map, drop, take, length, arith, append-nil}
use Rattle.std.proofs.lemmas.List.{drop-map, length-map, length-append}
use Rattle.csv.specs.Reading.{strip_bom}
use Rattle.csv.specs.Records.{fields_of}
use Rattle.sect_csv.specs.Lines.{IsWhole}
use Rattle.sect_csv.specs.Rows.{at_start, rows_within, shown_rows, through_last_feed}
use Rattle.sect_csv.proofs.KeptLemmas.{shown-same, shown-more, shown-fewer, shown-lines, are-lines, through-joined, same-stands, whole-stands, whole-shows}
use Rattle.sect_csv.proofs.kept.Kept.feed.Goals as goal
use Rattle.sect_csv.proofs.kept.Kept.feed.Goals.{then-whole, else-whole}

pub invariant_of-self-then-lines-eq0 : goal.invariant_of-self-then-lines-eq0
invariant_of-self-then-lines-eq0 c =
    let bytes = c.self.inside.bytes.items in
    let none : through_last_feed c.args.piece.now ≡ [] = c.lines_len-lines.ensures.lines ∙ ap (λ n. take n c.args.piece.now) c.if-lines-eq0.true in
    c.self.invariant ∙ ap length (sym (shown-same bytes c.args.piece.now none)) ∙ ap (λ xs. length (shown_rows xs)) (sym c.in_ok-extend_from_slice.ensures.items)

pub returns-then-lines-eq0-clause-rows : goal.returns-then-lines-eq0-clause-rows
returns-then-lines-eq0-clause-rows c =
    let bytes = c.self.inside.bytes.items in
    let none : through_last_feed c.args.piece.now ≡ [] = c.lines_len-lines.ensures.lines ∙ ap (λ n. take n c.args.piece.now) c.if-lines-eq0.true in
    rw (← c.self.view_is, c.new.ensures.items) (shown-same bytes c.args.piece.now none ∙ sym (append-nil (shown_rows bytes)))

pub read_lines-requires : goal.read_lines-requires
read_lines-requires c =
    let bytes = c.self.inside.bytes.items in
    let n = c.lines_len-lines.result in
    let some : 0 < n = omega (arith, c.if-lines-eq0.false) in
    let before : c.len-before.result ≡ length bytes = c.len-before.ensures ∙ c.self.inside.bytes.ok.0 in
    let text : c.deref.result.now ≡ bytes ++ c.args.piece.now = c.deref.ensures.value ∙ c.in_ok-extend_from_slice.ensures.items in
    let are = are-lines bytes c.args.piece.now n c.lines_len-lines.ensures.lines c.lines_len-lines.ensures.within some in
    (are.0, (λ i. take (before i + n) (text i)) ∙ are.1)

pub drop_first-requires : goal.drop_first-requires
drop_first-requires c =
    let bytes = c.self.inside.bytes.items in
    let piece = c.args.piece.now in
    let n = c.lines_len-lines.result in
    let some : 0 < n = omega (arith, c.if-lines-eq0.false) in
    let before : c.len-before.result ≡ length bytes = c.len-before.ensures ∙ c.self.inside.bytes.ok.0 in
    let text : c.deref.result.now ≡ bytes ++ piece = c.deref.ensures.value ∙ c.in_ok-extend_from_slice.ensures.items in
    let shown : map fields_of c.in-Ok.ended.rows.items ≡ shown_rows (bytes ++ piece)
    = c.in-Ok.ensures.rows ∙ (λ i. rows_within at_start (strip_bom (take (before i + n) (text i)))) ∙ shown-lines bytes piece n c.lines_len-lines.ensures.lines c.lines_len-lines.ensures.within some in
    omega (arith, c.self.invariant, shown-fewer bytes piece, ap length shown, length-map c.in-Ok.ended.rows.items fields_of)

pub invariant_of-self-then-whole : goal.invariant_of-self-then-whole
invariant_of-self-then-whole c =
    let bytes = c.self.inside.bytes.items in
    let piece = c.args.piece.now in
    let n = c.lines_len-lines.result in
    let some : 0 < n = omega (arith, c.if-lines-eq0.false) in
    let before : c.len-before.result ≡ length bytes = c.len-before.ensures ∙ c.self.inside.bytes.ok.0 in
    let within : length bytes + n ≤ length (bytes ++ piece) = omega (arith, length-append bytes piece, c.lines_len-lines.ensures.within) in
    let empty = whole-shows (bytes ++ piece) (length bytes + n) within
    (are-lines bytes piece n c.lines_len-lines.ensures.lines c.lines_len-lines.ensures.within some)
    (through-joined bytes piece n c.lines_len-lines.ensures.lines c.lines_len-lines.ensures.within some) in
    sym (ap (λ xs. length (shown_rows xs)) (c.drop_first-then-whole.ensures ∙ (λ i. drop (before i + n - 1) (c.in_ok-extend_from_slice.ensures.items i))) ∙ ap length empty)

pub invariant_of-self-else-whole : goal.invariant_of-self-else-whole
invariant_of-self-else-whole c =
    let bytes = c.self.inside.bytes.items in
    let piece = c.args.piece.now in
    let n = c.lines_len-lines.result in
    let some : 0 < n = omega (arith, c.if-lines-eq0.false) in
    let before : c.len-before.result ≡ length bytes = c.len-before.ensures ∙ c.self.inside.bytes.ok.0 in
    let text : c.deref.result.now ≡ bytes ++ piece = c.deref.ensures.value ∙ c.in_ok-extend_from_slice.ensures.items in
    let shown : map fields_of c.in-Ok.ended.rows.items ≡ shown_rows (bytes ++ piece)
    = c.in-Ok.ensures.rows ∙ (λ i. rows_within at_start (strip_bom (take (before i + n) (text i)))) ∙ shown-lines bytes piece n c.lines_len-lines.ensures.lines c.lines_len-lines.ensures.within some in
    c.len-count.ensures ∙ c.in-Ok.ended.rows.ok.0 ∙ sym (length-map c.in-Ok.ended.rows.items fields_of) ∙ ap length shown
    ∙ ap (λ xs. length (shown_rows xs)) (sym c.in_ok-extend_from_slice.ensures.items)

pub returns-clause-rows : goal.returns-clause-rows
returns-clause-rows c =
    let bytes = c.self.inside.bytes.items in
    let piece = c.args.piece.now in
    let rows = c.in-Ok.ended.rows.items in
    let n = c.lines_len-lines.result in
    let some : 0 < n = omega (arith, c.if-lines-eq0.false) in
    let before : c.len-before.result ≡ length bytes = c.len-before.ensures ∙ c.self.inside.bytes.ok.0 in
    let text : c.deref.result.now ≡ bytes ++ piece = c.deref.ensures.value ∙ c.in_ok-extend_from_slice.ensures.items in
    let shown : map fields_of rows ≡ shown_rows (bytes ++ piece)
    = c.in-Ok.ensures.rows ∙ (λ i. rows_within at_start (strip_bom (take (before i + n) (text i)))) ∙ shown-lines bytes piece n c.lines_len-lines.ensures.lines c.lines_len-lines.ensures.within some in
    rw (← c.self.view_is) (
    shown-more bytes piece
    ∙ ap (λ left. shown_rows bytes ++ left)
    (sym (ap (drop (length (shown_rows bytes))) shown) ∙ drop-map fields_of (length (shown_rows bytes)) rows
    ∙ ap (map fields_of) (ap (λ k. drop k rows) (sym c.self.invariant) ∙ sym c.drop_first.ensures))
    )

pub returns-clause-stands : goal.returns-clause-stands
returns-clause-stands c =
    let bytes = c.self.inside.bytes.items in
    let piece = c.args.piece.now in
    let n = c.lines_len-lines.result in
    let some : 0 < n = omega (arith, c.if-lines-eq0.false) in
    let before : c.len-before.result ≡ length bytes = c.len-before.ensures ∙ c.self.inside.bytes.ok.0 in
    let text : c.deref.result.now ≡ bytes ++ piece = c.deref.ensures.value ∙ c.in_ok-extend_from_slice.ensures.items in
    let within : length bytes + n ≤ length (bytes ++ piece) = omega (arith, length-append bytes piece, c.lines_len-lines.ensures.within) in
    elim c.if-whole.branch [
      | then-whole w ↦
          let kept : c.if-whole.self ≡ drop (length bytes + n - 1) (bytes ++ piece)
          = w.self-is ∙ w.drop_first-then-whole.ensures ∙ (λ i. drop (before i + n - 1) (c.in_ok-extend_from_slice.ensures.items i)) in
          let whole : IsWhole (take (length bytes + n) (bytes ++ piece)) = rw (before, text) at (c.in-Ok.ensures.whole w.if-whole.true) in
          rw (← c.self.view_is, kept) (whole-stands (bytes ++ piece) (length bytes + n) within
          (are-lines bytes piece n c.lines_len-lines.ensures.lines c.lines_len-lines.ensures.within some)
          (through-joined bytes piece n c.lines_len-lines.ensures.lines c.lines_len-lines.ensures.within some) whole)
      | else-whole w ↦
          rw (← c.self.view_is, w.self-is, c.in_ok-extend_from_slice.ensures.items) (same-stands (bytes ++ piece))
    ]
