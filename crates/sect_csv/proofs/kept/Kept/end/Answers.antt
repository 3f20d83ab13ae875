use Rattle.std.proofs.Common.{◌≡◌, ◌++◌, ◌∙◌, ap, sym, map, drop, length, arith, append-nil}
use Rattle.std.proofs.lemmas.List.{drop-map, length-map}
use Rattle.csv.specs.Records.{fields_of}
use Rattle.sect_csv.specs.Rows.{all_rows, shown_rows}
use Rattle.sect_csv.proofs.KeptLemmas.{all-more, all-fewer}
use Rattle.sect_csv.proofs.kept.Kept.end.Goals as goal

pub drop_first-requires : goal.drop_first-requires
drop_first-requires c =
    let bytes = c.self.inside.bytes.items in
    let rows = c.in_ok-rows.rows.items in
    let read : map fields_of rows ≡ all_rows bytes = c.in_ok-rows.ensures ∙ ap all_rows (append-nil c.deref.result.now ∙ c.deref.ensures.value) in
    omega (arith, c.self.invariant, all-fewer bytes, ap length read, length-map rows fields_of)

pub returns : goal.returns
returns c =
    let bytes = c.self.inside.bytes.items in
    let rows = c.in_ok-rows.rows.items in
    let read : map fields_of rows ≡ all_rows bytes = c.in_ok-rows.ensures ∙ ap all_rows (append-nil c.deref.result.now ∙ c.deref.ensures.value) in
    rw (← c.self.view_is) (
    all-more bytes
    ∙ ap (λ left. shown_rows bytes ++ left)
    (sym (ap (drop (length (shown_rows bytes))) read) ∙ drop-map fields_of (length (shown_rows bytes)) rows
    ∙ ap (map fields_of) (ap (λ n. drop n rows) (sym c.self.invariant) ∙ sym c.drop_first.ensures))
    )
