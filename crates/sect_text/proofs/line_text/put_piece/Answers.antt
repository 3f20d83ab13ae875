-- Nothing stands behind the last line.
use Rattle.std.proofs.Common.{◌≡◌, ◌++◌, drop, [], ap, ◌∙◌, arith, append-nil}
use Rattle.std.specs.Prelude.{flat_map}
use Rattle.std.proofs.lemmas.List.{drop_all}
use Rattle.sect_text.specs.Replies.{line_front}
use Rattle.sect_text.proofs.line_text.put_piece.Goals as goal

pub returns-clause-written : goal.returns-clause-written
returns-clause-written c =
    let none : drop 924 c.args.bytes.now ≡ [] = drop_all 924 c.args.bytes.now (omega (arith, c.told-bytes)) in
    c.put_lines.ensures.written ∙ ap (λ bytes. flat_map line_front c.args.lines.now ++ bytes) none ∙ append-nil (flat_map line_front c.args.lines.now)
