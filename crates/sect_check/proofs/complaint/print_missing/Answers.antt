-- The pieces are those of the text.
use Rattle.std.specs.Prelude.{List, ℕ, ◌++◌, codes, decimal}
use Rattle.sect_check.proofs.Pieces.{onto}
use Rattle.sect_check.specs.Complaints.{expected_text, missing_text}
use Rattle.sect_check.proofs.complaint.print_missing.Goals as goal

pub returns : goal.returns
unfolding missing_text
returns c =
    let end : List ℕ = expected_text c.args.form ++ codes "\n" in
    let behind : List ℕ = codes " is missing" ++ end in
    onto c.args.into.now.items (codes "line " ++ decimal c.args.line) ((codes " word " ++ decimal c.args.number) ++ behind) c.in_ok-print_count.ensures
    (onto c.print_count.new.into.items (codes " word " ++ decimal c.args.number) behind c.in_ok-print_count-2.ensures
    (onto c.print_count-2.new.into.items (codes " is missing") end c.in_ok-print_text.ensures.text
    (onto c.print_text.new.into.items (expected_text c.args.form) (codes "\n") c.in_ok-print_expected.ensures c.in_ok-print_text-2.ensures.text)))
