-- The pieces are those of the text.
use Rattle.std.specs.Prelude.{List, ℕ, ◌++◌, codes, decimal, map}
use Rattle.sect_check.proofs.Pieces.{onto}
use Rattle.sect_check.specs.Complaints.{expected_text, remark_of, shown, word_text}
use Rattle.sect_check.proofs.complaint.print_word.Goals as goal

pub returns : goal.returns
unfolding word_text
returns c =
    let said : List ℕ = remark_of c.args.word.now ++ codes "\n" in
    let form : List ℕ = expected_text c.args.form ++ said in
    let quote : List ℕ = codes "\"" ++ form in
    let word : List ℕ = map shown c.args.word.now ++ quote in
    let opened : List ℕ = codes " \"" ++ word in
    onto c.args.into.now.items (codes "line " ++ decimal c.args.line) ((codes " word " ++ decimal c.args.number) ++ opened) c.in_ok-print_count.ensures
    (onto c.print_count.new.into.items (codes " word " ++ decimal c.args.number) opened c.in_ok-print_count-2.ensures
    (onto c.print_count-2.new.into.items (codes " \"") word c.in_ok-print_text.ensures.text
    (onto c.print_text.new.into.items (map shown c.args.word.now) quote c.in_ok-print_shown.ensures
    (onto c.print_shown.new.into.items (codes "\"") form c.in_ok-print_text-2.ensures.text
    (onto c.print_text-2.new.into.items (expected_text c.args.form) said c.in_ok-print_expected.ensures
    (onto c.print_expected.new.into.items (remark_of c.args.word.now) (codes "\n") c.in_ok-print_remark.ensures c.in_ok-print_text-3.ensures.text))))))
