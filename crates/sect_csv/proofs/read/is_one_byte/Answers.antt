use Rattle.std.proofs.Common.{◌≡◌, ◌∷◌, ◌∙◌, [], ap, sym, Some, rules}
use Rattle.csv.specs.Records.{fields_of}
use Rattle.sect_csv.proofs.RowLemmas.{only-field}
use Rattle.sect_csv.proofs.read.is_one_byte.Goals as goal

pub returns-then-len-eq1 : goal.returns-then-len-eq1
returns-then-len-eq1 c equal =
    let same : c.in-Some.field.now ≡ 120 ∷ [] = search rules in
    only-field (fields_of c.args.row.now) (sym c.len.ensures ∙ c.if-len-eq1.true) (sym c.get.ensures.value ∙ rw c.in-Some.is (ap Some same))
