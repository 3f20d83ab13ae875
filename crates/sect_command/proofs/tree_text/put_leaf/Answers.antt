-- The rule's digits stand before the colon, and the number's digits behind it.
use Rattle.std.proofs.Common.{◌≡◌, ℕ, ◌+◌, ◌-◌, ◌≤◌, List, [], ◌∷◌, ◌++◌, append-nil, ap, ◌∙◌, arith, decimal, drop, length}
use Rattle.std.proofs.Math.ListN.{set}
use Rattle.std.proofs.lemmas.List.{drop_all, drop-set}
use Rattle.sect_command.proofs.DigitCounts.{ten_digits}
use Rattle.sect_command.proofs.tree_text.put_leaf.Goals as goal

-- a byte is written before the rest
one_before : (byte : ℕ) (bytes rest : List ℕ) (start : ℕ) → 1 ≤ start → start ≤ length bytes → drop start bytes ≡ rest
    → drop (start - 1) (set bytes (start - 1) byte) ≡ byte ∷ rest
one_before byte bytes rest start some within is =
    let same : start - 1 + 1 ≡ start = omega arith in
    drop-set bytes (start - 1) byte (omega arith) ∙ ap (λ k. byte ∷ drop k bytes) same ∙ ap (λ bs. byte ∷ bs) is

pub returns-clause-written : goal.returns-clause-written
returns-clause-written c =
    let none : drop 24 c.args.bytes.now ≡ [] = drop_all 24 c.args.bytes.now (omega (arith, c.told-bytes)) in
    let number : drop c.write_digits-digits.result c.write_digits-digits.new.buf ≡ decimal c.from.result = c.write_digits-digits.ensures.written ∙ ap (λ bs. decimal c.from.result ++ bs) none ∙ append-nil (decimal c.from.result) in
    let few : length (decimal c.from.result) ≤ 10 = ten_digits c.from.result (omega (arith, c.from.ensures, c.ranges.number.fits)) in
    let colon = one_before 58 c.write_digits-digits.new.buf (decimal c.from.result) c.write_digits-digits.result (omega arith) (omega arith) number in
    let whole = c.write_digits.ensures.written ∙ ap (λ bs. decimal c.from-2.result ++ bs) colon in
    cc (whole, c.from.ensures, c.from-2.ensures, c.number_of.ensures)
