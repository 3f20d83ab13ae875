-- The first place of a line feed, and no other before it.
use Rattle.std.proofs.Common.{◌≡◌, ◌<◌, ℕ, List, None, Some, length, take, get_or, sym, ◌∙◌, arith}
use Rattle.std.specs.Prelude.{IfSome, IfNone, Option}
use Rattle.std.proofs.lemmas.Bool.{eq-eqb, eqb-true}
use Rattle.std.proofs.lemmas.List.{get_or-take, length-take-le}
use Rattle.std.proofs.lemmas.List.Elements.{All-from_get_or}
use Rattle.memchr.specs.Find.{IsFirstByte, is_byte}
use Rattle.sect_script.specs.Lines.{IsOneLine}
use Rattle.sect_script.proofs.reader.line_feed_at.Goals as goal

first_feed : (bytes : List ℕ) (r : Option ℕ) → IsFirstByte (is_byte 10) bytes r
    → IfSome r (λ at. at < length bytes) × IfSome r (λ at. get_or bytes at 0 ≡ 10) × IfSome r (λ at. IsOneLine (take at bytes)) × IfNone r (IsOneLine bytes)
first_feed bytes None nowhere =
    (tt, tt, tt, All-from_get_or (λ byte. byte ≡ 10 → ⊥) bytes 0 (λ k within same. nowhere k (omega arith) within (eq-eqb (get_or bytes k 0) 10 same)))
first_feed bytes (Some at) first =
    let long : length (take at bytes) ≡ at = length-take-le at bytes (omega (arith, first.0.high)) in (
      first.0.high,
      eqb-true (get_or bytes at 0) 10 first.1,
      All-from_get_or (λ byte. byte ≡ 10 → ⊥) (take at bytes) 0 (λ k within same.
          let below : k < at = omega (arith, within, long) in
          first.0.before k (omega arith) below (eq-eqb (get_or bytes k 0) 10 (sym (get_or-take at bytes k 0 below) ∙ same))),
      tt,
    )

pub returns : goal.returns
returns c =
    let found = first_feed c.args.bytes.now c.memchr.result c.memchr.ensures in
    record { within = found.0; found = found.1; before = found.2; none = found.3 }
