use Rattle.std.proofs.Common.{Bor, List, ℕ, ◌≡◌, ◌++◌, ◌∙◌, sym, refl, rules, inl, inr, true, map, Some, ◌∷◌, []}
use Rattle.std.specs.Result.{is_ok}
use Rattle.std.specs.Io.Chain.{chain_remaining}
use Rattle.std.proofs.lemmas.List.{map-append}
use Rattle.csv.specs.Reading.{Reached, default_config, strip_bom}
use Rattle.csv.specs.Records.{fields_of}
use Rattle.csv.specs.declared.parser.State.TheVariants as st
use Rattle.csv.proofs.ReadFacts.{rows-end, rows-more}
use Rattle.sect_csv.proofs.FoldLemmas.{are-all-rows}
use Rattle.sect_csv.proofs.read.read_all.Goals as goal

pub loop-init : goal.loop-init
unfolding Reached
loop-init c =
    let fr = c.from_reader-reader.ensures in
    let e = c.flexible.ensures in
    let f = c.has_headers.ensures in
    rw c.new-rows.ensures.items (
      rw (e, f) at fr.trim ∙ c.new.ensures.trim,
      inr (inr (rw (e, f) at fr.has_headers, fr.headers)),
      rw (e, f) at fr.config ∙ c.new.ensures.config,
      strip_bom (c.args.text.now ++ c.args.tail.now),
      fr.source ∙ rw c.chain.ensures.bytes refl,
      (sym fr.state, refl),
    )

pub loop-preserved : goal.loop-preserved
loop-preserved c =
    let inv = c.loop.invariant in
    let row = fields_of c.read_byte_record.new.row in
    let s = rw c.in-Ok-true.field-0-test at (c.in-Ok-true.ensures.reads inv.0 inv.1) in
    let first = rw c.in-Ok-true.is at (c.read_byte_record.ensures.ready inv.0) in
    let good : is_ok c.push.result ≡ true = search rules in
    let items = rw good at c.push.ensures.items in
    let m = rows-more (chain_remaining (λ (s : Bor (List ℕ)). Some s.now) (λ (s : Bor (List ℕ)). Some s.now)) c.loop.reader c.read_byte_record.new.self row default_config st.StartRecord (strip_bom (c.args.text.now ++ c.args.tail.now)) inv.3 (map fields_of c.loop.rows.items) inv.2 inv.4 inv.5 s in
    (s.3 ∙ inv.0, inl first, s.2 ∙ inv.2, m.0, m.1, rw (items, map-append fields_of c.loop.rows.items (c.read_byte_record.new.row ∷ [])) m.2)

pub returns-in-Ok-false : goal.returns-in-Ok-false
returns-in-Ok-false c =
    let inv = c.loop.invariant in
    let s = rw c.in-Ok-false.field-0-test at (c.in-Ok-false.ensures.reads inv.0 inv.1) in
    are-all-rows (c.args.text.now ++ c.args.tail.now) (map fields_of c.loop.rows.items)
    (c.loop.reader.state, inv.3, inv.5, rows-end (chain_remaining (λ (s : Bor (List ℕ)). Some s.now) (λ (s : Bor (List ℕ)). Some s.now)) c.loop.reader c.read_byte_record.new.self (fields_of c.read_byte_record.new.row) default_config inv.3 inv.2 inv.4 s)
