use Rattle.std.proofs.Common.{◌∙◌, sym}
use Rattle.std.proofs.lemmas.Bool.{false≢true}
use Rattle.std.specs.Option.{is_some}
use Rattle.csv.specs.Reading.{strip_bom}
use Rattle.sect_csv.specs.Rows.{at_start, rows_within}
use Rattle.sect_csv.proofs.RowLemmas.{with-stop, popped-rows, popped-last, nothing-left}
use Rattle.sect_csv.proofs.read.read_lines.Goals as goal
use Rattle.sect_csv.proofs.read.read_lines.Goals.{in-Some, in-None}

pub returns-clause-rows : goal.returns-clause-rows
returns-clause-rows c =
    let w = with-stop c.requires.0 in
    popped-rows c.in_ok-rows.rows.items c.pop.new.self.items c.pop.result (rows_within at_start (strip_bom c.args.lines.now)) w.0 c.pop.ensures.items
    (nothing-left c.in_ok-rows.rows.items c.in_ok-rows.rows.len (is_some c.pop.result) c.in_ok-rows.rows.ok.0 c.pop.ensures.variant.1)
    (c.in_ok-rows.ensures ∙ rw c.requires.1 w.1)

pub returns-clause-whole : goal.returns-clause-whole
returns-clause-whole c =
    elim c.match-pop.branch [
      | in-Some w ↦ λ whole.
          let s = with-stop c.requires.0 in
          let last = popped-last c.in_ok-rows.rows.items c.pop.new.self.items w.in-Some.last (rows_within at_start (strip_bom c.args.lines.now)) s.0
          (rw w.in-Some.is at c.pop.ensures.items) (c.in_ok-rows.ensures ∙ rw c.requires.1 s.1) in
          rw c.requires.1 (s.2 (sym last ∙ w.is_one_byte-whole.ensures (rw w.whole-is at whole)))
      | in-None w ↦ λ whole. absurd (false≢true (sym w.whole-is ∙ whole))
    ]
