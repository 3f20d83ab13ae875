use Rattle.std.proofs.Common.{map}
use Rattle.csv.specs.Records.{fields_of}
use Rattle.sect_csv.proofs.KeptLemmas.{stands-with, text-rows}
use Rattle.sect_csv.proofs.records.Records.feed.Goals as goal

pub invariant_of-self-2 : goal.invariant_of-self-2
invariant_of-self-2 c =
    rw c.note.ensures (stands-with c.self.inside.past.bytes c.self.inside.kept c.args.piece.now c.feed.new.self c.self.invariant c.in_ok-rows.ensures.stands)

pub returns-clause-rows : goal.returns-clause-rows
returns-clause-rows c =
    rw (← c.self.view_is)
    (text-rows c.self.inside.past.bytes c.self.inside.kept c.args.piece.now (map fields_of c.in_ok-rows.rows.items) c.self.invariant c.in_ok-rows.ensures.rows)
