use Rattle.sect_app.proofs.Turns.{looked}
use Rattle.sect_app.proofs.table.has_more.Goals as goal

pub returns-clause-looks : goal.returns-clause-looks
returns-clause-looks g c =
    looked (g.S.Source.left c.args.source.now) (g.S.Source.left c.read_piece.new.source) c.in_ok-count.count c.read_piece.new.buffer.items
    c.in_ok-count.ensures.bound.0 c.in_ok-count.ensures.bound.1 c.in_ok-count.ensures.bytes c.in_ok-count.ensures.end
