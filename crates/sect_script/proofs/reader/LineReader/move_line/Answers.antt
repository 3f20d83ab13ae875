use Rattle.sect_script.proofs.Ready.{moves_before}
use Rattle.sect_script.proofs.reader.LineReader.move_line.Goals as goal

pub returns-in_ok-extend_from_slice-in-Some : goal.returns-in_ok-extend_from_slice-in-Some
returns-in_ok-extend_from_slice-in-Some c =
    let found = c.in-Some.ensures in
    let fits = c.self.invariant in
    rw (← c.self.view_is) (moves_before c.deref.result.now c.self.inside.piece.items c.self.inside.start c.self.inside.end c.in-Some.at
    c.args.line.now.items c.extend_from_slice.new.self.items c.deref.ensures.value
    found.within found.found found.before fits.0 fits.1 c.in_ok-extend_from_slice-in-Some.ensures.items)
