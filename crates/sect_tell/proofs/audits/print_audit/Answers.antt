use Rattle.sect_tell.proofs.audits.print_audit.Goals as goal

pub returns : goal.returns
returns c = (c.print_day-day.result, c.print_day-day.ensures.text, c.in_ok-print_line.ensures)
