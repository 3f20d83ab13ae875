use Rattle.sect_once.proofs.TallyRows.{request_made}
use Rattle.sect_once.proofs.tally.request_of.Goals as goal

pub returns : goal.returns
returns c = request_made (record { caller = c.args.caller; number = c.args.number }) c.args.day c.args.command c.day_number.result c.tag_of-tag.result c.number_of.result c.to_be_bytes.result c.to_be_bytes-2.result c.to_be_bytes-3.result
    c.to_be_bytes.ensures c.day_number.ensures.same c.tag_of-tag.ensures c.to_be_bytes-2.ensures c.number_of.ensures c.to_be_bytes-3.ensures
