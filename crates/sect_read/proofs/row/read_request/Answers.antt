-- What is read before ` = ` is the request's part of the row.
use Rattle.std.proofs.Common.{◌∙◌}
use Rattle.sect_read.proofs.RequestText.{part_found}
use Rattle.sect_read.proofs.row.read_request.Goals as goal

pub returns-in-Some-2-clause-text : goal.returns-in-Some-2-clause-text
returns-in-Some-2-clause-text c =
    (c.in-Some.ensures.0, c.in-Some.ensures.1 ∙ (part_found c.in-Some.text.now c.in-Some-2.request (c.in_ok-request.ensures ∙ c.in-Some-2.is)).1)

pub returns-in-Some-2-clause-fits : goal.returns-in-Some-2-clause-fits
returns-in-Some-2-clause-fits c =
    let fits = (part_found c.in-Some.text.now c.in-Some-2.request (c.in_ok-request.ensures ∙ c.in-Some-2.is)).0 in (fits.1, fits.0, fits.2)
