-- What a line asks, or why it asks nothing.
use Rattle.sect_read.proofs.Found.{says_found, says_only, says_unknown, says_told}
use Rattle.sect_read.proofs.line.read_line.Goals as goal

pub returns-clause-found : goal.returns-clause-found
returns-clause-found c = says_found c.args.line.now c.read_ask.result c.read_ask.ensures

pub returns-clause-only : goal.returns-clause-only
returns-clause-only c = λ ask is. says_only c.args.line.now c.read_ask.result c.read_ask.ensures ask is

pub returns-clause-unknown : goal.returns-clause-unknown
returns-clause-unknown c = λ is. says_unknown c.args.line.now c.read_ask.result c.read_ask.ensures is

pub returns-clause-told : goal.returns-clause-told
returns-clause-told c = λ told. says_told c.args.line.now c.read_ask.result c.read_ask.ensures told
