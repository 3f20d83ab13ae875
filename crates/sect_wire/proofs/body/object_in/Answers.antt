-- What is read of a body is the object that it is.
use Rattle.sect_wire.proofs.Objects.{object_found, object_none}
use Rattle.sect_wire.proofs.body.object_in.Goals as goal

pub returns-then-is_object : goal.returns-then-is_object
returns-then-is_object c = object_found c.args.body.now _ c.in-Ok.ensures.ok.0 c.in-Ok.ensures.ok.1 (cc (c.is_object.ensures, c.if-is_object.true))

pub returns-else-is_memory : goal.returns-else-is_memory
returns-else-is_memory c = object_none c.args.body.now (c.in-Err.ensures.err (λ memory. absurd (cc (c.is_memory.ensures.1 memory, c.if-is_memory.false))))
