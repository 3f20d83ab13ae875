use Rattle.std.proofs.Common.{ap, arith, length}
use Rattle.sect_once.proofs.Cuts.{cut-length, text_at}
use Rattle.sect_once.proofs.texts.Texts.get.Goals as goal

pub start_of-start-requires : goal.start_of-start-requires
start_of-start-requires c = let n = ap (λ s. length s.texts) c.self.view_is in let m = cut-length 0 c.self.inside.bytes.items c.self.inside.ends.items in omega (arith, n, m, c.requires)

pub end_of-end-requires : goal.end_of-end-requires
end_of-end-requires c = let n = ap (λ s. length s.texts) c.self.view_is in let m = cut-length 0 c.self.inside.bytes.items c.self.inside.ends.items in omega (arith, n, m, c.requires)

pub part_of-requires-clause-rises : goal.part_of-requires-clause-rises
part_of-requires-clause-rises c = (text_at c.self.inside.bytes.items c.self.inside.ends.items c.args.at c.start_of-start.result c.end_of-end.result c.self.invariant
    (rw c.as_slice.ensures.value at c.start_of-start.ensures) (rw c.as_slice-2.ensures.value at c.end_of-end.ensures)).0

pub part_of-requires-clause-within : goal.part_of-requires-clause-within
part_of-requires-clause-within c = let s = text_at c.self.inside.bytes.items c.self.inside.ends.items c.args.at c.start_of-start.result c.end_of-end.result c.self.invariant
    (rw c.as_slice.ensures.value at c.start_of-start.ensures) (rw c.as_slice-2.ensures.value at c.end_of-end.ensures) in rw c.as_slice-3.ensures.value s.1

pub returns : goal.returns
returns c = let s = text_at c.self.inside.bytes.items c.self.inside.ends.items c.args.at c.start_of-start.result c.end_of-end.result c.self.invariant
    (rw c.as_slice.ensures.value at c.start_of-start.ensures) (rw c.as_slice-2.ensures.value at c.end_of-end.ensures) in
    rw (← c.self.view_is, c.part_of.ensures, c.as_slice-3.ensures.value) s.2
