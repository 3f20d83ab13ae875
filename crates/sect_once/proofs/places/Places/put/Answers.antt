use Rattle.std.proofs.Common.{◌≡◌, ℕ, ◌∙◌, ◌+◌, List, ap, arith, length, set, subst, sym}
use Rattle.sect_once.specs.Places.{placed, ArePlaces}
use Rattle.sect_once.proofs.Slots.{places-more}
use Rattle.sect_once.proofs.places.Places.put.Goals as goal

pub invariant_of-self : goal.invariant_of-self
invariant_of-self c =
    let count : 1 + length c.self.inside.keys.items ≡ c.len.result + 1 = omega (arith, c.len.ensures, c.self.inside.keys.ok.0) in
    subst (λ (z : List ℕ × ℕ). ArePlaces z.0 (set c.self.inside.slots.items c.free_slot-at.result z.1)) (λ i. (sym c.push_reserved.ensures.items i, count i))
    (places-more c.self.inside.keys.items c.self.inside.slots.items c.args.key c.free_slot-at.result c.self.invariant (rw c.as_slice.ensures.value at c.free_slot-at.ensures)
    (ap (λ l. placed l.keys c.args.key) c.self.view_is ∙ c.requires.new))
