-- The ticket stands behind the others, and the set has it.
use Rattle.std.proofs.Common.{◌∙◌, ◌++◌, ◌∷◌, [], ap, sym, subst}
use Rattle.sect_wait.specs.Marked.{IsSetOf}
use Rattle.sect_wait.proofs.MarkLemmas.{set-more}
use Rattle.sect_wait.proofs.marks.Marks.mark.Goals as goal

pub invariant_of-self-2 : goal.invariant_of-self-2
invariant_of-self-2 c =
    let i = c.self.inside in
    subst (λ ts. IsSetOf ts c.insert.new.self) (sym (c.push_reserved.ensures.items ∙ ap (λ ts. ts ++ c.args.ticket ∷ []) c.reserve.ensures.items))
    (set-more i.tickets.items c.args.ticket i.set c.insert.new.self c.self.invariant c.in_ok-insert.ensures.updates.0)
