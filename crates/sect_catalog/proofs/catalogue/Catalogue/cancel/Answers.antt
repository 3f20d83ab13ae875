-- The section stands behind the others, and is marked.
use Rattle.std.proofs.Common.{◌≡◌, ◌∙◌, ◌++◌, ◌∷◌, [], ap, sym, subst, false}
use Rattle.sect_catalog.specs.Catalogue.{is_cancelled}
use Rattle.sect_catalog.specs.Rising.{Marks}
use Rattle.sect_catalog.proofs.MarksLemmas.{marks-more}
use Rattle.sect_catalog.proofs.catalogue.Catalogue.cancel.Goals as goal

pub invariant_of-self-2 : goal.invariant_of-self-2
invariant_of-self-2 c =
    let i = c.self.inside in (
      c.self.invariant.0,
      subst (λ ss. Marks ss c.put.new.self) (sym (c.push_reserved.ensures.items ∙ ap (λ ss. ss ++ c.args.id ∷ []) c.reserve.ensures.items))
          (marks-more i.cancelled.items c.args.id i.marks c.put.new.self c.self.invariant.1
          (subst (λ now. is_cancelled now c.args.id ≡ false) (sym c.self.view_is) c.requires.fresh) c.in_ok-put.ensures.ok),
    )
