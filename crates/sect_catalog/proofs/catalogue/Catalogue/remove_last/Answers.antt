-- What is kept of the other rows.
use Rattle.std.proofs.Common.{◌∙◌, ◌^◌, ◌-◌, min, ap, sym, subst, filter}
use Rattle.sect_catalog.specs.Rising.{Keeps}
use Rattle.sect_catalog.proofs.AppendLemmas.{row_sections}
use Rattle.sect_catalog.proofs.RemoveLemmas.{isnt_of, removed}
use Rattle.sect_catalog.proofs.catalogue.Catalogue.remove_last.Goals as goal

pub invariant_of-self : goal.invariant_of-self
invariant_of-self c =
    let i = c.self.inside in
    let row = c.in-Some.row in (
      subst (λ courses. Keeps c.pop.new.self.items c.keep_first.new.self courses (i.sections - c.sections.result))
          (sym (c.drop_courses.ensures ∙ ap (λ courses. filter (isnt_of courses) i.courses.items) c.as_slice.ensures))
          (removed c.pop.new.self.items row i.places c.keep_first.new.self i.courses.items i.sections c.sections.result c.len.result
          (subst (λ rows. Keeps rows i.places i.courses.items i.sections) c.in-Some.ensures.items c.self.invariant.0)
          (c.len.ensures ∙ c.pop.new.self.ok.0) c.keep_first.ensures
          (c.sections.ensures ∙ ap (λ gs. min (row_sections (record row { configs = gs })) (2 ^ 64 - 1)) c.as_slice-2.ensures)),
      c.self.invariant.1,
    )
