-- The row stands behind the others, or all is as before.
use Rattle.std.proofs.Common.{◌≡◌, ◌∙◌, ℕ, ◌+◌, ◌++◌, ◌∷◌, [], ◌^◌, ◌-◌, ◌<◌, arith, min, ap, sym, subst, None, take, map}
use Rattle.sect_catalog.specs.Fault.{fault_of}
use Rattle.sect_catalog.specs.Place.{Notes}
use Rattle.sect_catalog.specs.Rising.{Keeps, put_all_rising}
use Rattle.sect_catalog.proofs.AppendLemmas.{row_sections, taken_back, appended, sum_fits}
use Rattle.sect_catalog.proofs.KindLemmas.{have_kinds, kinds-row}
use Rattle.sect_catalog.proofs.Outcomes.{on_ok, on_err}
use Rattle.sect_catalog.proofs.catalogue.Catalogue.append.Goals as goal

pub note-requires : goal.note-requires
note-requires c = subst have_kinds (sym (c.deref.ensures.value ∙ c.in_ok-entries.ensures)) (kinds-row c.len-at.result c.args.row)

pub invariant_of-self-then-is_err : goal.invariant_of-self-then-is_err
invariant_of-self-then-is_err c =
    let i = c.self.inside in
    let k = c.self.invariant.0 in
    let part : (n : ℕ) × Notes i.places c.note.new.self (take n c.deref.result.now) = on_err c.note.result ((n : ℕ) × Notes i.places c.note.new.self (take n c.deref.result.now)) c.note.ensures.err c.if-is_err.ensures.negation in (
      subst (λ rows. Keeps rows c.keep_first.new.self c.reserve-2.new.self.items i.sections) (sym c.reserve.ensures.items)
          (subst (λ courses. Keeps i.rows.items c.keep_first.new.self courses i.sections) (sym c.reserve-2.ensures.items)
          (record {
            checked = k.checked;
            places =
                taken_back i.rows.items c.args.row i.places c.note.new.self c.keep_first.new.self c.deref.result.now c.len-at.result part.0
                (c.len-at.ensures ∙ i.rows.ok.0) (c.deref.ensures.value ∙ c.in_ok-entries.ensures) k.places part.1 c.keep_first.ensures;
            rising = k.rising;
            counted = k.counted;
          })),
      c.self.invariant.1,
    )

pub overflow_add-self : goal.overflow_add-self
overflow_add-self c =
    let i = c.self.inside in
    let below : i.sections + c.sections-count.result < 2 ^ 64 = sum_fits i.rows.items i.cancelled.items c.args.row i.places i.courses.items i.sections c.sections-count.result c.self.invariant.0
    (subst (λ now. fault_of now c.args.row ≡ None) (sym c.self.view_is) c.requires)
    (c.sections-count.ensures ∙ ap (λ gs. min (row_sections (record c.args.row { configs = gs })) (2 ^ 64 - 1)) c.as_slice.ensures)
    in omega arith

pub invariant_of-self-2 : goal.invariant_of-self-2
invariant_of-self-2 c =
    let i = c.self.inside in (
      subst (λ rows. Keeps rows c.note.new.self c.put_courses.new.ids.items (i.sections + c.sections-count.result)) (sym (c.push_reserved.ensures.items ∙ ap (λ rows. rows ++ c.args.row ∷ []) c.reserve.ensures.items))
          (subst (λ courses. Keeps (i.rows.items ++ c.args.row ∷ []) c.note.new.self courses (i.sections + c.sections-count.result))
          (sym (c.put_courses.ensures ∙ (λ j. put_all_rising (c.reserve-2.ensures.items j) (map (λ c. c.id) (c.as_slice-2.ensures j)))))
          (appended i.rows.items i.cancelled.items c.args.row i.places c.note.new.self i.courses.items i.sections c.sections-count.result c.len-at.result c.deref.result.now c.self.invariant.0
          (subst (λ now. fault_of now c.args.row ≡ None) (sym c.self.view_is) c.requires)
          (c.len-at.ensures ∙ i.rows.ok.0) (c.deref.ensures.value ∙ c.in_ok-entries.ensures)
          (on_ok c.note.result (Notes i.places c.note.new.self c.deref.result.now) c.note.ensures.ok c.if-is_err.ensures.negation)
          (c.sections-count.ensures ∙ ap (λ gs. min (row_sections (record c.args.row { configs = gs })) (2 ^ 64 - 1)) c.as_slice.ensures))),
      c.self.invariant.1,
    )
