-- The write at the place is the change of the one with the id.
use Rattle.std.proofs.Common.{◌≡◌, ◌∙◌, ap, sym, subst, map, Some, None}
use Rattle.sect_catalog.specs.Catalogue.{Catalogue}
use Rattle.sect_catalog.specs.Limits.{with_limit, cap_key}
use Rattle.sect_catalog.specs.Place.{place_of, all_entries, place_in}
use Rattle.sect_catalog.specs.Rising.{Keeps}
use Rattle.sect_catalog.proofs.LimitLemmas.{limit-keeps}
use Rattle.sect_catalog.proofs.SearchLemmas.{none_left}
use Rattle.sect_catalog.proofs.WriteMore.{written, absent}
use Rattle.sect_catalog.proofs.catalogue.Catalogue.set_limit.Goals as goal

pub invariant_of-self : goal.invariant_of-self
invariant_of-self c =
    let i = c.self.inside in
    let here : place_in (all_entries i.rows.items) (cap_key c.args.cap) ≡ Some c.in-Some-place.at =
    sym (c.place.ensures ∙ ap (place_of i.places) c.cap_key.ensures ∙ c.self.invariant.0.places (cap_key c.args.cap)) ∙ c.in-Some-place.is
    in (
      subst (λ rows. Keeps rows i.places i.courses.items i.sections) (sym (c.put_at.ensures ∙ written c.args.cap c.args.limit i.rows.items c.in-Some-place.at c.self.invariant.0.checked here))
          (limit-keeps c.args.cap c.args.limit i.rows.items i.places i.courses.items i.sections c.self.invariant.0),
      c.self.invariant.1,
    )

pub returns-in-Some-place-clause-new : goal.returns-in-Some-place-clause-new
returns-in-Some-place-clause-new c =
    let i = c.self.inside in
    let here : place_in (all_entries i.rows.items) (cap_key c.args.cap) ≡ Some c.in-Some-place.at =
    sym (c.place.ensures ∙ ap (place_of i.places) c.cap_key.ensures ∙ c.self.invariant.0.places (cap_key c.args.cap)) ∙ c.in-Some-place.is
    in
    ap (λ rows. record { rows = rows; cancelled = i.cancelled.items }) (c.put_at.ensures ∙ written c.args.cap c.args.limit i.rows.items c.in-Some-place.at c.self.invariant.0.checked here)
    ∙ ap (λ (now : Catalogue). record { rows = map (with_limit c.args.cap c.args.limit) now.rows; cancelled = now.cancelled }) c.self.view_is

pub returns-in_default-clause-new : goal.returns-in_default-clause-new
returns-in_default-clause-new c =
    let i = c.self.inside in
    let none : place_in (all_entries i.rows.items) (cap_key c.args.cap) ≡ None =
    sym (c.place.ensures ∙ ap (place_of i.places) c.cap_key.ensures ∙ c.self.invariant.0.places (cap_key c.args.cap)) ∙ none_left c.place.result c.in_default.not-Some
    in
    sym c.self.view_is
    ∙ ap (λ rows. record { rows = rows; cancelled = i.cancelled.items }) (sym (absent c.args.cap c.args.limit i.rows.items none))
    ∙ ap (λ (now : Catalogue). record { rows = map (with_limit c.args.cap c.args.limit) now.rows; cancelled = now.cancelled }) c.self.view_is
