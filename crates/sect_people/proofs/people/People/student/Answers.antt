-- The index tells the place, and what stands there is what the look-up finds.
use Rattle.std.proofs.Common.{◌∙◌, ap, sym, option_copied}
use Rattle.std.specs.List.{slice_get}
use Rattle.std.specs.Option.{option_and_then}
use Rattle.sect_people.proofs.PlaceLemmas.{place-find}
use Rattle.sect_people.proofs.IndexLemmas.{got}
use Rattle.sect_people.proofs.people.People.student.Goals as goal

pub returns-in_err-place : goal.returns-in_err-place
returns-in_err-place c =
    ap option_copied c.from_residual.ensures
    ∙ ap (option_and_then (slice_get c.args.self.now)) (sym c.in_err-place.was ∙ c.place.ensures)
    ∙ place-find (λ s. s.row.id.0) c.args.self.now c.args.id.0

pub returns : goal.returns
returns c =
    got c.get.result c.deref.result.now c.in_ok-place.place c.get.ensures.lookup.3
    ∙ ap (λ ss. slice_get ss c.in_ok-place.place) (c.deref.ensures.value ∙ c.self.view_is)
    ∙ ap (option_and_then (slice_get c.args.self.now)) (sym c.in_ok-place.was ∙ c.place.ensures)
    ∙ place-find (λ s. s.row.id.0) c.args.self.now c.args.id.0
