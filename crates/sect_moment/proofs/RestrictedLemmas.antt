-- What restricts is what applies and doesn't admit.
use Rattle.std.proofs.Common.{◌≡◌, sym, ◌∙◌, arith, length}
use Rattle.std.specs.Prelude.{Bool, true, false, not, ◌&&◌, ◌==◌, List, [], ◌∷◌, filter}
use Rattle.std.specs.List.{list_any}
use Rattle.std.proofs.lemmas.Bool.{eqb-true}
use Rattle.sect_reserve.specs.Audience.{empty_or_any}
use Rattle.sect_model.specs.Data.{StudentId, CourseId, ConfigId, SectionId, OfferingId, Restriction}
use Rattle.sect_model.specs.World.{World}
use Rattle.sect_model.specs.Choice.{subparts_of}
use Rattle.sect_model.specs.Allowed.{applies_to, restrictions_of, restrictions_for}
use Rattle.sect_model.specs.Rules.{is_restricted}
use Rattle.sect_moment.specs.Standing.{admits_all}
use Rattle.sect_moment.proofs.NthLemmas.{filter-both}
use Rattle.sect_moment.proofs.LeastLemmas.{none-admits}

abbrev applies : World → StudentId → CourseId → Restriction → Bool
applies v st course r = applies_to v st course r.audience

abbrev admits : World → CourseId → ConfigId → List SectionId → Restriction → Bool
admits v course config sections r = admits_all (subparts_of v course config) config sections r.includes

-- some apply, and none of those admits
pub restricted : (v : World) (st : StudentId) (offering : OfferingId) (course : CourseId) (config : ConfigId) (sections : List SectionId) (rows : List Restriction) → rows ≡ restrictions_of v offering
    → list_any (applies v st course) rows && not (list_any (λ r. applies v st course r && admits v course config sections r) rows)
    ≡ is_restricted (subparts_of v course config) config sections (restrictions_for v st course offering)
restricted v st offering course config sections rows e =
    none-admits (applies v st course) (admits v course config sections) rows
    ∙ (λ i. not (empty_or_any (admits v course config sections) (filter (applies v st course) (e i))))
    ∙ (λ i. not (empty_or_any (admits v course config sections) (sym (filter-both (λ r. r.offering.0 == offering.0) (applies v st course) v.restrictions) i)))

-- where there are none, none applies
pub unrestricted : (v : World) (st : StudentId) (offering : OfferingId) (course : CourseId) (config : ConfigId) (sections : List SectionId) (rows : List Restriction) → rows ≡ restrictions_of v offering
    → (length rows == 0) ≡ true → false ≡ is_restricted (subparts_of v course config) config sections (restrictions_for v st course offering)
unrestricted v st offering course config sections [] e h = restricted v st offering course config sections [] e
unrestricted v st offering course config sections (r ∷ rows) e h = let z : length (r ∷ rows) ≡ 0 = eqb-true (length (r ∷ rows)) 0 h in absurd (omega (arith, z))
