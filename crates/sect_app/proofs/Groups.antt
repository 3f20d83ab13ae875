-- What several rows say has a text.
use Rattle.std.proofs.Common.{ℕ, ◌==◌, true, false, Bool, List, [], ◌∷◌, ◌++◌}
use Rattle.std.specs.Prelude.{if◌then◌else◌}
use Rattle.std.specs.List.{AllByRecursion}
use Rattle.sect_catalog.specs.declared.row.ConfigRow.{ConfigRow}
use Rattle.sect_catalog.specs.declared.row.SectionRow.{SectionRow}
use Rattle.sect_catalog.specs.declared.row.SubpartRow.{SubpartRow}
use Rattle.sect_base.specs.declared.ids.StudentId.{StudentId}
use Rattle.sect_tables.specs.declared.line.SectionLine.{SectionLine}
use Rattle.sect_people.specs.declared.row.Ask.{Ask}
use Rattle.sect_tables.specs.Offerings.{OfferingSoFar, at_last, config_of, config_with, offering_begun, offering_with, subpart_of, subpart_with}
use Rattle.sect_tables.specs.Requests.{RequestsSoFar, requests_begun, requests_with}
use Rattle.sect_read.specs.Fits.{FitsAsk, FitsConfigRow, FitsList, FitsOfferingRow, FitsSectionRow, FitsStudent, FitsSubpartRow}
use Rattle.sect_app.proofs.Lines.{FitsSectionLine}

module _ {X : Type 0} (Fits : X → Type 0) where
  pub all_append : (xs ys : List X) → AllByRecursion Fits xs → AllByRecursion Fits ys → AllByRecursion Fits (xs ++ ys)
  all_append [] ys front behind = behind
  all_append (x ∷ xs) ys front behind = (front.0, all_append xs ys front.1 behind)

  -- others in the place of the last
  at_last_fits : (others : X → List X) → ((x : X) → Fits x → AllByRecursion Fits (others x)) → (xs : List X) → AllByRecursion Fits xs → AllByRecursion Fits (at_last others xs)
  at_last_fits others each [] fits = tt
  at_last_fits others each (x ∷ []) fits = each x fits.0
  at_last_fits others each (x ∷ y ∷ ys) fits = (fits.0, at_last_fits others each (y ∷ ys) fits.1)

-- ---- offerings

subpart_fits : (line : SectionLine) → FitsSectionLine line → FitsSubpartRow (subpart_of line)
subpart_fits line fits = (fits.subpart, (fits.section, tt))

config_fits : (line : SectionLine) → FitsSectionLine line → FitsConfigRow (config_of line)
config_fits line fits = (fits.config, fits.config_limit, (subpart_fits line fits, tt))

subpart_with_fits : (line : SectionLine) → FitsSectionLine line → (subpart : SubpartRow) → FitsSubpartRow subpart → FitsList FitsSubpartRow (subpart_with line subpart)
subpart_with_fits line fits subpart its = by (subpart.id.0 == line.subpart.0)
  where
    by : (same : Bool) → FitsList FitsSubpartRow (if same then record subpart { sections = subpart.sections ++ (line.section ∷ []) } ∷ [] else subpart ∷ subpart_of line ∷ [])
    by true = ((its.0, all_append FitsSectionRow subpart.sections (line.section ∷ []) its.1 (fits.section, tt)), tt)
    by false = (its, (subpart_fits line fits, tt))

config_with_fits : (line : SectionLine) → FitsSectionLine line → (config : ConfigRow) → FitsConfigRow config → FitsList FitsConfigRow (config_with line config)
config_with_fits line fits config its = by (config.id.0 == line.config.0)
  where
    by : (same : Bool) → FitsList FitsConfigRow (if same then record config { subparts = at_last (subpart_with line) config.subparts } ∷ [] else config ∷ config_of line ∷ [])
    by true = ((its.0, its.1, at_last_fits FitsSubpartRow (subpart_with line) (subpart_with_fits line fits) config.subparts its.2), tt)
    by false = (its, (config_fits line fits, tt))

pub offering_begun_fits : (fields : List (List ℕ)) (line : SectionLine) → FitsSectionLine line → FitsOfferingRow (offering_begun fields line).row
unfolding offering_begun
offering_begun_fits fields line fits = (fits.offering, fits.courses, (config_fits line fits, tt))

pub offering_with_fits : (so_far : OfferingSoFar) (fields : List (List ℕ)) (line : SectionLine) → FitsOfferingRow so_far.row → FitsSectionLine line → FitsOfferingRow (offering_with so_far fields line).row
unfolding offering_with
offering_with_fits so_far fields line before fits = (before.0, before.1, at_last_fits FitsConfigRow (config_with line) (config_with_fits line fits) so_far.row.configs before.2)

-- ---- requests

-- the student and the requests have texts
abbrev pub FitsRequests : RequestsSoFar → Type 0
FitsRequests so_far = FitsStudent so_far.student × FitsList FitsAsk so_far.asks

pub requests_begun_fits : (fields : List (List ℕ)) (line : StudentId × Ask) → FitsStudent line.0 × FitsAsk line.1 → FitsRequests (requests_begun fields line)
unfolding requests_begun
requests_begun_fits fields line fits = (fits.0, (fits.1, tt))

pub requests_with_fits : (so_far : RequestsSoFar) (line : StudentId × Ask) → FitsRequests so_far → FitsStudent line.0 × FitsAsk line.1 → FitsRequests (requests_with so_far line)
unfolding requests_with
requests_with_fits so_far line before fits = (before.0, all_append FitsAsk so_far.asks (line.1 ∷ []) before.1 (fits.1, tt))
