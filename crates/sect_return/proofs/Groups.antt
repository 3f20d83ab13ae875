-- Groups of rows within an offering: sections in a subpart, subparts in a configuration, configurations in the offering.
use Rattle.std.proofs.Common.{◌≡◌, ◌==◌, ℕ, ◌+◌, ◌<◌, false, IsTrue, List, [], ◌∷◌, ◌++◌, length, map, append-nil, append_assoc, Option, Some, refl, sym, ◌∙◌, subst, arith}
use Rattle.std.specs.Prelude.{flat_map}
use Rattle.sect_base.specs.declared.ids.ConfigId.{ConfigId}
use Rattle.sect_base.specs.declared.ids.SubpartId.{SubpartId}
use Rattle.sect_base.specs.declared.limit.Limit.{Limit}
use Rattle.sect_catalog.specs.declared.row.ConfigRow.{ConfigRow}
use Rattle.sect_catalog.specs.declared.row.OfferingRow.{OfferingRow}
use Rattle.sect_catalog.specs.declared.row.SectionRow.{SectionRow}
use Rattle.sect_catalog.specs.declared.row.SubpartRow.{SubpartRow}
use Rattle.sect_command.specs.declared.command.Command.{Command}
use Rattle.sect_command.specs.declared.view.Table.TheVariants as tables
use Rattle.sect_people.specs.Order.{all_differ}
use Rattle.sect_read.specs.Fits.{FitsConfig, FitsConfigRow, FitsCourseRow, FitsLimit, FitsList, FitsOffering, FitsSectionRow, FitsSubpart, FitsSubpartRow}
use Rattle.sect_csv.specs.Tables.{section_fields as section_texts}
use Rattle.sect_tables.specs.Offerings.{at_last, config_with}
use Rattle.sect_return.specs.Back.{HasSections, HasSubparts}
use Rattle.sect_return.proofs.Ends.{Ends, ends_with, standing}
use Rattle.sect_return.proofs.Offerings.{before_at, config_behind, goes_other, goes_same, row_goes_on, section_behind, some_sections, some_subparts, subpart_behind, taken}
use Rattle.sect_return.proofs.Others.{next_differs}
use Rattle.sect_return.proofs.Sections.{FitsRow, Goes, line_of}

-- the rows of a subpart
abbrev pub subpart_rows : OfferingRow → ConfigRow → SubpartRow → List (List (List ℕ))
subpart_rows o g p = flat_map (λ s. section_texts o g p s ∷ []) p.sections

-- the rows of a configuration
abbrev pub config_rows : OfferingRow → ConfigRow → List (List (List ℕ))
config_rows o g = flat_map (subpart_rows o g) g.subparts

-- all but the configurations of an offering has a text, and it has a course
pub record FitsFront (o : OfferingRow) : Type 0 where
  pub offering : FitsOffering o.id
  pub some : 0 < length o.courses
  pub courses : FitsList FitsCourseRow o.courses

module _ (term : Option ℕ) (first : ℕ) (opened : Option ℕ) (o : OfferingRow) (front : FitsFront o) (commands : List Command) where
  -- from these configurations on, the last row in this one, the rows give the commands
  abbrev pub From : ConfigRow → List ConfigRow → List (List (List ℕ)) → Type 0
  From g configs rows = (at : ℕ) → 0 < at → Ends (standing tables.Offerings term at (taken first o g configs) opened) rows commands

  fits_row : (g : ConfigRow) (p : SubpartRow) → FitsConfig g.id → FitsLimit g.limit → FitsSubpart p.id → FitsRow o g p
  fits_row g p config limit subpart = record { offering = front.offering; some = front.some; courses = front.courses; config = config; limit = limit; subpart = subpart }

  -- a row of the offering
  row_then : (g h : ConfigRow) (p : SubpartRow) (s : SectionRow) (configs next : List ConfigRow) (rows : List (List (List ℕ))) → FitsRow o h p → FitsSectionRow s → Goes (Some (before_at o g)) o h
      → at_last (config_with (line_of o h p s)) configs ≡ next → From h next rows → From g configs (section_texts o h p s ∷ rows)
  row_then g h p s configs next rows row fits goes is_next follows at some =
      ends_with (standing tables.Offerings term at (taken first o g configs) opened) _ (section_texts o h p s) rows [] commands
      (row_goes_on term at first opened o g h configs p s row fits goes)
      (subst (λ its. Ends (standing tables.Offerings term (at + 1) (taken first o h its) opened) rows commands) (sym is_next) (follows (at + 1) (omega arith)))

  -- the other sections of a subpart
  sections_then : (g : ConfigRow) (p : SubpartRow) (gs : List ConfigRow) (ps : List SubpartRow) (all : List SectionRow) (rows : List (List (List ℕ))) → FitsRow o g p
      → From g (gs ++ (some_subparts g (ps ++ (some_sections p.id all ∷ [])) ∷ [])) rows
      → (more done : List SectionRow) → FitsList FitsSectionRow more → done ++ more ≡ all
      → From g (gs ++ (some_subparts g (ps ++ (some_sections p.id done ∷ [])) ∷ [])) (flat_map (λ s. section_texts o g p s ∷ []) more ++ rows)
  sections_then g p gs ps all rows row follows [] done fits is_all =
      subst (λ its. From g (gs ++ (some_subparts g (ps ++ (some_sections p.id its ∷ [])) ∷ [])) rows) (sym is_all ∙ append-nil done) follows
  sections_then g p gs ps all rows row follows (s ∷ more) done fits is_all =
      row_then g g p s _ _ (flat_map (λ t. section_texts o g p t ∷ []) more ++ rows) row fits.0 (goes_same o g) (section_behind o g p s gs ps done)
      (sections_then g p gs ps all rows row follows more (done ++ (s ∷ [])) fits.1 (append_assoc done (s ∷ []) more ∙ is_all))

  -- a subpart behind another one
  subpart_then : (g : ConfigRow) (last : SubpartRow) (gs : List ConfigRow) (ps : List SubpartRow) (id : SubpartId) (sections : List SectionRow) (rows : List (List (List ℕ)))
      → FitsConfig g.id → FitsLimit g.limit → FitsSubpart id → FitsList FitsSectionRow sections → 0 < length sections → (last.id.0 == id.0) ≡ false
      → From g (gs ++ (some_subparts g ((ps ++ (last ∷ [])) ++ (some_sections id sections ∷ [])) ∷ [])) rows
      → From g (gs ++ (some_subparts g (ps ++ (last ∷ [])) ∷ [])) (subpart_rows o g (some_sections id sections) ++ rows)
  subpart_then g last gs ps id [] rows config limit subpart fits some other follows = absurd (omega (arith, some))
  subpart_then g last gs ps id (s ∷ more) rows config limit subpart fits some other follows =
      let p = some_sections id (s ∷ more) in
      let row = fits_row g p config limit subpart in
      row_then g g p s _ _ (flat_map (λ t. section_texts o g p t ∷ []) more ++ rows) row fits.0 (goes_same o g) (subpart_behind o g last p s gs ps other)
      (sections_then g p gs (ps ++ (last ∷ [])) (s ∷ more) rows row follows more (s ∷ []) fits.1 refl)

  -- the other subparts of a configuration
  subparts_then : (g : ConfigRow) (gs : List ConfigRow) (all : List SubpartRow) (rows : List (List (List ℕ))) → FitsConfig g.id → FitsLimit g.limit
      → From g (gs ++ (some_subparts g all ∷ [])) rows
      → (more ps : List SubpartRow) (last : SubpartRow) → FitsList FitsSubpartRow more → FitsList HasSections more → IsTrue (all_differ (map (λ p. p.id.0) (last ∷ more))) → ps ++ (last ∷ more) ≡ all
      → From g (gs ++ (some_subparts g (ps ++ (last ∷ [])) ∷ [])) (flat_map (subpart_rows o g) more ++ rows)
  subparts_then g gs all rows config limit follows [] ps last fits some differ is_all =
      subst (λ its. From g (gs ++ (some_subparts g its ∷ [])) rows) (sym is_all) follows
  subparts_then g gs all rows config limit follows (q ∷ more) ps last fits some differ is_all =
      let apart = next_differs (λ (p : SubpartRow). p.id.0) last q more differ in
      subst (From g (gs ++ (some_subparts g (ps ++ (last ∷ [])) ∷ []))) (sym (append_assoc (subpart_rows o g q) (flat_map (subpart_rows o g) more) rows))
      (subpart_then g last gs ps q.id q.sections (flat_map (subpart_rows o g) more ++ rows) config limit fits.0.0 fits.0.1 some.0 apart.0
      (subparts_then g gs all rows config limit follows more (ps ++ (last ∷ [])) q fits.1 some.1 apart.1 (append_assoc ps (last ∷ []) (q ∷ more) ∙ is_all)))

  -- a configuration of which the first row was read
  pub rest_then : (g : ConfigRow) (gs : List ConfigRow) (id : SubpartId) (s : SectionRow) (sections : List SectionRow) (more : List SubpartRow) (rows : List (List (List ℕ)))
      → FitsConfig g.id → FitsLimit g.limit → FitsSubpart id → FitsList FitsSectionRow sections → FitsList FitsSubpartRow more → FitsList HasSections more
      → IsTrue (all_differ (map (λ p. p.id.0) (some_sections id (s ∷ sections) ∷ more)))
      → From g (gs ++ (some_subparts g (some_sections id (s ∷ sections) ∷ more) ∷ [])) rows
      → From g (gs ++ (some_subparts g (some_sections id (s ∷ []) ∷ []) ∷ []))
      ((flat_map (λ t. section_texts o g (some_sections id (s ∷ sections)) t ∷ []) sections ++ flat_map (subpart_rows o g) more) ++ rows)
  rest_then g gs id s sections more rows config limit subpart fits others some differ follows =
      let p = some_sections id (s ∷ sections) in
      subst (From g (gs ++ (some_subparts g (some_sections id (s ∷ []) ∷ []) ∷ []))) (sym (append_assoc (flat_map (λ t. section_texts o g p t ∷ []) sections) (flat_map (subpart_rows o g) more) rows))
      (sections_then g p gs [] (s ∷ sections) (flat_map (subpart_rows o g) more ++ rows) (fits_row g p config limit subpart)
      (subparts_then g gs (p ∷ more) rows config limit follows more [] p others some differ refl) sections (s ∷ []) fits refl)

  -- a configuration behind another one, by its first subpart
  config_begins : (last g : ConfigRow) (gs : List ConfigRow) (id : SubpartId) (sections : List SectionRow) (more : List SubpartRow) (rows : List (List (List ℕ)))
      → FitsConfig g.id → FitsLimit g.limit → FitsSubpart id → FitsList FitsSectionRow sections → FitsList FitsSubpartRow more → 0 < length sections → FitsList HasSections more
      → IsTrue (all_differ (map (λ p. p.id.0) (some_sections id sections ∷ more))) → (last.id.0 == g.id.0) ≡ false
      → From g ((gs ++ (last ∷ [])) ++ (some_subparts g (some_sections id sections ∷ more) ∷ [])) rows
      → From last (gs ++ (last ∷ [])) (flat_map (subpart_rows o g) (some_sections id sections ∷ more) ++ rows)
  config_begins last g gs id [] more rows config limit subpart fits others some each differ other follows = absurd (omega (arith, some))
  config_begins last g gs id (s ∷ sections) more rows config limit subpart fits others some each differ other follows =
      let p = some_sections id (s ∷ sections) in
      row_then last g p s _ _ ((flat_map (λ t. section_texts o g p t ∷ []) sections ++ flat_map (subpart_rows o g) more) ++ rows)
      (fits_row g p config limit subpart) fits.0 (goes_other o last g other) (config_behind o last g p s gs other)
      (rest_then g (gs ++ (last ∷ [])) id s sections more rows config limit subpart fits.1 others each differ follows)

  -- a configuration behind another one
  config_then : (last : ConfigRow) (gs : List ConfigRow) (id : ConfigId) (limit : Limit) (subparts : List SubpartRow) (rows : List (List (List ℕ)))
      → FitsConfigRow (record { id = id; limit = limit; subparts = subparts }) → HasSubparts (record { id = id; limit = limit; subparts = subparts }) → (last.id.0 == id.0) ≡ false
      → From (record { id = id; limit = limit; subparts = subparts }) ((gs ++ (last ∷ [])) ++ (record { id = id; limit = limit; subparts = subparts } ∷ [])) rows
      → From last (gs ++ (last ∷ [])) (config_rows o (record { id = id; limit = limit; subparts = subparts }) ++ rows)
  config_then last gs id limit [] rows fits has other follows = absurd (omega (arith, has.0))
  config_then last gs id limit (p ∷ more) rows fits has other follows =
      config_begins last (record { id = id; limit = limit; subparts = p ∷ more }) gs p.id p.sections more rows fits.0 fits.1 fits.2.0.0 fits.2.0.1 fits.2.1 has.1.0 has.1.1 has.2 other follows

  -- the other configurations of the offering
  pub configs_then : (all : List ConfigRow) (rows : List (List (List ℕ))) → ((g : ConfigRow) → From g all rows)
      → (more gs : List ConfigRow) (last : ConfigRow) → FitsList FitsConfigRow more → FitsList HasSubparts more → IsTrue (all_differ (map (λ g. g.id.0) (last ∷ more))) → gs ++ (last ∷ more) ≡ all
      → From last (gs ++ (last ∷ [])) (flat_map (config_rows o) more ++ rows)
  configs_then all rows follows [] gs last fits has differ is_all = subst (λ its. From last its rows) (sym is_all) (follows last)
  configs_then all rows follows (g ∷ more) gs last fits has differ is_all =
      let apart = next_differs (λ (h : ConfigRow). h.id.0) last g more differ in
      subst (From last (gs ++ (last ∷ []))) (sym (append_assoc (config_rows o g) (flat_map (config_rows o) more) rows))
      (config_then last gs g.id g.limit g.subparts (flat_map (config_rows o) more ++ rows) fits.0 has.0 apart.0
      (configs_then all rows follows more (gs ++ (last ∷ [])) g fits.1 has.1 apart.1 (append_assoc gs (last ∷ []) (g ∷ more) ∙ is_all)))
