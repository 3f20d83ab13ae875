-- The rows of an offering are read as the offering.
use Rattle.std.proofs.Common.{◌≡◌, ◌==◌, ℕ, ◌+◌, Bool, true, false, List, [], ◌∷◌, ◌++◌, append_assoc, Option, None, Some, refl, sym, ap, ◌∙◌, decimal}
use Rattle.std.proofs.lemmas.Bool.{eq-eqb}
use Rattle.std.specs.Prelude.{if◌then◌else◌}
use Rattle.std.specs.Str.{bytes_eq}
use Rattle.csv.specs.Records.{field_at}
use Rattle.sect_base.specs.declared.ids.SubpartId.{SubpartId}
use Rattle.sect_catalog.specs.declared.row.ConfigRow.{ConfigRow}
use Rattle.sect_catalog.specs.declared.row.OfferingRow.{OfferingRow}
use Rattle.sect_catalog.specs.declared.row.SectionRow.{SectionRow}
use Rattle.sect_catalog.specs.declared.row.SubpartRow.{SubpartRow}
use Rattle.sect_command.specs.declared.view.Table.TheVariants as tables
use Rattle.sect_tables.specs.Fields.{field_of}
use Rattle.sect_tables.specs.declared.line.Before.{Before}
use Rattle.sect_read.specs.Fits.{FitsSectionRow}
use Rattle.sect_csv.specs.Tables.{section_fields as section_texts}
use Rattle.sect_tables.proofs.Lists.{at_last_end}
use Rattle.sect_tables.specs.Offerings.{OfferingSoFar, at_last, config_of, config_with, offering_begun, offering_with, subpart_of, subpart_with}
use Rattle.sect_tables.specs.Rows.{given_of, offering_first, offering_next, offering_row, row_read, same_offering, table_row}
use Rattle.sect_tables.specs.declared.hand.AtHand.{AtHand}
use Rattle.sect_tables.specs.declared.hand.Group.TheVariants as groups
use Rattle.sect_words.proofs.Exact.{word_same}
use Rattle.sect_words.specs.Reading.{only_where}
use Rattle.sect_words.specs.Words.{course_row_text, limit_text, list_text}
use Rattle.sect_return.proofs.Ends.{standing}
use Rattle.sect_return.proofs.Sections.{FitsRow, Goes, line_of, section_back}

-- ---- an offering at hand

-- what the row behind a row of this configuration is compared with
abbrev pub before_at : OfferingRow → ConfigRow → Before
before_at o g = record { courses = list_text 43 course_row_text o.courses; config = record { 0 = g.id.0 }; limit = limit_text g.limit }

-- an offering of which these configurations were read, the last row in this one
abbrev pub part_of : OfferingRow → ConfigRow → List ConfigRow → OfferingSoFar
part_of o g configs = record { name = decimal o.id.0; before = before_at o g; row = record { id = o.id; courses = o.courses; configs = configs } }

-- the same, with its first row
abbrev pub taken : ℕ → OfferingRow → ConfigRow → List ConfigRow → Option AtHand
taken first o g configs = Some (record { first = first; group = groups.Offering (part_of o g configs) })

found : (first : ℕ) (o : OfferingRow) (g : ConfigRow) (configs : List ConfigRow) → same_offering (taken first o g configs) (decimal o.id.0) ≡ Some (first, part_of o g configs)
unfolding same_offering
found first o g configs = ap (λ b. only_where b (first, part_of o g configs)) (word_same (decimal o.id.0) (decimal o.id.0) refl)

-- the offering at hand is another one
pub not_found : (first : ℕ) (o : OfferingRow) (g : ConfigRow) (configs : List ConfigRow) (name : List ℕ) → bytes_eq (decimal o.id.0) name ≡ false → same_offering (taken first o g configs) name ≡ None
unfolding same_offering
not_found first o g configs name other = ap (λ b. only_where b (first, part_of o g configs)) other

-- ---- rows

-- a row of another offering begins it
pub row_begins : (term : Option ℕ) (rows : ℕ) (hand : Option AtHand) (opened : Option ℕ) (o : OfferingRow) (g : ConfigRow) (p : SubpartRow) (s : SectionRow) → FitsRow o g p → FitsSectionRow s
    → same_offering hand (decimal o.id.0) ≡ None
    → row_read (standing tables.Offerings term rows hand opened) (section_texts o g p s)
    ≡ (standing tables.Offerings term (rows + 1) (taken (rows + 1) o g (config_of (line_of o g p s) ∷ [])) (Some (rows + 1)), given_of hand)
unfolding row_read table_row offering_row offering_begun field_of field_at
row_begins term rows hand opened o g p s row fits other =
    ap (offering_row (standing tables.Offerings term (rows + 1) hand opened) (section_texts o g p s)) other
    ∙ ap (offering_first (standing tables.Offerings term (rows + 1) hand opened) (section_texts o g p s)) (section_back term None o g p s row fits (refl, refl))

-- a row of the offering goes on with it
pub row_goes_on : (term : Option ℕ) (rows first : ℕ) (opened : Option ℕ) (o : OfferingRow) (g h : ConfigRow) (configs : List ConfigRow) (p : SubpartRow) (s : SectionRow) → FitsRow o h p → FitsSectionRow s
    → Goes (Some (before_at o g)) o h
    → row_read (standing tables.Offerings term rows (taken first o g configs) opened) (section_texts o h p s)
    ≡ (standing tables.Offerings term (rows + 1) (taken first o h (at_last (config_with (line_of o h p s)) configs)) opened, [])
unfolding row_read table_row offering_row offering_with field_of field_at
row_goes_on term rows first opened o g h configs p s row fits goes =
    ap (offering_row (standing tables.Offerings term (rows + 1) (taken first o g configs) opened) (section_texts o h p s)) (found first o g configs)
    ∙ ap (offering_next (standing tables.Offerings term (rows + 1) (taken first o g configs) opened) (section_texts o h p s) first (part_of o g configs))
    (section_back term (Some (before_at o g)) o h p s row fits goes)

-- the next row of the same configuration
pub goes_same : (o : OfferingRow) (g : ConfigRow) → Goes (Some (before_at o g)) o g
goes_same o g = (word_same (list_text 43 course_row_text o.courses) _ refl, by (g.id.0 == g.id.0))
  where
    by : (b : Bool) → (if b then bytes_eq (limit_text g.limit) (limit_text g.limit) else true) ≡ true
    by true = word_same (limit_text g.limit) (limit_text g.limit) refl
    by false = refl

-- the next row of another configuration
pub goes_other : (o : OfferingRow) (g h : ConfigRow) → (g.id.0 == h.id.0) ≡ false → Goes (Some (before_at o g)) o h
goes_other o g h other =
    (word_same (list_text 43 course_row_text o.courses) _ refl, ap (λ b. if b then bytes_eq (limit_text g.limit) (limit_text h.limit) else true) other)

-- ---- what a row makes of the configurations

-- some of the sections of a subpart
abbrev pub some_sections : SubpartId → List SectionRow → SubpartRow
some_sections id sections = record { id = id; sections = sections }

-- some of the subparts of a configuration
abbrev pub some_subparts : ConfigRow → List SubpartRow → ConfigRow
some_subparts g subparts = record { id = g.id; limit = g.limit; subparts = subparts }

-- a section behind the others of its subpart
pub section_behind : (o : OfferingRow) (g : ConfigRow) (p : SubpartRow) (s : SectionRow) (gs : List ConfigRow) (ps : List SubpartRow) (sections : List SectionRow)
    → at_last (config_with (line_of o g p s)) (gs ++ (some_subparts g (ps ++ (some_sections p.id sections ∷ [])) ∷ []))
    ≡ gs ++ (some_subparts g (ps ++ (some_sections p.id (sections ++ (s ∷ [])) ∷ [])) ∷ [])
section_behind o g p s gs ps sections =
    let line = line_of o g p s in
    at_last_end (config_with line) gs (some_subparts g (ps ++ (some_sections p.id sections ∷ [])))
    ∙ ap (λ b. gs ++ (if b then some_subparts g (at_last (subpart_with line) (ps ++ (some_sections p.id sections ∷ []))) ∷ [] else some_subparts g (ps ++ (some_sections p.id sections ∷ [])) ∷ config_of line ∷ [])) (eq-eqb g.id.0 g.id.0 refl)
    ∙ ap (λ subparts. gs ++ (some_subparts g subparts ∷ []))
    (at_last_end (subpart_with line) ps (some_sections p.id sections)
    ∙ ap (λ b. ps ++ (if b then some_sections p.id (sections ++ (s ∷ [])) ∷ [] else some_sections p.id sections ∷ subpart_of line ∷ [])) (eq-eqb p.id.0 p.id.0 refl))

-- a subpart behind the others of its configuration
pub subpart_behind : (o : OfferingRow) (g : ConfigRow) (p q : SubpartRow) (s : SectionRow) (gs : List ConfigRow) (ps : List SubpartRow) → (p.id.0 == q.id.0) ≡ false
    → at_last (config_with (line_of o g q s)) (gs ++ (some_subparts g (ps ++ (p ∷ [])) ∷ []))
    ≡ gs ++ (some_subparts g ((ps ++ (p ∷ [])) ++ (some_sections q.id (s ∷ []) ∷ [])) ∷ [])
subpart_behind o g p q s gs ps other =
    let line = line_of o g q s in
    at_last_end (config_with line) gs (some_subparts g (ps ++ (p ∷ [])))
    ∙ ap (λ b. gs ++ (if b then some_subparts g (at_last (subpart_with line) (ps ++ (p ∷ []))) ∷ [] else some_subparts g (ps ++ (p ∷ [])) ∷ config_of line ∷ [])) (eq-eqb g.id.0 g.id.0 refl)
    ∙ ap (λ subparts. gs ++ (some_subparts g subparts ∷ []))
    (at_last_end (subpart_with line) ps p
    ∙ ap (λ b. ps ++ (if b then record p { sections = p.sections ++ (s ∷ []) } ∷ [] else p ∷ subpart_of line ∷ [])) other
    ∙ sym (append_assoc ps (p ∷ []) (some_sections q.id (s ∷ []) ∷ [])))

-- a configuration behind the others of its offering
pub config_behind : (o : OfferingRow) (g h : ConfigRow) (q : SubpartRow) (s : SectionRow) (gs : List ConfigRow) → (g.id.0 == h.id.0) ≡ false
    → at_last (config_with (line_of o h q s)) (gs ++ (g ∷ []))
    ≡ (gs ++ (g ∷ [])) ++ (some_subparts h (some_sections q.id (s ∷ []) ∷ []) ∷ [])
config_behind o g h q s gs other =
    let line = line_of o h q s in
    at_last_end (config_with line) gs g
    ∙ ap (λ b. gs ++ (if b then record g { subparts = at_last (subpart_with line) g.subparts } ∷ [] else g ∷ config_of line ∷ [])) other
    ∙ sym (append_assoc gs (g ∷ []) (config_of line ∷ []))
