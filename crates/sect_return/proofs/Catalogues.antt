-- The table of offerings is read back.
use Rattle.std.proofs.Common.{◌≡◌, ℕ, ◌+◌, ◌<◌, false, IsTrue, List, [], ◌∷◌, ◌++◌, length, map, append-nil, append_assoc, Option, None, Some, refl, sym, subst, decimal, arith}
use Rattle.std.specs.List.{AllByRecursion}
use Rattle.std.specs.Prelude.{flat_map}
use Rattle.std.specs.Str.{bytes_eq}
use Rattle.sect_base.specs.declared.ids.ConfigId.{ConfigId}
use Rattle.sect_base.specs.declared.ids.SubpartId.{SubpartId}
use Rattle.sect_base.specs.declared.limit.Limit.{Limit}
use Rattle.sect_catalog.specs.declared.row.ConfigRow.{ConfigRow}
use Rattle.sect_catalog.specs.declared.row.OfferingRow.{OfferingRow}
use Rattle.sect_catalog.specs.declared.row.SectionRow.{SectionRow}
use Rattle.sect_catalog.specs.declared.row.SubpartRow.{SubpartRow}
use Rattle.sect_command.specs.declared.command.Command.{Command}
use Rattle.sect_command.specs.declared.view.Table.TheVariants as tables
use Rattle.sect_command.specs.declared.view.View.TheVariants as views
use Rattle.sect_people.specs.Order.{all_differ}
use Rattle.sect_read.specs.Fits.{Fits32, FitsConfigRow, FitsList, FitsOfferingRow}
use Rattle.sect_csv.specs.Tables.{config_text, offering_text, section_fields as section_texts, subpart_text}
use Rattle.sect_tables.specs.Rows.{given_of, same_offering}
use Rattle.sect_tables.specs.declared.hand.AtHand.{AtHand}
use Rattle.sect_return.specs.Asked.{asks_offering}
use Rattle.sect_return.specs.Back.{HasConfigs, HasSubparts, OfferingsReadBack}
use Rattle.sect_return.proofs.Ends.{Ends, ends_here, ends_with, held, reads_by_rows, standing}
use Rattle.sect_return.proofs.Groups.{FitsFront, config_rows, configs_then, rest_then, subpart_rows}
use Rattle.sect_return.proofs.Offerings.{not_found, row_begins, some_sections, some_subparts, taken}
use Rattle.sect_return.proofs.Others.{apart_each}
use Rattle.sect_return.proofs.Sections.{FitsRow}
use Rattle.sect_return.proofs.Written.{Shows, shows_each, shows_fields, shows_rows}

-- the rows of an offering
abbrev offering_rows : OfferingRow → List (List (List ℕ))
offering_rows o = flat_map (config_rows o) o.configs

shows_subpart : (o : OfferingRow) (g : ConfigRow) (p : SubpartRow) → Shows (subpart_text o g p) (subpart_rows o g p)
shows_subpart o g p = shows_rows (section_texts o g p) (λ s. shows_fields (section_texts o g p s) refl) p.sections

shows_config : (o : OfferingRow) (g : ConfigRow) → Shows (config_text o g) (config_rows o g)
shows_config o g = shows_each (subpart_text o g) (subpart_rows o g) (shows_subpart o g) g.subparts

shows_offering : (o : OfferingRow) → Shows (offering_text o) (offering_rows o)
shows_offering o = shows_each (config_text o) (config_rows o) (shows_config o) o.configs

-- the offering at hand is not this one
abbrev IsOther : Option AtHand → OfferingRow → Type 0
IsOther hand o = same_offering hand (decimal o.id.0) ≡ None

module _ (term : Option ℕ) (commands : List Command) (behind : List (List (List ℕ))) where
  -- behind an offering that is at hand whole, the rows give it and the commands
  abbrev Then : OfferingRow → Type 0
  Then o = (at first : ℕ) (opened : Option ℕ) (g : ConfigRow) → 0 < at → Ends (standing tables.Offerings term at (taken first o g o.configs) opened) behind (asks_offering o ∷ commands)

  -- an offering, by its first section
  by_section : (rows : ℕ) (hand : Option AtHand) (opened : Option ℕ) (o : OfferingRow) (front : FitsFront o) (config : ConfigId) (limit : Limit) (subpart : SubpartId) (sections : List SectionRow)
      (subparts : List SubpartRow) (configs : List ConfigRow) → o.configs ≡ record { id = config; limit = limit; subparts = some_sections subpart sections ∷ subparts } ∷ configs → 0 < length sections
      → FitsList FitsConfigRow (record { id = config; limit = limit; subparts = some_sections subpart sections ∷ subparts } ∷ configs)
      → FitsList HasSubparts (record { id = config; limit = limit; subparts = some_sections subpart sections ∷ subparts } ∷ configs)
      → IsTrue (all_differ (map (λ g. g.id.0) (record { id = config; limit = limit; subparts = some_sections subpart sections ∷ subparts } ∷ configs)))
      → IsOther hand o → Then o
      → Ends (standing tables.Offerings term rows hand opened)
      (flat_map (config_rows o) (record { id = config; limit = limit; subparts = some_sections subpart sections ∷ subparts } ∷ configs) ++ behind) (held hand ++ (asks_offering o ∷ commands))
  by_section rows hand opened o front config limit subpart [] subparts configs is some fits has differ other follows = absurd (omega (arith, some))
  by_section rows hand opened o front config limit subpart (s ∷ sections) subparts configs is some fits has differ other follows =
      let p = some_sections subpart (s ∷ sections) in
      let g : ConfigRow = record { id = config; limit = limit; subparts = p ∷ subparts } in
      let row : FitsRow o g p = record { offering = front.offering; some = front.some; courses = front.courses; config = fits.0.0; limit = fits.0.1; subpart = fits.0.2.0.0 } in
      let all = asks_offering o ∷ commands in
      let last = configs_then term (rows + 1) (Some (rows + 1)) o front all o.configs behind (λ h at its. follows at (rows + 1) (Some (rows + 1)) h its) configs [] g fits.1 has.1 differ (sym is) in
      let rest = rest_then term (rows + 1) (Some (rows + 1)) o front all g [] subpart s sections subparts (flat_map (config_rows o) configs ++ behind)
      fits.0.0 fits.0.1 fits.0.2.0.0 fits.0.2.0.1.1 fits.0.2.1 has.0.1.1 has.0.2 last in
      ends_with (standing tables.Offerings term rows hand opened) _ (section_texts o g p s) _ (given_of hand) all (row_begins term rows hand opened o g p s row fits.0.2.0.1.0 other)
      (subst (λ its. Ends (standing tables.Offerings term (rows + 1) (taken (rows + 1) o g (some_subparts g (some_sections subpart (s ∷ []) ∷ []) ∷ [])) (Some (rows + 1))) its all)
      (sym (append_assoc (flat_map (λ t. section_texts o g p t ∷ []) sections ++ flat_map (subpart_rows o g) subparts) (flat_map (config_rows o) configs) behind))
      (rest (rows + 1) (omega arith)))

  by_subpart : (rows : ℕ) (hand : Option AtHand) (opened : Option ℕ) (o : OfferingRow) (front : FitsFront o) (config : ConfigId) (limit : Limit) (subparts : List SubpartRow) (configs : List ConfigRow)
      → o.configs ≡ record { id = config; limit = limit; subparts = subparts } ∷ configs → FitsList FitsConfigRow (record { id = config; limit = limit; subparts = subparts } ∷ configs)
      → FitsList HasSubparts (record { id = config; limit = limit; subparts = subparts } ∷ configs)
      → IsTrue (all_differ (map (λ g. g.id.0) (record { id = config; limit = limit; subparts = subparts } ∷ configs))) → IsOther hand o → Then o
      → Ends (standing tables.Offerings term rows hand opened) (flat_map (config_rows o) (record { id = config; limit = limit; subparts = subparts } ∷ configs) ++ behind) (held hand ++ (asks_offering o ∷ commands))
  by_subpart rows hand opened o front config limit [] configs is fits has differ other follows = absurd (omega (arith, has.0.0))
  by_subpart rows hand opened o front config limit (p ∷ subparts) configs is fits has differ other follows =
      by_section rows hand opened o front config limit p.id p.sections subparts configs is has.0.1.0 fits has differ other follows

  by_config : (rows : ℕ) (hand : Option AtHand) (opened : Option ℕ) (o : OfferingRow) (front : FitsFront o) (configs : List ConfigRow) → o.configs ≡ configs → 0 < length configs
      → FitsList FitsConfigRow configs → FitsList HasSubparts configs → IsTrue (all_differ (map (λ g. g.id.0) configs)) → IsOther hand o → Then o
      → Ends (standing tables.Offerings term rows hand opened) (flat_map (config_rows o) configs ++ behind) (held hand ++ (asks_offering o ∷ commands))
  by_config rows hand opened o front [] is some fits has differ other follows = absurd (omega (arith, some))
  by_config rows hand opened o front (g ∷ configs) is some fits has differ other follows =
      by_subpart rows hand opened o front g.id g.limit g.subparts configs is fits has differ other follows

  -- the rows of an offering, and those behind them, where the offering at hand is another
  offering_ends : (rows : ℕ) (hand : Option AtHand) (opened : Option ℕ) (o : OfferingRow) → FitsOfferingRow o → HasConfigs o → IsOther hand o → Then o
      → Ends (standing tables.Offerings term rows hand opened) (offering_rows o ++ behind) (held hand ++ (asks_offering o ∷ commands))
  offering_ends rows hand opened o fits has other follows =
      by_config rows hand opened o (record { offering = fits.0; some = has.0; courses = fits.1 }) o.configs refl has.1 fits.2 has.2 has.3 other follows

rows_end : (term : Option ℕ) (rows : ℕ) (hand : Option AtHand) (opened : Option ℕ) (os : List OfferingRow) → 0 < rows → FitsList FitsOfferingRow os → FitsList HasConfigs os
    → IsTrue (all_differ (map (λ o. o.id.0) os)) → AllByRecursion (IsOther hand) os
    → Ends (standing tables.Offerings term rows hand opened) (flat_map offering_rows os) (held hand ++ map asks_offering os)
unfolding given_of
rows_end term rows hand opened [] some fits has differ others =
    subst (Ends (standing tables.Offerings term rows hand opened) []) (sym (append-nil (held hand))) (ends_here tables.Offerings term rows hand opened some)
rows_end term rows hand opened (o ∷ os) some fits has differ others =
    let apart = apart_each (λ (x : OfferingRow). x.id.0) o os (each_id (o ∷ os) fits) differ in
    offering_ends term (map asks_offering os) (flat_map offering_rows os) rows hand opened o fits.0 has.0 others.0
    (λ at first begun g its. rows_end term at (taken first o g o.configs) begun os its fits.1 has.1 apart.1 (each_other first o g os apart.0))
  where
    each_id : (xs : List OfferingRow) → FitsList FitsOfferingRow xs → FitsList (λ (x : OfferingRow). Fits32 x.id.0) xs
    each_id [] its = tt
    each_id (x ∷ xs) its = (its.0.0, each_id xs its.1)

    each_other : (first : ℕ) (x : OfferingRow) (g : ConfigRow) (xs : List OfferingRow) → AllByRecursion (λ (y : OfferingRow). bytes_eq (decimal x.id.0) (decimal y.id.0) ≡ false) xs
        → AllByRecursion (IsOther (taken first x g x.configs)) xs
    each_other first x g [] its = tt
    each_other first x g (y ∷ ys) its = (not_found first x g x.configs (decimal y.id.0) its.0, each_other first x g ys its.1)

-- nothing is at hand at the start
none_at_hand : (os : List OfferingRow) → AllByRecursion (IsOther None) os
unfolding same_offering
none_at_hand [] = tt
none_at_hand (o ∷ os) = (refl, none_at_hand os)

-- the table of offerings is read as the commands of its rows
pub offerings_read_back : OfferingsReadBack
unfolding given_of
offerings_read_back os fits has differ term =
    reads_by_rows tables.Offerings term (views.Offerings os) (flat_map offering_rows os) (map asks_offering os)
    (shows_each offering_text offering_rows shows_offering os) (rows_end term 1 None None os (omega arith) fits has differ (none_at_hand os))
