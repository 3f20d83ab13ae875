-- The table of reservations is read back.
use Rattle.std.proofs.Common.{◌≡◌, ℕ, ◌+◌, ◌<◌, true, List, [], ◌∷◌, ◌++◌, map, append-nil, Option, None, Some, Ok, refl, sym, ap, ◌∙◌, subst, decimal, arith}
use Rattle.std.specs.Prelude.{flat_map}
use Rattle.csv.specs.Records.{field_at}
use Rattle.sect_base.specs.declared.ids.SectionId.{SectionId}
use Rattle.sect_command.specs.declared.command.Command.TheVariants as commands
use Rattle.sect_command.specs.declared.view.Table.TheVariants as tables
use Rattle.sect_command.specs.declared.view.View.TheVariants as views
use Rattle.sect_tables.specs.Fields.{field_of}
use Rattle.sect_tables.specs.Lines.{reservation_fields, reservation_line}
use Rattle.sect_read.proofs.PartLaws.{exact_audience}
use Rattle.sect_read.proofs.ValueLaws.{exact_limit, exact_offering, exact_optional_day, exact_reservation, exact_sections_of}
use Rattle.sect_read.specs.Fits.{FitsList, FitsSection}
use Rattle.sect_reserve.specs.declared.row.Place.{Place}
use Rattle.sect_reserve.specs.declared.row.Reservation.{Reservation}
use Rattle.sect_csv.specs.Tables.{reservation_fields as reservation_texts}
use Rattle.sect_tables.specs.Rows.{given_of, reservation_row, row_read, table_row}
use Rattle.sect_tables.specs.declared.hand.AtHand.{AtHand}
use Rattle.sect_tables.specs.declared.hand.Group.TheVariants as groups
use Rattle.sect_words.specs.Days.{day_text}
use Rattle.sect_words.specs.Parts.{joined}
use Rattle.sect_words.specs.ReadingWords.{audience_of, config_of, day_of, flag_of, limit_of, list_of, offering_of, optional_of, reservation_of, section_of}
use Rattle.sect_words.specs.Words.{audience_text, flag_text, limit_text, list_text, optional_text, section_text}
use Rattle.sect_return.specs.Asked.{asks_reservation, row_from}
use Rattle.sect_return.specs.Back.{FitsReservationRow, ReservationsReadBack}
use Rattle.sect_return.proofs.Ends.{Ends, ends_here, ends_with, held, reads_by_rows, standing}
use Rattle.sect_return.proofs.Told.{told_back}
use Rattle.sect_return.proofs.Words.{configs_back, flag_back}
use Rattle.sect_return.proofs.Written.{shows_fields, shows_rows}

-- the section of a place
abbrev section_at : Place → SectionId
section_at place = place.section

texts_of_places : (places : List Place) → map (λ (p : Place). decimal p.section.0) places ≡ map section_text (map section_at places)
texts_of_places [] = refl
texts_of_places (p ∷ ps) = ap (λ (ts : List (List ℕ)). decimal p.section.0 ∷ ts) (texts_of_places ps)

text_of_places : (places : List Place) → list_text 43 (λ (p : Place). decimal p.section.0) places ≡ list_text 43 section_text (map section_at places)
text_of_places [] = refl
text_of_places (p ∷ ps) = ap (joined 43) (texts_of_places (p ∷ ps))

-- places are read back as sections
places_back : (places : List Place) → FitsList FitsSection (map section_at places) → list_of 43 section_of (list_text 43 (λ (p : Place). decimal p.section.0) places) ≡ Some (map section_at places)
places_back places fits = ap (list_of 43 section_of) (text_of_places places) ∙ exact_sections_of.again (map section_at places) fits

-- the values of a reservation's fields
values_back : (r : Reservation) → FitsReservationRow r → reservation_fields true (reservation_texts r) ≡ Ok (row_from r)
unfolding reservation_fields field_of field_at
values_back r (id, offering, audience, limit, expiry, first, configs, sections) =
    told_back 1 (reservation_of (decimal r.id.0)) r.id _ _ (exact_reservation.again r.id id)
    (told_back 2 (offering_of (decimal r.offering.0)) r.offering _ _ (exact_offering.again r.offering offering)
    (told_back 3 (audience_of (audience_text r.audience)) r.audience _ _ (exact_audience.again r.audience audience)
    (told_back 4 (limit_of (limit_text r.limit)) r.limit _ _ (exact_limit.again r.limit limit)
    (told_back 5 (optional_of day_of (optional_text day_text r.expiry)) r.expiry _ _ (exact_optional_day.again r.expiry expiry)
    (told_back 6 (list_of 43 config_of (list_text 43 (λ id. decimal id.0) r.includes.configs)) r.includes.configs _ _ (configs_back r.includes.configs configs)
    (told_back 7 (list_of 43 section_of (list_text 43 (λ (p : Place). decimal p.section.0) r.includes.sections)) (map section_at r.includes.sections) _ _ (places_back r.includes.sections sections)
    (told_back 8 (flag_of (flag_text r.over)) r.over _ _ (flag_back r.over)
    (told_back 9 (flag_of (flag_text r.overlap)) r.overlap _ _ (flag_back r.overlap)
    (told_back 10 (flag_of (flag_text r.must)) r.must _ _ (flag_back r.must)
    (told_back 11 (optional_of day_of (optional_text day_text r.first)) r.first _ _ (exact_optional_day.again r.first first) refl))))))))))

line_back : (r : Reservation) → FitsReservationRow r → reservation_line true (reservation_texts r) ≡ Ok (row_from r)
unfolding reservation_line
line_back r fits = values_back r fits

-- a reservation's row begins a command
row_begins : (term : Option ℕ) (rows : ℕ) (hand : Option AtHand) (opened : Option ℕ) (r : Reservation) → FitsReservationRow r
    → row_read (standing tables.Reservations term rows hand opened) (reservation_texts r)
    ≡ (standing tables.Reservations term (rows + 1) (Some (record { first = rows + 1; group = groups.Row (commands.Reserve (row_from r)) })) (Some (rows + 1)), given_of hand)
unfolding row_read table_row reservation_row
row_begins term rows hand opened r fits = ap (reservation_row (standing tables.Reservations term (rows + 1) hand opened)) (line_back r fits)

rows_end : (term : Option ℕ) (rows : ℕ) (hand : Option AtHand) (opened : Option ℕ) (rs : List Reservation) → 0 < rows → FitsList FitsReservationRow rs
    → Ends (standing tables.Reservations term rows hand opened) (flat_map (λ r. reservation_texts r ∷ []) rs) (held hand ++ map asks_reservation rs)
unfolding given_of
rows_end term rows hand opened [] some fits =
    subst (Ends (standing tables.Reservations term rows hand opened) []) (sym (append-nil (held hand))) (ends_here tables.Reservations term rows hand opened some)
rows_end term rows hand opened (r ∷ rs) some fits =
    ends_with (standing tables.Reservations term rows hand opened) _ (reservation_texts r) _ (given_of hand) (asks_reservation r ∷ map asks_reservation rs) (row_begins term rows hand opened r fits.0)
    (rows_end term (rows + 1) (Some (record { first = rows + 1; group = groups.Row (commands.Reserve (row_from r)) })) (Some (rows + 1)) rs (omega arith) fits.1)

-- the table of reservations is read as the commands of its rows
pub reservations_read_back : ReservationsReadBack
unfolding given_of
reservations_read_back rows fits term =
    reads_by_rows tables.Reservations term (views.Reservations rows) (flat_map (λ r. reservation_texts r ∷ []) rows) (map asks_reservation rows)
    (shows_rows reservation_texts (λ r. shows_fields (reservation_texts r) refl) rows) (rows_end term 1 None None rows (omega arith) fits)
