-- What the first bytes of a table show stays where more come.
use Rattle.std.proofs.Common.{◌≡◌, ℕ, zero, suc, ◌+◌, ◌≤◌, Bool, true, false, List, [], ◌∷◌, ◌++◌, Option, None, Some, Result, Ok, Err, length, length-append, drop, refl, sym, ap, ◌∙◌, subst, append_assoc, append-nil, arith}
use Rattle.std.specs.Option.{option_to_list}
use Rattle.sect_command.specs.declared.view.Table.{Table}
use Rattle.sect_command.specs.declared.view.Table.TheVariants as tables
use Rattle.sect_csv.proofs.ReadingLemmas.{behind-behind, rows_read-append}
use Rattle.sect_csv.specs.Intake.{read_so_far, with_end}
use Rattle.sect_csv.proofs.KeptLemmas.{all-more, shown-more}
use Rattle.sect_csv.specs.Rows.{all_rows, shown_rows}
use Rattle.sect_tables.specs.Headers.{first_difference, names_of}
use Rattle.sect_tables.specs.Offerings.{OfferingSoFar}
use Rattle.sect_tables.specs.Progress.{Progress, opening}
use Rattle.sect_tables.specs.Requests.{RequestsSoFar}
use Rattle.sect_tables.specs.Rows.{Step, at_end, begun, behind, end_after, failed, first_row, given_of, gone_on, header_read, is_old_header, next_row, offering_first, offering_next, offering_row, requests_first, requests_next, requests_row, reservation_row, row_after, row_read, rows_read, student_row, table_row}
use Rattle.sect_tables.specs.declared.hand.AtHand.{AtHand}
use Rattle.sect_tables.specs.declared.hand.Group.{Group}
use Rattle.sect_tables.specs.declared.hand.Header.{Header}

-- how many commands are at hand
abbrev pub held : Progress → ℕ
held p = length (given_of p.at_hand)

-- how many commands were begun and not given
abbrev pub opened : Progress → ℕ
opened p = length (option_to_list p.open_row)

at_most_one : (hand : Option AtHand) → length (given_of hand) ≤ 1
unfolding given_of
at_most_one None = omega arith
at_most_one (Some hand) = omega arith

one_at_most : (row : Option ℕ) → length (option_to_list row) ≤ 1
one_at_most None = omega arith
one_at_most (Some row) = omega arith

-- without a fault no command is lost: what is begun is at hand, and what is at hand is given or stays
abbrev pub Keeps : Progress → Step → Type 0
Keeps p s = s.0.fault ≡ None → (opened p ≤ held p → opened s.0 ≤ held s.0) × (held p ≤ length s.1 + held s.0)

keeps_failed : (p : Progress) (field : ℕ) → Keeps p (failed p field)
keeps_failed p field = λ well. absurd cc

keeps_begun : (p : Progress) (group : Group) → Keeps p (begun p group)
unfolding given_of
keeps_begun p group = λ well. (λ h. omega arith, omega arith)

keeps_gone : (p : Progress) (first : ℕ) (group : Group) → Keeps p (gone_on p first group)
unfolding given_of
keeps_gone p first group = λ well.
    let few : length (option_to_list p.open_row) ≤ 1 = one_at_most p.open_row in
    let less : length (given_of p.at_hand) ≤ 1 = at_most_one p.at_hand in
    (λ h. few, less)

keeps_header : (p : Progress) (old : Bool) (differs : Option ℕ) → Keeps p (header_read p old differs)
keeps_header p true differs = λ well. (λ h. h, omega arith)
keeps_header p false None = λ well. (λ h. h, omega arith)
keeps_header p false (Some field) = keeps_failed p field

-- what comes of a field's or a row's reading, where it was bad and where it wasn't
keeps_line : {A : Type 0} (p : Progress) (step : Result A ℕ → Step) (line : Result A ℕ) → ((field : ℕ) → Keeps p (step (Err field))) → ((value : A) → Keeps p (step (Ok value)))
    → Keeps p (step line)
keeps_line p step (Err field) bad good = bad field
keeps_line p step (Ok value) bad good = good value

keeps_offering : (p : Progress) (row : List (List ℕ)) (same : Option (ℕ × OfferingSoFar)) → Keeps p (offering_row p row same)
unfolding offering_row
keeps_offering p row None = keeps_line p (offering_first p row) _ (λ field. keeps_failed p field) (λ line. keeps_begun p _)
keeps_offering p row (Some (first, so_far)) = keeps_line p (offering_next p row first so_far) _ (λ field. keeps_failed p field) (λ line. keeps_gone p first _)

keeps_requests : (p : Progress) (row : List (List ℕ)) (same : Option (ℕ × RequestsSoFar)) → Keeps p (requests_row p row same)
unfolding requests_row
keeps_requests p row None = keeps_line p (requests_first p row) _ (λ field. keeps_failed p field) (λ line. keeps_begun p _)
keeps_requests p row (Some (first, so_far)) = keeps_line p (requests_next p first so_far) _ (λ field. keeps_failed p field) (λ line. keeps_gone p first _)

keeps_row : (table : Table) (p : Progress) (header : Header) (row : List (List ℕ)) → Keeps p (table_row table p header row)
unfolding table_row student_row reservation_row
keeps_row tables.Offerings p header row = keeps_offering p row _
keeps_row tables.Students p header row = keeps_line p (student_row p) _ (λ field. keeps_failed p field) (λ line. keeps_begun p _)
keeps_row tables.Requests p header row = keeps_requests p row _
keeps_row tables.Reservations p header row = keeps_line p (reservation_row p) _ (λ field. keeps_failed p field) (λ line. keeps_begun p _)

keeps_next : (p : Progress) (header : Option Header) (row : List (List ℕ)) → Keeps p (next_row p header row)
unfolding first_row
keeps_next p None row = keeps_header p (is_old_header p.table row) (first_difference row (names_of p.table))
keeps_next p (Some header) row = keeps_row p.table p header row

keeps_after : (fault : Option (ℕ × ℕ)) (p : Progress) (row : List (List ℕ)) → Keeps p (row_after fault p row)
keeps_after (Some fault) p row = λ well. (λ h. h, omega arith)
keeps_after None p row = keeps_next (record p { rows = p.rows + 1 }) p.header row

keeps_read : (p : Progress) (row : List (List ℕ)) → Keeps p (row_read p row)
unfolding row_read
keeps_read p row = keeps_after p.fault p row

-- a bad row is the first that is bad, whatever comes behind it
bad_row : (p : Progress) (row : List (List ℕ)) (bad : ℕ × ℕ) → p.fault ≡ Some bad → (row_read p row).0.fault ≡ Some bad
unfolding row_read
bad_row p row bad is = ap (λ fault. (row_after fault p row).0.fault) is ∙ is

pub bad_rows : (p : Progress) (rows : List (List (List ℕ))) (bad : ℕ × ℕ) → p.fault ≡ Some bad → (rows_read p rows).0.fault ≡ Some bad
bad_rows p [] bad is = is
bad_rows p (row ∷ rows) bad is = bad_rows (row_read p row).0 rows bad (bad_row p row bad is)

pub bad_end : (p : Progress) (bad : ℕ × ℕ) → p.fault ≡ Some bad → (at_end p).0.fault ≡ Some bad
unfolding at_end
bad_end p bad is = ap (λ fault. (end_after fault p.rows p).0.fault) is ∙ is

-- where no row was bad in the end, none was before
none_bad : (before now : Option (ℕ × ℕ)) → ((bad : ℕ × ℕ) → before ≡ Some bad → now ≡ Some bad) → now ≡ None → before ≡ None
none_bad None now stays none = refl
none_bad (Some bad) now stays none = let two = sym (stays bad refl) ∙ none in absurd cc

keeps_two : (p : Progress) (s t : Step) → t.0.fault ≡ None → Keeps p s → Keeps s.0 t → s.0.fault ≡ None
    → (opened p ≤ held p → opened t.0 ≤ held t.0) × (held p ≤ length (s.1 ++ t.1) + held t.0)
keeps_two p s t well first second before =
    let a = first before in
    let b = second well in
    (λ h. b.0 (a.0 h), omega (arith, a.1, b.1, length-append s.1 t.1))

pub keeps_rows : (p : Progress) (rows : List (List (List ℕ))) → Keeps p (rows_read p rows)
keeps_rows p [] = λ well. (λ h. h, omega arith)
keeps_rows p (row ∷ rows) = λ well.
    keeps_two p (row_read p row) (rows_read (row_read p row).0 rows) well (keeps_read p row) (keeps_rows (row_read p row).0 rows)
    (none_bad (row_read p row).0.fault (rows_read (row_read p row).0 rows).0.fault (bad_rows (row_read p row).0 rows) well)

-- at the end what is at hand is given, and nothing is left begun
abbrev pub GivesAll : Progress → Step → Type 0
GivesAll p s = s.0.fault ≡ None → (held p ≤ length s.1) × (s.0.open_row ≡ None)

gives_after : (fault : Option (ℕ × ℕ)) (rows : ℕ) (p : Progress) → p.fault ≡ fault → GivesAll p (end_after fault rows p)
gives_after (Some fault) rows p is = λ well. let two = sym is ∙ well in absurd cc
gives_after None zero p is = λ well. absurd cc
gives_after None (suc rows) p is = λ well. (omega arith, refl)

gives_all : (p : Progress) → GivesAll p (at_end p)
unfolding at_end
gives_all p = gives_after p.fault p.rows p refl

-- what is known of a whole table by what some first bytes of it show, or all of them
pub record Fronts (front whole : Step) : Type 0 where
  pub bad : (at : ℕ × ℕ) → front.0.fault ≡ Some at → whole.0.fault ≡ Some at
  pub fewer : length front.1 ≤ length whole.1
  pub begun_is_given : (row : ℕ) → front.0.open_row ≡ Some row → whole.0.fault ≡ None → length front.1 + 1 ≤ length whole.1

-- where a command is open, one is at hand
one_open : (open_row : Option ℕ) (n row : ℕ) → length (option_to_list open_row) ≤ n → open_row ≡ Some row → 1 ≤ n
one_open None n row few is = absurd cc
one_open (Some at) n row few is = few

opening_holds : (table : Table) (term : Option ℕ) → opened (opening table term) ≤ held (opening table term)
opening_holds table term = omega arith

-- rows behind others, and the end
behind_rows : (table : Table) (term : Option ℕ) (rows others : List (List (List ℕ)))
    → with_end (rows_read (opening table term) (rows ++ others))
    ≡ behind (rows_read (opening table term) rows).1 (with_end (rows_read (rows_read (opening table term) rows).0 others))
behind_rows table term rows others =
    let shown : Step = rows_read (opening table term) rows in
    let left : Step = rows_read shown.0 others in
    ap with_end (rows_read-append (opening table term) rows others)
    ∙ sym (behind-behind shown.1 left.1 (at_end left.0))

front_rows : (table : Table) (term : Option ℕ) (rows others : List (List (List ℕ)))
    → Fronts (rows_read (opening table term) rows) (behind (rows_read (opening table term) rows).1 (with_end (rows_read (rows_read (opening table term) rows).0 others)))
front_rows table term rows others =
    let shown : Step = rows_read (opening table term) rows in
    let left : Step = rows_read shown.0 others in
    let end : Step = at_end left.0 in
    record {
      bad = λ at is. bad_end left.0 at (bad_rows shown.0 others at is);
      fewer = omega (arith, length-append shown.1 (left.1 ++ end.1));
      begun_is_given = λ row is well.
          let left_well = none_bad left.0.fault end.0.fault (bad_end left.0) well in
          let shown_well = none_bad shown.0.fault left.0.fault (bad_rows shown.0 others) left_well in
          let holds = (keeps_rows (opening table term) rows shown_well).0 (opening_holds table term) in
          let one : 1 ≤ held shown.0 = one_open shown.0.open_row (held shown.0) row holds is in
          omega (arith, one, (keeps_rows shown.0 others left_well).1, (gives_all left.0 well).0, length-append shown.1 (left.1 ++ end.1), length-append left.1 end.1);
    }

-- the rows that some first bytes show come first among all
all_behind : (read rest : List ℕ) → (others : List (List (List ℕ))) × (all_rows (read ++ rest) ≡ shown_rows read ++ others)
all_behind read rest =
    let more = drop (length (shown_rows read)) (shown_rows (read ++ rest)) in
    let last = drop (length (shown_rows (read ++ rest))) (all_rows (read ++ rest)) in
    (more ++ last, all-more (read ++ rest) ∙ ap (λ rows. rows ++ last) (shown-more read rest) ∙ append_assoc (shown_rows read) more last)

front_shown : (table : Table) (term : Option ℕ) (read rest : List ℕ) → Fronts (read_so_far table term read false) (read_so_far table term (read ++ rest) true)
unfolding read_so_far
front_shown table term read rest =
    let b = all_behind read rest in
    let is = ap (λ rows. with_end (rows_read (opening table term) rows)) b.1 ∙ behind_rows table term (shown_rows read) b.0 in
    subst (Fronts (rows_read (opening table term) (shown_rows read))) (sym is) (front_rows table term (shown_rows read) b.0)

front_whole : (table : Table) (term : Option ℕ) (read : List ℕ) → Fronts (read_so_far table term read true) (read_so_far table term read true)
unfolding read_so_far
front_whole table term read =
    let rows : Step = rows_read (opening table term) (all_rows read) in
    record {
      bad = λ at is. is;
      fewer = omega arith;
      begun_is_given = λ row is well. let two = sym is ∙ (gives_all rows.0 well).1 in absurd cc;
    }

-- what was read of a table, the whole where it ended
pub fronts : (table : Table) (term : Option ℕ) (read rest : List ℕ) (ended : Bool) → (ended ≡ true → rest ≡ [])
    → Fronts (read_so_far table term read ended) (read_so_far table term (read ++ rest) true)
fronts table term read rest false whole = front_shown table term read rest
fronts table term read rest true whole =
    let all : read ++ rest ≡ read = ap (λ xs. read ++ xs) (whole refl) ∙ append-nil read in
    subst (λ (text : List ℕ). Fronts (read_so_far table term read true) (read_so_far table term text true)) (sym all) (front_whole table term read)
