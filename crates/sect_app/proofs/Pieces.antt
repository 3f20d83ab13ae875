-- What an import shows with a piece, and at its end.
use Rattle.std.proofs.Common.{◌≡◌, ℕ, Bool, true, false, List, [], ◌∷◌, ◌++◌, Option, None, Some, Result, refl, sym, ap, ◌∙◌, subst, append-nil}
use Rattle.std.specs.Prelude.{option_map}
use Rattle.sect_command.specs.declared.view.Table.{Table}
use Rattle.sect_csv.specs.Intake.{GivesTheNew, Intake, after, answer_to, commands_of, fault_of, fed, finished, read_so_far, reading_of}
use Rattle.sect_app.specs.Fitting.{FitGiven, TablesFit}
use Rattle.sect_tables.specs.declared.given.CsvFault.{CsvFault}
use Rattle.sect_tables.specs.declared.given.CsvFault.TheVariants.{BadRow}
use Rattle.sect_tables.specs.declared.given.Given.{Given}
use Rattle.sect_script.specs.declared.script.RunEnd.{RunEnd}
use Rattle.sect_app.specs.Numbers.{Numbered}
use Rattle.sect_app.specs.Underway.{AsksShown, Shows, TakesPiece, Through, answer_of, going}

-- ---- answers of an import

after_answer : (bad : Option (ℕ × ℕ)) (old next : Intake) → after (answer_of bad) old next ≡ next
after_answer None old next = refl
after_answer (Some bad) old next = refl

same_answer : (a b : Option (ℕ × ℕ)) → answer_of a ≡ answer_of b → a ≡ b
same_answer None None e = refl
same_answer None (Some (row, field)) e = absurd (cc)
same_answer (Some (row, field)) None e = absurd (cc)
same_answer (Some (row, field)) (Some (other, another)) e = let one : row ≡ other = cc in let two : field ≡ another = cc in λ i. Some (one i, two i)

-- an import that was fed these bytes, all or not, which has the fault of their reading
abbrev pub read_through : Table → Option ℕ → List ℕ → Bool → Intake
read_through table term read ended = record { table = table; term = term; bytes = read; ended = ended; fault = fault_of (read_so_far table term read ended).0 }

-- an import with a piece
pub fed_going : (table : Table) (term : Option ℕ) (read piece : List ℕ) (answer : Result Unit CsvFault) (bad : Option (ℕ × ℕ)) (old new : Intake) → old ≡ going table term read
    → answer ≡ answer_of bad → new ≡ after answer old (fed old piece) → answer ≡ answer_to new.fault
    → (new ≡ read_through table term (read ++ piece) false) × (bad ≡ (read_so_far table term (read ++ piece) false).0.fault)
fed_going table term read piece answer bad old new same said becomes told =
    let next : new ≡ fed old piece = becomes ∙ ap (λ (r : Result Unit CsvFault). after r old (fed old piece)) said ∙ after_answer bad old (fed old piece) in
    let goes : new ≡ read_through table term (read ++ piece) false = next ∙ ap (λ (i : Intake). fed i piece) same in (
      goes,
      same_answer bad (read_so_far table term (read ++ piece) false).0.fault (sym said ∙ told ∙ ap (λ (i : Intake). answer_to i.fault) goes),
    )

-- an import at its end
pub finished_going : (table : Table) (term : Option ℕ) (read : List ℕ) (answer : Result Unit CsvFault) (bad : Option (ℕ × ℕ)) (old new : Intake) → old ≡ going table term read
    → answer ≡ answer_of bad → new ≡ after answer old (finished old) → answer ≡ answer_to new.fault
    → (new ≡ read_through table term read true) × (bad ≡ (read_so_far table term read true).0.fault)
finished_going table term read answer bad old new same said becomes told =
    let next : new ≡ finished old = becomes ∙ ap (λ (r : Result Unit CsvFault). after r old (finished old)) said ∙ after_answer bad old (finished old) in
    let goes : new ≡ read_through table term read true = next ∙ ap finished same in (
      goes,
      same_answer bad (read_so_far table term read true).0.fault (sym said ∙ told ∙ ap (λ (i : Intake). answer_to i.fault) goes),
    )

-- ---- the commands that it gives

fit_behind : (xs ys : List Given) → FitGiven (xs ++ ys) → FitGiven ys
fit_behind [] ys fits = fits
fit_behind (x ∷ xs) ys fits = fit_behind xs ys fits.1

-- the new ones have texts
pub fit_new : TablesFit → (old new : Intake) (before after : List Given) → before ≡ [] → GivesTheNew old new before after → FitGiven after
fit_new law old new before after none g =
    let all : FitGiven (commands_of new) = law new.table new.term new.bytes new.ended in
    let behind = fit_behind (commands_of old) g.given (subst FitGiven g.new_ones all) in
    subst FitGiven (sym (g.appended ∙ ap (λ (b : List Given). b ++ g.given) none)) behind

module _ {H : Type 0} {answers : H → Numbered → List ℕ → H → Type 0} {table : Table} {term : Option ℕ} {first : ℕ} {taken now : Option (List ℕ)} {old new : H} {next : Option ℕ} where
  -- the bytes show the new ones behind those that were asked
  pub shows : {read : List ℕ} (more : List ℕ) (ended : Bool) (before after : Intake) (none given : List Given) (open_row : Option ℕ) (bad : Option (ℕ × ℕ))
      → Through answers table term first taken now old new next read false → before ≡ going table term read → after ≡ read_through table term more ended
      → none ≡ [] → GivesTheNew before after none given → open_row ≡ (reading_of after).open_row → bad ≡ (read_so_far table term more ended).0.fault
      → Shows answers table term first taken now old new next more ended given open_row bad
  shows {read = read} more ended before after none given open_row bad t same goes is_none g opened fault_is =
      let given_is : given ≡ g.given = g.appended ∙ ap (λ (b : List Given). b ++ g.given) is_none in
      record {
        before = (read_so_far table term read false).1;
        so_far = t.so_far;
        behind = sym (ap commands_of goes) ∙ g.new_ones ∙ ap (λ (i : Intake). commands_of i ++ g.given) same ∙ ap (λ (l : List Given). (read_so_far table term read false).1 ++ l) (sym given_is);
        open_is = opened ∙ ap (λ (i : Intake). (reading_of i).open_row) goes;
        fault_is = fault_is;
      }

-- a piece was taken
pub takes_piece : {H : Type 0} (answers : H → Numbered → List ℕ → H → Type 0) (table : Table) (term : Option ℕ) (first : ℕ) (taken now : Option (List ℕ)) (old new : H) (read piece : List ℕ) (import : Intake) (next : Option ℕ) (result : Option RunEnd)
    → import ≡ read_through table term (read ++ piece) false
    → AsksShown answers table term first taken now old new next (read ++ piece) false result → TakesPiece answers table term first taken now old new import next read piece result
takes_piece answers table term first taken now old new read piece import next None goes through =
    (goes ∙ ap (λ (bad : Option (ℕ × ℕ)). record (going table term (read ++ piece)) { fault = option_map (λ (it : ℕ × ℕ). BadRow it.0 it.1) bad }) through.well, through)
takes_piece answers table term first taken now old new read piece import next (Some end) goes asks = (read ++ piece, [], append-nil (read ++ piece), asks)
