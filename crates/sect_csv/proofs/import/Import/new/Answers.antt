-- Nothing was fed.
use Rattle.std.proofs.Common.{◌≡◌, ℕ, ◌-◌, List, ap, false, length, refl, sym, take, ◌∙◌}
use Rattle.sect_csv.proofs.ImportLemmas.{whole_bytes}
use Rattle.sect_csv.proofs.ReadingLemmas.{read_so_far-nothing}
use Rattle.sect_csv.specs.Intake.{read_so_far}
use Rattle.sect_tables.specs.Progress.{Progress, opening}
use Rattle.sect_tables.specs.Rows.{Step}
use Rattle.sect_csv.proofs.import.Import.new.Goals as goal

pub invariant_of-result : goal.invariant_of-result
invariant_of-result c =
    let table = c.args.table in
    let term = c.args.term in
    let bytes = whole_bytes c.new.result 0 refl ∙ c.new.ensures in
    let nothing : (read_so_far table term (take (length c.new.result - 0) c.new.result) false).0 ≡ opening table term =
    ap (λ (bytes : List ℕ). (read_so_far table term bytes false).0) bytes ∙ ap (λ (t : Step). t.0) (read_so_far-nothing table term) in
    let same_term : c.copied.result ≡ term = c.copied.ensures ∙ c.as_ref.ensures.value in
    let reads : c.new-reading.result ≡ opening table term = cc in
    record { whole = λ _. refl; reads = λ _ _. reads ∙ sym nothing; counts = sym (ap (λ (p : Progress). p.rows) nothing); opened = sym (ap (λ (p : Progress). p.open_row) nothing) }
