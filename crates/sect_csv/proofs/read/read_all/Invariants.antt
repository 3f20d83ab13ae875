use Rattle.std.proofs.Common.{◌≡◌, ◌++◌, ℕ, List, Some, map}
use Rattle.std.specs.Io.Chain.{chain_remaining}
use Rattle.csv.specs.Reading.{Reached, Ready, default_config, source_of, strip_bom}
use Rattle.csv.specs.Records.{fields_of}
use Rattle.csv.specs.declared.parser.State.TheVariants as st
use Rattle.csv.specs.declared.reader.Trim.TheVariants as trim
use Rattle.sect_csv.proofs.read.read_all.Given as goal

abbrev pub invariant-loop : goal.invariant-loop
invariant-loop l = (l.reader.trim ≡ trim.None) × Ready l.reader × (l.reader.config ≡ default_config)
    × (y : List ℕ) × (source_of (chain_remaining (λ s. Some s.now) (λ s. Some s.now)) l.reader ≡ Some y)
    × Reached default_config st.StartRecord (strip_bom (l.fn.text ++ l.fn.tail)) (map fields_of l.rows.items) l.reader.state y
