use Rattle.std.proofs.Common.{List, ℕ, Bor, ap, sym, ◌∙◌}
use Rattle.std.specs.Prelude.{option_map}
use Rattle.csv.specs.Records.{fields_of}
use Rattle.sect_tables.proofs.FieldLemmas.{field_left, name_left, none_left, other_here, same_here}
use Rattle.sect_tables.proofs.header.+first_other.Goals as goal

pub returns-in-empty-None : goal.returns-in-empty-None
returns-in-empty-None t c =
    none_left c.args.number (fields_of c.args.row.now) c.args.names.now
    (sym c.get-field.ensures.value ∙ ap (option_map (λ (s : Bor (List ℕ)). s.now)) c.in-empty-None.is-1) c.in-empty-None.len_below

pub returns-in-len1-up-Some : goal.returns-in-len1-up-Some
returns-in-len1-up-Some t c =
    same_here c.args.number (fields_of c.args.row.now) c.args.names.now c.in-len1-up-Some.field.now _ c.first_other.result c.requires.from_one
    (sym c.get-field.ensures.value ∙ ap (option_map (λ (s : Bor (List ℕ)). s.now)) c.in-len1-up-Some.is-1) c.in-len1-up-Some.len_at_least
    (sym c.same_bytes.ensures ∙ c.if-same_bytes.true) c.first_other.ensures

pub returns-in_default : goal.returns-in_default
returns-in_default t c =
    field_left c.args.number (fields_of c.args.row.now) c.args.names.now c.in_default.field-0-1.now
    (sym c.get-field.ensures.value ∙ ap (option_map (λ (s : Bor (List ℕ)). s.now)) c.in_default.is-1) c.in_default.len_below

pub returns-in_default-2 : goal.returns-in_default-2
returns-in_default-2 t c =
    other_here c.args.number (fields_of c.args.row.now) c.args.names.now c.in-len1-up-Some.field.now _
    (sym c.get-field.ensures.value ∙ ap (option_map (λ (s : Bor (List ℕ)). s.now)) c.in-len1-up-Some.is-1) c.in-len1-up-Some.len_at_least
    (sym c.same_bytes.ensures ∙ c.if-same_bytes.false)

pub returns-in_default-3 : goal.returns-in_default-3
returns-in_default-3 t c =
    name_left c.args.number (fields_of c.args.row.now) c.args.names.now
    (sym c.get-field.ensures.value ∙ ap (option_map (λ (s : Bor (List ℕ)). s.now)) c.in_default.is-1) c.in_default.len_at_least
