-- The closure only tests the number.
use Rattle.std.proofs.Common.{rules, ◌∙◌, ap, sym}
use Rattle.std.specs.Map.{lookup}
use Rattle.std.specs.Option.{is_none}
use Rattle.std.specs.Prelude.{nat_eq}
use Rattle.std.proofs.lemmas.Bool.{eqb-true}
use Rattle.std.proofs.lemmas.Map.Entries.{lookup-filter-keys}
use Rattle.std.proofs.lemmas.Map.Made.{filter_same_pairs}
use Rattle.sect_base.specs.Slots.{slot_at}
use Rattle.sect_base.proofs.table.keep_seen.Goals as goal

pub returns : goal.returns
returns g c n =
    let slots = c.args.slots.now in
    ap (lookup (nat_eq n)) (filter_same_pairs _ (λ e. is_none (slot_at slots e.0)) _ (λ k v b w f t. search rules) c.args.others.now.entries c.retain.new.self.entries c.retain.ensures.filtered)
    ∙ lookup-filter-keys (nat_eq n) (λ k. is_none (slot_at slots k)) (is_none (slot_at slots n)) (λ k t. ap (λ k. is_none (slot_at slots k)) (sym (eqb-true n k t))) c.args.others.now.entries
