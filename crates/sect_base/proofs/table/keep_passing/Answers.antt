-- The closure only tests the value.
use Rattle.std.proofs.Common.{rules, ◌∙◌, ap}
use Rattle.std.specs.Cmp.{nat_eq_equiv}
use Rattle.std.specs.Map.{lookup}
use Rattle.std.specs.Prelude.{nat_eq}
use Rattle.std.specs.HashMap.{get}
use Rattle.std.proofs.lemmas.Map.Entries.{lookup-filter-values}
use Rattle.std.proofs.lemmas.Map.Made.{filter_same_pairs}
use Rattle.sect_base.proofs.KeepLemmas.{filter-kept}
use Rattle.sect_base.proofs.table.keep_passing.Goals as goal

pub returns : goal.returns
returns g c n =
    let passes = g.T.Test.passes c.args.test.now in
    ap (lookup (nat_eq n)) (filter_same_pairs _ (λ e. passes e.1) _ (λ k v b w f t. search rules) c.args.others.now.entries c.retain.new.self.entries c.retain.ensures.filtered)
    ∙ lookup-filter-values nat_eq_equiv passes n c.args.others.now.entries c.retain.ensures.was_unique
    ∙ filter-kept passes (get nat_eq c.args.others.now n)
