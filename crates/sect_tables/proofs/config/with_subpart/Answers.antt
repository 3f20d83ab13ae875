use Rattle.std.proofs.Common.{refl, sym, ◌∙◌}
use Rattle.sect_tables.specs.Offerings.{subpart_with}
use Rattle.sect_tables.proofs.Lists.{another_behind}
use Rattle.sect_tables.proofs.config.with_subpart.Goals as goal

pub returns : goal.returns
returns c =
    another_behind (subpart_with c.args.line) c.args.subparts.items c.push.new.self.items c.args.last c.into_row.result c.in_ok-next.next _ _ _ refl
    (sym c.has_id.ensures ∙ c.if-has_id.false) c.in_ok-next.ensures c.into_row.ensures c.in_ok-push.ensures.items
