use Rattle.std.proofs.Common.{refl, sym, ◌∙◌}
use Rattle.sect_tables.specs.Offerings.{config_with}
use Rattle.sect_tables.proofs.Lists.{another_behind}
use Rattle.sect_tables.proofs.offering.with_config.Goals as goal

pub returns : goal.returns
returns c =
    another_behind (config_with c.args.line) c.args.configs.items c.push.new.self.items c.args.last c.in_ok-into_row.field-0 c.begin-next.result _ _ _ refl
    (sym c.has_id.ensures ∙ c.if-has_id.false) (rw (c.begin-next.ensures, c.in_ok-first.ensures)) c.in_ok-into_row.ensures c.in_ok-push.ensures.items
