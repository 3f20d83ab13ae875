-- A full level has no unreserved space.
use Rattle.std.proofs.Common.{◌∙◌, sym}
use Rattle.sect_wait.proofs.OpenedLemmas.{full-unreserved}
use Rattle.sect_wait.proofs.opened.has_unreserved.Goals as goal

pub returns-then-not-has_place : goal.returns-then-not-has_place
returns-then-not-has_place c = sym (full-unreserved c.args.world.now.world c.args.level (sym c.has_place.ensures ∙ c.if-not-has_place.true))
