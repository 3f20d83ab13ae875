-- what a tree covers has no allowed move
use Rattle.std.proofs.Common.{sym, ◌∙◌}
use Rattle.sect_model.proofs.MoveLaws.{cover_refutes}
use Rattle.sect_search.proofs.verifying.verify_in.Goals as goal

pub returns-clause-refutes : goal.returns-clause-refutes
returns-clause-refutes g c =
    λ covered. cover_refutes c.args.world.now.world c.args.mv.now (record { checked = c.recall_kept.ensures.rows_pass; reservations_differ = c.recall_kept.ensures.reservations_differ }) c.requires.stands
    c.args.tree.now (sym c.covers_all.ensures ∙ covered)
