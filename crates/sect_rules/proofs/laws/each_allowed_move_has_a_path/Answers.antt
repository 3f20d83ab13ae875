-- the law of the definitions, in a world that is kept
use Rattle.sect_model.proofs.MoveLaws.{moves_have_paths}
use Rattle.sect_rules.proofs.laws.each_allowed_move_has_a_path.Goals as goal

pub returns : goal.returns
returns c =
    moves_have_paths c.args.world.now.world c.args.mv.now
    (record { checked = c.recall_kept.ensures.rows_pass; reservations_differ = c.recall_kept.ensures.reservations_differ })
