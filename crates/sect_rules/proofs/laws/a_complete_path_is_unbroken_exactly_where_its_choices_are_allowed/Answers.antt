-- the law of the definitions, in a world that is kept
use Rattle.sect_model.proofs.MoveLaws.{paths_tell_moves}
use Rattle.sect_rules.proofs.laws.a_complete_path_is_unbroken_exactly_where_its_choices_are_allowed.Goals as goal

pub returns : goal.returns
returns c =
    paths_tell_moves c.args.world.now.world c.args.mv.now
    (record { checked = c.recall_kept.ensures.rows_pass; reservations_differ = c.recall_kept.ensures.reservations_differ }) c.requires
