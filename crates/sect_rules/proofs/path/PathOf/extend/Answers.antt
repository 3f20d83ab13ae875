-- an option has room
use Rattle.std.proofs.Common.{rules, subst}
use Rattle.std.specs.Prelude.{Contains}
use Rattle.sect_model.specs.Path.{options_at}
use Rattle.sect_model.specs.declared.pick.Pick.TheVariants.{Section}
use Rattle.sect_moment.proofs.OwnLemmas.{option-stands, done-few, room}
use Rattle.sect_rules.proofs.path.PathOf.extend.Goals as goal

pub add-requires : goal.add-requires
add-requires g c =
    let w = c.args.world.now.world in
    let mv = c.args.mv.now in
    let p = c.args.self.now in (
      search rules,
      (
        room w c.recall_kept.ensures.rows_pass p c.in-Section.section
            (option-stands w mv p (Section c.in-Section.section) (subst (λ x. Contains (options_at w mv p) x) c.in-Section.is c.requires.option)),
        done-few w mv p c.args.pick c.requires.option g.row.N c.requires.room,
      ),
    )
