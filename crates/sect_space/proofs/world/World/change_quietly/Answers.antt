-- the counts and weeks stay, and what is new has its rows
use Rattle.sect_space.proofs.NumberLemmas.{fits-in, numbered-quiet, weeks-quiet, uses-kept}
use Rattle.sect_space.proofs.world.World.change_quietly.Goals as goal

pub returns-in_err-add_rows-clause-uses : goal.returns-in_err-add_rows-clause-uses
returns-in_err-add_rows-clause-uses c =
    uses-kept c.args.self.now c.self.inside.parts c.self.inside.parts c.self.inside.numbers c.add_rows.new.self c.self.view_is c.self.invariant.numbered c.add_rows.ensures.grown.reservations

pub returns-in_err-add_rows-2-clause-uses : goal.returns-in_err-add_rows-2-clause-uses
returns-in_err-add_rows-2-clause-uses c =
    uses-kept c.args.self.now c.self.inside.parts c.self.inside.parts c.self.inside.numbers c.add_rows.new.self c.self.view_is c.self.invariant.numbered c.add_rows.ensures.grown.reservations

pub invariant_of-self-2 : goal.invariant_of-self-2
invariant_of-self-2 c =
    let fits = fits-in c.args.self.now c.self.inside.parts c.self.inside.numbers c.args.change c.self.view_is c.requires.fits in
    record {
      numbered =
          numbered-quiet c.self.inside.parts c.change.new.self c.self.inside.numbers c.add_rows.new.self c.args.change c.change.result c.self.invariant.numbered fits c.requires.quiet
          c.add_rows.ensures.grown c.in_ok-add_rows.ensures.ok c.change.ensures.ok c.change.ensures.err;
      weeks =
          weeks-quiet c.self.inside.parts c.change.new.self c.self.inside.numbers c.self.inside.weeks c.add_rows-2.new.self c.args.change c.change.result c.self.invariant fits c.requires.quiet
          c.add_rows-2.ensures.keeps c.in_ok-add_rows-2.ensures.ok c.change.ensures.ok c.change.ensures.err;
    }

pub returns-clause-uses : goal.returns-clause-uses
returns-clause-uses c =
    uses-kept c.args.self.now c.self.inside.parts c.change.new.self c.self.inside.numbers c.add_rows.new.self c.self.view_is c.self.invariant.numbered c.add_rows.ensures.grown.reservations
