-- the counts and weeks stay
use Rattle.sect_space.proofs.NumberLemmas.{made-in, back-ready, back-quiet, weeks-back, uses-kept}
use Rattle.sect_space.proofs.world.World.take_back_quietly.Goals as goal

pub take_back-requires : goal.take_back-requires
take_back-requires c =
    back-ready c.self.inside.parts c.self.inside.numbers c.args.back (made-in c.args.self.now c.self.inside.parts c.self.inside.numbers c.args.back c.self.view_is c.requires.made)

pub invariant_of-self : goal.invariant_of-self
invariant_of-self c =
    let made = made-in c.args.self.now c.self.inside.parts c.self.inside.numbers c.args.back c.self.view_is c.requires.made in
    record {
      numbered = back-quiet c.self.inside.parts c.take_back.new.self c.self.inside.numbers c.args.back c.self.invariant.numbered made c.requires.quiet c.take_back.ensures;
      weeks = weeks-back c.self.inside.parts c.take_back.new.self c.self.inside.numbers c.self.inside.weeks c.args.back c.self.invariant.weeks made c.requires.quiet c.take_back.ensures;
    }

pub returns-clause-uses : goal.returns-clause-uses
returns-clause-uses c = uses-kept c.args.self.now c.self.inside.parts c.take_back.new.self c.self.inside.numbers c.self.inside.numbers c.self.view_is c.self.invariant.numbered (λ id h. h)
