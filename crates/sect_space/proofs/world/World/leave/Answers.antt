-- the numbers and weeks count the enrolment no more
use Rattle.std.proofs.Common.{◌∙◌}
use Rattle.sect_model.specs.declared.change.Change.TheVariants.{Leave}
use Rattle.sect_space.proofs.NumberLemmas.{fits-in, kept-made, left-ahead, uses-kept}
use Rattle.sect_space.proofs.world.World.leave.Goals as goal

pub count_out-requires : goal.count_out-requires
count_out-requires c =
    left-ahead c.self.inside.parts c.leave-place.new.self c.self.inside.numbers c.self.inside.weeks c.args.student c.args.course c.leave-place.result.0 c.leave-place.result.1 _ c.self.invariant
    c.leave-place.ensures.made c.leave-place.ensures.within c.leave-place.ensures.last

pub invariant_of-self : goal.invariant_of-self
invariant_of-self c = record {
  numbered = record {
    kept =
        kept-made c.self.inside.parts c.leave-place.new.self c.self.inside.numbers (Leave c.args.student c.args.course) _ c.self.invariant.numbered
        (fits-in c.args.self.now c.self.inside.parts c.self.inside.numbers (Leave c.args.student c.args.course) c.self.view_is c.requires) c.leave-place.ensures.made;
    told = c.count_out.ensures.told;
  };
  weeks = c.count_out.ensures.weeks;
}

pub returns-clause-uses : goal.returns-clause-uses
returns-clause-uses c =
    uses-kept c.args.self.now c.self.inside.parts c.leave-place.new.self c.self.inside.numbers c.count_out.new.numbers c.self.view_is c.self.invariant.numbered (λ id h. c.count_out.ensures.rows id ∙ h)
