-- the numbers and weeks count the enrolment again
use Rattle.std.proofs.Common.{◌∙◌}
use Rattle.sect_space.specs.declared.back.Back.TheVariants.{Left}
use Rattle.sect_space.proofs.NumberLemmas.{made-in, back-ready, kept-back, put-behind, uses-kept}
use Rattle.sect_space.proofs.world.World.put_enrolment_back.Goals as goal

pub put_enrolment_back-requires : goal.put_enrolment_back-requires
put_enrolment_back-requires c =
    back-ready c.self.inside.parts c.self.inside.numbers (Left c.args.place c.args.enrolment c.args.offering)
    (made-in c.args.self.now c.self.inside.parts c.self.inside.numbers (Left c.args.place c.args.enrolment c.args.offering) c.self.view_is c.requires)

pub count_in-requires-clause-behind : goal.count_in-requires-clause-behind
count_in-requires-clause-behind c =
    put-behind c.self.inside.parts c.put_enrolment_back.new.self c.self.inside.numbers c.self.inside.weeks c.args.place c.args.enrolment c.args.offering c.self.invariant
    (made-in c.args.self.now c.self.inside.parts c.self.inside.numbers (Left c.args.place c.args.enrolment c.args.offering) c.self.view_is c.requires)
    c.put_enrolment_back.ensures

pub invariant_of-self : goal.invariant_of-self
invariant_of-self c = record {
  numbered = record {
    kept =
        kept-back c.self.inside.parts c.put_enrolment_back.new.self c.self.inside.numbers (Left c.args.place c.args.enrolment c.args.offering)
        (made-in c.args.self.now c.self.inside.parts c.self.inside.numbers (Left c.args.place c.args.enrolment c.args.offering) c.self.view_is c.requires)
        c.put_enrolment_back.ensures;
    told = c.count_in.ensures.told;
  };
  weeks = c.count_in.ensures.weeks;
}

pub returns-clause-uses : goal.returns-clause-uses
returns-clause-uses c =
    uses-kept c.args.self.now c.self.inside.parts c.put_enrolment_back.new.self c.self.inside.numbers c.count_in.new.numbers c.self.view_is c.self.invariant.numbered (λ id h. c.count_in.ensures.rows id ∙ h)
