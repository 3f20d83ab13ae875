-- the numbers and weeks count the enrolment no more
use Rattle.std.proofs.Common.{◌∙◌}
use Rattle.sect_space.specs.declared.back.Back.TheVariants.{Enrolled}
use Rattle.sect_space.proofs.NumberLemmas.{made-in, back-ready, kept-back, removed-ahead, uses-kept}
use Rattle.sect_space.proofs.world.World.remove_enrolment.Goals as goal

pub remove_enrolment-enrolment-requires : goal.remove_enrolment-enrolment-requires
remove_enrolment-enrolment-requires c =
    back-ready c.self.inside.parts c.self.inside.numbers (Enrolled c.args.student c.args.offering)
    (made-in c.args.self.now c.self.inside.parts c.self.inside.numbers (Enrolled c.args.student c.args.offering) c.self.view_is c.requires)

pub count_out-requires : goal.count_out-requires
count_out-requires c =
    removed-ahead c.self.inside.parts c.remove_enrolment-enrolment.new.self c.self.inside.numbers c.self.inside.weeks c.args.student c.args.offering c.remove_enrolment-enrolment.result c.self.invariant
    c.remove_enrolment-enrolment.ensures.taken c.remove_enrolment-enrolment.ensures.last

pub invariant_of-self : goal.invariant_of-self
invariant_of-self c = record {
  numbered = record {
    kept =
        kept-back c.self.inside.parts c.remove_enrolment-enrolment.new.self c.self.inside.numbers (Enrolled c.args.student c.args.offering)
        (made-in c.args.self.now c.self.inside.parts c.self.inside.numbers (Enrolled c.args.student c.args.offering) c.self.view_is c.requires)
        c.remove_enrolment-enrolment.ensures.taken;
    told = c.count_out.ensures.told;
  };
  weeks = c.count_out.ensures.weeks;
}

pub returns-clause-uses : goal.returns-clause-uses
returns-clause-uses c =
    uses-kept c.args.self.now c.self.inside.parts c.remove_enrolment-enrolment.new.self c.self.inside.numbers c.count_out.new.numbers c.self.view_is c.self.invariant.numbered
    (λ id h. c.count_out.ensures.rows id ∙ h)
