-- the numbers and weeks count the enrolment
use Rattle.std.proofs.Common.{◌∙◌}
use Rattle.sect_model.specs.declared.change.Change.TheVariants.{Enrol}
use Rattle.sect_space.specs.Parts.{roomed_of}
use Rattle.sect_space.proofs.NumberLemmas.{fits-in, kept-made, enrolled-behind, its-offering, uses-kept}
use Rattle.sect_space.proofs.world.World.enrol.Goals as goal

pub count_in-requires-clause-behind : goal.count_in-requires-clause-behind
count_in-requires-clause-behind c =
    enrolled-behind c.self.inside.parts c.enrol.new.self c.self.inside.numbers c.self.inside.weeks c.args.enrolment _ c.self.invariant
    (fits-in c.args.self.now c.self.inside.parts c.self.inside.numbers (Enrol c.args.enrolment) c.self.view_is c.requires) c.in_ok-offering.ensures.ok

pub count_in-requires-clause-its : goal.count_in-requires-clause-its
count_in-requires-clause-its c = its-offering (roomed_of c.self.inside.parts) (roomed_of c.enrol.new.self) c.args.enrolment c.in_ok-offering.offering c.in_ok-offering.ensures.ok

pub invariant_of-self-2 : goal.invariant_of-self-2
invariant_of-self-2 c = record {
  numbered = record {
    kept =
        kept-made c.self.inside.parts c.enrol.new.self c.self.inside.numbers (Enrol c.args.enrolment) _ c.self.invariant.numbered
        (fits-in c.args.self.now c.self.inside.parts c.self.inside.numbers (Enrol c.args.enrolment) c.self.view_is c.requires) c.in_ok-offering.ensures.ok;
    told = c.count_in.ensures.told;
  };
  weeks = c.count_in.ensures.weeks;
}

pub returns-clause-uses : goal.returns-clause-uses
returns-clause-uses c =
    uses-kept c.args.self.now c.self.inside.parts c.enrol.new.self c.self.inside.numbers c.count_in.new.numbers c.self.view_is c.self.invariant.numbered (λ id h. c.count_in.ensures.rows id ∙ h)
