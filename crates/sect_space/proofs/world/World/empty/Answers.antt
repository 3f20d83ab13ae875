-- The parts are those of the empty world.
use Rattle.std.proofs.Common.{◌≡◌, sym, subst}
use Rattle.sect_model.specs.World.{empty_world}
use Rattle.sect_model.specs.Kept.{KeptWorld}
use Rattle.sect_model.proofs.ChangeLemmas.{empty-keeps}
use Rattle.sect_numbers.specs.Numbers.{Told}
use Rattle.sect_weeks.specs.Busy.{ToldWeeks}
use Rattle.sect_space.specs.Roomed.{world_of}
use Rattle.sect_space.proofs.world.World.empty.Goals as goal

pub invariant_of-result : goal.invariant_of-result
invariant_of-result c =
    let e : empty_world ≡ world_of c.empty.result c.empty-2.result c.empty-3.result c.empty-4.result c.empty-5.result c.first_day.result = λ i. record {
      catalogue = sym c.empty.ensures i;
      students = sym c.empty-2.ensures i;
      reservations = (sym c.empty-3.ensures i).items;
      restrictions = (sym c.empty-4.ensures i).items;
      roster = (sym c.empty-5.ensures i).items;
      day = sym c.first_day.ensures i;
    } in
    record {
      numbered = record { kept = subst KeptWorld e empty-keeps; told = subst (Told c.empty-6.result) e c.empty-6.ensures };
      weeks = subst (ToldWeeks c.empty-7.result) e c.empty-7.ensures;
    }
