-- the sections that the leaves so far want a place in were seen, and are counted
use Rattle.std.proofs.Common.{◌≡◌, ◌+◌, take}
use Rattle.std.specs.Prelude.{cond, nat_eq}
use Rattle.std.specs.HashSet.{contains}
use Rattle.sect_base.specs.declared.ids.SectionId.{SectionId}
use Rattle.sect_survey.specs.Leaves.{leaves_want}
use Rattle.sect_survey.specs.Counted.{count_in}
use Rattle.sect_survey.proofs.tally.count_sections.Given as goal

abbrev pub invariant-loop-leaf : goal.invariant-loop-leaf
invariant-loop-leaf l = record {
  seen : (section : SectionId) → contains nat_eq l.seen section.0 ≡ leaves_want section (take l.leaf-index l.leaves);
  counts : (section : SectionId) → count_in l.counts section.0 ≡ count_in l.initial.counts section.0 + cond (leaves_want section (take l.leaf-index l.leaves)) 1 0;
}
