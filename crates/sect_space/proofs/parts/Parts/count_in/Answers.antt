-- one enrolment more than before
use Rattle.std.proofs.Common.{sym}
use Rattle.sect_numbers.specs.OneMore.{with_roster}
use Rattle.sect_weeks.proofs.ToldLemmas.{enrolled-is-told}
use Rattle.sect_space.specs.Parts.{roomed_of}
use Rattle.sect_space.proofs.WeekLemmas.{known-in, credits-few}
use Rattle.sect_space.proofs.parts.Parts.count_in.Goals as goal

pub enrolled-requires : goal.enrolled-requires
enrolled-requires c =
    let w = (roomed_of c.args.self.now).world in
    let b = c.requires.behind in
    (with_roster w b.less, w.roster, b.told, record { is_more = b.is_more; kept = b.kept; its_offering = sym c.requires.its; is_over = sym c.is_over_limit-over.ensures })

pub returns-clause-told : goal.returns-clause-told
returns-clause-told c =
    let w = (roomed_of c.args.self.now).world in
    let b = c.requires.behind in
    c.enrolled.ensures.told (with_roster w b.less) w.roster b.told (record { is_more = b.is_more; kept = b.kept; its_offering = sym c.requires.its; is_over = sym c.is_over_limit-over.ensures })

pub enrolled-requires-2 : goal.enrolled-requires-2
enrolled-requires-2 c =
    let w = (roomed_of c.args.self.now).world in
    let b = c.requires.behind in
    record {
      row = b.weeks.students c.args.enrolment.now.student (known-in w b.less c.args.enrolment.now b.is_more b.kept);
      bound = credits-few c.args.weeks.now w b.less c.args.enrolment.now b.is_more b.kept b.weeks c.args.enrolment.now.student;
    }

pub returns-clause-weeks : goal.returns-clause-weeks
returns-clause-weeks c =
    let w = (roomed_of c.args.self.now).world in
    let b = c.requires.behind in
    enrolled-is-told c.args.weeks.now c.enrolled-2.new.self (with_roster w b.less) w.roster c.args.enrolment.now b.is_more b.weeks c.enrolled-2.ensures
