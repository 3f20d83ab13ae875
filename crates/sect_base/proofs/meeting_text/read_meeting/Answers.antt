-- A meeting's text says its weekdays, time and weeks, and what says them is its text.
use Rattle.std.specs.Prelude.{Ok, ◌+◌}
use Rattle.std.proofs.Common.{arith, sym, ◌∙◌, ap}
use Rattle.sect_base.specs.MeetingText.{meeting_text, SaysDays, SaysTime, SaysWeeks}
use Rattle.sect_base.proofs.MeetingTexts.{says_days, says_time, says_weeks, time_of_text, read_is, text_of_read}
use Rattle.sect_base.proofs.meeting_text.read_meeting.Goals as goal
use Rattle.sect_base.proofs.meeting_text.read_meeting.Goals.{then-end-start-via-then-end-start, then-end-start-via-else-end-start+then-end-gt-MIDNIGHT}

pub returns-in_default-clause-printed : goal.returns-in_default-clause-printed
returns-in_default-clause-printed c = λ m is same.
    absurd (c.in_default.ensures.none m.days (rw c.cut_at_slash.ensures.before (says_days c.args.text.now m is same)))

pub returns-in_default-read_time-clause-printed : goal.returns-in_default-read_time-clause-printed
returns-in_default-read_time-clause-printed c = λ m is same.
    absurd
    (c.in_default-read_time.ensures.none m.start (m.start + m.slots)
    (rw (c.cut_at_slash-2.ensures.before, c.cut_at_slash.ensures.after) (says_time c.args.text.now m is same)))

pub returns-then-end-start-clause-printed : goal.returns-then-end-start-clause-printed
returns-then-end-start-clause-printed c = λ m is same.
    let says : SaysTime c.args.text.now c.in-Some-read_time.start c.in-Some-read_time.end =
    rw (c.cut_at_slash-2.ensures.before, c.cut_at_slash.ensures.after) at c.in-Some-read_time.ensures.found in
    let time = time_of_text c.args.text.now m c.in-Some-read_time.start c.in-Some-read_time.end same says in
    elim c.then-end-start.branch [
      | then-end-start-via-then-end-start w ↦ absurd (omega (arith, time.0, time.1, is.some_slot, w.if-end-start.true))
      | then-end-start-via-else-end-start+then-end-gt-MIDNIGHT w ↦ absurd (omega (arith, time.0, time.1, is.ends, w.if-end-gt-MIDNIGHT.true))
    ]

pub returns-in_default-read_weeks-clause-printed : goal.returns-in_default-read_weeks-clause-printed
returns-in_default-read_weeks-clause-printed c = λ m is same.
    absurd
    (c.in_default-read_weeks.ensures.none m.weeks
    (rw (c.cut_at_slash-2.ensures.after, c.cut_at_slash.ensures.after) (says_weeks c.args.text.now m is same)))

pub returns-clause-ok : goal.returns-clause-ok
returns-clause-ok c =
    let days : SaysDays c.args.text.now c.in-Some.days = rw c.cut_at_slash.ensures.before at c.in-Some.ensures.found in
    let time : SaysTime c.args.text.now c.in-Some-read_time.start c.in-Some-read_time.end =
    rw (c.cut_at_slash-2.ensures.before, c.cut_at_slash.ensures.after) at c.in-Some-read_time.ensures.found in
    let weeks : SaysWeeks c.args.text.now c.in-Some-read_weeks.weeks =
    rw (c.cut_at_slash-2.ensures.after, c.cut_at_slash.ensures.after) at c.in-Some-read_weeks.ensures.found in
    text_of_read c.args.text.now c.in-Some.days c.in-Some-read_time.start c.in-Some-read_time.end c.in-Some-read_weeks.weeks (omega arith) days time weeks
    ∙ ap meeting_text (sym c.in-Some-new.ensures.1)

pub returns-clause-printed : goal.returns-clause-printed
returns-clause-printed c = λ m is same.
    let days : SaysDays c.args.text.now c.in-Some.days = rw c.cut_at_slash.ensures.before at c.in-Some.ensures.found in
    let time : SaysTime c.args.text.now c.in-Some-read_time.start c.in-Some-read_time.end =
    rw (c.cut_at_slash-2.ensures.before, c.cut_at_slash.ensures.after) at c.in-Some-read_time.ensures.found in
    let weeks : SaysWeeks c.args.text.now c.in-Some-read_weeks.weeks =
    rw (c.cut_at_slash-2.ensures.after, c.cut_at_slash.ensures.after) at c.in-Some-read_weeks.ensures.found in
    ap Ok
    (c.in-Some-new.ensures.1
    ∙ read_is c.args.text.now m c.in-Some.days c.in-Some-read_time.start c.in-Some-read_time.end c.in-Some-read_weeks.weeks is same days time weeks)
