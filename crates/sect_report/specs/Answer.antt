-- The report of a query.
use Rattle.std.specs.Prelude.{ℕ, List, [], codes}
use Rattle.sect_command.specs.declared.view.Query.{Query}
use Rattle.sect_command.specs.declared.view.Query.TheVariants.{Roll, Open, Schedule, Waiting, Unmet}
use Rattle.sect_command.specs.declared.view.View.{View}
use Rattle.sect_command.specs.declared.view.View.TheVariants.{Roll as RollOf, Open as OpenOf, Schedule as ScheduleOf, Waiting as WaitingList, Unmet as UnmetList, Unknown}
use Rattle.sect_report.specs.Report.{roll_text, open_text, schedule_text, wait_text, unmet_text, listed_text, unknown_text}

-- the text of the view that answers the query; a view of another kind has none
abbrev pub report_text : Query → View → List ℕ
report_text (Roll id) (RollOf v) = roll_text v
report_text (Roll id) (Unknown n) = unknown_text (codes "section") n
report_text (Open id) (OpenOf v) = open_text v
report_text (Open id) (Unknown n) = unknown_text (codes "offering") n
report_text (Schedule id) (ScheduleOf v) = schedule_text v
report_text (Schedule id) (Unknown n) = unknown_text (codes "student") n
report_text Waiting (WaitingList entries) = listed_text wait_text entries
report_text Unmet (UnmetList asks) = listed_text unmet_text asks
report_text _ _ = []
