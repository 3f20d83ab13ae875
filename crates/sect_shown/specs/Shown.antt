-- What is shown of the views that answer queries.
use Rattle.std.specs.Prelude.{ℕ, List, [], flat_map, codes}
use Rattle.sect_base.specs.declared.ids.StudentId.{StudentId}
use Rattle.sect_catalog.specs.declared.row.OfferingRow.{OfferingRow}
use Rattle.sect_command.specs.declared.view.AsksView.{AsksView}
use Rattle.sect_command.specs.declared.view.OpenCourse.{OpenCourse}
use Rattle.sect_command.specs.declared.view.WaitView.{WaitView}
use Rattle.sect_command.specs.declared.view.Query.{Query}
use Rattle.sect_command.specs.declared.view.Query.TheVariants as queries
use Rattle.sect_command.specs.declared.view.Table.TheVariants as tables
use Rattle.sect_command.specs.declared.view.View.{View}
use Rattle.sect_command.specs.declared.view.View.TheVariants as views
use Rattle.sect_people.specs.Order.{sorted_by}
use Rattle.sect_report.specs.Report.{listed_text, unknown_text}
use Rattle.sect_shown.specs.Demand.{demand_line}
use Rattle.sect_shown.specs.Week.{timetable_text}

-- the offerings of a view
abbrev pub offerings_in : View → List OfferingRow
offerings_in (views.Offerings rows) = rows
offerings_in _ = []

-- the requests of a view
abbrev pub asks_in : View → List AsksView
asks_in (views.Requests rows) = rows
asks_in _ = []

-- the waiting entries of a view
abbrev pub entries_in : View → List WaitView
entries_in (views.Waiting entries) = entries
entries_in _ = []

-- the courses of a view, with their places
abbrev pub courses_in : View → List OpenCourse
courses_in (views.Open v) = v.courses
courses_in _ = []

-- the courses of all offerings with their places, where `look` gives the view of a query
unfoldable pub courses_of : (Query → View) → List OfferingRow → List OpenCourse
courses_of look rows = flat_map (λ o. courses_in (look (queries.Open o.id))) rows

-- the same in rising order of course
abbrev pub courses_by_id : (Query → View) → List OpenCourse
courses_by_id look = sorted_by (λ c. c.course.0) (courses_of look (offerings_in (look (queries.Rows tables.Offerings))))

-- what is wanted of each course, by course
abbrev pub demand_text : (Query → View) → List ℕ
demand_text look =
    listed_text (demand_line (asks_in (look (queries.Rows tables.Requests))) (entries_in (look queries.Waiting))) (courses_by_id look)

-- the week of the schedule, or that the student is unknown
abbrev pub week_text : List OfferingRow → View → List ℕ
week_text rows (views.Schedule v) = timetable_text rows v.student v.held
week_text rows (views.Unknown n) = unknown_text (codes "student") n
week_text rows _ = []

-- the week of a student
abbrev pub timetable_of : (Query → View) → StudentId → List ℕ
timetable_of look student = week_text (offerings_in (look (queries.Rows tables.Offerings))) (look (queries.Schedule student))
