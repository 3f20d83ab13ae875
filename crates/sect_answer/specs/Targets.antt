-- The path of what can be asked for.
use Rattle.std.specs.Prelude.{◌≡◌, ℕ, List, [], ◌++◌, codes, decimal, ⊤}
use Rattle.sect_base.specs.declared.limit.Caller.{Caller}
use Rattle.sect_base.specs.declared.limit.Caller.TheVariants as callers
use Rattle.sect_command.specs.declared.view.Query.{Query}
use Rattle.sect_command.specs.declared.view.Query.TheVariants as queries
use Rattle.sect_read.specs.Fits.{Fits32, FitsId}
use Rattle.sect_answer.specs.declared.target.Target.{Target}
use Rattle.sect_answer.specs.declared.target.Target.TheVariants as targets

-- the path under which a caller asks a command with this number
abbrev pub ask_path : Caller → ℕ → List ℕ
ask_path (callers.Student s) n = codes "/students/" ++ (decimal s.0 ++ (codes "/asks/" ++ decimal n))
ask_path (callers.Registrar r) n = codes "/registrars/" ++ (decimal r ++ (codes "/asks/" ++ decimal n))

-- the path of a report; a table has none
abbrev pub report_path : Query → List ℕ
report_path (queries.Schedule s) = codes "/students/" ++ decimal s.0
report_path (queries.Roll s) = codes "/sections/" ++ (decimal s.0 ++ codes "/roll")
report_path (queries.Open o) = codes "/offerings/" ++ (decimal o.0 ++ codes "/open")
report_path queries.Waiting = codes "/waiting"
report_path queries.Unmet = codes "/unmet"
report_path (queries.Rows t) = []

-- the path of a target
abbrev pub target_path : Target → List ℕ
target_path (targets.Ask id) = ask_path id.caller id.number
target_path (targets.Look q) = report_path q

-- the query is of a report, and its id has 32 bits
abbrev pub FitsReport : Query → Type 0
FitsReport (queries.Schedule s) = Fits32 s.0
FitsReport (queries.Roll s) = Fits32 s.0
FitsReport (queries.Open o) = Fits32 o.0
FitsReport queries.Waiting = ⊤
FitsReport queries.Unmet = ⊤
FitsReport (queries.Rows t) = ⊥

-- ids have 32 bits, numbers 64
abbrev pub FitsTarget : Target → Type 0
FitsTarget (targets.Ask id) = FitsId id
FitsTarget (targets.Look q) = FitsReport q

-- the path is the target's
abbrev pub IsTarget : List ℕ → Target → Type 0
IsTarget path t = FitsTarget t × (path ≡ target_path t)
