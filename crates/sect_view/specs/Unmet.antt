-- The requests of a student of which no course is held.
use Rattle.std.specs.Prelude.{List, filter_map}
use Rattle.std.specs.List.{enumerate_from}
use Rattle.sect_command.specs.declared.view.UnmetView.{UnmetView}
use Rattle.sect_model.specs.Data.{StudentId, Ask}
use Rattle.sect_model.specs.World.{World}
use Rattle.sect_model.specs.Look.{unmet_ask}

-- those of the requests that are for courses of which the student holds none, by position
abbrev pub unmet_among : World → StudentId → List Ask → List UnmetView
unmet_among w student asks = filter_map (unmet_ask w student) (enumerate_from 1 asks)
