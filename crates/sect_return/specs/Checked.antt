-- What the check of each row keeps of a world, beside what its type keeps.
use Rattle.std.specs.Prelude.{Bool, false, true, ◌&&◌, nat_le, List, length, map, IsTrue}
use Rattle.std.specs.List.{list_all}
use Rattle.std.specs.Option.{is_none, option_map_or}
use Rattle.sect_catalog.specs.Catalogue.{find_offering}
use Rattle.sect_command.specs.declared.command.Command.{Command}
use Rattle.sect_command.specs.declared.reply.Reply.{Reply}
use Rattle.sect_history.specs.Step.{state_of, stepped}
use Rattle.sect_model.specs.Data.{OfferingRow, Reservation, Student, StudentRow}
use Rattle.sect_model.specs.Refusals.{reserve_fault_of}
use Rattle.sect_model.specs.World.{World, empty_state}
use Rattle.sect_once.specs.History.{IsReplay}
use Rattle.sect_once.specs.declared.entry.Entry.{Entry}

-- at most 50 groups and 10 curricula
abbrev pub is_few : StudentRow → Bool
is_few row = nat_le (length row.groups) 50 && nat_le (length row.curricula) 10

-- the student's row has few groups and curricula
abbrev pub has_few : Student → Bool
has_few s = is_few s.row

-- a reservation's row has no fault in the offering, but for its id, which is in use: each configuration is the offering's, each section
-- stands in one of these, an audience's course is the offering's, and the lists are no longer than they may be
abbrev pub is_faultless : Reservation → OfferingRow → Bool
is_faultless r o = is_none (reserve_fault_of o r.id.0 false true r.audience r.includes.configs (map (λ p. p.section) r.includes.sections))

-- the reservation's offering is known, and its row has no fault in it
abbrev pub row_passes : World → Reservation → Bool
row_passes w r = option_map_or (is_faultless r) (find_offering w.catalogue.rows r.offering) false

-- students have few groups and curricula, and the row of each reservation has no fault in its offering, but for its id
pub record Checked (w : World) : Type 0 where
  pub few : IsTrue (list_all has_few w.students)
  pub rows_pass : IsTrue (list_all (row_passes w) w.reservations)

-- so it is in the state of each history whose replies are the machine's
abbrev pub StatesAreChecked : Type 0
StatesAreChecked = (entries : List (Entry Command Reply)) → IsReplay stepped empty_state entries → Checked (state_of entries).world
