-- What is decided next at a node of a search, and its options.
use Rattle.sect_model.specs.declared.pick.Pick.{Pick}
use Rattle.sect_model.specs.declared.pick.Pick.TheVariants.{Course as picks_course, Reservation as picks_reservation, Config as picks_config, Section as picks_section}
use Rattle.std.specs.Prelude.{Some}
use Rattle.sect_moment.specs.Completed.{opened}
use Rattle.sect_moment.specs.Found.{IsChosen, IsConfig, IsSection, id_of}
use Rattle.sect_rules.specs.declared.due.Due.{Due}
use Rattle.sect_rules.specs.declared.due.Due.TheVariants.{Course as course_due, Reservation as reservation_due, Config as config_due, Section as section_due}
use Rattle.sect_rules.specs.declared.due.Step.{Step}
use Rattle.sect_rules.specs.declared.due.Step.TheVariants.{Course, Reservation, Config, Section}
use Rattle.sect_rules.specs.Place.{Place}
use Rattle.sect_rules.specs.Wanted.{Wanted, OnCourse, Joined, Configured, course_path, joined_path, config_path}

-- the places at which something is decided next
abbrev pub wanted_place : Wanted → Place
wanted_place v = record { world = v.world; mv = v.mv; path = opened v.done }

abbrev pub course_place : OnCourse → Place
course_place v = record { world = v.wanted.world; mv = v.wanted.mv; path = course_path v }

abbrev pub joined_place : Joined → Place
joined_place v = record { world = v.on.wanted.world; mv = v.on.wanted.mv; path = joined_path v }

abbrev pub config_place : Configured → Place
config_place v = record { world = v.by.on.wanted.world; mv = v.by.on.wanted.mv; path = config_path v }

-- where a node of a search stands
abbrev pub place_of : Due → Place
place_of (course_due v) = wanted_place v.now
place_of (reservation_due v) = course_place v.now
place_of (config_due v) = joined_place v.now
place_of (section_due v) = config_place v.now

-- where an option stands
abbrev pub place_at : Step → Place
place_at (Course v id) = wanted_place v.now
place_at (Reservation v row) = course_place v.now
place_at (Config v row) = joined_place v.now
place_at (Section v row) = config_place v.now

-- the decision that an option stands for
abbrev pub pick_at : Step → Pick
pick_at (Course v id) = picks_course id
pick_at (Reservation v row) = picks_reservation (id_of row)
pick_at (Config v row) = picks_config row.now.id
pick_at (Section v row) = picks_section row.now.id

-- the option's row is the one that its id finds
abbrev pub IsStep : Step → Type 0
IsStep (Course v id) = Unit {0}
IsStep (Reservation v row) = IsChosen v.now.wanted.world row
IsStep (Config v row) = IsConfig v.now.on.wanted.world (Some v.now.on.course) row.now
IsStep (Section v row) = IsSection v.now.by.on.wanted.world row.now
