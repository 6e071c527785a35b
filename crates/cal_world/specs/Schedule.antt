-- One order of all events that a journal allows. (Giltmoth's order.)
use Rattle.std.specs.Prelude.{List, flat_map}
use Rattle.cal_script.specs.declared.journal.Journal.{Journal}
use Rattle.cal_script.specs.declared.script.Script.{Script}
use Rattle.cal_world.specs.Events.{events_of}
use Rattle.cal_world.specs.Turns.{turns_in_order}
use Rattle.cal_world.specs.declared.event.Event.{Event}

-- The lines in the order of what they have seen; the events of each stand together.
abbrev pub schedule_of : Script → Journal → List Event
schedule_of script journal = flat_map (events_of script journal) (turns_in_order script journal)
