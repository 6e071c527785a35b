-- The conditions of the triggers that a program has, by their names.
use Rattle.std.specs.Prelude.{List}
use Rattle.cal_ql.specs.declared.query.Cond.{Cond}
use Rattle.cal_trigger.specs.Named.{in_main, slow}
use Rattle.cal_watch.specs.declared.watched.TriggerName as names
use Rattle.cal_watch.specs.declared.watched.TriggerName.TheVariants as name

-- `function=main`, or `time.duration.ns>=1000`
abbrev pub conditions_of : names.TriggerName → List Cond
conditions_of name.Main = in_main
conditions_of name.Slow = slow
