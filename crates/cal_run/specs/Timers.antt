-- Which lines take a reading, by what the channels of a script are.
use Rattle.std.specs.Prelude.{◌≡◌, ◌&&◌}
use Rattle.std.specs.List.{list_any}
use Rattle.cal_run.specs.declared.timers.Timers.{Timers}
use Rattle.cal_script.specs.declared.script.Channel.{Channel}
use Rattle.cal_script.specs.declared.script.Script.{Script}

-- whether some channel has the timer, and whether some channel with the timer takes events
pub record AreTimers (script : Script) (t : Timers) : Type 0 where
  pub some : t.some ≡ list_any (λ (c : Channel). c.timer) script.channels
  pub events : t.events ≡ list_any (λ (c : Channel). c.timer && c.event) script.channels
