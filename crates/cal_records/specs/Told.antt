-- A run by a journal, or by none.
use Rattle.std.specs.Prelude.{◌≡◌, ℕ, Bool, ◌||◌, Option, IfSome, is_some, unwrap_or}
use Rattle.std.specs.List.{list_any}
use Rattle.cal_run.specs.Plain.{plain}
use Rattle.cal_run.specs.Refused.{refused_in}
use Rattle.cal_script.specs.declared.journal.Journal.{Journal}
use Rattle.cal_script.specs.declared.script.Channel.{Channel}
use Rattle.cal_script.specs.declared.script.Script.{Script}

-- the journal of a run: the one that is given, or else that of the threads one after another
abbrev pub told : Script → Option Journal → Journal
told script journal = unwrap_or journal (plain script)

-- How many lines of the threads one after another are refused, if it was counted.
abbrev pub CountsRefused : Script → Option ℕ → Type 0
CountsRefused script counted = IfSome counted (λ refused. refused ≡ refused_in (plain script).threads)

-- whether a channel's snapshots are taken in a run: they stand in a trace, or in groups
abbrev pub is_kept : Channel → Bool
is_kept channel = channel.trace || channel.aggregate

-- It is counted exactly where some channel's snapshots are taken.
abbrev pub IsCounted : Script → Option ℕ → Type 0
IsCounted script counted = is_some counted ≡ list_any is_kept script.channels
