-- What the groups of a run answer. (Giltmoth's promise.)
use Rattle.std.specs.Prelude.{◌≡◌, true, Contains}
use Rattle.cal_profile.specs.Answers.{AnswersFor}
use Rattle.cal_profile.specs.Coarser.{IsCoarser}
use Rattle.cal_ql.specs.declared.query.Query.{Query}
use Rattle.cal_records.specs.Records.{grouped}
use Rattle.cal_run.specs.Runs.{snapshots}
use Rattle.cal_script.specs.declared.journal.Journal.{Journal}
use Rattle.cal_script.specs.declared.script.Channel.{Channel}
use Rattle.cal_script.specs.declared.script.Script.{Script}

-- The records of the groups of each channel that aggregates answer each query that asks no more than
-- the channel keeps as all its snapshots do: with the same groups, each with the same results, and
-- with the same rows.
abbrev pub ProfilesAnswer : Script → Journal → Type 0
ProfilesAnswer script journal = (channel : Channel) (q : Query) → Contains script.channels channel
    → channel.aggregate ≡ true → IsCoarser script.attributes channel.query q
    → AnswersFor q (grouped script journal channel) (snapshots script journal channel)
