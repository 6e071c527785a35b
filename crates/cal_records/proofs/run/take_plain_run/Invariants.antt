use Rattle.std.proofs.Common.{◌≡◌, take}
use Rattle.std.specs.Prelude.{is_some}
use Rattle.std.specs.List.{flat_map, list_any}
use Rattle.cal_context.specs.Taking.{TakesMore}
use Rattle.cal_context.specs.Tree.{Grows}
use Rattle.cal_records.specs.Records.{channel_rows}
use Rattle.cal_records.specs.Told.{CountsRefused, is_kept}
use Rattle.cal_run.specs.Numbers.{AreNumbered}
use Rattle.cal_run.specs.Plain.{plain}
use Rattle.cal_records.proofs.run.take_plain_run.Given as goal

-- the rows of the channels so far were taken, and where one of them was run, it was counted
abbrev pub invariant-loop-channel : goal.invariant-loop-channel
invariant-loop-channel g l = record {
  numbered : AreNumbered l.context l.script l.numbers;
  grows : Grows l.fn.context l.context;
  taken : TakesMore (g.T.Taker.has_taken l.fn.taker l.fn.context)
      (g.T.Taker.has_taken l.taker l.context)
      (flat_map (channel_rows l.script (plain l.script)) (take l.channel-index l.script.channels));
  refused : CountsRefused l.script l.refused;
  counted : is_some l.refused ≡ list_any is_kept (take l.channel-index l.script.channels);
  about : g.T.Taker.about l.taker ≡ g.T.Taker.about l.fn.taker;
}
