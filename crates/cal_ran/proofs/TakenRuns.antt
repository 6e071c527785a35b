-- What all threads of a run have taken in all channels is what the plain meaning of a run gives.
use Rattle.std.proofs.Common.{◌≡◌, ℕ, List, [], length, map, ap, sym, ◌∙◌, arith}
use Rattle.std.specs.Prelude.{Some, slice_get}
use Rattle.std.specs.List.{All, Contains}
use Rattle.std.proofs.lemmas.List.{append-nil, length-map}
use Rattle.std.proofs.lemmas.List.Elements.{All-map}
use Rattle.std.proofs.lemmas.Option.{slice_get_within}
use Rattle.cal_channel.specs.Places.{at_place}
use Rattle.cal_channel.specs.Values.{ChannelValue}
use Rattle.cal_context.proofs.ListLemmas.{Contains-number}
use Rattle.cal_delivery.specs.Taken.{HaveTaken, IsTaken}
use Rattle.cal_finish.proofs.LawfulRuns.{at-below}
use Rattle.cal_finish.specs.Ended.{HaveAllEnded, notes_of, threads_of}
use Rattle.cal_finish.specs.Threads.{KnowsNodesOf}
use Rattle.cal_handover.specs.Places.{emptied}
use Rattle.cal_keeping.specs.Hands.{AccountOf}
use Rattle.cal_keeping.specs.declared.runner.Runner.{Runner}
use Rattle.cal_once.specs.declared.seat.RowSeat.{RowSeat}
use Rattle.cal_ran.proofs.Places.{all-lists, channels_of, left_of}
use Rattle.cal_ran.proofs.TakenChannels.{KeepsLimits, taken-there}
use Rattle.cal_ran.proofs.TakenLines.{GoByRun}
use Rattle.cal_ran.proofs.TakenShares.{AreCounted}
use Rattle.cal_replay.specs.Workers.{script_of}
use Rattle.cal_run.specs.Runs.{snapshots}
use Rattle.cal_script.specs.declared.journal.Journal.{Journal}
use Rattle.cal_script.specs.declared.script.Channel.{Channel}
use Rattle.cal_start.specs.Runs.{IsRun, shape_for}
use Rattle.cal_start.specs.declared.run.Run.{Run}
use Rattle.cal_table.specs.Tables.{TableValue}
use Rattle.cal_table.specs.declared.shape.TableShape.{TableShape}
use Rattle.cal_table_rows.specs.Meanings.{NamesAreApart}
use Rattle.cal_words.specs.declared.sort.NodeSort.{NodeSort}

module _ {P H : Type 0} (account : H → ℕ → AccountOf)
    (takes : H → ℕ → List TableShape → Type 0) (run : Run) (is : IsRun run)
    (runners : List (Runner P H)) (by_run : GoByRun takes run runners) (journal : Journal)
    (ended : HaveAllEnded account takes run.shared runners journal.ops)
    (noted : journal.threads ≡ notes_of runners) (seat : RowSeat NodeSort)
    (knows : All (KnowsNodesOf seat) (threads_of runners)) (tables : List (List TableValue))
    (counted : AreCounted account run.shapes.items runners tables)
    (apart : NamesAreApart run.context.attributes (script_of run.shared))
    (limits : (channel : Channel) → Contains (script_of run.shared).channels channel
    → KeepsLimits (script_of run.shared) journal channel) where
  -- there is a shape for each channel of the script
  shapes-long : length run.shapes.items ≡ length (script_of run.shared).channels
  shapes-long = ap length is.shapes ∙ length-map (script_of run.shared).channels
      (shape_for is.hashers run.context.attributes)

  -- of each thread a channel is left for each of the script
  left-long : All (λ (kept : List ChannelValue).
      length kept ≡ length (script_of run.shared).channels) (left_of runners)
  left-long =
      let long : List ChannelValue → Type 0 =
      λ kept. length kept ≡ length (script_of run.shared).channels in
      All-map long (map emptied) (channels_of runners)
      (all-lists (λ (r : Runner P H). r.channels.channels) (λ kept. long (map emptied kept)) runners
      (λ k r at. length-map r.channels.channels.items emptied
      ∙ (ended.ended k r at).run.is.ready.many))

  taken-each : (place : ℕ) (channel : Channel) (own : List TableValue)
      → slice_get (script_of run.shared).channels place ≡ Some channel
      → slice_get tables place ≡ Some own
      → HaveTaken run.context.attributes (script_of run.shared) run.shared.common.tree seat channel
      (at_place place (left_of runners)) own (snapshots (script_of run.shared) journal channel)
  taken-each place channel own at_channel at_own =
      let within = slice_get_within (script_of run.shared).channels place channel at_channel in
      let long = shapes-long in
      let shape = at-below run.shapes.items place (omega (arith, within, long)) in
      taken-there account takes run is runners by_run journal ended noted seat knows tables counted
      place channel shape.item own at_channel shape.there at_own
      (limits channel
      (Contains-number (script_of run.shared).channels place channel at_channel))

  pub run-taken : IsTaken (script_of run.shared) run.shared.common.tree seat run.context
      (snapshots (script_of run.shared) journal) (left_of runners) tables
  run-taken = record {
    attributes = run.context.attributes;
    declared = is.numbered.named.front;
    numbered = ([], sym (append-nil run.context.attributes));
    apart = apart;
    taken = record {
      many = counted.many ∙ shapes-long;
      own = left-long;
      each = taken-each;
    };
  }
