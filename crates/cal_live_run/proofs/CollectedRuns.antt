-- What threads whose parts were collected have left.
use Rattle.std.proofs.Common.{◌≡◌, ◌∙◌, List, [], All, Contains, ap, map, subst, sym, arith}
use Rattle.std.proofs.lemmas.Option.{get_or_from_slice_get}
use Rattle.std.specs.Prelude.{slice_get, Some}
use Rattle.cal_book.proofs.Lists.{at_map}
use Rattle.cal_channel.specs.Places.{lists_of}
use Rattle.cal_channel.specs.Values.{ChannelValue}
use Rattle.cal_delivery.specs.Taken.{IsTaken}
use Rattle.cal_finish.proofs.LawfulRuns.{at-below}
use Rattle.cal_finish.proofs.RunThreads.{has-ended}
use Rattle.cal_finish.specs.Ended.{HaveAllEnded, HaveAllRun}
use Rattle.cal_finish.specs.Threads.{IsWholeFor, KnowsNodesOf}
use Rattle.cal_handover.specs.Places.{emptied}
use Rattle.cal_keeping.specs.declared.runner.Runner.{Runner}
use Rattle.cal_live.specs.Sending.{IsSendingFor, account_of}
use Rattle.cal_live.specs.declared.sending.SenderHand.{SenderHand}
use Rattle.cal_live_run.proofs.CountedRuns.{all-counted, all-run, go-by-run, may-gather-all}
use Rattle.cal_live_run.specs.Collected.{AreCollectedOf}
use Rattle.cal_live_run.specs.Gathering.{AreGathered, MayGatherAll}
use Rattle.cal_live_run.specs.Quiet.{IsQuiet}
use Rattle.cal_live_run.specs.declared.running.Collected.{Collected}
use Rattle.cal_notes.specs.Together.{HasFlushed}
use Rattle.cal_once.specs.declared.seat.RowSeat.{RowSeat}
use Rattle.cal_ran.proofs.Places.{channels_of}
use Rattle.cal_ran.proofs.TakenChannels.{KeepsLimits}
use Rattle.cal_ran.proofs.TakenRuns.{run-taken}
use Rattle.cal_replay.specs.Workers.{lines_done, script_of}
use Rattle.cal_run.specs.Lawful.{IsKnown}
use Rattle.cal_run.specs.Runs.{snapshots}
use Rattle.cal_script.specs.declared.journal.Journal.{Journal}
use Rattle.cal_script.specs.declared.journal.Reply.TheVariants as reply
use Rattle.cal_script.specs.declared.journal.ThreadNote.{ThreadNote}
use Rattle.cal_script.specs.declared.script.Channel.{Channel}
use Rattle.cal_script.specs.declared.script.Line.{Line}
use Rattle.cal_start.specs.Runs.{IsRun}
use Rattle.cal_start.specs.declared.run.Run.{Run}
use Rattle.cal_table.specs.Tables.{TableValue}
use Rattle.cal_table.specs.declared.shape.TableShape.{TableShape}
use Rattle.cal_table_rows.specs.Meanings.{NamesAreApart}
use Rattle.cal_thread.specs.declared.thread.Thread.{Thread}
use Rattle.cal_words.specs.declared.sort.NodeSort.{NodeSort}

module _ {P Q S : Type 0} (shapes : List TableShape) (run : Run) (is : IsRun run)
    (shapes_are : shapes ≡ run.shapes.items) (h : Collected)
    (has : AreCollectedOf P Q S shapes run h) where
  -- by channels that are lent from those that were left
  module _ (lent : List (List ChannelValue)) (lent_are : lent ≡ lists_of h.channels.items) where
    channels-are : lent ≡ channels_of has.from
    channels-are = lent_are ∙ ap lists_of has.channels

    -- what is left there may be put beside the tables
    pub gatherable : MayGatherAll h.tables.items lent
    gatherable = subst (λ (cs : List (List ChannelValue)). MayGatherAll h.tables.items cs)
        (sym channels-are)
        (may-gather-all shapes run is shapes_are has.from has.sent h.tables.items has.merged)

  -- the threads have run as it is asked of a run
  pub collected-ran : HaveAllRun account_of (IsSendingFor shapes) run.shared has.from
  collected-ran = all-run shapes run is shapes_are has.from has.sent

  module _ (journal : Journal) (noted : journal.threads ≡ h.notes) where
    -- no flush of theirs was answered busy
    pub collected-quiet : IsQuiet (script_of run.shared) journal
    collected-quiet thread ls note ran channel holder below flushed =
        let at = at_map (λ (r : Runner P (SenderHand Q S)). r.worker.note) has.from thread note
        (subst (λ (notes : List ThreadNote). slice_get notes thread ≡ Some note)
        (noted ∙ has.notes) ran.noted) in
        let r = at.0 in
        let end = (has.sent.each thread r at.1).ran in
        let ready = end.is.ready in
        let many = ready.many in
        let asked = at-below (script_of run.shared).channels channel below in
        let c = at-below r.channels.channels.items channel (omega (arith, many, below)) in
        let kept = end.is.kept ready.named.0 ready.named.1 channel asked.item c.item asked.there
        c.there in
        let lines_are : lines_done (script_of run.shared) r.worker ≡ ls =
        end.all ∙ get_or_from_slice_get (script_of run.shared).threads thread ls [] ran.ran in
        let met : Contains [] holder = kept.busy holder
        (subst (λ (n : ThreadNote). HasFlushed channel (reply.Busy holder)
        (lines_done (script_of run.shared) r.worker) n) (sym at.2)
        (subst (λ (l : List Line). HasFlushed channel (reply.Busy holder) l note) (sym lines_are)
        flushed)) in
        let none = met.1 in
        omega (arith, none)

    module _ (known : All (IsKnown (script_of run.shared)) journal.ops)
        (whole : IsWholeFor run.shared.common h.threads.items journal.ops) where
      -- they have ended where the history is whole for them
      pub collected-ended : HaveAllEnded account_of (IsSendingFor shapes) run.shared has.from
          journal.ops
      collected-ended = record {
        run = collected-ran;
        known = known;
        ended = has-ended account_of (IsSendingFor shapes) run.shared has.from collected-ran
            journal.ops
            (subst (λ (ts : List Thread). IsWholeFor run.shared.common ts journal.ops)
            has.threads whole);
      }

      -- and what they have taken is what the plain meaning gives
      pub collected-taken : (alls : List (List TableValue)) (lent : List (List ChannelValue))
          → lent ≡ lists_of h.channels.items → AreGathered h.tables.items lent alls
          → (seat : RowSeat NodeSort) → All (KnowsNodesOf seat) h.threads.items
          → NamesAreApart run.context.attributes (script_of run.shared)
          → ((channel : Channel) → Contains (script_of run.shared).channels channel
          → KeepsLimits (script_of run.shared) journal channel)
          → (left : List (List ChannelValue)) → left ≡ map (map emptied) lent
          → IsTaken (script_of run.shared) run.shared.common.tree seat run.context
          (snapshots (script_of run.shared) journal) left alls
      collected-taken alls lent lent_are gathered seat knows apart limits left left_are =
          subst (λ (channels : List (List ChannelValue)).
          IsTaken (script_of run.shared) run.shared.common.tree seat run.context
          (snapshots (script_of run.shared) journal) channels alls)
          (sym (left_are ∙ ap (map (map emptied)) (channels-are lent lent_are)))
          (run-taken account_of (IsSendingFor shapes) run is has.from
          (go-by-run shapes run is shapes_are has.from has.sent) journal collected-ended
          (noted ∙ has.notes) seat
          (subst (λ (ts : List Thread). All (KnowsNodesOf seat) ts) has.threads knows) alls
          (all-counted shapes run is shapes_are has.from has.sent h.tables.items has.merged alls
          (subst (λ (cs : List (List ChannelValue)). AreGathered h.tables.items cs alls)
          (channels-are lent lent_are) gathered)) apart limits)
