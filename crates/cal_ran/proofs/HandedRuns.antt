-- What threads that have run have handed over.
use Rattle.std.proofs.Common.{◌≡◌, ◌∙◌, List, All, Contains, ap, length, map, subst, sym}
use Rattle.cal_channel.specs.Places.{lists_of}
use Rattle.cal_channel.specs.Values.{ChannelValue}
use Rattle.cal_delivery.specs.Taken.{IsTaken}
use Rattle.cal_finish.proofs.RunThreads.{has-ended}
use Rattle.cal_finish.specs.Ended.{HaveAllEnded, HaveAllRun}
use Rattle.cal_finish.specs.Threads.{IsWholeFor, KnowsNodesOf}
use Rattle.cal_handover.specs.Closing.{AreClosed, MayCloseAll}
use Rattle.cal_handover.specs.Places.{emptied}
use Rattle.cal_handover.specs.declared.handed.Handed.{Handed}
use Rattle.cal_keeping.specs.Hands.{IsAtBooks, account_in}
use Rattle.cal_once.specs.declared.seat.RowSeat.{RowSeat}
use Rattle.cal_ran.proofs.ClosedRuns.{all-counted, all-run, by-run, may-close-all}
use Rattle.cal_ran.proofs.Places.{channels_of, seats_of}
use Rattle.cal_ran.proofs.TakenChannels.{KeepsLimits}
use Rattle.cal_ran.proofs.TakenRuns.{run-taken}
use Rattle.cal_ran.specs.Runs.{AreHandedOf}
use Rattle.cal_replay.specs.Flushing.{SeatOf}
use Rattle.cal_replay.specs.Workers.{script_of}
use Rattle.cal_run.specs.Lawful.{IsKnown}
use Rattle.cal_run.specs.Runs.{snapshots}
use Rattle.cal_script.specs.declared.journal.Journal.{Journal}
use Rattle.cal_script.specs.declared.script.Channel.{Channel}
use Rattle.cal_start.specs.FirstSeats.{AreFirstSeats}
use Rattle.cal_start.specs.Runs.{IsRun}
use Rattle.cal_start.specs.declared.run.Run.{Run}
use Rattle.cal_table.specs.Tables.{TableValue}
use Rattle.cal_table_rows.specs.Meanings.{NamesAreApart}
use Rattle.cal_thread.specs.declared.thread.Thread.{Thread}
use Rattle.cal_words.specs.declared.sort.NodeSort.{NodeSort}

module _ {P : Type 0} (run : Run) (is : IsRun run) (h : Handed) (handed : AreHandedOf P run h)
  where
    seats-are : lists_of h.seats.items ≡ seats_of handed.from
    seats-are = ap lists_of handed.parts.seats

    channels-are : lists_of h.channels.items ≡ channels_of handed.from
    channels-are = ap lists_of handed.parts.channels

    -- the books may be closed
    pub handed-closable : (firsts : List SeatOf)
        → AreFirstSeats (length (script_of run.shared).threads) run.books.items firsts
        → MayCloseAll run.books.items firsts (lists_of h.seats.items) (lists_of h.channels.items)
    handed-closable firsts are =
        subst (λ (seats : List (List SeatOf)).
        MayCloseAll run.books.items firsts seats (lists_of h.channels.items)) (sym seats-are)
        (subst (λ (channels : List (List ChannelValue)).
        MayCloseAll run.books.items firsts (seats_of handed.from) channels) (sym channels-are)
        (may-close-all run is handed.from handed.done firsts are))

    -- by channels that are lent from those that were handed over
    module _ (tables : List (List TableValue)) (lent : List (List ChannelValue))
        (lent_are : lent ≡ lists_of h.channels.items)
        (closed : AreClosed run.books.items (lists_of h.seats.items) lent tables) where
      -- behind that the books of their runners are closed
      from-closed : AreClosed run.books.items (seats_of handed.from) (channels_of handed.from)
          tables
      from-closed = subst (λ (seats : List (List SeatOf)).
          AreClosed run.books.items seats (channels_of handed.from) tables) seats-are
          (subst (λ (channels : List (List ChannelValue)).
          AreClosed run.books.items (lists_of h.seats.items) channels tables)
          (lent_are ∙ channels-are) closed)

      -- and the threads have run as it is asked of a run
      pub handed-ran : HaveAllRun account_in IsAtBooks run.shared handed.from
      handed-ran = all-run run is handed.from handed.done tables from-closed

      module _ (journal : Journal) (known : All (IsKnown (script_of run.shared)) journal.ops)
          (whole : IsWholeFor run.shared.common h.threads.items journal.ops) where
        -- they have ended where the history is whole for them
        pub handed-ended : HaveAllEnded account_in IsAtBooks run.shared handed.from journal.ops
        handed-ended = record {
          run = handed-ran;
          known = known;
          ended = has-ended account_in IsAtBooks run.shared handed.from handed-ran journal.ops
              (subst (λ (ts : List Thread). IsWholeFor run.shared.common ts journal.ops)
              handed.parts.threads whole);
        }

        -- and what they have taken is what the plain meaning gives
        pub handed-taken : journal.threads ≡ h.notes → (seat : RowSeat NodeSort)
            → All (KnowsNodesOf seat) h.threads.items
            → NamesAreApart run.context.attributes (script_of run.shared)
            → ((channel : Channel) → Contains (script_of run.shared).channels channel
            → KeepsLimits (script_of run.shared) journal channel)
            → (left : List (List ChannelValue))
            → left ≡ map (map emptied) lent
            → IsTaken (script_of run.shared) run.shared.common.tree seat run.context
            (snapshots (script_of run.shared) journal) left tables
        handed-taken noted seat knows apart limits left left_are =
            subst (λ (channels : List (List ChannelValue)).
            IsTaken (script_of run.shared) run.shared.common.tree seat run.context
            (snapshots (script_of run.shared) journal) channels tables)
            (sym (left_are ∙ ap (map (map emptied)) (lent_are ∙ channels-are)))
            (run-taken account_in IsAtBooks run is handed.from
            (by-run run is handed.from handed.done) journal handed-ended
            (noted ∙ handed.parts.notes) seat
            (subst (λ (ts : List Thread). All (KnowsNodesOf seat) ts) handed.parts.threads knows)
            tables (all-counted run is handed.from handed.done tables from-closed) apart limits)
