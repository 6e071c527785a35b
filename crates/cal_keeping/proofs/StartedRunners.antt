-- A runner that was started: nothing is taken, nothing flushed.
use Rattle.std.proofs.Common.{◌≡◌, ℕ, List, [], Bool, length, map, take}
use Rattle.std.proofs.Common.{◌-◌, ap, ◌∙◌, sym, subst, arith}
use Rattle.std.specs.Prelude.{Option, Some, slice_get, unwrap_or}
use Rattle.std.proofs.lemmas.List.{length-map}
use Rattle.cal_book.proofs.Lists.{at_map}
use Rattle.cal_channel.specs.Values.{ChannelValue, new_channel, started_at}
use Rattle.cal_keeping.specs.Hands.{AccountOf}
use Rattle.cal_keeping.specs.Kept.{AreReady, IsFresh, IsReady}
use Rattle.cal_keeping.specs.Runners.{HasKept, IsHiredRunner, IsRunner, SameServices}
use Rattle.cal_keeping.specs.Runners.{lines_left}
use Rattle.cal_keeping.specs.declared.channels.Channels.{Channels}
use Rattle.cal_keeping.specs.declared.runner.Runner.{Runner}
use Rattle.cal_notes.specs.Together.{HasFlushed}
use Rattle.cal_once.specs.declared.seat.RowSeat.{RowSeat}
use Rattle.cal_process.specs.declared.common.Common.{Common}
use Rattle.cal_replay.specs.Channels.{HasShownLines}
use Rattle.cal_replay.specs.Workers.{IsWorker, lines_done, lines_of, script_of}
use Rattle.cal_replay.specs.declared.shared.Shared.{Shared}
use Rattle.cal_replay.specs.declared.worker.Worker.{Worker}
use Rattle.cal_run.specs.Numbers.{AreNamedInSome}
use Rattle.cal_script.specs.declared.journal.LineNote.{LineNote}
use Rattle.cal_script.specs.declared.journal.Reply as replies
use Rattle.cal_script.specs.declared.journal.Reply.TheVariants as reply
use Rattle.cal_script.specs.declared.journal.ThreadNote.{ThreadNote}
use Rattle.cal_script.specs.declared.script.Channel.{Channel}
use Rattle.cal_script.specs.declared.script.Line.{Line}
use Rattle.cal_script.specs.declared.script.Script.{Script}
use Rattle.cal_table.specs.Tables.{TableValue}
use Rattle.cal_table.specs.declared.shape.TableShape.{TableShape}
use Rattle.cal_thread.specs.declared.thread.Thread.{Thread}
use Rattle.cal_value.specs.declared.attribute.Attribute.{Attribute}
use Rattle.cal_words.specs.declared.sort.NodeSort.{NodeSort}

-- what the law of the start says, of `cal_replay`
abbrev pub StartLaw : Type 0
StartLaw = (common : Common) (attributes : List Attribute) (seat : RowSeat NodeSort)
    (note : ThreadNote) (channel : Channel) (has_trace : Bool) (shape : Option TableShape)
    → HasShownLines common attributes seat [] [] note channel
    (started_at (new_channel has_trace shape) (unwrap_or note.start 0)) []

-- no line is done where none is noted
pub none-done : (script : Script) (w : Worker) → w.note.lines ≡ [] → lines_done script w ≡ []
none-done script w none =
    ap (λ (ns : List LineNote). take (length ns) (lines_of script w.thread.number)) none

pub started-same : {P H : Type 0} (stays : H → H → Type 0) (same : (hand : H) → stays hand hand)
    (old new : Channels P H) → new ≡ record old { channels = new.channels }
    → SameServices stays old new
started-same {P = P} {H = H} stays same old new started = record {
  thread = λ i. (started i).thread;
  numbers = λ i. (started i).numbers;
  hand = subst (λ (k : Channels P H). stays old.hand k.hand) (sym started) (same old.hand);
  probes = λ i. (started i).probes;
}

module _ {P H : Type 0} (account : H → ℕ → AccountOf) (takes : H → ℕ → List TableShape → Type 0)
    (shared : Shared) (old new : Runner P H) (reading : ℕ) (law : StartLaw)
    (hired : IsHiredRunner account takes shared old)
    (worker : IsWorker shared new.worker [])
    (noted : new.worker.note.lines ≡ [])
    (thread : new.worker.thread ≡ old.worker.thread)
    (reading_is : reading ≡ unwrap_or new.worker.note.start 0)
    (started : new.channels.channels.items
    ≡ map (λ (c : ChannelValue). started_at c reading) old.channels.channels.items)
    (same : new.channels ≡ record old.channels { channels = new.channels.channels }) where
  abbrev script : Script
  script = script_of shared

  abbrev done : List Line
  done = lines_done script new.worker

  done-none : done ≡ []
  done-none = none-done script new.worker noted

  -- ---- each channel

  module _ (place : ℕ) (c : ChannelValue)
      (channel_at : slice_get new.channels.channels.items place ≡ Some c) where
    abbrev done-for : AccountOf
    done-for = account new.channels.hand place

    was : (b : ChannelValue) × (slice_get old.channels.channels.items place ≡ Some b)
        × (started_at b reading ≡ c)
    was = at_map (λ (b : ChannelValue). started_at b reading) old.channels.channels.items place c
        (subst (λ (cs : List ChannelValue). slice_get cs place ≡ Some c) started channel_at)

    account-same : done-for ≡ account old.channels.hand place
    account-same = ap (λ (k : Channels P H). account k.hand place) same

    module _ (channel : Channel) (at : slice_get script.channels place ≡ Some channel) where
      fresh : IsFresh channel was.0 (account old.channels.hand place)
      fresh = hired.fresh place channel was.0 at was.1

      channel-is : started_at (new_channel channel.trace fresh.shape)
          (unwrap_or new.worker.note.start 0) ≡ c
      channel-is = ap (started_at (new_channel channel.trace fresh.shape)) (sym reading_is)
          ∙ ap (λ (b : ChannelValue). started_at b reading) (sym fresh.made) ∙ was.2

      nothing-given : done-for.given ≡ []
      nothing-given = ap (λ (a : AccountOf). a.given) (account-same ∙ fresh.nothing)

      nothing-flushed : (answer : replies.Reply) → HasFlushed place answer done new.worker.note → ⊥
      nothing-flushed answer f =
          let g = subst (λ (ls : List Line). HasFlushed place answer ls new.worker.note) done-none f
          in omega (arith, g.2)

      shown : (attributes : List Attribute) → HasShownLines shared.common attributes
          new.worker.thread.tree [] done new.worker.note channel c done-for.given
      shown attributes =
          let common = shared.common in
          let tree = new.worker.thread.tree in
          let note = new.worker.note in
          subst (λ (ls : List Line). HasShownLines common attributes tree [] ls note channel c
          done-for.given) (sym done-none)
          (subst (λ (ts : List TableValue). HasShownLines common attributes tree [] [] note channel
          c ts) (sym nothing-given)
          (subst (λ (b : ChannelValue). HasShownLines common attributes tree [] [] note channel b
          []) channel-is (law common attributes tree note channel channel.trace fresh.shape)))

      kept : (attributes : List Attribute)
          → HasKept shared attributes new.worker [] place channel c done-for
      kept attributes = record {
        shown = shown attributes;
        busy = λ holder f. absurd (nothing-flushed (reply.Busy holder) f);
        merged = λ some.
            let none = ap (λ (ts : List TableValue). length ts) nothing-given in
            absurd (omega (arith, some, none));
        turns = ap (λ (a : AccountOf). a.given_up) (account-same ∙ fresh.nothing);
      }

      ready-each : (left : ℕ) (shape : TableShape)
          → (r : AreReady account takes script old.channels shared.timers.some left)
          → slice_get r.shapes place ≡ Some shape → IsReady left channel shape c done-for
      ready-each left shape r shape_at =
          let ready = r.each place channel shape was.0 at shape_at was.1 in
          subst (IsReady left channel shape c) (sym account-same)
          (subst (λ (b : ChannelValue). IsReady left channel shape b
          (account old.channels.hand place)) was.2 (record {
            traces = ready.traces;
            aggregates = ready.aggregates;
            made = ready.made;
            few = ready.few;
          }))

  -- ---- all of them

  left-same : lines_left shared old.worker ≡ lines_left shared new.worker
  left-same =
      let none = ap (λ (n : ThreadNote). n.lines) hired.worker.noted in
      ap (λ (t : Thread). length (lines_of script t.number) - length old.worker.note.lines)
      (sym thread)
      ∙ ap (λ (ns : List LineNote). length (lines_of script new.worker.thread.number) - length ns)
      (none ∙ sym noted)

  are-ready : (left : ℕ)
      → AreReady account takes script old.channels shared.timers.some left
      → AreReady account takes script new.channels shared.timers.some left
  are-ready left r = record {
    named = subst (λ (k : Channels P H). AreNamedInSome script k.numbers.now) (sym same) r.named;
    many = ap (λ (cs : List ChannelValue). length cs) started
        ∙ length-map old.channels.channels.items (λ (c : ChannelValue). started_at c reading)
        ∙ r.many;
    shapes = r.shapes;
    shaped = r.shaped;
    takes_them = subst (λ (k : Channels P H). takes k.hand k.thread r.shapes) (sym same)
        r.takes_them;
    timed_is = r.timed_is;
    each = λ place channel shape c at shape_at channel_at.
        ready-each place c channel_at channel at left shape r shape_at;
  }

  pub runner-started : IsRunner account takes shared new []
  runner-started = record {
    worker = worker;
    kept = λ attributes named place channel c at channel_at.
        kept place c channel_at channel at attributes;
    thread = ap (λ (k : Channels P H). k.thread) same ∙ hired.thread
        ∙ ap (λ (t : Thread). t.number) (sym thread);
    ready = subst (AreReady account takes script new.channels shared.timers.some) left-same
        (are-ready (lines_left shared old.worker) hired.ready);
  }
