-- A runner behind a step: what it keeps, and what stays.
use Rattle.std.proofs.Common.{◌≡◌, ℕ, ◌+◌, ◌<◌, List, ◌∷◌, [], ◌++◌, length, get_or, ⊎_elim}
use Rattle.std.proofs.Common.{Bool, true, false, ap, ◌∙◌, sym, subst, refl, arith}
use Rattle.std.specs.Prelude.{Option, Some, nat_lt, slice_get}
use Rattle.std.proofs.lemmas.Bool.{ltb-false, ltb-true}
use Rattle.std.proofs.lemmas.List.{take_all}
use Rattle.std.proofs.lemmas.Option.{slice_get-get_or, slice_get_within}
use Rattle.cal_channel.specs.Values.{ChannelValue, with_table}
use Rattle.cal_keeping.proofs.KeptLines.{kept-flushed, kept-left}
use Rattle.cal_keeping.proofs.KeptPlaces.{IsLeft, IsTurned, places-after}
use Rattle.cal_keeping.specs.Hands.{AccountOf}
use Rattle.cal_keeping.specs.Kept.{AreReady, AreToldOf, IsFlushedAt}
use Rattle.cal_keeping.specs.Runners.{HasKept, IsRunner, SameServices, StepsOn, lines_left}
use Rattle.cal_keeping.specs.declared.channels.Channels.{Channels}
use Rattle.cal_keeping.specs.declared.runner.Runner.{Runner}
use Rattle.cal_notes.specs.Running.{with_line}
use Rattle.cal_once.specs.declared.seat.RowSeat.{RowSeat}
use Rattle.cal_process.specs.declared.common.Common.{Common}
use Rattle.cal_replay.proofs.ManyLines.{one-more}
use Rattle.cal_replay.proofs.NotedLines.{lines-more}
use Rattle.cal_replay.specs.Channels.{HasShown, HasShownLines}
use Rattle.cal_replay.specs.Showing.{IsShown}
use Rattle.cal_replay.specs.Steps.{Flushes, RunsLine}
use Rattle.cal_replay.specs.Workers.{IsWorker, lines_done, lines_of, script_of}
use Rattle.cal_replay.specs.declared.shared.Shared.{Shared}
use Rattle.cal_replay.specs.declared.showing.ShownLine.{ShownLine}
use Rattle.cal_replay.specs.declared.worker.Worker.{Worker}
use Rattle.cal_run.specs.Lines.{line_at}
use Rattle.cal_run.specs.Numbers.{AreNamed}
use Rattle.cal_run.specs.declared.numbers.Numbers.{Numbers}
use Rattle.cal_script.specs.declared.journal.LineNote.{LineNote}
use Rattle.cal_script.specs.declared.journal.Reply as replies
use Rattle.cal_script.specs.declared.script.Channel.{Channel}
use Rattle.cal_script.specs.declared.script.Line as lines
use Rattle.cal_script.specs.declared.script.Line.TheVariants as line
use Rattle.cal_script.specs.declared.script.Script.{Script}
use Rattle.cal_table.specs.Tables.{TableValue, empty_table}
use Rattle.cal_table.specs.declared.shape.TableShape.{TableShape}
use Rattle.cal_thread.specs.declared.thread.Thread.{Thread}
use Rattle.cal_value.specs.declared.attribute.Attribute.{Attribute}
use Rattle.cal_value.specs.declared.record.Rec.{Rec}
use Rattle.cal_words.specs.declared.op.OpRec.{OpRec}
use Rattle.cal_words.specs.declared.sort.NodeSort.{NodeSort}

-- what the laws of `cal_replay` say: of a line that a step told, and of a part that was merged
abbrev pub ToldLaw : Type 0
ToldLaw = (shared : Shared) (attributes : List Attribute) (numbers : Numbers)
    (at : Thread) (told : ShownLine) (old new : Worker) (l : lines.Line) (note : LineNote)
    (h : List OpRec) (channel : Channel) (was is : ChannelValue) (given : List TableValue)
    → line_at (script_of shared) old.thread.number (length old.note.lines + 1) ≡ Some l
    → new.note ≡ with_line old.note note → new.thread.number ≡ old.thread.number
    → told.line ≡ l → IsWorker shared old h → (r : RunsLine shared at told old new l note h)
    → AreNamed attributes (script_of shared) numbers
    → IsShown shared.common numbers at told channel was is
    → HasShownLines shared.common attributes old.thread.tree h
    (lines_done (script_of shared) old) old.note channel was given
    → HasShownLines shared.common attributes new.thread.tree (h ++ r.ops)
    (lines_done (script_of shared) new) new.note channel is given

abbrev pub MergedLaw : Type 0
MergedLaw = (common : Common) (attributes : List Attribute) (seat : RowSeat NodeSort)
    (c : ChannelValue) (part : TableValue) (given : List TableValue) (all : List Rec)
    (last : ℕ) → c.table ≡ Some part → HasShown common attributes seat c given all last
    → HasShown common attributes seat (with_table c (empty_table part.shape))
    (given ++ part ∷ []) all last

-- ---- whether lines remain

module _ (script : Script) (w : Worker) (more : Bool)
    (is : more ≡ nat_lt (length w.note.lines) (length (lines_of script w.thread.number))) where
  pub lines-remain : more ≡ true
      → length w.note.lines < length (lines_of script w.thread.number)
  lines-remain there = ltb-true (length w.note.lines) (length (lines_of script w.thread.number))
      (sym is ∙ there)

  pub all-done : more ≡ false → lines_done script w ≡ lines_of script w.thread.number
  all-done none = take_all (length w.note.lines) (lines_of script w.thread.number)
      (ltb-false (length w.note.lines) (length (lines_of script w.thread.number)) (sym is ∙ none))

-- ---- what stays

module _ {P H : Type 0} (stays : H → H → Type 0) (same : (hand : H) → stays hand hand) where
  left-same : (had has : Channels P H) → has ≡ had → SameServices stays had has
  left-same had has left = record {
    thread = λ i. (left i).thread;
    numbers = λ i. (left i).numbers;
    hand = subst (λ (k : Channels P H). stays had.hand k.hand) (sym left) (same had.hand);
    probes = λ i. (left i).probes;
  }

  told-same : (common : Common) (had has : Channels P H) (at : Thread) (told : ShownLine)
      → AreToldOf common had has at told → SameServices stays had has
  told-same common had has at told t = record {
    thread = λ i. (t.same i).thread;
    numbers = λ i. (t.same i).numbers;
    hand = subst (λ (k : Channels P H). stays had.hand k.hand) (sym t.same) (same had.hand);
    probes = λ i. (t.same i).probes;
  }

  flushes-same : (account : H → ℕ → AccountOf) (had has : Channels P H) (l : lines.Line)
      (answer : replies.Reply) → Flushes (IsFlushedAt account stays) had has l answer
      → SameServices stays had has
  flushes-same account had has (line.Begin a v) answer left = left-same had has left
  flushes-same account had has (line.End a) answer left = left-same had has left
  flushes-same account had has (line.Set a v) answer left = left-same had has left
  flushes-same account had has line.Snapshot answer left = left-same had has left
  flushes-same account had has (line.Flush k) answer f = record {
    thread = λ i. (f.same i).thread;
    numbers = λ i. (f.same i).numbers;
    hand = f.hand;
    probes = λ i. (f.same i).probes;
  }
  flushes-same account had has (line.Tick t) answer left = left-same had has left

  pub same-already : (a : Channels P H) → SameServices stays a a
  same-already a = record { thread = refl; numbers = refl; hand = same a.hand; probes = refl }

  module _ (later : (a b c : H) → stays a b → stays b c → stays a c) where
    pub same-then : (a b c : Channels P H) → SameServices stays a b → SameServices stays b c
        → SameServices stays a c
    same-then a b c p q = record {
      thread = q.thread ∙ p.thread;
      numbers = q.numbers ∙ p.numbers;
      hand = later a.hand b.hand c.hand p.hand q.hand;
      probes = q.probes ∙ p.probes;
    }

    pub step-same : {K : Type 0} (given : K → Option (List ℕ)) (account : H → ℕ → AccountOf)
        (shared : Shared) (was is : K) (old new : Runner P H)
        → StepsOn account stays shared given was is old new
        → SameServices stays old.channels new.channels
    step-same given account shared was is old new s =
        same-then old.channels s.tells.between new.channels
        (told-same shared.common old.channels s.tells.between s.tells.at s.tells.told s.tells.shown)
        (flushes-same account s.tells.between new.channels s.ran s.note.reply s.tells.flushes)

module _ {K P H : Type 0} (given : K → Option (List ℕ)) (account : H → ℕ → AccountOf)
    (stays : H → H → Type 0) (shared : Shared) (was is : K) (old new : Runner P H)
    (s : StepsOn account stays shared given was is old new) where
  abbrev script : Script
  script = script_of shared

  abbrev between : Channels P H
  between = s.tells.between

  -- ---- how many lines are left

  pub one-less : length old.worker.note.lines
      < length (lines_of script old.worker.thread.number)
      → lines_left shared old.worker ≡ lines_left shared new.worker + 1
  one-less below =
      let one = one-more given AreToldOf (IsFlushedAt account stays) shared old.worker old.worker
      new.worker was was is old.channels new.channels s in
      let same = ap (λ (n : ℕ). length (lines_of script n)) s.number in
      omega (arith, below, one, same)

  -- ---- what it keeps

  module _ (takes : H → ℕ → List TableShape → Type 0) (told-law : ToldLaw)
      (merged-law : MergedLaw) (h : List OpRec) (r : IsRunner account takes shared old h)
      (services : SameServices stays old.channels new.channels) where
    abbrev ran : RunsLine shared s.tells.at s.tells.told old.worker new.worker s.ran s.note h
    ran = s.runs h r.worker

    abbrev all : List OpRec
    all = h ++ ran.ops

    module _ (attributes : List Attribute)
        (named : AreNamed attributes script new.channels.numbers.now) (place : ℕ)
        (channel : Channel) (at : slice_get script.channels place ≡ Some channel) where
      named-old : AreNamed attributes script old.channels.numbers.now
      named-old = subst (λ (n : Numbers). AreNamed attributes script n)
          (λ i. (services.numbers i).now) named

      -- what was done for the channel, also between the line and its flush
      abbrev done : AccountOf
      done = account between.hand place

      -- between the line and its flush
      module _ (mid : ChannelValue)
          (channel_at : slice_get between.channels.items place ≡ Some mid) where
        abbrev before : ChannelValue
        before = get_or old.channels.channels.items place mid

        before-at : slice_get old.channels.channels.items place ≡ Some before
        before-at = slice_get-get_or old.channels.channels.items place mid
            (let within = slice_get_within between.channels.items place mid channel_at in
            let many = s.tells.shown.shown.many in omega (arith, within, many))

        kept-before : HasKept shared attributes old.worker h place channel before done
        kept-before = subst (λ (k : Channels P H). HasKept shared attributes old.worker h place
            channel before (account k.hand place)) (sym s.tells.shown.same)
            (r.kept attributes named-old place channel before at before-at)

        shown-between : HasShownLines shared.common attributes new.worker.thread.tree all
            (lines_done script new.worker) new.worker.note channel mid done.given
        shown-between = told-law shared attributes old.channels.numbers.now s.tells.at s.tells.told
            old.worker new.worker s.ran s.note h channel before mid done.given
            s.next s.noted s.number s.tells.line_is r.worker ran named-old
            (s.tells.shown.shown.each place channel before mid at before-at channel_at)
            kept-before.shown

      lines-are : lines_done script new.worker ≡ lines_done script old.worker ++ s.ran ∷ []
      lines-are = lines-more script old.worker new.worker s.ran s.note s.next s.noted s.number

      kept-if-left : (c : ChannelValue) (behind : AccountOf)
          → IsLeft account between s.ran place c behind
          → HasKept shared attributes new.worker all place channel c behind
      kept-if-left c behind t =
          subst (HasKept shared attributes new.worker all place channel c) (sym t.same)
          (kept-left shared attributes old.worker new.worker h all s.ran s.note place channel
          r.worker.noted.rules.long lines-are s.noted (before c t.channel_at) c done
          (kept-before c t.channel_at) t.other (shown-between c t.channel_at))

      kept-if-turned : (c : ChannelValue) (behind : AccountOf)
          → IsTurned account between s.ran place c behind s.note.reply
          → HasKept shared attributes new.worker all place channel c behind
      kept-if-turned c behind t =
          let shown = shown-between t.was t.channel_at in
          kept-flushed shared attributes old.worker new.worker h all s.ran s.note
          place channel r.worker.noted.rules.long lines-are s.noted
          (before t.was t.channel_at) t.was done (kept-before t.was t.channel_at) between.thread
          t.part c behind s.note.reply t.here refl t.handed shown
          (merged-law shared.common attributes new.worker.thread.tree t.was t.part done.given _ _
          t.part_is shown)

      pub kept-behind : (c : ChannelValue)
          → slice_get new.channels.channels.items place ≡ Some c
          → HasKept shared attributes new.worker all place channel c
          (account new.channels.hand place)
      kept-behind c channel_at =
          let behind = account new.channels.hand place in
          ⊎_elim (kept-if-left c behind) (kept-if-turned c behind)
          (places-after account stays between new.channels place c channel_at s.ran s.note.reply
          s.tells.flushes)

    pub runner-behind : new.channels.thread ≡ old.channels.thread
        → AreReady account takes script new.channels shared.timers.some
        (lines_left shared new.worker)
        → IsRunner account takes shared new all
    runner-behind thread ready = record {
      worker = ran.kept;
      kept = λ attributes named place channel c at channel_at.
          kept-behind attributes named place channel at c channel_at;
      thread = thread ∙ r.thread ∙ sym s.number;
      ready = ready;
    }
