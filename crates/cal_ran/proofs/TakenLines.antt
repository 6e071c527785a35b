-- What one thread has taken in a channel, as the first seat at the tree knows it in the end.
use Rattle.std.proofs.Common.{◌≡◌, ℕ, List, [], sym, ap, ◌∙◌, subst, arith}
use Rattle.std.specs.Prelude.{Some, IfSome, is_some, option_map, slice_get}
use Rattle.std.specs.List.{All}
use Rattle.std.proofs.lemmas.Option.{get_or_from_slice_get, slice_get-map, slice_get_within}
use Rattle.cal_channel.specs.Values.{ChannelValue}
use Rattle.cal_finish.proofs.LawfulRuns.{at-below}
use Rattle.cal_finish.specs.Ended.{HaveAllEnded, HasEnded, threads_of}
use Rattle.cal_finish.specs.Threads.{KnowsNodesOf}
use Rattle.cal_keeping.specs.Hands.{AccountOf}
use Rattle.cal_keeping.specs.declared.runner.Runner.{Runner}
use Rattle.cal_notes.proofs.Taken.{taken-same}
use Rattle.cal_notes.specs.Running.{previous_behind}
use Rattle.cal_once.specs.declared.seat.RowSeat.{RowSeat}
use Rattle.cal_process.specs.Operations.{history_of}
use Rattle.cal_process.specs.declared.common.Common.{Common}
use Rattle.cal_replay.specs.Channels.{HasShown}
use Rattle.cal_replay.specs.Workers.{lines_done, script_of}
use Rattle.cal_run.specs.Numbers.{AreNamed}
use Rattle.cal_run.specs.Runs.{taken_by_thread}
use Rattle.cal_run.specs.declared.numbers.Numbers.{Numbers}
use Rattle.cal_script.specs.declared.journal.Placed.{Placed}
use Rattle.cal_script.specs.declared.script.Channel.{Channel}
use Rattle.cal_script.specs.declared.script.Line.{Line}
use Rattle.cal_script.specs.declared.script.Script.{Script}
use Rattle.cal_start.specs.Runs.{IsRun}
use Rattle.cal_start.specs.declared.run.Run.{Run}
use Rattle.cal_table.specs.Tables.{TableValue}
use Rattle.cal_table.specs.declared.shape.TableShape.{TableShape}
use Rattle.cal_value.specs.declared.attribute.Attribute.{Attribute}
use Rattle.cal_value.specs.declared.record.Rec.{Rec}
use Rattle.cal_words.specs.declared.sort.NodeSort.{NodeSort}

-- A thread that ran these lines has a channel at the place, and has taken there what the plain
-- meaning gives by the whole history. The first seat knows what the thread's own knew.
pub record HasTakenLines {P H : Type 0} (account : H → ℕ → AccountOf) (attributes : List Attribute)
    (common : Common) (seat : RowSeat NodeSort) (history : List Placed) (place : ℕ)
    (channel : Channel) (shape : TableShape) (ls : List Line) (r : Runner P H) : Type 0 where
  pub c : ChannelValue
  pub last : ℕ
  pub channel_at : slice_get r.channels.channels.items place ≡ Some c
  pub traces : is_some c.trace ≡ channel.trace
  pub aggregates : is_some c.table ≡ channel.aggregate
  pub made : IfSome c.table (λ (t : TableValue). t.shape ≡ shape)
  pub knows : KnowsNodesOf seat r.worker.thread
  pub shown : HasShown common attributes r.worker.thread.tree c
      (account r.channels.hand place).given
      (taken_by_thread common.script.now history channel (ls, r.worker.note)) last

-- Threads have the run's numbers, and their hands take tables of the run's shapes.
pub record GoByRun {P H : Type 0} (takes : H → ℕ → List TableShape → Type 0) (run : Run)
    (runners : List (Runner P H)) : Type 0 where
  pub numbers : (thread : ℕ) (r : Runner P H) → slice_get runners thread ≡ Some r
      → r.channels.numbers.now ≡ run.numbers
  pub shapes : (thread : ℕ) (r : Runner P H) → slice_get runners thread ≡ Some r
      → (shapes : List TableShape) → takes r.channels.hand r.channels.thread shapes
      → shapes ≡ run.shapes.items

module _ {P H : Type 0} (account : H → ℕ → AccountOf)
    (takes : H → ℕ → List TableShape → Type 0) (run : Run) where
  -- What a thread has taken of its lines by what it has seen of the history it has taken by the
  -- whole of it.
  taken-whole : (history : List Placed) (thread : ℕ) (r : Runner P H)
      (end : HasEnded account takes run.shared history thread r) (channel : Channel)
      (ls : List Line) → slice_get (script_of run.shared).threads thread ≡ Some ls
      → taken_by_thread (script_of run.shared) (history_of end.run.h) channel
      (lines_done (script_of run.shared) r.worker, r.worker.note)
      ≡ taken_by_thread (script_of run.shared) history channel (ls, r.worker.note)
  taken-whole history thread r end channel ls at =
      let script : Script = script_of run.shared in
      let known : List Placed = history_of end.run.h in
      let done : List Line = lines_done script r.worker in
      sym (taken-same script run.shared.real known end.begins.more r.worker.thread.number done
      r.worker.note channel end.run.is.worker.noted.rules)
      ∙ ap (λ (h : List Placed). taken_by_thread script h channel (done, r.worker.note))
      (sym end.begins.whole)
      ∙ ap (λ (l : List Line). taken_by_thread script history channel (l, r.worker.note))
      (end.run.all ∙ get_or_from_slice_get script.threads thread ls [] at)

  module _ (is : IsRun run) (runners : List (Runner P H)) (by_run : GoByRun takes run runners)
      (history : List Placed) (ended : HaveAllEnded account takes run.shared runners history)
      (seat : RowSeat NodeSort) (knows : All (KnowsNodesOf seat) (threads_of runners)) where
    -- the first seat knows what that of a thread knew
    knows-own : (thread : ℕ) (r : Runner P H) → slice_get runners thread ≡ Some r
        → KnowsNodesOf seat r.worker.thread
    knows-own thread r at =
        let there : slice_get (threads_of runners) thread ≡ Some r.worker.thread =
        slice_get-map (λ (x : Runner P H). x.worker.thread) runners thread
        ∙ ap (option_map (λ (x : Runner P H). x.worker.thread)) at in
        subst (KnowsNodesOf seat)
        (get_or_from_slice_get (threads_of runners) thread r.worker.thread r.worker.thread there)
        (knows thread r.worker.thread
        (slice_get_within (threads_of runners) thread r.worker.thread there))

    -- the attributes of the run are named by a thread's numbers
    named : (thread : ℕ) (r : Runner P H) → slice_get runners thread ≡ Some r
        → AreNamed run.context.attributes (script_of run.shared) r.channels.numbers.now
    named thread r at =
        subst (λ (ns : Numbers). AreNamed run.context.attributes (script_of run.shared) ns)
        (sym (by_run.numbers thread r at)) is.numbered.named

    -- a thread has taken its lines in the channel at a place
    pub taken-lines : (place : ℕ) (channel : Channel) (shape : TableShape)
        → slice_get (script_of run.shared).channels place ≡ Some channel
        → slice_get run.shapes.items place ≡ Some shape
        → (thread : ℕ) (ls : List Line) (r : Runner P H)
        → slice_get (script_of run.shared).threads thread ≡ Some ls
        → slice_get runners thread ≡ Some r
        → HasTakenLines account run.context.attributes run.shared.common seat history place channel
        shape ls r
    taken-lines place channel shape at_channel at_shape thread ls r at_lines at =
        let end = ended.ended thread r at in
        let ready = end.run.is.ready in
        let within = slice_get_within (script_of run.shared).channels place channel at_channel in
        let many = ready.many in
        let c = at-below r.channels.channels.items place (omega (arith, within, many)) in
        let own_shape : slice_get ready.shapes place ≡ Some shape =
        ap (λ (shapes : List TableShape). slice_get shapes place)
        (by_run.shapes thread r at ready.shapes ready.takes_them) ∙ at_shape in
        let each = ready.each place channel shape c.item at_channel own_shape c.there in
        let kept = end.run.is.kept run.context.attributes (named thread r at) place channel c.item
        at_channel c.there in
        let last : ℕ = previous_behind (script_of run.shared) (history_of end.run.h) channel
        (lines_done (script_of run.shared) r.worker) r.worker.note in
        record {
          c = c.item;
          last = last;
          channel_at = c.there;
          traces = each.traces;
          aggregates = each.aggregates;
          made = each.made;
          knows = knows-own thread r at;
          shown = subst (λ (recs : List Rec).
              HasShown run.shared.common run.context.attributes r.worker.thread.tree c.item
              (account r.channels.hand place).given recs last)
              (taken-whole history thread r end channel ls at_lines) kept.shown;
        }
