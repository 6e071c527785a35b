-- A thread that has met a line, and only reads the tree since, has met it so still.
use Rattle.std.proofs.Common.{◌≡◌, ℕ, ◌+◌, ◌<◌, List, [], ◌∷◌, ◌++◌, sym, ap, ◌∙◌, subst, arith}
use Rattle.std.specs.Prelude.{Option}
use Rattle.cal_once.specs.Layout.{times}
use Rattle.cal_once.specs.Seats.{view}
use Rattle.cal_once.specs.declared.view.View.{View}
use Rattle.cal_plog.specs.History.{HasOp, KnowsBelow, OwnBefore}
use Rattle.cal_plog.specs.Seats.{slots_of}
use Rattle.cal_process.specs.Operations.{history_of}
use Rattle.cal_process.specs.Replicas.{AddsWords}
use Rattle.cal_process.specs.Takings.{KeepsLooks}
use Rattle.cal_process.specs.declared.common.Common.{Common}
use Rattle.cal_replay.proofs.ShowingLemmas.{reads-uses, thread-reads}
use Rattle.cal_replay.specs.Showing.{OnlyReads}
use Rattle.cal_run.specs.Steps.{ThreadState, looks}
use Rattle.cal_script.specs.declared.journal.Reply.{Reply}
use Rattle.cal_script.specs.declared.script.Line.{Line}
use Rattle.cal_thread.specs.Lines.{Looks, MeetsOwn, MeetsShared}
use Rattle.cal_thread.specs.Threads.{HasPlaced, HasState}
use Rattle.cal_thread.specs.declared.looking.Met.{Met}
use Rattle.cal_thread.specs.declared.thread.Thread.{Thread}
use Rattle.cal_words.specs.declared.op.OpRec.{OpRec}
use Rattle.cal_words.specs.declared.sort.NodeSort.{NodeSort}

-- it has the number that it had
pub number-reads : (old new : Thread) → OnlyReads old new → new.number ≡ old.number
number-reads old new reads = ap (λ (t : Thread). t.number) reads.same

-- within a process line it has placed what it had
pub placed-reads : (common : Common) (old new : Thread) (op : OpRec) (h : List OpRec)
    (state : ThreadState) → OnlyReads old new → HasState common new h state
    → HasPlaced common old op h state → HasPlaced common new op h state
placed-reads common old new op h state reads has w = record {
  has = has;
  there = subst (λ (t : Thread). HasOp (slots_of common.log) (view t.process.log) t.process.seen
      op) (sym reads.same) w.there;
  up_to = subst (λ (t : Thread). KnowsBelow (slots_of common.log) (view t.process.log)
      (t.process.seen + 1)) (sym reads.same) w.up_to;
  own = subst (λ (t : Thread). OwnBefore (slots_of common.log) (view t.process.log) (op.line + 1))
      (sym reads.same) w.own;
  below = subst (λ (t : Thread). (place : ℕ) → 0 < times place (view t.process.log).published
      → place < t.process.seen + 1) (sym reads.same) w.below;
  uses = reads-uses common old new h op.line reads w.uses;
}

module _ (common : Common) (old mid new : Thread) (l : Line) (h : List OpRec)
    (state : ThreadState) (reads : OnlyReads mid new)
    (stays : (g : List OpRec) (s : ThreadState) → HasState common mid g s
    → HasState common new g s) where
  -- it uses no words
  no-words : (words : ℕ) → AddsWords common old.tree mid.tree words
      → AddsWords common old.tree new.tree words
  no-words words adds =
      let same : (view new.tree).used ≡ (view mid.tree).used =
      ap (λ (v : View NodeSort). v.used) reads.learns.same in
      omega (arith, same, adds)

  -- a line that is its thread's own
  pub own-read : (met : Met) (done : ℕ) → MeetsOwn common old mid l met done h state
      → MeetsOwn common old new l met done h state
  own-read met done m = record {
    ops = m.ops;
    kept = thread-reads common mid new done (h ++ m.ops) state reads
        (stays (h ++ m.ops) state m.kept.has) m.kept;
    found = m.found;
    accepted = m.accepted;
    sees = λ note. subst (λ (t : Thread). Looks common old.process t.process m.ops
        (looks common.script.now (history_of (h ++ m.ops)) l note state)) (sym reads.same)
        (m.sees note);
    words = no-words _ m.words;
  }

  -- a process line
  pub shared-read : (op : OpRec) (reply : Option Reply)
      → MeetsShared common old mid l op reply h state
      → MeetsShared common old new l op reply h state
  shared-read op reply m = record {
    ops = m.ops;
    placed = placed-reads common mid new op (h ++ m.ops) state reads
        (stays (h ++ m.ops) state m.placed.has) m.placed;
    found = λ more note is. m.found more note
        (is ∙ ap (λ (t : Thread). t.process.seen + 1) reads.same);
    published = subst (λ (t : Thread). (view t.process.log).published
        ≡ (view old.process.log).published ++ t.process.seen ∷ []) (sym reads.same) m.published;
    looks = subst (λ (t : Thread). KeepsLooks old.process t.process) (sym reads.same) m.looks;
    used = subst (λ (t : Thread). (view t.process.log).used ≡ (view old.process.log).used + 7)
        (sym reads.same) m.used;
    words = no-words _ m.words;
  }
