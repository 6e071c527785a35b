-- The operations that a thread has seen make no more words than all process lines.
use Rattle.std.proofs.Common.{◌≡◌, ℕ, ◌+◌, ◌-◌, ◌<◌, ◌≤◌, List, [], ◌∷◌, ◌++◌, length, get_or}
use Rattle.std.proofs.Common.{Bool, false, if◌then◌else◌, refl, ap, ◌∙◌, subst, arith}
use Rattle.std.specs.Prelude.{Some, sum_by}
use Rattle.std.proofs.lemmas.List.Elements.{All-contains}
use Rattle.std.proofs.lemmas.List.Sums.{sum_by_push}
use Rattle.cal_once.specs.Sound.{IsSound}
use Rattle.cal_once.specs.Views.{Holds}
use Rattle.cal_once.specs.declared.view.View.{View}
use Rattle.cal_plog.proofs.Reading.{is_among}
use Rattle.cal_plog.specs.History.{HasSeen}
use Rattle.cal_plog.specs.Seats.{op_law, ops_of, plan_of, slots_of}
use Rattle.cal_process.specs.Operations as made
use Rattle.cal_process.specs.Operations.{IsOpOf, operation_in, words_made, words_of_ops}
use Rattle.cal_process.specs.declared.common.Common.{Common}
use Rattle.cal_process.proofs.Arenas.{one-of-line}
use Rattle.cal_process.proofs.Lines.{own-first, own-inside, shared-most, some-line}
use Rattle.cal_process.proofs.Slots.{no_op}
use Rattle.cal_process.proofs.Words.{sum-apart}
use Rattle.cal_process.specs.Replicas.{IsCommon}
use Rattle.cal_process.specs.Rooms.{HasRoomToDo, UsesAtMost}
use Rattle.cal_run.specs.Lines.{is_process_line, line_at, operation_of}
use Rattle.cal_run.specs.declared.operation.Operation.{Operation}
use Rattle.cal_script.specs.Shapes.{shared_words}
use Rattle.cal_script.specs.declared.script.Line as lines
use Rattle.cal_script.specs.declared.script.Line.TheVariants as line
use Rattle.cal_script.specs.declared.script.Script.{Script}
use Rattle.cal_words.specs.Words.{op_words}
use Rattle.cal_words.specs.declared.op.OpRec.{OpRec}
use Rattle.cal_words.specs.declared.sort.NodeSort.{NodeSort}
use Rattle.cal_words.specs.declared.sort.OpSort.{OpSort}

module _ (common : Common) (has : IsCommon common) (v : View OpSort)
    (sound : IsSound op_law (plan_of common.log) v) where
  abbrev script : Script
  script = common.script.now

  abbrev slots : ℕ
  slots = slots_of common.log

  module _ (h : List OpRec) (seen : HasSeen slots v h) where
    op-known : (i : ℕ) → i < length h → IsOpOf script (get_or h i no_op)
    op-known i less =
        All-contains (IsOpOf script) (ops_of common.log) (get_or h i no_op) has.ops
        (is_among (plan_of common.log) v sound i (get_or h i no_op) (seen i no_op less))

    -- operations at different places are of different lines
    lines-apart : (i k : ℕ) → i < k → k < length h
        → (get_or h i no_op).thread ≡ (get_or h k no_op).thread
        → (get_or h i no_op).line - 1 ≡ (get_or h k no_op).line - 1 → ⊥
    lines-apart i k less inside thread line_is =
        let before : i < length h = omega (arith, less, inside) in
        let a = op-known i before in
        let b = op-known k inside in
        let first = seen i no_op before in
        let second = seen k no_op inside in
        let number : (get_or h i no_op).line ≡ (get_or h k no_op).line =
        omega (
          arith,
          line_is,
          some-line script (get_or h i no_op) a,
          some-line script (get_or h k no_op) b,
        ) in
        let same = one-of-line script (get_or h i no_op) (get_or h k no_op) a b thread number in
        let place = sound.one_place i k (op_words (get_or h k no_op)) first.0 second.0
        (subst (λ (o : OpRec). Holds v i (op_words o)) same first.1) second.1 in
        omega (arith, place, less)

    pub seen-most : words_of_ops script h ≤ sum_by (sum_by (shared_words script)) script.threads
    seen-most =
        sum-apart (shared_words script) line.Snapshot refl
        (λ (op : OpRec). words_made script (operation_in op)) (λ (op : OpRec). op.thread)
        (λ (op : OpRec). op.line - 1) no_op h script.threads
        (λ i less. shared-most script has.runnable (get_or h i no_op) (op-known i less))
        lines-apart

  -- there is room for the next operation
  pub shared-room : (w : View NodeSort) (h : List OpRec) (op : OpRec) (thread done : ℕ)
      → HasSeen slots v (h ++ op ∷ []) → UsesAtMost common w h thread done
      → HasRoomToDo common w (operation_in op)
  shared-room w h op thread done seen uses =
      let all = seen-most (h ++ op ∷ []) seen in
      let push = sum_by_push (λ (o : OpRec). words_made script (operation_in o)) h op in
      let own = own-first script has.runnable thread done in
      omega (arith, all, push, own, uses)

  -- and for the next line's, where that is the thread's own
  pub own-room : (w : View NodeSort) (h : List OpRec) (thread done : ℕ) (l : lines.Line)
      (op : Operation) → HasSeen slots v h → UsesAtMost common w h thread done
      → line_at script thread (done + 1) ≡ Some l → is_process_line script l ≡ false
      → operation_of l ≡ Some op → HasRoomToDo common w op
  own-room w h thread done l op seen uses at own does =
      let all = seen-most h seen in
      let inside = own-inside script has.runnable thread done l at in
      let words : made.own_words script l ≡ words_made script op =
      ap (λ (b : Bool). if b then 0 else made.words_of_line script l) own
      ∙ ap (made.words_if script) does in
      omega (arith, all, inside, words, uses)
