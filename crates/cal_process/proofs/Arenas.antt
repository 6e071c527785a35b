-- A seat's arena has room for the operations of its thread's process lines.
use Rattle.std.proofs.Common.{◌≡◌, ℕ, zero, suc, ◌+◌, ◌<◌, ◌≤◌, List, [], ◌∷◌, length}
use Rattle.std.proofs.Common.{get_or, refl, sym, ap, ◌∙◌, subst, ⊎_elim, arith}
use mathlib.Core.Logic.{dite}
use native.Mathlib.Decide.{ℕ_discrete}
use Rattle.std.specs.Prelude.{Ok, Err, IsOk, Result, Some}
use Rattle.std.specs.List.{Contains}
use Rattle.std.proofs.lemmas.Bool.{cases_lt, eq-eqb}
use Rattle.std.proofs.lemmas.List.Elements.{All-contains}
use Rattle.cal_once.specs.Layout.{times}
use Rattle.cal_once.specs.Sound.{IsSound}
use Rattle.cal_once.specs.Views.{Holds}
use Rattle.cal_once.specs.declared.view.View.{View}
use Rattle.cal_plog.proofs.Reading.{is_among, is_own, is_once}
use Rattle.cal_plog.specs.Answers.{Appends}
use Rattle.cal_plog.specs.History.{IsOwn}
use Rattle.cal_plog.specs.Seats.{ops_of, op_law, plan_of, slots_of}
use Rattle.cal_plog.specs.declared.append.LogFull.{LogFull}
use Rattle.cal_plog.specs.declared.append.LogFull.TheVariants as full
use Rattle.cal_process.specs.Operations.{IsOpOf, operation_in, placed_as}
use Rattle.cal_process.specs.declared.common.Common.{Common}
use Rattle.cal_process.proofs.Apart.{few-apart}
use Rattle.cal_process.proofs.Ranks.{rank, rank-inside, rank-rises}
use Rattle.cal_process.proofs.Slots.{not-all-known}
use Rattle.cal_process.specs.Replicas.{IsCommon}
use Rattle.cal_process.specs.Rooms.{MayAppend}
use Rattle.cal_run.specs.History.{placed_operation}
use Rattle.cal_run.specs.Lawful.{IsKnown}
use Rattle.cal_run.specs.declared.operation.Operation.{Operation}
use Rattle.cal_script.specs.Shapes.{greatest, process_lines}
use Rattle.cal_script.specs.declared.script.Script.{Script}
use Rattle.cal_words.specs.Words.{op_words}
use Rattle.cal_words.specs.declared.op.OpRec.{OpRec}
use Rattle.cal_words.specs.declared.shape.Shape.{Shape}
use Rattle.cal_words.specs.declared.sort.OpSort.{OpSort}

-- ---- places of a list, each once

-- an item of a list stands there
times-some : (ps : List ℕ) (i : ℕ) → i < length ps → 0 < times (get_or ps i 0) ps
times-some [] i less = absurd (omega (arith, less))
times-some (p ∷ ps) zero less =
    let same = eq-eqb p p refl in grind (arith, same)
times-some (p ∷ ps) (suc i) less =
    let rest = times-some ps i (omega (arith, less)) in grind (arith, rest)

-- an item that stands there twice is counted twice
times-twice : (ps : List ℕ) (i k : ℕ) → i < k → k < length ps → get_or ps i 0 ≡ get_or ps k 0
    → 2 ≤ times (get_or ps k 0) ps
times-twice [] i k less inside same = absurd (omega (arith, inside))
times-twice (p ∷ ps) i zero less inside same = absurd (omega (arith, less))
times-twice (p ∷ ps) zero (suc k) less inside same =
    let here = eq-eqb p (get_or ps k 0) same in
    let rest = times-some ps k (omega (arith, inside)) in grind (arith, here, rest)
times-twice (p ∷ ps) (suc i) (suc k) less inside same =
    let rest = times-twice ps i k (omega (arith, less)) (omega (arith, inside)) same in
    grind (arith, rest)

one-index : (ps : List ℕ) (i k : ℕ) → i < length ps → k < length ps
    → get_or ps i 0 ≡ get_or ps k 0 → times (get_or ps k 0) ps ≡ 1 → i ≡ k
one-index ps i k a b same once = dite (ℕ_discrete i k) (λ e. e) (λ other. ⊎_elim
    (λ (l : i < k). let two = times-twice ps i k l b same in absurd (omega (arith, two, once)))
    (λ (l : k ≤ i).
    let less : k < i = omega (arith, l, other) in
    let two = times-twice ps k i less a (sym same) in
    let again : times (get_or ps i 0) ps ≡ 1 = ap (λ p. times p ps) same ∙ once in
    absurd (omega (arith, two, again)))
    (cases_lt i k))

-- ---- operations of lines

same-some : {A : Type 0} (x y : A) → Some x ≡ Some y → x ≡ y
same-some x y e = cc

-- one line has one operation
pub one-of-line : (script : Script) (a b : OpRec) → IsOpOf script a → IsOpOf script b
    → a.thread ≡ b.thread → a.line ≡ b.line → a ≡ b
one-of-line script a b first second thread line_is =
    let place : placed_as a ≡ placed_as b = (λ j. record { thread = thread j; line = line_is j }) in
    let does : operation_in a ≡ operation_in b = same-some (operation_in a) (operation_in b)
    (sym first.does ∙ ap (placed_operation script) place ∙ second.does) in
    let code = ap (λ (o : Operation). o.code) does in
    let attr = ap (λ (o : Operation). o.attr) does in
    let value = ap (λ (o : Operation). o.value) does in
    (λ j. record {
      thread = thread j;
      line = line_is j;
      code = code j;
      attr = attr j;
      value = value j;
    })

module _ (common : Common) (history : IsCommon common) (v : View OpSort)
    (sound : IsSound op_law (plan_of common.log) v) (op : OpRec)
    (may : MayAppend common v op) where
  abbrev script : Script
  script = common.script.now

  abbrev slots : ℕ
  slots = slots_of common.log

  op-known : (o : OpRec) → Contains (ops_of common.log) o → IsOpOf script o
  op-known o among = All-contains (IsOpOf script) (ops_of common.log) o history.ops among

  -- what the seat appended at a place, before the operation's line
  abbrev Appended : ℕ → Type 0
  Appended place = IsOwn slots v op.line place

  own-is : (place : ℕ) (own : Appended place) → IsOpOf script own.op
  own-is place own = op-known own.op (is_among (plan_of common.log) v sound place own.op own.has_op)

  own-thread : (place : ℕ) → 0 < times place v.published → (own : Appended place)
      → own.op.thread ≡ op.thread
  own-thread place some own =
      let mine = is_own (plan_of common.log) v sound place own.op own.has_op some in
      omega (arith, mine, may.thread)

  own-known : (place : ℕ) → 0 < times place v.published → (own : Appended place)
      → IsKnown script (record { thread = op.thread; line = own.op.line })
  own-known place some own =
      subst (λ t. IsKnown script (record { thread = t; line = own.op.line }))
      (own-thread place some own) (own-is place own).known

  one-place : (p q : ℕ) → 0 < times p v.published → 0 < times q v.published → (a : Appended p)
      (b : Appended q) → a.op.line ≡ b.op.line → p ≡ q
  one-place p q first second a b line_is =
      let threads = own-thread p first a ∙ sym (own-thread q second b) in
      let same = one-of-line script a.op b.op (own-is p a) (own-is q b) threads line_is in
      sound.one_place p q (op_words b.op) a.has_op.0 b.has_op.0
      (subst (λ (o : OpRec). (Holds v p (op_words o))) same a.has_op.1) b.has_op.1

  one-line : (p q : ℕ) → 0 < times p v.published → 0 < times q v.published → (a : Appended p)
      (b : Appended q)
      → rank script op.thread a.op.line ≡ rank script op.thread b.op.line → a.op.line ≡ b.op.line
  one-line p q first second a b same =
      dite (ℕ_discrete a.op.line b.op.line) (λ e. e) (λ other. absurd (⊎_elim
      (λ (l : a.op.line < b.op.line).
      let more = rank-rises script op.thread a.op.line b.op.line (own-known p first a) l in
      omega (arith, more, same))
      (λ (l : b.op.line ≤ a.op.line).
      let more = rank-rises script op.thread b.op.line a.op.line (own-known q second b)
      (omega (arith, l, other)) in
      omega (arith, more, same))
      (cases_lt a.op.line b.op.line)))

  -- item i of what the seat published is the operation of the thread's process line of this number
  record IsRanked (i number : ℕ) : Type 0 where
    own : Appended (get_or v.published i 0)
    number_is : number ≡ rank script op.thread own.op.line

  ranked : (i : ℕ) → i < length v.published
      → (number : ℕ) × (number < rank script op.thread op.line) × IsRanked i number
  ranked i less =
      let place : ℕ = get_or v.published i 0 in
      let some = times-some v.published i less in
      let own = may.line place some in (
        rank script op.thread own.op.line,
        rank-rises script op.thread own.op.line op.line (own-known place some own) own.earlier,
        record { own = own; number_is = refl },
      )

  one-ranked : (i k number : ℕ) → i < length v.published → k < length v.published
      → IsRanked i number → IsRanked k number → i ≡ k
  one-ranked i k number a b x y =
      let p : ℕ = get_or v.published i 0 in
      let q : ℕ = get_or v.published k 0 in
      let first = times-some v.published i a in
      let second = times-some v.published k b in
      let line_is = one-line p q first second x.own y.own (sym x.number_is ∙ y.number_is) in
      let once = is_once (plan_of common.log) v sound q y.own.op y.own.has_op
      (is_own (plan_of common.log) v sound q y.own.op y.own.has_op second) in
      one-index v.published i k a b (one-place p q first second x.own y.own line_is) once

  -- the seat's arena has room for the operation
  has-room : v.used + 7 ≤ (plan_of common.log).shape.arena
  has-room =
      let few = few-apart IsRanked (length v.published) (rank script op.thread op.line) ranked
      one-ranked in
      let less = rank-inside script op.thread op.line (op-known op may.among).known in
      let arena = ap (λ (s : Shape). s.arena) history.shape_of_log in
      let words = may.words in
      omega (arith, few, less, arena, words)

  -- so whatever an append answers is a place
  pub appends-ok : (w : View OpSort) → IsSound op_law (plan_of common.log) w
      → (result : Result ℕ LogFull) → Appends (plan_of common.log) op v w result → IsOk result
  appends-ok w later (Ok place) a = refl
  appends-ok w later (Err full.RowsFull) a = absurd (not-all-known (plan_of common.log) w later
      (length script.threads) (greatest (process_lines script) script.threads) history.shape_of_log
      (λ place less. let h = a.0 place less in (h.slot, h.known)))
  appends-ok w later (Err (full.ArenaFull used need)) a =
      absurd (omega (arith, a.used_is, a.need_is, a.too_long, has-room))
