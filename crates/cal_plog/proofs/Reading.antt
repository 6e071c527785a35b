-- What the words of an operation tell a seat that has read some of them.
use Rattle.std.proofs.Common.{◌≡◌, ◌≢◌, ◌⊎◌, ℕ, zero, suc, ◌+◌, ◌<◌, ◌≤◌, List, [], ◌∷◌, length, get_or, sym, refl, ap, ◌∙◌, subst, inl, inr, ⊎_elim, arith, rules}
use mathlib.Core.Logic.{dite}
use native.Mathlib.Decide.{ℕ_discrete}
use Rattle.std.specs.List.{Contains}
use Rattle.std.proofs.lemmas.List.{ext_get_or}
use Rattle.cal_words.specs.declared.op.OpCode.{OpCode}
use Rattle.cal_words.specs.declared.op.OpCode.TheVariants.{Begin, End, Set}
use Rattle.cal_words.specs.declared.op.OpRec.{OpRec}
use Rattle.cal_words.specs.declared.sort.OpSort.{OpSort}
use Rattle.cal_words.specs.Records.{IsOp, IsOpRec}
use Rattle.cal_words.specs.Words.{code_number, op_words}
use Rattle.cal_once.specs.declared.view.View.{View}
use Rattle.cal_once.specs.declared.view.Plan.{Plan}
use Rattle.cal_once.specs.Layout.{size_in, start_in, times}
use Rattle.cal_once.specs.Views.{Saw, Begins, DiffersFirst, Holds, HoldsOther, KnowsMore}
use Rattle.cal_once.specs.Sound.{IsSound, IsThere}
use Rattle.cal_once.proofs.Learning.{begins_later, holds_later}
use Rattle.cal_plog.specs.History.{HasOp, HasRead, IsOwn, KnowsBelow, OwnBefore}
use Rattle.cal_plog.specs.Seats.{op_law}

same_code : (a b : OpCode) → code_number a ≡ code_number b → a ≡ b
same_code Begin Begin e = refl
same_code Begin End e = absurd (omega arith)
same_code Begin Set e = absurd (omega arith)
same_code End Begin e = absurd (omega arith)
same_code End End e = refl
same_code End Set e = absurd (omega arith)
same_code Set Begin e = absurd (omega arith)
same_code Set End e = absurd (omega arith)
same_code Set Set e = refl

-- operations with equal words are equal
pub same_op : (a b : OpRec) → op_words a ≡ op_words b → a ≡ b
same_op a b e =
    let thread : a.thread ≡ b.thread = ap (λ (ws : List ℕ). get_or ws 2 0) e in
    let line : a.line ≡ b.line = ap (λ (ws : List ℕ). get_or ws 3 0) e in
    let code : a.code ≡ b.code = same_code a.code b.code (ap (λ (ws : List ℕ). get_or ws 4 0) e) in
    let attr : a.attr ≡ b.attr = ap (λ (ws : List ℕ). get_or ws 5 0) e in
    let value : a.value ≡ b.value = ap (λ (ws : List ℕ). get_or ws 6 0) e in
    (λ i. record { thread = thread i; line = line i; code = code i; attr = attr i; value = value i })

pub has_op_later : (slots : ℕ) (v w : View OpSort) (place : ℕ) (op : OpRec) → KnowsMore v w → HasOp slots v place op → HasOp slots w place op
has_op_later slots v w place op more h = (h.0, holds_later v w place (op_words op) more h.1)

pub knows_below_later : (slots : ℕ) (v w : View OpSort) (k : ℕ) → KnowsMore v w → KnowsBelow slots v k → KnowsBelow slots w k
knows_below_later slots v w k more b place less = let r = b place less in (r.0, begins_later v w place (0 ∷ 1 ∷ r.0 ∷ []) more r.1)

module _ (plan : Plan OpSort) (v : View OpSort) (sound : IsSound op_law plan v) where
  -- the words behind a known slot are an operation's
  pub op_there : (place slot : ℕ) → place < plan.shape.slots → Saw v.seen (place + 1) slot → (there : IsThere op_law plan v place slot) × (op : OpRec) × (there.words ≡ op_words op) × Contains plan.sort.ops op × IsOpRec op × (size_in slot ≡ 7)
  op_there place slot h known =
      let there = sound.there place slot h known in
      let is = there.lawful.is_record in
      (there, is.op, is.spelled, is.among, is.small, there.size ∙ ap (λ (ws : List ℕ). length ws) is.spelled)

  -- an operation that was read whole is one of those that may be appended
  pub is_among : (place : ℕ) (op : OpRec) → HasOp plan.shape.slots v place op → Contains plan.sort.ops op
  is_among place op h =
      let is = (sound.lawful place (op_words op) h.0 h.1).is_record in
      subst (λ (o : OpRec). Contains plan.sort.ops o) (sym (same_op op is.op is.spelled)) is.among

  -- and it is the seat's own exactly where its thread is
  pub is_once : (place : ℕ) (op : OpRec) → HasOp plan.shape.slots v place op → v.number ≡ op.thread + 1 → times place v.published ≡ 1
  is_once place op h mine = let l = sound.lawful place (op_words op) h.0 h.1 in l.own.0 (l.may_publish ∙ sym mine)

  pub is_own : (place : ℕ) (op : OpRec) → HasOp plan.shape.slots v place op → 0 < times place v.published → v.number ≡ op.thread + 1
  is_own place op h some = let l = sound.lawful place (op_words op) h.0 h.1 in dite (ℕ_discrete l.number v.number)
      (λ same. sym same ∙ l.may_publish)
      (λ other. let none = l.own.1 other in absurd (omega arith))

  -- a place has one operation
  pub one_op : (place : ℕ) (a b : OpRec) → HasOp plan.shape.slots v place a → HasOp plan.shape.slots v place b → a ≡ b
  one_op place a b x y = same_op a b (sound.one_record place (op_words a) (op_words b) x.0 x.1 y.1)

  -- an operation that was read whole was read as far as its thread
  pub read_of : (place : ℕ) (op : OpRec) → HasOp plan.shape.slots v place op → HasRead plan.shape.slots v place
  read_of place op h =
      let k = h.1 in
      let size = k.size in
      (op.thread, record { slot = k.slot; known = k.known; short = omega arith; each = each k })
    where
      each : (k : Holds v place (op_words op)) → (i : ℕ) → i < 3 → Saw v.seen (start_in k.slot + i) (get_or (0 ∷ 1 ∷ op.thread ∷ []) i 0)
      each k zero l = k.each 0 (omega arith)
      each k (suc zero) l = k.each 1 (omega arith)
      each k (suc (suc zero)) l = k.each 2 (omega arith)
      each k (suc (suc (suc i))) l = absurd (omega arith)

  -- an operation that differs from another one was read as far as its thread
  pub read_of_other : (place : ℕ) (op : OpRec) → place < plan.shape.slots → HoldsOther v place (op_words op) → HasRead plan.shape.slots v place
  read_of_other place op h k =
      let t = op_there place k.slot h k.known in
      ⊎_elim (λ differs. absurd (differs t.5)) (λ d. at k d.0 d.1 t.0 t.1 t.2 t.5) k.differs
    where
      at : (k : HoldsOther v place (op_words op)) (i : ℕ) → DiffersFirst v k.slot i (op_words op) → (there : IsThere op_law plan v place k.slot) → (o : OpRec) → there.words ≡ op_words o → size_in k.slot ≡ 7 → HasRead plan.shape.slots v place
      at k zero d there o is size = absurd (d.differs (sym (there.seen 0 d.word (omega (arith, ap (λ (ws : List ℕ). length ws) is)) d.here) ∙ ap (λ (ws : List ℕ). get_or ws 0 0) is))
      at k (suc zero) d there o is size = absurd (d.differs (sym (there.seen 1 d.word (omega (arith, ap (λ (ws : List ℕ). length ws) is)) d.here) ∙ ap (λ (ws : List ℕ). get_or ws 1 0) is))
      at k (suc (suc zero)) d there o is size = (d.word, record { slot = k.slot; known = k.known; short = omega arith; each = each })
        where
          each : (i : ℕ) → i < 3 → Saw v.seen (start_in k.slot + i) (get_or (0 ∷ 1 ∷ d.word ∷ []) i 0)
          each zero l = d.before 0 (omega arith)
          each (suc zero) l = d.before 1 (omega arith)
          each (suc (suc zero)) l = d.here
          each (suc (suc (suc i))) l = absurd (omega arith)
      at k (suc (suc (suc n))) d there o is size = (op.thread, record { slot = k.slot; known = k.known; short = omega arith; each = each })
        where
          each : (i : ℕ) → i < 3 → Saw v.seen (start_in k.slot + i) (get_or (0 ∷ 1 ∷ op.thread ∷ []) i 0)
          each zero l = d.before 0 (omega arith)
          each (suc zero) l = d.before 1 (omega arith)
          each (suc (suc zero)) l = d.before 2 (omega arith)
          each (suc (suc (suc i))) l = absurd (omega arith)

  -- an operation that was read as far as its thread is another one than the next of the seat
  pub other_of_read : (place : ℕ) (op : OpRec) → place < plan.shape.slots → v.number ≡ op.thread + 1 → OwnBefore plan.shape.slots v op.line → HasRead plan.shape.slots v place → HoldsOther v place (op_words op)
  other_of_read place op h mine before (thread, b) = dite (ℕ_discrete thread op.thread) own alien
    where
      there : (there : IsThere op_law plan v place b.slot) × (o : OpRec) × (there.words ≡ op_words o) × Contains plan.sort.ops o × IsOpRec o × (size_in b.slot ≡ 7)
      there = op_there place b.slot h b.known

      own : thread ≡ op.thread → HoldsOther v place (op_words op)
      own same =
          let t = there.0 in
          let long = ap (λ (ws : List ℕ). length ws) there.2 in
          let word : get_or t.words 2 0 ≡ thread = t.seen 2 thread (omega arith) (b.each 2 (omega arith)) in
          let publisher = t.lawful.may_publish in
          let number : t.lawful.number ≡ v.number = omega arith in
          let once = t.lawful.own.0 number in
          let o = before place (omega arith) in
          let k = o.has_op.1 in
          let size = k.size in
          let thread_is = is_own place o.op o.has_op (omega arith) in
          let threads : o.op.thread ≡ op.thread = omega arith in
          let less = o.earlier in
          record {
            slot = k.slot;
            known = k.known;
            differs = inr (3, record { size = k.size; inside = omega arith; before = three o.op k threads; word = o.op.line; here = k.each 3 (omega arith); differs = λ e. omega arith });
          }
        where
          three : (o : OpRec) (k : Holds v place (op_words o)) → o.thread ≡ op.thread → (j : ℕ) → j < 3 → Saw v.seen (start_in k.slot + j) (get_or (op_words op) j 0)
          three o k e zero l = k.each 0 (omega arith)
          three o k e (suc zero) l = k.each 1 (omega arith)
          three o k e (suc (suc zero)) l = subst (λ (n : ℕ). Saw v.seen (start_in k.slot + 2) n) e (k.each 2 (omega arith))
          three o k e (suc (suc (suc j))) l = absurd (omega arith)

      alien : thread ≢ op.thread → HoldsOther v place (op_words op)
      alien other =
          let size = there.5 in
          record {
            slot = b.slot;
            known = b.known;
            differs = inr (2, record { size = size; inside = omega arith; before = two; word = thread; here = b.each 2 (omega arith); differs = other });
          }
        where
          two : (j : ℕ) → j < 2 → Saw v.seen (start_in b.slot + j) (get_or (op_words op) j 0)
          two zero l = b.each 0 (omega arith)
          two (suc zero) l = b.each 1 (omega arith)
          two (suc (suc j)) l = absurd (omega arith)

  -- the words that were read of a place, all seven, are an operation's
  pub whole_of : (place : ℕ) (front : List ℕ) → place < plan.shape.slots → length front ≡ 7 → Begins v place front → (op : OpRec) × (front ≡ op_words op) × HasOp plan.shape.slots v place op × IsOpRec op
  whole_of place front h long b =
      let t = op_there place b.slot h b.known in
      let size = ap (λ (ws : List ℕ). length ws) t.2 in
      let same : front ≡ t.0.words = ext_get_or 0 front t.0.words (omega arith) (λ i l. sym (t.0.seen i (get_or front i 0) (omega arith) (b.each i l))) in
      let is : front ≡ op_words t.1 = same ∙ t.2 in
      let held : Holds v place front = record { slot = b.slot; known = b.known; size = t.5 ∙ sym long; each = b.each } in
      (t.1, is, (h, subst (λ (ws : List ℕ). Holds v place ws) is held), t.4)
