-- An append.
use Rattle.std.proofs.Common.{◌≡◌, ◌≢◌, ◌⊎◌, ℕ, zero, suc, ◌+◌, ◌%◌, ◌<◌, ◌≤◌, Bool, true, false, cond, List, [], ◌∷◌, ◌++◌, length, get_or, sym, refl, ap, ◌∙◌, subst, inl, inr, ⊎_elim, arith, mod-eq_of_lt}
use mathlib.Core.Logic.{dite}
use native.Mathlib.Decide.{ℕ_discrete}
use Rattle.std.proofs.lemmas.Bool.{cases_lt, ne_eqb}
use Rattle.cal_words.specs.declared.op.OpRec.{OpRec}
use Rattle.cal_words.specs.declared.sort.OpSort.{OpSort}
use Rattle.cal_words.specs.Words.{op_words}
use Rattle.cal_once.specs.declared.answer.Put.TheVariants.{Placed}
use Rattle.cal_once.specs.declared.view.View.{View}
use Rattle.cal_once.specs.declared.view.Plan.{Plan}
use Rattle.cal_once.specs.Layout.{probe, times}
use Rattle.cal_once.specs.Views.{HoldsOther, Knows, KnowsMore, Learns, publishing}
use Rattle.cal_once.specs.Sound.{IsSound}
use Rattle.cal_once.specs.Puts.{Answers, IsPlaced, PassesOthers, place_at}
use Rattle.cal_once.specs.Steps.{WasEmpty}
use Rattle.cal_once.proofs.Seen.{times-append, was_seen_from}
use Rattle.cal_plog.specs.Answers.{IsAppended, op_ask}
use Rattle.cal_plog.specs.History.{HasOp, HasRead, IsOwn, KnowsBelow, OwnBefore}
use Rattle.cal_plog.specs.Seats.{op_law}
use Rattle.cal_plog.proofs.Reading.{has_op_later, knows_below_later, read_of, read_of_other, other_of_read, one_op, is_once}

-- the place at a distance from slot 0
at_distance : (plan : Plan OpSort) (op : OpRec) (e : ℕ) → e < plan.shape.slots → place_at (op_ask plan op) e ≡ e
at_distance plan op e h = let sum : 0 + e ≡ e = omega arith in ap (λ (n : ℕ). n % plan.shape.slots) sum ∙ mod-eq_of_lt h

-- the places below one are passed
pub passes : (plan : Plan OpSort) (v : View OpSort) → IsSound op_law plan v → (op : OpRec) (n : ℕ) → n ≤ plan.shape.slots → v.number ≡ op.thread + 1 → OwnBefore plan.shape.slots v op.line → KnowsBelow plan.shape.slots v n → PassesOthers (op_ask plan op) v n
passes plan v sound op n inside mine before known e less =
    let h : e < plan.shape.slots = omega arith in
    subst (λ (p : ℕ). HoldsOther v p (op_words op)) (sym (at_distance plan op e h)) (other_of_read plan v sound e op h mine before (known e less))

module _ (plan : Plan OpSort) (v w : View OpSort) (sound : IsSound op_law plan w) (op : OpRec) (mine : v.number ≡ op.thread + 1) (before : OwnBefore plan.shape.slots v op.line) where
  -- the operation wasn't there before
  pub not_found : (place : ℕ) → IsPlaced (op_ask plan op) w place → Learns v w → ⊥
  not_found place p l =
      let number : w.number ≡ v.number = ap (λ (x : View OpSort). x.number) l.same in
      let listed : w.published ≡ v.published = ap (λ (x : View OpSort). x.published) l.same in
      let here : HasOp plan.shape.slots w place op = (p.reached.is_place, p.holds) in
      let once = is_once plan w sound place op here (number ∙ mine) in
      let earlier : times place v.published ≡ 1 = ap (times place) (sym listed) ∙ once in
      let o = before place (omega arith) in
      let same = one_op plan w sound place o.op op (has_op_later plan.shape.slots v w place o.op l.more o.has_op) here in
      let less = o.earlier in
      let line : o.op.line ≡ op.line = ap (λ (x : OpRec). x.line) same in
      absurd (omega arith)

  -- the operation was appended
  pub is_appended : (place : ℕ) → Answers (op_ask plan op) v w (Placed place true) → IsAppended plan op v w place
  is_appended place (p, l, empty) =
      let slots : ℕ = plan.shape.slots in
      let here : HasOp slots w place op = (p.reached.is_place, p.holds) in
      let distance : place ≡ p.distance = p.reached.at ∙ at_distance plan op p.distance p.reached.near in
      let below : KnowsBelow slots w place = λ k less.
      let h = p.reached.is_place in
      let inside : k < slots = omega arith in
      read_of_other plan w sound k op inside (subst (λ (q : ℕ). HoldsOther w q (op_words op)) (at_distance plan op k inside) (p.reached.before k (omega arith))) in
      let more : KnowsMore v w = l.more in
      record {
        has_op = here;
        up_to = λ k less. ⊎_elim (λ (h : k < place). below k h) (λ (h : place ≤ k). let same : place ≡ k = omega arith in subst (λ (q : ℕ). HasRead slots w q) same (read_of plan w sound place op here)) (cases_lt k place);
        fresh = empty;
        behind = λ q some. behind q (before q some) empty;
        learns = l;
        own = λ q some. own q (subst (λ (ps : List ℕ). 0 < times q ps) (ap (λ (x : View OpSort). x.published) l.same) some) here below more;
      }
    where
      behind : (q : ℕ) → IsOwn plan.shape.slots v op.line q → WasEmpty plan v place → q < place
      behind q o empty = ⊎_elim (λ (h : q < place). h)
          (λ (h : place ≤ q). dite (ℕ_discrete place q)
          (λ same. let k = o.has_op.1 in absurd (empty.unknown (subst (λ (p : ℕ). Knows v p) (sym same) (was_seen_from v.seen (q + 1) k.slot k.known))))
          (λ other. let r = (o.below place (omega arith)).1 in absurd (empty.unknown (was_seen_from v.seen (place + 1) r.slot r.known))))
          (cases_lt q place)

      own : (q : ℕ) → 0 < times q (v.published ++ place ∷ []) → HasOp plan.shape.slots w place op → KnowsBelow plan.shape.slots w place → KnowsMore v w → IsOwn plan.shape.slots w (op.line + 1) q
      own q some here below more = dite (ℕ_discrete place q)
          (λ same. subst (λ (p : ℕ). IsOwn plan.shape.slots w (op.line + 1) p) same record { op = op; has_op = here; earlier = omega arith; below = below })
          (λ other.
          let sum = times-append q v.published (place ∷ []) in
          let none : times q (place ∷ []) ≡ 0 = ap (λ (b : Bool). cond b 1 0 + 0) (ne_eqb place q other) in
          let o = before q (omega arith) in
          let less = o.earlier in
          record { op = o.op; has_op = has_op_later plan.shape.slots v w q o.op more o.has_op; earlier = omega arith; below = knows_below_later plan.shape.slots v w q more o.below })
