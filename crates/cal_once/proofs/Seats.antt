-- A seat is split off, and joined again.
use Rattle.std.proofs.Common.{◌≡◌, ◌≢◌, ℕ, suc, ◌+◌, ◌-◌, ◌<◌, Some, None, List, [], ◌∷◌, ◌++◌, length, set, sym, refl, ap, ◌∙◌, subst, inl, inr, ⊎_elim, arith, length-set, length-append}
use mathlib.Core.Option.{some}
use lib.ListN.{get_elem?}
use Rattle.atomic_table.specs.Table.{State, Splits, Joins}
use Rattle.atomic_table.proofs.Lists.{at_set, set_else}
use Rattle.cal_words.specs.declared.sort.RecSort.{Ghosts as RecSort}
use Rattle.cal_once.specs.declared.view.View.{View}
use Rattle.cal_once.specs.declared.view.Plan.{Plan}
use Rattle.cal_once.specs.Views.{split_off, new_seat, joined, joined_with, spent}
use Rattle.cal_once.specs.Rule.{Own, Sits, told_by}
use Rattle.cal_once.proofs.Seen.{Saw_either, at_end}
use Rattle.cal_once.proofs.Told.{length-told, told-append, told-joined, told-set}
use Rattle.cal_once.proofs.Moves.{Rule, sits_again, sits_of}

module _ {S : Type 0} (law : RecSort S) (plan : Plan S) where
  abbrev R : State ℕ (View S) → Type 0
  R = Rule law plan

  pub allows_split : (id : ℕ) (v : View S) → v.plan ≡ Some plan → v.number ≡ 0 → length v.others + 1 < plan.shape.arenas → Splits R id v (split_off v) (new_seat v)
  allows_split id v live first room s k at =
      let sits = sits_of law plan s k id v at live in
      let is_first : id ≡ 0 = sym sits.number_is ∙ first in
      let old = k.first v (subst (λ (i : ℕ). get_elem? s.views i ≡ some v) is_first at) in
      let made : length v.others + 1 ≡ length s.views = (let e = ap length old in let l = length-told (λ n. (k.own n).published) s.views in omega arith) in
      let left : View S = split_off v in
      let right : View S = new_seat v in
      let views : List (View S) = set s.views id left in
      let long = length-set s.views id left in
      let unmade = k.unmade (length s.views) (omega arith) in
      let longer : length (views ++ right ∷ []) ≡ length s.views + 1 = length-append views (right ∷ []) ∙ (omega arith) in
      let sits_left : Sits plan s.words k.own id left = sits_again plan s.words s.words k.own k.own id v left sits refl refl sits.draft sits.seen in
      let sits_right : Sits plan s.words k.own (length s.views) right = record { plan_is = sits.plan_is; number_is = made; used_is = ap (λ (o : Own). o.used) (sym unmade); published_is = ap (λ (o : Own). o.published) (sym unmade); room = omega arith; draft = λ j l. absurd (omega arith); seen = sits.seen } in
      record {
        own = k.own;
        laid = k.laid;
        few = omega arith;
        unmade = λ n past. k.unmade n (omega arith);
        seats = λ j u there. ⊎_elim
            (λ t. ⊎_elim (λ m. inr (subst (λ (z : ℕ × View S). Sits plan s.words k.own z.0 z.1) (λ i. (sym m.0 i, m.1 i)) sits_left)) (λ m. k.seats j u m.1) (at_set s.views id j left u t.0))
            (λ t. let index : length s.views ≡ j = let e = t.1 in omega arith in inr (subst (λ (z : ℕ × View S). Sits plan s.words k.own z.0 z.1) (λ i. (index i, t.0 i)) sits_right))
            (at_end views right u j there);
        first = λ u there. ⊎_elim
            (λ t. ⊎_elim (λ m. told-append (λ n. (k.own n).published) views right
            ∙ (λ i. (told-set (λ n. (k.own n).published) (λ n. (k.own n).published) plan s.views id v left at live live (λ n ne. refl) ∙ old) i ++ told_by (live i) (k.own (length views)).published ∷ []) ∙ ap (λ (x : View S). None ∷ x.others) m.1)
            (λ m. absurd (m.0 (sym is_first))) (at_set s.views id 0 left u t.0))
            (λ t. let e = t.1 in absurd (omega arith)) (at_end views right u 0 there);
      }

  pub allows_join : (id : ℕ) (v : View S) (other : ℕ) (w : View S) → v.plan ≡ Some plan → v.number ≡ 0 → w.plan ≡ Some plan → Joins R id v other w (joined v w) spent
  allows_join id v other w live first live_other s k at apart there =
      let both : View S = joined v w in
      let sits = sits_of law plan s k id v at live in
      let at_other : get_elem? s.views other ≡ some w = sym (set_else s.views id other both apart) ∙ there in
      let sits_other = sits_of law plan s k other w at_other live_other in
      let is_first : id ≡ 0 = sym sits.number_is ∙ first in
      let old = k.first v (subst (λ (i : ℕ). get_elem? s.views i ≡ some v) is_first at) in
      let number = sits_other.number_is in
      let index : other ≡ suc (w.number - 1) = (let not_first : other ≢ 0 = (λ e. apart (e ∙ sym is_first)) in omega arith) in
      let gone : View S = spent in
      let views : List (View S) = set s.views id both in
      let long = length-set s.views id both in
      let longer = length-set views other gone in
      let sits_both : Sits plan s.words k.own id both = sits_again plan s.words s.words k.own k.own id v both sits refl refl sits.draft
      (λ i x saw. ⊎_elim (sits.seen i x) (sits_other.seen i x) (Saw_either v.seen w.seen i x saw)) in
      record {
        own = k.own;
        laid = k.laid;
        few = let few = k.few in omega arith;
        unmade = λ n past. k.unmade n (omega arith);
        seats = λ j u here. ⊎_elim (λ t. inl (ap (λ (x : View S). x.plan) (sym t.1)))
            (λ t. ⊎_elim (λ m. inr (subst (λ (z : ℕ × View S). Sits plan s.words k.own z.0 z.1) (λ i. (sym m.0 i, m.1 i)) sits_both)) (λ m. k.seats j u m.1) (at_set s.views id j both u t.1))
            (at_set views other j gone u here);
        first = λ u here. ⊎_elim (λ t. absurd (apart (sym t.0 ∙ sym is_first)))
            (λ t. ⊎_elim (λ m. told-joined (λ n. (k.own n).published) views other gone refl
            ∙ (λ i. joined_with ((told-set (λ n. (k.own n).published) (λ n. (k.own n).published) plan s.views id v both at live live (λ n ne. refl) ∙ old) i) (index i) (sym sits_other.published_is i)) ∙ ap (λ (x : View S). None ∷ x.others) m.1)
            (λ m. absurd (m.0 (sym is_first))) (at_set s.views id 0 both u t.1))
            (at_set views other 0 gone u here);
      }
