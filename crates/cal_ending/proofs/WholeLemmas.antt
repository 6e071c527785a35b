-- The whole history, and what threads knew of it.
use Rattle.std.proofs.Common.{◌≡◌, ◌⊎◌, ℕ, ◌+◌, ◌<◌, ◌≤◌, List, [], ◌∷◌}
use Rattle.std.proofs.Common.{◌++◌, take, drop, length, get_or, inl, inr}
use Rattle.std.proofs.Common.{⊎_elim, refl, sym, ap, ◌∙◌, subst, arith}
use Rattle.std.proofs.lemmas.Bool.{cases_lt}
use Rattle.std.proofs.lemmas.List.{ext_get_or, length-take-le, take-append-drop}
use Rattle.std.proofs.lemmas.List.{get_or-take}
use Rattle.cal_once.proofs.Seen.{was_seen_from}
use Rattle.cal_once.specs.Sound.{IsSound}
use Rattle.cal_once.specs.Steps.{WasEmpty}
use Rattle.cal_once.specs.Views.{KnowsMore, Learns, noting}
use Rattle.cal_once.specs.declared.view.Plan.{Plan}
use Rattle.cal_once.specs.declared.view.View.{View}
use Rattle.cal_plog.proofs.Reading.{has_op_later, one_op}
use Rattle.cal_plog.specs.History.{HasOp, HasSeen}
use Rattle.cal_plog.specs.Seats.{op_law}
use Rattle.cal_process.specs.Takings.{OnlyLearns}
use Rattle.cal_words.specs.declared.op.OpRec.{OpRec}
use Rattle.cal_words.specs.declared.sort.OpSort.{OpSort}

-- ---- what a seat learned

pub learns-nothing : (v : View OpSort) → OnlyLearns v v
learns-nothing v = record {
  number = refl;
  used = refl;
  published = refl;
  others = refl;
  more = λ i x s. s;
}

pub learns-then : (u v w : View OpSort) → OnlyLearns u v → OnlyLearns v w → OnlyLearns u w
learns-then u v w a b = record {
  number = b.number ∙ a.number;
  used = b.used ∙ a.used;
  published = b.published ∙ a.published;
  others = b.others ∙ a.others;
  more = λ i x s. b.more i x (a.more i x s);
}

module _ (plan : Plan OpSort) (v w : View OpSort) (k : ℕ)
    (none : ((k ≡ plan.shape.slots) × (w ≡ v))
    ⊎ ((k < plan.shape.slots) × WasEmpty plan v k × Learns (noting k v) w)) where
  -- a look that found nothing
  pub none-learns : OnlyLearns v w
  none-learns = by none
    where
      by : ((k ≡ plan.shape.slots) × (w ≡ v))
          ⊎ ((k < plan.shape.slots) × WasEmpty plan v k × Learns (noting k v) w) → OnlyLearns v w
      by (inl (at, same)) = subst (λ (x : View OpSort). OnlyLearns v x) (sym same)
          (learns-nothing v)
      by (inr (at, empty, l)) = record {
        number = ap (λ (x : View OpSort). x.number) l.same;
        used = ap (λ (x : View OpSort). x.used) l.same;
        published = ap (λ (x : View OpSort). x.published) l.same;
        others = ap (λ (x : View OpSort). x.others) l.same;
        more = λ i x s. l.more i x s;
      }

  -- no seat had seen a longer history
  pub none-longer : (u : View OpSort) (h : List OpRec) → KnowsMore u v
      → HasSeen plan.shape.slots u h → length h ≤ k
  none-longer u h more seen = ⊎_elim (λ (less : k < length h). absurd (beyond less h seen refl))
      (λ (l : length h ≤ k). l) (cases_lt k (length h))
    where
      met : (op : OpRec) → HasOp plan.shape.slots v k op → ⊥
      met op has = ⊎_elim
          (λ (e : (k ≡ plan.shape.slots) × (w ≡ v)).
          let at = e.0 in let within = has.0 in absurd (omega (arith, at, within)))
          (λ (e : (k < plan.shape.slots) × WasEmpty plan v k × Learns (noting k v) w).
          e.1.unknown (was_seen_from v.seen (k + 1) has.1.slot has.1.known)) none

      beyond : k < length h → (g : List OpRec) → HasSeen plan.shape.slots u g
          → length g ≡ length h → ⊥
      beyond less [] s long = absurd (omega (arith, less, long))
      beyond less (op ∷ ops) s long = met (get_or (op ∷ ops) k op)
          (has_op_later plan.shape.slots u v k (get_or (op ∷ ops) k op) more
          (s k op (omega (arith, less, long))))

  -- and it has noted that it found nothing
  pub none-noted : (k ≡ plan.shape.slots) ⊎ (w.looks ≡ v.looks ++ k ∷ [])
  none-noted = by none
    where
      by : ((k ≡ plan.shape.slots) × (w ≡ v))
          ⊎ ((k < plan.shape.slots) × WasEmpty plan v k × Learns (noting k v) w)
          → (k ≡ plan.shape.slots) ⊎ (w.looks ≡ v.looks ++ k ∷ [])
      by (inl (at, same)) = inl at
      by (inr (at, empty, l)) = inr (ap (λ (x : View OpSort). x.looks) l.same)

-- ---- beginnings

module _ (plan : Plan OpSort) (v : View OpSort) (sound : IsSound op_law plan v) where
  -- of two beginnings the longer one begins with the shorter one
  pub longer-begins : (h ops : List OpRec) → HasSeen plan.shape.slots v h
      → HasSeen plan.shape.slots v ops → length h ≤ length ops
      → ops ≡ h ++ drop (length h) ops
  longer-begins [] ops seen read long = refl
  longer-begins (o ∷ os) ops seen read long =
      let h : List OpRec = o ∷ os in
      let n = length-take-le (length h) ops long in
      let front : take (length h) ops ≡ h =
      ext_get_or o (take (length h) ops) h (omega (arith, n))
      (λ i l.
      let m : i < length h = omega (arith, l, n) in
      get_or-take (length h) ops i o m
      ∙ one_op plan v sound i (get_or ops i o) (get_or h i o)
      (read i o (omega (arith, m, long))) (seen i o m)) in
      sym (take-append-drop (length h) ops) ∙ ap (λ xs. xs ++ drop (length h) ops) front
