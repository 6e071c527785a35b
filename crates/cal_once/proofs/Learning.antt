-- What a seat learns step by step.
use Rattle.std.proofs.Common.{◌≡◌, ◌≢◌, ℕ, ◌+◌, Bool, false, true, cond, ◌&&◌, List, [], ◌∷◌, ◌++◌, get_or, sym, refl, ap, ◌∙◌, subst, inl, inr, ⊎_elim}
use mathlib.Core.Logic.{dite}
use native.Mathlib.Decide.{ℕ_discrete}
use Rattle.std.proofs.lemmas.Bool.{ne_eqb}
use Rattle.cal_once.specs.declared.view.View.{View}
use Rattle.cal_once.specs.Layout.{start_in}
use Rattle.cal_once.specs.Views.{Saw, Begins, Holds, HoldsOther, Knows, KnowsMore, KnowsParent, IsLater, Learns, looked, noting}
use Rattle.cal_once.proofs.Seen.{seen_to_be, was_seen_from}

module _ {S : Type 0} where
  pub learns_nothing : (v : View S) → Learns v v
  learns_nothing v = record { same = refl; more = λ i x h. h }

  pub learns_then : (u v w : View S) → Learns u v → Learns v w → Learns u w
  learns_then u v w a b = record {
    same = b.same ∙ ap (λ (z : View S). let y : View S = record z { draft = w.draft; seen = w.seen } in y) a.same;
    more = λ i x h. b.more i x (a.more i x h);
  }

  -- a load of a filled slot
  pub looked_filled : (noted : Bool) (place found : ℕ) (v : View S) → found ≢ 0 → looked noted place found v ≡ record v { seen = (place + 1, found) ∷ v.seen }
  looked_filled noted place found v ne = ap (λ (b : Bool). let w : View S = record v {
    looks = cond (b && noted) (v.looks ++ place ∷ []) v.looks;
    seen = cond b v.seen ((place + 1, found) ∷ v.seen);
  } in w) (ne_eqb found 0 ne)

  pub learns_slot : (noted : Bool) (place found : ℕ) (v w : View S) → w ≡ looked noted place found v → found ≢ 0 → Learns v w × Saw w.seen (place + 1) found
  learns_slot noted place found v w is ne = subst (λ (z : View S). Learns v z × Saw z.seen (place + 1) found) (sym (is ∙ looked_filled noted place found v ne)) (record { same = refl; more = λ j y h. inr h }, inl (refl, refl))

  -- a load of an empty slot
  pub learns_empty : (place found : ℕ) (v w : View S) → w ≡ looked true place found v → found ≡ 0 → Learns (noting place v) w
  learns_empty place found v w is none = subst (λ (z : View S). Learns (noting place v) z) (sym (is ∙ ap (λ (n : ℕ). looked true place n v) none)) (learns_nothing (noting place v))

  -- a load of a slot that isn't noted
  pub learns_peek : (place found : ℕ) (v w : View S) → w ≡ looked false place found v → Learns v w
  learns_peek place found v w is = dite (ℕ_discrete found 0)
      (λ e. subst (λ (x : View S). Learns v x) (sym (is ∙ ap (λ (n : ℕ). looked false place n v) e)) (learns_nothing v))
      (λ ne. (learns_slot false place found v w is ne).0)

  pub knows_later : (v w : View S) (place : ℕ) → KnowsMore v w → Knows v place → Knows w place
  knows_later v w place more k = let x = seen_to_be v.seen (place + 1) k in was_seen_from w.seen (place + 1) x.0 (more (place + 1) x.0 x.1)

  pub holds_later : (v w : View S) (place : ℕ) (words : List ℕ) → KnowsMore v w → Holds v place words → Holds w place words
  holds_later v w place words more h = record { slot = h.slot; known = more (place + 1) h.slot h.known; size = h.size; each = λ i l. more (start_in h.slot + i) (get_or words i 0) (h.each i l) }

  pub other_later : (v w : View S) (place : ℕ) (words : List ℕ) → KnowsMore v w → HoldsOther v place words → HoldsOther w place words
  other_later v w place words more h = record {
    slot = h.slot;
    known = more (place + 1) h.slot h.known;
    differs = ⊎_elim inl (λ t. let d = t.1 in inr (
      t.0,
      record {
        size = d.size;
        inside = d.inside;
        before = λ j l. more (start_in h.slot + j) (get_or words j 0) (d.before j l);
        word = d.word;
        here = more (start_in h.slot + t.0) d.word d.here;
        differs = d.differs;
      },
    )) h.differs;
  }

  pub begins_later : (v w : View S) (place : ℕ) (front : List ℕ) → KnowsMore v w → Begins v place front → Begins w place front
  begins_later v w place front more h = record { slot = h.slot; known = more (place + 1) h.slot h.known; short = h.short; each = λ i l. more (start_in h.slot + i) (get_or front i 0) (h.each i l) }

  pub parent_later : (v w : View S) (slots : ℕ) (words : List ℕ) → KnowsMore v w → KnowsParent v slots words → KnowsParent w slots words
  parent_later v w slots words more = ⊎_elim inl (λ t. inr (t.0, t.1, t.2, t.3, t.4, more (t.0 + 1) t.1 t.5, more (start_in t.1 + 1) t.2 t.6, t.7))
