-- Steps that change the view of their own seat alone.
use Rattle.std.proofs.Common.{◌≡◌, ◌≢◌, ◌⊎◌, ℕ, ◌+◌, ◌<◌, ◌≤◌, Bool, cond, Option, Some, None, List, ◌∷◌, length, get_or, set, sym, refl, ap, ◌∙◌, subst, inl, inr, ⊎_elim, arith, length-set}
use mathlib.Core.Logic.{dite}
use mathlib.Core.Option.{none, some}
use native.Mathlib.Decide.{ℕ_discrete}
use lib.ListN.{get_elem?}
use lib.Seq.{set-get_or}
use Rattle.std.proofs.lemmas.Bool.{eq-eqb, ne_eqb}
use Rattle.atomic_table.specs.Table.{State, Me, step, keeps, stepped, Allows}
use Rattle.atomic_table.proofs.Lists.{at_set, set_here}
use Rattle.cal_words.specs.declared.sort.RecSort.{Ghosts as RecSort}
use Rattle.cal_once.specs.declared.view.View.{View}
use Rattle.cal_once.specs.declared.view.Plan.{Plan}
use Rattle.cal_once.specs.Layout.{IsWithin, arena_start, size_in, start_in, slot_of}
use Rattle.cal_once.specs.Views.{Saw, looked, read}
use Rattle.cal_once.specs.Sound.{IsSound}
use Rattle.cal_once.specs.Rule.{Own, IsFixed, IsLaid, Sits, Kept}
use Rattle.cal_once.specs.Steps.{WasEmpty, Looked, looks, reads}
use Rattle.cal_once.proofs.Seen.{at_below}
use Rattle.cal_once.proofs.Told.{told-set}
use Rattle.cal_once.proofs.Sounds.{seen_slot, is_sound, was_empty}

-- a seat that has published nothing more, and whose draft is there
pub sits_again : {S : Type 0} (plan : Plan S) (words words' : List ℕ) (own own' : ℕ → Own) (id : ℕ) (v w : View S) → Sits plan words own id v → own' id ≡ own id → w ≡ record v { looks = w.looks; seen = w.seen; others = w.others }
    → ((k : ℕ) → k < length v.draft → get_or words' (arena_start plan.shape id + v.used + k) 0 ≡ get_or v.draft k 0) → ((i x : ℕ) → Saw w.seen i x → IsFixed plan words' own' i x) → Sits plan words' own' id w
sits_again {S} plan words words' own own' id v w sits same is draft seen = subst (λ (z : View S). Sits plan words' own' id z) (sym is) record {
  plan_is = sits.plan_is;
  number_is = sits.number_is;
  used_is = sits.used_is ∙ ap (λ (o : Own). o.used) (sym same);
  published_is = sits.published_is ∙ ap (λ (o : Own). o.published) (sym same);
  room = sits.room;
  draft = draft;
  seen = seen;
}

-- what is added to the words that were seen at a load of a slot
pub seen_looked : {S : Type 0} (noted : Bool) (place found : ℕ) (v : View S) (i x : ℕ) → Saw (looked noted place found v).seen i x → Saw v.seen i x ⊎ ((found ≢ 0) × (place + 1 ≡ i) × (found ≡ x))
seen_looked noted place found v i x h = dite (ℕ_discrete found 0)
    (λ e. inl (subst (λ (b : Bool). Saw (cond b v.seen ((place + 1, found) ∷ v.seen)) i x) (eq-eqb found 0 e) h))
    (λ ne. ⊎_elim (λ t. inr (ne, t.0, t.1)) inl (subst (λ (b : Bool). Saw (cond b v.seen ((place + 1, found) ∷ v.seen)) i x) (ne_eqb found 0 ne) h))

module _ {S : Type 0} (law : RecSort S) (plan : Plan S) where
  abbrev pub Rule : State ℕ (View S) → Type 0
  Rule = Kept law plan

  pub sits_of : (s : State ℕ (View S)) (k : Rule s) (id : ℕ) (v : View S) → get_elem? s.views id ≡ some v → v.plan ≡ Some plan → Sits plan s.words k.own id v
  sits_of s k id v at live = ⊎_elim (λ none. absurd (cc (none, live))) (λ sits. sits) (k.seats id v at)

  -- the seat id has another view, and the words are others
  pub moved : (s : State ℕ (View S)) (k : Rule s) (id : ℕ) (v w : View S) (words : List ℕ) (own : ℕ → Own) → get_elem? s.views id ≡ some v → v.plan ≡ Some plan
      → IsLaid law plan words own → Sits plan words own id w → w.others ≡ v.others
      → ((n : ℕ) → n ≢ id → own n ≡ k.own n) → ((j : ℕ) (u : View S) → j ≢ id → Sits plan s.words k.own j u → Sits plan words own j u)
      → Rule record { words = words; homes = s.homes; views = set s.views id w }
  moved s k id v w words own at live laid mine same apart others =
      let below = at_below s.views v id at in
      let long = length-set s.views id w in
      record {
        own = own;
        laid = laid;
        few = let few = k.few in omega arith;
        unmade = λ n past. let more : length s.views ≤ n = omega arith in apart n (λ e. omega arith) ∙ k.unmade n more;
        seats = λ j u here. ⊎_elim (λ t. inr (subst (λ (z : ℕ × View S). Sits plan words own z.0 z.1) (λ i. (sym t.0 i, t.1 i)) mine))
            (λ t. ⊎_elim inl (λ sits. inr (others j u t.0 sits)) (k.seats j u t.1)) (at_set s.views id j w u here);
        first = λ u here.
            let before = told-set (λ n. (k.own n).published) (λ n. (own n).published) plan s.views id v w at live mine.plan_is (λ n ne. ap (λ (o : Own). o.published) (apart n ne)) in ⊎_elim
            (λ t. before ∙ k.first v (subst (λ (i : ℕ). get_elem? s.views i ≡ some v) (sym t.0) at) ∙ ap (λ (os : List (Option (List ℕ))). None ∷ os) (sym same ∙ ap (λ (x : View S). x.others) t.1))
            (λ t. before ∙ k.first u t.1) (at_set s.views id 0 w u here);
      }

  -- what the rule says of a seat
  pub sound_in : (s : State ℕ (View S)) (k : Rule s) (id : ℕ) (v : View S) → get_elem? s.views id ≡ some v → v.plan ≡ Some plan → IsSound law plan v
  sound_in s k id v at live =
      let below = at_below s.views v id at in
      let few = k.few in
      is_sound law plan s.words k.own k.laid s.views id v (sits_of s k id v at live) (λ e. k.first v (subst (λ (i : ℕ). get_elem? s.views i ≡ some v) e at)) k.unmade (omega arith)

  pub empty_in : (s : State ℕ (View S)) (k : Rule s) (id : ℕ) (v : View S) (place : ℕ) → get_elem? s.views id ≡ some v → v.plan ≡ Some plan → place < plan.shape.slots → slot_of s.words place ≡ 0 → WasEmpty plan v place
  empty_in s k id v place at live h empty =
      was_empty law plan s.words k.own k.laid s.views id v (sits_of s k id v at live) (λ e. k.first v (subst (λ (i : ℕ). get_elem? s.views i ≡ some v) e at)) k.unmade place h empty

  -- a step that changes no word
  pub unmoved : (s : State ℕ (View S)) (k : Rule s) (i id : ℕ) (cs : List (ℕ × ℕ)) (v w : View S) → get_elem? s.views id ≡ some v → v.plan ≡ Some plan → Sits plan s.words k.own id w → w.others ≡ v.others
      → Rule (stepped s i (get_or s.words i 0) id cs w keeps)
  unmoved s k i id cs v w at live mine same = subst (λ (ws : List ℕ). Rule record { words = ws; homes = s.homes; views = set s.views id w }) (sym (set-get_or s.words i 0))
      (moved s k id v w s.words k.own at live k.laid mine same (λ _ _. refl) (λ _ _ _ sits. sits))

  -- what is told of the seat after its step
  pub told : (s : State ℕ (View S)) (words : List ℕ) (id : ℕ) (v w : View S) → Rule record { words = words; homes = s.homes; views = set s.views id w } → get_elem? s.views id ≡ some v → w.plan ≡ Some plan → IsSound law plan w
  told s words id v w k at live = sound_in record { words = words; homes = s.homes; views = set s.views id w } k id w (set_here s.views id w (at_below s.views v id at)) live

  -- one plan is known
  pub of_plan : (F : Plan S → Type 0) (v : View S) → v.plan ≡ Some plan → F plan → (p : Plan S) → v.plan ≡ Some p → F p
  of_plan F v live f p is = let same : plan ≡ p = cc in subst F same f

  -- a filled slot was met
  pub met : (s : State ℕ (View S)) (k : Rule s) (id place found : ℕ) (v : View S) → Sits plan s.words k.own id v → place < plan.shape.slots → slot_of s.words place ≡ found → found ≢ 0
      → Sits plan s.words k.own id (record v { seen = (place + 1, found) ∷ v.seen })
  met s k id place found v sits h is ne = sits_again plan s.words s.words k.own k.own id v (record v { seen = (place + 1, found) ∷ v.seen }) sits refl refl sits.draft
      (λ i x saw. ⊎_elim (λ t. record { here = ap (λ (j : ℕ). get_or s.words j 0) (sym t.0) ∙ is ∙ t.1; fixed = let e = t.0 in inl (omega arith, omega arith, λ z. ne (t.1 ∙ z)) }) (sits.seen i x) saw)

  pub allows_look : (noted : Bool) (slots id place : ℕ) (me : Me ℕ (View S)) → me.0.plan ≡ Some plan → place < plan.shape.slots → Allows Rule slots id me (place + 1) (λ x. x) (looks law noted (step slots (place + 1) 0 0 none) me)
  allows_look noted slots id place me live h s k _ at _ =
      let v : View S = me.0 in
      let found : ℕ = slot_of s.words place in
      let w : View S = looked noted place found v in
      let sits = sits_of s k id v at live in
      let mine : Sits plan s.words k.own id w = sits_again plan s.words s.words k.own k.own id v w sits refl refl sits.draft
      (λ i x saw. ⊎_elim (sits.seen i x) (λ t. record { here = ap (λ (j : ℕ). get_or s.words j 0) (sym t.1) ∙ t.2; fixed = let e = t.1 in inl (omega arith, omega arith, λ z. t.0 (t.2 ∙ z)) }) (seen_looked noted place found v i x saw)) in
      let kept = unmoved s k (place + 1) id me.1 v w at live mine refl in (
        w,
        keeps,
        tt,
        kept,
        λ there is. let same : place ≡ there = omega arith in subst (λ (p : ℕ). Looked law noted p me found (w, me.1)) same record {
          view = refl;
          sound = of_plan (λ (p : Plan S). IsSound law p w) v live (told s (set s.words (place + 1) found) id v w kept at live);
          empty = of_plan (λ (p : Plan S). found ≡ 0 → WasEmpty p v place) v live (empty_in s k id v place at live h);
        },
      )

  pub allows_read : (slots id i place slot : ℕ) (me : Me ℕ (View S)) → me.0.plan ≡ Some plan → place < plan.shape.slots → Saw me.0.seen (place + 1) slot → start_in slot ≤ i → i < start_in slot + size_in slot
      → Allows Rule slots id me i (λ x. x) (reads law (step slots i 0 0 none) me)
  allows_read slots id i place slot me live h known low high s k _ at _ =
      let v : View S = me.0 in
      let found : ℕ = get_or s.words i 0 in
      let w : View S = read i found v in
      let sits = sits_of s k id v at live in
      let there = seen_slot law plan s.words k.own k.laid place slot h (sits.seen (place + 1) slot known) in
      let st = k.laid.stands place h there.1 in
      let within : IsWithin plan.shape st.number (k.own st.number).used slot = subst (λ (x : ℕ). IsWithin plan.shape st.number (k.own st.number).used x) there.0 st.within in
      let mine : Sits plan s.words k.own id w = sits_again plan s.words s.words k.own k.own id v w sits refl refl sits.draft
      (λ j x saw. ⊎_elim (λ t. record { here = ap (λ (n : ℕ). get_or s.words n 0) (sym t.0) ∙ t.1; fixed = let e = t.0 in let from = within.from in let to = within.to in inr (st.number, omega arith, omega arith) }) (sits.seen j x) saw) in
      let kept = unmoved s k i id me.1 v w at live mine refl in (
        w,
        keeps,
        tt,
        kept,
        record { view = refl; sound = of_plan (λ (p : Plan S). IsSound law p w) v live (told s (set s.words i found) id v w kept at live) },
      )
