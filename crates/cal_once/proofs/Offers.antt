-- An exchange of an empty slot for the draft.
use Rattle.std.proofs.Common.{◌≡◌, ◌≢◌, ℕ, ◌+◌, ◌^◌, ◌<◌, ◌≤◌, Bool, cond, eqb, Some, List, [], ◌∷◌, ◌++◌, length, get_or, set, take, drop, sym, refl, ap, ◌∙◌, subst, inl, inr, ⊎_elim, arith, length-set, get_or-set_other, get_or-set_same}
use mathlib.Core.Logic.{dite}
use mathlib.Core.Option.{none, some}
use native.Mathlib.Decide.{ℕ_discrete}
use lib.ListN.{get_elem?}
use prog.Atomic.{either}
use Rattle.std.proofs.lemmas.Bool.{eq-eqb, ne_eqb}
use Rattle.atomic_table.specs.Table.{State, Me, step, keeps, stepped, Allows}
use Rattle.cal_words.specs.declared.sort.RecSort.{Ghosts as RecSort}
use Rattle.cal_once.specs.declared.view.View.{View}
use Rattle.cal_once.specs.declared.view.Plan.{Plan}
use Rattle.cal_once.specs.Layout.{IsWithin, AreApart, arena_start, size_in, start_in, slot_for, slot_of, record_at, probe, times}
use Rattle.cal_once.specs.Views.{placed, offered}
use Rattle.cal_once.specs.Sound.{IsSound}
use Rattle.cal_once.specs.Rule.{Own, HasParent, HoldsAnother, IsFixed, Stands, IsLaid, Sits}
use Rattle.cal_once.specs.Puts.{MayOffer}
use Rattle.cal_once.specs.Steps.{WasEmpty, Offered, offers}
use Rattle.cal_once.proofs.Seen.{Saw_either, at_below, placed_at, times-append}
use Rattle.cal_once.proofs.Regions.{part_is, get_or-part, arena_inside, beside, size-slot_for, start-slot_for, probe_below}
use Rattle.cal_once.proofs.Sounds.{inside, seen_slot, held_other}
use Rattle.cal_once.proofs.Moves.{Rule, sits_again, sits_of, met, moved, unmoved, told, of_plan, empty_in}
use Rattle.cal_once.proofs.Stores.{KeepsRecords, record_at-set, stands_kept}

-- one number's value is another
abbrev pub changed : {A : Type 0} → (ℕ → A) → ℕ → A → ℕ → A
changed f n a m = cond (eqb m n) a (f m)

pub changed_here : {A : Type 0} (f : ℕ → A) (n : ℕ) (a : A) → changed f n a n ≡ a
changed_here f n a = ap (λ (b : Bool). cond b a (f n)) (eq-eqb n n refl)

pub changed_else : {A : Type 0} (f : ℕ → A) (n : ℕ) (a : A) (m : ℕ) → m ≢ n → changed f n a m ≡ f m
changed_else f n a m ne = ap (λ (b : Bool). cond b a (f m)) (ne_eqb m n ne)

times-one_more : (p q : ℕ) (l : List ℕ) → q ≢ p → times p (l ++ q ∷ []) ≡ times p l
times-one_more p q l ne = times-append p l (q ∷ []) ∙ (λ i. times p l + (cond (ne_eqb q p ne i) 1 0 + 0)) ∙ (omega arith)

times-this_more : (p : ℕ) (l : List ℕ) → times p (l ++ p ∷ []) ≡ times p l + 1
times-this_more p l = times-append p l (p ∷ []) ∙ (λ i. times p l + (cond (eq-eqb p p refl i) 1 0 + 0)) ∙ (omega arith)

module _ {S : Type 0} (law : RecSort S) (plan : Plan S) where
  abbrev R : State ℕ (View S) → Type 0
  R = Rule law plan

  -- the slot of `place` is empty, and the seat `id` may offer its draft there
  module _ (s : State ℕ (View S)) (k : R s) (id place distance : ℕ) (v : View S) (at : get_elem? s.views id ≡ some v) (live : v.plan ≡ Some plan) (may : MayOffer law plan v place distance) (empty : slot_of s.words place ≡ 0) where
    abbrev ws : List ℕ
    ws = v.draft

    abbrev start : ℕ
    start = arena_start plan.shape v.number + v.used

    abbrev word : ℕ
    word = slot_for (length ws) start

    abbrev words : List ℕ
    words = set s.words (place + 1) word

    abbrev own : ℕ → Own
    own = changed k.own id (record { used = v.used + length ws; published = v.published ++ place ∷ [] })

    used_here : (own id).used ≡ v.used + length ws
    used_here = ap (λ (o : Own). o.used) (changed_here k.own id (record { used = v.used + length ws; published = v.published ++ place ∷ [] }))

    own_list : (own id).published ≡ v.published ++ place ∷ []
    own_list = ap (λ (o : Own). o.published) (changed_here k.own id (record { used = v.used + length ws; published = v.published ++ place ∷ [] }))

    own_else : (n : ℕ) → n ≢ id → own n ≡ k.own n
    own_else = changed_else k.own id (record { used = v.used + length ws; published = v.published ++ place ∷ [] })

    sits : Sits plan s.words k.own id v
    sits = sits_of law plan s k id v at live

    two : 2 ≤ length ws
    two = law.has_parent plan.sort ws may.may.is_record

    is_arena : id < plan.shape.arenas
    is_arena = let few = k.few in let below = at_below s.views v id at in omega arith

    starts : start ≡ arena_start plan.shape id + (k.own id).used
    starts = let n = sits.number_is in let u = sits.used_is in ap (λ (m : ℕ). arena_start plan.shape m + v.used) n ∙ ap (λ (m : ℕ). arena_start plan.shape id + m) u

    ends : start + length ws ≤ arena_start plan.shape id + plan.shape.arena
    ends = let e = starts in let u = sits.used_is in let room = sits.room in omega arith

    small : (start + length ws ≤ length s.words) × (start < 2 ^ 32)
    small =
        let bound = arena_inside plan.shape id plan.shape.arena is_arena (omega arith) in
        let e = ends in
        let t = two in
        let long = k.laid.long in
        let shape = k.laid.shape in
        let limit = shape.small in
        (omega arith, omega arith)

    size_is : size_in word ≡ length ws
    size_is = size-slot_for (length ws) start small.1

    start_is : start_in word ≡ start
    start_is = start-slot_for (length ws) start small.1

    here : slot_of words place ≡ word
    here = let b = small.0 in let e = starts in let h = may.reached.is_place in get_or-set_same s.words (place + 1) word 0 (omega arith)

    elsewhere : (q : ℕ) → q ≢ place → slot_of words q ≡ slot_of s.words q
    elsewhere q ne = get_or-set_other s.words (place + 1) (q + 1) word 0 (λ e. ne (omega arith))

    beyond : (i : ℕ) → 1 + plan.shape.slots ≤ i → get_or words i 0 ≡ get_or s.words i 0
    beyond i h = let p = may.reached.is_place in get_or-set_other s.words (place + 1) i word 0 (λ e. omega arith)

    records : KeepsRecords plan.shape.slots s.words words
    records q h filled =
        let st = k.laid.stands q h filled in
        let w = st.within in
        let from = w.from in
        let p = may.reached.is_place in
        record_at-set s.words (place + 1) word q (λ e. let same : q ≡ place = omega arith in filled (ap (slot_of s.words) same ∙ empty)) (inl (omega arith)) (inside law plan s.words k.own k.laid q st)

    new_record : record_at words place ≡ ws
    new_record =
        let e = starts in
        let b = small.0 in
        let long = length-set s.words (place + 1) word in
        (λ i. take (size_in (here i)) (drop (start_in (here i)) words)) ∙ (λ i. take (size_is i) (drop (start_is i) words))
        ∙ part_is words start ws (omega arith) (λ j l. beyond (start + j) (omega arith) ∙ ap (λ (n : ℕ). get_or s.words (arena_start plan.shape n + v.used + j) 0) sits.number_is ∙ sits.draft j l)

    more : (n : ℕ) → (k.own n).used ≤ (own n).used
    more n = dite (ℕ_discrete n id)
        (λ e. let u = sits.used_is in let a : (k.own n).used ≡ (k.own id).used = ap (λ (m : ℕ). (k.own m).used) e in let c : (own n).used ≡ v.used + length ws = ap (λ (n : ℕ). (own n).used) e ∙ used_here in omega arith)
        (λ ne. let c = ap (λ (o : Own). o.used) (own_else n ne) in omega arith)

    not_listed : (n : ℕ) → times place (k.own n).published ≡ 0
    not_listed n = dite (ℕ_discrete (times place (k.own n).published) 0) (λ z. z) (λ some_times. absurd ((k.laid.listed n place (omega arith)).1 empty))

    same_times : (q n : ℕ) → q ≢ place → times q (own n).published ≡ times q (k.own n).published
    same_times q n ne = dite (ℕ_discrete n id)
        (λ e. ap (λ (m : ℕ). times q (own m).published) e ∙ ap (times q) own_list ∙ times-one_more q place v.published (λ same. ne (sym same)) ∙ ap (times q) sits.published_is ∙ ap (λ (m : ℕ). times q (k.own m).published) (sym e))
        (λ other. ap (λ (o : Own). times q o.published) (own_else n other))

    some_slot : 0 < plan.shape.slots
    some_slot = let h = may.reached.is_place in omega arith

    new_stands : Stands law plan words own place
    new_stands =
        let home : List ℕ → ℕ = law.home_of plan.shape.homes in
        let back : ws ≡ record_at words place = sym new_record in
        record {
          number = id;
          within = subst (λ (x : ℕ). IsWithin plan.shape id (own id).used x) (sym here)
              (let a = size_is in let b = start_is in let t = two in let e = starts in let u = sits.used_is in let c = used_here in record { is_arena = is_arena; two_words = omega arith; from = omega arith; to = omega arith });
          listed = ap (times place) own_list ∙ times-this_more place v.published ∙ (let none = not_listed id in let same : times place v.published ≡ times place (k.own id).published = ap (times place) sits.published_is in omega arith);
          is_record = subst (λ (l : List ℕ). law.is_record plan.sort l) back may.may.is_record;
          may_publish = subst (λ (l : List ℕ). law.may_publish plan.sort id l) back (subst (λ (n : ℕ). law.may_publish plan.sort n ws) sits.number_is may.may.may_publish);
          distance = distance;
          near = may.reached.near;
          at = may.reached.at ∙ ap (λ (l : List ℕ). probe plan.shape (home l) distance) back;
          before = subst (λ (l : List ℕ). (e : ℕ) → e < distance → HoldsAnother words (probe plan.shape (home l) e) l) back
              (λ e less. let q : ℕ = probe plan.shape (home ws) e in let b = held_other law plan s.words k.own k.laid s.views id v sits q ws (probe_below plan.shape (home ws) e some_slot) (may.reached.before e less) in
              let r = records q (probe_below plan.shape (home ws) e some_slot) b.0 in ((λ none. b.0 (sym r.0 ∙ none)), (λ one. b.1 (sym r.1 ∙ one))));
          has_parent = subst (λ (l : List ℕ). HasParent plan.shape.slots words l) back
              (⊎_elim inl (λ t.
              let f = seen_slot law plan s.words k.own k.laid t.0 t.1 t.3 (sits.seen (t.0 + 1) t.1 t.5) in
              let st = k.laid.stands t.0 t.3 f.1 in
              let w = st.within in
              let long = w.two_words in
              let r = records t.0 t.3 f.1 in
              let depth : get_or (record_at s.words t.0) 1 0 ≡ t.2 = get_or-part s.words (size_in (slot_of s.words t.0)) (start_in (slot_of s.words t.0)) 1 (omega arith) ∙ ap (λ (n : ℕ). get_or s.words (start_in n + 1) 0) f.0 ∙ (sits.seen (start_in t.1 + 1) t.2 t.6).here in
              inr (t.0, t.3, t.4, (λ none. f.1 (sym r.0 ∙ none)), t.7 ∙ ap (λ (n : ℕ). n + 1) (sym (ap (λ (l : List ℕ). get_or l 1 0) r.1 ∙ depth)))) may.may.parent);
        }

    new_apart : (q : ℕ) → q < plan.shape.slots → q ≢ place → slot_of s.words q ≢ 0 → AreApart word (slot_of s.words q)
    new_apart q h ne filled =
        let a = size_is in
        let b = start_is in
        let e = starts in
        let last = ends in
        let st = k.laid.stands q h filled in
        beside plan.shape (λ n. (k.own n).used) st.number id (slot_of s.words q) (start_in word) (start_in word + size_in word) st.within (k.laid.room st.number) (omega arith) (omega arith)

    apart_back : (a b : ℕ) → AreApart a b → AreApart b a
    apart_back a b = ⊎_elim inr inl

    old_filled : (q : ℕ) → q ≢ place → slot_of words q ≢ 0 → slot_of s.words q ≢ 0
    old_filled q ne f e = f (elsewhere q ne ∙ e)

    new_laid : IsLaid law plan words own
    new_laid = record {
      shape = k.laid.shape;
      long = length-set s.words (place + 1) word ∙ k.laid.long;
      zero_word = get_or-set_other s.words (place + 1) 0 word 0 (λ e. omega arith) ∙ k.laid.zero_word;
      room = λ n. dite (ℕ_discrete n id) (λ e. let c : (own n).used ≡ v.used + length ws = ap (λ (n : ℕ). (own n).used) e ∙ used_here in let room = sits.room in omega arith)
          (λ ne. let c = ap (λ (o : Own). o.used) (own_else n ne) in let room = k.laid.room n in omega arith);
      stands = λ q h f. dite (ℕ_discrete q place) (λ e. subst (λ (n : ℕ). Stands law plan words own n) (sym e) new_stands)
          (λ ne. let g = old_filled q ne f in let st = k.laid.stands q h g in stands_kept law plan s.words words k.own own some_slot records more q h g st (same_times q st.number ne));
      apart = λ p q hp hq other fp fq. dite (ℕ_discrete p place)
          (λ e. let ne : q ≢ place = λ same. other (e ∙ sym same) in subst (λ (z : ℕ × ℕ). AreApart z.0 z.1) (λ j. (sym (ap (slot_of words) e ∙ here) j, sym (elsewhere q ne) j)) (new_apart q hq ne (old_filled q ne fq)))
          (λ np. dite (ℕ_discrete q place)
          (λ e. subst (λ (z : ℕ × ℕ). AreApart z.0 z.1) (λ j. (sym (elsewhere p np) j, sym (ap (slot_of words) e ∙ here) j)) (apart_back word (slot_of s.words p) (new_apart p hp np (old_filled p np fp))))
          (λ nq. subst (λ (z : ℕ × ℕ). AreApart z.0 z.1) (λ j. (sym (elsewhere p np) j, sym (elsewhere q nq) j)) (k.laid.apart p q hp hq other (old_filled p np fp) (old_filled q nq fq))));
      listed = λ n q some_times. dite (ℕ_discrete q place)
          (λ e. dite (ℕ_discrete n id)
          (λ same. let room = sits.room in let u = sits.used_is in
          let w : IsWithin plan.shape id plan.shape.arena word = (let a = size_is in let b = start_is in let t = two in let o = starts in record { is_arena = is_arena; two_words = omega arith; from = omega arith; to = omega arith }) in
          let slot : slot_of words q ≡ word = ap (slot_of words) e ∙ here in
          let h = may.reached.is_place in
          (omega arith, (λ none. let t = two in let a : word ≡ 0 = sym slot ∙ none in absurd (omega arith)), subst (λ (z : ℕ × ℕ). IsWithin plan.shape z.0 plan.shape.arena z.1) (λ j. (sym same j, sym slot j)) w))
          (λ other. let none = not_listed n in let c : times q (own n).published ≡ times place (k.own n).published = (λ j. times (e j) ((own_else n other j).published)) in absurd (omega arith)))
          (λ ne. let c = same_times q n ne in let l = k.laid.listed n q (omega arith) in (l.0, (λ none. l.1 (sym (elsewhere q ne) ∙ none)), subst (λ (x : ℕ). IsWithin plan.shape n plan.shape.arena x) (sym (elsewhere q ne)) l.2));
    }

    new_fixed : (i x : ℕ) → IsFixed plan s.words k.own i x → IsFixed plan words own i x
    new_fixed i x f =
        let p = may.reached.is_place in
        record {
          here = get_or-set_other s.words (place + 1) i word 0 (λ e. ⊎_elim (λ t. t.2 (sym f.here ∙ ap (λ (n : ℕ). get_or s.words n 0) e ∙ empty)) (λ t. let low = t.1 in absurd (omega arith)) f.fixed) ∙ f.here;
          fixed = ⊎_elim inl (λ t. let m = more t.0 in let high = t.2 in inr (t.0, t.1, omega arith)) f.fixed;
        }

    new_sits : Sits plan words own id (offered place word 0 v)
    new_sits =
        record {
          plan_is = sits.plan_is;
          number_is = sits.number_is;
          used_is = sym used_here;
          published_is = sym own_list;
          room = let room = sits.room in omega arith;
          draft = λ j l. absurd (omega arith);
          seen = λ i x saw. ⊎_elim (λ t. let h = may.reached.is_place in record { here = ap (λ (n : ℕ). get_or words n 0) (sym t.0) ∙ here ∙ t.1; fixed = let e = t.0 in let two_words = two in let y = t.1 in inl (omega arith, omega arith, λ z. absurd (omega arith)) })
              (λ t. ⊎_elim (λ u. let q = placed_at (start_in word) ws i x u in let o = start_is in let first = starts in let less = q.1 in let place_is = q.2 in
              let index : i ≡ start + q.0 = omega arith in
              record {
                here = ap (λ (n : ℕ). get_or words n 0) index ∙ beyond (start + q.0) (omega arith) ∙ ap (λ (n : ℕ). get_or s.words (arena_start plan.shape n + v.used + q.0) 0) sits.number_is ∙ sits.draft q.0 q.1 ∙ sym q.3;
                fixed = let us = sits.used_is in let c = used_here in inr (id, omega arith, omega arith);
              })
              (λ u. new_fixed i x (sits.seen i x u)) (Saw_either (placed (start_in word) ws) v.seen i x t)) saw;
        }

    new_others : (j : ℕ) (u : View S) → j ≢ id → Sits plan s.words k.own j u → Sits plan words own j u
    new_others j u other o = sits_again plan s.words words k.own own j u u o (own_else j other) refl (λ n l. beyond (arena_start plan.shape j + u.used + n) (omega arith) ∙ o.draft n l) (λ i x saw. new_fixed i x (o.seen i x saw))

    pub published_there : R record { words = words; homes = s.homes; views = set s.views id (offered place word 0 v) }
    published_there = moved law plan s k id v (offered place word 0 v) words own at live new_laid new_sits refl own_else new_others

  offered_miss : (place word found : ℕ) (v : View S) → found ≢ 0 → offered place word found v ≡ record v { seen = (place + 1, found) ∷ v.seen }
  offered_miss place word found v ne = ap (λ (b : Bool). let w : View S = record v {
    used = cond b (v.used + length v.draft) v.used;
    draft = cond b [] v.draft;
    published = cond b (v.published ++ place ∷ []) v.published;
    seen = cond b ((place + 1, word) ∷ placed (start_in word) v.draft ++ v.seen) ((place + 1, found) ∷ v.seen);
  } in w) (ne_eqb found 0 ne)

  pub allows_offer : (slots id place distance word : ℕ) (me : Me ℕ (View S)) → me.0.plan ≡ Some plan → MayOffer law plan me.0 place distance → word ≡ slot_for (length me.0.draft) (arena_start plan.shape me.0.number + me.0.used)
      → Allows R slots id me (place + 1) (λ n. either (eqb n 0) word n) (offers law (step slots (place + 1) 0 word none) me)
  allows_offer slots id place distance word me live may named s k _ at _ =
      let v : View S = me.0 in
      let found : ℕ = slot_of s.words place in
      let sits = sits_of law plan s k id v at live in
      dite (ℕ_discrete found 0)
      (λ empty.
      let w : View S = offered place word 0 v in
      let kept : R record { words = set s.words (place + 1) word; homes = s.homes; views = set s.views id w } = subst (λ (x : ℕ). R record { words = set s.words (place + 1) x; homes = s.homes; views = set s.views id (offered place x 0 v) }) (sym named) (published_there s k id place distance v at live may empty) in (
        w,
        keeps,
        tt,
        subst (λ (b : Bool). R (stepped s (place + 1) (either b word found) id me.1 w keeps)) (sym (eq-eqb found 0 empty)) kept,
        λ there is. let same : place ≡ there = omega arith in subst (λ (p : ℕ). Offered law p word me found (w, me.1)) same record {
          view = ap (λ (x : ℕ). (offered place word x v, me.1)) (sym empty);
          sound = of_plan law plan (λ (p : Plan S). IsSound law p w) v live (told law plan s (set s.words (place + 1) word) id v w kept at live);
          empty = of_plan law plan (λ (p : Plan S). found ≡ 0 → WasEmpty p v place) v live (λ _. empty_in law plan s k id v place at live may.reached.is_place empty);
        },
      ))
      (λ ne.
      let w : View S = record v { seen = (place + 1, found) ∷ v.seen } in
      let kept = unmoved law plan s k (place + 1) id me.1 v w at live (met law plan s k id place found v sits may.reached.is_place refl ne) refl in (
        w,
        keeps,
        tt,
        subst (λ (b : Bool). R (stepped s (place + 1) (either b word found) id me.1 w keeps)) (sym (ne_eqb found 0 ne)) kept,
        λ there is. let same : place ≡ there = omega arith in subst (λ (p : ℕ). Offered law p word me found (w, me.1)) same record {
          view = ap (λ (x : View S). (x, me.1)) (sym (offered_miss place word found v ne));
          sound = of_plan law plan (λ (p : Plan S). IsSound law p w) v live (told law plan s (set s.words (place + 1) found) id v w kept at live);
          empty = λ _ _ none. absurd (ne none);
        },
      ))
