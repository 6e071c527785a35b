-- What a seat knows follows from the rule.
use Rattle.std.proofs.Common.{◌≡◌, ◌≢◌, ℕ, suc, ◌+◌, ◌-◌, ◌<◌, ◌≤◌, true, None, List, [], ◌∷◌, length, get_or, take, drop, sym, ap, ◌∙◌, subst, inl, inr, ⊎_elim, arith}
use mathlib.Core.Logic.{dite}
use native.Mathlib.Decide.{ℕ_discrete}
use Rattle.std.proofs.lemmas.Bool.{cases_lt}
use Rattle.cal_words.specs.declared.sort.RecSort.{Ghosts as RecSort}
use Rattle.cal_once.specs.declared.view.View.{View}
use Rattle.cal_once.specs.declared.view.Plan.{Plan}
use Rattle.cal_once.specs.Layout.{IsWithin, AreApart, size_in, start_in, slot_of, record_at, probe, times}
use Rattle.cal_once.specs.Views.{Saw, Knows, Holds, HoldsOther, AllJoined, all_published, gathered, none_away}
use Rattle.cal_once.specs.Sound.{IsListed, IsLawful, IsThere, IsBelow, IsSound}
use Rattle.cal_once.specs.Rule.{Own, HoldsAnother, IsFixed, Stands, IsLaid, Sits, told}
use Rattle.cal_once.specs.Steps.{WasEmpty}
use Rattle.cal_once.proofs.Seen.{seen_to_be, times-append}
use Rattle.cal_once.proofs.Told.{others-told, told_places, told-none, told-one}
use Rattle.cal_once.proofs.Regions.{part_is, length-part, get_or-part, arena_inside, one_region}

module _ {S : Type 0} (law : RecSort S) where
  module _ (plan : Plan S) (words : List ℕ) (own : ℕ → Own) (laid : IsLaid law plan words own) where
    -- a slot's word that was seen is there, and isn't 0
    pub seen_slot : (place x : ℕ) → place < plan.shape.slots → IsFixed plan words own (place + 1) x → (slot_of words place ≡ x) × (slot_of words place ≢ 0)
    seen_slot place x h f = let here = f.here in (here, ⊎_elim (λ t e. t.2 (sym here ∙ e)) (λ t. let low = t.1 in absurd (omega arith)) f.fixed)

    -- a filled slot's record lies within the words
    pub inside : (place : ℕ) → Stands law plan words own place → start_in (slot_of words place) + size_in (slot_of words place) ≤ length words
    inside place st = let w = st.within in let to = w.to in let e = arena_inside plan.shape st.number (own st.number).used w.is_arena (laid.room st.number) in let l = laid.long in omega arith

    -- a number's words don't reach past its arena
    pub widened : (n : ℕ) (w : ℕ) → IsWithin plan.shape n (own n).used w → IsWithin plan.shape n plan.shape.arena w
    widened n w x = let r = laid.room n in let t = x.to in record { is_arena = x.is_arena; two_words = x.two_words; from = x.from; to = omega arith }

    -- a place stands in the list of one number alone
    pub one_list : (place : ℕ) → place < plan.shape.slots → slot_of words place ≢ 0 → (st : Stands law plan words own place) → (m : ℕ) → m ≢ st.number → times place (own m).published ≡ 0
    one_list place h filled st m other = dite (ℕ_discrete (times place (own m).published) 0) (λ z. z)
        (λ some_times. let l = laid.listed m place (omega arith) in absurd (other (one_region plan.shape m st.number plan.shape.arena plan.shape.arena (slot_of words place) (omega arith) (omega arith) l.2 (widened st.number (slot_of words place) st.within))))

    module _ (views : List (View S)) (number : ℕ) (v : View S) (sits : Sits plan words own number v) where
      -- the record that a seat knows is the one that is there
      pub held : (place : ℕ) (ws : List ℕ) → place < plan.shape.slots → Holds v place ws → (slot_of words place ≢ 0) × (record_at words place ≡ ws)
      held place ws h k =
          let s = seen_slot place k.slot h (sits.seen (place + 1) k.slot k.known) in
          let st = laid.stands place h s.1 in
          let size : size_in (slot_of words place) ≡ length ws = ap size_in s.0 ∙ k.size in
          let start : start_in (slot_of words place) ≡ start_in k.slot = ap start_in s.0 in
          let bound = inside place st in
          (s.1, (λ i. take (size i) (drop (start i) words)) ∙ part_is words (start_in k.slot) ws (omega arith) (λ j l. (sits.seen (start_in k.slot + j) (get_or ws j 0) (k.each j l)).here))

      -- the place holds another record, as the seat knows
      pub held_other : (place : ℕ) (ws : List ℕ) → place < plan.shape.slots → HoldsOther v place ws → HoldsAnother words place ws
      held_other place ws h k =
          let s = seen_slot place k.slot h (sits.seen (place + 1) k.slot k.known) in
          let st = laid.stands place h s.1 in
          let size : size_in (slot_of words place) ≡ size_in k.slot = ap size_in s.0 in
          let start : start_in (slot_of words place) ≡ start_in k.slot = ap start_in s.0 in
          let bound = inside place st in
          let long = length-part words (size_in (slot_of words place)) (start_in (slot_of words place)) bound in (
            s.1,
            λ e. ⊎_elim (λ differ. differ (sym size ∙ sym long ∙ ap length e))
                (λ t. let d = t.1 in d.differs (sym (sits.seen (start_in k.slot + t.0) d.word d.here).here ∙ ap (λ (n : ℕ). get_or words (n + t.0) 0) (sym start) ∙ sym (get_or-part words (size_in (slot_of words place)) (start_in (slot_of words place)) t.0 (subst (λ (n : ℕ). t.0 < n) (sym size) d.inside)) ∙ ap (λ (l : List ℕ). get_or l t.0 0) e)) k.differs,
          )

      -- the first two words of a record that were seen are there
      spot : (place x j y : ℕ) → place < plan.shape.slots → j < 2 → Saw v.seen (place + 1) x → Saw v.seen (start_in x + j) y → get_or (record_at words place) j 0 ≡ y
      spot place x j y h two slot word =
          let s = seen_slot place x h (sits.seen (place + 1) x slot) in
          let st = laid.stands place h s.1 in
          let w = st.within in
          let long = w.two_words in
          get_or-part words (size_in (slot_of words place)) (start_in (slot_of words place)) j (omega arith) ∙ ap (λ (n : ℕ). get_or words (start_in n + j) 0) s.0 ∙ (sits.seen (start_in x + j) y word).here

      is_below : (place slot parent depth : ℕ) → place < plan.shape.slots → Saw v.seen (place + 1) slot → Saw v.seen (start_in slot) parent → Saw v.seen (start_in slot + 1) depth → IsBelow plan v parent depth
      is_below place slot parent depth h known first second =
          let s = seen_slot place slot h (sits.seen (place + 1) slot known) in
          let st = laid.stands place h s.1 in
          let p : get_or (record_at words place) 0 0 ≡ parent = spot place slot 0 parent h (omega arith) known (let e : start_in slot ≡ start_in slot + 0 = omega arith in subst (λ (i : ℕ). Saw v.seen i parent) e first) in
          let d : get_or (record_at words place) 1 0 ≡ depth = spot place slot 1 depth h (omega arith) known second in
          ⊎_elim (λ t. inl (sym p ∙ t.0, sym d ∙ t.1))
          (λ t. inr (t.0, sym p ∙ t.2, t.1, λ above_slot above k l. sym d ∙ t.4 ∙ ap (λ (n : ℕ). n + 1) (spot t.0 above_slot 1 above t.1 (omega arith) k l)))
          st.has_parent

      one_place : (p q : ℕ) (ws : List ℕ) → p < plan.shape.slots → q < plan.shape.slots → Holds v p ws → Holds v q ws → p ≡ q
      one_place p q ws hp hq kp kq =
          let a = held p ws hp kp in
          let b = held q ws hq kq in
          let x = laid.stands p hp a.0 in
          let y = laid.stands q hq b.0 in
          let e : record_at words p ≡ record_at words q = a.1 ∙ sym b.1 in
          let P : List ℕ → ℕ → ℕ = λ ws d. probe plan.shape (law.home_of plan.shape.homes ws) d in
          ⊎_elim
          (λ (less : x.distance < y.distance). absurd ((y.before x.distance less).1 (ap (record_at words) (sym (x.at ∙ ap (λ (l : List ℕ). P l x.distance) e)) ∙ e)))
          (λ (more : y.distance ≤ x.distance). ⊎_elim
          (λ (less : y.distance < x.distance). absurd ((x.before y.distance less).1 (ap (record_at words) (sym (y.at ∙ ap (λ (l : List ℕ). P l y.distance) (sym e))) ∙ sym e)))
          (λ (least : x.distance ≤ y.distance). let same : x.distance ≡ y.distance = omega arith in x.at ∙ (λ i. P (e i) (same i)) ∙ sym y.at)
          (cases_lt y.distance x.distance))
          (cases_lt x.distance y.distance)

      module _ (leads : number ≡ 0 → told (λ n. (own n).published) views ≡ None ∷ v.others) (unmade : (n : ℕ) → length views ≤ n → own n ≡ record { used = 0; published = [] }) where
        -- how often a place stands in the first seat's own list, and in those of the others
        all_times : AllJoined v → (place : ℕ) → (ws : List (View S)) × (length ws + 1 ≡ length views) × (none_away (told (λ n. (own (suc n)).published) ws) ≡ true)
            × (times place (all_published v) ≡ times place (own 0).published + times place (gathered (told (λ n. (own (suc n)).published) ws)))
        all_times all place =
            let zero_number : number ≡ 0 = sym sits.number_is ∙ all.0 in
            let rest = others-told (λ n. (own n).published) views v.others (leads zero_number) in
            let first : times place v.published ≡ times place (own 0).published = ap (times place) (sits.published_is ∙ ap (λ n. (own n).published) zero_number) in
            (rest.0, rest.1, ap none_away rest.2 ∙ all.1, times-append place v.published (gathered v.others) ∙ (λ i. first i + times place (gathered (sym rest.2 i))))

        none_times : AllJoined v → (place : ℕ) → ((n : ℕ) → times place (own n).published ≡ 0) → times place (all_published v) ≡ 0
        none_times all place none =
            let t = all_times all place in
            let a = none 0 in
            let b = told-none (λ n. (own (suc n)).published) t.0 place (λ n. none (suc n)) in
            t.3 ∙ omega arith

        known_once : AllJoined v → (place : ℕ) → place < plan.shape.slots → Knows v place → times place (all_published v) ≡ 1
        known_once all place h known =
            let x = seen_to_be v.seen (place + 1) known in
            let s = seen_slot place x.0 h (sits.seen (place + 1) x.0 x.1) in
            let st = laid.stands place h s.1 in
            let others : (m : ℕ) → m ≢ st.number → times place (own m).published ≡ 0 = one_list place h s.1 st in
            let t = all_times all place in
            let long = t.1 in
            let is_made : st.number < length views = ⊎_elim (λ (l : st.number < length views). l)
            (λ (g : length views ≤ st.number). let none : times place (own st.number).published ≡ 0 = ap (λ (o : Own). times place o.published) (unmade st.number g) in let one = st.listed in absurd (omega arith)) (cases_lt st.number (length views)) in
            dite (ℕ_discrete st.number 0)
            (λ first. let one : times place (own 0).published ≡ 1 = ap (λ (m : ℕ). times place (own m).published) (sym first) ∙ st.listed in
            let rest = told-none (λ n. (own (suc n)).published) t.0 place (λ n. others (suc n) (λ e. omega arith)) in t.3 ∙ omega arith)
            (λ later. let none = others 0 (λ e. later (sym e)) in
            let index : st.number ≡ suc (st.number - 1) = omega arith in
            let one = told-one (λ n. (own (suc n)).published) t.0 place (st.number - 1) (omega arith) (ap (λ (m : ℕ). times place (own m).published) (sym index) ∙ st.listed) (λ n ne. others (suc n) (λ e. ne (omega arith))) t.2 in t.3 ∙ omega arith)

        -- the record of a filled slot is one that its number published
        lawful_there : (place : ℕ) → place < plan.shape.slots → slot_of words place ≢ 0 → IsLawful law plan v place (record_at words place)
        lawful_there place h filled =
            let st = laid.stands place h filled in
            let Listed : ℕ → List ℕ → Type 0 = λ n places. IsListed st.number n place places in
            let list_of : (n : ℕ) → Listed n (own n).published = λ n. ((λ same. ap (λ (m : ℕ). times place (own m).published) (sym same) ∙ st.listed), (λ other. one_list place h filled st n (λ e. other (sym e)))) in
            record {
              is_record = st.is_record;
              number = st.number;
              may_publish = st.may_publish;
              own = subst (λ (z : ℕ × List ℕ). Listed z.0 z.1) (λ i. (sym sits.number_is i, sym sits.published_is i)) (list_of number);
              joined = λ first n places is.
                  let zero_number : number ≡ 0 = sym sits.number_is ∙ first in
                  let theirs : places ≡ (own (suc n)).published = told_places (λ m. (own m).published) views v.others n places (leads zero_number) is in
                  let next : suc n ≡ n + 1 = omega arith in
                  subst (λ (z : ℕ × List ℕ). Listed z.0 z.1) (λ i. (next i, sym theirs i)) (list_of (suc n));
            }

        is_lawful : (place : ℕ) (ws : List ℕ) → place < plan.shape.slots → Holds v place ws → IsLawful law plan v place ws
        is_lawful place ws h k = let a = held place ws h k in subst (λ (l : List ℕ). IsLawful law plan v place l) a.1 (lawful_there place h a.0)

        -- the record behind a slot that was seen
        is_there : (place slot : ℕ) → place < plan.shape.slots → Saw v.seen (place + 1) slot → IsThere law plan v place slot
        is_there place slot h known =
            let s = seen_slot place slot h (sits.seen (place + 1) slot known) in
            let st = laid.stands place h s.1 in
            let size : ℕ = size_in (slot_of words place) in
            let start : ℕ = start_in (slot_of words place) in
            let long : length (record_at words place) ≡ size = length-part words size start (inside place st) in
            record {
              words = record_at words place;
              size = ap size_in (sym s.0) ∙ sym long;
              seen = λ i x l saw. get_or-part words size start i (subst (λ (n : ℕ). i < n) long l) ∙ ap (λ (n : ℕ). get_or words (start_in n + i) 0) s.0 ∙ (sits.seen (start_in slot + i) x saw).here;
              lawful = lawful_there place h s.1;
            }

        pub is_sound : number < plan.shape.arenas → IsSound law plan v
        is_sound is_arena = record {
          own_arena = subst (λ (n : ℕ). n < plan.shape.arenas) (sym sits.number_is) is_arena;
          room = sits.room;
          one_word = λ i x y a b. sym (sits.seen i x a).here ∙ (sits.seen i y b).here;
          within = λ place slot h k. let s = seen_slot place slot h (sits.seen (place + 1) slot k) in let st = laid.stands place h s.1 in
              ((λ e. s.1 (s.0 ∙ e)), (st.number, subst (λ (w : ℕ). IsWithin plan.shape st.number plan.shape.arena w) s.0 (widened st.number (slot_of words place) st.within)));
          apart = λ p q a b hp hq other kp kq. let s = seen_slot p a hp (sits.seen (p + 1) a kp) in let t = seen_slot q b hq (sits.seen (q + 1) b kq) in
              subst (λ (z : ℕ × ℕ). AreApart z.0 z.1) (λ i. (s.0 i, t.0 i)) (laid.apart p q hp hq other s.1 t.1);
          one_place = one_place;
          one_record = λ place a b h k l. sym (held place a h k).1 ∙ (held place b h l).1;
          there = is_there;
          lawful = is_lawful;
          below = is_below;
          once = λ all place. (known_once all place, λ past. none_times all place (λ n. dite (ℕ_discrete (times place (own n).published) 0) (λ z. z) (λ some_times. let l = (laid.listed n place (omega arith)).0 in absurd (omega arith))));
        }

        pub was_empty : (place : ℕ) → place < plan.shape.slots → slot_of words place ≡ 0 → WasEmpty plan v place
        was_empty place h empty = record {
          unknown = λ known. let x = seen_to_be v.seen (place + 1) known in (seen_slot place x.0 h (sits.seen (place + 1) x.0 x.1)).1 empty;
          no_parent = λ p. let s = seen_slot p.0 p.1 p.2 (sits.seen (p.0 + 1) p.1 p.3) in let st = laid.stands p.0 p.2 s.1 in
              let first : get_or (record_at words p.0) 0 0 ≡ place + 1 = spot p.0 p.1 0 (place + 1) p.2 (omega arith) p.3 (let e : start_in p.1 ≡ start_in p.1 + 0 = omega arith in subst (λ (i : ℕ). Saw v.seen i (place + 1)) e p.4) in
              ⊎_elim (λ t. let none = t.0 in absurd (omega arith)) (λ t. let word = t.2 in let same : t.0 ≡ place = omega arith in t.3 (ap (slot_of words) same ∙ empty)) st.has_parent;
          unlisted = λ all. none_times all place (λ n. dite (ℕ_discrete (times place (own n).published) 0) (λ z. z) (λ some_times. absurd ((laid.listed n place (omega arith)).1 empty)));
        }
