-- How a search goes on, and how it ends.
use Rattle.std.proofs.Common.{◌≡◌, ◌≢◌, ℕ, ◌+◌, ◌-◌, ◌%◌, ◌^◌, ◌<◌, ◌≤◌, Bool, false, true, cond, Option, Some, None, List, [], ◌∷◌, ◌++◌, length, get_or, sym, refl, ap, ◌∙◌, subst, inl, inr, ⊎_elim, arith, mod-eq_of_lt}
use Rattle.std.proofs.lemmas.Bool.{cases_lt, ne_eqb}
use Rattle.std.proofs.Math.Nat.{add-mod_right}
use Rattle.cal_words.specs.declared.sort.RecSort.{Ghosts as RecSort}
use Rattle.cal_once.specs.declared.answer.Put.{Put}
use Rattle.cal_once.specs.declared.answer.Put.TheVariants.{Placed, RowsFull, ArenaFull}
use Rattle.cal_words.specs.declared.shape.Shape.{Shape}
use Rattle.cal_once.specs.declared.view.View.{View}
use Rattle.cal_once.specs.declared.view.Plan.{Plan}
use Rattle.cal_once.specs.Layout.{IsShape, arena_start, probe, start_in, slot_for, times}
use Rattle.cal_once.specs.Views.{Saw, HoldsOther, AllJoined, KnowsMore, IsLater, Learns, all_published, noting, offered, placed, publishing}
use Rattle.cal_once.specs.Steps.{WasEmpty}
use Rattle.cal_once.specs.Puts.{Ask, Answers, AllHoldOthers, IsReached, MayOffer, MayPut, PassesOthers, Visits, ask_for, place_at}
use Rattle.cal_once.proofs.Seen.{Saw_left, Saw_right, Saw_placed}
use Rattle.cal_once.proofs.Regions.{arena_inside, size-slot_for}
use Rattle.cal_once.proofs.Learning.{learns_then, knows_later, other_later, parent_later}

-- each place is at some distance from a home
distance_to : (shape : Shape) (home place : ℕ) → home < shape.slots → place < shape.slots → (distance : ℕ) × (distance < shape.slots) × (place ≡ probe shape home distance)
distance_to shape home place h p = ⊎_elim
    (λ (before : place < home). let sum : home + (place + shape.slots - home) ≡ place + shape.slots = omega arith in
    (place + shape.slots - home, omega arith, sym (ap (λ (n : ℕ). n % shape.slots) sum ∙ add-mod_right place shape.slots ∙ mod-eq_of_lt p)))
    (λ (after : home ≤ place). let sum : home + (place - home) ≡ place = omega arith in (place - home, omega arith, sym (ap (λ (n : ℕ). n % shape.slots) sum ∙ mod-eq_of_lt p)))
    (cases_lt place home)

-- the first unused word of an arena
pub start_small : (shape : Shape) (number used : ℕ) → IsShape shape → number < shape.arenas → used ≤ shape.arena → arena_start shape number + used < 2 ^ 32
start_small shape number used is h room = let b = arena_inside shape number used h room in let s = is.small in omega arith

module _ {S : Type 0} where
  -- a slot that is empty now was empty before
  was_empty_before : (plan : Plan S) (v w : View S) (place : ℕ) → Learns v w → WasEmpty plan w place → WasEmpty plan v place
  was_empty_before plan v w place l e = record {
    unknown = λ k. e.unknown (knows_later v w place l.more k);
    no_parent = λ p. e.no_parent (p.0, p.1, p.2, l.more (p.0 + 1) p.1 p.3, l.more (start_in p.1) (place + 1) p.4);
    unlisted = λ all. ap (λ (x : View S). times place (all_published x)) (sym l.same) ∙ e.unlisted (subst (λ (x : View S). AllJoined x) (sym l.same) all);
  }

  pub may_later : (law : RecSort S) (ask : Ask S) (v w : View S) → Learns v w → MayPut law ask v → MayPut law ask w
  may_later law ask v w l m = record {
    is_record = m.is_record;
    may_publish = subst (λ (x : View S). law.may_publish ask.plan.sort x.number ask.words) (sym l.same) m.may_publish;
    parent = parent_later v w ask.plan.shape.slots ask.words l.more m.parent;
  }

  module _ (ask : Ask S) where
    pub reached_later : (v w : View S) (place distance : ℕ) → KnowsMore v w → IsReached ask v place distance → IsReached ask w place distance
    reached_later v w place distance more r = record { is_place = r.is_place; near = r.near; at = r.at; before = λ e h. other_later v w (place_at ask e) ask.words more (r.before e h) }

    -- one slot more was passed
    pub passes_more : (v w : View S) (n : ℕ) → KnowsMore v w → PassesOthers ask v n → HoldsOther w (place_at ask n) ask.words → PassesOthers ask w (n + 1)
    passes_more v w n more before here e less = ⊎_elim
        (λ (l : e < n). other_later v w (place_at ask e) ask.words more (before e l))
        (λ (m : n ≤ e). let same : n ≡ e = omega arith in subst (λ (k : ℕ). HoldsOther w (place_at ask k) ask.words) same here)
        (cases_lt e n)

    -- every slot was passed
    pub all_others : (v w : View S) → ask.home < ask.plan.shape.slots → KnowsMore v w → PassesOthers ask v ask.plan.shape.slots → AllHoldOthers ask w
    all_others v w h more before place p =
        let d = distance_to ask.plan.shape ask.home place h p in
        subst (λ (n : ℕ). HoldsOther w n ask.words) (sym d.2) (other_later v w (place_at ask d.0) ask.words more (before d.0 d.1))

    -- what an answer tells of the seat as it was before it learned something
    pub answers_then : (u v w : View S) → Learns u v → (answer : Put) → Answers ask v w answer → Answers ask u w answer
    answers_then u v w l (Placed place false) (is, b) = (is, learns_then u v w l b)
    answers_then u v w l (Placed place true) (is, b, empty) = (
      is,
      learns_then (publishing ask.words place u) (publishing ask.words place v) w record { same = ap (publishing ask.words place) l.same; more = l.more } b,
      was_empty_before ask.plan u v place l empty,
    )
    answers_then u v w l RowsFull (all, b) = (all, learns_then u v w l b)
    answers_then u v w l (ArenaFull used need) lacks = record {
      used_is = lacks.used_is ∙ ap (λ (x : View S). x.used) l.same;
      need_is = lacks.need_is;
      too_long = lacks.too_long;
      place = lacks.place;
      distance = lacks.distance;
      reached = lacks.reached;
      empty = was_empty_before ask.plan u v lacks.place l lacks.empty;
      learns = learns_then (noting lacks.place u) (noting lacks.place v) w record { same = ap (noting lacks.place) l.same; more = l.more } lacks.learns;
    }

    pub visits_then : (u v w : View S) (place : ℕ) → Learns u v → (found : Option Put) → Visits ask v w place found → Visits ask u w place found
    visits_then u v w place l None (other, b) = (other, learns_then u v w l b)
    visits_then u v w place l (Some answer) b = answers_then u v w l answer b

    -- the draft was published
    pub published_here : (v w : View S) (place distance start found : ℕ) → w ≡ offered place (slot_for (length ask.words) start) found (record v { draft = ask.words }) → found ≡ 0 → start < 2 ^ 32 → IsReached ask v place distance → WasEmpty ask.plan v place → Answers ask v w (Placed place true)
    published_here v w place distance start found is none small reached empty =
        let word : ℕ = slot_for (length ask.words) start in
        let new : List (ℕ × ℕ) = (place + 1, word) ∷ placed (start_in word) ask.words in
        let after : View S = record (publishing ask.words place v) { draft = []; seen = new ++ v.seen } in
        let more : KnowsMore v after = λ i x h. Saw_right new v.seen i x h in
        let here : (i x : ℕ) → Saw new i x → Saw after.seen i x = λ i x h. Saw_left new v.seen i x h in
        subst (λ (z : View S). Answers ask v z (Placed place true)) (sym (is ∙ ap (λ (n : ℕ). offered place word n (record v { draft = ask.words })) none)) (
          record {
            distance = distance;
            reached = reached_later v after place distance more reached;
            holds = record { slot = word; known = here (place + 1) word (inl (refl, refl)); size = size-slot_for (length ask.words) start small; each = λ i h. here (start_in word + i) (get_or ask.words i 0) (inr (Saw_placed (start_in word) ask.words i h)) };
          },
          record { same = refl; more = more },
          empty,
        )

    -- the slot was filled by another seat
    pub missed : (v w : View S) (place word found : ℕ) → w ≡ offered place word found (record v { draft = ask.words }) → found ≢ 0 → Learns v w × Saw w.seen (place + 1) found
    missed v w place word found is ne =
        let e : w ≡ record v { draft = ask.words; seen = (place + 1, found) ∷ v.seen } = is ∙ ap (λ (b : Bool). let x : View S = record v {
          used = cond b (v.used + length ask.words) v.used;
          draft = cond b [] ask.words;
          published = cond b (v.published ++ place ∷ []) v.published;
          seen = cond b ((place + 1, word) ∷ placed (start_in word) ask.words ++ v.seen) ((place + 1, found) ∷ v.seen);
        } in x) (ne_eqb found 0 ne) in
        subst (λ (z : View S). Learns v z × Saw z.seen (place + 1) found) (sym e) (record { same = refl; more = λ i x h. inr h }, inl (refl, refl))

  -- a seat that has drafted the record that it may put may offer it
  pub may_offer : (law : RecSort S) (plan : Plan S) (v w : View S) (words : List ℕ) (place distance : ℕ) → w ≡ record v { draft = words } → MayPut law (ask_for law plan words) v → IsReached (ask_for law plan words) v place distance → MayOffer law plan w place distance
  may_offer law plan v w words place distance is may reached =
      let x : View S = record v { draft = words } in
      subst (λ (z : View S). MayOffer law plan z place distance) (sym is) record {
        may = record { is_record = may.is_record; may_publish = may.may_publish; parent = may.parent };
        reached = reached_later (ask_for law plan words) v x place distance (λ i y h. h) reached;
      }
