-- A store into the seat's own arena, past its used part.
use Rattle.std.proofs.Common.{◌≡◌, ◌≢◌, ◌⊎◌, ℕ, ◌+◌, ◌<◌, ◌≤◌, Some, List, [], ◌∷◌, length, get_or, set, take, drop, sym, refl, ap, ◌∙◌, subst, inl, inr, ⊎_elim, arith, length-set, length-append, length-take, get_or-take, get_or-set_other, get_or-set_same}
use Rattle.std.proofs.Math.Seq.{get_or-append_seam}
use Rattle.std.proofs.Math.ListN.{get_or-append}
use mathlib.Core.Logic.{dite}
use mathlib.Core.Option.{none}
use native.Mathlib.Decide.{ℕ_discrete}
use Rattle.atomic_table.specs.Table.{Me, step, keeps, Allows}
use Rattle.cal_words.specs.declared.sort.RecSort.{Ghosts as RecSort}
use Rattle.cal_once.specs.declared.view.View.{View}
use Rattle.cal_once.specs.declared.view.Plan.{Plan}
use Rattle.cal_once.specs.Layout.{IsWithin, AreApart, arena_start, size_in, start_in, slot_of, record_at, probe, times}
use Rattle.cal_once.specs.Views.{drafted}
use Rattle.cal_once.specs.Rule.{Own, HasParent, HoldsAnother, IsFixed, Stands, IsLaid, Sits}
use Rattle.cal_once.specs.Steps.{drafts}
use Rattle.cal_once.proofs.Seen.{at_below}
use Rattle.cal_once.proofs.Regions.{same_part, arena_inside, beside, one_arena, probe_below}
use Rattle.cal_once.proofs.Sounds.{inside}
use Rattle.cal_once.proofs.Moves.{Rule, sits_again, sits_of, moved}

-- each filled slot, and its record, is as before
abbrev pub KeepsRecords : ℕ → List ℕ → List ℕ → Type 0
KeepsRecords slots words words' = (place : ℕ) → place < slots → slot_of words place ≢ 0 → (slot_of words' place ≡ slot_of words place) × (record_at words' place ≡ record_at words place)

-- a word outside of a record, and not its slot, leaves the record
pub record_at-set : (words : List ℕ) (i x place : ℕ) → place + 1 ≢ i → (i < start_in (slot_of words place)) ⊎ (start_in (slot_of words place) + size_in (slot_of words place) ≤ i)
    → start_in (slot_of words place) + size_in (slot_of words place) ≤ length words → (slot_of (set words i x) place ≡ slot_of words place) × (record_at (set words i x) place ≡ record_at words place)
record_at-set words i x place other outside inside =
    let size : ℕ = size_in (slot_of words place) in
    let start : ℕ = start_in (slot_of words place) in
    let slot : slot_of (set words i x) place ≡ slot_of words place = get_or-set_other words i (place + 1) x 0 other in
    let part : take size (drop start (set words i x)) ≡ take size (drop start words) = same_part (set words i x) words size start (length-set words i x)
    (λ j low high. get_or-set_other words i j x 0 (λ e. ⊎_elim (λ before. absurd (omega arith)) (λ after. absurd (omega arith)) outside)) (let l = length-set words i x in omega arith) in
    (slot, (λ j. take (size_in (slot j)) (drop (start_in (slot j)) (set words i x))) ∙ part)

module _ {S : Type 0} (law : RecSort S) (plan : Plan S) where
  abbrev Laid : List ℕ → (ℕ → Own) → Type 0
  Laid = IsLaid law plan

  abbrev StandsIn : List ℕ → (ℕ → Own) → ℕ → Type 0
  StandsIn = Stands law plan

  -- what stood stands still where the records are kept
  pub stands_kept : (words words' : List ℕ) (own own' : ℕ → Own) → 0 < plan.shape.slots → KeepsRecords plan.shape.slots words words' → ((n : ℕ) → (own n).used ≤ (own' n).used)
      → (place : ℕ) → place < plan.shape.slots → slot_of words place ≢ 0 → (st : StandsIn words own place) → times place (own' st.number).published ≡ times place (own st.number).published → StandsIn words' own' place
  stands_kept words words' own own' some_slot same_records more place h filled st listed =
      let same = same_records place h filled in
      let back : record_at words place ≡ record_at words' place = sym same.1 in
      let slots : ℕ = plan.shape.slots in
      let home : List ℕ → ℕ = law.home_of plan.shape.homes in
      let far : (ws : List ℕ) (e : ℕ) → probe plan.shape (home ws) e < slots = λ ws e. probe_below plan.shape (home ws) e some_slot in
      record {
        number = st.number;
        within = let w = st.within in let to = w.to in let m = more st.number in subst (λ (x : ℕ). IsWithin plan.shape st.number (own' st.number).used x) (sym same.0) record { is_arena = w.is_arena; two_words = w.two_words; from = w.from; to = omega arith };
        listed = listed ∙ st.listed;
        is_record = subst (λ (l : List ℕ). law.is_record plan.sort l) back st.is_record;
        may_publish = subst (λ (l : List ℕ). law.may_publish plan.sort st.number l) back st.may_publish;
        distance = st.distance;
        near = st.near;
        at = subst (λ (l : List ℕ). place ≡ probe plan.shape (home l) st.distance) back st.at;
        before = subst (λ (l : List ℕ). (e : ℕ) → e < st.distance → HoldsAnother words' (probe plan.shape (home l) e) l) back
            (λ e less. let b = st.before e less in let k = same_records (probe plan.shape (home (record_at words place)) e) (far (record_at words place) e) b.0 in ((λ none. b.0 (sym k.0 ∙ none)), (λ one. b.1 (sym k.1 ∙ one))));
        has_parent = subst (λ (l : List ℕ). HasParent slots words' l) back
            (⊎_elim inl (λ t. let k = same_records t.0 t.1 t.3 in inr (t.0, t.1, t.2, (λ none. t.3 (sym k.0 ∙ none)), t.4 ∙ ap (λ (l : List ℕ). get_or l 1 0 + 1) (sym k.1))) st.has_parent);
      }

  -- a word of the arena id that isn't used yet stands apart from each record
  module _ (words : List ℕ) (own : ℕ → Own) (laid : Laid words own) (id i x : ℕ) (low : arena_start plan.shape id + (own id).used ≤ i) (high : i < arena_start plan.shape id + plan.shape.arena) where
    pub unused_apart : (place : ℕ) → place < plan.shape.slots → slot_of words place ≢ 0 → (i < start_in (slot_of words place)) ⊎ (start_in (slot_of words place) + size_in (slot_of words place) ≤ i)
    unused_apart place h filled =
        let st = laid.stands place h filled in
        let room = laid.room st.number in
        ⊎_elim (λ (before : i + 1 ≤ start_in (slot_of words place)). inl (omega arith)) inr (beside plan.shape (λ n. (own n).used) st.number id (slot_of words place) i (i + 1) st.within room low (omega arith))

    slot_same : (place : ℕ) → place < plan.shape.slots → slot_of (set words i x) place ≡ slot_of words place
    slot_same place h = get_or-set_other words i (place + 1) x 0 (λ e. omega arith)

    store_keeps : KeepsRecords plan.shape.slots words (set words i x)
    store_keeps place h filled = record_at-set words i x place (λ e. omega arith) (unused_apart place h filled) (inside law plan words own laid place (laid.stands place h filled))

    laid_store : Laid (set words i x) own
    laid_store =
        let filled : (place : ℕ) → place < plan.shape.slots → slot_of (set words i x) place ≢ 0 → slot_of words place ≢ 0 = λ place h f e. f (slot_same place h ∙ e) in
        let shape = laid.shape in
        let homes = shape.some_home in
        let enough = shape.enough_slots in
        record {
          shape = laid.shape;
          long = length-set words i x ∙ laid.long;
          zero_word = get_or-set_other words i 0 x 0 (λ e. omega arith) ∙ laid.zero_word;
          room = laid.room;
          stands = λ place h f. let g = filled place h f in stands_kept words (set words i x) own own (omega arith) store_keeps (λ n. omega arith) place h g (laid.stands place h g) refl;
          apart = λ p q hp hq other fp fq. subst (λ (z : ℕ × ℕ). AreApart z.0 z.1) (λ j. (sym (slot_same p hp) j, sym (slot_same q hq) j)) (laid.apart p q hp hq other (filled p hp fp) (filled q hq fq));
          listed = λ n place some_times. let l = laid.listed n place some_times in (l.0, (λ e. l.1 (sym (slot_same place l.0) ∙ e)), subst (λ (w : ℕ). IsWithin plan.shape n plan.shape.arena w) (sym (slot_same place l.0)) l.2);
        }

    -- what stands for good isn't the stored word
    pub fixed_apart : (j y : ℕ) → IsFixed plan words own j y → j ≢ i
    fixed_apart j y f e = ⊎_elim (λ t. let b = t.1 in absurd (omega arith))
        (λ t. let room = laid.room t.0 in let a = t.1 in let b = t.2 in
        let same : t.0 ≡ id = one_arena plan.shape t.0 id j (omega arith) (omega arith) (omega arith) (omega arith) in
        let u : (own t.0).used ≡ (own id).used = ap (λ (n : ℕ). (own n).used) same in let s : arena_start plan.shape t.0 ≡ arena_start plan.shape id = ap (arena_start plan.shape) same in absurd (omega arith)) f.fixed

    fixed_store : (j y : ℕ) → IsFixed plan words own j y → IsFixed plan (set words i x) own j y
    fixed_store j y f = record { here = get_or-set_other words i j x 0 (fixed_apart j y f) ∙ f.here; fixed = f.fixed }

    others_store : (j : ℕ) (u : View S) → j ≢ id → Sits plan words own j u → Sits plan (set words i x) own j u
    others_store j u other sits = sits_again plan words (set words i x) own own j u u sits refl refl
        (λ k l. let room = sits.room in
        let at : ℕ = arena_start plan.shape j + u.used + k in
        get_or-set_other words i at x 0 (λ e. other (one_arena plan.shape j id at (omega arith) (omega arith) (omega arith) (omega arith))) ∙ sits.draft k l)
        (λ n y saw. fixed_store n y (sits.seen n y saw))

  pub allows_store : (slots id i k x : ℕ) (me : Me ℕ (View S)) → me.0.plan ≡ Some plan → k ≤ length me.0.draft → me.0.used + k < plan.shape.arena → i ≡ arena_start plan.shape me.0.number + me.0.used + k
      → Allows (Rule law plan) slots id me i (λ _. x) (λ _. drafts (step slots i x 0 none) me x)
  allows_store slots id i k x me live past room place s kept _ at _ =
      let v : View S = me.0 in
      let w : View S = drafted k x v in
      let sits = sits_of law plan s kept id v at live in
      let number : v.number ≡ id = sits.number_is in
      let used : v.used ≡ (kept.own id).used = sits.used_is in
      let where_it_starts : arena_start plan.shape v.number ≡ arena_start plan.shape id = ap (arena_start plan.shape) number in
      let low : arena_start plan.shape id + (kept.own id).used ≤ i = omega arith in
      let high : i < arena_start plan.shape id + plan.shape.arena = omega arith in
      let few = kept.few in
      let below = at_below s.views v id at in
      let bound = arena_inside plan.shape id plan.shape.arena (omega arith) (omega arith) in
      let long = kept.laid.long in
      let front : length (take k v.draft) ≡ k = omega (arith, length-take k v.draft) in
      let whole : length w.draft ≡ k + 1 = length-append (take k v.draft) (x ∷ []) ∙ (omega arith) in
      let mine : Sits plan (set s.words i x) kept.own id w = record {
        plan_is = sits.plan_is;
        number_is = sits.number_is;
        used_is = sits.used_is;
        published_is = sits.published_is;
        room = omega arith;
        draft = λ j l. dite (ℕ_discrete j k)
            (λ e. let here : arena_start plan.shape id + v.used + j ≡ i = omega arith in ap (λ (n : ℕ). get_or (set s.words i x) n 0) here ∙ get_or-set_same s.words i x 0 (omega arith)
            ∙ sym (ap (λ (n : ℕ). get_or w.draft n 0) (e ∙ sym front) ∙ get_or-append_seam (take k v.draft) x [] 0))
            (λ ne. let less : j < k = omega arith in get_or-set_other s.words i (arena_start plan.shape id + v.used + j) x 0 (λ e. omega arith) ∙ sits.draft j (omega arith)
            ∙ sym (get_or-append (take k v.draft) (x ∷ []) 0 j (omega arith) ∙ get_or-take k v.draft j 0 less));
        seen = λ n y saw. fixed_store s.words kept.own kept.laid id i x low high n y (sits.seen n y saw);
      } in (
        w,
        keeps,
        tt,
        moved law plan s kept id v w (set s.words i x) kept.own at live (laid_store s.words kept.own kept.laid id i x low high) mine refl (λ _ _. refl)
            (others_store s.words kept.own kept.laid id i x low high),
        λ p j is there. let same : plan ≡ p = cc in
            let starts : arena_start plan.shape v.number ≡ arena_start p.shape v.number = ap (λ (q : Plan S). arena_start q.shape v.number) same in
            let e : k ≡ j = omega arith in ap (λ (n : ℕ). (drafted n x v, me.1)) e,
      )
