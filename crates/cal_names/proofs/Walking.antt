-- How a walk goes on, and how it ends.
use Rattle.std.proofs.Common.{◌≡◌, ℕ, ◌+◌, ◌<◌, ◌≤◌, List, sym, ap, ◌∙◌, subst, ⊎_elim, arith}
use Rattle.std.proofs.lemmas.Bool.{cases_lt}
use Rattle.cal_once.specs.Layout.{start_in, times}
use Rattle.cal_once.specs.Sound.{IsSound}
use Rattle.cal_once.specs.Steps.{WasEmpty}
use Rattle.cal_once.specs.Views.{AllJoined, Holds, IsLater, Knows, KnowsMore, Learns, all_published, noting}
use Rattle.cal_once.specs.declared.view.Plan.{Plan}
use Rattle.cal_once.specs.declared.view.View.{View}
use Rattle.cal_once.proofs.Learning.{holds_later, knows_later, learns_then}
use Rattle.cal_once.proofs.Seen.{was_seen_from}
use Rattle.cal_names.specs.Answers.{IsOpen, Looks, PublishesNothing}
use Rattle.cal_names.specs.Declarations.{Declaration, IsDeclaration, name_words}
use Rattle.cal_names.specs.Kept.{HasOtherName, IsKept, PassesOtherNames, name_law, name_place}
use Rattle.cal_names.specs.declared.record.NameSort.{NameSort}
use Rattle.cal_names.proofs.Differing.{equal_declarations}
use Rattle.cal_names.proofs.Reading.{not_other, other_name_later}

module _ {S : Type 0} (plan : Plan S) where
  -- a slot that is empty now was empty before
  pub was_empty_before : (v w : View S) (place : ℕ) → Learns v w → WasEmpty plan w place → WasEmpty plan v place
  was_empty_before v w place l e = record {
    unknown = λ k. e.unknown (knows_later v w place l.more k);
    no_parent = λ p. e.no_parent (p.0, p.1, p.2, l.more (p.0 + 1) p.1 p.3, l.more (start_in p.1) (place + 1) p.4);
    unlisted = λ all. ap (λ (x : View S). times place (all_published x)) (sym l.same) ∙ e.unlisted (subst (λ (x : View S). AllJoined x) (sym l.same) all);
  }

  was_empty_noted : (v : View S) (noted place : ℕ) → WasEmpty plan (noting noted v) place → WasEmpty plan v place
  was_empty_noted v noted place e = record { unknown = e.unknown; no_parent = e.no_parent; unlisted = e.unlisted }

  -- a slot that was noted behind other learning
  pub notes_then : (u v w : View S) (place : ℕ) → Learns u v → Learns (noting place v) w → Learns (noting place u) w
  notes_then u v w place a b = learns_then (noting place u) (noting place v) w record { same = ap (noting place) a.same; more = a.more } b

module _ (plan : Plan NameSort) where
  pub more_by_looks : (v w : View NameSort) → Looks plan v w → KnowsMore v w
  more_by_looks v w = ⊎_elim (λ l. l.more) (λ t. t.2.more)

  pub later_by_looks : (v w : View NameSort) → Looks plan v w → IsLater v w
  later_by_looks v w = ⊎_elim
      (λ l. (ap (λ (x : View NameSort). x.plan) l.same, ap (λ (x : View NameSort). x.number) l.same, ap (λ (x : View NameSort). x.others) l.same, l.more))
      (λ t. let l = t.2 in (ap (λ (x : View NameSort). x.plan) l.same, ap (λ (x : View NameSort). x.number) l.same, ap (λ (x : View NameSort). x.others) l.same, l.more))

  pub later_then : (u v w : View NameSort) → IsLater u v → IsLater v w → IsLater u w
  later_then u v w a b = (b.0 ∙ a.0, b.1 ∙ a.1, b.2 ∙ a.2, λ i x h. b.3 i x (a.3 i x h))

  pub nothing_by_learning : (v w : View NameSort) → Learns v w → PublishesNothing plan v w
  nothing_by_learning v w l = record { used = ap (λ (x : View NameSort). x.used) l.same; published = ap (λ (x : View NameSort). x.published) l.same }

  pub nothing_by_noting : (v w : View NameSort) (place : ℕ) → Learns (noting place v) w → PublishesNothing plan v w
  nothing_by_noting v w place l = record { used = ap (λ (x : View NameSort). x.used) l.same; published = ap (λ (x : View NameSort). x.published) l.same }

  pub nothing_by_looks : (v w : View NameSort) → Looks plan v w → PublishesNothing plan v w
  nothing_by_looks v w = ⊎_elim (λ l. nothing_by_learning v w l) (λ t. nothing_by_noting v w t.0 t.2)

  pub nothing_then : (u v w : View NameSort) → PublishesNothing plan u v → PublishesNothing plan v w → PublishesNothing plan u w
  nothing_then u v w a b = record { used = b.used ∙ a.used; published = b.published ∙ a.published }

  pub empty_by_looks : (v w : View NameSort) (place : ℕ) → Looks plan v w → WasEmpty plan w place → WasEmpty plan v place
  empty_by_looks v w place looks e = ⊎_elim
      (λ l. was_empty_before plan v w place l e)
      (λ t. was_empty_noted plan v t.0 place (was_empty_before plan (noting t.0 v) w place t.2 e)) looks

  -- one slot more was passed
  pub passes_one_more : (v w : View NameSort) (name : List ℕ) (n : ℕ) → KnowsMore v w → PassesOtherNames plan v name n → HasOtherName w name (name_place plan name n) → PassesOtherNames plan w name (n + 1)
  passes_one_more v w name n more before here e less = ⊎_elim
      (λ (l : e < n). other_name_later v w name (name_place plan name e) more (before e l))
      (λ (m : n ≤ e). let same : n ≡ e = omega arith in subst (λ (k : ℕ). HasOtherName w name (name_place plan name k)) same here)
      (cases_lt e n)

  -- a place at a distance is one of the slots
  pub is_slot : (name : List ℕ) (distance : ℕ) → distance < plan.shape.slots → name_place plan name distance < plan.shape.slots
  is_slot name distance near = omega arith

  -- The seat knows all slots from the home of a declaration's name to this distance, at which the
  -- declaration stands.
  pub record HasComeTo (v : View NameSort) (d : Declaration) (distance : ℕ) : Type 0 where
    pub is_declaration : IsDeclaration d
    pub near : distance < plan.shape.slots
    pub known : (e : ℕ) → e ≤ distance → Knows v (name_place plan d.name e)
    pub holds : Holds v (name_place plan d.name distance) (name_words d)

  -- then no walk ends without a declaration of the name
  pub never_open : (v w : View NameSort) (d : Declaration) (distance reach : ℕ) → IsSound name_law plan w → KnowsMore v w → HasComeTo v d distance → PassesOtherNames plan w d.name reach → IsOpen plan v d.name reach → ⊥
  never_open v w d distance reach sound more came passed is_open = ⊎_elim
      (λ (before : distance < reach).
      let place : ℕ = name_place plan d.name distance in
      not_other plan w sound d place (is_slot d.name distance came.near) came.is_declaration (holds_later v w place (name_words d) more came.holds) (passed distance before))
      (λ (after : reach ≤ distance). ⊎_elim
      (λ e. let near = came.near in absurd (omega arith))
      (λ t. t.1.unknown (came.known reach after)) is_open)
      (cases_lt distance reach)

  -- the seat has come to each declaration that it knows to be kept
  pub come_to_kept : (v : View NameSort) (d : Declaration) (place : ℕ) (kept : IsKept plan v d place) → HasComeTo v d kept.distance
  come_to_kept v d place kept = record {
    is_declaration = kept.is_declaration;
    near = kept.near;
    known = known;
    holds = subst (λ (p : ℕ). Holds v p (name_words d)) kept.at kept.holds;
  }
    where
      known : (e : ℕ) → e ≤ kept.distance → Knows v (name_place plan d.name e)
      known e l = ⊎_elim
          (λ (less : e < kept.distance). let h = kept.before e less in was_seen_from v.seen (name_place plan d.name e + 1) h.slot h.known)
          (λ (more : kept.distance ≤ e).
          let same : kept.distance ≡ e = omega arith in
          let at : place ≡ name_place plan d.name e = kept.at ∙ ap (name_place plan d.name) same in
          subst (λ (p : ℕ). Knows v p) at (was_seen_from v.seen (place + 1) kept.holds.slot kept.holds.known))
          (cases_lt e kept.distance)

  -- a name has one kept declaration, at one place
  pub one_kept : (v : View NameSort) (a b : Declaration) (p q : ℕ) → IsSound name_law plan v → a.name ≡ b.name → IsKept plan v a p → IsKept plan v b q → (p ≡ q) × (a ≡ b)
  one_kept v a b p q sound same ka kb = ⊎_elim
      (λ (less : ka.distance < kb.distance). absurd (
      let here : HasOtherName v a.name p = subst (λ (x : ℕ). HasOtherName v a.name x) (sym ka.at) (subst (λ (n : List ℕ). HasOtherName v n (name_place plan n ka.distance)) (sym same) (kb.before ka.distance less)) in
      not_other plan v sound a p (within a p ka) ka.is_declaration ka.holds here))
      (λ (more : kb.distance ≤ ka.distance). ⊎_elim
      (λ (less : kb.distance < ka.distance). absurd (
      let here : HasOtherName v b.name q = subst (λ (x : ℕ). HasOtherName v b.name x) (sym kb.at) (subst (λ (n : List ℕ). HasOtherName v n (name_place plan n kb.distance)) same (ka.before kb.distance less)) in
      not_other plan v sound b q (within b q kb) kb.is_declaration kb.holds here))
      (λ (least : ka.distance ≤ kb.distance).
      let distances : ka.distance ≡ kb.distance = omega arith in
      let places : p ≡ q = ka.at ∙ (λ i. name_place plan (same i) (distances i)) ∙ sym kb.at in
      let holds : Holds v q (name_words a) = subst (λ (x : ℕ). Holds v x (name_words a)) places ka.holds in
      (places, equal_declarations a b ka.is_declaration kb.is_declaration (sound.one_record q (name_words a) (name_words b) (within b q kb) holds kb.holds)))
      (cases_lt kb.distance ka.distance))
      (cases_lt ka.distance kb.distance)
    where
      within : (d : Declaration) (place : ℕ) → IsKept plan v d place → place < plan.shape.slots
      within d place k = subst (λ (x : ℕ). x < plan.shape.slots) (sym k.at) (is_slot d.name k.distance k.near)
