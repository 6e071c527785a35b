-- What a call that declares a name comes to.
use Rattle.std.proofs.Common.{◌≡◌, ◌⊎◌, ℕ, ◌+◌, ◌<◌, ◌≤◌, Bool, true, false, List, [], ◌∷◌, ◌++◌, length, sym, refl, ap, ◌∙◌, subst, inl, inr, ⊎_elim, arith}
use Rattle.std.proofs.lemmas.Bool.{cases_lt}
use Rattle.cal_once.specs.Puts as rows
use Rattle.cal_once.specs.Puts.{IsPlaced, MayPut, PassesOthers}
use Rattle.cal_once.specs.Sound.{IsSound}
use Rattle.cal_once.specs.Views.{Holds, HoldsOther, Knows, KnowsMore}
use Rattle.cal_once.specs.declared.answer.Put.TheVariants.{Placed, RowsFull, ArenaFull}
use Rattle.cal_once.specs.declared.view.Plan.{Plan}
use Rattle.cal_once.specs.declared.view.View.{View}
use Rattle.cal_once.proofs.Learning.{holds_later}
use Rattle.cal_once.proofs.Seen.{was_seen_from}
use Rattle.cal_names.specs.Answers.{IsOpen, Looks, PublishesNothing, PublishesOne, Says, name_ask}
use Rattle.cal_names.specs.Declarations.{Declaration, IsDeclaration, name_words}
use Rattle.cal_names.specs.Kept.{IsKept, PassesOtherNames, name_law, name_place}
use Rattle.cal_names.specs.declared.declare.Declared.{Declared}
use Rattle.cal_names.specs.declared.record.NameSort.{NameSort}
use Rattle.cal_names.proofs.Reading.{kept_later, other_of_name, place_of_name}
use Rattle.cal_names.proofs.Walking.{HasComeTo, come_to_kept, empty_by_looks, never_open, nothing_by_learning, nothing_by_looks, nothing_by_noting, nothing_then, one_kept}

module _ (plan : Plan NameSort) where
  -- each seat may put a declaration
  pub may_put : (v : View NameSort) (d : Declaration) → IsDeclaration d → MayPut name_law (name_ask plan d) v
  may_put v d is = record { is_record = record { declaration = d; is_declaration = is; spelled = refl }; may_publish = tt; parent = inl (refl, refl) }

  -- a walk passed other records than this declaration
  pub passes_others : (v : View NameSort) (d : Declaration) (n : ℕ) → IsDeclaration d → PassesOtherNames plan v d.name n → PassesOthers (name_ask plan d) v n
  passes_others v d n is before e l = subst (λ (p : ℕ). HoldsOther v p (name_words d)) (place_of_name plan d is e) (other_of_name v d (name_place plan d.name e) is (before e l))

  pub open_within : (v : View NameSort) (name : List ℕ) (n : ℕ) → IsOpen plan v name n → n ≤ plan.shape.slots
  open_within v name n = ⊎_elim (λ e. omega arith) (λ t. let l = t.0 in omega arith)

  placed_of : (v w : View NameSort) (d : Declaration) (place : ℕ) (fresh : Bool) → rows.Answers (name_ask plan d) v w (Placed place fresh) → IsPlaced (name_ask plan d) w place
  placed_of v w d place true a = a.0
  placed_of v w d place false a = a.0

  -- the seat has come to a declaration that it has put
  come_to_placed : (w : View NameSort) (d : Declaration) (place : ℕ) → IsDeclaration d → (placed : IsPlaced (name_ask plan d) w place) → HasComeTo plan w d placed.distance
  come_to_placed w d place is placed = record {
    is_declaration = is;
    near = placed.reached.near;
    known = known;
    holds = subst (λ (p : ℕ). Holds w p (name_words d)) at placed.holds;
  }
    where
      at : place ≡ name_place plan d.name placed.distance
      at = placed.reached.at ∙ sym (place_of_name plan d is placed.distance)

      known : (e : ℕ) → e ≤ placed.distance → Knows w (name_place plan d.name e)
      known e l = ⊎_elim
          (λ (less : e < placed.distance).
          let h = placed.reached.before e less in
          subst (λ (p : ℕ). Knows w p) (sym (place_of_name plan d is e)) (was_seen_from w.seen (rows.place_at (name_ask plan d) e + 1) h.slot h.known))
          (λ (more : placed.distance ≤ e).
          let same : placed.distance ≡ e = omega arith in
          subst (λ (p : ℕ). Knows w p) (at ∙ ap (name_place plan d.name) same) (was_seen_from w.seen (place + 1) placed.holds.slot placed.holds.known))
          (cases_lt e placed.distance)

  -- behind a put the walk that goes on meets a declaration of the name
  pub never_open_placed : (u v w : View NameSort) (d : Declaration) (place : ℕ) (fresh : Bool) (reach : ℕ) → IsDeclaration d → rows.Answers (name_ask plan d) u v (Placed place fresh) → IsSound name_law plan w → KnowsMore v w → PassesOtherNames plan w d.name reach → IsOpen plan v d.name reach → ⊥
  never_open_placed u v w d place fresh reach is answers sound more passed is_open =
      let placed = placed_of u v d place fresh answers in
      never_open plan v w d placed.distance reach sound more (come_to_placed v d place is placed) passed is_open

  -- a walk meets what the seat knew to be kept
  pub never_open_kept : (v w : View NameSort) (kept : Declaration) (place : ℕ) (name : List ℕ) (reach : ℕ) → kept.name ≡ name → IsKept plan v kept place → IsSound name_law plan w → KnowsMore v w → PassesOtherNames plan w name reach → IsOpen plan v name reach → ⊥
  never_open_kept v w kept place name reach same is sound more passed is_open =
      never_open plan v w kept is.distance reach sound more (come_to_kept plan v kept place is)
      (subst (λ (n : List ℕ). PassesOtherNames plan w n reach) (sym same) passed)
      (subst (λ (n : List ℕ). IsOpen plan v n reach) (sym same) is_open)

  -- what is said of one kept declaration of a name is said of each
  pub says_again : (v w : View NameSort) (d kept found : Declaration) (place at : ℕ) (answer : Declared) → IsSound name_law plan w → KnowsMore v w → kept.name ≡ found.name → IsKept plan v kept place → IsKept plan w found at → Says d found at answer → Says d kept place answer
  says_again v w d kept found place at answer sound more same is is_found says =
      let one = one_kept plan w kept found place at sound same (kept_later plan v w kept place more is) is_found in
      subst (λ (x : Declaration). Says d x place answer) (sym one.1) (subst (λ (p : ℕ). Says d found p answer) (sym one.0) says)

  -- what was published by a put between two walks
  pub published_by_put : (v u x w : View NameSort) (d : Declaration) (place : ℕ) (fresh : Bool) → Looks plan v u → rows.Answers (name_ask plan d) u x (Placed place fresh) → PublishesNothing plan x w → KnowsMore x w → PublishesNothing plan v w ⊎ PublishesOne plan d v w
  published_by_put v u x w d place false looks answers last more =
      inl (nothing_then plan v x w (nothing_then plan v u x (nothing_by_looks plan v u looks) (nothing_by_learning plan u x answers.1)) last)
  published_by_put v u x w d place true looks answers last more =
      let first = nothing_by_looks plan v u looks in
      let learns = answers.1 in
      inr record {
        place = place;
        fresh = empty_by_looks plan v u place looks answers.2;
        holds = holds_later x w place (name_words d) more answers.0.holds;
        used = last.used ∙ ap (λ (y : View NameSort). y.used) learns.same ∙ ap (λ (n : ℕ). n + length (name_words d)) first.used;
        published = last.published ∙ ap (λ (y : View NameSort). y.published) learns.same ∙ ap (λ (ps : List ℕ). ps ++ place ∷ []) first.published;
      }

  -- a refusal published nothing
  pub nothing_by_rows_full : (v u w : View NameSort) (d : Declaration) → Looks plan v u → rows.Answers (name_ask plan d) u w RowsFull → PublishesNothing plan v w
  nothing_by_rows_full v u w d looks answers = nothing_then plan v u w (nothing_by_looks plan v u looks) (nothing_by_learning plan u w answers.1)

  pub nothing_by_arena_full : (v u w : View NameSort) (d : Declaration) (used need : ℕ) → Looks plan v u → rows.Answers (name_ask plan d) u w (ArenaFull used need) → PublishesNothing plan v w
  nothing_by_arena_full v u w d used need looks answers = nothing_then plan v u w (nothing_by_looks plan v u looks) (nothing_by_noting plan u w answers.place answers.learns)
