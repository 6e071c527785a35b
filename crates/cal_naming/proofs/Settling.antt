-- What the first seat knows once it took in all workers' seats.
use Rattle.std.proofs.Common.{◌≡◌, ℕ, zero, suc, ◌+◌, ◌<◌, List, [], ◌∷◌, ◌++◌, length, map, get_or}
use Rattle.std.proofs.Common.{refl, sym, ap, ◌∙◌, subst, arith}
use Rattle.std.specs.Prelude.{All, Some, slice_get, slice_index_or}
use Rattle.std.specs.List.{AllZip}
use Rattle.std.proofs.lemmas.Option.{same_Some}
use Rattle.cal_names.proofs.Differing.{equal_declarations}
use Rattle.cal_names.proofs.Walking.{is_slot}
use Rattle.cal_names.specs.Declarations.{Declaration, HasNameLength, IsDeclaration, name_words}
use Rattle.cal_names.specs.Kept.{IsKept, plan_of}
use Rattle.cal_names.specs.declared.names.Names.{Names}
use Rattle.cal_names.specs.declared.record.NameSort.{NameSort}
use Rattle.cal_naming.proofs.Joining.{all-joined, gathered-from}
use Rattle.cal_naming.proofs.Lists.{zip-more, zip-right}
use Rattle.cal_naming.proofs.Telling.{told-later}
use Rattle.cal_naming.specs.Settled.{IsSaid, IsSettled}
use Rattle.cal_naming.specs.Told.{IsOwn, IsTold, declaration_of}
use Rattle.cal_naming.specs.Workers.{HasJoined, IsDone, IsFirst, answers_of, lines_of}
use Rattle.cal_naming.specs.declared.worker.Worker.{Worker}
use Rattle.cal_once.proofs.Learning.{holds_later}
use Rattle.cal_once.proofs.Seen.{was_seen_from}
use Rattle.cal_once.specs.Layout.{times}
use Rattle.cal_once.specs.Seats.{view}
use Rattle.cal_once.specs.Views.{AllJoined, gathered}
use Rattle.cal_once.specs.declared.seat.RowSeat.{RowSeat}
use Rattle.cal_once.specs.declared.view.Plan.{Plan}
use Rattle.cal_once.specs.declared.view.View.{View}
use Rattle.cal_words.specs.Records.{IsText}

-- ---- lists

-- there is an item at a place within a list
at-place : {A : Type 0} (xs : List A) (k : ℕ) → k < length xs
    → (x : A) × (slice_get xs k ≡ Some x) × (slice_index_or xs k x ≡ x)
at-place [] k less = absurd (omega (arith, less))
at-place (a ∷ xs) zero less = (a, refl, refl)
at-place (a ∷ xs) (suc k) less = at-place xs k (omega (arith, less))

get-map : {A B : Type 0} (f : A → B) (xs : List A) (k : ℕ) (x : A) → slice_get xs k ≡ Some x
    → slice_get (map f xs) k ≡ Some (f x)
get-map f [] k x is = absurd cc
get-map f (a ∷ xs) zero x is = ap (λ y. Some (f y)) (same_Some a x is)
get-map f (a ∷ xs) (suc k) x is = get-map f xs k x is

zip-made : {W A B : Type 0} (f : W → A) (g : W → B) (R : A → B → Type 0) (ws : List W)
    → All (λ w. R (f w) (g w)) ws → AllZip R (map f ws) (map g ws)
zip-made f g R [] all = tt
zip-made f g R (w ∷ ws) all =
    (all 0 w (omega arith), zip-made f g R ws (λ k d less. all (suc k) d (omega (arith, less))))

-- ---- words

-- a declaration of a name that is declared, with the words of a declaration, is that one
one-declared : (a b d : Declaration) → IsDeclaration b → b.name ≡ a.name → IsDeclaration d
    → name_words a ≡ name_words d → a ≡ d
one-declared a b d is_b same is_d words =
    let props : a.props ≡ d.props = ap (λ (ws : List ℕ). get_or ws 3 0) words in
    let is_a : IsDeclaration a = record {
      text = subst (λ (n : List ℕ). IsText n) same is_b.text;
      long = subst (λ (n : List ℕ). HasNameLength n) same is_b.long;
      props = omega (arith, props, is_d.props);
    } in
    equal_declarations a d is_a is_d words

-- ---- all workers

module _ (names : Names) (first : RowSeat NameSort) (ws : List Worker)
    (is : IsFirst names first (length ws)) (done : All (IsDone names) ws)
    (joined : (k : ℕ) (d : Worker) → k < length ws
    → HasJoined first (slice_index_or ws k d) k) where
  abbrev plan : Plan NameSort
  plan = plan_of names

  abbrev v : View NameSort
  v = view first

  all-home : AllJoined v
  all-home = (
    is.number,
    all-joined v.others (λ k less.
        let w = at-place ws k (omega (arith, less, is.others)) in (
          (view w.0.seat).published,
          subst (λ (x : Worker). slice_get v.others k ≡ Some (Some (view x.seat).published)) w.2
              (joined k w.0 (omega (arith, less, is.others))).published,
        )),
  )

  told : AllZip (AllZip (IsTold plan v)) (lines_of ws) (answers_of ws)
  told = zip-made (λ (w : Worker). w.lines.now) (λ (w : Worker). w.answers.items)
      (AllZip (IsTold plan v)) ws (λ k d less.
      let w : Worker = slice_index_or ws k d in
      zip-more (IsTold plan (view w.seat)) (IsTold plan v) w.lines.now w.answers.items
      (λ line answer t. told-later plan (view w.seat) v line answer (joined k d less).knows t)
      (done k d less).declared.told)

  -- a kept declaration is a worker's line
  module _ (d : Declaration) (place : ℕ) (kept : IsKept plan v d place) where
    within : place < plan.shape.slots
    within = subst (λ (p : ℕ). p < plan.shape.slots) (sym kept.at)
        (is_slot plan d.name kept.distance kept.near)

    listed : 0 < times place (gathered v.others)
    listed =
        let known = was_seen_from v.seen (place + 1) kept.holds.slot kept.holds.known in
        let once = (is.at.sound.once all-home place).0 within known in
        let none = ap (λ (ps : List ℕ). times place (ps ++ gathered v.others)) is.published in
        omega (arith, once, none)

    said-by : (k : ℕ) → k < length ws → (w : Worker) → slice_get ws k ≡ Some w
        → HasJoined first w k → IsDone names w
        → IsOwn (view w.seat) w.lines.now w.answers.items place → IsSaid (lines_of ws) (answers_of ws) d place
    said-by k less w w_is has by own =
        let t = zip-right (IsTold plan (view w.seat)) w.lines.now w.answers.items own.at own.line
        by.declared.told own.line_is in
        let holds = holds_later (view w.seat) v place (name_words (declaration_of own.line))
        has.knows own.holds in
        let words = is.at.sound.one_record place (name_words (declaration_of own.line))
        (name_words d) within holds kept.holds in
        record {
          thread = k;
          lines = w.lines.now;
          lines_are = get-map (λ (x : Worker). x.lines.now) ws k w w_is;
          own = w.answers.items;
          own_are = get-map (λ (x : Worker). x.answers.items) ws k w w_is;
          at = own.at;
          line = own.line;
          line_is = own.line_is;
          says = one-declared (declaration_of own.line) t.2.0 d t.2.3.is_declaration t.2.2
              kept.is_declaration words;
          before = own.before;
        }

    said : IsSaid (lines_of ws) (answers_of ws) d place
    said =
        let from = gathered-from v.others place listed in
        let less : from.0 < length ws = omega (arith, from.1, is.others) in
        let w = at-place ws from.0 less in
        let has : HasJoined first w.0 from.0 =
        subst (λ (x : Worker). HasJoined first x from.0) w.2 (joined from.0 w.0 less) in
        let by : IsDone names w.0 = subst (λ (x : Worker). IsDone names x) w.2
        (done from.0 w.0 less) in
        let same : from.2.0 ≡ (view w.0.seat).published = same_Some from.2.0
        (view w.0.seat).published (same_Some (Some from.2.0) (Some (view w.0.seat).published)
        (sym from.2.1 ∙ has.published)) in
        let some : 0 < times place (view w.0.seat).published =
        subst (λ (ps : List ℕ). 0 < times place ps) same from.2.2 in
        said-by from.0 less w.0 w.1 has by (by.declared.own place some)

  pub settled : IsSettled plan v (lines_of ws) (answers_of ws)
  settled = record { sound = is.at.sound; told = told; said = said }
