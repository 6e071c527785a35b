-- The list of kept declarations, one line more at a time.
use Rattle.std.proofs.Common.{◌≡◌, ◌≢◌, ℕ, zero, suc, ◌<◌, Bool, true, false, List, [], ◌∷◌, ◌++◌}
use Rattle.std.proofs.Common.{length}
use Rattle.std.proofs.Common.{refl, sym, ap, ◌∙◌, subst, arith, length-set, set}
use Rattle.std.specs.Prelude.{Contains, Some, slice_get}
use mathlib.Core.Logic.{dite}
use native.Mathlib.Decide.{ℕ_discrete}
use Rattle.std.proofs.lemmas.List.Elements.{All-contains, All-push, Contains-append_left}
use Rattle.std.proofs.lemmas.List.Elements.{Contains-push}
use Rattle.cal_names.proofs.Differing.{equal_declarations}
use Rattle.cal_names.proofs.Walking.{is_slot, one_kept}
use Rattle.cal_names.specs.Declarations.{Declaration, name_words}
use Rattle.cal_names.specs.Kept.{IsKept, name_law}
use Rattle.cal_names.specs.declared.declare.Declared.{Declared}
use Rattle.cal_names.specs.declared.declare.Declared.TheVariants.{Same, Different}
use Rattle.cal_names.specs.declared.record.NameSort.{NameSort}
use Rattle.cal_naming.proofs.Names.{distinct-push, one-line}
use Rattle.cal_naming.specs.Keeping.{Grows, HasAllOf, IsList, IsListed}
use Rattle.cal_naming.specs.Told.{IsTold, declaration_of}
use Rattle.cal_once.specs.Sound.{IsSound}
use Rattle.cal_once.specs.declared.view.Plan.{Plan}
use Rattle.cal_once.specs.declared.view.View.{View}
use Rattle.cal_value.specs.declared.attribute.Attribute.{Attribute}

-- ---- marks

get-set_here : (ms : List Bool) (i : ℕ) (b : Bool) → i < length ms
    → slice_get (set ms i b) i ≡ Some b
get-set_here [] i b less = absurd (omega (arith, less))
get-set_here (m ∷ ms) zero b less = refl
get-set_here (m ∷ ms) (suc i) b less = get-set_here ms i b (omega (arith, less))

get-set_other : (ms : List Bool) (i j : ℕ) (b : Bool) → j ≢ i
    → slice_get (set ms i b) j ≡ slice_get ms j
get-set_other [] i j b other = refl
get-set_other (m ∷ ms) zero zero b other = absurd (other refl)
get-set_other (m ∷ ms) zero (suc j) b other = refl
get-set_other (m ∷ ms) (suc i) zero b other = refl
get-set_other (m ∷ ms) (suc i) (suc j) b other =
    get-set_other ms i j b (λ e. other (ap suc e))

-- a mark stays where another one is made
mark-stays : (ms : List Bool) (i j : ℕ) → i < length ms → slice_get ms j ≡ Some true
    → slice_get (set ms i true) j ≡ Some true
mark-stays ms i j less is = dite (ℕ_discrete j i)
    (λ same. subst (λ (k : ℕ). slice_get (set ms i true) k ≡ Some true) (sym same)
    (get-set_here ms i true less))
    (λ other. get-set_other ms i j true other ∙ is)

-- ---- lists

-- a list has all of itself
pub all-of-itself : (kept : List Attribute) → HasAllOf kept kept
all-of-itself kept line has = has

-- a line stays listed in a longer list
pub listed-later : (old new : List Attribute) → HasAllOf old new → (line : Attribute)
    (answer : Declared) → IsListed old line answer → IsListed new line answer
listed-later old new more line (Same place) is = more line is
listed-later old new more line (Different place k props) is = tt

module _ (plan : Plan NameSort) (v : View NameSort) (sound : IsSound name_law plan v) where
  pub kept-within : (d : Declaration) (place : ℕ) → IsKept plan v d place → place < plan.shape.slots
  kept-within d place k = subst (λ (p : ℕ). p < plan.shape.slots) (sym k.at)
      (is_slot plan d.name k.distance k.near)

  -- lines that are kept at one place are one
  kept-at-one : (a b : Attribute) (place : ℕ) → IsKept plan v (declaration_of a) place
      → IsKept plan v (declaration_of b) place → a ≡ b
  kept-at-one a b place first second = one-line a b
      (equal_declarations (declaration_of a) (declaration_of b) first.is_declaration
      second.is_declaration
      (sound.one_record place (name_words (declaration_of a)) (name_words (declaration_of b))
      (kept-within (declaration_of a) place first) first.holds second.holds))

  -- a line that was told that it is the kept one is kept there
  told-same : (line : Attribute) (place : ℕ) → IsTold plan v line (Same place)
      → IsKept plan v (declaration_of line) place
  told-same line place t =
      subst (λ (p : ℕ). IsKept plan v (declaration_of line) p) (sym t.4.0)
      (subst (λ (d : Declaration). IsKept plan v d t.1) t.4.1 t.3)

  module _ (all kept : List Attribute) (marks : List Bool) (is : IsList plan v all kept marks)
      (line : Attribute) where
    -- a line whose place is marked stands in the list
    pub listed-already : (place : ℕ) → IsTold plan v line (Same place)
        → slice_get marks place ≡ Some true → Contains kept line
    listed-already place told mark =
        let k = is.marked place mark in
        subst (λ (x : Attribute). Contains kept x)
        (kept-at-one k.0 line place k.2 (told-same line place told)) k.1

    -- a line whose place isn't marked goes to the list
    module _ (place : ℕ) (told : IsTold plan v line (Same place)) (among : Contains all line)
        (free : slice_get marks place ≡ Some false) where
      here : IsKept plan v (declaration_of line) place
      here = told-same line place told

      inside : place < length marks
      inside = let l = kept-within (declaration_of line) place here in omega (arith, l, is.slots)

      other : (k : Attribute) → Contains kept k → line.name ≢ k.name
      other k has same =
          let h = All-contains (λ (x : Attribute). (p : ℕ) × IsKept plan v (declaration_of x) p
          × (slice_get marks p ≡ Some true)) kept k is.placed has in
          let one = one_kept plan v (declaration_of line) (declaration_of k) place h.0 sound same
          here h.1 in
          let mark : slice_get marks place ≡ Some true =
          subst (λ (p : ℕ). slice_get marks p ≡ Some true) (sym one.0) h.2 in
          absurd cc

      marked : (p : ℕ) → slice_get (set marks place true) p ≡ Some true
          → (k : Attribute) × Contains (kept ++ line ∷ []) k × IsKept plan v (declaration_of k) p
      marked p mark = dite (ℕ_discrete p place)
          (λ same. (
            line,
            Contains-push kept line,
            subst (λ (q : ℕ). IsKept plan v (declaration_of line) q) (sym same) here,
          ))
          (λ apart.
          let k = is.marked p (sym (get-set_other marks place p true apart) ∙ mark) in
          (k.0, Contains-append_left kept (line ∷ []) k.0 k.1, k.2))

      pub list-more : Grows plan v all kept (kept ++ line ∷ []) (set marks place true)
      list-more = record {
        list = record {
          slots = length-set marks place true ∙ is.slots;
          once = distinct-push kept line is.once other;
          lines = All-push (λ (k : Attribute). Contains all k) kept line is.lines among;
          placed = All-push (λ (k : Attribute). (p : ℕ) × IsKept plan v (declaration_of k) p
              × (slice_get (set marks place true) p ≡ Some true)) kept line
              (λ i d less. let h = is.placed i d less in
              (h.0, h.1, mark-stays marks place h.0 inside h.2))
              (place, here, get-set_here marks place true inside);
          marked = marked;
        };
        more = λ k has. Contains-append_left kept (line ∷ []) k has;
      }

  -- two steps are one
  pub grows-then : (all first then last : List Attribute) (marks later : List Bool)
      → Grows plan v all first then marks → Grows plan v all then last later
      → Grows plan v all first last later
  grows-then all first then last marks later a b =
      record { list = b.list; more = λ k has. b.more k (a.more k has) }
