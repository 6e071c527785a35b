-- The list of kept declarations, one thread more at a time.
use Rattle.std.proofs.Common.{◌≡◌, ℕ, ◌+◌, ◌<◌, Bool, true, false, List, [], ◌∷◌, ◌++◌}
use Rattle.std.proofs.Common.{length, take, get_or, sym, ap, ◌∙◌, subst, arith}
use Rattle.std.specs.Prelude.{All, Contains, Some, slice_get, slice_index_or}
use Rattle.std.specs.List.{AllZip, IsDistinct}
use Rattle.std.proofs.lemmas.List.{take_all, take_more}
use Rattle.std.proofs.lemmas.Option.{get_or_from_slice_get, slice_get-get_or, slice_get_within}
use Rattle.cal_names.specs.Kept.{name_law}
use Rattle.cal_names.specs.declared.declare.Declared.{Declared}
use Rattle.cal_names.specs.declared.record.NameSort.{NameSort}
use Rattle.cal_naming.proofs.Listing.{grows-then, kept-within, listed-later}
use Rattle.cal_naming.proofs.Lists.{all-at, contains-flat, zip-at, zip-left, zip-long, zip-more}
use Rattle.cal_naming.proofs.Lists.{zip-push}
use Rattle.cal_naming.proofs.Telling.{told-place}
use Rattle.cal_naming.specs.Keeping.{CanKeep, Grows, IsKeeping, IsList, IsListed}
use Rattle.cal_naming.specs.Naming.{all_lines, same_name}
use Rattle.cal_naming.specs.Settled.{IsSettled}
use Rattle.cal_naming.specs.Told.{IsTold, declaration_of, place_of}
use Rattle.cal_once.specs.Sound.{IsSound}
use Rattle.cal_once.specs.declared.view.Plan.{Plan}
use Rattle.cal_once.specs.declared.view.View.{View}
use Rattle.cal_value.specs.declared.attribute.Attribute.{Attribute}

-- the list has what is kept of the first n threads
pub record IsKeepingTo (threads : List (List Attribute)) (answers : List (List Declared)) (n : ℕ)
    (kept : List Attribute) (marks : List Bool) : Type 0 where
  pub plan : Plan NameSort
  pub v : View NameSort
  pub settled : IsSettled plan v threads answers
  pub list : IsList plan v (all_lines threads) kept marks
  pub listed : AllZip (AllZip (IsListed kept)) (take n threads) (take n answers)

pub take-next : {A : Type 0} (xs : List A) (n : ℕ) (x : A) → slice_get xs n ≡ Some x
    → take (n + 1) xs ≡ take n xs ++ x ∷ []
take-next xs n x is = take_more xs n x (slice_get_within xs n x is)
    ∙ ap (λ y. take n xs ++ y ∷ []) (get_or_from_slice_get xs n x x is)

-- a list without marks has nothing
no-mark : (marks : List Bool) (p : ℕ) → All (λ (m : Bool). m ≡ false) marks
    → slice_get marks p ≡ Some true → ⊥
no-mark marks p none is =
    let no : true ≡ false = all-at (λ (m : Bool). m ≡ false) marks p true none is in absurd cc

none-twice : IsDistinct same_name []
unfolding IsDistinct
none-twice = tt

-- before the first thread
pub keeping-none : (threads : List (List Attribute)) (answers : List (List Declared))
    (marks : List Bool) → CanKeep threads answers (length marks)
    → All (λ (m : Bool). m ≡ false) marks → IsKeepingTo threads answers 0 [] marks
keeping-none threads answers marks can none = record {
  plan = can.plan;
  v = can.v;
  settled = can.settled;
  list = record {
    slots = sym can.slots_are;
    once = none-twice;
    lines = λ k d less. absurd (omega (arith, less));
    placed = λ k d less. absurd (omega (arith, less));
    marked = λ p mark. absurd (no-mark marks p none mark);
  };
  listed = tt;
}

module _ (threads : List (List Attribute)) (answers : List (List Declared)) where
  -- behind the last thread
  pub keeping-all : (n : ℕ) (kept : List Attribute) (marks : List Bool) → length threads ≡ n
      → IsKeepingTo threads answers n kept marks → IsKeeping threads answers kept
  keeping-all n kept marks all is =
      let long = zip-long (AllZip (IsTold is.plan is.v)) threads answers is.settled.told in
      record {
        plan = is.plan;
        v = is.v;
        settled = is.settled;
        marks = marks;
        list = is.list;
        listed = subst (λ (ts : List (List Attribute)). AllZip (AllZip (IsListed kept)) ts answers)
            (take_all n threads (omega (arith, all)))
            (subst (λ (os : List (List Declared)).
            AllZip (AllZip (IsListed kept)) (take n threads) os)
            (take_all n answers (omega (arith, all, long))) is.listed);
      }

  module _ (n : ℕ) (kept : List Attribute) (marks : List Bool)
      (is : IsKeepingTo threads answers n kept marks) (lines : List Attribute)
      (own : List Declared) (lines_are : slice_get threads n ≡ Some lines)
      (own_are : slice_get answers n ≡ Some own) where
    pub own-told : AllZip (IsTold is.plan is.v) lines own
    own-told = zip-at (AllZip (IsTold is.plan is.v)) threads answers n lines own is.settled.told
        lines_are own_are

    pub own-many : length own ≡ length lines
    own-many = zip-long (IsTold is.plan is.v) lines own own-told

    pub own-among : All (Contains (all_lines threads)) lines
    own-among k d less = contains-flat threads n lines k (slice_index_or lines k d) lines_are
        (slice_get-get_or lines k d less)

    pub own-within : All (λ (a : Declared). place_of a < length marks) own
    own-within k d less =
        let answer : Declared = slice_index_or own k d in
        let t = zip-left (IsTold is.plan is.v) lines own k answer own-told
        (slice_get-get_or own k d less) in
        let at = told-place (declaration_of t.0) t.2.0 t.2.1 answer t.2.4 in
        let inside = kept-within is.plan is.v is.settled.sound t.2.0 t.2.1 t.2.3 in
        omega (arith, at, inside, is.list.slots)

    pub keeping-more : (new : List Attribute) (later : List Bool)
        → Grows is.plan is.v (all_lines threads) kept new later
        → AllZip (IsListed new) lines own → IsKeepingTo threads answers (n + 1) new later
    keeping-more new later grows listed = record {
      plan = is.plan;
      v = is.v;
      settled = is.settled;
      list = grows.list;
      listed = rw (take-next threads n lines lines_are, take-next answers n own own_are)
          (zip-push (AllZip (IsListed new)) (take n threads) (take n answers) lines own
          (zip-more (AllZip (IsListed kept)) (AllZip (IsListed new)) (take n threads)
          (take n answers)
          (λ ls os h. zip-more (IsListed kept) (IsListed new) ls os
          (λ line answer l. listed-later kept new grows.more line answer l) h) is.listed)
          listed);
    }

-- an item that was read is there
pub got : {A : Type 0} (xs : List A) (i : ℕ) (x y : A) → i < length xs → x ≡ get_or xs i x → y ≡ x
    → slice_get xs i ≡ Some y
got xs i x y less is same = slice_get-get_or xs i x less ∙ ap (λ z. Some z) (sym is ∙ sym same)

-- the list with what is kept of one line more
pub lines-more : (plan : Plan NameSort) (v : View NameSort) (all : List Attribute)
    (lines : List Attribute) (answers : List Declared) (n : ℕ) (line : Attribute)
    (answer : Declared) (first then last : List Attribute) (marks later : List Bool)
    → IsSound name_law plan v
    → slice_get lines n ≡ Some line → slice_get answers n ≡ Some answer
    → (Grows plan v all first then marks) × AllZip (IsListed then) (take n lines) (take n answers)
    → (Grows plan v all then last later) × IsListed last line answer
    → (Grows plan v all first last later)
    × AllZip (IsListed last) (take (n + 1) lines) (take (n + 1) answers)
lines-more plan v all lines answers n line answer first then last marks later sound line_is
    answer_is was does = (
      grows-then plan v sound all first then last marks later was.0 does.0,
      rw (take-next lines n line line_is, take-next answers n answer answer_is)
          (zip-push (IsListed last) (take n lines) (take n answers) line answer
          (zip-more (IsListed then) (IsListed last) (take n lines) (take n answers)
          (listed-later then last does.0.more) was.1) does.1),
    )
