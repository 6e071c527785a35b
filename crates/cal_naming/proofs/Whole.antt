-- A list of what is kept, with the replies, is a naming of the declarations.
use Rattle.std.proofs.Common.{◌≡◌, ◌≢◌, ℕ, List}
use Rattle.std.proofs.Common.{refl, sym, ap, ◌∙◌, subst}
use Rattle.std.specs.Prelude.{All, Contains, Some, find, slice_get, slice_index_or}
use mathlib.Core.Logic.{dite}
use native.Mathlib.Decide.{ℕ_discrete}
use Rattle.std.specs.List.{AllZip}
use Rattle.std.proofs.lemmas.Option.{get_or_from_slice_get, slice_get_within}
use Rattle.cal_names.proofs.Walking.{one_kept}
use Rattle.cal_names.specs.Answers as names
use Rattle.cal_names.specs.Declarations.{Declaration}
use Rattle.cal_names.specs.Kept.{IsKept}
use Rattle.cal_names.specs.declared.declare.Declared.{Declared}
use Rattle.cal_names.specs.declared.declare.Declared.TheVariants.{Same, Different}
use Rattle.cal_naming.proofs.Lists.{all-at, find-first, zip-at, zip-mapped, zip-more, zip-right}
use Rattle.cal_naming.proofs.Names.{one-line, other-name, same-name}
use Rattle.cal_naming.proofs.Telling.{told-place}
use Rattle.cal_naming.specs.Keeping.{IsKeeping, IsListed}
use Rattle.cal_naming.specs.Naming.{IsAlone, IsAnswered, IsNaming, Says, same_name}
use Rattle.cal_naming.specs.Replies.{all_replies, replies_to, reply_of}
use Rattle.cal_naming.specs.Settled.{IsSaid}
use Rattle.cal_naming.specs.Told.{IsTold, declaration_of, place_of}
use Rattle.cal_value.specs.declared.attribute.Attribute.{Attribute}

-- what a seat was told a line is replied
says-line : (line k : Attribute) (place : ℕ) (answer : Declared)
    → names.Says (declaration_of line) (declaration_of k) place answer
    → Says line k (reply_of answer)
says-line line k place (Same p) says = one-line k line says.1
says-line line k place (Different p kind props) says = (
  (λ same. says.2 (ap declaration_of same)),
  one-line k (record { name = line.name; kind = kind; props = record { 0 = props } }) says.1,
)

-- a line that is the kept one was told so, and so it is in the list
listed-same : (kept : List Attribute) (line : Attribute) (d : Declaration) (place : ℕ)
    (answer : Declared) → names.Says (declaration_of line) d place answer
    → d ≡ declaration_of line → IsListed kept line answer → Contains kept line
listed-same kept line d place (Same p) says same listed = listed
listed-same kept line d place (Different p kind props) says same listed =
    absurd (says.2 same)

module _ (threads : List (List Attribute)) (answers : List (List Declared))
    (kept : List Attribute) (is : IsKeeping threads answers kept) where
  -- a kept declaration is in the list
  module _ (d : Declaration) (place : ℕ) (said : IsSaid threads answers d place)
      (kept_is : IsKept is.plan is.v d place) where
    own-told : AllZip (IsTold is.plan is.v) said.lines said.own
    own-told = zip-at (AllZip (IsTold is.plan is.v)) threads answers said.thread said.lines
        said.own is.settled.told said.lines_are said.own_are

    -- a line of the thread that has the name was told of this place
    told-there : (i : ℕ) (line : Attribute) → slice_get said.lines i ≡ Some line
        → line.name ≡ d.name → (answer : Declared) × (slice_get said.own i ≡ Some answer)
        × (place_of answer ≡ place)
        × ((e : Declaration) × (p : ℕ) × names.Says (declaration_of line) e p answer × (e ≡ d))
    told-there i line at same =
        let t = zip-right (IsTold is.plan is.v) said.lines said.own i line own-told at in
        let one = one_kept is.plan is.v t.2.0 d t.2.1 place is.settled.sound
        (t.2.2 ∙ same) t.2.3 kept_is in (
          t.0,
          t.1,
          told-place (declaration_of line) t.2.0 t.2.1 t.0 t.2.4 ∙ one.0,
          (t.2.0, t.2.1, t.2.4, one.1),
        )

    said-kept : Contains kept said.line
    said-kept =
        let name : said.line.name ≡ d.name = ap (λ (x : Declaration). x.name) said.says in
        let t = told-there said.at said.line said.line_is name in
        let own = zip-at (AllZip (IsListed kept)) threads answers said.thread said.lines said.own
        is.listed said.lines_are said.own_are in
        let listed = zip-at (IsListed kept) said.lines said.own said.at said.line t.0 own
        said.line_is t.1 in
        listed-same kept said.line t.3.0 t.3.1 t.0 t.3.2 (t.3.3 ∙ sym said.says) listed

  answered-one : (line : Attribute) (answer : Declared) → IsTold is.plan is.v line answer
      → IsAnswered kept line (reply_of answer)
  answered-one line answer t =
      let s = is.settled.said t.0 t.1 t.3 in (
        s.line,
        said-kept t.0 t.1 s t.3,
        ap (λ (x : Declaration). x.name) s.says ∙ t.2,
        says-line line s.line t.1 answer
            (subst (λ (x : Declaration). names.Says (declaration_of line) x t.1 answer)
            (sym s.says) t.4),
      )

  answered : AllZip (AllZip (IsAnswered kept)) threads (all_replies answers)
  answered = zip-mapped replies_to (AllZip (IsAnswered kept)) threads answers
      (zip-more (AllZip (IsTold is.plan is.v))
      (λ ls own. AllZip (IsAnswered kept) ls (replies_to own)) threads answers
      (λ ls own t. zip-mapped reply_of (IsAnswered kept) ls own
      (zip-more (IsTold is.plan is.v) (λ line answer. IsAnswered kept line (reply_of answer))
      ls own answered-one t))
      is.settled.told)

  -- where one thread alone declares the name of a line in the list, the line is its first one
  module _ (k : Attribute) (place : ℕ) (kept_is : IsKept is.plan is.v (declaration_of k) place)
      (n : ℕ) (alone : IsAlone threads n k.name) where
    said : IsSaid threads answers (declaration_of k) place
    said = is.settled.said (declaration_of k) place kept_is

    line-is : said.line ≡ k
    line-is = one-line said.line k said.says

    thread-is : said.thread ≡ n
    thread-is = dite (ℕ_discrete said.thread n) (λ e. e) (λ apart.
        let here = alone said.thread said.lines
        (slice_get_within threads said.thread said.lines said.lines_are) apart in
        let lines = get_or_from_slice_get threads said.thread said.lines said.lines
        said.lines_are in
        let none = all-at (λ (x : Attribute). x.name ≢ k.name) said.lines said.at said.line
        (subst (λ (ls : List Attribute). All (λ (x : Attribute). x.name ≢ k.name) ls) lines here)
        said.line_is in
        absurd (none (ap (λ (x : Attribute). x.name) line-is)))

    first-there : find (same_name k) said.lines ≡ Some k
    first-there = find-first (same_name k) said.lines said.at k
        (said.line_is ∙ ap (λ (x : Attribute). Some x) line-is) (same-name k k refl)
        (λ i y less at. other-name k y (λ same.
        let t = told-there (declaration_of k) place said kept_is i y at (sym same) in
        said.before i t.0 less t.1 t.2))

    first-of : (d : List Attribute) → find (same_name k) (slice_index_or threads n d) ≡ Some k
    first-of d =
        let lines = get_or_from_slice_get threads said.thread said.lines d said.lines_are in
        let there : slice_index_or threads n d ≡ said.lines =
        ap (λ (m : ℕ). slice_index_or threads m d) (sym thread-is) ∙ lines in
        ap (λ (ls : List Attribute). find (same_name k) ls) there ∙ first-there

  pub naming : IsNaming threads kept (all_replies answers)
  naming = record {
    once = is.list.once;
    declared = is.list.lines;
    answered = answered;
    first = λ i e less n d inside alone.
        let h = is.list.placed i e less in
        first-of (slice_index_or kept i e) h.0 h.1 n alone d;
  }
