-- What seekers of the names of an operator find, as its definition says it.
use Rattle.std.proofs.Common.{◌≡◌, ℕ, ℤ, Bool, true, false, List, [], ◌∷◌, map, refl, sym, ◌∙◌, ap, subst}
use Rattle.std.proofs.Common.{Option, None, Some, option_map, slice_get, option_and_then}
use Rattle.std.specs.List.{AllByRecursion, cons_option, filter, filter_map, last_or}
use Rattle.std.specs.Option.{ForSome}
use Rattle.std.specs.Prelude.{◌&&◌}
use Rattle.std.proofs.lemmas.List.Elements.{recursion_from_All}
use Rattle.cal_agg.specs.declared.num.Num.{Num}
use Rattle.cal_context.specs.Tree.{Tree}
use Rattle.cal_ql.specs.declared.query.Let.{Let}
use Rattle.cal_ql.specs.declared.names.Op as ops
use Rattle.cal_ql.specs.declared.names.Op.TheVariants as op
use Rattle.cal_value.specs.Flat.{flat}
use Rattle.cal_value.specs.Reading.{IsSmall}
use Rattle.cal_value.specs.declared.attribute.Entry.{Entry}
use Rattle.cal_value.specs.declared.record.Rec.{Rec}
use Rattle.cal_filter.specs.Known.{sought}
use Rattle.cal_filter.specs.Lets.{first_value, let_number, let_value, limited, operation, value_by}
use Rattle.cal_filter.specs.Named.{is_named, last_entry, last_number, HasSmallNumbers}
use Rattle.cal_filter.specs.Numbers.{number_in, value_of_number}
use Rattle.cal_filter.specs.Sought.{Sought, last_sought, number_sought, seeks, sought_by, value_sought}
use Rattle.cal_filter.specs.Ready.{IsDefined}
use Rattle.cal_filter.specs.declared.definition.Definition.{Definition}
use Rattle.cal_filter.specs.declared.seeker.Seeker.{Seeker}
use Rattle.cal_filter.specs.declared.wanted.Wanted.TheVariants as wanted

some_same : (x y : Entry) → Some x ≡ Some y → x ≡ y
some_same x y h = cc

last_next : (P : Entry → Type 0) (q : Entry → Bool) (o : Option Entry) (e : Entry) (es : List Entry)
    → ((o : Option Entry) → ForSome o P → ForSome (last_or o (filter q es)) P) → P e
    → ForSome o P → (b : Bool) → q e ≡ b → ForSome (last_or o (filter q (e ∷ es))) P
last_next P q o e es rest first here true is =
    rw is (rest (Some e) (λ x h. subst P (some_same e x h) first))
last_next P q o e es rest first here false is = rw is (rest o here)

-- the last of some entries has what all have
last_has : (P : Entry → Type 0) (q : Entry → Bool) (es : List Entry) → AllByRecursion P es
    → (o : Option Entry) → ForSome o P → ForSome (last_or o (filter q es)) P
last_has P q [] all o here = here
last_has P q (e ∷ es) all o here =
    last_next P q o e es (last_has P q es all.1) all.0 here (q e) refl

-- so the last entry of a name in a record of small numbers is small
pub last_entry_small : (name : List ℕ) (r : Rec) → HasSmallNumbers r
    → ForSome (last_entry name r) (λ e. IsSmall e.value)
last_entry_small name r small =
    last_has (λ e. IsSmall e.value) (is_named name) (flat r)
    (recursion_from_All (λ e. IsSmall e.value) (flat r) small) None (λ x h. cc)

-- what is found in a record of small numbers is small
pub sought_small : (s : Sought) (r : Rec) → HasSmallNumbers r
    → ForSome (value_sought s (flat r)) IsSmall
sought_small s r small = by (last_sought s (flat r))
    (last_has (λ e. IsSmall e.value) (seeks s) (flat r)
    (recursion_from_All (λ e. IsSmall e.value) (flat r) small) None (λ x h. cc))
  where
    by : (o : Option Entry) → ForSome o (λ e. IsSmall e.value)
        → ForSome (option_map (λ e. e.value) o) IsSmall
    by None h = λ v e. cc
    by (Some x) h = λ v e. let same : x.value ≡ v = cc in subst IsSmall same (h x refl)

-- what the number of the last entry that has one is
abbrev IsLastNumber : List ℕ → List Entry → Option Entry → Type 0
IsLastNumber name es o =
    option_and_then (λ e. number_in e.value)
    (last_or o (filter (seeks (record { name = name; wanted = wanted.Number })) es))
    ≡ last_or (option_and_then (λ e. number_in e.value) o)
    (filter_map (λ e. number_in e.value) (filter (is_named name) es))

number_next : (name : List ℕ) (e : Entry) (es : List Entry)
    → ((o : Option Entry) → IsLastNumber name es o) → (o : Option Entry)
    → (b : Bool) → is_named name e ≡ b → (n : Option Num) → number_in e.value ≡ n
    → IsLastNumber name (e ∷ es) o
number_next name e es rest o false is n num = rw is (rest o)
number_next name e es rest o true is None num = rw (is, num) (rest o)
number_next name e es rest o true is (Some n) num =
    rw (is, num) (rest (Some e)
    ∙ ap (λ m. last_or m (filter_map (λ e. number_in e.value) (filter (is_named name) es))) num)

-- the number of the last entry that has one is the last number
last_number_is : (name : List ℕ) (es : List Entry) (o : Option Entry) → IsLastNumber name es o
last_number_is name [] o = refl
last_number_is name (e ∷ es) o =
    number_next name e es (last_number_is name es) o (is_named name e) refl (number_in e.value) refl

value_number : (o : Option Entry) → option_and_then number_in (option_map (λ e. e.value) o)
    ≡ option_and_then (λ e. number_in e.value) o
value_number None = refl
value_number (Some e) = refl

pub number_sought_is : (name : List ℕ) (r : Rec)
    → number_sought (record { name = name; wanted = wanted.Number }) (flat r) ≡ last_number name r
number_sought_is name r =
    value_number (last_sought (record { name = name; wanted = wanted.Number }) (flat r))
    ∙ last_number_is name (flat r) None

-- whatever has the name is sought where nothing else is wanted
and_true : (b : Bool) → (b && true) ≡ b
and_true true = refl
and_true false = refl

any_sought_is : (name : List ℕ) (r : Rec)
    → last_sought (record { name = name; wanted = wanted.Any }) (flat r) ≡ last_entry name r
any_sought_is name r =
    ap (λ p. last_or None (filter p (flat r))) (λ i e. and_true (is_named name e) i)

map_numbers : (o : ops.Op) → ((name : List ℕ) → sought_by o name
    ≡ record { name = name; wanted = wanted.Number }) → (names : List (List ℕ)) (r : Rec)
    → map (λ s. number_sought s (flat r)) (map (sought_by o) names)
    ≡ map (λ name. last_number name r) names
map_numbers o is [] r = refl
map_numbers o is (name ∷ names) r =
    λ i. (ap (λ s. number_sought s (flat r)) (is name) ∙ number_sought_is name r) i
    ∷ map_numbers o is names r i

-- the values that are sought by names are those of their last entries
abbrev AreFirsts : List (List ℕ) → Rec → Type 0
AreFirsts names r =
    filter_map (λ s. value_sought s (flat r)) (map (sought_by op.First) names)
    ≡ map (λ e. e.value) (filter_map (λ name. last_entry name r) names)

firsts_next : (name : List ℕ) (names : List (List ℕ)) (r : Rec) → AreFirsts names r
    → (o : Option Entry) → last_entry name r ≡ o → AreFirsts (name ∷ names) r
firsts_next name names r rest None is =
    let none = ap (option_map (λ e. e.value)) (any_sought_is name r ∙ is) in rw (none, is) rest
firsts_next name names r rest (Some e) is =
    let some = ap (option_map (λ e. e.value)) (any_sought_is name r ∙ is) in
    rw (some, is) (ap (λ vs. e.value ∷ vs) rest)

firsts : (names : List (List ℕ)) (r : Rec) → AreFirsts names r
firsts [] r = refl
firsts (name ∷ names) r = firsts_next name names r (firsts names r) (last_entry name r) refl

first_of_map : (es : List Entry)
    → slice_get (map (λ e. e.value) es) 0 ≡ option_map (λ e. e.value) (slice_get es 0)
first_of_map [] = refl
first_of_map (e ∷ es) = refl

-- what `first` finds
pub first_found_is : (names : List (List ℕ)) (r : Rec)
    → slice_get (filter_map (λ s. value_sought s (flat r)) (map (sought_by op.First) names)) 0
    ≡ first_value names r
first_found_is names r =
    ap (λ vs. slice_get vs 0) (firsts names r)
    ∙ first_of_map (filter_map (λ name. last_entry name r) names)

-- what another operator finds
pub numbers_found : (o : ops.Op) → (o ≡ op.First → ⊥) → (names : List (List ℕ)) (r : Rec)
    → map (λ s. number_sought s (flat r)) (map (sought_by o) names)
    ≡ map (λ name. last_number name r) names
numbers_found op.Truncate h names r = map_numbers op.Truncate (λ name. refl) names r
numbers_found op.Scale h names r = map_numbers op.Scale (λ name. refl) names r
numbers_found op.Ratio h names r = map_numbers op.Ratio (λ name. refl) names r
numbers_found op.Sum h names r = map_numbers op.Sum (λ name. refl) names r
numbers_found op.First h names r = absurd (h refl)

pub value_by_number : (o : ops.Op) → (o ≡ op.First → ⊥) → (n : ℤ) (names : List (List ℕ)) (r : Rec)
    → value_by o n names r ≡ option_map value_of_number (let_number o n names r)
value_by_number op.Truncate h n names r = refl
value_by_number op.Scale h n names r = refl
value_by_number op.Ratio h n names r = refl
value_by_number op.Sum h n names r = refl
value_by_number op.First h n names r = absurd (h refl)

-- a list by what its seekers seek
map_sought : {B : Type 0} (f : Sought → B) (ss : List Seeker)
    → map (λ s. f (sought s)) ss ≡ map f (map sought ss)
map_sought f [] = refl
map_sought f (s ∷ ss) = ap (λ bs. f (sought s) ∷ bs) (map_sought f ss)

pub filter_map_sought : {B : Type 0} (f : Sought → Option B) (ss : List Seeker)
    → filter_map (λ s. f (sought s)) ss ≡ filter_map f (map sought ss)
filter_map_sought f [] = refl
filter_map_sought {B} f (s ∷ ss) = ap (λ bs. cons_option (f (sought s)) bs) (filter_map_sought f ss)

-- what a definition's seekers find is the definition's value, for `first`
pub first_is : (t : Tree) (l : Let) (d : Definition) (r : Rec) → IsDefined t l d
    → d.operator.op ≡ op.First
    → slice_get (filter_map (λ s. value_sought (sought s) (flat r)) d.seekers.items) 0
    ≡ let_value l r
first_is t l d r h is =
    let e = sym h.op ∙ is in
    ap (λ vs. slice_get vs 0)
    (filter_map_sought (λ w. value_sought w (flat r)) d.seekers.items
    ∙ ap (filter_map (λ w. value_sought w (flat r)))
    (h.names ∙ ap (λ o. map (sought_by o) l.args) e))
    ∙ first_found_is l.args r ∙ sym (ap (λ o. value_by o l.n l.args r) e)

-- and for another operator
pub number_is : (t : Tree) (l : Let) (d : Definition) (r : Rec) (numbers : List (Option Num))
    → IsDefined t l d → (d.operator.op ≡ op.First → ⊥)
    → numbers ≡ map (λ s. number_sought (sought s) (flat r)) d.seekers.items
    → option_map value_of_number
    (option_and_then limited (operation d.operator.op d.operator.n numbers)) ≡ let_value l r
number_is t l d r numbers h not_first found =
    let other : l.op ≡ op.First → ⊥ = λ e. not_first (h.op ∙ e) in
    let all : numbers ≡ map (λ name. last_number name r) l.args =
    found ∙ map_sought (λ w. number_sought w (flat r)) d.seekers.items
    ∙ ap (map (λ w. number_sought w (flat r))) h.names ∙ numbers_found l.op other l.args r in
    (λ i. option_map value_of_number (option_and_then limited (operation (h.op i) (h.n i) (all i))))
    ∙ sym (value_by_number l.op other l.n l.args r)
