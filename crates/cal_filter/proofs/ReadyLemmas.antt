-- Catching up, and what is ready.
use Rattle.std.proofs.Common.{◌≡◌, ℕ, ◌+◌, ◌<◌, List, [], ◌∷◌, ◌++◌, map, take, length, get_or}
use Rattle.std.proofs.Common.{Result, Ok, Err, refl, sym, ◌∙◌, ap, subst, arith}
use Rattle.std.specs.List.{All, AllZip}
use Rattle.std.specs.Result.{IfOk, OnOk}
use Rattle.std.specs.Vec.{with_items}
use Rattle.std.specs.declared.vec.Vec.{Vec}
use Rattle.std.proofs.lemmas.List.{map-append, take_more, with_items_is}
use Rattle.cal_context.specs.Tree.{Tree}
use Rattle.cal_ql.specs.declared.names.Op as ops
use Rattle.cal_ql.specs.declared.query.Query.{Query}
use Rattle.cal_value.specs.declared.attribute.Entry.{Entry}
use Rattle.cal_filter.specs.Conditions.{test_holds}
use Rattle.cal_filter.specs.Known.{Covers, Knows, KnowsAll, KnowsSoMany, sought}
use Rattle.cal_filter.specs.Latest.{AreNamed, KnowsAllNames, KnowsNames}
use Rattle.cal_filter.specs.Ready.{IsCondition, IsDefinition, IsFilter, IsReadyCondition}
use Rattle.cal_filter.specs.Ready.{IsReadyDefinition, IsReadyFilter}
use Rattle.cal_filter.specs.Replaced.{CatchesUp, CatchesUpByNumbers, ConditionCatchesUp}
use Rattle.cal_filter.specs.Replaced.{DefinitionCatchesUp}
use Rattle.cal_filter.specs.Sought.{Sought, passes, sought_by}
use Rattle.cal_filter.specs.declared.condition.Condition.{Condition}
use Rattle.cal_filter.specs.declared.counts.Counts.{Counts}
use Rattle.cal_filter.specs.declared.definition.Definition.{Definition}
use Rattle.cal_filter.specs.declared.filter.Filter.{Filter}
use Rattle.cal_filter.specs.declared.latest.Latest.{Latest}
use Rattle.cal_filter.specs.declared.seeker.Seeker.{Seeker}
use Rattle.cal_filter.proofs.NamedLemmas.{named_up}
use Rattle.cal_filter.proofs.Zips.{get_or-inside, partner, zip_at, zip_from, zip_length, zip_then, zip_weaker}

pub same_sought : (t : Tree) (old new : List Seeker) → AllZip (CatchesUp t) old new
    → map sought new ≡ map sought old
same_sought t [] [] h = refl
same_sought t [] (y ∷ new) h = elim h [ ]
same_sought t (x ∷ old) [] h = elim h [ ]
same_sought t (x ∷ old) (y ∷ new) h = λ i. h.0.same i ∷ same_sought t old new h.1 i

pub all_know : (t : Tree) (old new : List Seeker) → AllZip (CatchesUp t) old new → All (Knows t) old
    → All (KnowsAll t) new
all_know t old new h knows = λ i d short.
    let counted = zip_length (CatchesUp t) old new h in
    (zip_at (CatchesUp t) old new i d d h short).knows (knows i d (omega arith))

-- a definition catches up with its seekers
pub definition_catches_up : (t : Tree) (old new : Definition) → new.operator ≡ old.operator
    → new.attributes ≡ old.attributes → new.names ≡ old.names
    → AllZip (CatchesUp t) old.seekers.items new.seekers.items → DefinitionCatchesUp t old new
definition_catches_up t old new operator attributes names zip = record {
  ready = λ l h. record {
    defined = record {
      op = ap (λ o. o.op) operator ∙ h.defined.op;
      n = ap (λ o. o.n) operator ∙ h.defined.n;
      names = same_sought t old.seekers.items new.seekers.items zip ∙ h.defined.names;
      attributes = rw attributes h.defined.attributes;
    };
    knows = all_know t old.seekers.items new.seekers.items zip h.knows;
  };
  named = λ keys h.
      rw names (named_up t keys old.seekers.items new.seekers.items old.names.items zip h);
}

-- definitions catch up where their names have these numbers
pub all_catch_up : (t : Tree) (l : Latest) (old new : List Definition) → KnowsAllNames t l
    → All (AreNamed l.names.keys) old → AllZip (CatchesUpByNumbers t l) old new
    → AllZip (DefinitionCatchesUp t) old new
all_catch_up t l old new knows named up =
    let counted = zip_length (CatchesUpByNumbers t l) old new up in
    zip_from (DefinitionCatchesUp t) old new counted
    (λ i d e short. zip_at (CatchesUpByNumbers t l) old new i d e up short knows
    (named i d (omega (arith, short, counted))))

-- a condition with its seeker
pub condition_catches_up : (t : Tree) (old new : Condition) → new.negated ≡ old.negated
    → sought new.seeker ≡ sought old.seeker → (Knows t old.seeker → KnowsAll t new.seeker)
    → ConditionCatchesUp t old new
condition_catches_up t old new negated same knows = record {
  ready = λ c h. record {
    asked = record {
      not = negated ∙ h.asked.not;
      name = ap (λ (s : Sought). s.name) same ∙ h.asked.name;
      test = subst (λ (s : Sought). (e : Entry) → passes s.wanted e.attr.kind e.value
          ≡ test_holds c.test e) (sym same) h.asked.test;
    };
    knows = knows h.knows;
  };
}

-- whoever knows as many attributes and nodes as a context has knows it whole, and the other way
pub knows_covered : (t : Tree) (n : Counts) → Covers t n → (s : Seeker) → KnowsSoMany n s → Knows t s → KnowsAll t s
knows_covered t n covers s many knows = record {
  knows = knows;
  attributes = omega (arith, covers.attributes, many.attributes);
  nodes = omega (arith, covers.nodes, many.nodes);
}

pub knows_counted : (t : Tree) (n : Counts) → n.attributes ≡ length t.attributes → n.nodes ≡ length t.paths → (s : Seeker)
    → KnowsAll t s → KnowsSoMany n s
knows_counted t n attributes nodes s h = record {
  attributes = omega (arith, attributes, h.attributes);
  nodes = omega (arith, nodes, h.nodes);
}

-- what holds of both sides of lists that go together
pub zip_and : {A B : Type 0} (R S : A → B → Type 0) (P : B → Type 0) → ((x : A) (y : B) → R x y → P y → S x y)
    → (xs : List A) (ys : List B) → AllZip R xs ys → All P ys → AllZip S xs ys
zip_and R S P both xs ys zip all =
    zip_from S xs ys (zip_length R xs ys zip)
    (λ i d e short. both (get_or xs i d) (get_or ys i e) (zip_at R xs ys i d e zip short) (all i e short))

pub all_of_zip : {A B : Type 0} (R : A → B → Type 0) (P : B → Type 0) → ((x : A) (y : B) → R x y → P y)
    → (xs : List A) (ys : List B) → AllZip R xs ys → All P ys
all_of_zip R P right xs ys zip = λ i e short.
    let p = partner R xs ys i (get_or ys i e) zip short (get_or-inside ys i e (get_or ys i e) short) in
    right p.item (get_or ys i e) p.together

-- a filter that knows as much as a context has
pub filter_covered : (t : Tree) (q : Query) (f : Filter) → Covers t f.known → IsFilter t q f → IsReadyFilter t q f
filter_covered t q f covers h = record {
  lets = zip_and (IsDefinition t) (IsReadyDefinition t) (λ (d : Definition). All (KnowsSoMany f.known) d.seekers.items)
      (λ l d is many. record {
        defined = is.defined;
        knows = λ i x short. knows_covered t f.known covers _ (many i x short) (is.knows i x short);
      })
      q.lets f.definitions.items h.lets h.known.lets;
  named = h.named;
  latest = h.latest;
  conds = zip_and (IsCondition t) (IsReadyCondition t) (λ (d : Condition). KnowsSoMany f.known d.seeker)
      (λ c d is many. record { asked = is.asked; knows = knows_covered t f.known covers d.seeker many is.knows })
      q.conds f.conditions.items h.conds h.known.conds;
  known = h.known;
}

-- a filter with its definitions and conditions
pub filter_catches_up : (t : Tree) (q : Query) (old new : Filter)
    → AllZip (DefinitionCatchesUp t) old.definitions.items new.definitions.items
    → AllZip (ConditionCatchesUp t) old.conditions.items new.conditions.items
    → new.known.attributes ≡ length t.attributes → new.known.nodes ≡ length t.paths
    → new.latest.names ≡ old.latest.names → KnowsNames t new.latest → IsFilter t q old
    → IsReadyFilter t q new
filter_catches_up t q old new lets conds attributes nodes same knows h = record {
  lets = lets_ready;
  named = λ i d short.
      (zip_at (DefinitionCatchesUp t) old.definitions.items new.definitions.items i d d lets
      short).named new.latest.names.keys (old_named i d (omega (arith, short, counted)));
  latest = knows;
  conds = conds_ready;
  known = record { lets = lets_known; conds = conds_known };
}
  where
    counted : length old.definitions.items ≡ length new.definitions.items
    counted = zip_length (DefinitionCatchesUp t) old.definitions.items new.definitions.items lets

    old_named : All (AreNamed new.latest.names.keys) old.definitions.items
    old_named = rw same h.named

    lets_ready : AllZip (IsReadyDefinition t) q.lets new.definitions.items
    lets_ready = zip_then (IsDefinition t) (DefinitionCatchesUp t) (IsReadyDefinition t)
        (λ l d e is up. up.ready l is) q.lets old.definitions.items new.definitions.items h.lets lets

    conds_ready : AllZip (IsReadyCondition t) q.conds new.conditions.items
    conds_ready = zip_then (IsCondition t) (ConditionCatchesUp t) (IsReadyCondition t)
        (λ c d e is up. up.ready c is) q.conds old.conditions.items new.conditions.items h.conds conds

    lets_known : All (λ (d : Definition). All (KnowsSoMany new.known) d.seekers.items) new.definitions.items
    lets_known = all_of_zip (IsReadyDefinition t) (λ (d : Definition). All (KnowsSoMany new.known) d.seekers.items)
        (λ l d r i x short. knows_counted t new.known attributes nodes _ (r.knows i x short)) q.lets new.definitions.items lets_ready

    conds_known : All (λ (d : Condition). KnowsSoMany new.known d.seeker) new.conditions.items
    conds_known = all_of_zip (IsReadyCondition t) (λ (d : Condition). KnowsSoMany new.known d.seeker)
        (λ c d r. knows_counted t new.known attributes nodes d.seeker r.knows) q.conds new.conditions.items conds_ready

-- what is ready is right
pub ready_is_right : (t : Tree) (q : Query) (f : Filter) → IsReadyFilter t q f → IsFilter t q f
ready_is_right t q f h = record {
  lets = zip_weaker (IsReadyDefinition t) (IsDefinition t)
      (λ l d r. record { defined = r.defined; knows = λ i x short. (r.knows i x short).knows })
      q.lets f.definitions.items h.lets;
  named = h.named;
  latest = h.latest;
  conds = zip_weaker (IsReadyCondition t) (IsCondition t)
      (λ c d r. record { asked = r.asked; knows = r.knows.knows }) q.conds f.conditions.items h.conds;
  known = h.known;
}

-- a map of a list of one item
pub map_one : {A B : Type 0} (f : A → B) (xs : List A) (x : A) → length xs ≡ 1 → x ≡ get_or xs 0 x
    → map f xs ≡ f x ∷ []
map_one f [] x one read = absurd (omega (arith, one))
map_one f (y ∷ []) x one read = ap (λ z. f z ∷ []) (sym read)
map_one f (y ∷ z ∷ zs) x one read = absurd (omega (arith, one))

-- one item more of a map
pub map_more : {A B : Type 0} (f : A → B) (xs : List A) (i : ℕ) (x : A) → i < length xs
    → x ≡ get_or xs i x → map f (take (i + 1) xs) ≡ map f (take i xs) ++ f x ∷ []
map_more f xs i x short read =
    ap (map f) (take_more xs i x short ∙ ap (λ y. take i xs ++ y ∷ []) (sym read))
    ∙ map-append f (take i xs) (x ∷ [])

-- one name more has its seeker
pub sought_next : (o : ops.Op) (names : List (List ℕ)) (i : ℕ) (name : List ℕ)
    (seekers seekers' : List Seeker) (s : Seeker)
    → map sought seekers ≡ map (sought_by o) (take i names) → i < length names
    → name ≡ get_or names i name → seekers' ≡ seekers ++ s ∷ [] → sought s ≡ sought_by o name
    → map sought seekers' ≡ map (sought_by o) (take (i + 1) names)
sought_next o names i name seekers seekers' s before short read more is =
    ap (map sought) more ∙ map-append sought seekers (s ∷ [])
    ∙ (λ j. before j ++ is j ∷ [])
    ∙ sym (map_more (sought_by o) names i name short read)

-- what follows from an answer's clause
pub weaker : {T E : Type 0} (P Q : T → Type 0) (r : Result T E) → ((v : T) → P v → Q v)
    → IfOk r P → IfOk r Q
weaker P Q (Ok v) f h = f v h
weaker P Q (Err e) f h = h

pub on_ok : {T E : Type 0} (P Q : Type 0) (r : Result T E) → (P → Q) → OnOk r P → OnOk r Q
on_ok P Q (Ok v) f h = f h
on_ok P Q (Err e) f h = h

pub on_both : {T E : Type 0} (P Q R : Type 0) (r : Result T E) → (P → Q → R) → OnOk r P → OnOk r Q
    → OnOk r R
on_both P Q R (Ok v) f h g = f h g
on_both P Q R (Err e) f h g = h

-- a list that was written back
pub written : {A Z : Type 0} (R : A → A → Type 0) (v : Vec A Z) (old ws : List A) → old ≡ v.items
    → length old ≡ v.len → AllZip R old ws → AllZip R v.items (with_items v ws).items
written R v old ws is counted zip =
    let long : length ws ≡ v.len = sym (zip_length R old ws zip) ∙ counted in
    subst (AllZip R v.items) (sym (with_items_is v ws long))
    (subst (λ xs. AllZip R xs ws) is zip)
