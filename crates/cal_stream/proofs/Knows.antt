-- What the reader knows of the nodes that are written.
use Rattle.std.proofs.Common.{◌≡◌, ◌≢◌, ◌≤◌, ◌∙◌, ℕ, Bool, false, ◌⊎◌, inl, inr, List, [], ◌∷◌}
use Rattle.std.proofs.Common.{◌++◌, length, map, refl, sym, ap, arith, if◌then◌else◌}
use Rattle.std.specs.Prelude.{Some, None}
use Rattle.std.specs.List.{list_any}
use Rattle.std.proofs.lemmas.Bool.{ne_eqb}
use Rattle.std.proofs.lemmas.Bool.Decides.{Decides-eqb}
use Rattle.std.proofs.lemmas.List.{append_assoc, length_push, same_from_push}
use Rattle.cal_context.specs.Lists.{IsFront}
use Rattle.cal_value.specs.declared.attribute.Entry.{Entry}
use Rattle.cal_write.specs.CanonicalText.{id_in, parent_id}
use Rattle.cal_write.specs.Nodes.{Node, same_node, built_in}
use Rattle.cal_write.specs.Nodes.{node_of_attribute, needed_by_attribute, needed_below}
use Rattle.cal_write.specs.Places.{Has, HasAll, IsThere, IsClosed}
use Rattle.cal_write.proofs.PlaceLemmas.{id_within, HasAll-left, HasAll-right, Has-push_cases}
use Rattle.cal_write.proofs.PlaceLemmas.{id_in-grown, id_in-last, parent_id-grown}
use Rattle.cal_write.proofs.StreamLemmas.{closed-there, closed-parent, closed-attribute}
use Rattle.cal_write.proofs.StreamLemmas.{needed-described, new-closed}
use Rattle.cal_read.specs.Nodes as reader
use Rattle.cal_read.specs.Nodes.{Step, Named, attribute_of, kind_below, node_at, props_below}
use Rattle.cal_read.specs.Nodes.{props_in, steps_to}

-- a step as the reader has it: the entry, and the id of its attribute's node
abbrev pub step_to : List Node → Entry → Step
step_to ns e = record { attribute = id_in ns (node_of_attribute e.attr); entry = e }

abbrev pub steps_of : List Node → List Entry → List Step
steps_of ns path = map (step_to ns) path

-- the node that stands below a path with an entry of its own
abbrev pub stream_node : List Node → Node → Entry → reader.Node
stream_node ns up e = record {
  own = step_to ns e;
  parent = parent_id ns up;
  above = steps_of ns up;
}

-- the nodes with a new one, which the reader knows by the next id
abbrev pub pushed : List Node → Node → Entry → List Node
pushed ns up e = ns ++ (up ++ e ∷ []) ∷ []

abbrev pub with_named : List Node → List Named → Node → Entry → List Named
with_named ns named up e = record { id = length ns; node = stream_node ns up e } ∷ named

-- the reader knows each node that is written by its id, and no other
pub record Knows (ns : List Node) (named : List Named) : Type 0 where
  pub front : IsFront built_in ns
  pub closed : IsClosed ns
  pub has : (up : Node) (e : Entry) → Has ns (up ++ e ∷ [])
      → node_at named (id_in ns (up ++ e ∷ [])) ≡ Some (stream_node ns up e)
  pub free : (id : ℕ) → length ns ≤ id → node_at named id ≡ None

-- ---- as more nodes come

steps-grown : (old new : List Node) → IsFront old new → (v path : Node)
    → HasAll old (needed_below v path) → steps_of new path ≡ steps_of old path
steps-grown old new g v [] h = refl
steps-grown old new g v (e ∷ path) h =
    let own = needed-described old e
    (HasAll-left old (needed_by_attribute e.attr)
    ((v ++ e ∷ []) ∷ needed_below (v ++ e ∷ []) path) h) in
    let rest = (HasAll-right old (needed_by_attribute e.attr)
    ((v ++ e ∷ []) ∷ needed_below (v ++ e ∷ []) path) h).1 in
    let id = id_in-grown old new g (node_of_attribute e.attr) own in
    let more = steps-grown old new g (v ++ e ∷ []) path rest in
    λ j. record { attribute = id j; entry = e } ∷ more j

pub node-grown : (old new : List Node) → IsFront old new → IsClosed old → (up : Node) (e : Entry)
    → IsThere old up → Has old (node_of_attribute e.attr)
    → stream_node new up e ≡ stream_node old up e
node-grown old new g closed up e there known_attribute =
    let id = id_in-grown old new g (node_of_attribute e.attr) known_attribute in
    let parent = parent_id-grown old new g up there in
    let above = steps-grown old new g [] up (closed-there old closed up there) in
    λ j. record { own = record { attribute = id j; entry = e }; parent = parent j; above = above j }

-- one node more, which gets the next id
module _ (ns : List Node) (named : List Named) (up : Node) (e : Entry) (k : Knows ns named)
    (there : IsThere ns up)
    (needed : HasAll ns (needed_by_attribute e.attr))
    (new : list_any (same_node (up ++ e ∷ [])) ns ≡ false) where
  own_attribute : Has ns (node_of_attribute e.attr)
  own_attribute = needed-described ns e needed

  front : IsFront ns (pushed ns up e)
  front = ((up ++ e ∷ []) ∷ [], refl)

  last : node_at (with_named ns named up e) (id_in (pushed ns up e) (up ++ e ∷ []))
      ≡ Some (stream_node (pushed ns up e) up e)
  last =
      let here = (Decides-eqb (length ns) (id_in (pushed ns up e) (up ++ e ∷ []))).1
      (sym (id_in-last ns (up ++ e ∷ []) new)) in
      ap (λ (b : Bool). if b then Some (stream_node ns up e) else node_at named
      (id_in (pushed ns up e) (up ++ e ∷ []))) here
      ∙ ap Some (sym (node-grown ns (pushed ns up e) front k.closed up e there own_attribute))

  before : (vp : Node) (f : Entry) → Has ns (vp ++ f ∷ [])
      → node_at (with_named ns named up e) (id_in (pushed ns up e) (vp ++ f ∷ []))
      ≡ Some (stream_node (pushed ns up e) vp f)
  before vp f h =
      let same = id_in-grown ns (pushed ns up e) front (vp ++ f ∷ []) h in
      let within = id_within ns (vp ++ f ∷ []) h in
      let other : length ns ≢ id_in ns (vp ++ f ∷ []) = omega arith in
      ap (λ (id : ℕ). node_at (with_named ns named up e) id) same
      ∙ ap (λ (b : Bool). if b then Some (stream_node ns up e) else node_at named
      (id_in ns (vp ++ f ∷ []))) (ne_eqb (length ns) (id_in ns (vp ++ f ∷ [])) other)
      ∙ k.has vp f h
      ∙ ap Some (sym (node-grown ns (pushed ns up e) front k.closed vp f
      (closed-parent ns k.closed vp f h) (closed-attribute ns k.closed vp f h)))

  pub knows-more : Knows (pushed ns up e) (with_named ns named up e)
  knows-more = record {
    front = (
      k.front.0 ++ (up ++ e ∷ []) ∷ [],
      ap (λ l. l ++ (up ++ e ∷ []) ∷ []) k.front.1
          ∙ append_assoc built_in k.front.0 ((up ++ e ∷ []) ∷ []),
    );
    closed = new-closed ns up e (parent_id ns up) (id_in ns (node_of_attribute e.attr)) k.closed
        (record { there = there; is = refl })
        (record { at = record { has = own_attribute; is = refl }; needed = needed }) new;
    has = λ vp f h. by vp f (Has-push_cases ns (up ++ e ∷ []) (vp ++ f ∷ []) h);
    free = λ id past.
        let longer = length_push ns (up ++ e ∷ []) in
        let other : length ns ≢ id = omega arith in
        ap (λ (b : Bool). if b then Some (stream_node ns up e) else node_at named id)
        (ne_eqb (length ns) id other) ∙ k.free id (omega arith);
  }
    where
      by : (vp : Node) (f : Entry) → Has ns (vp ++ f ∷ []) ⊎ ((up ++ e ∷ []) ≡ (vp ++ f ∷ []))
          → node_at (with_named ns named up e) (id_in (pushed ns up e) (vp ++ f ∷ []))
          ≡ Some (stream_node (pushed ns up e) vp f)
      by vp f (inl h) = before vp f h
      by vp f (inr same) =
          let one = same_from_push up vp e f same in
          (λ j. node_at (with_named ns named up e) (id_in (pushed ns up e) (sym same j)))
          ∙ last ∙ (λ j. Some (stream_node (pushed ns up e) (one.0 j) (one.1 j)))
