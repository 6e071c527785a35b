-- What the reader finds above the nodes that are written: parents, and attributes.
use Rattle.std.proofs.Common.{◌≡◌, ◌<◌, ◌^◌, ◌∙◌, ℕ, Bool, true, false, List, [], ◌∷◌, ◌++◌, pos}
use Rattle.std.proofs.Common.{refl, sym, ap, subst, arith, eqb, if◌then◌else◌}
use Rattle.std.specs.Prelude.{Option, Some, None, Ok, unwrap_or, nat_lt}
use Rattle.std.specs.Option.{option_and_then}
use Rattle.std.proofs.lemmas.Bool.Decides.{Decides-eqb, nat_tests}
use Rattle.std.proofs.lemmas.List.{map-append}
use Rattle.cal_line.specs.FirstFault.{◌>>=◌}
use Rattle.cal_value.specs.declared.attribute.Attribute.{Attribute}
use Rattle.cal_value.specs.declared.attribute.Entry.{Entry}
use Rattle.cal_value.specs.declared.kind.Kind.{Kind}
use Rattle.cal_value.specs.declared.props.Props.{Props}
use Rattle.cal_value.specs.declared.variant.Variant.TheVariants as value
use Rattle.cal_context.specs.Lists.{IsFront}
use Rattle.cal_write.specs.CanonicalText.{id_in, parent_id}
use Rattle.cal_write.specs.Nodes.{Node, built_in, name_attribute, type_attribute, prop_attribute}
use Rattle.cal_write.specs.Nodes.{node_of_kind, node_of_props, node_of_attribute}
use Rattle.cal_write.specs.Places.{Has, IsThere, KnowsAttribute}
use Rattle.cal_write.proofs.PlaceLemmas.{KnowsAttribute-grown}
use Rattle.cal_read.specs.Fields.{or_fault, if_there}
use Rattle.cal_read.specs.NodeLines.{known, steps_down}
use Rattle.cal_read.specs.Nodes as reader
use Rattle.cal_read.specs.Nodes.{Step, Named, attribute_named, attribute_of, kind_below, node_at}
use Rattle.cal_read.specs.Nodes.{props_below, props_in}
use Rattle.cal_read.specs.declared.kind.StreamKind.TheVariants as kind
use Rattle.cal_stream.proofs.Knows.{Knows, step_to, steps_of, stream_node}

-- ---- parents

-- a path with an entry has a last one
pub split_last : (d : Entry) (up : Node) → (v : Node) × (f : Entry) × (d ∷ up ≡ v ++ f ∷ [])
split_last d [] = ([], d, refl)
split_last d (c ∷ up) =
    let rest = split_last c up in (d ∷ rest.0, rest.1, ap (λ (l : Node). d ∷ l) rest.2)

-- a node of the stream, by its path
pub record IsKnown (ns : List Node) (named : List Named) (path : Node) : Type 0 where
  pub node : reader.Node
  pub known_by : known named (id_in ns path) ≡ Ok node
  pub steps : reader.steps_to node ≡ steps_of ns path

pub path-known : (ns : List Node) (named : List Named) → Knows ns named → (d : Entry) (up : Node)
    → Has ns (d ∷ up) → IsKnown ns named (d ∷ up)
path-known ns named k d up h =
    let s = split_last d up in
    record {
      node = stream_node ns s.0 s.1;
      known_by = ap (λ (o : Option reader.Node). or_fault kind.UnknownNode o)
          (ap (λ (p : Node). node_at named (id_in ns p)) s.2
          ∙ k.has s.0 s.1 (subst (Has ns) s.2 h));
      steps = sym (map-append (step_to ns) s.0 (s.1 ∷ [])) ∙ ap (steps_of ns) (sym s.2);
    }

-- the parent of a node is known, or it is the root
pub record IsParentKnown (ns : List Node) (named : List Named) (up : Node) : Type 0 where
  pub parent : Option reader.Node
  pub known_by : if_there (known named) (parent_id ns up) ≡ Ok parent
  pub steps : steps_down parent ≡ steps_of ns up

pub parent-known : (ns : List Node) (named : List Named) → Knows ns named → (up : Node)
    → IsThere ns up → IsParentKnown ns named up
parent-known ns named k [] there = record { parent = None; known_by = refl; steps = refl }
parent-known ns named k (d ∷ up) there =
    let is = path-known ns named k d up there in
    record {
      parent = Some is.node;
      known_by = λ i. is.known_by i >>= (λ (given : reader.Node). Ok (Some given));
      steps = is.steps;
    }

-- ---- the kind and the properties above an attribute's name

-- the built-in attributes have their ids in each stream
pub knows-names : KnowsAttribute built_in name_attribute 8
unfolding built_in
knows-names = record { at = record { has = refl; is = refl }; needed = (refl, tt) }

pub knows-kinds : KnowsAttribute built_in type_attribute 9
unfolding built_in
knows-kinds = record { at = record { has = refl; is = refl }; needed = (refl, tt) }

pub knows-props : KnowsAttribute built_in prop_attribute 10
unfolding built_in
knows-props = record { at = record { has = refl; is = refl }; needed = (refl, tt) }

pub id-built_in : (ns : List Node) → IsFront built_in ns → (a : Attribute) (id : ℕ)
    → KnowsAttribute built_in a id → id_in ns (node_of_attribute a) ≡ id
id-built_in ns g a id knows = sym (KnowsAttribute-grown built_in ns g a id knows).at.is

module _ (ns : List Node) (g : IsFront built_in ns) (p : Props) (k : Kind) where
  abbrev kind_step : ℕ → Step
  kind_step id = record {
    attribute = id;
    entry = record { attr = type_attribute; value = value.Kind k };
  }

  abbrev props_step : ℕ → Step
  props_step id = record {
    attribute = id;
    entry = record { attr = prop_attribute; value = value.Int (pos p.0) };
  }

  pub kind_below-props : kind_below (steps_of ns (node_of_props p k)) ≡ Some k
  kind_below-props = by (eqb p.0 0)
    where
      by : (b : Bool) → kind_below
          (steps_of ns (if b then node_of_kind k else node_of_kind k
          ++ (record { attr = prop_attribute; value = value.Int (pos p.0) }) ∷ [])) ≡ Some k
      by true = λ i. kind_below (kind_step (id-built_in ns g type_attribute 9 knows-kinds i) ∷ [])
      by false = λ i. kind_below
          (kind_step (id-built_in ns g type_attribute 9 knows-kinds i) ∷ props_step
          (id-built_in ns g prop_attribute 10 knows-props i) ∷ [])

  pub props_below-props : p.0 < 2 ^ 32 → props_below (steps_of ns (node_of_props p k)) ≡ p.0
  props_below-props small = by (eqb p.0 0) ((Decides-eqb p.0 0).0)
    where
      fits : nat_lt p.0 (2 ^ 32) ≡ true
      fits = grind (arith, nat_tests)

      by : (b : Bool) → (b ≡ true → p.0 ≡ 0)
          → props_below (steps_of ns
          (if b then node_of_kind k else node_of_kind k
          ++ (record { attr = prop_attribute; value = value.Int (pos p.0) }) ∷ [])) ≡ p.0
      by true none = (λ i. props_below
          (kind_step (id-built_in ns g type_attribute 9 knows-kinds i) ∷ [])) ∙ sym (none refl)
      by false none =
          (λ i. props_below (kind_step
          (id-built_in ns g type_attribute 9 knows-kinds i) ∷ props_step
          (id-built_in ns g prop_attribute 10 knows-props i) ∷ []))
          ∙ ap (λ (b : Bool). unwrap_or (if b then Some p.0 else None) 0) fits

-- ---- the attribute that a node is

attribute_of-node : (ns : List Node) → IsFront built_in ns → (a : Attribute) → a.props.0 < 2 ^ 32
    → attribute_of (stream_node ns (node_of_props a.props a.kind)
    (record { attr = name_attribute; value = value.Text a.name })) ≡ Some a
attribute_of-node ns g a small =
    (λ i. if eqb (id-built_in ns g name_attribute 8 knows-names i) 8
    then attribute_named a.name (kind_below-props ns g a.props a.kind i)
    (props_below-props ns g a.props a.kind small i) else None)

-- the attribute's node is known, and is the attribute
pub record IsAttributeKnown (ns : List Node) (named : List Named) (a : Attribute) : Type 0 where
  pub node : reader.Node
  pub at : node_at named (id_in ns (node_of_attribute a)) ≡ Some node
  pub is : attribute_of node ≡ Some a

pub attribute-known : (ns : List Node) (named : List Named) → Knows ns named → (a : Attribute)
    → a.props.0 < 2 ^ 32 → Has ns (node_of_attribute a) → IsAttributeKnown ns named a
attribute-known ns named k a small h = record {
  node = stream_node ns (node_of_props a.props a.kind)
      (record { attr = name_attribute; value = value.Text a.name });
  at = k.has (node_of_props a.props a.kind)
      (record { attr = name_attribute; value = value.Text a.name }) h;
  is = attribute_of-node ns k.front a small;
}

some_one : (a b : Attribute) → Some a ≡ Some b → a ≡ b
some_one a b e = cc

-- so an id is that of one attribute
pub attribute-one : (ns : List Node) (named : List Named) → Knows ns named → (a b : Attribute)
    → a.props.0 < 2 ^ 32 → b.props.0 < 2 ^ 32
    → Has ns (node_of_attribute a) → Has ns (node_of_attribute b)
    → id_in ns (node_of_attribute a) ≡ id_in ns (node_of_attribute b) → a ≡ b
attribute-one ns named k a b small_a small_b has_a has_b same =
    let of_a = attribute-known ns named k a small_a has_a in
    let of_b = attribute-known ns named k b small_b has_b in
    some_one a b
    (sym of_a.is ∙ sym (ap (option_and_then attribute_of) of_a.at)
    ∙ ap (λ (id : ℕ). option_and_then attribute_of (node_at named id)) same
    ∙ ap (option_and_then attribute_of) of_b.at ∙ of_b.is)
