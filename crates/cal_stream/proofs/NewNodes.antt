-- The line of a new node is read as that node.
use Rattle.std.proofs.Common.{◌≡◌, ◌<◌, ◌≤◌, ◌^◌, ◌∙◌, ℕ, Bool, true, false, not, ◌&&◌, List, []}
use Rattle.std.proofs.Common.{◌∷◌, ◌++◌, length, refl, sym, ap, subst, arith, if◌then◌else◌}
use Rattle.std.specs.Prelude.{◌==◌, codes, Option, Some, None, Result, Ok, Err, is_some, nat_lt}
use Rattle.std.specs.Prelude.{option_to_list}
use Rattle.std.specs.List.{AllByRecursion, list_any}
use Rattle.std.specs.Str.{IsUtf8}
use Rattle.std.proofs.lemmas.Bool.Decides.{Decides-eqb, nat_tests}
use Rattle.std.proofs.lemmas.List.{length-map}
use Rattle.cal_context.specs.Lists.{IsFront}
use Rattle.cal_line.specs.FirstFault.{◌>>=◌}
use Rattle.cal_value.specs.Reading.{value_of}
use Rattle.cal_value.specs.Values.{value_text}
use Rattle.cal_value.specs.declared.attribute.Attribute.{Attribute}
use Rattle.cal_value.specs.declared.attribute.Entry.{Entry}
use Rattle.cal_value.specs.declared.variant.Variant.{Variant}
use Rattle.cal_write.specs.CanonicalText.{id_in, parent_id, line_of_node}
use Rattle.cal_write.specs.Nodes.{Node, same_node, built_in, name_attribute, prop_attribute}
use Rattle.cal_write.specs.Nodes.{node_of_attribute, needed_by_attribute}
use Rattle.cal_write.specs.Places.{Has, HasAll, IsThere, KnowsAttribute}
use Rattle.cal_write.proofs.PlaceLemmas.{id_within, KnowsAttribute-grown}
use Rattle.cal_write.proofs.StreamLemmas.{needed-described, new-line}
use Rattle.cal_read.specs.Fields.{or_fault, if_there}
use Rattle.cal_read.specs.NodeLines.{Site, as_attribute, known, misfit, node_there, node_value}
use Rattle.cal_read.specs.NodeLines.{site_of, steps_down, with_fitting, with_ids, with_node}
use Rattle.cal_read.specs.Nodes as reader
use Rattle.cal_read.specs.Nodes.{Named, Step, kind_below, node_at, props_in}
use Rattle.cal_read.specs.Stream.{Stream}
use Rattle.cal_read.specs.declared.kind.StreamKind.{StreamKind}
use Rattle.cal_read.specs.declared.kind.StreamKind.TheVariants as kind
use Rattle.cal_stream.proofs.Attributes.{attribute-known, attribute-one, id-built_in, knows-names}
use Rattle.cal_stream.proofs.Attributes.{knows-props, parent-known}
use Rattle.cal_stream.proofs.Fields.{node_fields, node_fields-texts, node_line-is, is_utf8_key}
use Rattle.cal_stream.proofs.Knows.{Knows, pushed, with_named, step_to, steps_of, stream_node}
use Rattle.cal_stream.proofs.Steps.{Reads, reads-line, step-node}

-- what is asked of a node that is to be read
pub record CanRead (up : Node) (e : Entry) : Type 0 where
  pub props : e.attr.props.0 < 2 ^ 32
  pub value : value_of e.attr.kind (value_text e.value) ≡ Some e.value
  pub text : IsUtf8 (value_text e.value)
  pub property : e.attr ≡ prop_attribute → is_some (props_in e.value) ≡ true
  pub kind : e.attr ≡ name_attribute → (ns : List Node) → IsFront built_in ns
      → is_some (kind_below (steps_of ns up)) ≡ true
  pub depth : length up < 1024

module _ (ns : List Node) (named : List Named) (up : Node) (e : Entry) (k : Knows ns named)
    (can : CanRead up e) (own : Has ns (node_of_attribute e.attr)) where
  -- where its attribute has the id of a built-in one, it is that one
  is-built_in : (b : Attribute) (id : ℕ) → KnowsAttribute built_in b id → b.props.0 < 2 ^ 32
      → id_in ns (node_of_attribute e.attr) ≡ id → e.attr ≡ b
  is-built_in b id knows small same =
      let there = (KnowsAttribute-grown built_in ns k.front b id knows).at.has in
      attribute-one ns named k e.attr b can.props small own there
      (same ∙ sym (id-built_in ns k.front b id knows))

  value-read : node_value (id_in ns (node_of_attribute e.attr)) e.attr (value_text e.value)
      ≡ Ok e.value
  value-read =
      (λ i. or_fault kind.BadValue (can.value i)
      >>= (λ (v : Variant). tested v (id_in ns (node_of_attribute e.attr) == 10)))
      ∙ by (id_in ns (node_of_attribute e.attr) == 10)
      (λ h. can.property (is-built_in prop_attribute 10 knows-props (omega arith)
      ((Decides-eqb (id_in ns (node_of_attribute e.attr)) 10).0 h)))
    where
      tested : Variant → Bool → Result Variant StreamKind
      tested v b = if b && not (is_some (props_in v)) then Err kind.BadValue else Ok v

      by : (b : Bool) → (b ≡ true → is_some (props_in e.value) ≡ true)
          → (if b && not (is_some (props_in e.value)) then Err kind.BadValue else Ok e.value)
          ≡ Ok e.value
      by true good = ap (λ (s : Bool). if not s then Err kind.BadValue else Ok e.value) (good refl)
      by false good = refl

  fits : misfit (id_in ns (node_of_attribute e.attr)) (steps_of ns up) ≡ None
  fits = by (id_in ns (node_of_attribute e.attr) == 8)
      (λ h. can.kind (is-built_in name_attribute 8 knows-names (omega arith)
      ((Decides-eqb (id_in ns (node_of_attribute e.attr)) 8).0 h)) ns k.front)
    where
      short : nat_lt (length (steps_of ns up)) 1024 ≡ true
      short = let same = length-map up (step_to ns) in let depth = can.depth in grind
          (arith, nat_tests)

      depth : (if nat_lt (length (steps_of ns up)) 1024 then None else Some kind.TooDeep) ≡ None
      depth = ap (λ (b : Bool). if b then None else Some kind.TooDeep) short

      by : (b : Bool) → (b ≡ true → is_some (kind_below (steps_of ns up)) ≡ true)
          → (if b && not (is_some (kind_below (steps_of ns up))) then Some kind.NoKind else
          (if nat_lt (length (steps_of ns up)) 1024 then None else Some kind.TooDeep)) ≡ None
      by true good = ap (λ (s : Bool). if not s then Some kind.NoKind else
          (if nat_lt (length (steps_of ns up)) 1024 then None else Some kind.TooDeep)) (good refl)
          ∙ depth
      by false good = depth

  pub made : IsThere ns up
      → with_ids named (record {
        id = length ns;
        attribute = id_in ns (node_of_attribute e.attr);
        parent = parent_id ns up;
      }) (value_text e.value)
      ≡ Ok (with_named ns named up e)
  made there =
      let of_attribute = attribute-known ns named k e.attr can.props own in
      let of_parent = parent-known ns named k up there in
      let site : site_of named
      (record {
        id = length ns;
        attribute = id_in ns (node_of_attribute e.attr);
        parent = parent_id ns up;
      })
      ≡ Ok (record { attribute = e.attr; above = steps_of ns up }) =
      (λ i. or_fault kind.UnknownNode (of_attribute.at i)
      >>= (λ (n : reader.Node). if_there (known named) (parent_id ns up)
      >>= (λ (p : Option reader.Node). as_attribute n
      >>= (λ (a : Attribute). as_site a (steps_down p)))))
      ∙ (λ i. of_parent.known_by i
      >>= (λ (p : Option reader.Node). as_attribute of_attribute.node
      >>= (λ (a : Attribute). as_site a (steps_down p))))
      ∙ (λ i. or_fault kind.NotAttribute (of_attribute.is i)
      >>= (λ (a : Attribute). as_site a (steps_down of_parent.parent)))
      ∙ ap (as_site e.attr) of_parent.steps
      in
      (λ i. site i >>= (λ (s : Site). node_value own_id s.attribute (value_text e.value)
      >>= (λ (v : Variant). with_fitting named (length ns) (there_at s v)
      (misfit own_id s.above))))
      ∙ (λ i. value-read i >>=
      (λ (v : Variant). with_fitting named (length ns)
      (there_at (record { attribute = e.attr; above = steps_of ns up }) v)
      (misfit own_id (steps_of ns up))))
      ∙ ap (with_fitting named (length ns) (stream_node ns up e)) fits
      ∙ ap (with_node named (length ns) (stream_node ns up e)) (k.free (length ns) (omega arith))
    where
      own_id : ℕ
      own_id = id_in ns (node_of_attribute e.attr)

      there_at : Site → Variant → reader.Node
      there_at s v = node_there
          (record { id = length ns; attribute = own_id; parent = parent_id ns up }) s v

      as_site : Attribute → List Step → Result Site StreamKind
      as_site a above = Ok (record { attribute = a; above = above })

-- ids are small where there are few enough nodes
pub small_id : (ns : List Node) (n : Node) → Has ns n → length ns ≤ 2 ^ 64 → id_in ns n < 2 ^ 64
small_id ns n h room = let within = id_within ns n h in omega arith

small_parent : (ns : List Node) (up : Node) → IsThere ns up → length ns ≤ 2 ^ 64
    → AllByRecursion (λ p. p < 2 ^ 64) (option_to_list (parent_id ns up))
small_parent ns [] there room = tt
small_parent ns (d ∷ up) there room = (small_id ns (d ∷ up) there room, tt)

pub reads-new : (ns : List Node) (s : Stream) (up : Node) (e : Entry) → Knows ns s.nodes
    → CanRead up e → IsThere ns up → HasAll ns (needed_by_attribute e.attr)
    → list_any (same_node (up ++ e ∷ [])) ns ≡ false → length ns < 2 ^ 64
    → Reads s (line_of_node (pushed ns up e) (up ++ e ∷ []))
    (record s { nodes = with_named ns s.nodes up e })
reads-new ns s up e k can there needed new room =
    let own = needed-described ns e needed in
    let a = id_in ns (node_of_attribute e.attr) in
    let small_a : a < 2 ^ 64 = small_id ns (node_of_attribute e.attr) own (omega arith) in
    let parents = small_parent ns up there (omega arith) in
    let line = new-line ns up e (parent_id ns up) a k.closed (record { there = there; is = refl })
    (record { at = record { has = own; is = refl }; needed = needed }) new in
    let t : Stream = record s { nodes = with_named ns s.nodes up e } in
    subst (λ (l : List ℕ). Reads s l t)
    (sym (line ∙ node_line-is (length ns) a e.value (parent_id ns up)))
    (reads-line s t (codes "node")
    (node_fields (length ns) a (value_text e.value) (parent_id ns up))
    (node_fields-texts (length ns) a (value_text e.value)
    (parent_id ns up) room small_a can.text parents)
    (is_utf8_key (codes "node") refl)
    (step-node s (length ns) a (value_text e.value) (parent_id ns up)
    (with_named ns s.nodes up e) room small_a parents
    (made ns s.nodes up e k can own there)))
