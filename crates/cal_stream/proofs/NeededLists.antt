-- The lines of what attributes, paths and records need are read.
use Rattle.std.proofs.Common.{◌≡◌, ◌+◌, ◌<◌, ◌≤◌, ◌^◌, Bool, true, false, List, [], ◌∷◌, ◌++◌}
use Rattle.std.proofs.Common.{length, pos, fold, refl, sym, ap, subst, arith, lit<, eqb}
use Rattle.std.proofs.Common.{if◌then◌else◌}
use Rattle.std.specs.Prelude.{Some, None, is_some, nat_lt}
use Rattle.std.specs.List.{AllByRecursion, flat_map}
use Rattle.std.specs.Str.{IsUtf8}
use Rattle.std.proofs.lemmas.Bool.Decides.{nat_tests}
use Rattle.std.proofs.lemmas.List.{length_push}
use Rattle.cal_value.specs.Kinds.{kind_node}
use Rattle.cal_value.specs.Reading.{value_of}
use Rattle.cal_value.specs.Values.{value_text}
use Rattle.cal_value.specs.declared.attribute.Attribute.{Attribute}
use Rattle.cal_value.specs.declared.attribute.Entry.{Entry}
use Rattle.cal_value.specs.declared.kind.Kind as kinds
use Rattle.cal_value.specs.declared.kind.Kind.TheVariants as kind
use Rattle.cal_value.specs.declared.props.Props.{Props}
use Rattle.cal_value.specs.declared.record.Rec.{Rec}
use Rattle.cal_value.specs.declared.variant.Variant.TheVariants as value
use Rattle.cal_value.proofs.RoundTrip.{reads_back}
use Rattle.cal_write.specs.Nodes.{Node, built_in, name_attribute, prop_attribute, node_of_kind}
use Rattle.cal_write.specs.Nodes.{node_of_props, node_of_attribute}
use Rattle.cal_write.specs.Nodes.{needed_by_attribute, needed_by_props, needed_by_record}
use Rattle.cal_write.specs.Nodes.{needed_below, with_node}
use Rattle.cal_write.specs.Places.{Has, HasAll, IsThere}
use Rattle.cal_write.proofs.BuiltInLemmas.{kind-at}
use Rattle.cal_write.proofs.PlaceLemmas.{fold-front, Has-with_node, HasAll-fold, IsAt-grown}
use Rattle.cal_write.proofs.PlaceLemmas.{IsThere-grown, KnowsAttribute-grown}
use Rattle.cal_read.specs.Stream.{Stream}
use Rattle.cal_stream.specs.Readable.{IsPlain}
use Rattle.cal_stream.proofs.Attributes.{kind_below-props, knows-names, knows-props}
use Rattle.cal_stream.proofs.Knows.{Knows}
use Rattle.cal_stream.proofs.Needed.{HasRoom, ReadsNeeded, needed-append, needed-none, needed-one}
use Rattle.cal_stream.proofs.Needed.{room-left, room-right}
use Rattle.cal_stream.proofs.NewNodes.{CanRead}
use Rattle.cal_stream.proofs.Premises.{IsGoodEntry, IsGoodPath, IsGoodRecord}
use Rattle.cal_stream.proofs.Values.{utf8-value}

-- ---- which nodes can be read

pub readable-value : (e : Entry) → IsGoodEntry e
    → value_of e.attr.kind (value_text e.value) ≡ Some e.value
readable-value e is =
    subst (λ (k : kinds.Kind). value_of k (value_text e.value) ≡ Some e.value)
    is.readable.entry.kind
    (reads_back e.value is.held.range
    (record { small = is.readable.small; proper = is.readable.entry.proper }))

plain-can : (up : Node) (e : Entry) → IsGoodEntry e → IsPlain e.attr → length up < 1024
    → CanRead up e
plain-can up e is plain depth = record {
  props = is.held.props;
  value = readable-value e is;
  text = utf8-value e.value is.held.range is.readable.small is.held.text;
  property = λ same. absurd (plain.no_props same);
  kind = λ same. absurd (plain.no_name same);
  depth = depth;
}

apart : prop_attribute ≡ name_attribute → ⊥
apart same = let kinds_same : kind.Int ≡ kind.Str = ap (λ (a : Attribute). a.kind) same in cc

props-can : (p : Props) (k : kinds.Kind) → p.0 < 2 ^ 32
    → CanRead (node_of_kind k) (record { attr = prop_attribute; value = value.Int (pos p.0) })
props-can p k small = record {
  props = omega arith;
  value = reads_back (value.Int (pos p.0)) tt (record { small = less; proper = tt });
  text = utf8-value (value.Int (pos p.0)) tt less tt;
  property = λ same. ap (λ (b : Bool). is_some (if b then Some p.0 else None)) fits;
  kind = λ same. absurd (apart same);
  depth = lit< tt;
}
  where
    less : p.0 ≤ 2 ^ 86
    less = omega arith

    fits : nat_lt p.0 (2 ^ 32) ≡ true
    fits = grind (arith, nat_tests)

name-can : (a : Attribute) → IsUtf8 a.name
    → CanRead (node_of_props a.props a.kind)
    (record { attr = name_attribute; value = value.Text a.name })
name-can a text = record {
  props = omega arith;
  value = refl;
  text = text;
  property = λ same. absurd (apart (sym same));
  kind = λ same ns g. ap is_some (kind_below-props ns g a.props a.kind);
  depth = by (eqb a.props.0 0);
}
  where
    by : (b : Bool) → length
        (if b then node_of_kind a.kind else node_of_kind a.kind
        ++ (record { attr = prop_attribute; value = value.Int (pos a.props.0) }) ∷ []) < 1024
    by true = lit< tt
    by false = lit< tt

-- ---- what an attribute needs

there-has : (ns : List Node) (n : Node) → Has ns n → IsThere ns n
there-has ns [] h = tt
there-has ns (e ∷ n) h = h

needed-props : (ns : List Node) (s : Stream) (a : Attribute) → Knows ns s.nodes
    → a.props.0 < 2 ^ 32 → HasRoom ns (needed_by_props a) → ReadsNeeded ns s (needed_by_props a)
needed-props ns s a k small room = by (eqb a.props.0 0) refl
  where
    e : Entry
    e = record { attr = prop_attribute; value = value.Int (pos a.props.0) }

    list : Bool → List Node
    list b = if b then [] else
        (if b then node_of_kind a.kind else node_of_kind a.kind ++ e ∷ []) ∷ []

    by : (b : Bool) → eqb a.props.0 0 ≡ b → ReadsNeeded ns s (needed_by_props a)
    by true is = subst (λ (b : Bool). ReadsNeeded ns s (list b)) (sym is) (needed-none ns s k)
    by false is =
        let there = (IsAt-grown built_in ns k.front (node_of_kind a.kind) (kind_node a.kind)
        (kind-at a.kind)).has in
        let described = (KnowsAttribute-grown built_in ns k.front prop_attribute 10
        knows-props).needed in
        subst (λ (b : Bool). ReadsNeeded ns s (list b)) (sym is)
        (needed-one ns s (node_of_kind a.kind) e k
        (props-can a.props a.kind small) there described
        (subst (λ (b : Bool). HasRoom ns (list b)) is room))

-- properties stand there once they were needed
props-there : (ns : List Node) (a : Attribute)
    → Has (fold with_node ns (needed_by_props a)) (node_of_kind a.kind)
    → Has (fold with_node ns (needed_by_props a)) (node_of_props a.props a.kind)
props-there ns a kind_there = by (fold with_node ns (needed_by_props a)) kind_there
    (HasAll-fold ns (needed_by_props a)) (eqb a.props.0 0) refl
  where
    by : (all : List Node) → Has all (node_of_kind a.kind) → HasAll all (needed_by_props a)
        → (b : Bool) → eqb a.props.0 0 ≡ b → Has all (node_of_props a.props a.kind)
    by all has needed true is =
        subst (λ (b : Bool). Has all
        (if b then node_of_kind a.kind else node_of_kind a.kind
        ++ (record { attr = prop_attribute; value = value.Int (pos a.props.0) }) ∷ []))
        (sym is) has
    by all has needed false is =
        (subst (λ (b : Bool). HasAll all (if b then [] else node_of_props a.props a.kind ∷ [])) is
        needed).0

pub needed-attribute : (ns : List Node) (s : Stream) (a : Attribute) → Knows ns s.nodes
    → IsUtf8 a.name → a.props.0 < 2 ^ 32 → HasRoom ns (needed_by_attribute a)
    → ReadsNeeded ns s (needed_by_attribute a)
needed-attribute ns s a k text small room =
    let first = needed-props ns s a k small
    (room-left ns (needed_by_props a) (node_of_attribute a ∷ []) room) in
    let now = fold with_node ns (needed_by_props a) in
    let kind_there = (IsAt-grown built_in now first.knows.front (node_of_kind a.kind)
    (kind_node a.kind) (kind-at a.kind)).has in
    let above = props-there ns a kind_there in
    let described = (KnowsAttribute-grown built_in now first.knows.front name_attribute 8
    knows-names).needed in
    needed-append ns s (needed_by_props a) (node_of_attribute a ∷ []) first
    (needed-one now (record s { nodes = first.nodes }) (node_of_props a.props a.kind)
    (record { attr = name_attribute; value = value.Text a.name })
    first.knows (name-can a text) (there-has now (node_of_props a.props a.kind) above) described
    (room-right ns (needed_by_props a) (node_of_attribute a ∷ []) room))

-- ---- what a path needs

needed-path : (up path : Node) (ns : List Node) (s : Stream) → Knows ns s.nodes → IsThere ns up
    → AllByRecursion IsGoodEntry path → AllByRecursion (λ (e : Entry). IsPlain e.attr) path
    → length up + length path ≤ 1024
    → HasRoom ns (needed_below up path) → ReadsNeeded ns s (needed_below up path)
needed-path up [] ns s k there are plain depth room = needed-none ns s k
needed-path up (e ∷ path) ns s k there are plain depth room =
    let of_attribute = needed_by_attribute e.attr in
    let node = (up ++ e ∷ []) ∷ [] in
    let below = needed_below (up ++ e ∷ []) path in
    let first = needed-attribute ns s e.attr k are.0.held.name are.0.held.props
    (room-left ns of_attribute (node ++ below) room) in
    let now = fold with_node ns of_attribute in
    let more = room-right ns of_attribute (node ++ below) room in
    let second = needed-one now (record s { nodes = first.nodes }) up e first.knows
    (plain-can up e are.0 plain.0 (omega arith))
    (IsThere-grown ns now (fold-front ns of_attribute) up there) (HasAll-fold ns of_attribute)
    (room-left now node below more)
    in
    let last = with_node now (up ++ e ∷ []) in
    let deeper : length (up ++ e ∷ []) + length path ≤ 1024 =
    (let longer = length_push up e in omega arith) in
    let rest = needed-path (up ++ e ∷ []) path last (record s { nodes = second.nodes }) second.knows
    (there-has last (up ++ e ∷ []) (Has-with_node now (up ++ e ∷ []))) are.1 plain.1 deeper
    (room-right now node below more)
    in
    needed-append ns s of_attribute (node ++ below) first
    (needed-append now (record s { nodes = first.nodes }) node below second rest)

-- ---- what a record needs

needed-paths : (paths : List Node) (ns : List Node) (s : Stream) → Knows ns s.nodes
    → AllByRecursion IsGoodPath paths
    → HasRoom ns (flat_map (needed_below []) paths)
    → ReadsNeeded ns s (flat_map (needed_below []) paths)
needed-paths [] ns s k are room = needed-none ns s k
needed-paths (path ∷ paths) ns s k are room =
    let of_path = needed_below [] path in
    let of_rest = flat_map (needed_below []) paths in
    let short = are.0.short in
    let first = needed-path [] path ns s k tt are.0.entries are.0.plain (omega arith)
    (room-left ns of_path of_rest room) in
    needed-append ns s of_path of_rest first
    (needed-paths paths (fold with_node ns of_path)
    (record s { nodes = first.nodes }) first.knows are.1 (room-right ns of_path of_rest room))

needed-imms : (imms : List Entry) (ns : List Node) (s : Stream) → Knows ns s.nodes
    → AllByRecursion IsGoodEntry imms
    → HasRoom ns (flat_map (λ (e : Entry). needed_by_attribute e.attr) imms)
    → ReadsNeeded ns s (flat_map (λ (e : Entry). needed_by_attribute e.attr) imms)
needed-imms [] ns s k are room = needed-none ns s k
needed-imms (e ∷ imms) ns s k are room =
    let of_first = needed_by_attribute e.attr in
    let of_rest = flat_map (λ (d : Entry). needed_by_attribute d.attr) imms in
    let first = needed-attribute ns s e.attr k are.0.held.name are.0.held.props
    (room-left ns of_first of_rest room) in
    needed-append ns s of_first of_rest first
    (needed-imms imms (fold with_node ns of_first)
    (record s { nodes = first.nodes }) first.knows are.1
    (room-right ns of_first of_rest room))

pub needed-record : (ns : List Node) (s : Stream) (r : Rec) → Knows ns s.nodes → IsGoodRecord r
    → HasRoom ns (needed_by_record r) → ReadsNeeded ns s (needed_by_record r)
needed-record ns s r k is room =
    let of_paths = flat_map (needed_below []) r.paths in
    let of_imms = flat_map (λ (e : Entry). needed_by_attribute e.attr) r.imms in
    let first = needed-paths r.paths ns s k is.paths (room-left ns of_paths of_imms room) in
    needed-append ns s of_paths of_imms first
    (needed-imms r.imms (fold with_node ns of_paths)
    (record s { nodes = first.nodes }) first.knows is.imms
    (room-right ns of_paths of_imms room))
