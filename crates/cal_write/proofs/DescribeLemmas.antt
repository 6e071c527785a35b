use Rattle.std.proofs.Common.{◌≡◌, ℕ, Bool, true, false, [], ◌∷◌, ◌++◌, pos, Some, ap, ◌∙◌, subst, arith, eqb, lit≤, if◌then◌else◌}
use Rattle.std.proofs.lemmas.Bool.Decides.{nat_tests}
use Rattle.cal_value.specs.Kinds.{kind_node}
use Rattle.cal_value.specs.declared.attribute.Attribute.{Attribute}
use Rattle.cal_value.specs.declared.attribute.Entry.{Entry}
use Rattle.cal_value.specs.declared.kind.Kind as kinds
use Rattle.cal_value.specs.declared.props.Props.{Props}
use Rattle.cal_value.specs.declared.variant.Variant.TheVariants as value
use Rattle.cal_write.specs.BuiltIn.{built_in_attribute, built_in_id}
use Rattle.cal_write.specs.Nodes.{built_in, name_attribute, prop_attribute, node_of_kind, node_of_props, node_of_attribute, needed_by_props, needed_by_attribute}
use Rattle.cal_write.specs.Places.{IsAt, IsParent, KnowsAttribute}
use Rattle.cal_write.specs.Stream.{IsStream, AddsDescribed, Describes}
use Rattle.cal_write.specs.Written.{Written, after}
use Rattle.cal_write.specs.declared.built_in.BuiltIn.{BuiltIn}
use Rattle.cal_write.specs.declared.built_in.BuiltIn.TheVariants.{OfNames, OfProps}
use Rattle.cal_write.specs.declared.stream.Stream.{Stream}
use Rattle.cal_write.proofs.AfterLemmas.{after-append, after-known}
use Rattle.cal_write.proofs.BuiltInLemmas.{knows-built_in, kind-at}
use Rattle.cal_write.proofs.PlaceLemmas.{at-parent, IsAt-grown, KnowsAttribute-grown}

-- ---- what is built in is there in each stream

pub knows : (v : Stream) (s : Written) → IsStream v s → (b : BuiltIn) → KnowsAttribute s.nodes (built_in_attribute b) (built_in_id b)
knows v s is b = KnowsAttribute-grown built_in s.nodes is.front (built_in_attribute b) (built_in_id b) (knows-built_in b)

kind-there : (v : Stream) (s : Written) → IsStream v s → (k : kinds.Kind) → IsAt s.nodes (node_of_kind k) (kind_node k)
kind-there v s is k = IsAt-grown built_in s.nodes is.front (node_of_kind k) (kind_node k) (kind-at k)

-- ---- an attribute's properties, and its name

props-some : (p : Props) (k : kinds.Kind) → node_of_props p k ≡ [] → ⊥
props-some p k = by (eqb p.0 0)
  where
    by : (b : Bool) → (if b then node_of_kind k else node_of_kind k ++ record { attr = prop_attribute; value = value.Int (pos p.0) } ∷ []) ≡ [] → ⊥
    by true h = cc
    by false h = cc

pub no-props : (v : Stream) (a : Attribute) (id : ℕ) → a.props.0 ≡ 0 → id ≡ kind_node a.kind → Describes v v (needed_by_props a) (node_of_props a.props a.kind) id
no-props v a id none is s stream = rw (none, after-known s [] tt, is) (record { stream = stream; at = kind-there v s stream a.kind })

pub some-props : (v w : Stream) (a : Attribute) (e : Entry) (k n id : ℕ) → (a.props.0 ≡ 0 → ⊥) → n ≡ 10 → k ≡ kind_node a.kind → e ≡ record { attr = prop_attribute; value = value.Int (pos a.props.0) }
    → AddsDescribed v w (Some k) n e id → Describes v w (needed_by_props a) (node_of_props a.props a.kind) id
some-props v w a e k n id some number at is adds s stream =
    let there = kind-there v s stream a.kind in
    let parent : IsParent s.nodes (node_of_kind a.kind) (Some k) = record { there = there.has; is = ap Some at ∙ ap Some there.is } in
    let test : eqb a.props.0 0 ≡ false = grind (arith, nat_tests) in
    let adds_it : AddsDescribed v w (Some k) 10 (record { attr = prop_attribute; value = value.Int (pos a.props.0) }) id = λ u. subst (λ m. AddsDescribed v w (Some k) m (record { attr = prop_attribute; value = value.Int (pos a.props.0) }) id) number (subst (λ f. AddsDescribed v w (Some k) n f id) is adds) u in
    rw test (adds_it s (node_of_kind a.kind) stream parent (knows v s stream OfProps) (lit≤ tt))

pub names : (v mid w : Stream) (a : Attribute) (e : Entry) (p n id : ℕ) → n ≡ 8 → Describes v mid (needed_by_props a) (node_of_props a.props a.kind) p
    → e ≡ record { attr = name_attribute; value = value.Text a.name } → AddsDescribed mid w (Some p) n e id → Describes v w (needed_by_attribute a) (node_of_attribute a) id
names v mid w a e p n id number first is adds s stream =
    let before = first s stream in
    let now : Written = after s (needed_by_props a) in
    let parent = at-parent now.nodes (node_of_props a.props a.kind) p (props-some a.props a.kind) before.at in
    let adds_it : AddsDescribed mid w (Some p) 8 (record { attr = name_attribute; value = value.Text a.name }) id = λ u. subst (λ m. AddsDescribed mid w (Some p) m (record { attr = name_attribute; value = value.Text a.name }) id) number (subst (λ f. AddsDescribed mid w (Some p) n f id) is adds) u in
    rw (after-append s (needed_by_props a) (node_of_attribute a ∷ [])) (adds_it now (node_of_props a.props a.kind) before.stream parent (knows mid now before.stream OfNames) (lit≤ tt))
