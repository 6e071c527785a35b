-- A new node whose value came lately.
use Rattle.std.proofs.Common.{◌≡◌, ◌<◌, ◌+◌, ℕ, ◌==◌, ◌&&◌, not, nat_lt, true, false, List, length, Some, None, refl, sym, ap, ◌∙◌, subst, arith, if◌then◌else◌}
use Rattle.std.specs.Prelude.{Ok, Err, is_some, unwrap_or}
use Rattle.std.proofs.lemmas.Bool.{ne_eqb}
use Rattle.std.proofs.lemmas.Bool.Decides.{nat_tests}
use Rattle.cal_context.proofs.CallerLemmas.{Grows-refl}
use Rattle.cal_context.specs.Children.{AddsChild, AddsLinked}
use Rattle.cal_context.specs.Tree.{Tree, Grows}
use Rattle.cal_context.specs.declared.numbers.NodeNumber.{NodeNumber}
use Rattle.cal_context.specs.declared.numbers.ValueNumber.{ValueNumber}
use Rattle.cal_line.specs.FirstFault.{◌>>=◌}
use Rattle.cal_value.specs.Reading.{value_of}
use Rattle.cal_value.specs.declared.variant.Variant.TheVariants as value
use Rattle.cal_read.specs.Fields.{or_fault}
use Rattle.cal_read.specs.Held.{AreHeld, IsHeld, IsNumberOf, held_at}
use Rattle.cal_read.specs.KnownValues.{IsKnownValue}
use Rattle.cal_read.specs.NodeLines as lines
use Rattle.cal_read.specs.NodeLines.{misfit, node_there, node_value, site_of, with_fitting, with_ids}
use Rattle.cal_read.specs.Nodes.{Named, Node, attribute_named, kind_below, kind_in, props_in}
use Rattle.cal_read.specs.Sites.{IsSite, IsToBe}
use Rattle.cal_read.specs.declared.kind.StreamKind.TheVariants as kind
use Rattle.cal_read.specs.declared.node_line.Site as sites
use Rattle.cal_read.specs.declared.node_texts.NodeIds.{NodeIds}
use Rattle.cal_read.specs.declared.nodes.Held.{Held}
use Rattle.cal_read.specs.declared.nodes.Nodes.{Nodes}
use Rattle.cal_read.proofs.HeldLemmas.{IsHeld-new}
use Rattle.cal_read.proofs.SiteLemmas.{put_new}

-- what is held of such a node
abbrev pub held_known : NodeIds → sites.Site → NodeNumber → Held
held_known ids site node = record {
  place = record { node = node; depth = site.above.depth + 1; kind = site.above.kind; props = site.above.props };
  attribute = ids.attribute;
  parent = ids.parent;
  number = None;
}

module _ (t : Tree) (c : Nodes) (ids : NodeIds) (site : sites.Site) (text : List ℕ) (number : ValueNumber) (is : IsKnownValue t c ids site text number) where
  not_8 : (ids.attribute == 8) ≡ false
  not_8 = ne_eqb ids.attribute 8 (λ e. absurd (omega (arith, e, is.beyond)))

  not_9 : (ids.attribute == 9) ≡ false
  not_9 = ne_eqb ids.attribute 9 (λ e. absurd (omega (arith, e, is.beyond)))

  not_10 : (ids.attribute == 10) ≡ false
  not_10 = ne_eqb ids.attribute 10 (λ e. absurd (omega (arith, e, is.beyond)))

  -- the steps of the definition
  value_is : (s : lines.Site) → IsSite t site s → node_value ids.attribute s.attribute text ≡ Ok (value.Text text)
  value_is s at =
      ap (λ k. or_fault kind.BadValue (value_of k text) >>= (λ w. if (ids.attribute == 10) && not (is_some (props_in w)) then Err kind.BadValue else Ok w))
      (ap (λ a. a.kind) (sym at.attribute) ∙ is.textual)
      ∙ ap (λ b. if b && not (is_some (props_in (value.Text text))) then Err kind.BadValue else Ok (value.Text text)) not_10

  room : (s : lines.Site) → IsSite t site s → nat_lt (length s.above) 1024 ≡ true
  room s at =
      let below : length s.above < 1024 = omega (arith, at.above.depth, is.room) in
      grind (arith, nat_tests)

  fits : (s : lines.Site) → IsSite t site s → misfit ids.attribute s.above ≡ None
  fits s at =
      ap (λ b. if b && not (is_some (kind_below s.above)) then Some kind.NoKind else (if nat_lt (length s.above) 1024 then None else Some kind.TooDeep)) not_8
      ∙ ap (λ b. if b then None else Some kind.TooDeep) (room s at)

  made : (named : List Named) (s : lines.Site) → site_of named ids ≡ Ok s → IsSite t site s → with_ids named ids text ≡ with_fitting named ids.id (node_there ids s (value.Text text)) None
  made named s there at =
      ap (λ r. r >>= (λ x. node_value ids.attribute x.attribute text >>= (λ w. with_fitting named ids.id (node_there ids x w) (misfit ids.attribute x.above)))) there
      ∙ ap (λ r. r >>= (λ w. with_fitting named ids.id (node_there ids s w) (misfit ids.attribute s.above))) (value_is s at)
      ∙ ap (with_fitting named ids.id (node_there ids s (value.Text text))) (fits s at)

  module _ (u : Tree) (node : NodeNumber) (adds : AddsLinked t (record { parent = site.above.node; attribute = site.attribute; value = number }) u node) (grows : Grows t u) where
    child : AddsChild t site.above.node site.attribute (value.Text text) u node
    child = subst (λ w. AddsChild t site.above.node site.attribute w u node) is.value_is adds

    held_is : (n : Node) → IsToBe t ids site (value.Text text) n → IsHeld u (held_known ids site node) n
    held_is n be =
        IsHeld-new t u u ids site (value.Text text) node (held_known ids site node).place None child grows (Grows-refl u) refl refl
        (ap (λ b. if b then kind_in (value.Text text) else site.above.kind) (sym not_9))
        (ap (λ b. if b then unwrap_or (props_in (value.Text text)) 0 else site.above.props) (sym not_10))
        (subst (λ b. IsNumberOf u None (if b then attribute_named text site.above.kind site.above.props else None)) (sym not_8) tt)
        n be

    -- the nodes with that node
    pub known_put : (new : Nodes) (named : List Named) (s : lines.Site) → AreHeld t c named → site_of named ids ≡ Ok s → IsSite t site s
        → ((other : ℕ) → held_at new other ≡ (if ids.id == other then Some (held_known ids site node) else held_at c other))
        → (x : List Named) × (with_ids named ids text ≡ Ok x) × AreHeld u new x
    known_put new named s are there at set =
        let n = node_there ids s (value.Text text) in
        let be : IsToBe t ids site (value.Text text) (node_there ids s (value.Text text)) = record { above = at.above; attribute = sym at.attribute; id = refl; value = refl; parent = refl } in
        let put = put_new t c named are u new ids.id (held_known ids site node) n grows (sym is.new) (held_is n be) set in
        (put.0, made named s there at ∙ put.1, put.2)
