-- Columns of a record, as a loop goes on.
use Rattle.std.proofs.Common.{◌≡◌, ℕ, suc, zero, ◌+◌, ◌<◌, ◌≤◌, List, [], ◌∷◌, ◌++◌, length, map, take, get_or, Option, Some, None, refl, sym, ap, ◌∙◌, subst, arith}
use Rattle.std.specs.Prelude.{slice_get, Ok, Err}
use Rattle.std.specs.List.{All, zip}
use Rattle.std.specs.Option.{option_map}
use Rattle.std.proofs.lemmas.Slice.Zip.{length-zip}
use Rattle.indexmap.proofs.ReorderLemmas.{slice_get-zip_some}
use Rattle.std.proofs.lemmas.List.{map-append}
use Rattle.std.proofs.lemmas.List.Elements.{All-push}
use Rattle.std.proofs.lemmas.Option.{slice_get-get_or, slice_get-map, slice_get_past}
use Rattle.cal_context.specs.Snapshots.{IsBelowRoot, entry_of as imm_entry}
use Rattle.cal_context.specs.declared.snapshot.Immediate.{Immediate}
use Rattle.cal_context.specs.Tree.{Tree, attribute_at, path_at}
use Rattle.cal_context.specs.declared.numbers.AttributeNumber.{AttributeNumber}
use Rattle.cal_context.specs.declared.numbers.NodeNumber.{NodeNumber}
use Rattle.cal_value.specs.declared.attribute.Attribute.{Attribute}
use Rattle.cal_line.specs.FirstFault.{◌>>=◌}
use Rattle.cal_value.specs.Reading.{value_of}
use Rattle.cal_value.specs.declared.attribute.Entry.{Entry}
use Rattle.cal_value.specs.declared.variant.Variant.{Variant}
use Rattle.cal_read.specs.RecordLines.{entry_of}
use Rattle.cal_read.specs.Steps.{Answers}
use Rattle.cal_read.specs.declared.end.LineEnd as ends
use Rattle.cal_read.specs.declared.end.LineEnd.TheVariants as end
use Rattle.cal_read.specs.Columns.{AreEnds, AreFound, AreNumbers}
use Rattle.cal_read.specs.Fields.{each, or_fault}
use Rattle.cal_read.specs.Held.{held_at, IsHeld, IsNumberOf, AreHeld}
use Rattle.cal_read.specs.NodeLines.{known, as_attribute}
use Rattle.cal_read.specs.Nodes.{Node, Named, path_of, attribute_of, node_at}
use Rattle.cal_read.specs.declared.kind.StreamKind.TheVariants as kind
use Rattle.cal_read.specs.declared.nodes.Held.{Held}
use Rattle.cal_read.specs.declared.nodes.Nodes.{Nodes}
use Rattle.cal_read.proofs.EachLemmas.{each_at, each_falls}
use Rattle.cal_read.proofs.HeldLemmas.{if_held, if_none}

pub known_some : (named : List Named) (id : ℕ) (n : Node) → node_at named id ≡ Some n → known named id ≡ Ok n
known_some named id n e = ap (or_fault kind.UnknownNode) e

pub known_none : (named : List Named) (id : ℕ) → node_at named id ≡ None → known named id ≡ Err kind.UnknownNode
known_none named id e = ap (or_fault kind.UnknownNode) e

-- ---- the nodes that ids name

pub ends_push : (t : Tree) (ends : List NodeNumber) (nodes : List Node) (h : Held) (n : Node) → AreEnds t ends nodes → IsHeld t h n
    → AreEnds t (ends ++ h.place.node ∷ []) (nodes ++ n ∷ [])
ends_push t ends nodes h n are is = record {
  below = All-push (IsBelowRoot t) ends h.place.node are.below (record { below = is.below; within = is.at.within });
  paths =
      map-append (path_at t) ends (h.place.node ∷ []) ∙ (λ j. are.paths j ++ is.at.path j ∷ [])
      ∙ sym (map-append path_of nodes (n ∷ []));
}

found_push : (t : Tree) (found : List (Option AttributeNumber)) (nodes : List Node) (number : Option AttributeNumber) (n : Node) → AreFound t found nodes
    → IsNumberOf t number (attribute_of n) → AreFound t (found ++ number ∷ []) (nodes ++ n ∷ [])
found_push t [] [] number n are is = (is, tt)
found_push t [] (m ∷ nodes) number n are is = absurd are
found_push t (f ∷ found) [] number n are is = absurd are
found_push t (f ∷ found) (m ∷ nodes) number n are is = (are.0, found_push t found nodes number n are.1 is)

module _ (t : Tree) (c : Nodes) (named : List Named) (are : AreHeld t c named) (ids : List ℕ) (i : ℕ) (within : i < length ids) (nodes : List Node)
    (before : each (known named) (take i ids) ≡ Ok nodes) where
  at : slice_get ids i ≡ Some (get_or ids i 0)
  at = slice_get-get_or ids i 0 within

  pub ends_at : (ends : List NodeNumber) (h : Held) → AreEnds t ends nodes → Some h ≡ held_at c (get_or ids i 0)
      → (found : List Node) × (each (known named) (take (i + 1) ids) ≡ Ok found) × AreEnds t (ends ++ h.place.node ∷ []) found
  ends_at ends h so is =
      let it = if_held t (held_at c (get_or ids i 0)) (node_at named (get_or ids i 0)) h (are (get_or ids i 0)) (sym is) in
      (nodes ++ it.0 ∷ [], each_at (known named) ids i (get_or ids i 0) at nodes before it.0 (known_some named (get_or ids i 0) it.0 it.1), ends_push t ends nodes h it.0 so it.2)

  pub found_at : (found : List (Option AttributeNumber)) (h : Held) → AreFound t found nodes → Some h ≡ held_at c (get_or ids i 0)
      → (more : List Node) × (each (known named) (take (i + 1) ids) ≡ Ok more) × AreFound t (found ++ h.number ∷ []) more
  found_at found h so is =
      let it = if_held t (held_at c (get_or ids i 0)) (node_at named (get_or ids i 0)) h (are (get_or ids i 0)) (sym is) in
      (nodes ++ it.0 ∷ [], each_at (known named) ids i (get_or ids i 0) at nodes before it.0 (known_some named (get_or ids i 0) it.0 it.1), found_push t found nodes h.number it.0 so it.2.number)

  pub unknown_at : None ≡ held_at c (get_or ids i 0) → each (known named) ids ≡ Err kind.UnknownNode
  unknown_at is =
      each_falls (known named) ids i (get_or ids i 0) at nodes before kind.UnknownNode
      (known_none named (get_or ids i 0) (if_none t (held_at c (get_or ids i 0)) (node_at named (get_or ids i 0)) (are (get_or ids i 0)) (sym is)))

-- ---- the attributes that nodes are

-- what is known at a place
found_there : (t : Tree) (found : List (Option AttributeNumber)) (nodes : List Node) (i : ℕ) (number : Option AttributeNumber) → AreFound t found nodes
    → slice_get found i ≡ Some number → (n : Node) × (slice_get nodes i ≡ Some n) × IsNumberOf t number (attribute_of n)
found_there t [] nodes i number are at = absurd (gone i at)
  where
    gone : (i : ℕ) → slice_get {X = Option AttributeNumber} [] i ≡ Some number → ⊥
    gone i at = let none = slice_get_past {X = Option AttributeNumber} [] i (omega arith) in cc
found_there t (f ∷ found) [] i number are at = absurd are
found_there t (f ∷ found) (m ∷ nodes) zero number are at = let same : f ≡ number = cc in (m, refl, subst (λ x. IsNumberOf t x (attribute_of m)) same are.0)
found_there t (f ∷ found) (m ∷ nodes) (suc i) number are at = found_there t found nodes i number are.1 at

pub found_length : (t : Tree) (found : List (Option AttributeNumber)) (nodes : List Node) → AreFound t found nodes → length nodes ≡ length found
found_length t [] [] are = refl
found_length t [] (m ∷ nodes) are = absurd are
found_length t (f ∷ found) [] are = absurd are
found_length t (f ∷ found) (m ∷ nodes) are = ap suc (found_length t found nodes are.1)

pub attribute_is : (t : Tree) (number : AttributeNumber) (o : Option Attribute) → IsNumberOf t (Some number) o
    → (number.0 < length t.attributes) × (or_fault kind.NotAttribute o ≡ Ok (attribute_at t number))
attribute_is t number None h = absurd h
attribute_is t number (Some a) h = (h.0, ap Ok (sym h.1))

pub attribute_is_none : (t : Tree) (o : Option Attribute) → IsNumberOf t None o → or_fault kind.NotAttribute o ≡ Err kind.NotAttribute
attribute_is_none t None h = refl
attribute_is_none t (Some a) h = absurd h

module _ (t : Tree) (found : List (Option AttributeNumber)) (nodes : List Node) (are : AreFound t found nodes) (i : ℕ) (number : Option AttributeNumber)
    (at : slice_get found i ≡ Some number) (attributes : List Attribute) (before : each as_attribute (take i nodes) ≡ Ok attributes) where
  pub numbers_at : (numbers : List AttributeNumber) (n : AttributeNumber) → AreNumbers t numbers attributes → number ≡ Some n
      → (more : List Attribute) × (each as_attribute (take (i + 1) nodes) ≡ Ok more) × AreNumbers t (numbers ++ n ∷ []) more
  numbers_at numbers n so is =
      let it = found_there t found nodes i number are at in
      let a = attribute_is t n (attribute_of it.0) (subst (λ x. IsNumberOf t x (attribute_of it.0)) is it.2) in (
        attributes ++ attribute_at t n ∷ [],
        each_at as_attribute nodes i it.0 it.1 attributes before (attribute_at t n) a.1,
        record {
          known = All-push (λ m. m.0 < length t.attributes) numbers n so.known a.0;
          are = map-append (attribute_at t) numbers (n ∷ []) ∙ ap (λ r. r ++ attribute_at t n ∷ []) so.are;
        },
      )

  pub no_attribute_at : number ≡ None → each as_attribute nodes ≡ Err kind.NotAttribute
  no_attribute_at is =
      let it = found_there t found nodes i number are at in
      each_falls as_attribute nodes i it.0 it.1 attributes before kind.NotAttribute
      (attribute_is_none t (attribute_of it.0) (subst (λ x. IsNumberOf t x (attribute_of it.0)) is it.2))

-- ---- entries

module _ (a : Attribute) (text : List ℕ) where
  pub entry_made : (v : Variant) → or_fault kind.BadValue (value_of a.kind text) ≡ Ok v → entry_of (a, text) ≡ Ok (record { attr = a; value = v })
  entry_made v e = ap (λ o. o >>= (λ value. Ok (record { attr = a; value = value }))) e

  pub entry_err : (e : ends.LineEnd) → Answers {A = Variant} (Err e) (or_fault kind.BadValue (value_of a.kind text)) → Answers {A = Entry} (Err e) (entry_of (a, text))
  entry_err (end.Bad k) is = ap (λ o. o >>= (λ value. Ok (record { attr = a; value = value }))) is
  entry_err end.OutOfMemory is = tt

module _ (t : Tree) (numbers : List AttributeNumber) (texts : List (List ℕ)) (i : ℕ) (number : AttributeNumber) (text : List ℕ)
    (there : slice_get numbers i ≡ Some number) (at : slice_get texts i ≡ Some text) where
  pub pair_at : slice_get (zip (map (attribute_at t) numbers) texts) i ≡ Some (attribute_at t number, text)
  pair_at = slice_get-zip_some (map (attribute_at t) numbers) texts i (attribute_at t number) text (slice_get-map (attribute_at t) numbers i ∙ ap (option_map (attribute_at t)) there) at

pub pairs_past : (t : Tree) (numbers : List AttributeNumber) (texts : List (List ℕ)) (i : ℕ) → length texts ≤ i → length (zip (map (attribute_at t) numbers) texts) ≤ i
pairs_past t numbers texts i past = omega (arith, length-zip (map (attribute_at t) numbers) texts, past)

module _ (t : Tree) (imms new : List Immediate) (number : AttributeNumber) (v : Variant) (items : new ≡ imms ++ record { attribute = number; value = v } ∷ []) where
  pub imms_known : All (λ i. i.attribute.0 < length t.attributes) imms → number.0 < length t.attributes → All (λ i. i.attribute.0 < length t.attributes) new
  imms_known known within =
      subst (All (λ i. i.attribute.0 < length t.attributes)) (sym items)
      (All-push (λ i. i.attribute.0 < length t.attributes) imms (record { attribute = number; value = v }) known within)

  pub imms_read : (numbers : List AttributeNumber) (texts : List (List ℕ)) (i : ℕ) (text : List ℕ) → slice_get numbers i ≡ Some number → slice_get texts i ≡ Some text
      → each entry_of (take i (zip (map (attribute_at t) numbers) texts)) ≡ Ok (map (imm_entry t) imms) → or_fault kind.BadValue (value_of (attribute_at t number).kind text) ≡ Ok v
      → each entry_of (take (i + 1) (zip (map (attribute_at t) numbers) texts)) ≡ Ok (map (imm_entry t) new)
  imms_read numbers texts i text there at read is =
      each_at entry_of (zip (map (attribute_at t) numbers) texts) i (attribute_at t number, text) (pair_at t numbers texts i number text there at) (map (imm_entry t) imms) read
      (record { attr = attribute_at t number; value = v }) (entry_made (attribute_at t number) text v is)
      ∙ ap Ok (sym (ap (map (imm_entry t)) items ∙ map-append (imm_entry t) imms (record { attribute = number; value = v } ∷ [])))
