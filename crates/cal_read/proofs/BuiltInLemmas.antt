-- The nodes that every stream has, as they are put one after another.
use Rattle.std.proofs.Common.{◌≡◌, ℕ, ◌+◌, ◌==◌, List, [], ◌∷◌, ◌++◌, map, reverse, take, Some, sym, ap, ◌∙◌, subst, if◌then◌else◌}
use Rattle.std.specs.Prelude.{slice_get}
use Rattle.std.proofs.lemmas.List.{map-append, reverse-append}
use Rattle.cal_context.specs.Tree.{Tree, Grows}
use Rattle.cal_value.specs.Kinds.{kind_node, every_kind}
use Rattle.cal_value.specs.declared.kind.Kind.{Kind}
use Rattle.cal_read.specs.BuiltIn.{built_in_id, node_of_kind, node_of_built_in, named_kind, named_built_in, every_built_in}
use Rattle.cal_read.specs.Held.{held_at, IsHeld, AreHeld}
use Rattle.cal_read.specs.Nodes.{Named}
use Rattle.cal_read.specs.declared.built_in.BuiltIn.{BuiltIn}
use Rattle.cal_read.specs.declared.nodes.Held.{Held}
use Rattle.cal_read.specs.declared.nodes.Nodes.{Nodes}
use Rattle.cal_read.proofs.HeldLemmas.{AreHeld-Grows, AreHeld-insert}
use Rattle.cal_read.proofs.ListLemmas.{take_at}

-- one more is the first of what is turned round
turned : {A : Type 0} (f : A → Named) (xs : List A) (i : ℕ) (x : A) → slice_get xs i ≡ Some x → reverse (map f (take (i + 1) xs)) ≡ f x ∷ reverse (map f (take i xs))
turned f xs i x at = ap (λ l. reverse (map f l)) (take_at xs i x at) ∙ ap reverse (map-append f (take i xs) (x ∷ [])) ∙ reverse-append (map f (take i xs)) (f x ∷ [])

module _ (t u : Tree) (grows : Grows t u) (old new : Nodes) (i : ℕ) (id : ℕ) (h : Held)
  where
    pub put_kind : (kind : Kind) → slice_get every_kind i ≡ Some kind → id ≡ kind_node kind → AreHeld t old (reverse (map named_kind (take i every_kind)))
        → IsHeld u h (node_of_kind kind) → ((other : ℕ) → held_at new other ≡ (if id == other then Some h else held_at old other))
        → AreHeld u new (reverse (map named_kind (take (i + 1) every_kind)))
    put_kind kind at is are held set =
        subst (AreHeld u new) ((λ j. record { id = is j; node = node_of_kind kind } ∷ reverse (map named_kind (take i every_kind))) ∙ sym (turned named_kind every_kind i kind at))
        (AreHeld-insert u old new (reverse (map named_kind (take i every_kind))) id h (node_of_kind kind) (AreHeld-Grows grows old (reverse (map named_kind (take i every_kind))) are) held set)

    pub put_attribute : (attribute : BuiltIn) (named : List Named) → slice_get every_built_in i ≡ Some attribute → id ≡ built_in_id attribute
        → AreHeld t old (reverse (map named_built_in (take i every_built_in)) ++ named)
        → IsHeld u h (node_of_built_in attribute) → ((other : ℕ) → held_at new other ≡ (if id == other then Some h else held_at old other))
        → AreHeld u new (reverse (map named_built_in (take (i + 1) every_built_in)) ++ named)
    put_attribute attribute named at is are held set =
        subst (AreHeld u new)
        ((λ j. record { id = is j; node = node_of_built_in attribute } ∷ (reverse (map named_built_in (take i every_built_in)) ++ named))
        ∙ ap (λ l. l ++ named) (sym (turned named_built_in every_built_in i attribute at)))
        (AreHeld-insert u old new (reverse (map named_built_in (take i every_built_in)) ++ named) id h (node_of_built_in attribute)
        (AreHeld-Grows grows old (reverse (map named_built_in (take i every_built_in)) ++ named) are) held set)
