-- Before the first line the reader knows the built-in nodes.
use Rattle.std.proofs.Common.{◌≡◌, ◌≢◌, ◌<◌, ◌≤◌, ◌∙◌, ℕ, Bool, List, [], ◌∷◌, ◌++◌}
use Rattle.std.proofs.Common.{refl, sym, ap, subst, arith, lit<, if◌then◌else◌}
use Rattle.std.specs.Prelude.{Some, None}
use Rattle.std.specs.List.{AllByRecursion}
use Rattle.std.proofs.lemmas.Bool.{ne_eqb}
use Rattle.std.proofs.lemmas.List.{same_from_push}
use Rattle.std.proofs.lemmas.List.Elements.{All-from_recursion}
use Rattle.cal_context.proofs.ListLemmas.{IsFront-refl}
use Rattle.cal_value.specs.declared.attribute.Entry.{Entry}
use Rattle.cal_value.specs.declared.kind.Kind as kinds
use Rattle.cal_value.specs.declared.kind.Kind.TheVariants as kind
use Rattle.cal_value.specs.declared.variant.Variant.TheVariants as value
use Rattle.cal_write.specs.CanonicalText.{id_in}
use Rattle.cal_write.specs.Nodes.{Node, built_in, name_attribute, node_of_kind, type_attribute}
use Rattle.cal_write.specs.Nodes.{prop_attribute}
use Rattle.cal_write.specs.Places.{Has}
use Rattle.cal_write.proofs.BuiltInLemmas.{built_in-closed}
use Rattle.cal_write.proofs.PlaceLemmas.{id_within, node_at_id}
use Rattle.cal_read.specs.BuiltIn as first
use Rattle.cal_read.specs.Nodes.{Named, node_at}
use Rattle.cal_stream.proofs.Knows.{Knows, stream_node}

-- a node is known by its place
IsThereAt : Node → Type 0
IsThereAt n = (up : Node) (e : Entry) → n ≡ up ++ e ∷ []
    → node_at first.built_in (id_in built_in (up ++ e ∷ [])) ≡ Some (stream_node built_in up e)

there-at : (up : Node) (e : Entry)
    → node_at first.built_in (id_in built_in (up ++ e ∷ [])) ≡ Some (stream_node built_in up e)
    → IsThereAt (up ++ e ∷ [])
unfolding IsThereAt
there-at up e here vp f same =
    let one = same_from_push up vp e f same in
    (λ j. node_at first.built_in (id_in built_in (sym same j))) ∙ here
    ∙ (λ j. Some (stream_node built_in (one.0 j) (one.1 j)))

of_kind : (k : kinds.Kind) → Entry
of_kind k = record { attr = type_attribute; value = value.Kind k }

of_name : List ℕ → Entry
of_name name = record { attr = name_attribute; value = value.Text name }

built_in-all : AllByRecursion IsThereAt built_in
unfolding built_in of_kind of_name
built_in-all = (
  there-at [] (of_kind kind.Usr) refl,
  (
    there-at [] (of_kind kind.Int) refl,
    (
      there-at [] (of_kind kind.Uint) refl,
      (
        there-at [] (of_kind kind.Str) refl,
        (
          there-at [] (of_kind kind.Addr) refl,
          (
            there-at [] (of_kind kind.Double) refl,
            (
              there-at [] (of_kind kind.Bool) refl,
              (
                there-at [] (of_kind kind.TypeName) refl,
                (
                  there-at (node_of_kind kind.Str) (of_name name_attribute.name) refl,
                  (
                    there-at (node_of_kind kind.TypeName) (of_name type_attribute.name) refl,
                    (
                      there-at (node_of_kind kind.Int) (of_name prop_attribute.name) refl,
                      (there-at [] (of_kind kind.Ptr) refl, tt),
                    ),
                  ),
                ),
              ),
            ),
          ),
        ),
      ),
    ),
  ),
)

built_in-has : (n : Node) → Has built_in n → IsThereAt n
built_in-has n h =
    subst IsThereAt (node_at_id built_in n [] h)
    (All-from_recursion IsThereAt built_in built_in-all (id_in built_in n) []
    (id_within built_in n h))

-- no node has an id from 12 on
node_at-none : (named : List Named) (id : ℕ) → AllByRecursion (λ (n : Named). n.id < 12) named
    → 12 ≤ id → node_at named id ≡ None
node_at-none [] id small past = refl
node_at-none (n ∷ named) id small past =
    let first_small : n.id < 12 = small.0 in
    let other : n.id ≢ id = omega arith in
    ap (λ (b : Bool). if b then Some n.node else node_at named id) (ne_eqb n.id id other)
    ∙ node_at-none named id small.1 past

pub begins : Knows built_in first.built_in
unfolding built_in IsThereAt
begins = record {
  front = IsFront-refl built_in;
  closed = built_in-closed;
  has = λ up e h. built_in-has (up ++ e ∷ []) h up e refl;
  free = λ id past. node_at-none first.built_in id (
    lit< tt,
    (
      lit< tt,
      (
        lit< tt,
        (
          lit< tt,
          (
            lit< tt,
            (
              lit< tt,
              (lit< tt, (lit< tt, (lit< tt, (lit< tt, (lit< tt, (lit< tt, tt)))))),
            ),
          ),
        ),
      ),
    ),
  ) past;
}
