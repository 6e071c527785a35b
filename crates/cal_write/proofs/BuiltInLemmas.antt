use Rattle.std.proofs.Common.{◌≡◌, ℕ, zero, suc, ◌+◌, ◌<◌, ◌≤◌, true, false, List, [], ◌∷◌, ◌++◌, get_or, map, take, Some, refl, sym, ap, ◌∙◌, subst, arith, true≢false, nat_eq, lit<, lit≤, ◌⊎◌, inl, inr, unwrap_or}
use Rattle.std.specs.List.{Contains, list_any}
use Rattle.std.proofs.lemmas.List.{same_from_push}
use Rattle.std.proofs.lemmas.Bool.Decides.{Decides-eqb}
use Rattle.std.proofs.lemmas.List.Folds.{list_any_at}
use Rattle.std.proofs.lemmas.List.Elements.{Contains-get_or}
use Rattle.cal_context.specs.Lists.{Interns}
use Rattle.cal_context.proofs.ListLemmas.{IsFront-refl}
use Rattle.cal_value.specs.Kinds.{kind_node}
use Rattle.cal_value.specs.declared.attribute.Entry.{Entry}
use Rattle.cal_value.specs.declared.kind.Kind as kinds
use Rattle.cal_value.specs.declared.kind.Kind.TheVariants as kind
use Rattle.cal_value.specs.declared.variant.Variant.TheVariants as value
use Rattle.cal_write.specs.BuiltIn.{built_in_attribute, built_in_id, built_in_keys, key_of_kind, key_of_built_in}
use Rattle.cal_write.specs.CanonicalText.{id_in, parent_id}
use Rattle.cal_write.specs.Nodes.{Node, node_of_kind, node_of_attribute, needed_below, first_kinds, name_attribute, type_attribute, built_in}
use Rattle.cal_write.specs.Places.{Has, HasAll, IsAt, KnowsAttribute, IsClosed}
use Rattle.cal_write.specs.Stream.{IsBegun, IsNodeOf, IsDescribed, IsOfBuiltIn}
use Rattle.cal_write.specs.declared.stream.Stream.{Stream}
use Rattle.cal_write.specs.declared.built_in.BuiltIn.{BuiltIn}
use Rattle.cal_write.specs.declared.built_in.BuiltIn.TheVariants.{OfNames, OfKinds, OfProps}
use Rattle.cal_write.specs.declared.described.DescribedNode.{DescribedNode}
use Rattle.cal_write.proofs.PlaceLemmas.{id_within, node_at_id}

pub knows-built_in : (b : BuiltIn) → KnowsAttribute built_in (built_in_attribute b) (built_in_id b)
unfolding built_in
knows-built_in OfNames = record { at = record { has = refl; is = refl }; needed = (refl, tt) }
knows-built_in OfKinds = record { at = record { has = refl; is = refl }; needed = (refl, tt) }
knows-built_in OfProps = record { at = record { has = refl; is = refl }; needed = (refl, tt) }

-- a kind's node is at the kind's place
pub kind-at : (k : kinds.Kind) → IsAt built_in (node_of_kind k) (kind_node k)
unfolding built_in
kind-at kind.Usr = record { has = refl; is = refl }
kind-at kind.Int = record { has = refl; is = refl }
kind-at kind.Uint = record { has = refl; is = refl }
kind-at kind.Str = record { has = refl; is = refl }
kind-at kind.Addr = record { has = refl; is = refl }
kind-at kind.Double = record { has = refl; is = refl }
kind-at kind.Bool = record { has = refl; is = refl }
kind-at kind.TypeName = record { has = refl; is = refl }
kind-at kind.Ptr = record { has = refl; is = refl }

-- ---- each of the built-in nodes

-- what holds of each place of the built-in nodes
module _ (P : ℕ → Type 0) (p0 : P 0) (p1 : P 1) (p2 : P 2) (p3 : P 3) (p4 : P 4) (p5 : P 5) (p6 : P 6) (p7 : P 7) (p8 : P 8) (p9 : P 9) (p10 : P 10) (p11 : P 11) where
  each : (i : ℕ) → i < 12 → P i
  each zero h = p0
  each (suc zero) h = p1
  each (suc (suc zero)) h = p2
  each (suc (suc (suc zero))) h = p3
  each (suc (suc (suc (suc zero)))) h = p4
  each (suc (suc (suc (suc (suc zero))))) h = p5
  each (suc (suc (suc (suc (suc (suc zero)))))) h = p6
  each (suc (suc (suc (suc (suc (suc (suc zero))))))) h = p7
  each (suc (suc (suc (suc (suc (suc (suc (suc zero)))))))) h = p8
  each (suc (suc (suc (suc (suc (suc (suc (suc (suc zero))))))))) h = p9
  each (suc (suc (suc (suc (suc (suc (suc (suc (suc (suc zero)))))))))) h = p10
  each (suc (suc (suc (suc (suc (suc (suc (suc (suc (suc (suc zero))))))))))) h = p11
  each (suc (suc (suc (suc (suc (suc (suc (suc (suc (suc (suc (suc i)))))))))))) h = absurd (omega (arith, h))

ids : List ℕ
ids = 0 ∷ 1 ∷ 2 ∷ 3 ∷ 4 ∷ 5 ∷ 6 ∷ 7 ∷ 8 ∷ 9 ∷ 10 ∷ 11 ∷ []

-- what holds at each place holds of each node
of-each : (P : Node → Type 0) → ((i : ℕ) → i < 12 → P (get_or built_in i [])) → (n : Node) → Has built_in n → P n
unfolding built_in
of-each P all n h = subst P (node_at_id built_in n [] h) (all (id_in built_in n) (id_within built_in n h))

pub built_in-closed : IsClosed built_in
unfolding built_in
built_in-closed =
    of-each (λ n. HasAll built_in (needed_below [] n)) (each (λ i. HasAll built_in (needed_below [] (get_or built_in i [])))
    (refl, (refl, tt)) (refl, (refl, tt)) (refl, (refl, tt)) (refl, (refl, tt)) (refl, (refl, tt)) (refl, (refl, tt)) (refl, (refl, tt)) (refl, (refl, tt))
    (refl, (refl, (refl, (refl, tt)))) (refl, (refl, (refl, (refl, tt)))) (refl, (refl, (refl, (refl, tt)))) (refl, (refl, tt)))

-- a node of the built-in ones is of a built-in attribute, and has its key
Named : Node → Type 0
Named n = (up : Node) (e : Entry) → n ≡ up ++ e ∷ []
    → (IsOfBuiltIn built_in e) × Contains built_in_keys (record { parent = parent_id built_in up; entry = e })

named : (up : Node) (e : Entry) → IsOfBuiltIn built_in e → Contains built_in_keys (record { parent = parent_id built_in up; entry = e }) → Named (up ++ e ∷ [])
unfolding Named
named up e small has vp f same =
    let one = same_from_push up vp e f same in (
      subst (IsOfBuiltIn built_in) one.1 small,
      let same_key : (record { parent = parent_id built_in up; entry = e }) ≡ (record { parent = parent_id built_in vp; entry = f })
          = λ j. record { parent = parent_id built_in (one.0 j); entry = one.1 j } in
          subst (Contains built_in_keys) same_key has,
    )

kind-named : (k : kinds.Kind) (i : ℕ) → i < 12 → get_or built_in_keys i (key_of_kind k) ≡ key_of_kind k → Named (node_of_kind k)
kind-named k i h is =
    named [] (record { attr = type_attribute; value = value.Kind k }) (subst (λ n. n ≤ 10) ((knows-built_in OfKinds).at.is) (lit≤ tt))
    (subst (Contains built_in_keys) is (Contains-get_or built_in_keys i (key_of_kind k) h))

name-named : (b : BuiltIn) (i : ℕ) → i < 12 → get_or built_in_keys i (key_of_built_in b) ≡ key_of_built_in b
    → node_of_attribute (built_in_attribute b) ≡ node_of_kind (built_in_attribute b).kind ++ record { attr = name_attribute; value = value.Text (built_in_attribute b).name } ∷ []
    → parent_id built_in (node_of_kind (built_in_attribute b).kind) ≡ Some (kind_node (built_in_attribute b).kind)
    → Named (node_of_attribute (built_in_attribute b))
name-named b i h is laid at =
    let e : Entry = record { attr = name_attribute; value = value.Text (built_in_attribute b).name } in
    rw laid (named (node_of_kind (built_in_attribute b).kind) e (subst (λ n. n ≤ 10) ((knows-built_in OfNames).at.is) (lit≤ tt))
    (subst (λ o. Contains built_in_keys (record { parent = o; entry = e })) (sym at) (subst (Contains built_in_keys) is (Contains-get_or built_in_keys i (key_of_built_in b) h))))

pub built_in-named : (up : Node) (e : Entry) → Has built_in (up ++ e ∷ [])
    → (IsOfBuiltIn built_in e) × Contains built_in_keys (record { parent = parent_id built_in up; entry = e })
unfolding built_in Named
built_in-named up e h =
    of-each Named (each (λ i. Named (get_or built_in i []))
    (kind-named kind.Usr 0 (lit< tt) refl) (kind-named kind.Int 1 (lit< tt) refl) (kind-named kind.Uint 2 (lit< tt) refl) (kind-named kind.Str 3 (lit< tt) refl)
    (kind-named kind.Addr 4 (lit< tt) refl) (kind-named kind.Double 5 (lit< tt) refl) (kind-named kind.Bool 6 (lit< tt) refl) (kind-named kind.TypeName 7 (lit< tt) refl)
    (name-named OfNames 8 (lit< tt) refl refl refl) (name-named OfKinds 9 (lit< tt) refl refl refl) (name-named OfProps 10 (lit< tt) refl refl refl)
    (kind-named kind.Ptr 11 (lit< tt) refl)) (up ++ e ∷ []) h up e refl

kind-key : (k : kinds.Kind) → IsNodeOf built_in (key_of_kind k) (kind_node k)
kind-key k = record { up = []; parent = record { there = tt; is = refl }; at = kind-at k }

name-key : (b : BuiltIn) → IsNodeOf built_in (key_of_built_in b) (built_in_id b)
unfolding built_in
name-key OfNames = record { up = node_of_kind kind.Str; parent = record { there = refl; is = refl }; at = (knows-built_in OfNames).at }
name-key OfKinds = record { up = node_of_kind kind.TypeName; parent = record { there = refl; is = refl }; at = (knows-built_in OfKinds).at }
name-key OfProps = record { up = node_of_kind kind.Int; parent = record { there = refl; is = refl }; at = (knows-built_in OfProps).at }

pub built_in-described : IsDescribed built_in_keys (0 ∷ 1 ∷ 2 ∷ 3 ∷ 4 ∷ 5 ∷ 6 ∷ 7 ∷ 8 ∷ 9 ∷ 10 ∷ 11 ∷ []) built_in
unfolding ids
built_in-described = record {
  counted = refl;
  nodes = λ k d h. each (λ i. IsNodeOf built_in (get_or built_in_keys i d) (get_or ids i 0))
      (kind-key kind.Usr) (kind-key kind.Int) (kind-key kind.Uint) (kind-key kind.Str) (kind-key kind.Addr) (kind-key kind.Double) (kind-key kind.Bool) (kind-key kind.TypeName)
      (name-key OfNames) (name-key OfKinds) (name-key OfProps) (kind-key kind.Ptr) k h;
  all = λ up e h small. (built_in-named up e h).1;
}

pub begun : (v : Stream) → v.described ≡ built_in_keys → v.ids.items ≡ 0 ∷ 1 ∷ 2 ∷ 3 ∷ 4 ∷ 5 ∷ 6 ∷ 7 ∷ 8 ∷ 9 ∷ 10 ∷ 11 ∷ [] → v.lines.next ≡ 12 → v.lines.text ≡ [] → IsBegun v
unfolding built_in
begun v keys ids next text = record {
  text = text;
  next = next;
  front = IsFront-refl built_in;
  closed = built_in-closed;
  described = rw (keys, ids) built_in-described;
}

-- a key that a number tells from the others is put last
interned-apart : (f : DescribedNode → ℕ) (keys new : List DescribedNode) (key : DescribedNode) (n : ℕ) → Interns keys key new n
    → list_any (λ k. nat_eq (f k) (f key)) keys ≡ false → new ≡ keys ++ key ∷ []
interned-apart f keys new key n i apart = by i.adds
  where
    by : (Contains keys key × (new ≡ keys)) ⊎ (¬ Contains keys key × (new ≡ keys ++ key ∷ [])) → new ≡ keys ++ key ∷ []
    by (inr (not, more)) = more
    by (inl (has, same)) =
        let equal : nat_eq (f (get_or keys has.0 key)) (f key) ≡ true = (Decides-eqb (f (get_or keys has.0 key)) (f key)).1 (ap f has.2) in
        absurd (true≢false (sym (list_any_at (λ k. nat_eq (f k) (f key)) keys has.0 key has.1 equal) ∙ apart))

parent_number : DescribedNode → ℕ
parent_number k = unwrap_or k.parent 20

pub names-step : (i : ℕ) → i < 3 → (d : BuiltIn) (old new : List DescribedNode) (n : ℕ)
    → old ≡ map key_of_kind first_kinds ++ map key_of_built_in (take i (OfNames ∷ OfKinds ∷ OfProps ∷ []))
    → Interns old (key_of_built_in (get_or (OfNames ∷ OfKinds ∷ OfProps ∷ []) i d)) new n
    → new ≡ map key_of_kind first_kinds ++ map key_of_built_in (take (i + 1) (OfNames ∷ OfKinds ∷ OfProps ∷ []))
unfolding parent_number
names-step zero h d old new n is put = interned-apart parent_number old new (key_of_built_in OfNames) n put (rw is refl) ∙ ap (λ l. l ++ key_of_built_in OfNames ∷ []) is
names-step (suc zero) h d old new n is put = interned-apart parent_number old new (key_of_built_in OfKinds) n put (rw is refl) ∙ ap (λ l. l ++ key_of_built_in OfKinds ∷ []) is
names-step (suc (suc zero)) h d old new n is put = interned-apart parent_number old new (key_of_built_in OfProps) n put (rw is refl) ∙ ap (λ l. l ++ key_of_built_in OfProps ∷ []) is
names-step (suc (suc (suc i))) h d old new n is put = absurd (omega (arith, h))
