use Rattle.std.proofs.Common.{◌≡◌, ℕ, ◌+◌, ◌<◌, List, [], ◌∷◌, ◌++◌, length, get_or, take, map, refl, ap, ◌∙◌, arith}
use Rattle.std.specs.Prelude.{codes}
use Rattle.std.specs.List.{flat_map}
use Rattle.std.proofs.lemmas.List.{append-nil, append_assoc, map_more}
use Rattle.std.proofs.lemmas.List.Concat.{flat_map-append}
use Rattle.cal_write.specs.Lines.{field}

-- values as a field joins them, with one more
pub joined_more : {X : Type 0} (f : X → List ℕ) (xs : List X) (i : ℕ) (d : X) → i < length xs
    → flat_map (λ w. codes "=" ++ w) (map f (take (i + 1) xs)) ≡ flat_map (λ w. codes "=" ++ w) (map f (take i xs)) ++ 61 ∷ f (get_or xs i d)
joined_more f xs i d h =
    ap (flat_map (λ w. codes "=" ++ w)) (map_more f xs i d h)
    ∙ flat_map-append (λ w. codes "=" ++ w) (map f (take i xs)) (f (get_or xs i d) ∷ [])
    ∙ ap (λ l. flat_map (λ w. codes "=" ++ w) (map f (take i xs)) ++ l) (append-nil (61 ∷ f (get_or xs i d)))

-- a field with a value has its key
pub field-some : (key : List ℕ) (vs : List (List ℕ)) → 0 < length vs → field key vs ≡ codes "," ++ key ++ flat_map (λ w. codes "=" ++ w) vs
field-some key [] h = absurd (omega (arith, h))
field-some key (v ∷ vs) h = refl

regroup : (o n q i k a m v p e : List ℕ) → o ++ n ++ q ++ i ++ k ++ q ++ a ++ m ++ q ++ v ++ p ++ e
    ≡ o ++ ((n ++ q) ++ i ++ ((k ++ q) ++ a) ++ ((m ++ q) ++ v) ++ p ++ e)
regroup o n q i k a m v p e = simp append_assoc

-- the parts of a node's line, one after another
pub joined_node : (out i a v p : List ℕ) → out ++ codes "__rec=node,id" ++ codes "=" ++ i ++ codes ",attr" ++ codes "=" ++ a ++ codes ",data" ++ codes "=" ++ v ++ p ++ codes "\n"
    ≡ out ++ (codes "__rec=node" ++ field (codes "id") (i ∷ []) ++ field (codes "attr") (a ∷ []) ++ field (codes "data") (v ∷ []) ++ p ++ codes "\n")
joined_node out i a v p = rw (append-nil i, append-nil a, append-nil v) (regroup out (codes "__rec=node,id") (codes "=") i (codes ",attr") a (codes ",data") v p (codes "\n"))
