-- Keys of one node at most.
use Rattle.std.proofs.Common.{◌≡◌, ℕ, ◌+◌, ◌<◌, Bool, true, false, List, [], ◌∷◌, ◌++◌, inl, inr, length, get_or, map, take, refl, sym, ap, ◌∙◌, subst, arith, if◌then◌else◌, Contains, zero, suc}
use Rattle.std.specs.Prelude.{◌==◌}
use Rattle.std.specs.List.{All}
use Rattle.std.proofs.lemmas.Bool.Decides.{Decides-eqb}
use Rattle.std.proofs.lemmas.List.{get_or-take, length-take}
use Rattle.cal_context.specs.Lists.{AreApart, Adds, Interns}
use Rattle.cal_context.specs.declared.numbers.NodeNumber.{NodeNumber}
use Rattle.cal_keys.specs.Keys.{nth_key, single_key}
use Rattle.cal_keys.specs.declared.key.GroupKey.{GroupKey}
use Rattle.cal_keys.proofs.KeyLemmas.{apart_map, back, interns_map, map_next}

abbrev Any : NodeNumber → Type 0
Any n = Unit {0}

any : (ns : List NodeNumber) → All Any ns
any ns = λ k d l. tt

-- two nodes have two keys
pub single-alike : (m n : NodeNumber) → single_key m ≡ single_key n → m ≡ n
single-alike m n e = by (m.0 == 0) (n.0 == 0) refl refl (ap (λ (k : GroupKey). k.paths) e)
  where
    by : (b c : Bool) → (m.0 == 0) ≡ b → (n.0 == 0) ≡ c → (if b then [] else m ∷ []) ≡ (if c then [] else n ∷ []) → m ≡ n
    by true true a d paths =
        let one : m.0 ≡ 0 = (Decides-eqb m.0 0).0 a in
        let other : n.0 ≡ 0 = (Decides-eqb n.0 0).0 d in
        let same : m.0 ≡ n.0 = one ∙ sym other in
        λ i. record { 0 = same i }
    by true false a d paths = cc
    by false true a d paths = cc
    by false false a d paths = cc

alike : (m n : NodeNumber) → Any m → Any n → single_key m ≡ single_key n → m ≡ n
alike m n _ _ e = single-alike m n e

pub single-apart : (ns : List NodeNumber) → AreApart ns → AreApart (map single_key ns)
single-apart ns apart = apart_map Any single_key alike ns (any ns) apart

-- so a node that is interned is its key
pub single-interns : (old : List NodeNumber) (n : NodeNumber) (new : List NodeNumber) (number : ℕ) (key : GroupKey) → key ≡ single_key n
    → Interns old n new number → Interns (map single_key old) key (map single_key new) number
single-interns old n new number key is h =
    subst (λ k. Interns (map single_key old) k (map single_key new) number) (sym is)
    (interns_map Any single_key alike old n new number (any old) tt h)

-- a single key has no immediates
pub single-imms : (ns : List NodeNumber) (number : ℕ) → (nth_key (map single_key ns) number).imms ≡ record { 0 = 0 }
single-imms [] number = refl
single-imms (n ∷ ns) zero = refl
single-imms (n ∷ ns) (suc number) = single-imms ns number

-- one node more, of nodes that are apart
pub single-next : (ns : List NodeNumber) (i : ℕ) (n : NodeNumber) (old new : List GroupKey) (number : ℕ) → AreApart ns → i < length ns → n ≡ get_or ns i n
    → old ≡ map single_key (take i ns) → Interns old (single_key n) new number → new ≡ map single_key (take (i + 1) ns)
single-next ns i n old new number apart within is before h = by h.adds
  where
    by : Adds old (single_key n) new → new ≡ map single_key (take (i + 1) ns)
    by (inl a) =
        let there = back Any single_key alike (take i ns) n (any (take i ns)) tt (subst (λ ks. Contains ks (single_key n)) before a.0) in
        let early : there.0 < i = omega (arith, there.1, length-take i ns) in
        let same = apart there.0 i n (omega (arith, early, within)) within (sym (get_or-take i ns there.0 n early) ∙ there.2 ∙ is) in
        absurd (omega (arith, early, same))
    by (inr a) = a.1 ∙ ap (λ ks. ks ++ single_key n ∷ []) before ∙ sym (map_next single_key ns i n within is)
