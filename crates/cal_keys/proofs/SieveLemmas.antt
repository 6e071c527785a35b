-- What a sieve gets to know of nodes, one after another.
use Rattle.std.proofs.Common.{◌≡◌, ℕ, zero, suc, ◌+◌, ◌<◌, ◌≤◌, true, false, List, [], ◌∷◌, ◌++◌, ◌⊎◌, inl, inr, None, Some, length, filter, map, take, get_or, refl, sym, ap, subst, ◌∙◌, arith, append-nil, if◌then◌else◌}
use Rattle.std.specs.Prelude.{◌==◌, ◌-◌, replicate}
use Rattle.std.specs.List.{All}
use Rattle.std.proofs.lemmas.Bool.{cases_lt}
use Rattle.std.proofs.lemmas.Grind.{flat_map-append}
use Rattle.std.proofs.lemmas.List.{get_or_append_left, get_or_push, length-append, length-replicate, map-append, take_more}
use Rattle.std.proofs.lemmas.List.Elements.{filter-append}
use Rattle.cal_context.specs.Children.{IsLinked}
use Rattle.cal_context.specs.Snapshots.{IsBelowRoot}
use Rattle.cal_context.specs.Tree.{Grows, IsContext, Tree, attribute_at, path_at, value_at}
use Rattle.cal_context.specs.declared.numbers.Link.{Link}
use Rattle.cal_context.specs.declared.numbers.NodeNumber.{NodeNumber}
use Rattle.cal_value.specs.Flat.{joined}
use Rattle.cal_value.specs.declared.attribute.Entry.{Entry}
use Rattle.cal_keys.specs.Groups.{has_entries, taken, takes_attribute}
use Rattle.cal_keys.specs.Keys.{ArePaths}
use Rattle.cal_keys.specs.Shares.{AreShares, node_for, with_nones, with_share}
use Rattle.cal_keys.specs.Sieves.{HasShares, IsReadySieve, IsSieve, KnowsAttributes, shares_at}
use Rattle.cal_keys.specs.Takers.{is_place, taken_at, taker, taker_at}
use Rattle.cal_keys.specs.Leading.{IsStep, Leads}
use Rattle.cal_keys.specs.declared.share.Share.{Share}
use Rattle.cal_keys.specs.declared.sieve.Sieve.{Sieve}
use Rattle.cal_keys.proofs.Reaching.{leads-root}
use Rattle.cal_keys.proofs.ShareLemmas.{AreShares-Grows, AreShares-agree, eqb_so, no_shares, nodes_are, read-with_nones, shares_with}
use Rattle.cal_keys.proofs.TakerLemmas.{first_within, taken_places}

pub sieve_own : (t : Tree) {own new : Tree} → Grows own new → (names : List (List ℕ)) (s : Sieve) → IsSieve t own names s → IsSieve t new names s
sieve_own t grows names s h = record {
  takers = h.takers;
  shares = λ n l. let old = h.shares n l in record {
    within = old.within;
    are = AreShares-Grows grows (length names) (λ place. taken_at true names place (path_at t n)) (shares_at s n) old.are;
  };
}

-- ---- what is taken of one entry more

taken_more : (names : List (List ℕ)) (p : ℕ) (es : List Entry) (e : Entry)
    → taken_at true names p (es ++ e ∷ []) ≡ taken_at true names p es ++ (if is_place p (taker true names e.attr) then e ∷ [] else [])
taken_more names p es e = filter-append (λ f. is_place p (taker true names f.attr)) es (e ∷ [])

pub taken_not : (names : List (List ℕ)) (p : ℕ) (es : List Entry) (e : Entry) → is_place p (taker true names e.attr) ≡ false
    → taken_at true names p (es ++ e ∷ []) ≡ taken_at true names p es
taken_not names p es e isnt =
    taken_more names p es e ∙ ap (λ b. taken_at true names p es ++ (if b then e ∷ [] else [])) isnt ∙ append-nil (taken_at true names p es)

pub taken_so : (names : List (List ℕ)) (p : ℕ) (es : List Entry) (e : Entry) → is_place p (taker true names e.attr) ≡ true
    → taken_at true names p (es ++ e ∷ []) ≡ taken_at true names p es ++ e ∷ []
taken_so names p es e is = taken_more names p es e ∙ ap (λ b. taken_at true names p es ++ (if b then e ∷ [] else [])) is

-- without a name nothing is taken
pub none_taken : (p : ℕ) (es : List Entry) → taken_at true [] p es ≡ []
none_taken p [] = refl
none_taken p (e ∷ es) = none_taken p es

-- ---- one node more

pub knows_next : (t own new : Tree) (names : List (List ℕ)) (s s' : Sieve) (n : NodeNumber) (xs : List Share) → Grows own new → s'.takers ≡ s.takers
    → s'.shares ≡ s.shares ++ xs ∷ [] → n.0 ≡ length s.shares → HasShares t new names n xs
    → KnowsAttributes t own names s → KnowsAttributes t new names s'
knows_next t own new names s s' n xs grows takers more next found h = record {
  is = record {
    takers = rw takers h.is.takers;
    shares = λ m l. by m (cases_lt m.0 (length s.shares)) l;
  };
  attributes = rw takers h.attributes;
}
  where
    now : IsSieve t new names s
    now = sieve_own t grows names s h.is

    by : (m : NodeNumber) → ((m.0 < length s.shares) ⊎ (length s.shares ≤ m.0)) → m.0 < length s'.shares → HasShares t new names m (shares_at s' m)
    by m (inl short) l =
        subst (HasShares t new names m) (sym (ap (λ ls. get_or ls m.0 []) more ∙ get_or_append_left s.shares (xs ∷ []) [] m.0 short)) (now.shares m short)
    by m (inr long) l =
        let counted : length s'.shares ≡ length s.shares + 1 = ap length more ∙ length-append s.shares (xs ∷ []) in
        let e : m.0 ≡ length s.shares = omega arith in
        let is : n ≡ m = λ i. record { 0 = (next ∙ sym e) i } in
        subst (HasShares t new names m)
        (sym (ap (λ ls. get_or ls m.0 []) more ∙ ap (λ i. get_or (s.shares ++ xs ∷ []) i []) e ∙ get_or_push s.shares xs [] (length s.shares) refl))
        (subst (λ k. HasShares t new names k xs) is found)

-- of the root nothing is taken
pub shares_root : (t own : Tree) → IsContext own → (names : List (List ℕ)) (n : NodeNumber) → n.0 < length t.paths → path_at t n ≡ [] → HasShares t own names n []
shares_root t own context names n within empty = record {
  within = within;
  are = no_shares own context (length names) (λ p. taken_at true names p (path_at t n)) (λ p. ap (taken_at true names p) empty);
}

module _ (t own : Tree) (names : List (List ℕ)) (s : Sieve) (knows : KnowsAttributes t own names s) (l : Link) (n : NodeNumber) (linked : IsLinked t l n)
    (next : n.0 ≡ length s.shares) where
  abbrev pub last : Entry
  last = record { attr = attribute_at t l.attribute; value = value_at t l.value }

  taker_is : (taker_at s.takers l.attribute).in_paths ≡ taker true names (attribute_at t l.attribute)
  taker_is = (knows.is.takers.known l.attribute (omega (arith, linked.child.known, knows.attributes))).is.in_paths

  above : AreShares own (length names) (λ p. taken_at true names p (path_at t l.parent)) (shares_at s l.parent)
  above = (knows.is.shares l.parent (omega (arith, linked.child.later, next))).are

  -- a node whose own entry isn't taken
  pub shares_same : (taker_at s.takers l.attribute).in_paths ≡ None → HasShares t own names n (shares_at s l.parent)
  shares_same none = record {
    within = linked.child.within;
    are = AreShares-agree own (length names) (λ p. taken_at true names p (path_at t l.parent)) (λ p. taken_at true names p (path_at t n)) (shares_at s l.parent)
        (λ p. sym (ap (taken_at true names p) linked.child.path ∙ taken_not names p (path_at t l.parent) last (ap (is_place p) (sym taker_is ∙ none)))) above;
  }

  -- and one whose entry is
  pub shares_own : (new : Tree) → IsContext new → Grows own new → (share : Share) (e : Entry) → e ≡ last → (taker_at s.takers l.attribute).in_paths ≡ Some share.place
      → IsStep own new (node_for (shares_at s l.parent) share.place) e share.node → HasShares t new names n (with_share share (shares_at s l.parent))
  shares_own new context grows share e e_is by_name step = record {
    within = linked.child.within;
    are = shares_with own new (length names) before after (shares_at s l.parent) share grows few (below share.node.0 refl) leads others above;
  }
    where
      before : ℕ → List Entry
      before p = taken_at true names p (path_at t l.parent)

      after : ℕ → List Entry
      after p = taken_at true names p (path_at t n)

      taker_so : taker true names (attribute_at t l.attribute) ≡ Some share.place
      taker_so = sym taker_is ∙ by_name

      few : share.place < length names
      few = first_within (λ name. takes_attribute true name (attribute_at t l.attribute)) names share.place taker_so

      grown : after share.place ≡ before share.place ++ last ∷ []
      grown = ap (taken_at true names share.place) linked.child.path
          ∙ taken_so names share.place (path_at t l.parent) last (ap (is_place share.place) taker_so ∙ eqb_so share.place share.place refl)

      leads : Leads new (after share.place) share.node
      leads = record {
        within = step.within;
        is = step.path ∙ (λ i. (above.lead share.place).is i ++ e_is i ∷ []) ∙ sym grown;
      }

      not_empty : (es : List Entry) → es ++ last ∷ [] ≡ [] → ⊥
      not_empty [] f = cc
      not_empty (x ∷ es) f = cc

      below : (m : ℕ) → share.node.0 ≡ m → 0 < share.node.0
      below zero f = absurd (not_empty (before share.place) (sym grown ∙ leads-root new context (after share.place) share.node f leads))
      below (suc m) f = omega (arith, f)

      others : (p : ℕ) → (share.place == p) ≡ false → after p ≡ before p
      others p isnt = ap (taken_at true names p) linked.child.path ∙ taken_not names p (path_at t l.parent) last (ap (is_place p) taker_so ∙ isnt)

-- where there is no name, nothing is taken of any node
pub nothing_known : (t own : Tree) → IsContext own → (s s' : Sieve) → s'.takers ≡ s.takers → s'.shares ≡ with_nones s.shares (length t.paths)
    → KnowsAttributes t own [] s → IsReadySieve t own [] s'
nothing_known t own context s s' takers more h = record {
  is = record {
    takers = rw takers h.is.takers;
    shares = λ m l. by m (cases_lt m.0 (length s.shares)) l;
  };
  attributes = rw takers h.attributes;
  nodes = omega (arith, long);
}
  where
    whole : length (with_nones s.shares (length t.paths)) ≡ length s.shares + (length t.paths - length s.shares)
    whole = length-append s.shares (replicate (length t.paths - length s.shares) []) ∙ ap (λ n. length s.shares + n) (length-replicate (length t.paths - length s.shares) [])

    long : length s'.shares ≡ length s.shares + (length t.paths - length s.shares)
    long = ap length more ∙ whole

    past : (ls : List (List Share)) (i : ℕ) → length ls ≤ i → get_or ls i [] ≡ []
    past [] i m = refl
    past (x ∷ ls) zero m = absurd (omega (arith, m))
    past (x ∷ ls) (suc i) m = past ls i (omega (arith, m))

    by : (m : NodeNumber) → ((m.0 < length s.shares) ⊎ (length s.shares ≤ m.0)) → m.0 < length s'.shares → HasShares t own [] m (shares_at s' m)
    by m (inl short) l =
        subst (HasShares t own [] m) (sym (ap (λ ls. get_or ls m.0 []) more ∙ read-with_nones s.shares (length t.paths) m.0)) (h.is.shares m short)
    by m (inr past_end) l =
        subst (HasShares t own [] m) (sym (ap (λ ls. get_or ls m.0 []) more ∙ read-with_nones s.shares (length t.paths) m.0 ∙ past s.shares m.0 past_end))
        (record { within = omega (arith, l, long, past_end); are = no_shares own context 0 (λ p. taken_at true [] p (path_at t m)) (λ p. none_taken p (path_at t m)) })

-- ---- what is taken of several nodes

pub joined_next : (t : Tree) (nodes : List NodeNumber) (i : ℕ) (n : NodeNumber) → i < length nodes → n ≡ get_or nodes i n
    → joined (map (path_at t) (take (i + 1) nodes)) ≡ joined (map (path_at t) (take i nodes)) ++ path_at t n
joined_next t nodes i n short read =
    ap (λ ns. joined (map (path_at t) ns)) (take_more nodes i n short ∙ ap (λ m. take i nodes ++ m ∷ []) (sym read))
    ∙ ap joined (map-append (path_at t) (take i nodes) (n ∷ []))
    ∙ flat_map-append (λ p. p) (map (path_at t) (take i nodes)) (path_at t n ∷ [])
    ∙ ap (λ p. joined (map (path_at t) (take i nodes)) ++ p) (append-nil (path_at t n))

pub taken_next : (t : Tree) (names : List (List ℕ)) (nodes : List NodeNumber) (i : ℕ) (n : NodeNumber) (p : ℕ) → i < length nodes → n ≡ get_or nodes i n
    → taken_at true names p (joined (map (path_at t) (take i nodes))) ++ taken_at true names p (path_at t n)
    ≡ taken_at true names p (joined (map (path_at t) (take (i + 1) nodes)))
taken_next t names nodes i n p short read =
    sym (ap (taken_at true names p) (joined_next t nodes i n short read)
    ∙ filter-append (λ e. is_place p (taker true names e.attr)) (joined (map (path_at t) (take i nodes))) (path_at t n))

-- what is known of a node below the root
pub shares_of : (t own mid : Tree) → Grows own mid → (names : List (List ℕ)) (s : Sieve) (n : NodeNumber) → IsReadySieve t own names s → IsBelowRoot t n
    → AreShares mid (length names) (λ p. taken_at true names p (path_at t n)) (shares_at s n)
shares_of t own mid grows names s n ready below =
    AreShares-Grows grows (length names) (λ p. taken_at true names p (path_at t n)) (shares_at s n)
    (ready.is.shares n (omega (arith, below.within, ready.nodes))).are

-- the nodes of shares are those of a key's paths
pub paths_are : (own : Tree) → IsContext own → (names : List (List ℕ)) (es : List Entry) (xs : List Share) (nodes : List NodeNumber)
    → nodes ≡ map (λ (s : Share). s.node) xs → AreShares own (length names) (λ p. taken_at true names p es) xs
    → ArePaths own nodes (filter has_entries (taken true names es))
paths_are own context names es xs nodes is h =
    subst (λ ps. ArePaths own nodes (filter has_entries ps)) (sym (taken_places true names es))
    (nodes_are own context (λ p. taken_at true names p es) (length names) xs nodes is h)

pub paths_of_one : (t own : Tree) → IsContext own → (names : List (List ℕ)) (s : Sieve) (ns : List NodeNumber) (nodes : List NodeNumber) → 1 ≤ length ns → length ns < 2
    → nodes ≡ map (λ (s : Share). s.node) (shares_at s (get_or ns 0 (record { 0 = 0 }))) → IsReadySieve t own names s → All (IsBelowRoot t) ns
    → ArePaths own nodes (filter has_entries (taken true names (joined (map (path_at t) ns))))
paths_of_one t own context names s [] nodes some one is ready below = absurd (omega (arith, some))
paths_of_one t own context names s (n ∷ m ∷ ns) nodes some one is ready below = absurd (omega (arith, one))
paths_of_one t own context names s (n ∷ []) nodes some one is ready below =
    subst (λ es. ArePaths own nodes (filter has_entries (taken true names es))) (sym (append-nil (path_at t n)))
    (paths_are own context names (path_at t n) (shares_at s n) nodes is
    (ready.is.shares n (omega (arith, (below 0 n (omega arith)).within, ready.nodes))).are)
