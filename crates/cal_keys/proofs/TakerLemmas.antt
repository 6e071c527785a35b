-- Which name of GROUP BY takes an attribute's entries, and what they take together.
use Rattle.std.proofs.Common.{◌≡◌, ℕ, zero, suc, ◌+◌, ◌<◌, ◌≤◌, Bool, true, false, true≢false, ◌&&◌, not, List, [], ◌∷◌, ◌++◌, ◌⊎◌, inl, inr}
use Rattle.std.proofs.Common.{length, filter, take, Option, None, Some, option_map, is_some, get_or, refl, sym, ap, subst, ◌∙◌, arith, if◌then◌else◌}
use Rattle.std.specs.Prelude.{nat_lt, cond, ◌==◌, codes}
use Rattle.std.specs.Cmp.Lexicographic.{bytes_decides}
use Rattle.std.specs.Ordering.{eq_by_cmp}
use Rattle.std.proofs.lemmas.Bool.{cases_lt}
use Rattle.std.proofs.lemmas.Bool.Decides.{Decides-eqb, nat_tests, same_from_decides}
use Rattle.std.specs.Map.{lookup}
use Rattle.std.proofs.lemmas.List.{get_or_append_left, get_or_push, length-append, take_more}
use Rattle.std.proofs.lemmas.List.Elements.{filter_agree}
use Rattle.indexmap.specs.IndexMap.{IndexMap, IsEmpty, get, index_map_len}
use Rattle.cal_context.specs.Tree.{Tree, attribute_at}
use Rattle.cal_context.specs.declared.numbers.AttributeNumber.{AttributeNumber}
use Rattle.cal_rowset.specs.Cells.{is_path}
use Rattle.cal_rowset.specs.Hierarchy.{is_of_hierarchy}
use Rattle.cal_rowset.specs.Texts.{is_same}
use Rattle.cal_value.specs.ExactOrder.{exact_decides, text_exact}
use Rattle.cal_value.specs.Texts.{text_cmp}
use Rattle.cal_value.specs.declared.attribute.Attribute.{Attribute}
use Rattle.cal_value.specs.declared.attribute.Entry.{Entry}
use Rattle.cal_keys.specs.Groups.{taken, takes, takes_attribute}
use Rattle.cal_keys.specs.Takers.{AreTakers, HasTaker, IsPlaced, IsTaker, first_place, is_place, lower_place, taken_at, taker, taker_at}
use Rattle.cal_keys.specs.declared.takers.Taker.{Taker}
use Rattle.cal_keys.specs.declared.takers.Takers.{Takers}

-- ---- texts

pub texts_alike : (x y : List ℕ) → eq_by_cmp text_cmp x y ≡ is_same x y
texts_alike x y = same_from_decides (eq_by_cmp text_cmp x y) (is_same x y) (exact_decides text_exact x y) (bytes_decides x y)

pub same_text : (x y : List ℕ) → is_same x y ≡ true → x ≡ y
same_text x y e = (bytes_decides x y).0 e

pub itself : (x : List ℕ) → is_same x x ≡ true
itself x = (bytes_decides x x).1 refl

-- ---- first places

abbrev or_else : Option ℕ → Option ℕ → Option ℕ
or_else None other = other
or_else (Some n) other = Some n

abbrev next : ℕ → ℕ
next n = n + 1

pub first_agree : (p q : List ℕ → Bool) → ((name : List ℕ) → p name ≡ q name) → (names : List (List ℕ)) → first_place p names ≡ first_place q names
first_agree p q same [] = refl
first_agree p q same (name ∷ names) = λ i. if same name i then Some 0 else option_map next (first_agree p q same names i)

pub first_never : (p : List ℕ → Bool) → ((name : List ℕ) → p name ≡ false) → (names : List (List ℕ)) → first_place p names ≡ None
first_never p never [] = refl
first_never p never (name ∷ names) = rw (never name) (ap (option_map next) (first_never p never names))

push_some : (o : Option ℕ) (b : Bool) (n : ℕ) → option_map next (or_else o (if b then Some n else None)) ≡ or_else (option_map next o) (if b then Some (n + 1) else None)
push_some None true n = refl
push_some None false n = refl
push_some (Some m) b n = refl

pub first_push : (p : List ℕ → Bool) (names : List (List ℕ)) (name : List ℕ)
    → first_place p (names ++ name ∷ []) ≡ or_else (first_place p names) (if p name then Some (length names) else None)
first_push p [] name = refl
first_push p (x ∷ names) name = by (p x) refl (first_push p names name)
  where
    longer : length (x ∷ names) ≡ length names + 1
    longer = omega arith

    by : (b : Bool) → p x ≡ b → first_place p (names ++ name ∷ []) ≡ or_else (first_place p names) (if p name then Some (length names) else None)
        → first_place p (x ∷ (names ++ name ∷ [])) ≡ or_else (first_place p (x ∷ names)) (if p name then Some (length (x ∷ names)) else None)
    by true e rest = rw e refl
    by false e rest = rw e (ap (option_map next) rest ∙ push_some (first_place p names) (p name) (length names)
        ∙ ap (λ n. or_else (option_map next (first_place p names)) (if p name then Some n else None)) (sym longer))

pub first_within : (p : List ℕ → Bool) (names : List (List ℕ)) (n : ℕ) → first_place p names ≡ Some n → n < length names
first_within p [] n e = cc
first_within p (x ∷ names) n e = by (p x) refl (first_place p names) refl (λ m is. first_within p names m is)
  where
    by : (b : Bool) → p x ≡ b → (o : Option ℕ) → first_place p names ≡ o → ((m : ℕ) → first_place p names ≡ Some m → m < length names) → n < length (x ∷ names)
    by true h o is rest =
        let here : Some 0 ≡ Some n = rw h at e in
        let zero_is : 0 ≡ n = cc in omega (arith, zero_is)
    by false h None is rest =
        let none : ◌≡◌ {A = Option ℕ} None (Some n) = rw (h, is) at e in cc
    by false h (Some m) is rest =
        let later : Some (m + 1) ≡ Some n = rw (h, is) at e in
        let e' : m + 1 ≡ n = cc in
        let l = rest m is in omega (arith, e', l)

-- one name more in a map
pub placed_again : {S : Type 0} (names : List (List ℕ)) (name : List ℕ) (m : IndexMap (List ℕ) ℕ S) → IsPlaced names m
    → is_some (get (eq_by_cmp text_cmp) m name) ≡ true → IsPlaced (names ++ name ∷ []) m
placed_again names name m h there x = h x ∙ by (is_same x name) refl (first_place (is_same x) names) refl ∙ sym (first_push (is_same x) names name)
  where
    by : (b : Bool) → is_same x name ≡ b → (o : Option ℕ) → first_place (is_same x) names ≡ o
        → first_place (is_same x) names ≡ or_else (first_place (is_same x) names) (if is_same x name then Some (length names) else None)
    by b e (Some n) is = rw is refl
    by false e None is = rw (is, e) refl
    by true e None is =
        let found : is_some (first_place (is_same x) names) ≡ true =
        subst (λ y. is_some (first_place (is_same y) names) ≡ true) (sym (same_text x name e)) (ap is_some (sym (h name)) ∙ there) in
        absurd (true≢false (sym found ∙ ap is_some is))

pub placed_next : {S : Type 0} (names : List (List ℕ)) (name : List ℕ) (m m' : IndexMap (List ℕ) ℕ S) → IsPlaced names m
    → is_some (get (eq_by_cmp text_cmp) m name) ≡ false
    → ((x : List ℕ) → get (eq_by_cmp text_cmp) m' x ≡ cond (eq_by_cmp text_cmp name x) (Some (length names)) (get (eq_by_cmp text_cmp) m x))
    → IsPlaced (names ++ name ∷ []) m'
placed_next names name m m' h absent is x =
    is x ∙ by (is_same name x) refl ∙ sym (first_push (is_same x) names name)
  where
    by : (b : Bool) → is_same name x ≡ b
        → cond (eq_by_cmp text_cmp name x) (Some (length names)) (get (eq_by_cmp text_cmp) m x)
        ≡ or_else (first_place (is_same x) names) (if is_same x name then Some (length names) else None)
    by true e =
        let same : name ≡ x = same_text name x e in
        let other : is_same x name ≡ true = subst (λ y. is_same x y ≡ true) (sym same) (itself x) in
        let none : first_place (is_same x) names ≡ None = by_none (first_place (is_same x) names) refl (subst (λ y. is_some (first_place (is_same y) names) ≡ false) same (ap is_some (sym (h name)) ∙ absent)) in
        rw (texts_alike name x, e, none, other) refl
      where
        by_none : (o : Option ℕ) → first_place (is_same x) names ≡ o → is_some (first_place (is_same x) names) ≡ false → first_place (is_same x) names ≡ None
        by_none None is_o f = is_o
        by_none (Some n) is_o f = absurd (true≢false (sym (ap is_some is_o) ∙ f))
    by false e =
        let other : is_same x name ≡ false = turned (is_same x name) refl in
        rw (texts_alike name x, e, other) (h x ∙ ended (first_place (is_same x) names))
      where
        turned : (b : Bool) → is_same x name ≡ b → is_same x name ≡ false
        turned true f = absurd (true≢false (sym (subst (λ y. is_same name y ≡ true) (sym (same_text x name f)) (itself name)) ∙ e))
        turned false f = f

        ended : (o : Option ℕ) → o ≡ or_else o None
        ended None = refl
        ended (Some n) = refl

-- ---- who takes

lt_true : (p q : ℕ) → p < q → nat_lt p q ≡ true
lt_true p q l = grind (arith, nat_tests, l)

lt_false : (p q : ℕ) → q ≤ p → nat_lt p q ≡ false
lt_false p q l = grind (arith, nat_tests, l)

lt_next : (p q : ℕ) → nat_lt (p + 1) (q + 1) ≡ nat_lt p q
lt_next p q = by (cases_lt p q)
  where
    by : (p < q) ⊎ (q ≤ p) → nat_lt (p + 1) (q + 1) ≡ nat_lt p q
    by (inl l) = lt_true (p + 1) (q + 1) (omega (arith, l)) ∙ sym (lt_true p q l)
    by (inr l) = lt_false (p + 1) (q + 1) (omega (arith, l)) ∙ sym (lt_false p q l)

eqb_next : (p q : ℕ) → (p + 1 == q + 1) ≡ (p == q)
eqb_next p q = by (p == q) refl (p + 1 == q + 1) refl
  where
    by : (b : Bool) → (p == q) ≡ b → (d : Bool) → (p + 1 == q + 1) ≡ d → (p + 1 == q + 1) ≡ (p == q)
    by true e true f = f ∙ sym e
    by false e false f = f ∙ sym e
    by true e false f = absurd (true≢false (sym ((Decides-eqb (p + 1) (q + 1)).1 (ap next ((Decides-eqb p q).0 e))) ∙ f))
    by false e true f =
        let same : p + 1 ≡ q + 1 = (Decides-eqb (p + 1) (q + 1)).0 f in
        absurd (true≢false (sym ((Decides-eqb p q).1 (omega (arith, same))) ∙ e))

eqb_zero : (n : ℕ) → (n + 1 == 0) ≡ false
eqb_zero n = by (n + 1 == 0) refl
  where
    by : (b : Bool) → (n + 1 == 0) ≡ b → (n + 1 == 0) ≡ false
    by true e = let zero_is : n + 1 ≡ 0 = (Decides-eqb (n + 1) 0).0 e in absurd (omega (arith, zero_is))
    by false e = e

zero_eqb : (n : ℕ) → (0 == n + 1) ≡ false
zero_eqb n = by (0 == n + 1) refl
  where
    by : (b : Bool) → (0 == n + 1) ≡ b → (0 == n + 1) ≡ false
    by true e = let zero_is : 0 ≡ n + 1 = (Decides-eqb 0 (n + 1)).0 e in absurd (omega (arith, zero_is))
    by false e = e

lower_next : (o u : Option ℕ) → option_map next (lower_place o u) ≡ lower_place (option_map next o) (option_map next u)
lower_next None u = refl
lower_next (Some p) None = refl
lower_next (Some p) (Some q) = by (nat_lt p q) refl
  where
    by : (b : Bool) → nat_lt p q ≡ b → Some ((if nat_lt p q then p else q) + 1) ≡ Some (if nat_lt (p + 1) (q + 1) then p + 1 else q + 1)
    by true e = rw (lt_next p q, e) refl
    by false e = rw (lt_next p q, e) refl

lower_first : (o : Option ℕ) → Some 0 ≡ lower_place (Some 0) (option_map next o)
lower_first None = refl
lower_first (Some q) = sym (ap (λ b. Some (if b then 0 else q + 1)) (lt_true 0 (q + 1) (omega arith)))

lower_second : (o : Option ℕ) → Some 0 ≡ lower_place (option_map next o) (Some 0)
lower_second None = refl
lower_second (Some q) = sym (ap (λ b. Some (if b then q + 1 else 0)) (lt_false (q + 1) 0 (omega arith)))

either : (p q : List ℕ → Bool) (names : List (List ℕ))
    → first_place (λ n. if p n then true else q n) names ≡ lower_place (first_place p names) (first_place (λ n. if p n then false else q n) names)
either p q [] = refl
either p q (x ∷ names) = by (p x) refl (q x) refl (either p q names)
  where
    by : (b : Bool) → p x ≡ b → (d : Bool) → q x ≡ d
        → first_place (λ n. if p n then true else q n) names ≡ lower_place (first_place p names) (first_place (λ n. if p n then false else q n) names)
        → first_place (λ n. if p n then true else q n) (x ∷ names) ≡ lower_place (first_place p (x ∷ names)) (first_place (λ n. if p n then false else q n) (x ∷ names))
    by true e d f rest = rw e (lower_first (first_place (λ n. if p n then false else q n) names))
    by false e true f rest = rw (e, f) (lower_second (first_place p names))
    by false e false f rest = rw (e, f) (ap (option_map next) rest ∙ lower_next (first_place p names) (first_place (λ n. if p n then false else q n) names))

pub taker_in_paths : (names : List (List ℕ)) (a : Attribute) (path : Option ℕ) → path ≡ first_place is_path names → (b : Bool) → is_of_hierarchy a ≡ b
    → taker true names a ≡ (if b then lower_place path (taker false names a) else taker false names a)
taker_in_paths names a path is true e =
    first_agree (λ name. takes_attribute true name a) (λ name. if is_path name then true else is_same a.name name) (λ name. rw e refl) names
    ∙ either is_path (is_same a.name) names
    ∙ ap (λ p. lower_place p (taker false names a)) (sym is)
taker_in_paths names a path is false e =
    first_agree (λ name. takes_attribute true name a) (λ name. takes_attribute false name a) (λ name. rw e refl) names

pub taker_of_path : (names : List (List ℕ)) (a : Attribute) → is_path a.name ≡ true → taker false names a ≡ None
taker_of_path names a e = first_never (λ name. takes_attribute false name a) (λ name. by name (is_path name) refl (is_same a.name name) refl) names
  where
    by : (name : List ℕ) (b : Bool) → is_path name ≡ b → (d : Bool) → is_same a.name name ≡ d → takes_attribute false name a ≡ false
    by name true f d g = rw f refl
    by name false f true g = absurd (true≢false (sym (subst (λ n. is_path n ≡ true) (same_text a.name name g) e) ∙ f))
    by name false f false g = rw (f, g) refl

pub taker_named : (names : List (List ℕ)) (a : Attribute) → is_path a.name ≡ false → taker false names a ≡ first_place (is_same a.name) names
taker_named names a e = first_agree (λ name. takes_attribute false name a) (is_same a.name) (λ name. by name (is_path name) refl (is_same a.name name) refl) names
  where
    by : (name : List ℕ) (b : Bool) → is_path name ≡ b → (d : Bool) → is_same a.name name ≡ d → takes_attribute false name a ≡ is_same a.name name
    by name true f true g = absurd (true≢false (sym (subst (λ n. is_path n ≡ true) (sym (same_text a.name name g)) f) ∙ e))
    by name true f false g = rw (f, g) refl
    by name false f d g = rw f refl

-- ---- one attribute more

abbrev pub no_taker : Taker
no_taker = record { in_paths = None; beside = None }

pub known_next : (t : Tree) (names : List (List ℕ)) (x x' : Takers) (a : AttributeNumber) (k : Taker) → x'.places ≡ x.places → x'.path ≡ x.path
    → x'.known.items ≡ x.known.items ++ k ∷ [] → a.0 ≡ length x.known.items → a.0 < length t.attributes
    → IsTaker names (attribute_at t a) k → AreTakers t names x → AreTakers t names x'
known_next t names x x' a k places path more next within is h = record {
  places = record {
    placed = subst (IsPlaced names) (sym places) h.places.placed;
    path = path ∙ h.places.path;
  };
  known = λ b l. by b (cases_lt b.0 (length x.known.items)) l;
}
  where
    by : (b : AttributeNumber) → ((b.0 < length x.known.items) ⊎ (length x.known.items ≤ b.0)) → b.0 < length x'.known.items → HasTaker t names x' b
    by b (inl short) l =
        let old = h.known b short in
        record {
          within = old.within;
          is = subst (IsTaker names (attribute_at t b)) (sym (ap (λ ks. get_or ks b.0 no_taker) more ∙ get_or_append_left x.known.items (k ∷ []) no_taker b.0 short)) old.is;
        }
    by b (inr long) l =
        let counted : length x'.known.items ≡ length x.known.items + 1 = ap length more ∙ length-append x.known.items (k ∷ []) in
        let e : b.0 ≡ length x.known.items = omega arith in
        let at : b ≡ a = λ i. record { 0 = (e ∙ sym next) i } in
        let read : taker_at x' b ≡ k = ap (λ ks. get_or ks b.0 no_taker) more ∙ ap (λ i. get_or (x.known.items ++ k ∷ []) i no_taker) e ∙ get_or_push x.known.items k no_taker (length x.known.items) refl in
        record {
          within = omega arith;
          is = subst (IsTaker names (attribute_at t b)) (sym read) (subst (λ c. IsTaker names (attribute_at t c) k) (sym at) is);
        }

-- ---- what the names take together

abbrev pub at_places : (ℕ → List Entry) → ℕ → ℕ → List (List Entry)
at_places takes from zero = []
at_places takes from (suc count) = takes from ∷ at_places takes (from + 1) count

pub at_places-agree : (f g : ℕ → List Entry) → ((n : ℕ) → f n ≡ g n) → (from count : ℕ) → at_places f from count ≡ at_places g from count
at_places-agree f g same from zero = refl
at_places-agree f g same from (suc count) = λ i. same from i ∷ at_places-agree f g same (from + 1) count i

at_places-next : (f : ℕ → List Entry) (from count : ℕ) → at_places f (from + 1) count ≡ at_places (λ n. f (n + 1)) from count
at_places-next f from zero = refl
at_places-next f from (suc count) = ap (λ xs. f (from + 1) ∷ xs) (at_places-next f (from + 1) count)

filter_twice : (p q : Entry → Bool) (es : List Entry) → filter q (filter p es) ≡ filter (λ e. p e && q e) es
filter_twice p q [] = refl
filter_twice p q (e ∷ es) = by (p e) refl (q e) refl (filter_twice p q es)
  where
    by : (b : Bool) → p e ≡ b → (d : Bool) → q e ≡ d → filter q (filter p es) ≡ filter (λ e. p e && q e) es
        → filter q (filter p (e ∷ es)) ≡ filter (λ e. p e && q e) (e ∷ es)
    by false is d so rest = rw is rest
    by true is true so rest = rw (is, so) (ap (λ xs. e ∷ xs) rest)
    by true is false so rest = rw (is, so) rest

head_place : (b : Bool) (o : Option ℕ) → b ≡ is_place 0 (if b then Some 0 else option_map next o)
head_place true o = refl
head_place false None = refl
head_place false (Some n) = sym (eqb_zero n)

tail_place : (b : Bool) (o : Option ℕ) (n : ℕ) → (not b && is_place n o) ≡ is_place (n + 1) (if b then Some 0 else option_map next o)
tail_place true o n = sym (zero_eqb n)
tail_place false None n = refl
tail_place false (Some m) n = sym (eqb_next m n)

pub taken_places : (in_path : Bool) (names : List (List ℕ)) (es : List Entry)
    → taken in_path names es ≡ at_places (λ n. taken_at in_path names n es) 0 (length names)
taken_places in_path [] es = refl
taken_places in_path (name ∷ names) es =
    (λ i. filter_agree (λ e. takes in_path name e) (λ e. is_place 0 (taker in_path (name ∷ names) e.attr))
    (λ e. head_place (takes in_path name e) (taker in_path names e.attr)) es i
    ∷ (taken_places in_path names (filter (λ e. not (takes in_path name e)) es)
    ∙ at_places-agree _ _ (λ n. filter_twice (λ e. not (takes in_path name e)) (λ e. is_place n (taker in_path names e.attr)) es
    ∙ filter_agree (λ e. not (takes in_path name e) && is_place n (taker in_path names e.attr)) (λ e. is_place (n + 1) (taker in_path (name ∷ names) e.attr))
    (λ e. tail_place (takes in_path name e) (taker in_path names e.attr) n) es) 0 (length names)
    ∙ sym (at_places-next (λ n. taken_at in_path (name ∷ names) n es) 0 (length names))) i)

-- ---- a map of no names

no_pairs : {A : Type 0} (xs : List A) → length xs ≡ 0 → xs ≡ []
no_pairs [] e = refl
no_pairs (x ∷ xs) e = cc

pub none_placed : {S : Type 0} (m : IndexMap (List ℕ) ℕ S) → IsEmpty m → IsPlaced [] m
none_placed m empty name = ap (lookup (eq_by_cmp text_cmp name)) empty

pub nothing_placed : {S : Type 0} (names : List (List ℕ)) (m : IndexMap (List ℕ) ℕ S) → index_map_len m ≡ 0 → IsPlaced names m → names ≡ []
nothing_placed [] m e h = refl
nothing_placed (name ∷ names) m e h =
    let found : first_place (is_same name) (name ∷ names) ≡ Some 0 = rw (itself name) refl in
    let none : get (eq_by_cmp text_cmp) m name ≡ None = ap (lookup (eq_by_cmp text_cmp name)) (no_pairs m.entries e) in
    let clash : ◌≡◌ {A = Option ℕ} None (Some 0) = sym none ∙ h name ∙ found in cc

pub path_placed : {S : Type 0} (names : List (List ℕ)) (m : IndexMap (List ℕ) ℕ S) (name : List ℕ) → name ≡ codes "path" → IsPlaced names m
    → get (eq_by_cmp text_cmp) m name ≡ first_place is_path names
path_placed names m name is h = h name ∙ first_agree (is_same name) is_path (λ n. by n) names
  where
    by : (n : List ℕ) → is_same name n ≡ is_path n
    by n = turned (is_same name n) refl (is_path n) refl
      where
        turned : (b : Bool) → is_same name n ≡ b → (d : Bool) → is_path n ≡ d → is_same name n ≡ is_path n
        turned true e true f = e ∙ sym f
        turned false e false f = e ∙ sym f
        turned true e false f = absurd (true≢false (sym (subst (λ x. is_path x ≡ true) (same_text name n e) (subst (λ x. is_path x ≡ true) (sym is) (itself (codes "path")))) ∙ f))
        turned false e true f = absurd (true≢false (sym (subst (λ x. is_same x n ≡ true) (sym is) (subst (λ x. is_same x n ≡ true) (same_text n (codes "path") f) (itself n))) ∙ e))

pub placed_more : {S : Type 0} (names : List (List ℕ)) (i : ℕ) (name : List ℕ) (m : IndexMap (List ℕ) ℕ S) → i < length names → name ≡ get_or names i name
    → IsPlaced (take i names ++ name ∷ []) m → IsPlaced (take (i + 1) names) m
placed_more names i name m short read h =
    subst (λ ns. IsPlaced ns m) (sym (take_more names i name short ∙ ap (λ n. take i names ++ n ∷ []) (sym read))) h
