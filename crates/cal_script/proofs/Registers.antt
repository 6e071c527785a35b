-- Items that are found by their names.
use Rattle.std.proofs.Common.{◌≡◌, ℕ, ◌<◌, Bool, true, false, List, [], ◌∷◌, ◌++◌, length, get_or, refl, sym, ap, subst, ◌∙◌, arith}
use Rattle.std.specs.Prelude.{String}
use Rattle.std.specs.Prelude.{IfSome, map, string_bytes, Some, None, Option}
use Rattle.std.specs.List.{list_any, position, position_or_len, IsDistinct, AllByRecursion}
use Rattle.std.specs.Str.{bytes_eq}
use Rattle.std.specs.String.{string_eq}
use Rattle.std.proofs.lemmas.List.{map-append, length-map, get_or-map}
use Rattle.std.proofs.lemmas.Bool.{cond-false, false_from_ne_true, lt-ltb}
use Rattle.std.proofs.lemmas.List.Quantifiers.{position-Some}
use Rattle.std.proofs.lemmas.List.Sums.{position_or_len_is}
use Rattle.std.proofs.lemmas.Map.Keys.{apart_from_distinct}
use Rattle.std.specs.Cmp.Lexicographic.{bytes_decides}
use Rattle.indexmap.specs.IndexSet.{insert_key}
use Rattle.std.specs.declared.alloc.Global.{Global}
use Rattle.cal_script.specs.declared.register.Register.{Register}
use Rattle.cal_script.specs.Parts.{is_among, place_of}
use Rattle.cal_script.specs.Registers.{IsRegister}

-- a test of items by a value of theirs
pub list_any-map : {A B : Type 0} (p : B → Bool) (f : A → B) (xs : List A) → list_any p (map f xs) ≡ list_any (λ x. p (f x)) xs
list_any-map p f [] = refl
list_any-map p f (x ∷ xs) = rw (list_any-map p f xs) refl

position_or_len-map : {A B : Type 0} (p : B → Bool) (f : A → B) (xs : List A) → position_or_len p (map f xs) ≡ position_or_len (λ x. p (f x)) xs
position_or_len-map p f [] = refl
position_or_len-map p f (x ∷ xs) = rw (position_or_len-map p f xs) refl

pub position-map : {A B : Type 0} (p : B → Bool) (f : A → B) (xs : List A) → position p (map f xs) ≡ position (λ x. p (f x)) xs
position-map p f xs = rw (position_or_len-map p f xs, length-map xs f) refl

-- whether a name is among those of the items
pub registered_has : {T : Type 0} (name_of : T → List ℕ) (register : Register T) (name : List ℕ) → IsRegister name_of register
    → list_any (λ k. bytes_eq name (string_bytes k)) register.names.keys ≡ is_among (map name_of register.items) name
registered_has name_of register name kept =
    sym (list_any-map (bytes_eq name) string_bytes register.names.keys) ∙ ap (list_any (bytes_eq name)) kept

-- the place of a name among those of the items
pub registered_place : {T : Type 0} (name_of : T → List ℕ) (register : Register T) (name : List ℕ) → IsRegister name_of register
    → position (λ k. bytes_eq name (string_bytes k)) register.names.keys ≡ place_of (map name_of register.items) name
registered_place name_of register name kept =
    sym (position-map (bytes_eq name) string_bytes register.names.keys) ∙ ap (position (bytes_eq name)) kept

-- a place that was found is one of the items
pub registered_below : {T : Type 0} (name_of : T → List ℕ) (register : Register T) → IsRegister name_of register → length register.names.keys ≡ length register.items
registered_below name_of register kept =
    sym (length-map register.names.keys string_bytes) ∙ ap length kept ∙ length-map register.items name_of

-- one name more, which no other item has
pub registered_more : {T : Type 0} (name_of : T → List ℕ) (register : Register T) (item : T) (key : String Global) (keys : List (String Global)) → IsRegister name_of register
    → string_bytes key ≡ name_of item → is_among (map name_of register.items) (name_of item) ≡ false
    → keys ≡ insert_key string_eq register.names.keys key
    → map string_bytes keys ≡ map name_of (register.items ++ item ∷ [])
registered_more name_of register item key keys kept named fresh inserted =
    let new : list_any (string_eq key) register.names.keys ≡ false = registered_has name_of register (string_bytes key) kept ∙ ap (is_among (map name_of register.items)) named ∙ fresh in
    let pushed : keys ≡ register.names.keys ++ key ∷ [] = inserted ∙ cond-false _ _ _ new in
    ap (map string_bytes) pushed ∙ map-append string_bytes register.names.keys (key ∷ [])
    ∙ ap (λ (x : List (List ℕ)). x ++ string_bytes key ∷ []) kept ∙ ap (λ (x : List ℕ). map name_of register.items ++ x ∷ []) named
    ∙ sym (map-append name_of register.items (item ∷ []))

-- what stands at a place that was found has the name
pub registered_named : {T : Type 0} (name_of : T → List ℕ) (items : List T) (name : List ℕ) (place : ℕ) (other : T)
    → place_of (map name_of items) name ≡ Some place → name_of (get_or items place other) ≡ name
registered_named name_of items name place other found =
    let at = position-Some (λ x. bytes_eq name (name_of x)) items place other (sym (position-map (bytes_eq name) name_of items) ∙ found) in
    sym ((bytes_decides name (name_of (get_or items place other))).0 at.1)

pub registered_found : {T : Type 0} (name_of : T → List ℕ) (items : List T) (name : List ℕ) (found : Option ℕ)
    → found ≡ place_of (map name_of items) name → IfSome found (λ place. (other : T) → name_of (get_or items place other) ≡ name)
registered_found name_of items name None is = tt
registered_found name_of items name (Some place) is = λ other. registered_named name_of items name place other (sym is)

-- keys that are apart have names that are apart
apart_names : (key : String Global) (keys : List (String Global)) → AllByRecursion (λ other. string_eq key other ≡ false) keys → AllByRecursion (λ name. bytes_eq (string_bytes key) name ≡ false) (map string_bytes keys)
apart_names key [] apart = tt
apart_names key (other ∷ keys) apart = (apart.0, apart_names key keys apart.1)

distinct_names : (keys : List (String Global)) → IsDistinct string_eq keys → IsDistinct bytes_eq (map string_bytes keys)
unfolding IsDistinct
distinct_names [] apart = tt
distinct_names (key ∷ keys) apart = (apart_names key keys apart.0, distinct_names keys apart.1)

-- where names are apart, the one at a place has no like before it
apart_before : (names : List (List ℕ)) (place before : ℕ) → IsDistinct bytes_eq names → before < place → place < length names → bytes_eq (get_or names place []) (get_or names before []) ≡ false
apart_before names place before apart first within =
    let differs : bytes_eq (get_or names before []) (get_or names place []) ≡ false = apart_from_distinct bytes_eq names before place [] apart first within in
    false_from_ne_true _ (λ same.
    let is = (bytes_decides (get_or names place []) (get_or names before [])).0 same in
    let equal = (bytes_decides (get_or names before []) (get_or names place [])).1 (sym is) in
    cc)

place_first : (names : List (List ℕ)) (place : ℕ) → IsDistinct bytes_eq names → place < length names → place_of names (get_or names place []) ≡ Some place
place_first names place apart within =
    let first : position_or_len (bytes_eq (get_or names place [])) names ≡ place =
    position_or_len_is (bytes_eq (get_or names place [])) names place [] (omega arith) (λ before less. apart_before names place before apart less within)
    (λ _. (bytes_decides (get_or names place []) (get_or names place [])).1 refl)
    in
    rw (first, lt-ltb place (length names) within) refl

-- what stands at a place and has the name is the one that is found
pub place_at : {T : Type 0} (name_of : T → List ℕ) (register : Register T) (name : List ℕ) (place : ℕ) (item : T) → IsRegister name_of register
    → IsDistinct string_eq register.names.keys → place < length register.items → item ≡ get_or register.items place item
    → bytes_eq name (name_of item) ≡ true → place_of (map name_of register.items) name ≡ Some place
place_at name_of register name place item kept apart within is same =
    let distinct : IsDistinct bytes_eq (map name_of register.items) = subst (IsDistinct bytes_eq) kept (distinct_names register.names.keys apart) in
    let here : get_or (map name_of register.items) place [] ≡ name_of item = get_or-map name_of register.items place item [] within ∙ sym (ap name_of is) in
    let named : name ≡ get_or (map name_of register.items) place [] = (bytes_decides name (name_of item)).0 same ∙ sym here in
    rw named (place_first (map name_of register.items) place distinct (omega (arith, length-map register.items name_of)))
