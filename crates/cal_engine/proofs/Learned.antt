-- Names learned in turn are those names in first-seen order.
use Rattle.std.proofs.Common.{◌≡◌, ℕ, zero, suc, ◌+◌, ◌<◌, Bool, true, false, not, ◌||◌, if◌then◌else◌, List, [], ◌∷◌, ◌++◌, codes, filter, get_or, length, map, take, refl, sym, ap, ◌∙◌, append_assoc, append-nil, arith}
use Rattle.std.specs.List.{flat_map, list_any}
use Rattle.std.specs.Ordering.{eq_by_cmp}
use Rattle.std.proofs.lemmas.Grind.{fold-append}
use Rattle.std.proofs.lemmas.List.{map-append, map_more}
use Rattle.std.proofs.lemmas.List.Folds.{list_any-append}
use Rattle.cal_rowset.specs.Hierarchy.{hierarchy, is_of_hierarchy, other_entries}
use Rattle.cal_rowset.specs.Texts.{first_seen}
use Rattle.cal_value.specs.ExactOrder.{exact_equiv, exact_tells, text_exact}
use Rattle.cal_value.specs.Flat.{joined}
use Rattle.cal_value.specs.Texts.{text_cmp}
use Rattle.cal_value.specs.declared.attribute.Entry.{Entry}
use Rattle.cal_value.specs.declared.record.Rec.{Rec}
use Rattle.cal_engine.specs.Answers.{path_first, shown_names}
use Rattle.cal_keys.specs.FirstSeen.{firsts}
use Rattle.cal_keys.specs.Groups.{has_entries}
use Rattle.cal_engine.specs.Learning.{learned, learned_one, names_beside}
use Rattle.cal_engine.proofs.Firsts.{firsts-push, list_any-firsts}
use Rattle.cal_parts.proofs.SameTexts.{same_texts}

abbrev same_text : List ℕ → List ℕ → Bool
same_text = eq_by_cmp text_cmp

-- one more name
learned_next : (done : List (List ℕ)) (name : List ℕ) → learned_one (firsts same_text done) name ≡ firsts same_text (done ++ name ∷ [])
learned_next done name =
    ap (λ b. if b then firsts same_text done else firsts same_text done ++ name ∷ []) (list_any-firsts (exact_equiv text_exact) (exact_tells text_exact) name done)
    ∙ sym (firsts-push (exact_equiv text_exact) (exact_tells text_exact) done name)

learned_all : (done more : List (List ℕ)) → learned (firsts same_text done) more ≡ firsts same_text (done ++ more)
learned_all done [] = ap (firsts same_text) (sym (append-nil done))
learned_all done (name ∷ names) =
    ap (λ seen. learned seen names) (learned_next done name)
    ∙ learned_all (done ++ name ∷ []) names
    ∙ ap (firsts same_text) (append_assoc done (name ∷ []) names)

first_seen-firsts : (texts : List (List ℕ)) → firsts same_text texts ≡ first_seen texts
first_seen-firsts [] = refl
first_seen-firsts (text ∷ texts) =
    ap (λ seen. text ∷ filter (λ other. not (same_text other text)) seen) (first_seen-firsts texts)
    ∙ (λ i. text ∷ filter (λ other. not (sym (same_texts other text) i)) (first_seen texts))

-- names learned from none on are those names, each once
pub learned_alone : (names : List (List ℕ)) → learned [] names ≡ first_seen names
learned_alone names = learned_all [] names ∙ first_seen-firsts names

-- a text is among them where it is among all
pub any_first_seen : (name : List ℕ) (names : List (List ℕ))
    → list_any (same_text name) (first_seen names) ≡ list_any (same_text name) names
any_first_seen name names =
    ap (list_any (same_text name)) (sym (first_seen-firsts names))
    ∙ list_any-firsts (exact_equiv text_exact) (exact_tells text_exact) name names

pub learned_shown : (rows : List Rec) (first now : List (List ℕ)) → first ≡ path_first rows
    → now ≡ learned first (flat_map (λ row. map (λ e. e.attr.name) (other_entries row)) rows)
    → now ≡ shown_names rows
learned_shown rows first now is step =
    step
    ∙ ap (λ f. learned f (flat_map (λ row. map (λ e. e.attr.name) (other_entries row)) rows)) (is ∙ alone (list_any (λ row. has_entries (hierarchy row)) rows))
    ∙ learned_all (path_first rows) (flat_map (λ row. map (λ e. e.attr.name) (other_entries row)) rows)
    ∙ first_seen-firsts (path_first rows ++ flat_map (λ row. map (λ e. e.attr.name) (other_entries row)) rows)
  where
    alone : (b : Bool) → (if b then codes "path" ∷ [] else []) ≡ firsts same_text (if b then codes "path" ∷ [] else [])
    alone true = refl
    alone false = refl

-- the names of a row: those of its paths beside the hierarchy, and of its immediates
pub learned_row : (names mid now : List (List ℕ)) (row : Rec)
    → mid ≡ learned names (names_beside true (joined row.paths))
    → now ≡ learned mid (names_beside false row.imms)
    → now ≡ learned names (map (λ e. e.attr.name) (other_entries row))
learned_row names mid now row first step =
    step
    ∙ ap (λ m. learned m (names_beside false row.imms)) first
    ∙ sym (fold-append learned_one names (names_beside true (joined row.paths)) (names_beside false row.imms))
    ∙ ap (learned names)
    (ap (λ es. names_beside true (joined row.paths) ++ map (λ e. e.attr.name) es) (all row.imms)
    ∙ sym (map-append (λ (e : Entry). e.attr.name) (filter (λ e. not (is_of_hierarchy e.attr)) (joined row.paths)) row.imms))
  where
    all : (es : List Entry) → filter (λ e. true) es ≡ es
    all [] = refl
    all (e ∷ es) = ap (λ fs. e ∷ fs) (all es)

-- a row has a hierarchy where some entry of some path is of it
has_entries-filter : (q : Entry → Bool) (es : List Entry) → list_any q es ≡ has_entries (filter q es)
has_entries-filter q [] = refl
has_entries-filter q (e ∷ es) = by (q e) (has_entries-filter q es)
  where
    by : (b : Bool) → list_any q es ≡ has_entries (filter q es)
        → (b || list_any q es) ≡ has_entries (if b then e ∷ filter q es else filter q es)
    by true rest = refl
    by false rest = rest

any_joined : (q : Entry → Bool) (paths : List (List Entry)) → list_any (λ path. list_any q path) paths ≡ list_any q (joined paths)
any_joined q [] = refl
any_joined q (path ∷ paths) =
    ap (λ b. list_any q path || b) (any_joined q paths) ∙ sym (list_any-append q path (joined paths))

pub nested_any : (row : Rec) → list_any (λ path. list_any (λ e. is_of_hierarchy e.attr) path) row.paths ≡ has_entries (hierarchy row)
nested_any row = any_joined (λ e. is_of_hierarchy e.attr) row.paths ∙ has_entries-filter (λ e. is_of_hierarchy e.attr) (joined row.paths)

-- some item passes a test where one at a place does
pub any_at : {A B : Type 0} (q : B → Bool) (f : A → B) (xs : List A) (i : ℕ) (x : A) → i < length xs → x ≡ get_or xs i x → q (f x) ≡ true
    → list_any q (map f xs) ≡ true
any_at q f [] i x l e h = absurd (omega arith)
any_at q f (y ∷ ys) zero x l e h = ap (λ b. b || list_any q (map f ys)) (ap (λ z. q (f z)) (sym e) ∙ h)
any_at q f (y ∷ ys) (suc i) x l e h = by (q (f y)) (any_at q f ys i x (omega arith) e h)
  where
    by : (b : Bool) → list_any q (map f ys) ≡ true → (b || list_any q (map f ys)) ≡ true
    by true rest = refl
    by false rest = rest

-- no item passes a test where none before it does and it does not
pub none_both : (a b : Bool) → a ≡ false → b ≡ false → (a || (b || false)) ≡ false
none_both a b ea eb = ap (λ x. x || (b || false)) ea ∙ ap (λ x. x || false) eb

pub none_more : {A B : Type 0} (q : B → Bool) (f : A → B) (xs : List A) (i : ℕ) (d : A) → i < length xs
    → list_any q (map f (take i xs)) ≡ false → q (f (get_or xs i d)) ≡ false → list_any q (map f (take (i + 1) xs)) ≡ false
none_more q f xs i d l before here =
    ap (list_any q) (map_more f xs i d l)
    ∙ list_any-append q (map f (take i xs)) (f (get_or xs i d) ∷ [])
    ∙ none_both _ _ before here
