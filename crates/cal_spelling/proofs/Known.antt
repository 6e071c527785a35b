-- The names of `key` and `value` lines.
use Rattle.std.proofs.Common.{◌≡◌, ℕ, Bool, true, false, ◌||◌, ◌&&◌, cond, List, [], ◌∷◌, ◌++◌}
use Rattle.std.proofs.Common.{length, refl, sym, ap, subst, ◌∙◌, append_assoc, append-nil, arith}
use Rattle.std.specs.Prelude.{Some, None, Result, Ok, Err, codes, ◌==◌}
use Rattle.std.specs.List.{All, join_with_byte, list_all}
use Rattle.std.specs.Option.{ok_or}
use Rattle.std.specs.Str.{bytes_eq}
use Rattle.std.specs.Cmp.Lexicographic.{same_text}
use Rattle.std.proofs.lemmas.List.Elements.{All-nil, All-cons, All-head, All-tail}
use Rattle.std.proofs.lemmas.List.Folds.{list_any-append}
use Rattle.std.proofs.lemmas.List.Splits.{join_with_byte-slice_split}
use Rattle.cal_line.specs.FirstFault.{◌>>=◌, after_lines}
use Rattle.cal_script.specs.declared.kind.ScriptKind.{ScriptKind}
use Rattle.cal_script.specs.declared.kind.ScriptKind.TheVariants.{BadName, DuplicateName}
use Rattle.cal_script.specs.declared.kind.ScriptKind.TheVariants.{UnknownName, WrongArity}
use Rattle.cal_script.specs.declared.kind.ScriptKind.TheVariants.{NotAggregate}
use Rattle.cal_script.specs.declared.script.Channel.{Channel}
use Rattle.cal_script.specs.Lines.{is_word, pieces, some_words}
use Rattle.cal_script.specs.Parts.{event_fronts, is_among, is_event_name, is_known, service_names}
use Rattle.cal_script.specs.Parts.{with_name}
use Rattle.cal_script.specs.Reading.{names_said}
use Rattle.cal_valid.proofs.Binds.{bind_ok, if_ok, ok_or_ok, unless_ok}
use Rattle.cal_spelling.proofs.Words.{IsWord, literal, word_between}

-- ---- names that are known

among_here : (name first : List ℕ) (names : List (List ℕ)) (same : Bool) → bytes_eq name first
    ≡ same → IsWord first → (is_among names name ≡ true → IsWord name)
    → (same || is_among names name) ≡ true → IsWord name
among_here name first names true is word rest found = let same : name ≡ first =
    same_text name first (sym is) in subst IsWord (sym same) word
among_here name first names false is word rest found = rest found

among_word : (names : List (List ℕ)) (name : List ℕ) → All IsWord names → is_among names name ≡ true
    → IsWord name
among_word [] name all found = absurd cc
among_word (first ∷ names) name all found =
    among_here name first names (bytes_eq name first) refl (All-head IsWord first names all)
    (λ found. among_word names name (All-tail IsWord first names all) found) found

service_words : All IsWord service_names
service_words =
    All-cons IsWord (codes "time.duration.ns") (codes "time.inclusive.duration.ns"
    ∷ codes "region.depth" ∷ codes "region.count" ∷ [])
    (literal (codes "time.duration.ns") refl refl)
    (All-cons IsWord (codes "time.inclusive.duration.ns")
    (codes "region.depth" ∷ codes "region.count" ∷ [])
    (literal (codes "time.inclusive.duration.ns") refl refl)
    (All-cons IsWord (codes "region.depth") (codes "region.count" ∷ [])
    (literal (codes "region.depth") refl refl)
    (All-cons IsWord (codes "region.count") [] (literal (codes "region.count") refl refl)
    (All-nil IsWord))))

front_words : All IsWord event_fronts
front_words =
    All-cons IsWord (codes "event.begin") (codes "event.end" ∷ codes "event.set" ∷ [])
    (literal (codes "event.begin") refl refl)
    (All-cons IsWord (codes "event.end") (codes "event.set" ∷ [])
    (literal (codes "event.end") refl refl)
    (All-cons IsWord (codes "event.set") [] (literal (codes "event.set") refl refl)
    (All-nil IsWord)))

pub both : (a b : Bool) → (a && b) ≡ true → (a ≡ true) × (b ≡ true)
both true b is = (refl, is)
both false b is = absurd cc

either : {P : Type 0} (a b : Bool) → (a || b) ≡ true → (a ≡ true → P) → (b ≡ true → P) → P
either true b is first second = first refl
either false b is first second = second is

event_word : (declared : List (List ℕ)) (name : List ℕ) (parts : List (List ℕ))
    → All IsWord declared → pieces 35 name ≡ parts → is_event_name declared parts ≡ true
    → IsWord name
event_word declared name [] all cut is = absurd cc
event_word declared name (front ∷ []) all cut is = absurd cc
event_word declared name (front ∷ attribute ∷ []) all cut is =
    let known = both (is_among event_fronts front) (is_among declared attribute) is in
    let whole : front ++ 35 ∷ attribute ≡ name = ap (λ parts. join_with_byte 35 parts) (sym cut)
    ∙ join_with_byte-slice_split 35 name in
    subst IsWord whole (word_between front attribute 35 (omega arith, omega arith)
    (among_word event_fronts front front_words known.0)
    (among_word declared attribute all known.1))
event_word declared name (front ∷ attribute ∷ more ∷ parts) all cut is = absurd cc

known_word : (declared : List (List ℕ)) (name : List ℕ) → All IsWord declared
    → is_known declared name ≡ true → IsWord name
known_word declared name all is =
    either (is_among declared name || is_among service_names name)
    (is_event_name declared (pieces 35 name)) is
    (λ is. either (is_among declared name) (is_among service_names name) is
    (λ found. among_word declared name all found)
    (λ found. among_word service_names name service_words found))
    (λ is. event_word declared name (pieces 35 name) all refl is)

-- ---- more declared names

or_true : (a b : Bool) → a ≡ true → (a || b) ≡ true
or_true true b is = refl
or_true false b is = absurd cc

or_right : (a b : Bool) → b ≡ true → (a || b) ≡ true
or_right true b is = refl
or_right false b is = is

among_more : (names more : List (List ℕ)) (name : List ℕ) → is_among names name ≡ true
    → is_among (names ++ more) name ≡ true
among_more names more name found = list_any-append (bytes_eq name) names more
    ∙ or_true (is_among names name) (is_among more name) found

event_more : (declared more : List (List ℕ)) (parts : List (List ℕ)) → is_event_name declared parts
    ≡ true → is_event_name (declared ++ more) parts ≡ true
event_more declared more [] is = absurd cc
event_more declared more (front ∷ []) is = absurd cc
event_more declared more (front ∷ attribute ∷ []) is =
    let known = both (is_among event_fronts front) (is_among declared attribute) is in
    λ i. known.0 i && among_more declared more attribute known.1 i
event_more declared more (front ∷ attribute ∷ next ∷ parts) is = absurd cc

known_more : (declared more : List (List ℕ)) (name : List ℕ) → is_known declared name ≡ true
    → is_known (declared ++ more) name ≡ true
known_more declared more name is =
    let here : Bool = is_among (declared ++ more) name in
    let service : Bool = is_among service_names name in
    let event : Bool = is_event_name (declared ++ more) (pieces 35 name) in
    either (is_among declared name || is_among service_names name)
    (is_event_name declared (pieces 35 name)) is
    (λ is. or_true (here || service) event (either (is_among declared name)
    (is_among service_names name) is
    (λ found. or_true here service (among_more declared more name found))
    (λ found. or_right here service found)))
    (λ is. or_right (here || service) event (event_more declared more (pieces 35 name) is))

-- ---- a line of names

-- a name that is taken stands behind those before it, and is a word
record IsTaken (names : List (List ℕ)) (name : List ℕ) (next : List (List ℕ)) : Type 0 where
  pushed : next ≡ names ++ name ∷ []
  word : IsWord name

pushed_ok : (made next : List (List ℕ)) (said : Result (List (List ℕ)) ScriptKind) → said ≡ Ok made
    → said ≡ Ok next → next ≡ made
pushed_ok made next said is also = cc

taken_name : (is_key : Bool) (declared names : List (List ℕ)) (name : List ℕ) (next : List (List ℕ))
    → All IsWord declared → with_name is_key declared names name ≡ Ok next → IsTaken names name next
taken_name is_key declared names name next all is = by_path (is_key && bytes_eq name (codes "path"))
    refl is
  where
    by_path : (path : Bool) → (is_key && bytes_eq name (codes "path")) ≡ path
        → cond path (cond (length names == 0) (Ok (names ++ name ∷ [])) (Err BadName))
        (cond (is_among names name) (Err DuplicateName)
        (cond (is_known declared name) (Ok (names ++ name ∷ [])) (Err UnknownName))) ≡ Ok next
        → IsTaken names name next
    by_path true path is =
        let first = if_ok (length names == 0) BadName (Ok (names ++ name ∷ [])) next is in
        let same : name ≡ codes "path" = same_text name (codes "path")
        (sym ((both is_key (bytes_eq name (codes "path")) path).1)) in
        record {
          pushed = pushed_ok (names ++ name ∷ []) next (Ok (names ++ name ∷ [])) refl first.1;
          word = subst IsWord (sym same) (literal (codes "path") refl refl);
        }
    by_path false path is =
        let fresh = unless_ok (is_among names name) DuplicateName
        (cond (is_known declared name) (Ok (names ++ name ∷ [])) (Err UnknownName)) next is in
        let known = if_ok (is_known declared name) UnknownName (Ok (names ++ name ∷ [])) next
        fresh.1 in
        record {
          pushed = pushed_ok (names ++ name ∷ []) next (Ok (names ++ name ∷ [])) refl known.1;
          word = known_word declared name all known.0;
        }

-- the names that were taken are those of the line, which are words
pub record AreTaken (before names after : List (List ℕ)) : Type 0 where
  pub same : after ≡ before ++ names
  pub words : All IsWord names

pub names_taken : (is_key : Bool) (declared before names after : List (List ℕ))
    → All IsWord declared → after_lines (with_name is_key declared) before names ≡ Ok after
    → AreTaken before names after
names_taken is_key declared before [] after all is =
    record {
      same = (let same : before ≡ after = cc in sym same ∙ sym (append-nil before));
      words = All-nil IsWord;
    }
names_taken is_key declared before (name ∷ names) after all is =
    let next = bind_ok (with_name is_key declared before name)
    (λ next. after_lines (with_name is_key declared) next names) after is in
    let first = taken_name is_key declared before name next.0 all next.1 in
    let rest = names_taken is_key declared next.0 names after all next.2 in
    record {
      same = rest.same ∙ ap (λ (b : List (List ℕ)). b ++ names) first.pushed
          ∙ append_assoc before (name ∷ []) names;
      words = All-cons IsWord name names first.word rest.words;
    }

more_known : (path empty dup known other : Bool) (made next : List (List ℕ))
    → (known ≡ true → other ≡ true)
    → cond path (cond empty (Ok made) (Err BadName))
    (cond dup (Err DuplicateName) (cond known (Ok made) (Err UnknownName))) ≡ Ok next
    → cond path (cond empty (Ok made) (Err BadName))
    (cond dup (Err DuplicateName) (cond other (Ok made) (Err UnknownName))) ≡ Ok next
more_known true empty dup known other made next more is = is
more_known false empty true known other made next more is = absurd cc
more_known false empty false true other made next more is =
    ap (λ b. cond b (Ok made) (Err UnknownName)) (more refl) ∙ is
more_known false empty false false other made next more is = absurd cc

-- they are taken where more names are declared
pub taken_more : (is_key : Bool) (declared more before names after : List (List ℕ))
    → after_lines (with_name is_key declared) before names ≡ Ok after
    → after_lines (with_name is_key (declared ++ more)) before names ≡ Ok after
taken_more is_key declared more before [] after is = is
taken_more is_key declared more before (name ∷ names) after is =
    let next = bind_ok (with_name is_key declared before name)
    (λ next. after_lines (with_name is_key declared) next names) after is in
    let first = more_known (is_key && bytes_eq name (codes "path")) (length before == 0)
    (is_among before name) (is_known declared name) (is_known (declared ++ more) name)
    (before ++ name ∷ []) next.0 (known_more declared more name) next.1 in
    ap (λ (found : Result (List (List ℕ)) ScriptKind). found
    >>= (λ next. after_lines (with_name is_key (declared ++ more)) next names)) first
    ∙ taken_more is_key declared more next.0 names after next.2

-- ---- the words of the line

some_said : (words names : List (List ℕ)) → some_words words ≡ Some names → (words ≡ names)
    × (first : List ℕ) × (rest : List (List ℕ)) × (names ≡ first ∷ rest)
some_said [] names is = absurd cc
some_said (first ∷ words) names is = by_test (list_all is_word (first ∷ words)) is
  where
    by_test : (fine : Bool) → cond fine (Some (first ∷ words)) None ≡ Some names
        → (first ∷ words ≡ names) × (f : List ℕ) × (rest : List (List ℕ)) × (names ≡ f ∷ rest)
    by_test true is = let same : first ∷ words ≡ names = cc in (same, first, words, sym same)
    by_test false is = absurd cc

-- the names of a line are its words, of which there is one at least, and the channel aggregates
pub said_names : (channel : Channel) (words names : List (List ℕ)) → names_said channel words
    ≡ Ok names
    → (channel.aggregate ≡ true) × (first : List ℕ) × (rest : List (List ℕ))
    × (names ≡ first ∷ rest)
said_names channel words names is =
    let some = bind_ok (ok_or (some_words words) WrongArity)
    (λ names. cond channel.aggregate (Ok names) (Err NotAggregate)) names is in
    let found = some_said words some.0 (ok_or_ok (some_words words) WrongArity some.0 some.1) in
    let passed = if_ok channel.aggregate NotAggregate (Ok some.0) names some.2 in
    let same : some.0 ≡ names = (let e = passed.1 in cc) in
    (passed.0, found.1, found.2, sym same ∙ found.3)
