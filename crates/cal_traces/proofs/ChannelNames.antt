-- The names of each channel of a valid script go together with those of its attributes.
use Rattle.std.proofs.Common.{◌≡◌, ℕ, Bool, true, false, not, ◌&&◌, ◌||◌, cond, List, [], ◌∷◌}
use Rattle.std.proofs.Common.{◌++◌, length, map, refl, sym, ap, subst, ◌∙◌, true≢false, arith}
use Rattle.std.proofs.Common.{Option, None, Some, Contains, inl, inr}
use Rattle.std.specs.Prelude.{◌⊎◌, ◌==◌, Ok, Err, codes, flat_map, is_some, nat_eq}
use Rattle.std.specs.Prelude.{if◌then◌else◌, All}
use Rattle.std.specs.Cmp.Lexicographic.{bytes_decides, pointwise}
use Rattle.std.specs.List.{AllByRecursion, IsDistinct, join_with_byte, list_any}
use Rattle.std.specs.Str.{bytes_eq}
use Rattle.std.proofs.lemmas.Bool.{and_parts, or_cases, or_left, or_right}
use Rattle.std.proofs.lemmas.Bool.Decides.{nat_tests}
use Rattle.std.proofs.lemmas.List.Elements.{All-contains}
use Rattle.std.proofs.lemmas.List.Folds.{list_any-append}
use Rattle.std.proofs.lemmas.List.Splits.{join_with_byte-slice_split}
use Rattle.cal_line.specs.FirstFault.{after_lines}
use Rattle.cal_profile.specs.Declared.{AreKeys, IsDeclared, IsNamed, props_of}
use Rattle.cal_profile.specs.Groups.{agg_of, aggs_of, channel_query, keys_of, value_aggs}
use Rattle.cal_profile.proofs.Kernels.{aggs_are}
use Rattle.cal_profile.proofs.KeptKeys.{apart_turned, same_text, text_same}
use Rattle.cal_profile.proofs.Lists.{all_weaker, holds_of}
use Rattle.cal_ql.specs.declared.names.KernelName.TheVariants as kernel
use Rattle.cal_ql.specs.declared.query.Agg.{Agg}
use Rattle.cal_rowset.specs.Texts.{is_same}
use Rattle.cal_script.specs.Lines.{pieces}
use Rattle.cal_script.specs.Names.{is_attribute_name}
use Rattle.cal_script.specs.Parts.{attribute_names, event_fronts, is_among, is_event_name}
use Rattle.cal_script.specs.Parts.{is_known, service_names, with_name}
use Rattle.cal_script.specs.Reading.{IsValidScript}
use Rattle.cal_script.specs.declared.kind.ScriptKind.TheVariants.{BadName, DuplicateName}
use Rattle.cal_script.specs.declared.kind.ScriptKind.TheVariants.{UnknownName}
use Rattle.cal_script.specs.declared.script.Channel.{Channel}
use Rattle.cal_script.specs.declared.script.ChannelQuery.{ChannelQuery}
use Rattle.cal_script.specs.declared.script.Script.{Script}
use Rattle.cal_spelling.proofs.Chains.{Chain}
use Rattle.cal_spelling.proofs.Legible.{AreSaid, HasKeys, HasValues, IsNewAttribute, IsQueried}
use Rattle.cal_spelling.proofs.Legible.{IsWritable}
use Rattle.cal_spelling.proofs.ReaderLines.{valid_writable}
use Rattle.cal_run.specs.RunAttributes.{added_attributes, events_of, run_attributes}
use Rattle.cal_traces.proofs.Names.{IsNewName, absent_undeclared, is_there, names_allowed}
use Rattle.cal_traces.proofs.Names.{names_apart, no_hash, others, there_declared}
use Rattle.cal_valid.proofs.Binds.{bind_ok, if_ok, unless_ok}
use Rattle.cal_value.specs.declared.attribute.Attribute.{Attribute}

-- ---- a line of names

-- A name that is taken is new; it is known, or `path` where nothing stands before it.
record IsTaken (is_key : Bool) (declared before : List (List ℕ)) (name : List ℕ)
    (next : List (List ℕ)) : Type 0 where
  pushed : next ≡ before ++ name ∷ []
  fresh : is_among before name ≡ false
  known : ((is_key ≡ true) × (name ≡ codes "path") × (before ≡ []))
      ⊎ (is_known declared name ≡ true)

taken_name : (is_key : Bool) (declared before : List (List ℕ)) (name : List ℕ)
    (next : List (List ℕ)) → with_name is_key declared before name ≡ Ok next
    → IsTaken is_key declared before name next
taken_name is_key declared before name next is =
    by_path (is_key && bytes_eq name (codes "path")) refl is
  where
    none : (before : List (List ℕ)) → (length before == 0) ≡ true → before ≡ []
    none [] e = refl
    none (x ∷ before) e = absurd (grind (arith, nat_tests))

    by_path : (path : Bool) → (is_key && bytes_eq name (codes "path")) ≡ path
        → cond path (cond (length before == 0) (Ok (before ++ name ∷ [])) (Err BadName))
        (cond (is_among before name) (Err DuplicateName)
        (cond (is_known declared name) (Ok (before ++ name ∷ [])) (Err UnknownName))) ≡ Ok next
        → IsTaken is_key declared before name next
    by_path true path is =
        let first = if_ok (length before == 0) BadName (Ok (before ++ name ∷ [])) next is in
        let both = and_parts is_key (bytes_eq name (codes "path")) path in
        let empty = none before first.0 in
        record {
          pushed = (let e = first.1 in cc);
          fresh = ap (λ b. is_among b name) empty;
          known = inl (both.0, same_text name (codes "path") both.1, empty);
        }
    by_path false path is =
        let fresh = unless_ok (is_among before name) DuplicateName
        (cond (is_known declared name) (Ok (before ++ name ∷ [])) (Err UnknownName)) next is in
        let known = if_ok (is_known declared name) UnknownName (Ok (before ++ name ∷ [])) next
        fresh.1 in
        record {
          pushed = (let e = known.1 in cc);
          fresh = fresh.0;
          known = inr known.0;
        }

-- the first of the names, and those behind it
next_taken : (is_key : Bool) (declared before : List (List ℕ)) (name : List ℕ)
    (names after : List (List ℕ))
    → after_lines (with_name is_key declared) before (name ∷ names) ≡ Ok after
    → IsTaken is_key declared before name (before ++ name ∷ [])
    × (after_lines (with_name is_key declared) (before ++ name ∷ []) names ≡ Ok after)
next_taken is_key declared before name names after is =
    let next = bind_ok (with_name is_key declared before name)
    (λ next. after_lines (with_name is_key declared) next names) after is in
    let taken = taken_name is_key declared before name next.0 next.1 in (
      subst (IsTaken is_key declared before name) taken.pushed taken,
      subst (λ (b : List (List ℕ)). after_lines (with_name is_key declared) b names ≡ Ok after)
          taken.pushed next.2,
    )

-- each is new to those before it
taken_new : (is_key : Bool) (declared before names after : List (List ℕ))
    → after_lines (with_name is_key declared) before names ≡ Ok after
    → Chain IsNewName before names
taken_new is_key declared before [] after is = tt
taken_new is_key declared before (name ∷ names) after is =
    let next = next_taken is_key declared before name names after is in
    (next.0.fresh, taken_new is_key declared (before ++ name ∷ []) names after next.1)

abbrev AreKnown : List (List ℕ) → List (List ℕ) → Type 0
AreKnown declared names = AllByRecursion (λ name. is_known declared name ≡ true) names

-- and each but a first `path` is known
later_known : (is_key : Bool) (declared : List (List ℕ)) (first : List ℕ)
    (before names after : List (List ℕ))
    → after_lines (with_name is_key declared) (first ∷ before) names ≡ Ok after
    → AreKnown declared names
later_known is_key declared first before [] after is = tt
later_known is_key declared first before (name ∷ names) after is =
    let next = next_taken is_key declared (first ∷ before) name names after is in (
      elim next.0.known [ inl path ↦ (let e = path.2 in absurd cc) | inr known ↦ known ],
      later_known is_key declared first (before ++ name ∷ []) names after next.1,
    )

plain_known : (declared before names after : List (List ℕ))
    → after_lines (with_name false declared) before names ≡ Ok after → AreKnown declared names
plain_known declared before [] after is = tt
plain_known declared before (name ∷ names) after is =
    let next = next_taken false declared before name names after is in (
      elim next.0.known [ inl path ↦ (let e = path.0 in absurd cc) | inr known ↦ known ],
      plain_known declared (before ++ name ∷ []) names after next.1,
    )

-- ---- a name that is known is declared in a run

module _ (attributes : List Attribute) where
  abbrev all : List Attribute
  all = attributes ++ added_attributes attributes

  among_there : (attributes : List Attribute) (name : List ℕ)
      → is_among (attribute_names attributes) name ≡ true → is_there attributes name ≡ true
  among_there [] name h = h
  among_there (a ∷ attributes) name h =
      elim (or_cases (bytes_eq name a.name) (is_among (attribute_names attributes) name) h) [
        | inl here ↦ or_left (is_same a.name name) (is_there attributes name)
            (text_same a.name name (sym (same_text name a.name here)))
        | inr behind ↦ or_right (is_same a.name name) (is_there attributes name)
            (among_there attributes name behind)
      ]

  -- a name of a service, one of four
  service_there : (name : List ℕ) → is_among service_names name ≡ true
      → is_there (added_attributes attributes) name ≡ true
  service_there name h =
      (λ i. turned (codes "time.duration.ns") i
      || (turned (codes "time.inclusive.duration.ns") i
      || (turned (codes "region.depth") i || (turned (codes "region.count") i
      || is_there (flat_map events_of attributes) name))))
      ∙ four (is_same name (codes "time.duration.ns"))
      (is_same name (codes "time.inclusive.duration.ns")) (is_same name (codes "region.depth"))
      (is_same name (codes "region.count")) (is_there (flat_map events_of attributes) name) h
    where
      turned : (other : List ℕ) → is_same other name ≡ is_same name other
      turned other = by (is_same name other) refl
        where
          by : (b : Bool) → is_same name other ≡ b → is_same other name ≡ is_same name other
          by true e = text_same other name (sym (same_text name other e)) ∙ sym e
          by false e = apart_turned name other e ∙ sym e

      four : (a b c d e : Bool) → (a || (b || (c || (d || false)))) ≡ true
          → (a || (b || (c || (d || e)))) ≡ true
      four true b c d e h = refl
      four false true c d e h = refl
      four false false true d e h = refl
      four false false false true e h = refl
      four false false false false e h = absurd (true≢false (sym h))

  -- a name of an event
  event_there : (attributes : List Attribute) (front name : List ℕ)
      → is_among event_fronts front ≡ true → is_among (attribute_names attributes) name ≡ true
      → is_there (flat_map events_of attributes) (front ++ 35 ∷ name) ≡ true
  event_there [] front name is h = h
  event_there (a ∷ attributes) front name is h =
      elim (or_cases (bytes_eq name a.name) (is_among (attribute_names attributes) name) h) [
        | inl here ↦ own (same_text name a.name here)
        | inr behind ↦ later (named (codes "event.begin")) (named (codes "event.end"))
            (named (codes "event.set")) others (event_there attributes front name is behind)
      ]
    where
      named : List ℕ → Bool
      named known = is_same (known ++ 35 ∷ a.name) (front ++ 35 ∷ name)

      others : Bool
      others = is_there (flat_map events_of attributes) (front ++ 35 ∷ name)

      later : (a b c d : Bool) → d ≡ true → (a || (b || (c || d))) ≡ true
      later true b c d e = refl
      later false true c d e = refl
      later false false true d e = refl
      later false false false d e = e

      at : (known : List ℕ) → bytes_eq front known ≡ true → name ≡ a.name
          → is_same (known ++ 35 ∷ a.name) (front ++ 35 ∷ name) ≡ true
      at known e same = text_same (known ++ 35 ∷ a.name) (front ++ 35 ∷ name)
          (λ i. sym (same_text front known e) i ++ 35 ∷ sym same i)

      first : (a b c d : Bool) → a ≡ true → (a || (b || (c || d))) ≡ true
      first true b c d e = refl
      first false b c d e = absurd (true≢false (sym e))

      second : (a b c d : Bool) → b ≡ true → (a || (b || (c || d))) ≡ true
      second true b c d e = refl
      second false true c d e = refl
      second false false c d e = absurd (true≢false (sym e))

      third : (a b c d : Bool) → c ≡ true → (a || (b || (c || d))) ≡ true
      third true b c d e = refl
      third false true c d e = refl
      third false false true d e = refl
      third false false false d e = absurd (true≢false (sym e))

      last : (b : Bool) → (b || false) ≡ true → b ≡ true
      last true e = refl
      last false e = e

      own : name ≡ a.name
          → is_there (flat_map events_of (a ∷ attributes)) (front ++ 35 ∷ name) ≡ true
      own same =
          elim (or_cases (bytes_eq front (codes "event.begin"))
          (is_among (codes "event.end" ∷ codes "event.set" ∷ []) front) is) [
            | inl begins ↦ first (named (codes "event.begin")) (named (codes "event.end"))
                (named (codes "event.set")) others (at (codes "event.begin") begins same)
            | inr more ↦ elim (or_cases (bytes_eq front (codes "event.end"))
                (is_among (codes "event.set" ∷ []) front) more) [
                  | inl ends ↦ second (named (codes "event.begin")) (named (codes "event.end"))
                      (named (codes "event.set")) others (at (codes "event.end") ends same)
                  | inr sets ↦ third (named (codes "event.begin")) (named (codes "event.end"))
                      (named (codes "event.set")) others
                      (at (codes "event.set") (last (bytes_eq front (codes "event.set")) sets) same)
                ]
          ]

  event_known : (name : List ℕ) (parts : List (List ℕ)) → pieces 35 name ≡ parts
      → is_event_name (attribute_names attributes) parts ≡ true
      → is_there (flat_map events_of attributes) name ≡ true
  event_known name [] cut h = absurd (true≢false (sym h))
  event_known name (front ∷ []) cut h = absurd (true≢false (sym h))
  event_known name (front ∷ attribute ∷ []) cut h =
      let both = and_parts (is_among event_fronts front)
      (is_among (attribute_names attributes) attribute) h in
      let whole : front ++ 35 ∷ attribute ≡ name =
      ap (λ parts. join_with_byte 35 parts) (sym cut) ∙ join_with_byte-slice_split 35 name in
      subst (λ (n : List ℕ). is_there (flat_map events_of attributes) n ≡ true) whole
      (event_there attributes front attribute both.0 both.1)
  event_known name (front ∷ attribute ∷ more ∷ parts) cut h = absurd (true≢false (sym h))

  event_added : (name : List ℕ)
      → is_event_name (attribute_names attributes) (pieces 35 name) ≡ true
      → is_there (added_attributes attributes) name ≡ true
  event_added name event =
      behind (is_same (codes "time.duration.ns") name)
      (is_same (codes "time.inclusive.duration.ns") name) (is_same (codes "region.depth") name)
      (is_same (codes "region.count") name) (is_there (flat_map events_of attributes) name)
      (event_known name (pieces 35 name) refl event)
    where
      behind : (a b c d e : Bool) → e ≡ true → (a || (b || (c || (d || e)))) ≡ true
      behind true b c d e h = refl
      behind false true c d e h = refl
      behind false false true d e h = refl
      behind false false false true e h = refl
      behind false false false false e h = h

  known_declared : (name : List ℕ) → is_known (attribute_names attributes) name ≡ true
      → IsDeclared all name
  known_declared name h = there_declared all name
      (list_any-append (λ (a : Attribute). is_same a.name name) attributes
      (added_attributes attributes) ∙ by (or_cases _ _ h))
    where
      by_header : (is_among (attribute_names attributes) name ≡ true)
          ⊎ (is_among service_names name ≡ true)
          → (is_there attributes name || is_there (added_attributes attributes) name) ≡ true
      by_header (inl own) = or_left _ _ (among_there attributes name own)
      by_header (inr service) = or_right (is_there attributes name) _ (service_there name service)

      by : ((is_among (attribute_names attributes) name || is_among service_names name) ≡ true)
          ⊎ (is_event_name (attribute_names attributes) (pieces 35 name) ≡ true)
          → (is_there attributes name || is_there (added_attributes attributes) name) ≡ true
      by (inl header) = by_header (or_cases _ _ header)
      by (inr event) = or_right (is_there attributes name) _ (event_added name event)

  -- ---- a name of a result isn't declared

  abbrev AreAllowed : Type 0
  AreAllowed = AllByRecursion (λ (a : Attribute). is_attribute_name a.name ≡ true) attributes

  none_named : (name : List ℕ)
      → ((a : Attribute) → is_attribute_name a.name ≡ true → is_same a.name name ≡ false)
      → (attributes : List Attribute)
      → AllByRecursion (λ (a : Attribute). is_attribute_name a.name ≡ true) attributes
      → is_there attributes name ≡ false
  none_named name apart [] allowed = refl
  none_named name apart (a ∷ attributes) allowed =
      λ i. apart a allowed.0 i || none_named name apart attributes allowed.1 i

  absent : (name : List ℕ)
      → ((a : Attribute) → is_attribute_name a.name ≡ true → is_same a.name name ≡ false)
      → AreAllowed → is_there (added_attributes attributes) name ≡ false → props_of all name ≡ None
  absent name apart allowed added = absent_undeclared all name
      (list_any-append (λ (a : Attribute). is_same a.name name) attributes
      (added_attributes attributes)
      ∙ (λ i. none_named name apart attributes allowed i || added i))

  -- no event has such a name, which begins otherwise
  count_added : (attributes : List Attribute)
      → is_there (flat_map events_of attributes) (codes "count") ≡ false
  count_added [] = refl
  count_added (a ∷ attributes) = count_added attributes

  path_added : (attributes : List Attribute)
      → is_there (flat_map events_of attributes) (codes "path") ≡ false
  path_added [] = refl
  path_added (a ∷ attributes) = path_added attributes

  sum_added : (attributes : List Attribute) (attr : List ℕ)
      → is_there (flat_map events_of attributes) (codes "sum#" ++ attr) ≡ false
  sum_added [] attr = refl
  sum_added (a ∷ attributes) attr = sum_added attributes attr

  least_added : (attributes : List Attribute) (attr : List ℕ)
      → is_there (flat_map events_of attributes) (codes "min#" ++ attr) ≡ false
  least_added [] attr = refl
  least_added (a ∷ attributes) attr = least_added attributes attr

  most_added : (attributes : List Attribute) (attr : List ℕ)
      → is_there (flat_map events_of attributes) (codes "max#" ++ attr) ≡ false
  most_added [] attr = refl
  most_added (a ∷ attributes) attr = most_added attributes attr

  module _ (allowed : AreAllowed) where
    path_absent : props_of all (codes "path") ≡ None
    path_absent = absent (codes "path") (λ a is. (others a.name is).path) allowed
        (path_added attributes)

    abbrev IsAbsent : Agg → Type 0
    IsAbsent agg = props_of all agg.name ≡ None

    values_absent : (values : List (List ℕ)) → AllByRecursion IsAbsent (flat_map value_aggs values)
    values_absent [] = tt
    values_absent (v ∷ vs) = (
      absent (codes "sum#" ++ v) (λ a is. no_hash a.name (codes "sum") v is) allowed
          (sum_added attributes v),
      (
        absent (codes "min#" ++ v) (λ a is. no_hash a.name (codes "min") v is) allowed
            (least_added attributes v),
        (
          absent (codes "max#" ++ v) (λ a is. no_hash a.name (codes "max") v is) allowed
              (most_added attributes v),
          values_absent vs,
        ),
      ),
    )

    results_absent : (values : List (List ℕ)) → AllByRecursion IsAbsent (aggs_of values)
    results_absent values = (
      absent (codes "count") (λ a is. (others a.name is).count) allowed (count_added attributes),
      values_absent values,
    )

  -- ---- a channel's names

  keys_named : (channel : Channel) (keys : List (List ℕ))
      → HasKeys (attribute_names attributes) channel keys
      → AreKeys all (if channel.query.by_default then None else Some keys)
  keys_named channel [] is = let default = is in rw default tt
  keys_named channel (key ∷ keys) is =
      let own = is.0 in
      let next = next_taken true (attribute_names attributes) [] key keys (key ∷ keys) is.1.taken in
      rw own (
        elim next.0.known [
          | inl path ↦ inl path.1
          | inr known ↦ inr (known_declared key known)
        ],
        all_weaker (λ name. is_known (attribute_names attributes) name ≡ true) (IsDeclared all)
            known_declared keys
            (later_known true (attribute_names attributes) key [] keys (key ∷ keys) next.1),
      )

  values_named : (channel : Channel) (values : List (List ℕ))
      → HasValues (attribute_names attributes) channel values
      → AllByRecursion (IsDeclared all) values × IsDistinct is_same values
  unfolding IsDistinct
  values_named channel [] is = (tt, tt)
  values_named channel (value ∷ values) is = (
    all_weaker (λ name. is_known (attribute_names attributes) name ≡ true) (IsDeclared all)
        known_declared (value ∷ values)
        (plain_known (attribute_names attributes) [] (value ∷ values) (value ∷ values) is.taken),
    names_apart [] (value ∷ values)
        (taken_new false (attribute_names attributes) [] (value ∷ values) (value ∷ values)
        is.taken),
  )

  pub channel_named : Chain IsNewAttribute [] attributes → (channel : Channel)
      → IsQueried (attribute_names attributes) channel → IsNamed all channel.query
  channel_named chain channel is =
      let allowed = names_allowed [] attributes chain in
      let values = values_named channel channel.query.values is.values in
      record {
        results = λ agg there. holds_of (λ (agg : Agg). props_of all agg.name ≡ None)
            (channel_query channel.query).aggs agg
            (subst (AllByRecursion (λ (agg : Agg). props_of all agg.name ≡ None))
            (sym (aggs_are channel.query values.1))
            (results_absent allowed channel.query.values)) there;
        path = path_absent allowed;
        keys = keys_named channel channel.query.keys is.keys;
        values = values.0;
        once = values.1;
      }

-- So it is in each valid script.
pub script_named : (script : Script) → IsValidScript script → (channel : Channel)
    → Contains script.channels channel → IsNamed (run_attributes script) channel.query
script_named script valid channel there =
    let is = valid_writable script valid in
    channel_named script.attributes is.header.each_attribute channel
    (All-contains (IsQueried (attribute_names script.attributes)) script.channels channel
    is.header.queries there)
