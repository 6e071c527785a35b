-- What the lines of the header make can be written again.
use Rattle.std.proofs.Common.{◌≡◌, ℕ, ◌≤◌, Bool, true, false, ◌||◌, ◌&&◌, cond, List, [], ◌∷◌, ◌++◌}
use Rattle.std.proofs.Common.{refl, sym, ap, subst, ◌∙◌, arith, lit≤}
use Rattle.std.specs.Prelude.{Option, Some, None, Result, Ok, Err, codes, decimal, nat_le, not}
use Rattle.std.specs.List.{All}
use Rattle.std.specs.Option.{ok_or, option_map}
use Rattle.std.specs.Cmp.{first_so}
use Rattle.std.proofs.lemmas.Option.{get_or_from_slice_get, slice_get_within}
use Rattle.std.proofs.lemmas.Bool.Decides.{nat_tests}
use Rattle.std.proofs.lemmas.List.Elements.{All-nil, All-cons}
use Rattle.cal_line.specs.FirstFault.{◌>>=◌, after_lines}
use Rattle.cal_value.specs.Kinds.{kind_name, kind_named}
use Rattle.cal_value.specs.Numerals.{at_most, number_of}
use Rattle.cal_value.specs.Props.{is_as_value, is_global}
use Rattle.cal_value.specs.declared.attribute.Attribute.{Attribute}
use Rattle.cal_value.specs.declared.attribute.Entry.{Entry}
use Rattle.cal_value.specs.declared.kind.Kind as kinds
use Rattle.cal_value.specs.declared.kind.Kind.TheVariants as kind
use Rattle.cal_value.specs.declared.props.Props.{Props}
use Rattle.cal_value.specs.declared.variant.Variant.{Variant}
use Rattle.cal_value.proofs.Numbers.{at_most-fits, number_of-digits}
use Rattle.cal_script.specs.declared.kind.ScriptKind.{ScriptKind}
use Rattle.cal_script.specs.declared.kind.ScriptKind.TheVariants.{BadKind, BadName, BadProps}
use Rattle.cal_script.specs.declared.kind.ScriptKind.TheVariants.{BadService, DuplicateName}
use Rattle.cal_script.specs.declared.kind.ScriptKind.TheVariants.{Misplaced, NotGlobal, UnknownName}
use Rattle.cal_script.specs.declared.script.Channel.{Channel}
use Rattle.cal_script.specs.declared.script.ChannelQuery.{ChannelQuery}
use Rattle.cal_script.specs.Lines.{pieces}
use Rattle.cal_script.specs.Names.{is_attribute_name, is_name, is_reserved}
use Rattle.cal_script.specs.Parts.{attribute_named, attribute_names, attribute_of, bare_channel}
use Rattle.cal_script.specs.Parts.{channel_names, channel_of, declarable, declared_props, is_among}
use Rattle.cal_script.specs.Parts.{is_event_name, is_text_kind, new_name, place_of, service_names}
use Rattle.cal_script.specs.Parts.{value_said, with_default_values, with_name, with_service}
use Rattle.cal_script.specs.Reading.{global_names, global_of, keyed, names_said, with_values}
use Rattle.cal_script.specs.State.{State}
use Rattle.std.specs.Str.{IsUtf8}
use Rattle.cal_valid.proofs.Binds.{bind_ok, if_ok, ok_or_ok, unless_ok}
use Rattle.cal_valid.proofs.Values.{named_at}
use Rattle.cal_spelling.proofs.Chains.{found_itself, found_more, found_name}
use Rattle.cal_spelling.proofs.Known.{both, names_taken, said_names, taken_more}
use Rattle.cal_spelling.proofs.Legible.{AreSaid, HasKeys, HasValues, IsNamed, IsNewAttribute}
use Rattle.cal_spelling.proofs.Legible.{IsNewChannel, IsNewGlobal, IsQueried}
use Rattle.cal_spelling.proofs.Services.{IsServed, bare_query, services_served}
use Rattle.cal_spelling.proofs.Values.{spoken}
use Rattle.cal_spelling.proofs.Words.{IsWord, literal, name_word}

-- ---- names

-- a new name is itself, allowed and none of those before it
pub record IsNew (allowed : List ℕ → Bool) (names : List (List ℕ)) (name : List ℕ) : Type 0 where
  pub said : new_name (allowed name) names name ≡ Ok name
  pub fine : allowed name ≡ true

pub not_false : (b : Bool) → not b ≡ false → b ≡ true
not_false true is = refl
not_false false is = absurd cc

pub new_again : (allowed : List ℕ → Bool) (names : List (List ℕ)) (name next : List ℕ)
    → new_name (allowed name) names name ≡ Ok next → (name ≡ next) × IsNew allowed names next
new_again allowed names name next is =
    let fine = unless_ok (not (allowed name)) BadName
    (cond (is_among names name) (Err DuplicateName) (Ok name)) next is in
    let fresh = unless_ok (is_among names name) DuplicateName (Ok name) next fine.1 in
    let same : name ≡ next = (let e = fresh.1 in cc) in
    let new : IsNew allowed names name = record {
      said = is ∙ ap Ok (sym same);
      fine = not_false (allowed name) fine.0;
    } in
    (same, subst (λ (n : List ℕ). IsNew allowed names n) same new)

-- ---- attributes

kind_back : (k : kinds.Kind) → kind_named (kind_name k) ≡ Some k
kind_back kind.Usr = refl
kind_back kind.Int = refl
kind_back kind.Uint = refl
kind_back kind.Str = refl
kind_back kind.Addr = refl
kind_back kind.Double = refl
kind_back kind.Bool = refl
kind_back kind.TypeName = refl
kind_back kind.Ptr = refl

declared_kind : (found : Option kinds.Kind) (k : kinds.Kind) → declarable found ≡ Ok k
    → declarable (Some k) ≡ Ok k
declared_kind None k is = absurd cc
declared_kind (Some kind.Usr) k is = absurd cc
declared_kind (Some kind.Int) k is = let same : kind.Int ≡ k = cc in
    subst (λ (l : kinds.Kind). declarable (Some l) ≡ Ok l) same refl
declared_kind (Some kind.Uint) k is = let same : kind.Uint ≡ k = cc in
    subst (λ (l : kinds.Kind). declarable (Some l) ≡ Ok l) same refl
declared_kind (Some kind.Str) k is = let same : kind.Str ≡ k = cc in
    subst (λ (l : kinds.Kind). declarable (Some l) ≡ Ok l) same refl
declared_kind (Some kind.Addr) k is = let same : kind.Addr ≡ k = cc in
    subst (λ (l : kinds.Kind). declarable (Some l) ≡ Ok l) same refl
declared_kind (Some kind.Double) k is = let same : kind.Double ≡ k = cc in
    subst (λ (l : kinds.Kind). declarable (Some l) ≡ Ok l) same refl
declared_kind (Some kind.Bool) k is = let same : kind.Bool ≡ k = cc in
    subst (λ (l : kinds.Kind). declarable (Some l) ≡ Ok l) same refl
declared_kind (Some kind.TypeName) k is = absurd cc
declared_kind (Some kind.Ptr) k is = absurd cc

abbrev bits : ℕ → Props
bits n = record { 0 = n }

few_bits : (found : Option ℕ) (props : Props) → option_map (λ n. bits n) (at_most 65535 found)
    ≡ Some props → props.0 ≤ 65535
few_bits None props is = absurd cc
few_bits (Some n) props is = by_test (nat_le n 65535) refl is
  where
    by_test : (small : Bool) → nat_le n 65535 ≡ small
        → option_map (λ m. bits m) (cond small (Some n) None) ≡ Some props → props.0 ≤ 65535
    by_test true small is = let same : bits n ≡ props = cc in
        let le : n ≤ 65535 = grind (arith, nat_tests) in subst (λ (p : Props). p.0 ≤ 65535) same le
    by_test false small is = absurd cc

props_again : (props : Props) → props.0 ≤ 65535 → declared_props (decimal props.0) ≡ Ok props
props_again props small =
    ap (λ (found : Option ℕ). ok_or (option_map (λ n. record { 0 = n }) (at_most 65535 found))
    BadProps) (number_of-digits 10 props.0 (lit≤ tt) (lit≤ tt) (omega arith))
    ∙ ap (λ (found : Option ℕ). ok_or (option_map (λ n. record { 0 = n }) found) BadProps)
    (at_most-fits 65535 props.0 small)

-- an attribute that a line says is said by its own words
pub attribute_again : (done : List Attribute) (words : List ℕ × List ℕ × List ℕ)
    (attribute : Attribute) → attribute_of done words ≡ Ok attribute → IsNewAttribute done attribute
    × IsNamed attribute
attribute_again done words attribute is =
    let names : List (List ℕ) = attribute_names done in
    let judged : kinds.Kind → Props → Attribute → Result Attribute ScriptKind =
    λ kind props made. cond (is_as_value props && is_text_kind kind) (Err BadKind) (Ok made) in
    let from : Result (List ℕ) ScriptKind → Result kinds.Kind ScriptKind → Result Props ScriptKind
    → Result Attribute ScriptKind = λ n k p.
    n >>= (λ name. k >>= (λ kind. p >>= (λ props. judged kind props
    (record { name = name; kind = kind; props = props })))) in
    let name = bind_ok (new_name (is_attribute_name words.0) names words.0)
    (λ name. declarable (kind_named words.1) >>= (λ kind. declared_props words.2
    >>= (λ props. judged kind props (record { name = name; kind = kind; props = props }))))
    attribute is in
    let kind = bind_ok (declarable (kind_named words.1)) (λ kind. declared_props words.2
    >>= (λ props. judged kind props (record { name = name.0; kind = kind; props = props })))
    attribute name.2 in
    let props = bind_ok (declared_props words.2) (λ props. judged kind.0 props
    (record { name = name.0; kind = kind.0; props = props })) attribute kind.2 in
    let made : Attribute = record { name = name.0; kind = kind.0; props = props.0 } in
    let passed = unless_ok (is_as_value props.0 && is_text_kind kind.0) BadKind (Ok made) attribute
    props.2 in
    let same : made ≡ attribute = (let e = passed.1 in cc) in
    let new = (new_again is_attribute_name names words.0 name.0 name.1).1 in
    let small : props.0.0 ≤ 65535 = few_bits (number_of 10 words.2) props.0
    (ok_or_ok (option_map (λ n. record { 0 = n }) (at_most 65535 (number_of 10 words.2)))
    BadProps props.0 props.1) in
    let kinds_again : declarable (kind_named (kind_name kind.0)) ≡ Ok kind.0 =
    ap declarable (kind_back kind.0) ∙ declared_kind (kind_named words.1) kind.0 kind.1 in
    let props_same = props_again props.0 small in
    let said : attribute_of done (name.0, kind_name kind.0, decimal props.0.0) ≡ Ok made =
    (λ i. from (new.said i) (kinds_again i) (props_same i))
    ∙ ap (λ (b : Bool). cond b (Err BadKind) (Ok made)) passed.0 in
    let is_new : IsNewAttribute done made = record { said = said; small = small } in
    let word : IsWord name.0 = name_word name.0 (first_so (is_name name.0)
    (not (is_reserved name.0)) new.fine) in
    subst (λ (a : Attribute). IsNewAttribute done a × IsNamed a) same (is_new, word)

-- ---- channels

or_known : (a b c : Bool) → b ≡ true → (a || b || c) ≡ true
or_known true b c is = refl
or_known false true c is = refl
or_known false false c is = absurd cc

abbrev duration : List ℕ
duration = codes "time.duration.ns"

duration_known : (names : List (List ℕ)) → after_lines (with_name false names) [] (duration ∷ [])
    ≡ Ok (duration ∷ [])
duration_known names =
    ap (λ (known : Bool). cond known (Ok (duration ∷ [])) (Err UnknownName)
    >>= (λ (next : List (List ℕ)). after_lines (with_name false names) next []))
    (or_known (is_among names duration) (is_among service_names duration)
    (is_event_name names (pieces 35 duration)) refl)

-- the channel with its default values
defaults : (names : List (List ℕ)) (done : List Channel) (channel : Channel) (sums : Bool)
    → (channel.aggregate && channel.timer) ≡ sums → channel.query ≡ bare_query
    → IsNewChannel done channel
    → let next : Channel = cond sums (record channel
    { query = record channel.query { values = channel.query.values ++ duration ∷ [] } })
    channel in IsNewChannel done next × IsQueried names next
defaults names done channel true is bare new =
    let query : ChannelQuery = record channel.query {
      values = channel.query.values ++ duration ∷ [];
    } in
    let next : Channel = record channel { query = query } in
    let keys : [] ≡ channel.query.keys = sym (ap (λ (q : ChannelQuery). q.keys) bare) in
    let values : duration ∷ [] ≡ channel.query.values ++ duration ∷ [] =
    sym (ap (λ (q : ChannelQuery). q.values ++ duration ∷ []) bare) in
    let said : AreSaid names next false (duration ∷ []) = record {
      aggregates = (both channel.aggregate channel.timer is).0;
      taken = duration_known names;
      words = All-cons IsWord duration [] (literal duration refl refl) (All-nil IsWord);
    } in (
      record { new = new.new; word = new.word; probes = new.probes; kept = new.kept },
      record {
        keys = subst (λ (ks : List (List ℕ)). HasKeys names next ks) keys
            (ap (λ (q : ChannelQuery). q.by_default) bare);
        values = subst (λ (vs : List (List ℕ)). HasValues names next vs) values said;
      },
    )
defaults names done channel false is bare new =
    let keys : [] ≡ channel.query.keys = sym (ap (λ (q : ChannelQuery). q.keys) bare) in
    let values : [] ≡ channel.query.values = sym (ap (λ (q : ChannelQuery). q.values) bare) in (
      new,
      record {
        keys = subst (λ (ks : List (List ℕ)). HasKeys names channel ks) keys
            (ap (λ (q : ChannelQuery). q.by_default) bare);
        values = subst (λ (vs : List (List ℕ)). HasValues names channel vs) values is;
      },
    )

-- a channel that a line says
pub channel_again : (names : List (List ℕ)) (done : List Channel) (words : List ℕ × List ℕ)
    (channel : Channel) → channel_of done words ≡ Ok channel → IsNewChannel done channel
    × IsQueried names channel
channel_again names done words channel is =
    let finish : Channel → Result Channel ScriptKind = λ made. cond (made.trace || made.aggregate)
    (Ok (with_default_values made)) (Err BadService) in
    let name = bind_ok (new_name (is_name words.0) (channel_names done) words.0)
    (λ name. after_lines with_service (bare_channel name) (pieces 44 words.1) >>= finish)
    channel is in
    let made = bind_ok (after_lines with_service (bare_channel name.0) (pieces 44 words.1)) finish
    channel name.2 in
    let passed = if_ok (made.0.trace || made.0.aggregate) BadService
    (Ok (with_default_values made.0)) channel made.2 in
    let same : with_default_values made.0 ≡ channel = (let e = passed.1 in cc) in
    let new = (new_again is_name (channel_names done) words.0 name.0 name.1).1 in
    let bare : IsServed name.0 (bare_channel name.0) =
    record { same = refl; query = refl; probes = refl } in
    let served = services_served name.0 (pieces 44 words.1) (bare_channel name.0) made.0 bare
    made.1 in
    let named = subst (λ (n : List ℕ). (new_name (is_name n) (channel_names done) n ≡ Ok n)
    × IsWord n) (sym served.same) (new.said, name_word name.0 new.fine) in
    let is_new : IsNewChannel done made.0 = record {
      new = named.0;
      word = named.1;
      probes = served.probes;
      kept = passed.0;
    } in
    subst (λ (c : Channel). IsNewChannel done c × IsQueried names c) same
    (defaults names done made.0 (made.0.aggregate && made.0.timer) refl served.query is_new)

-- ---- keys and values

keys_kept : (names : List (List ℕ)) (channel : Channel) (values keys : List (List ℕ))
    → HasKeys names channel keys → HasKeys names (record channel
    { query = record channel.query { values = values } }) keys
keys_kept names channel values [] is = is
keys_kept names channel values (key ∷ keys) is = (
  is.0,
  record
      { aggregates = is.1.aggregates; taken = is.1.taken; words = is.1.words },
)

values_kept : (names : List (List ℕ)) (channel : Channel) (query : ChannelQuery)
    (values : List (List ℕ)) → HasValues names channel values
    → HasValues names (record channel { query = query }) values
values_kept names channel query [] is = is
values_kept names channel query (value ∷ values) is =
    record { aggregates = is.aggregates; taken = is.taken; words = is.words }

-- the names of a line, said again
said_again : (is_key : Bool) (names : List (List ℕ)) (channel : Channel)
    (words said taken : List (List ℕ)) → All IsWord names → names_said channel words ≡ Ok said
    → after_lines (with_name is_key names) [] said ≡ Ok taken
    → (first : List ℕ) × (rest : List (List ℕ)) × (taken ≡ first ∷ rest)
    × AreSaid names channel is_key (first ∷ rest)
said_again is_key names channel words said taken all is also =
    let known = said_names channel words said is in
    let are = names_taken is_key names [] said taken all also in
    let same : taken ≡ known.1 ∷ known.2 = are.same ∙ known.3 in
    let of_line : AreSaid names channel is_key said =
    record { aggregates = known.0; taken = also ∙ ap Ok are.same; words = are.words } in (
      known.1,
      known.2,
      same,
      subst (λ (s : List (List ℕ)). AreSaid names channel is_key s) known.3
          of_line,
    )

-- what a `key` line makes of a channel
pub keyed_again : (names : List (List ℕ)) (channel next : Channel) (words : List (List ℕ))
    → All IsWord names → keyed names channel words ≡ Ok next → IsQueried names channel
    → (query : ChannelQuery) × (next ≡ record channel { query = query }) × IsQueried names next
keyed_again names channel next words all is old =
    let make : List (List ℕ) → Channel = λ keys. record channel
    { query = record channel.query { by_default = false; keys = keys } } in
    let first = unless_ok (not channel.query.by_default) Misplaced
    (names_said channel words >>= (λ said. after_lines (with_name true names) [] said
    >>= (λ keys. Ok (make keys)))) next is in
    let said = bind_ok (names_said channel words) (λ said. after_lines (with_name true names) []
    said >>= (λ keys. Ok (make keys))) next first.1 in
    let keys = bind_ok (after_lines (with_name true names) [] said.0) (λ keys. Ok (make keys)) next
    said.2 in
    let same : make keys.0 ≡ next = (let e = keys.2 in cc) in
    let again = said_again true names channel words said.0 keys.0 all said.1 keys.1 in
    let made : Channel = make keys.0 in
    let are : AreSaid names made true (again.0 ∷ again.1) =
    record { aggregates = again.3.aggregates; taken = again.3.taken; words = again.3.words } in
    let queried : IsQueried names made = record {
      keys = subst (λ (ks : List (List ℕ)). HasKeys names made ks) (sym again.2) (refl, are);
      values = values_kept names channel made.query channel.query.values old.values;
    } in
    (made.query, sym same, subst (λ (c : Channel). IsQueried names c) same queried)

-- what a `value` line makes of a channel
pub valued_again : (names : List (List ℕ)) (channel next : Channel) (words : List (List ℕ))
    → All IsWord names → with_values names channel words ≡ Ok next → IsQueried names channel
    → (query : ChannelQuery) × (next ≡ record channel { query = query }) × IsQueried names next
valued_again names channel next words all is old =
    let make : List (List ℕ) → Channel = λ values. record channel
    { query = record channel.query { values = values } } in
    let said = bind_ok (names_said channel words) (λ said. after_lines (with_name false names) []
    said >>= (λ values. Ok (make values))) next is in
    let values = bind_ok (after_lines (with_name false names) [] said.0)
    (λ values. Ok (make values)) next said.2 in
    let same : make values.0 ≡ next = (let e = values.2 in cc) in
    let again = said_again false names channel words said.0 values.0 all said.1 values.1 in
    let made : Channel = make values.0 in
    let are : AreSaid names made false (again.0 ∷ again.1) =
    record { aggregates = again.3.aggregates; taken = again.3.taken; words = again.3.words } in
    let queried : IsQueried names made = record {
      keys = keys_kept names channel values.0 channel.query.keys old.keys;
      values = subst (λ (vs : List (List ℕ)). HasValues names made vs) (sym again.2) are;
    } in
    (made.query, sym same, subst (λ (c : Channel). IsQueried names c) same queried)

-- a channel that is asked otherwise is as new
pub new_kept : (done : List Channel) (channel : Channel) (query : ChannelQuery)
    → IsNewChannel done channel → IsNewChannel done (record channel { query = query })
new_kept done channel query is = record {
  new = is.new;
  word = is.word;
  probes = is.probes;
  kept = is.kept;
}

-- ---- globals

-- the attribute that is named has a name that is a word
pub named_word : (attributes : List Attribute) (name : List ℕ) (named : ℕ × Attribute)
    → All IsNamed attributes → attribute_named attributes name ≡ Ok named → IsWord named.1.name
named_word attributes name named all is =
    let at = named_at attributes (place_of (attribute_names attributes) name) named is in
    let inside = slice_get_within attributes named.0 named.1 at in
    subst IsNamed (get_or_from_slice_get attributes named.0 named.1 named.1 at)
    (all named.0 named.1 inside)

global_is : (allowed : Bool) (attribute other : Attribute) → cond allowed (Some attribute) None
    ≡ Some other → (allowed ≡ true) × (attribute ≡ other)
global_is true attribute other is = (refl, cc)
global_is false attribute other is = absurd cc

-- a global that a line says
pub global_again : (state : State) (words : List ℕ × List ℕ) (entry : Entry)
    → All IsNamed state.attributes → IsUtf8 words.1 → global_of state words ≡ Ok entry
    → IsNewGlobal state.attributes state.globals entry
global_again state words entry all utf8 is =
    let attributes : List Attribute = state.attributes in
    let make : Attribute → Variant → Entry = λ attribute value. record
    { attr = attribute; value = value } in
    let behind : Attribute → Result Entry ScriptKind = λ attribute. value_said attribute.kind
    words.1 >>= (λ value. Ok (make attribute value)) in
    let allowed : ℕ × Attribute → Result Attribute ScriptKind =
    λ named. ok_or (cond (is_global named.1.props) (Some named.1) None) NotGlobal in
    let fresh = unless_ok (is_among (global_names state.globals) words.0) DuplicateName
    (attribute_named attributes words.0 >>= (λ named. allowed named >>= behind)) entry is in
    let named = bind_ok (attribute_named attributes words.0) (λ named. allowed named >>= behind)
    entry fresh.1 in
    let attribute = bind_ok (allowed named.0) behind entry named.2 in
    let value = bind_ok (value_said attribute.0.kind words.1) (λ value. Ok (make attribute.0 value))
    entry attribute.2 in
    let chosen = global_is (is_global named.0.1.props) named.0.1 attribute.0
    (ok_or_ok (cond (is_global named.0.1.props) (Some named.0.1) None) NotGlobal attribute.0
    attribute.1) in
    let same : make attribute.0 value.0 ≡ entry = (let e = value.2 in cc) in
    let made : Entry = make named.0.1 value.0 in
    let both : made ≡ entry = ap (λ (a : Attribute). make a value.0) chosen.1 ∙ same in
    let name = found_name (λ (a : Attribute). a.name) attributes words.0 named.0 named.1 in
    let said : value_said named.0.1.kind words.1 ≡ Ok value.0 =
    ap (λ (a : Attribute). value_said a.kind words.1) chosen.1 ∙ value.1 in
    let is_new : IsNewGlobal attributes state.globals made = record {
      fresh = ap (is_among (global_names state.globals)) name ∙ fresh.0;
      place = named.0.0;
      named = found_itself (λ (a : Attribute). a.name) attributes words.0 named.0 named.1;
      allowed = chosen.0;
      spoken = spoken named.0.1.kind words.1 value.0 utf8 said;
      word = named_word attributes words.0 named.0 all named.1;
    } in
    subst (λ (e : Entry). IsNewGlobal attributes state.globals e) both is_new

-- ---- more attributes

module _ (names more : List (List ℕ)) (channel : Channel) where
  said_more : (is_key : Bool) (said : List (List ℕ)) → AreSaid names channel is_key said
      → AreSaid (names ++ more) channel is_key said
  said_more is_key said is = record {
    aggregates = is.aggregates;
    taken = taken_more is_key names more [] said said is.taken;
    words = is.words;
  }

  keys_more : (keys : List (List ℕ)) → HasKeys names channel keys
      → HasKeys (names ++ more) channel keys
  keys_more [] is = is
  keys_more (key ∷ keys) is = (is.0, said_more true (key ∷ keys) is.1)

  values_more : (values : List (List ℕ)) → HasValues names channel values
      → HasValues (names ++ more) channel values
  values_more [] is = is
  values_more (value ∷ values) is = said_more false (value ∷ values) is

  pub queried_more : IsQueried names channel → IsQueried (names ++ more) channel
  queried_more is = record {
    keys = keys_more channel.query.keys is.keys;
    values = values_more channel.query.values is.values;
  }

pub global_more : (attributes more : List Attribute) (done : List Entry) (entry : Entry)
    → IsNewGlobal attributes done entry → IsNewGlobal (attributes ++ more) done entry
global_more attributes more done entry is = record {
  fresh = is.fresh;
  place = is.place;
  named = found_more (λ (a : Attribute). a.name) attributes more entry.attr.name
      (is.place, entry.attr) is.named;
  allowed = is.allowed;
  spoken = is.spoken;
  word = is.word;
}
