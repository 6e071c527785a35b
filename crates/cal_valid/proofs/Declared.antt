-- What the header declares, kept by each line.
use Rattle.std.proofs.Common.{◌≡◌, ◌≢◌, ℕ, ◌<◌, Bool, true, false, cond, List, [], ◌∷◌, ◌++◌, length}
use Rattle.std.proofs.Common.{All, get_or, refl, sym, ap, subst, ◌∙◌, arith}
use Rattle.std.specs.Prelude.{◌&&◌, Some, None, Result, Ok, Err, codes, is_some, not}
use Rattle.std.specs.Option.{ok_or, option_to_list}
use Rattle.std.specs.Str.{bytes_eq}
use Rattle.std.specs.Cmp.Lexicographic.{bytes_decides}
use Rattle.std.proofs.lemmas.List.Elements.{All-nil, All-push, All-weaker}
use Rattle.std.proofs.lemmas.List.Folds.{list_any_at}
use Rattle.std.proofs.lemmas.List.Quantifiers.{all_pairs_push}
use Rattle.cal_line.specs.FirstFault.{◌>>=◌}
use Rattle.cal_value.specs.Kinds.{kind_named}
use Rattle.cal_value.specs.Props.{has_process_scope, is_as_value, is_global}
use Rattle.cal_value.specs.declared.attribute.Attribute.{Attribute}
use Rattle.cal_value.specs.declared.attribute.Entry.{Entry}
use Rattle.cal_script.specs.declared.kind.ScriptKind.{ScriptKind}
use Rattle.cal_script.specs.declared.kind.ScriptKind.TheVariants.{BadKind, BadName, DuplicateName}
use Rattle.cal_script.specs.declared.kind.ScriptKind.TheVariants.{Misplaced, NotAggregate, NotGlobal}
use Rattle.cal_script.specs.declared.kind.ScriptKind.TheVariants.{WrongArity}
use Rattle.cal_script.specs.declared.script.Line as lines
use Rattle.cal_script.specs.declared.script.Line.TheVariants as line
use Rattle.cal_script.specs.Lines.{no_word, one_word, three_words, two_words, word_and_rest}
use Rattle.cal_script.specs.Names.{is_attribute_name}
use Rattle.cal_script.specs.Parts.{attribute_named, attribute_names, attribute_of, channel_named}
use Rattle.cal_script.specs.Parts.{channel_of, declarable, declared_props, is_among, is_text_kind}
use Rattle.cal_script.specs.Parts.{new_name, number_said, place_of, value_said}
use Rattle.cal_script.specs.Reading.{attribute_after, channel_after, earlier_channels, end_after}
use Rattle.cal_script.specs.Reading.{flush_after, global_after, global_names, global_of, key_after}
use Rattle.cal_script.specs.Reading.{keyed, last_channel, opening_after, opening_said}
use Rattle.cal_script.specs.Reading.{snapshot_after, thread_after, tick_after, value_after}
use Rattle.cal_script.specs.Reading.{with_values, words_after}
use Rattle.cal_script.specs.State.{State, next_thread, with_line, with_opening}
use Rattle.cal_script.specs.Ticks.{ticks_of}
use Rattle.cal_script.specs.Valid.{AreDeclared, IsGlobalOf}
use Rattle.cal_script.proofs.Registers.{list_any-map}
use Rattle.cal_valid.proofs.Binds.{bind_ok, choice_ok, if_ok, ok_or_ok, unless_ok}
use Rattle.cal_valid.proofs.Counting.{slice_get-more}
use Rattle.cal_valid.proofs.Values.{named_at, said_of}

-- the attributes are declared, and the globals are theirs
pub record IsHeaded (attributes : List Attribute) (globals : List Entry) : Type 0 where
  pub declared : AreDeclared attributes
  pub owned : All (IsGlobalOf attributes) globals

pub nothing_headed : IsHeaded [] []
nothing_headed = record {
  declared = record {
    names = All-nil (λ (a : Attribute). is_attribute_name a.name ≡ true);
    apart = λ i j d less within. absurd (omega (arith, within));
  };
  owned = All-nil (IsGlobalOf []);
}

abbrev IsHeader : State → Type 0
IsHeader state = IsHeaded state.attributes state.globals

-- ---- an attribute more

not_false : (b : Bool) → not b ≡ false → b ≡ true
not_false true is = refl
not_false false is = absurd cc

-- a name that a line declares is allowed, and new to those of its kind
pub new_ok : (allowed : Bool) (names : List (List ℕ)) (name next : List ℕ)
    → new_name allowed names name ≡ Ok next
    → (name ≡ next) × (allowed ≡ true) × (is_among names next ≡ false)
new_ok allowed names name next is =
    let fine = unless_ok (not allowed) BadName
    (cond (is_among names name) (Err DuplicateName) (Ok name)) next is in
    let fresh = unless_ok (is_among names name) DuplicateName (Ok name) next fine.1 in
    let same : name ≡ next = (let e = fresh.1 in cc) in
    (same, not_false allowed fine.0, sym (ap (is_among names) same) ∙ fresh.0)

-- an attribute that a line declares
record IsNewTo (done : List Attribute) (attribute : Attribute) : Type 0 where
  allowed : is_attribute_name attribute.name ≡ true
  fresh : is_among (attribute_names done) attribute.name ≡ false

attribute_new : (done : List Attribute) (words : List ℕ × List ℕ × List ℕ) (attribute : Attribute)
    → attribute_of done words ≡ Ok attribute → IsNewTo done attribute
attribute_new done words attribute is =
    let names : List (List ℕ) = attribute_names done in
    let judged : Attribute → Result Attribute ScriptKind =
    λ made. cond (is_as_value made.props && is_text_kind made.kind) (Err BadKind) (Ok made) in
    let name = bind_ok (new_name (is_attribute_name words.0) names words.0)
    (λ name. declarable (kind_named words.1) >>= (λ kind. declared_props words.2
    >>= (λ props. judged (record { name = name; kind = kind; props = props })))) attribute is in
    let kind = bind_ok (declarable (kind_named words.1)) (λ kind. declared_props words.2
    >>= (λ props. judged (record { name = name.0; kind = kind; props = props }))) attribute
    name.2 in
    let props = bind_ok (declared_props words.2)
    (λ props. judged (record { name = name.0; kind = kind.0; props = props })) attribute kind.2 in
    let made : Attribute = record { name = name.0; kind = kind.0; props = props.0 } in
    let passed = unless_ok (is_as_value props.0 && is_text_kind kind.0) BadKind (Ok made) attribute
    props.2 in
    let same : made ≡ attribute = (let e = passed.1 in cc) in
    let new = new_ok (is_attribute_name words.0) names words.0 name.0 name.1 in
    let P : Attribute → Type 0 = λ a. IsNewTo done a in
    subst P same (record { allowed = sym (ap is_attribute_name new.0) ∙ new.1; fresh = new.2 })

-- no attribute before it has its name
name_apart : (done : List Attribute) (attribute d : Attribute) (k : ℕ)
    → is_among (attribute_names done) attribute.name ≡ false → k < length done
    → (get_or done k d).name ≢ attribute.name
name_apart done attribute d k fresh below same =
    let found : bytes_eq attribute.name (get_or done k d).name ≡ true =
    (bytes_decides attribute.name (get_or done k d).name).1 (sym same) in
    let among : is_among (attribute_names done) attribute.name ≡ true =
    list_any-map (bytes_eq attribute.name) (λ (a : Attribute). a.name) done
    ∙ list_any_at (λ (a : Attribute). bytes_eq attribute.name a.name) done k d below found in
    cc

global_more : (attributes more : List Attribute) (global : Entry) → IsGlobalOf attributes global
    → IsGlobalOf (attributes ++ more) global
global_more attributes more global is = record {
  place = is.place;
  declared = slice_get-more attributes more is.place global.attr is.declared;
  said = is.said;
}

more_headed : (attributes : List Attribute) (globals : List Entry) (attribute : Attribute)
    → IsNewTo attributes attribute → IsHeaded attributes globals
    → IsHeaded (attributes ++ attribute ∷ []) globals
more_headed attributes globals attribute new headed = record {
  declared = record {
    names = All-push (λ (a : Attribute). is_attribute_name a.name ≡ true) attributes attribute
        headed.declared.names new.allowed;
    apart = all_pairs_push (λ (a b : Attribute). a.name ≢ b.name) attributes attribute
        headed.declared.apart (λ k d below. name_apart attributes attribute d k new.fresh below);
  };
  owned = All-weaker (IsGlobalOf attributes) (IsGlobalOf (attributes ++ attribute ∷ []))
      (global_more attributes (attribute ∷ [])) globals headed.owned;
}

-- ---- a global more

global_new : (state : State) (words : List ℕ × List ℕ) (global : Entry)
    → global_of state words ≡ Ok global → IsGlobalOf state.attributes global
global_new state words global is =
    let fresh = unless_ok (is_among (global_names state.globals) words.0) DuplicateName _ global is in
    let named = bind_ok (attribute_named state.attributes words.0) _ global fresh.1 in
    let attribute = bind_ok (ok_or (cond (is_global named.0.1.props) (Some named.0.1) None) NotGlobal)
    (λ attribute. value_said attribute.kind words.1
    >>= (λ value. Ok (record { attr = attribute; value = value }))) global named.2 in
    let value = bind_ok (value_said attribute.0.kind words.1)
    (λ value. Ok (record { attr = attribute.0; value = value })) global attribute.2 in
    let found = named_at state.attributes (place_of (attribute_names state.attributes) words.0)
    named.0 named.1 in
    let allowed : named.0.1 ≡ attribute.0 =
    chosen (is_global named.0.1.props) named.0.1 attribute.0
    (ok_or_ok (cond (is_global named.0.1.props) (Some named.0.1) None) NotGlobal attribute.0
    attribute.1) in
    let made : Entry = record { attr = attribute.0; value = value.0 } in
    let same : made ≡ global = (let e = value.2 in cc) in
    let P : Entry → Type 0 = λ e. IsGlobalOf state.attributes e in
    subst P same (record {
      place = named.0.0;
      declared = found ∙ ap Some allowed;
      said = said_of attribute.0 words.1 value.0 value.1;
    })
  where
    chosen : (b : Bool) (one other : Attribute) → cond b (Some one) None ≡ Some other → one ≡ other
    chosen true one other is = cc
    chosen false one other is = absurd cc

-- ---- each line

abbrev answer : State → Result State ScriptKind
answer state = Ok state

-- what a line makes
made_so : (P : State → Type 0) (made next : State) → answer made ≡ answer next → P made → P next
made_so P made next is so = let same : made ≡ next = cc in subst P same so

-- a step that goes on only where what it needs is found
found_so : {A : Type 0} (P : State → Type 0) (next : State) (found : Result A ScriptKind)
    (go : A → Result State ScriptKind) → ((a : A) → found ≡ Ok a → go a ≡ Ok next → P next)
    → (found >>= go) ≡ Ok next → P next
found_so P next found go each is =
    let made = bind_ok found go next is in each made.0 made.1 made.2

in_header_so : (P : State → Type 0) (state next : State) (said : Result State ScriptKind)
    → (said ≡ Ok next → P next) → cond (is_some state.thread) (Err Misplaced) said ≡ Ok next → P next
in_header_so P state next said each is =
    each (unless_ok (is_some state.thread) Misplaced said next is).1

in_thread_so : (P : State → Type 0) (state next : State) (said : Result State ScriptKind)
    → (said ≡ Ok next → P next) → cond (is_some state.thread) said (Err Misplaced) ≡ Ok next → P next
in_thread_so P state next said each is =
    each (if_ok (is_some state.thread) Misplaced said next is).1

module _ (state next : State) (headed : IsHeader state) where
  -- a line that leaves the header's attributes and globals
  left : (made : State) → answer made ≡ answer next → IsHeader made → IsHeader next
  left made is so = made_so IsHeader made next is so

  attribute_headed : (words : List (List ℕ)) → attribute_after state words ≡ Ok next → IsHeader next
  attribute_headed words is =
      in_header_so IsHeader state next _ (λ is.
      found_so IsHeader next (ok_or (three_words words) WrongArity) _ (λ three so is.
      found_so IsHeader next (attribute_of state.attributes three) _ (λ attribute so is.
      left (record state { attributes = state.attributes ++ attribute ∷ [] }) is
      (more_headed state.attributes state.globals attribute
      (attribute_new state.attributes three attribute so) headed)) is) is) is

  global_headed : (words : List (List ℕ)) → global_after state words ≡ Ok next → IsHeader next
  global_headed words is =
      in_header_so IsHeader state next _ (λ is.
      found_so IsHeader next (ok_or (word_and_rest words) WrongArity) _ (λ two so is.
      found_so IsHeader next (global_of state two) _ (λ global so is.
      left (record state { globals = state.globals ++ global ∷ [] }) is
      (record {
        declared = headed.declared;
        owned = All-push (IsGlobalOf state.attributes) state.globals global headed.owned
            (global_new state two global so);
      })) is) is) is

  channel_headed : (words : List (List ℕ)) → channel_after state words ≡ Ok next → IsHeader next
  channel_headed words is =
      in_header_so IsHeader state next _ (λ is.
      found_so IsHeader next (ok_or (two_words words) WrongArity) _ (λ two so is.
      found_so IsHeader next (channel_of state.channels two) _ (λ channel so is.
      left (record state { channels = state.channels ++ channel ∷ []; valued = false }) is headed)
      is) is) is

  key_headed : (words : List (List ℕ)) → key_after state words ≡ Ok next → IsHeader next
  key_headed words is =
      in_header_so IsHeader state next _ (λ is.
      found_so IsHeader next (ok_or (last_channel state.channels) Misplaced) _ (λ channel so is.
      found_so IsHeader next (keyed (attribute_names state.attributes) channel words) _ (λ channel so is.
      left (record state { channels = earlier_channels state.channels ++ channel ∷ [] }) is headed)
      is) is) is

  value_headed : (words : List (List ℕ)) → value_after state words ≡ Ok next → IsHeader next
  value_headed words is =
      in_header_so IsHeader state next _ (λ is.
      found_so IsHeader next (ok_or (last_channel state.channels) Misplaced) _ (λ channel so is.
      found_so IsHeader next (cond state.valued (Err Misplaced)
      (with_values (attribute_names state.attributes) channel words)) _ (λ channel so is.
      left (record state {
        channels = earlier_channels state.channels ++ channel ∷ [];
        valued = true;
      }) is headed) is) is) is

  thread_headed : (words : List (List ℕ)) → thread_after state words ≡ Ok next → IsHeader next
  thread_headed words is =
      left (record state {
        earlier = state.earlier ++ option_to_list state.thread;
        thread = Some [];
        tally = next_thread state.tally;
      }) (if_ok (no_word words) WrongArity _ next is).1 headed

  opening_headed : (line_of : ℕ → ℕ → lines.Line) (words : List (List ℕ))
      → opening_after line_of state words ≡ Ok next → IsHeader next
  opening_headed line_of words is =
      in_thread_so IsHeader state next _ (λ is.
      found_so IsHeader next (opening_said state words) _ (λ opening so is.
      left (with_opening line_of opening state) is headed) is) is

  end_headed : (words : List (List ℕ)) → end_after state words ≡ Ok next → IsHeader next
  end_headed words is =
      in_thread_so IsHeader state next _ (λ is.
      found_so IsHeader next (ok_or (one_word words) WrongArity) _ (λ name so is.
      found_so IsHeader next (attribute_named state.attributes name) _ (λ named so is.
      left (with_line (line.End named.0) (has_process_scope named.1.props) 0 state) is headed) is) is)
      is

  snapshot_headed : (words : List (List ℕ)) → snapshot_after state words ≡ Ok next → IsHeader next
  snapshot_headed words is =
      in_thread_so IsHeader state next _ (λ is.
      left (with_line line.Snapshot false 0 state) (if_ok (no_word words) WrongArity _ next is).1
      headed) is

  flush_headed : (words : List (List ℕ)) → flush_after state words ≡ Ok next → IsHeader next
  flush_headed words is =
      in_thread_so IsHeader state next _ (λ is.
      found_so IsHeader next (ok_or (one_word words) WrongArity) _ (λ name so is.
      found_so IsHeader next (channel_named state.channels name) _ (λ named so is.
      left (with_line (line.Flush named.0) false 0 state)
      (if_ok named.1.aggregate NotAggregate _ next is).1 headed) is) is) is

  tick_headed : (words : List (List ℕ)) → tick_after state words ≡ Ok next → IsHeader next
  tick_headed words is =
      in_thread_so IsHeader state next _ (λ is.
      found_so IsHeader next (ok_or (one_word words) WrongArity) _ (λ word so is.
      found_so IsHeader next (number_said word) _ (λ n so is.
      left (with_line (line.Tick (ticks_of n)) false 0 state) is headed) is) is) is

pub words_headed : (state next : State) (words : List (List ℕ)) → words_after state words ≡ Ok next
    → IsHeaded state.attributes state.globals → IsHeaded next.attributes next.globals
words_headed state next [] is headed = absurd cc
words_headed state next (word ∷ words) is headed =
    choice_ok (bytes_eq word (codes "attribute")) _ _ next is
    (λ e. attribute_headed state next headed words e) (λ is.
    choice_ok (bytes_eq word (codes "global")) _ _ next is
    (λ e. global_headed state next headed words e) (λ is.
    choice_ok (bytes_eq word (codes "channel")) _ _ next is
    (λ e. channel_headed state next headed words e) (λ is.
    choice_ok (bytes_eq word (codes "key")) _ _ next is
    (λ e. key_headed state next headed words e) (λ is.
    choice_ok (bytes_eq word (codes "value")) _ _ next is
    (λ e. value_headed state next headed words e) (λ is.
    choice_ok (bytes_eq word (codes "thread")) _ _ next is
    (λ e. thread_headed state next headed words e) (λ is.
    choice_ok (bytes_eq word (codes "begin")) _ _ next is
    (λ e. opening_headed state next headed line.Begin words e) (λ is.
    choice_ok (bytes_eq word (codes "set")) _ _ next is
    (λ e. opening_headed state next headed line.Set words e) (λ is.
    choice_ok (bytes_eq word (codes "end")) _ _ next is
    (λ e. end_headed state next headed words e) (λ is.
    choice_ok (bytes_eq word (codes "snapshot")) _ _ next is
    (λ e. snapshot_headed state next headed words e) (λ is.
    choice_ok (bytes_eq word (codes "flush")) _ _ next is
    (λ e. flush_headed state next headed words e) (λ is.
    choice_ok (bytes_eq word (codes "tick")) _ _ next is
    (λ e. tick_headed state next headed words e) (λ is. absurd cc))))))))))))
