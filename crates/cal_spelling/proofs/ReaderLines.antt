-- Each line keeps that what stands can be written again.
use Rattle.std.proofs.Common.{◌≡◌, ℕ, ◌+◌, Bool, true, false, cond, List, [], ◌∷◌, ◌++◌}
use Rattle.std.proofs.Common.{length, refl, sym, ap, subst, ◌∙◌, arith, lit<}
use Rattle.std.specs.Prelude.{Option, Some, None, Result, Ok, Err, codes, is_some, not, slice_get}
use Rattle.std.specs.Prelude.{unwrap_or}
use Rattle.std.specs.List.{All}
use Rattle.std.specs.Option.{ok_or, option_to_list}
use Rattle.std.specs.Str.{IsUtf8, bytes_eq, is_utf8}
use Rattle.std.proofs.lemmas.List.{length_push, map-append}
use Rattle.std.proofs.lemmas.List.Elements.{All-head, All-map, All-nil, All-push, All-cons}
use Rattle.std.proofs.lemmas.List.Elements.{All-tail, All-weaker}
use Rattle.std.proofs.lemmas.Option.{get_or_from_slice_get, slice_get_within}
use Rattle.std.proofs.lemmas.Str.{IsUtf8-from_is_utf8}
use Rattle.cal_line.specs.FirstFault.{◌>>=◌, after_lines}
use Rattle.cal_value.specs.Numerals.{number_of}
use Rattle.cal_value.specs.Props.{has_process_scope}
use Rattle.cal_value.specs.Reading.{uint_of}
use Rattle.cal_value.specs.declared.attribute.Attribute.{Attribute}
use Rattle.cal_value.specs.declared.attribute.Entry.{Entry}
use Rattle.cal_value.specs.declared.variant.Variant.{Variant}
use Rattle.cal_script.specs.Lines.{is_skipped, is_word, joined, lines_of, no_word, one_word}
use Rattle.cal_script.specs.Lines.{three_words, two_words, word_and_rest, words_of}
use Rattle.cal_script.specs.Limits.{fits}
use Rattle.cal_script.specs.Parts.{attribute_named, attribute_names, attribute_of, channel_named}
use Rattle.cal_script.specs.Parts.{channel_names, channel_of, number_said, place_of, value_said}
use Rattle.cal_script.specs.Reading.{IsValidScript, attribute_after, channel_after}
use Rattle.cal_script.specs.Reading.{earlier_channels, end_after, flush_after, global_after}
use Rattle.cal_script.specs.Reading.{global_of, key_after, keyed, last_channel, limited, line_after}
use Rattle.cal_script.specs.Reading.{opening_after, opening_said, snapshot_after, text_after}
use Rattle.cal_script.specs.Reading.{thread_after, tick_after, value_after, with_values}
use Rattle.cal_script.specs.Reading.{words_after}
use Rattle.cal_script.specs.State.{State, next_thread, no_lines, opening, script_of, with_line}
use Rattle.cal_script.specs.State.{with_opening}
use Rattle.cal_script.specs.declared.kind.ScriptKind.{ScriptKind}
use Rattle.cal_script.specs.declared.kind.ScriptKind.TheVariants.{BadValue, Misplaced, NotAggregate}
use Rattle.cal_script.specs.declared.kind.ScriptKind.TheVariants.{NotText, TooMany, WrongArity}
use Rattle.cal_script.specs.declared.script.Channel.{Channel}
use Rattle.cal_script.specs.declared.script.ChannelQuery.{ChannelQuery}
use Rattle.cal_script.specs.declared.script.Script.{Script}
use Rattle.cal_script.specs.declared.script.Line as lines
use Rattle.cal_script.specs.declared.script.Line.TheVariants as line
use Rattle.cal_script.proofs.Cuts.{joined_words}
use Rattle.cal_script.specs.Ticks.{AreHalves, ticks_of}
use Rattle.cal_script.proofs.Halves.{halves_of}
use Rattle.cal_valid.proofs.Binds.{bind_ok, choice_ok, if_ok, ok_or_ok, unless_ok}
use Rattle.cal_valid.proofs.Values.{named_at}
use Rattle.cal_spelling.proofs.Utf8.{utf8_behind}
use Rattle.cal_valid.proofs.Values.{bounded}
use Rattle.cal_spelling.proofs.Values.{spoken}
use Rattle.cal_spelling.proofs.Words.{IsWord}
use Rattle.cal_spelling.proofs.Chains.{Chain, chain-front, chain-last, chain-push, chain-weaker}
use Rattle.cal_spelling.proofs.Chains.{found_itself, last_item}
use Rattle.cal_spelling.proofs.Legible.{AreLines, IsEnded, IsFlush, IsHeader, IsLegible, IsNamed}
use Rattle.cal_spelling.proofs.Legible.{IsNewAttribute, IsNewChannel, IsNewGlobal, IsNext, IsOpened}
use Rattle.cal_spelling.proofs.Legible.{IsQueried, IsWritable, behind_line, behind_lines}
use Rattle.cal_spelling.proofs.Legible.{behind_threads, behind-push, lines_more, next-push}
use Rattle.cal_spelling.proofs.Legible.{threads_counted, threads_legible, threads_more}
use Rattle.cal_spelling.proofs.HeaderLines.{attribute_again, channel_again, global_again}
use Rattle.cal_spelling.proofs.HeaderLines.{global_more, keyed_again, named_word, new_kept}
use Rattle.cal_spelling.proofs.HeaderLines.{not_false, queried_more, valued_again}

header_ok : (thread : Option (List lines.Line)) (said : Result State ScriptKind) (next : State)
    → cond (is_some thread) (Err Misplaced) said ≡ Ok next → (thread ≡ None) × (said ≡ Ok next)
header_ok None said next is = (refl, is)
header_ok (Some thread) said next is = absurd cc

thread_ok : (thread : Option (List lines.Line)) (said : Result State ScriptKind) (next : State)
    → cond (is_some thread) said (Err Misplaced) ≡ Ok next → (lines : List lines.Line)
    × (thread ≡ Some lines) × (said ≡ Ok next)
thread_ok None said next is = absurd cc
thread_ok (Some lines) said next is = (lines, refl, is)

abbrev answer : State → Result State ScriptKind
answer state = Ok state

made_legible : (made next : State) → answer made ≡ answer next → IsLegible made → IsLegible next
made_legible made next is legible = let same : made ≡ next = cc in
    subst (λ (s : State). IsLegible s) same legible

-- ---- the header

idle_lines : (attributes : List Attribute) (channels : List Channel) (values : List Variant)
    (earlier : List (List lines.Line)) (thread : Option (List lines.Line))
    → values ≡ [] → earlier ≡ [] → thread ≡ None → AreLines attributes channels values earlier
    thread
idle_lines attributes channels values earlier thread no_values no_threads none =
    rw (no_values, no_threads, none) (record { threads = tt; last = tt; counted = refl })

header_legible : (next : State) → IsHeader next.attributes next.channels next.globals → next.thread
    ≡ None → next.earlier ≡ [] → next.values ≡ [] → IsLegible next
header_legible next header none no_threads no_values = record {
  header = header;
  lines = idle_lines next.attributes next.channels next.values next.earlier next.thread no_values
      no_threads none;
  idle = λ none. (no_threads, no_values);
}

all_front : {A : Type 0} (P : A → Type 0) (xs ys : List A) → All P (xs ++ ys) → All P xs
all_front P [] ys all = All-nil P
all_front P (x ∷ xs) ys all = All-cons P x xs (All-head P x (xs ++ ys) all)
    (all_front P xs ys (All-tail P x (xs ++ ys) all))

all_last : {A : Type 0} (P : A → Type 0) (xs : List A) (x : A) → All P (xs ++ x ∷ []) → P x
all_last P [] x all = All-head P x [] all
all_last P (y ∷ xs) x all = all_last P xs x (All-tail P y (xs ++ x ∷ []) all)

module _ (attributes : List Attribute) (channels : List Channel) (globals : List Entry)
    (header : IsHeader attributes channels globals) where
  attribute_header : (a : Attribute) → IsNewAttribute attributes a → IsNamed a
      → IsHeader (attributes ++ a ∷ []) channels globals
  attribute_header a new named =
      let names : List (List ℕ) = attribute_names attributes in
      let more : names ++ a.name ∷ [] ≡ attribute_names (attributes ++ a ∷ []) =
      sym (map-append (λ (b : Attribute). b.name) attributes (a ∷ [])) in
      record {
        each_attribute = chain-push IsNewAttribute [] attributes a header.each_attribute new;
        names = All-push IsNamed attributes a header.names named;
        each_channel = header.each_channel;
        queries = subst (λ (ns : List (List ℕ)). All (IsQueried ns) channels) more
            (All-weaker (IsQueried names) (IsQueried (names ++ a.name ∷ []))
            (λ c is. queried_more names (a.name ∷ []) c is) channels header.queries);
        each_global = chain-weaker (IsNewGlobal attributes) (IsNewGlobal (attributes ++ a ∷ []))
            (λ done e is. global_more attributes (a ∷ []) done e is) [] globals header.each_global;
      }

  channel_header : (c : Channel) → IsNewChannel channels c → IsQueried (attribute_names attributes)
      c → IsHeader attributes (channels ++ c ∷ []) globals
  channel_header c new queried = record {
    each_attribute = header.each_attribute;
    names = header.names;
    each_channel = chain-push IsNewChannel [] channels c header.each_channel new;
    queries = All-push (IsQueried (attribute_names attributes)) channels c header.queries queried;
    each_global = header.each_global;
  }

  global_header : (e : Entry) → IsNewGlobal attributes globals e
      → IsHeader attributes channels (globals ++ e ∷ [])
  global_header e new = record {
    each_attribute = header.each_attribute;
    names = header.names;
    each_channel = header.each_channel;
    queries = header.queries;
    each_global = chain-push (IsNewGlobal attributes) [] globals e header.each_global new;
  }

  words_of_names : All IsWord (attribute_names attributes)
  words_of_names = All-map IsWord (λ (a : Attribute). a.name) attributes header.names

-- the channel declared last is asked otherwise
asked_header : (attributes : List Attribute) (earlier : List Channel) (channel next : Channel)
    (query : ChannelQuery) (globals : List Entry) → next ≡ record channel { query = query }
    → IsQueried (attribute_names attributes) next → IsHeader attributes (earlier ++ channel ∷ [])
    globals → IsHeader attributes (earlier ++ next ∷ []) globals
asked_header attributes earlier channel next query globals same queried header =
    let last = chain-last IsNewChannel [] earlier channel header.each_channel in
    let new : IsNewChannel earlier next = subst (λ (c : Channel). IsNewChannel earlier c) (sym same)
    (new_kept earlier channel query last) in
    record {
      each_attribute = header.each_attribute;
      names = header.names;
      each_channel = chain-push IsNewChannel [] earlier next
          (chain-front IsNewChannel [] earlier channel header.each_channel) new;
      queries = All-push (IsQueried (attribute_names attributes)) earlier next
          (all_front (IsQueried (attribute_names attributes)) earlier (channel ∷ []) header.queries)
          queried;
      each_global = header.each_global;
    }

attribute_legible : (state next : State) (words : List (List ℕ)) → attribute_after state words
    ≡ Ok next → IsLegible state → IsLegible next
attribute_legible state next words is legible =
    let make : Attribute → State = λ a. record state { attributes = state.attributes ++ a ∷ [] } in
    let header = header_ok state.thread _ next is in
    let three = bind_ok (ok_or (three_words words) WrongArity)
    (λ three. attribute_of state.attributes three >>= (λ a. Ok (make a))) next header.1 in
    let a = bind_ok (attribute_of state.attributes three.0) (λ a. Ok (make a)) next three.2 in
    let again = attribute_again state.attributes three.0 a.0 a.1 in
    let idle = legible.idle header.0 in
    made_legible (make a.0) next a.2
    (header_legible (make a.0) (attribute_header state.attributes state.channels state.globals
    legible.header a.0 again.0 again.1) header.0 idle.0 idle.1)

channel_legible : (state next : State) (words : List (List ℕ)) → channel_after state words ≡ Ok next
    → IsLegible state → IsLegible next
channel_legible state next words is legible =
    let make : Channel → State = λ c. record state {
      channels = state.channels ++ c ∷ [];
      valued = false;
    } in
    let header = header_ok state.thread _ next is in
    let two = bind_ok (ok_or (two_words words) WrongArity) (λ two. channel_of state.channels two
    >>= (λ c. Ok (make c))) next header.1 in
    let c = bind_ok (channel_of state.channels two.0) (λ c. Ok (make c)) next two.2 in
    let again = channel_again (attribute_names state.attributes) state.channels two.0 c.0 c.1 in
    let idle = legible.idle header.0 in
    made_legible (make c.0) next c.2
    (header_legible (make c.0) (channel_header state.attributes state.channels state.globals
    legible.header c.0 again.0 again.1) header.0 idle.0 idle.1)

key_legible : (state next : State) (words : List (List ℕ)) → key_after state words ≡ Ok next
    → IsLegible state → IsLegible next
key_legible state next words is legible =
    let names : List (List ℕ) = attribute_names state.attributes in
    let earlier : List Channel = earlier_channels state.channels in
    let make : Channel → State = λ c. record state { channels = earlier ++ c ∷ [] } in
    let header = header_ok state.thread _ next is in
    let last = bind_ok (ok_or (last_channel state.channels) Misplaced)
    (λ c. keyed names c words >>= (λ c. Ok (make c))) next header.1 in
    let c = bind_ok (keyed names last.0 words) (λ c. Ok (make c)) next last.2 in
    let whole : state.channels ≡ earlier ++ last.0 ∷ [] = last_item state.channels last.0
    (ok_or_ok (last_channel state.channels) Misplaced last.0 last.1) in
    let old : IsHeader state.attributes (earlier ++ last.0 ∷ []) state.globals =
    subst (λ (cs : List Channel). IsHeader state.attributes cs state.globals) whole
    legible.header in
    let again = keyed_again names last.0 c.0 words
    (words_of_names state.attributes state.channels state.globals legible.header) c.1
    (all_last (IsQueried names) earlier last.0 old.queries) in
    let idle = legible.idle header.0 in
    made_legible (make c.0) next c.2
    (header_legible (make c.0) (asked_header state.attributes earlier last.0 c.0 again.0
    state.globals again.1 again.2 old) header.0 idle.0 idle.1)

value_legible : (state next : State) (words : List (List ℕ)) → value_after state words ≡ Ok next
    → IsLegible state → IsLegible next
value_legible state next words is legible =
    let names : List (List ℕ) = attribute_names state.attributes in
    let earlier : List Channel = earlier_channels state.channels in
    let make : Channel → State = λ c. record state {
      channels = earlier ++ c ∷ [];
      valued = true;
    } in
    let header = header_ok state.thread _ next is in
    let last = bind_ok (ok_or (last_channel state.channels) Misplaced)
    (λ c. cond state.valued (Err Misplaced) (with_values names c words) >>= (λ c. Ok (make c)))
    next header.1 in
    let c = bind_ok (cond state.valued (Err Misplaced) (with_values names last.0 words))
    (λ c. Ok (make c)) next last.2 in
    let said = unless_ok state.valued Misplaced (with_values names last.0 words) c.0 c.1 in
    let whole : state.channels ≡ earlier ++ last.0 ∷ [] = last_item state.channels last.0
    (ok_or_ok (last_channel state.channels) Misplaced last.0 last.1) in
    let old : IsHeader state.attributes (earlier ++ last.0 ∷ []) state.globals =
    subst (λ (cs : List Channel). IsHeader state.attributes cs state.globals) whole
    legible.header in
    let again = valued_again names last.0 c.0 words
    (words_of_names state.attributes state.channels state.globals legible.header) said.1
    (all_last (IsQueried names) earlier last.0 old.queries) in
    let idle = legible.idle header.0 in
    made_legible (make c.0) next c.2
    (header_legible (make c.0) (asked_header state.attributes earlier last.0 c.0 again.0
    state.globals again.1 again.2 old) header.0 idle.0 idle.1)

-- the rest of a line behind two words is UTF-8
rest_of : (first rest : List ℕ) (some : Bool) (two : List ℕ × List ℕ) → IsUtf8 rest
    → cond some (Some (first, rest)) None ≡ Some two → IsUtf8 two.1
rest_of first rest true two utf8 is = let pair : List ℕ × List ℕ = (first, rest) in
    let same : pair ≡ two = cc in subst (λ (t : List ℕ × List ℕ). IsUtf8 t.1) same utf8
rest_of first rest false two utf8 is = absurd cc

rest_utf8 : (word : List ℕ) (words : List (List ℕ)) (two : List ℕ × List ℕ)
    → IsUtf8 (joined (word ∷ words)) → word_and_rest words ≡ Some two → IsUtf8 two.1
rest_utf8 word [] two utf8 is = absurd cc
rest_utf8 word (first ∷ []) two utf8 is = absurd cc
rest_utf8 word (first ∷ next ∷ words) two utf8 is =
    let rest : List ℕ = joined (next ∷ words) in
    rest_of first rest (is_word first) two (utf8_behind first rest 32 (lit< tt)
    (utf8_behind word (first ++ 32 ∷ rest) 32 (lit< tt) utf8)) is

global_legible : (state next : State) (word : List ℕ) (words : List (List ℕ))
    → IsUtf8 (joined (word ∷ words)) → global_after state words ≡ Ok next → IsLegible state
    → IsLegible next
global_legible state next word words utf8 is legible =
    let make : Entry → State = λ e. record state { globals = state.globals ++ e ∷ [] } in
    let header = header_ok state.thread _ next is in
    let two = bind_ok (ok_or (word_and_rest words) WrongArity)
    (λ two. global_of state two >>= (λ e. Ok (make e))) next header.1 in
    let e = bind_ok (global_of state two.0) (λ e. Ok (make e)) next two.2 in
    let rest = rest_utf8 word words two.0 utf8 (ok_or_ok (word_and_rest words) WrongArity two.0
    two.1) in
    let again = global_again state two.0 e.0 legible.header.names rest e.1 in
    let idle = legible.idle header.0 in
    made_legible (make e.0) next e.2
    (header_legible (make e.0) (global_header state.attributes state.channels state.globals
    legible.header e.0 again) header.0 idle.0 idle.1)

-- ---- threads and their lines

begun_legible : (state next : State) (words : List (List ℕ)) → thread_after state words ≡ Ok next
    → IsLegible state → IsLegible next
begun_legible state next words is legible =
    let begun : State = record state {
      earlier = state.earlier ++ option_to_list state.thread;
      thread = Some [];
      tally = next_thread state.tally;
    } in
    let made = if_ok (no_word words) WrongArity (Ok begun) next is in
    made_legible begun next made.1
    (record {
      header = legible.header;
      lines = record {
        threads = threads_legible state legible;
        last = tt;
        counted = threads_counted state legible;
      };
      idle = λ none. absurd cc;
    })

abbrev next_of : State → ℕ
next_of state = behind_lines (behind_threads 0 state.earlier) (unwrap_or state.thread [])

line_legible : (state : State) (l : lines.Line) (process : Bool) (words : ℕ)
    → IsNext state.attributes state.channels state.values (next_of state) l
    → behind_line (next_of state) l ≡ next_of state
    → IsLegible state → IsLegible (with_line l process words state)
line_legible state l process words is opens_none legible =
    let begun : ℕ = behind_threads 0 state.earlier in
    let done : List lines.Line = unwrap_or state.thread [] in
    record {
      header = legible.header;
      lines = record {
        threads = legible.lines.threads;
        last = next-push state.attributes state.channels state.values begun done l
            legible.lines.last is;
        counted = behind-push begun done l ∙ opens_none ∙ legible.lines.counted;
      };
      idle = λ none. absurd cc;
    }

pushed_last : {A : Type 0} (xs : List A) (x : A) → slice_get (xs ++ x ∷ []) (length xs) ≡ Some x
pushed_last [] x = refl
pushed_last (y ∷ xs) x = pushed_last xs x

opened_legible : (line_of : ℕ → ℕ → lines.Line)
    → ((attributes : List Attribute) (channels : List Channel) (values : List Variant)
    (next attr value : ℕ) → IsOpened attributes channels values next attr value
    → IsNext attributes channels values next (line_of attr value))
    → ((next attr value : ℕ) → behind_line next (line_of attr value) ≡ next + 1)
    → (state next : State) (word : List ℕ) (words : List (List ℕ)) → IsUtf8 (joined (word ∷ words))
    → opening_after line_of state words ≡ Ok next → IsLegible state → IsLegible next
opened_legible line_of placed behind state next word words utf8 is legible =
    let header = thread_ok state.thread _ next is in
    let opened = bind_ok (opening_said state words)
    (λ opening. Ok (with_opening line_of opening state)) next header.2 in
    let two = bind_ok (ok_or (word_and_rest words) WrongArity)
    (λ two. attribute_named state.attributes two.0
    >>= (λ named. value_said named.1.kind two.1
    >>= (λ value. Ok (opening named.0 named.1 value)))) opened.0 opened.1 in
    let named = bind_ok (attribute_named state.attributes two.0.0)
    (λ named. value_said named.1.kind two.0.1 >>= (λ value. Ok (opening named.0 named.1 value)))
    opened.0 two.2 in
    let value = bind_ok (value_said named.0.1.kind two.0.1)
    (λ value. Ok (opening named.0.0 named.0.1 value)) opened.0 named.2 in
    let made : opening named.0.0 named.0.1 value.0 ≡ opened.0 = (let e = value.2 in cc) in
    let rest = rest_utf8 word words two.0 utf8 (ok_or_ok (word_and_rest words) WrongArity two.0
    two.1) in
    let values : List Variant = state.values ++ value.0 ∷ [] in
    let begun : ℕ = behind_threads 0 state.earlier in
    let done : List lines.Line = unwrap_or state.thread [] in
    let l : lines.Line = line_of named.0.0 (length state.values) in
    let fine : IsOpened state.attributes state.channels values (next_of state) named.0.0
    (length state.values) = record {
      attribute = named.0.1;
      opened = value.0;
      place = sym legible.lines.counted;
      named = found_itself (λ (a : Attribute). a.name) state.attributes two.0.0 named.0 named.1;
      kept = pushed_last state.values value.0;
      spoken = spoken named.0.1.kind two.0.1 value.0 rest value.1;
      word = named_word state.attributes two.0.0 named.0 legible.header.names named.1;
    } in
    let with : IsLegible (with_opening line_of (opening named.0.0 named.0.1 value.0) state) =
    record {
      header = legible.header;
      lines = record {
        threads = threads_more state.attributes state.channels state.values (value.0 ∷ []) 0
            state.earlier legible.lines.threads;
        last = next-push state.attributes state.channels values begun done l
            (lines_more state.attributes state.channels state.values (value.0 ∷ []) begun done
            legible.lines.last)
            (placed state.attributes state.channels values (next_of state) named.0.0
            (length state.values) fine);
        counted = behind-push begun done l ∙ behind (next_of state) named.0.0 (length state.values)
            ∙ ap (λ n. n + 1) legible.lines.counted ∙ sym (length_push state.values value.0);
      };
      idle = λ none. absurd cc;
    } in
    made_legible (with_opening line_of opened.0 state) next opened.2
    (subst (λ o. IsLegible (with_opening line_of o state)) made with)

ended_legible : (state next : State) (words : List (List ℕ)) → end_after state words ≡ Ok next
    → IsLegible state → IsLegible next
ended_legible state next words is legible =
    let make : ℕ × Attribute → State = λ named. with_line (line.End named.0)
    (has_process_scope named.1.props) 0 state in
    let header = thread_ok state.thread _ next is in
    let name = bind_ok (ok_or (one_word words) WrongArity)
    (λ name. attribute_named state.attributes name >>= (λ named. Ok (make named))) next header.2 in
    let named = bind_ok (attribute_named state.attributes name.0) (λ named. Ok (make named)) next
    name.2 in
    let fine : IsEnded state.attributes state.channels state.values named.0.0 = record {
      attribute = named.0.1;
      named = found_itself (λ (a : Attribute). a.name) state.attributes name.0 named.0 named.1;
      word = named_word state.attributes name.0 named.0 legible.header.names named.1;
    } in
    made_legible (make named.0) next named.2 (line_legible state (line.End named.0.0)
    (has_process_scope named.0.1.props) 0 fine refl legible)

snapshot_legible : (state next : State) (words : List (List ℕ)) → snapshot_after state words
    ≡ Ok next → IsLegible state → IsLegible next
snapshot_legible state next words is legible =
    let header = thread_ok state.thread _ next is in
    let made = if_ok (no_word words) WrongArity (Ok (with_line line.Snapshot false 0 state)) next
    header.2 in
    made_legible (with_line line.Snapshot false 0 state) next made.1
    (line_legible state line.Snapshot false 0 tt refl legible)

-- a declared channel has a name that is a word
chain_words : (done channels : List Channel) → Chain IsNewChannel done channels
    → All (λ (c : Channel). IsWord c.name) channels
chain_words done [] chain = All-nil (λ (c : Channel). IsWord c.name)
chain_words done (c ∷ channels) chain = All-cons (λ (c : Channel). IsWord c.name) c channels
    chain.0.word (chain_words (done ++ c ∷ []) channels chain.1)

flushed_legible : (state next : State) (words : List (List ℕ)) → flush_after state words ≡ Ok next
    → IsLegible state → IsLegible next
flushed_legible state next words is legible =
    let make : ℕ × Channel → State = λ named. with_line (line.Flush named.0) false 0 state in
    let judged : ℕ × Channel → Result State ScriptKind = λ named. cond named.1.aggregate
    (Ok (make named)) (Err NotAggregate) in
    let header = thread_ok state.thread _ next is in
    let name = bind_ok (ok_or (one_word words) WrongArity)
    (λ name. channel_named state.channels name >>= judged) next header.2 in
    let named = bind_ok (channel_named state.channels name.0) judged next name.2 in
    let made = if_ok named.0.1.aggregate NotAggregate (Ok (make named.0)) next named.2 in
    let at = named_at state.channels (place_of (channel_names state.channels) name.0) named.0
    named.1 in
    let inside = slice_get_within state.channels named.0.0 named.0.1 at in
    let word = subst (λ (c : Channel). IsWord c.name)
    (get_or_from_slice_get state.channels named.0.0 named.0.1 named.0.1 at)
    (chain_words [] state.channels legible.header.each_channel named.0.0 named.0.1 inside) in
    let fine : IsFlush state.attributes state.channels state.values named.0.0 = record {
      channel = named.0.1;
      named = found_itself (λ (c : Channel). c.name) state.channels name.0 named.0 named.1;
      aggregates = made.0;
      word = word;
    } in
    made_legible (make named.0) next made.1 (line_legible state (line.Flush named.0.0) false 0 fine
    refl legible)

ticked_legible : (state next : State) (words : List (List ℕ)) → tick_after state words ≡ Ok next
    → IsLegible state → IsLegible next
ticked_legible state next words is legible =
    let make : ℕ → State = λ n. with_line (line.Tick (ticks_of n)) false 0 state in
    let header = thread_ok state.thread _ next is in
    let word = bind_ok (ok_or (one_word words) WrongArity)
    (λ word. number_said word >>= (λ n. Ok (make n))) next header.2 in
    let number = bind_ok (number_said word.0) (λ n. Ok (make n)) next word.2 in
    let small = bounded 18446744073709551615 number.0 (number_of 10 word.0)
    (ok_or_ok (uint_of word.0) BadValue number.0 number.1) in
    let short : AreHalves (ticks_of number.0) = halves_of number.0 (omega (arith, small)) in
    made_legible (make number.0) next number.2 (line_legible state (line.Tick (ticks_of number.0)) false 0
    short refl legible)

-- ---- each line

words_legible : (state next : State) (words : List (List ℕ)) → IsUtf8 (joined words)
    → words_after state words ≡ Ok next → IsLegible state → IsLegible next
words_legible state next [] utf8 is legible = absurd cc
words_legible state next (word ∷ words) utf8 is legible =
    choice_ok (bytes_eq word (codes "attribute")) _ _ next is
    (λ e. attribute_legible state next words e legible) (λ is.
    choice_ok (bytes_eq word (codes "global")) _ _ next is
    (λ e. global_legible state next word words utf8 e legible) (λ is.
    choice_ok (bytes_eq word (codes "channel")) _ _ next is
    (λ e. channel_legible state next words e legible) (λ is.
    choice_ok (bytes_eq word (codes "key")) _ _ next is
    (λ e. key_legible state next words e legible) (λ is.
    choice_ok (bytes_eq word (codes "value")) _ _ next is
    (λ e. value_legible state next words e legible) (λ is.
    choice_ok (bytes_eq word (codes "thread")) _ _ next is
    (λ e. begun_legible state next words e legible) (λ is.
    choice_ok (bytes_eq word (codes "begin")) _ _ next is
    (λ e. opened_legible line.Begin (λ a c v n attr value fine. fine) (λ n attr value. refl)
    state next word words utf8 e legible) (λ is.
    choice_ok (bytes_eq word (codes "set")) _ _ next is
    (λ e. opened_legible line.Set (λ a c v n attr value fine. fine) (λ n attr value. refl) state
    next word words utf8 e legible) (λ is.
    choice_ok (bytes_eq word (codes "end")) _ _ next is
    (λ e. ended_legible state next words e legible) (λ is.
    choice_ok (bytes_eq word (codes "snapshot")) _ _ next is
    (λ e. snapshot_legible state next words e legible) (λ is.
    choice_ok (bytes_eq word (codes "flush")) _ _ next is
    (λ e. flushed_legible state next words e legible) (λ is.
    choice_ok (bytes_eq word (codes "tick")) _ _ next is
    (λ e. ticked_legible state next words e legible) (λ is. absurd cc))))))))))))

line_kept : (state next : State) (line : List ℕ) → IsLegible state → line_after state line ≡ Ok next
    → IsLegible next
unfolding line_after
line_kept state next line legible is =
    let text = unless_ok (not (is_utf8 line)) NotText _ next is in
    let utf8 = IsUtf8-from_is_utf8 line (not_false (is_utf8 line) text.0) in
    choice_ok (is_skipped line) (Ok state) (text_after state line) next text.1
    (λ same. made_legible state next same legible)
    (λ says.
    let made = bind_ok (words_after state (words_of line)) (λ made. limited made) next says in
    let passed = if_ok (fits made.0) TooMany (Ok made.0) next made.2 in
    made_legible made.0 next passed.1
    (words_legible state made.0 (words_of line) (subst IsUtf8 (sym (joined_words line)) utf8) made.1
    legible))

lines_kept : (lines : List (List ℕ)) (state next : State) → IsLegible state
    → after_lines line_after state lines ≡ Ok next → IsLegible next
lines_kept [] state next legible is = made_legible state next is legible
lines_kept (line ∷ lines) state next legible is =
    let made = bind_ok (line_after state line) (λ made. after_lines line_after made lines) next
    is in
    lines_kept lines made.0 next (line_kept state made.0 line legible made.1) made.2

start_legible : IsLegible no_lines
start_legible = record {
  header = record {
    each_attribute = tt;
    names = All-nil IsNamed;
    each_channel = tt;
    queries = All-nil (IsQueried []);
    each_global = tt;
  };
  lines = record { threads = tt; last = tt; counted = refl };
  idle = λ none. (refl, refl);
}

-- each valid script can be written
pub valid_writable : (script : Script) → IsValidScript script → IsWritable script
valid_writable script valid =
    let state = bind_ok (after_lines line_after no_lines (lines_of valid.0))
    (λ state. Ok (script_of state)) script valid.1 in
    let same : script_of state.0 ≡ script = (let e = state.2 in cc) in
    let legible = lines_kept (lines_of valid.0) no_lines state.0 start_legible state.1 in
    let writable : IsWritable (script_of state.0) = record {
      header = legible.header;
      threads = threads_legible state.0 legible;
      counted = threads_counted state.0 legible;
    } in
    subst (λ (s : Script). IsWritable s) same writable
