-- Each line keeps what holds of what stands.
use Rattle.std.proofs.Common.{◌≡◌, ℕ, ◌≤◌, true, false, cond, List, [], ◌∷◌, ◌++◌, length, refl, ap, subst, ◌∙◌, arith}
use Rattle.std.specs.Prelude.{Option, Some, None, Result, Ok, Err, is_some, slice_get, codes}
use Rattle.std.specs.Option.{ok_or}
use Rattle.std.specs.Str.{bytes_eq}
use Rattle.std.proofs.lemmas.Option.{slice_get_within}
use Rattle.std.proofs.lemmas.Bool.Decides.{nat_tests}
use Rattle.cal_value.specs.Numerals.{at_most, number_of}
use Rattle.cal_value.specs.Props.{has_process_scope}
use Rattle.cal_value.specs.Reading.{uint_of}
use Rattle.cal_value.specs.declared.attribute.Attribute.{Attribute}
use Rattle.cal_value.specs.declared.variant.Variant.{Variant}
use Rattle.cal_line.specs.FirstFault.{◌>>=◌}
use Rattle.cal_script.specs.declared.kind.ScriptKind.{ScriptKind}
use Rattle.cal_script.specs.declared.kind.ScriptKind.TheVariants.{Misplaced, WrongArity, NotAggregate, BadValue}
use Rattle.cal_script.specs.declared.script.Line as lines
use Rattle.cal_script.specs.declared.script.Line.TheVariants as line
use Rattle.cal_script.specs.Lines.{no_word, one_word, three_words, two_words, word_and_rest}
use Rattle.cal_script.specs.Parts.{attribute_names, attribute_named, attribute_of, channel_named, channel_names, channel_of, number_said, place_of, value_said}
use Rattle.cal_script.specs.Reading.{attribute_after, channel_after, earlier_channels, end_after, flush_after, global_after, global_of, key_after, keyed, last_channel, opening_after, opening_said, snapshot_after, thread_after, tick_after, value_after, with_values, words_after}
use Rattle.cal_script.specs.State.{State, made_words, next_thread, opening, with_line, with_opening}
use Rattle.cal_script.specs.Ticks.{AreHalves, ticks_of}
use Rattle.cal_script.proofs.Halves.{halves_of}
use Rattle.cal_script.specs.Counts.{attribute_at, is_process, value_at, words_made}
use Rattle.cal_script.specs.Valid.{IsFlushed, IsOpening}
use Rattle.cal_valid.proofs.Binds.{bind_ok, choice_ok, if_ok, ok_or_ok}
use Rattle.cal_valid.proofs.Values.{bounded, named_at, said_of}
use Rattle.cal_valid.proofs.States.{IsAt, IsSame, IsSound, header_sound, line_sound, thread_sound, values_sound}

-- ---- header lines

header_ok : (thread : Option (List lines.Line)) (said : Result State ScriptKind) (next : State) → cond (is_some thread) (Err Misplaced) said ≡ Ok next → (thread ≡ None) × (said ≡ Ok next)
header_ok None said next is = (refl, is)
header_ok (Some thread) said next is = absurd cc

thread_ok : (thread : Option (List lines.Line)) (said : Result State ScriptKind) (next : State) → cond (is_some thread) said (Err Misplaced) ≡ Ok next → (lines : List lines.Line) × (thread ≡ Some lines) × (said ≡ Ok next)
thread_ok None said next is = absurd cc
thread_ok (Some lines) said next is = (lines, refl, is)

one_level : {B : Type 0} (found : Result B ScriptKind) (make : B → State) (state next : State) → ((b : B) → IsSame state (make b)) → (found >>= (λ b. Ok (make b))) ≡ Ok next → IsSame state next
one_level (Ok b) make state next same is = (let e : make b ≡ next = cc in let P : State → Type 0 = λ s. IsSame state s in subst P e (same b))
one_level (Err k) make state next same is = absurd cc

two_levels : {A B : Type 0} (found : Result A ScriptKind) (more : A → Result B ScriptKind) (make : B → State) (state next : State) → ((b : B) → IsSame state (make b))
    → (found >>= (λ a. more a >>= (λ b. Ok (make b)))) ≡ Ok next → IsSame state next
two_levels (Ok a) more make state next same is = one_level (more a) make state next same is
two_levels (Err k) more make state next same is = absurd cc

header_step : {A B : Type 0} (state next : State) (found : Result A ScriptKind) (more : A → Result B ScriptKind) (make : B → State) → ((b : B) → IsSame state (make b))
    → cond (is_some state.thread) (Err Misplaced) (found >>= (λ a. more a >>= (λ b. Ok (make b)))) ≡ Ok next → IsSound state → IsSound next
header_step state next found more make same is sound =
    let header = header_ok state.thread _ next is in
    header_sound state next header.0 (two_levels found more make state next same header.1) sound

attribute_sound : (state next : State) (words : List (List ℕ)) → attribute_after state words ≡ Ok next → IsSound state → IsSound next
attribute_sound state next words is sound =
    header_step state next (ok_or (three_words words) WrongArity) (λ three. attribute_of state.attributes three) (λ attribute. record state { attributes = state.attributes ++ attribute ∷ [] })
    (λ b. record { earlier = refl; thread = refl; tally = refl }) is sound

global_sound : (state next : State) (words : List (List ℕ)) → global_after state words ≡ Ok next → IsSound state → IsSound next
global_sound state next words is sound =
    header_step state next (ok_or (word_and_rest words) WrongArity) (λ two. global_of state two) (λ entry. record state { globals = state.globals ++ entry ∷ [] })
    (λ b. record { earlier = refl; thread = refl; tally = refl }) is sound

channel_sound : (state next : State) (words : List (List ℕ)) → channel_after state words ≡ Ok next → IsSound state → IsSound next
channel_sound state next words is sound =
    header_step state next (ok_or (two_words words) WrongArity) (λ two. channel_of state.channels two) (λ channel. record state { channels = state.channels ++ channel ∷ []; valued = false })
    (λ b. record { earlier = refl; thread = refl; tally = refl }) is sound

key_sound : (state next : State) (words : List (List ℕ)) → key_after state words ≡ Ok next → IsSound state → IsSound next
key_sound state next words is sound =
    header_step state next (ok_or (last_channel state.channels) Misplaced) (λ channel. keyed (attribute_names state.attributes) channel words)
    (λ channel. record state { channels = earlier_channels state.channels ++ channel ∷ [] })
    (λ b. record { earlier = refl; thread = refl; tally = refl }) is sound

value_sound : (state next : State) (words : List (List ℕ)) → value_after state words ≡ Ok next → IsSound state → IsSound next
value_sound state next words is sound =
    header_step state next (ok_or (last_channel state.channels) Misplaced)
    (λ channel. cond state.valued (Err Misplaced) (with_values (attribute_names state.attributes) channel words))
    (λ channel. record state { channels = earlier_channels state.channels ++ channel ∷ []; valued = true })
    (λ b. record { earlier = refl; thread = refl; tally = refl }) is sound

-- ---- threads and their lines

abbrev answer : State → Result State ScriptKind
answer state = Ok state

same_sound : (made next : State) → answer made ≡ answer next → IsSound made → IsSound next
same_sound made next is sound = let same : made ≡ next = cc in let P : State → Type 0 = λ s. IsSound s in subst P same sound

-- what is made of the same is as sound
sound_by : {O : Type 0} (make : O → State) (a b : O) → a ≡ b → IsSound (make a) → IsSound (make b)
sound_by {O} make a b same sound = let P : O → Type 0 = λ o. IsSound (make o) in subst P same sound

begun_sound : (state next : State) (words : List (List ℕ)) → thread_after state words ≡ Ok next → IsSound state → IsSound next
begun_sound state next words is sound =
    let made = if_ok (no_word words) WrongArity _ next is in
    same_sound _ next made.1 (thread_sound state (next_thread state.tally) refl sound)

pushed_last : {A : Type 0} (xs : List A) (x : A) → slice_get (xs ++ x ∷ []) (length xs) ≡ Some x
pushed_last [] x = refl
pushed_last (y ∷ xs) x = pushed_last xs x

opened_sound : (line_of : ℕ → ℕ → lines.Line)
    → ((state : State) (attr value : ℕ) → IsOpening state.attributes state.values attr value → IsAt state (line_of attr value))
    → ((attributes : List Attribute) (attr value : ℕ) → attribute_at attributes (line_of attr value) ≡ slice_get attributes attr)
    → ((values : List Variant) (attr value : ℕ) → value_at values (line_of attr value) ≡ slice_get values value)
    → (state next : State) (words : List (List ℕ)) → opening_after line_of state words ≡ Ok next → IsSound state → IsSound next
opened_sound line_of placed attribute_is value_is state next words is sound =
    let header = thread_ok state.thread _ next is in
    let opened = bind_ok (opening_said state words) (λ opening. Ok (with_opening line_of opening state)) next header.2 in
    let two = bind_ok (ok_or (word_and_rest words) WrongArity) (λ two. attribute_named state.attributes two.0 >>= (λ named. value_said named.1.kind two.1 >>= (λ value. Ok (opening named.0 named.1 value)))) opened.0 opened.1 in
    let named = bind_ok (attribute_named state.attributes two.0.0) (λ named. value_said named.1.kind two.0.1 >>= (λ value. Ok (opening named.0 named.1 value))) opened.0 two.2 in
    let value = bind_ok (value_said named.0.1.kind two.0.1) (λ value. Ok (opening named.0.0 named.0.1 value)) opened.0 named.2 in
    let made : opening named.0.0 named.0.1 value.0 ≡ opened.0 = (let e = value.2 in cc) in
    let declared : slice_get state.attributes named.0.0 ≡ Some named.0.1 = named_at state.attributes (place_of (attribute_names state.attributes) two.0.0) named.0 named.1 in
    let more : State = record state { values = state.values ++ value.0 ∷ [] } in
    let fine : IsOpening state.attributes (state.values ++ value.0 ∷ []) named.0.0 (length state.values) = record {
      attribute = named.0.1;
      opened = value.0;
      declared = declared;
      kept = pushed_last state.values value.0;
      said = said_of named.0.1 two.0.1 value.0 value.1;
    } in
    let with : IsSound (with_opening line_of (opening named.0.0 named.0.1 value.0) state) =
    line_sound (record state { values = state.values ++ value.0 ∷ [] }) header.0 (line_of named.0.0 (length state.values)) (has_process_scope named.0.1.props) (made_words named.0.1 value.0) header.1
    (placed (record state { values = state.values ++ value.0 ∷ [] }) named.0.0 (length state.values) fine)
    (ap is_process (attribute_is state.attributes named.0.0 (length state.values) ∙ declared))
    (λ i. words_made ((attribute_is state.attributes named.0.0 (length state.values) ∙ declared) i)
    ((value_is (state.values ++ value.0 ∷ []) named.0.0 (length state.values) ∙ pushed_last state.values value.0) i))
    (values_sound state (value.0 ∷ []) sound) in
    same_sound _ next opened.2 (sound_by (λ o. with_opening line_of o state) (opening named.0.0 named.0.1 value.0) opened.0 made with)

-- a line that opens no value makes no node
no_words : (attribute : Option Attribute) → words_made attribute None ≡ 0
no_words None = refl
no_words (Some attribute) = refl

ended_sound : (state next : State) (words : List (List ℕ)) → end_after state words ≡ Ok next → IsSound state → IsSound next
ended_sound state next words is sound =
    let header = thread_ok state.thread _ next is in
    let name = bind_ok (ok_or (one_word words) WrongArity) (λ name. attribute_named state.attributes name >>= (λ named. Ok (with_line (line.End named.0) (has_process_scope named.1.props) 0 state))) next header.2 in
    let named = bind_ok (attribute_named state.attributes name.0) (λ named. Ok (with_line (line.End named.0) (has_process_scope named.1.props) 0 state)) next name.2 in
    let declared : slice_get state.attributes named.0.0 ≡ Some named.0.1 = named_at state.attributes (place_of (attribute_names state.attributes) name.0) named.0 named.1 in
    same_sound _ next named.2 (line_sound state header.0 (line.End named.0.0) (has_process_scope named.0.1.props) 0 header.1 (slice_get_within state.attributes named.0.0 named.0.1 declared) (ap is_process declared)
    (no_words (slice_get state.attributes named.0.0)) sound)

snapshot_sound : (state next : State) (words : List (List ℕ)) → snapshot_after state words ≡ Ok next → IsSound state → IsSound next
snapshot_sound state next words is sound =
    let header = thread_ok state.thread _ next is in
    let made = if_ok (no_word words) WrongArity _ next header.2 in
    same_sound _ next made.1 (line_sound state header.0 line.Snapshot false 0 header.1 tt refl refl sound)

flushed_sound : (state next : State) (words : List (List ℕ)) → flush_after state words ≡ Ok next → IsSound state → IsSound next
flushed_sound state next words is sound =
    let header = thread_ok state.thread _ next is in
    let name = bind_ok (ok_or (one_word words) WrongArity) (λ name. channel_named state.channels name >>= (λ named. cond named.1.aggregate (Ok (with_line (line.Flush named.0) false 0 state)) (Err NotAggregate))) next header.2 in
    let named = bind_ok (channel_named state.channels name.0) (λ named. cond named.1.aggregate (Ok (with_line (line.Flush named.0) false 0 state)) (Err NotAggregate)) next name.2 in
    let made = if_ok named.0.1.aggregate NotAggregate (Ok (with_line (line.Flush named.0.0) false 0 state)) next named.2 in
    let declared : slice_get state.channels named.0.0 ≡ Some named.0.1 = named_at state.channels (place_of (channel_names state.channels) name.0) named.0 named.1 in
    let flushed : IsFlushed state.channels named.0.0 = record { flushed = named.0.1; declared = declared; aggregates = made.0 } in
    same_sound _ next made.1 (line_sound state header.0 (line.Flush named.0.0) false 0 header.1 flushed refl refl sound)

ticked_sound : (state next : State) (words : List (List ℕ)) → tick_after state words ≡ Ok next → IsSound state → IsSound next
ticked_sound state next words is sound =
    let header = thread_ok state.thread _ next is in
    let word = bind_ok (ok_or (one_word words) WrongArity) (λ word. number_said word >>= (λ n. Ok (with_line (line.Tick (ticks_of n)) false 0 state))) next header.2 in
    let number = bind_ok (number_said word.0) (λ n. Ok (with_line (line.Tick (ticks_of n)) false 0 state)) next word.2 in
    let small = bounded 18446744073709551615 number.0 (number_of 10 word.0) (ok_or_ok (uint_of word.0) BadValue number.0 number.1) in
    let short : AreHalves (ticks_of number.0) = halves_of number.0 (omega (arith, small)) in
    same_sound _ next number.2 (line_sound state header.0 (line.Tick (ticks_of number.0)) false 0 header.1 short refl refl sound)

-- ---- each line

pub words_sound : (state next : State) (words : List (List ℕ)) → words_after state words ≡ Ok next → IsSound state → IsSound next
words_sound state next [] is sound = absurd cc
words_sound state next (word ∷ words) is sound =
    choice_ok (bytes_eq word (codes "attribute")) _ _ next is (λ e. attribute_sound state next words e sound) (λ is.
    choice_ok (bytes_eq word (codes "global")) _ _ next is (λ e. global_sound state next words e sound) (λ is.
    choice_ok (bytes_eq word (codes "channel")) _ _ next is (λ e. channel_sound state next words e sound) (λ is.
    choice_ok (bytes_eq word (codes "key")) _ _ next is (λ e. key_sound state next words e sound) (λ is.
    choice_ok (bytes_eq word (codes "value")) _ _ next is (λ e. value_sound state next words e sound) (λ is.
    choice_ok (bytes_eq word (codes "thread")) _ _ next is (λ e. begun_sound state next words e sound) (λ is.
    choice_ok (bytes_eq word (codes "begin")) _ _ next is (λ e. opened_sound line.Begin (λ s a v fine. fine) (λ all a v. refl) (λ all a v. refl) state next words e sound) (λ is.
    choice_ok (bytes_eq word (codes "set")) _ _ next is (λ e. opened_sound line.Set (λ s a v fine. fine) (λ all a v. refl) (λ all a v. refl) state next words e sound) (λ is.
    choice_ok (bytes_eq word (codes "end")) _ _ next is (λ e. ended_sound state next words e sound) (λ is.
    choice_ok (bytes_eq word (codes "snapshot")) _ _ next is (λ e. snapshot_sound state next words e sound) (λ is.
    choice_ok (bytes_eq word (codes "flush")) _ _ next is (λ e. flushed_sound state next words e sound) (λ is.
    choice_ok (bytes_eq word (codes "tick")) _ _ next is (λ e. ticked_sound state next words e sound) (λ is. absurd cc))))))))))))
