-- The canonical text of a valid script means the script.
use Rattle.std.proofs.Common.{◌↔◌, ◌≡◌, ℕ, ◌+◌, ◌≤◌, Bool, true, false, cond, leb, List, []}
use Rattle.std.proofs.Common.{◌∷◌, ◌++◌, length, All, take, refl, sym, ap, subst, ◌∙◌}
use Rattle.std.proofs.Common.{append_assoc, arith}
use Rattle.std.specs.Prelude.{None, Result, Ok, Err, not, sum_by}
use Rattle.std.specs.List.{flat_map}
use Rattle.std.specs.Option.{option_to_list}
use Rattle.std.proofs.lemmas.Bool.{le-leb}
use Rattle.std.proofs.lemmas.List.{length-append, take_all}
use Rattle.std.proofs.lemmas.List.Elements.{All-nil}
use Rattle.std.proofs.lemmas.List.Sums.{sum_by-append}
use Rattle.std.proofs.lemmas.Str.{is_utf8-from_IsUtf8}
use Rattle.cal_line.specs.FirstFault.{◌>>=◌, after_lines}
use Rattle.cal_line.proofs.Inputs.{lines_of-newline}
use Rattle.cal_script.specs.Limits.{arena, fits, thread_count, tree_words}
use Rattle.cal_script.specs.Lines.{is_skipped, joined, lines_of, words_of}
use Rattle.cal_script.specs.Reading.{IsValidScript, Means, limited, line_after, text_after}
use Rattle.cal_script.specs.State.{State, no_lines, script_of}
use Rattle.cal_script.specs.declared.kind.ScriptKind.{ScriptKind}
use Rattle.cal_script.specs.declared.kind.ScriptKind.TheVariants.{NotText, TooMany}
use Rattle.cal_script.specs.declared.script.Script.{Script}
use Rattle.cal_script.specs.declared.tally.Tally.{Tally}
use Rattle.cal_script.proofs.Tallies.{arena-script_tally, process_lines-script_tally}
use Rattle.cal_script.specs.Shapes.{tree_arena}
use Rattle.cal_script.specs.Valid.{IsRunnable}
use Rattle.cal_valid.proofs.Runnable.{valid_runnable}
use Rattle.cal_valid.proofs.States.{IsAt, IsSound, ended_length}
use Rattle.cal_valid.proofs.Steps.{words_sound}
use Rattle.cal_spelling.specs.CanonicalText.{Words, canonical_text, line_text, script_lines}
use Rattle.cal_spelling.proofs.Growth.{Grows, fits_before, grows_on, grows_same, six_true}
use Rattle.cal_spelling.proofs.Legible.{IsWritable, behind_threads}
use Rattle.cal_spelling.proofs.ReaderLines.{valid_writable}
use Rattle.cal_spelling.proofs.WrittenHeader.{IsStep, Steps, attributes_read, channels_read}
use Rattle.cal_spelling.proofs.WrittenHeader.{globals_read, more, none, steps-append}
use Rattle.cal_spelling.proofs.WrittenThreads.{AreRead, threads_read}

-- ---- lines that go on

line_read : (state next : State) (words : Words) → IsStep state words next → fits next ≡ true
    → line_after state (joined words) ≡ Ok next
unfolding line_after
line_read state next words step fine =
    let line : List ℕ = joined words in
    ap (λ (text : Bool). cond (not text) (Err NotText)
    (cond (is_skipped line) (Ok state) (text_after state line)))
    (is_utf8-from_IsUtf8 line step.text.utf8)
    ∙ ap (λ (skipped : Bool). cond skipped (Ok state) (text_after state line)) step.says
    ∙ ap (λ (found : Result State ScriptKind). found >>= limited) step.said
    ∙ ap (λ (fine : Bool). cond fine (Ok next) (Err TooMany)) fine

steps_grow : {one two : State} {lines : List Words} → Steps one lines two → Grows one two
steps_grow (none {state}) = grows_same state
steps_grow (more {state} {next} {last} {words} {lines} step rest) =
    grows_on state next last step.grows (steps_grow rest)

steps_sound : {one two : State} {lines : List Words} → Steps one lines two → IsSound one
    → IsSound two
steps_sound none sound = sound
steps_sound (more {state} {next} {last} {words} {lines} step rest) sound =
    steps_sound rest (words_sound state next (words_of (joined words)) step.said sound)

-- where the last state is within the limits, the lines are read to it
steps_said : {one two : State} {lines : List Words} → Steps one lines two → fits two ≡ true
    → after_lines line_after one (lines_of (flat_map line_text lines)) ≡ Ok two
steps_said none fine = refl
steps_said (more {state} {next} {last} {words} {lines} step rest) fine =
    let behind : List ℕ = flat_map line_text lines in
    let cut : lines_of (line_text words ++ behind) ≡ joined words ∷ lines_of behind =
    ap lines_of (append_assoc (joined words) (10 ∷ []) behind)
    ∙ lines_of-newline (joined words) behind step.text.whole in
    ap (after_lines line_after state) cut
    ∙ ap (λ (found : Result State ScriptKind). found
    >>= (λ (s : State). after_lines line_after s (lines_of behind)))
    (line_read state next words step (fits_before next last (steps_grow rest) fine))
    ∙ steps_said rest fine

-- ---- the last state

fits_runnable : (state : State) → IsSound state → IsRunnable (script_of state) → fits state ≡ true
fits_runnable state sound can =
    let threads : thread_count state ≤ 64 = omega (
      arith,
      length-append state.earlier
          (option_to_list state.thread),
      can.few_threads,
    ) in
    let all : sum_by length (state.earlier ++ option_to_list state.thread)
    ≡ sum_by length state.earlier + sum_by length (option_to_list state.thread) =
    sum_by-append length state.earlier (option_to_list state.thread) in
    let lines : state.tally.lines ≤ 1048576 = omega
    (arith, all, ended_length state.thread, sound.counted, can.few_lines) in
    let process : state.tally.process_lines ≤ 65536 = omega (
      arith,
      ap (λ (t : Tally). t.process_lines) sound.tallied,
      process_lines-script_tally (script_of state),
      can.few_process_lines,
    ) in
    let area : tree_arena (script_of state) ≡ arena state.tally =
    sym (arena-script_tally (script_of state)) ∙ ap arena sound.tallied in
    let counts : tree_words (length (state.earlier ++ option_to_list state.thread))
    (tree_arena (script_of state)) ≡ tree_words (thread_count state) (arena state.tally) =
    (λ i. tree_words (length-append state.earlier (option_to_list state.thread) i) (area i)) in
    let room : tree_words (thread_count state) (arena state.tally) ≤ 134217728 =
    subst (λ (n : ℕ). n ≤ 134217728) counts can.room in
    six_true (leb (length state.attributes) 1024) (leb (length state.channels) 16)
    (leb (thread_count state) 64) (leb state.tally.lines 1048576)
    (leb state.tally.process_lines 65536) (leb (tree_words (thread_count state) (arena state.tally))
    134217728)
    (le-leb (length state.attributes) 1024 can.few_attributes)
    (le-leb (length state.channels) 16 can.few_channels)
    (le-leb (thread_count state) 64 threads)
    (le-leb state.tally.lines 1048576 lines) (le-leb state.tally.process_lines 65536 process)
    (le-leb (tree_words (thread_count state) (arena state.tally)) 134217728 room)

start_sound : IsSound no_lines
start_sound = record {
  earlier = All-nil (All (IsAt no_lines));
  thread = All-nil (IsAt no_lines);
  counted = refl;
  idle = λ none. refl;
  tallied = refl;
}

-- the lines of a script end where the script stands
record IsEnd (script : Script) : Type 0 where
  final : State
  steps : Steps no_lines (script_lines script) final
  same : script_of final ≡ script

lines_end : (script : Script) → IsWritable script → IsEnd script
lines_end script is =
    let attributes = attributes_read [] script.attributes is.header.each_attribute
    is.header.names in
    let channels = channels_read script.attributes [] script.channels false is.header.each_channel
    is.header.queries in
    let globals = globals_read script.attributes script.channels channels.0 [] script.globals
    is.header.each_global in
    let start : Tally = record { lines = 0; process_lines = 0; shared = 0; own = 0; most = 0 } in
    let threads : AreRead script channels.0 0 [] None start script.threads =
    threads_read script channels.0 script.threads 0 [] None start (omega arith) is.threads in
    let whole : take (behind_threads 0 script.threads) script.values ≡ script.values =
    take_all (behind_threads 0 script.threads) script.values (omega (arith, is.counted)) in
    record {
      final = _;
      steps = steps-append (steps-append (steps-append attributes channels.1) globals)
          threads.steps;
      same = λ i. record {
        attributes = script.attributes;
        channels = script.channels;
        values = whole i;
        threads = threads.same i;
        globals = script.globals;
      };
    }

canonical_means : (script : Script) → IsValidScript script
    → Means (canonical_text script) script
canonical_means script valid =
    let end = lines_end script (valid_writable script valid) in
    let can : IsRunnable (script_of end.final) = subst (λ (s : Script). IsRunnable s) (sym end.same)
    (valid_runnable script valid) in
    let fine = fits_runnable end.final (steps_sound end.steps start_sound) can in
    ap (λ (found : Result State ScriptKind). found >>= (λ (state : State). Ok (script_of state)))
    (steps_said end.steps fine) ∙ ap Ok end.same

-- and a script that its canonical text means is valid
pub canonical_exactly : (script : Script)
    → (IsValidScript script ↔ Means (canonical_text script) script)
canonical_exactly script = (canonical_means script, λ means. (canonical_text script, means))
