-- Every valid script can be run.
use Rattle.std.proofs.Common.{◌≡◌, ℕ, ◌≤◌, Bool, true, false, ◌&&◌, leb, List, [], ◌∷◌, ◌++◌, length, All, refl, sym, subst, ap, ◌∙◌, arith}
use Rattle.std.specs.Prelude.{Result, Ok, not}
use Rattle.std.specs.Option.{option_to_list}
use Rattle.std.specs.Str.{is_utf8}
use Rattle.std.proofs.lemmas.Bool.{leb-true}
use Rattle.std.proofs.lemmas.List.{length-append}
use Rattle.std.proofs.lemmas.List.Sums.{sum_by-append}
use Rattle.std.proofs.lemmas.List.Elements.{All-nil, All-append}
use Rattle.cal_line.specs.FirstFault.{after_lines}
use Rattle.cal_script.specs.declared.kind.ScriptKind.{ScriptKind}
use Rattle.cal_script.specs.declared.kind.ScriptKind.TheVariants.{NotText, TooMany}
use Rattle.cal_script.specs.declared.script.Script.{Script}
use Rattle.cal_script.specs.Lines.{is_skipped, lines_of, words_of}
use Rattle.cal_script.specs.Limits.{arena, fits, thread_count, tree_words}
use Rattle.cal_script.specs.Reading.{IsValidScript, limited, line_after, text_after, words_after}
use Rattle.cal_script.specs.State.{State, no_lines, script_of}
use Rattle.cal_script.specs.declared.tally.Tally.{Tally}
use Rattle.cal_script.proofs.Tallies.{arena-script_tally, process_lines-script_tally}
use Rattle.cal_script.specs.Shapes.{tree_arena}
use Rattle.cal_script.specs.Valid.{IsRunnable}
use Rattle.cal_valid.proofs.Binds.{bind_ok, choice_ok, if_ok, unless_ok}
use Rattle.cal_valid.proofs.Declared.{IsHeaded, nothing_headed, words_headed}
use Rattle.cal_valid.proofs.States.{IsAt, IsSound, ended, ended_length}
use Rattle.cal_valid.proofs.Steps.{words_sound}

-- what stands is sound and within the limits
record IsFine (state : State) : Type 0 where
  headed : IsHeaded state.attributes state.globals
  sound : IsSound state
  within : fits state ≡ true

start_fine : IsFine no_lines
start_fine = record {
  headed = nothing_headed;
  sound = record { earlier = All-nil (All (IsAt no_lines)); thread = All-nil (IsAt no_lines); counted = refl; idle = λ none. refl; tallied = refl };
  within = refl;
}

same_fine : (made next : State) (said : Result State ScriptKind) → said ≡ Ok made → said ≡ Ok next → IsFine made → IsFine next
same_fine made next said is also fine = let same : made ≡ next = cc in let P : State → Type 0 = λ s. IsFine s in subst P same fine

text_fine : (state next : State) (line : List ℕ) → IsFine state → text_after state line ≡ Ok next → IsFine next
text_fine state next line fine is =
    let made = bind_ok (words_after state (words_of line)) (λ made. limited made) next is in
    let passed = if_ok (fits made.0) TooMany (Ok made.0) next made.2 in
    same_fine made.0 next (Ok made.0) refl passed.1 (record {
      headed = words_headed state made.0 (words_of line) made.1 fine.headed;
      sound = words_sound state made.0 (words_of line) made.1 fine.sound;
      within = passed.0;
    })

line_fine : (state next : State) (line : List ℕ) → IsFine state → line_after state line ≡ Ok next → IsFine next
unfolding line_after
line_fine state next line fine is =
    let text = unless_ok (not (is_utf8 line)) NotText _ next is in
    choice_ok (is_skipped line) (Ok state) (text_after state line) next text.1
    (λ same. same_fine state next (Ok state) refl same fine)
    (λ says. text_fine state next line fine says)

lines_fine : (lines : List (List ℕ)) (state next : State) → IsFine state → after_lines line_after state lines ≡ Ok next → IsFine next
lines_fine [] state next fine is = same_fine state next (Ok state) refl is fine
lines_fine (line ∷ lines) state next fine is =
    let made = bind_ok (line_after state line) (λ made. after_lines line_after made lines) next is in
    lines_fine lines made.0 next (line_fine state made.0 line fine made.1) made.2

-- six tests that passed
all_six : (a b c d e f : Bool) → (a && b && c && d && e && f) ≡ true
    → (a ≡ true) × (b ≡ true) × (c ≡ true) × (d ≡ true) × (e ≡ true) × (f ≡ true)
all_six false b c d e f is = absurd cc
all_six true false c d e f is = absurd cc
all_six true true false d e f is = absurd cc
all_six true true true false e f is = absurd cc
all_six true true true true false f is = absurd cc
all_six true true true true true f is = (refl, refl, refl, refl, refl, is)

thread_number : (state : State) → length (state.earlier ++ option_to_list state.thread) ≡ thread_count state
thread_number state = length-append state.earlier (option_to_list state.thread)

runnable : (state : State) → IsFine state → IsRunnable (script_of state)
runnable state fine =
    let passed =
    all_six (leb (length state.attributes) 1024) (leb (length state.channels) 16) (leb (thread_count state) 64) (leb state.tally.lines 1048576)
    (leb state.tally.process_lines 65536) (leb (tree_words (thread_count state) (arena state.tally)) 134217728) fine.within in
    let attributes = leb-true (length state.attributes) 1024 passed.0 in
    let channels = leb-true (length state.channels) 16 passed.1 in
    let threads = leb-true (thread_count state) 64 passed.2 in
    let few = leb-true state.tally.lines 1048576 passed.3 in
    let counted = fine.sound.counted in
    record {
      few_attributes = attributes;
      few_channels = channels;
      few_threads = omega (arith, length-append state.earlier (option_to_list state.thread), threads);
      few_lines = rw sum_by-append (omega (arith, ended_length state.thread, counted, few));
      few_process_lines = omega (
        arith,
        ap (λ (t : Tally). t.process_lines) fine.sound.tallied,
        process_lines-script_tally (script_of state),
        leb-true state.tally.process_lines 65536 passed.4,
      );
      room =
          (let shape = leb-true (tree_words (thread_count state) (arena state.tally)) 134217728 passed.5 in
          let area : tree_arena (script_of state) ≡ arena state.tally =
          sym (arena-script_tally (script_of state)) ∙ ap arena fine.sound.tallied in
          let counts : tree_words (length (state.earlier ++ option_to_list state.thread)) (tree_arena (script_of state))
          ≡ tree_words (thread_count state) (arena state.tally) = (λ i. tree_words (thread_number state i) (area i)) in
          subst (λ (n : ℕ). n ≤ 134217728) (sym counts) shape);
      declared = fine.headed.declared;
      globals = fine.headed.owned;
      places = All-append (All (IsAt state)) state.earlier (option_to_list state.thread) fine.sound.earlier (ended (IsAt state) state.thread fine.sound.thread);
    }

pub valid_runnable : (script : Script) → IsValidScript script → IsRunnable script
valid_runnable script valid =
    let state = bind_ok (after_lines line_after no_lines (lines_of valid.0)) (λ state. Ok (script_of state)) script valid.1 in
    let same : script_of state.0 ≡ script = (let e = state.2 in cc) in
    let P : Script → Type 0 = λ s. IsRunnable s in
    subst P same (runnable state.0 (lines_fine (lines_of valid.0) no_lines state.0 start_fine state.1))
