-- The text of a generated script means the script that its definition gives.
use Rattle.std.proofs.Common.{◌≡◌, ℕ, zero, suc, ◌+◌, ◌*◌, ◌/◌, ◌≤◌, Bool, true, false, leb, List, [], ◌∷◌, ◌++◌, length, take, refl, sym, ap, ◌∙◌, arith, append_assoc}
use Rattle.std.specs.Prelude.{Option, Some, None, Result, Ok, codes, ◌&&◌}
use Rattle.std.specs.List.{All}
use Rattle.std.specs.Option.{option_to_list}
use Rattle.std.proofs.Math.Nat.{le-mul_of_pos_right, mul-le-mul}
use Rattle.std.proofs.lemmas.Bool.{le-leb}
use Rattle.std.proofs.lemmas.List.{append-nil, length-append}
use Rattle.std.proofs.lemmas.List.Elements.{All-nil}
use Rattle.cal_gen.specs.Draws.{drawn, next}
use Rattle.cal_gen.specs.Generated as gen
use Rattle.cal_line.specs.FirstFault.{◌>>=◌, after_lines}
use Rattle.cal_line.proofs.Inputs.{lines_of-newline}
use Rattle.cal_value.specs.declared.variant.Variant.{Variant}
use Rattle.cal_script.specs.Limits.{arena, fits, tree_words}
use Rattle.cal_script.specs.Lines.{lines_of}
use Rattle.cal_script.specs.Reading.{Means, line_after}
use Rattle.cal_script.specs.State.{State, counted, next_thread, no_lines, script_of}
use Rattle.cal_script.specs.declared.kind.ScriptKind.{ScriptKind}
use Rattle.cal_script.specs.declared.script.Line.{Line}
use Rattle.cal_script.specs.declared.script.Script.{Script}
use Rattle.cal_script.specs.declared.tally.Tally.{Tally}
use Rattle.cal_gen.specs.GeneratedScript.{Lines, Step, Threads, function, generated_script, iteration, lines_behind, lines_from, profile, step_from, threads_behind, threads_from}
use Rattle.cal_gen.proofs.Behind.{line_lines, line_values, thread_threads, thread_values}
use Rattle.cal_gen.proofs.GenDigits.{IsPlain}
use Rattle.cal_gen.proofs.GenLines.{Goes, IsClean, clean_line, clean_whole, goes_move, said_line, standing}

-- what stands, and the lines behind it, say the script
abbrev Says : State → List ℕ → Script → Type 0
Says state text script = (after_lines line_after state (lines_of text) >>= (λ final. Ok (script_of final))) ≡ Ok script

says_line : (state after : State) (line rest : List ℕ) (script : Script) → All IsClean line → line_after state line ≡ Ok after
    → Says after rest script → Says state (line ++ 10 ∷ rest) script
says_line state after line rest script clean said says =
    ap (λ (found : List (List ℕ)). after_lines line_after state found >>= (λ final. Ok (script_of final))) (lines_of-newline line rest (clean_whole line clean))
    ∙ ap (λ (found : Result State ScriptKind). (found >>= (λ s. after_lines line_after s (lines_of rest))) >>= (λ final. Ok (script_of final))) said ∙ says

says_text : (state : State) (text same : List ℕ) (script : Script) → text ≡ same → Says state same script → Says state text script
says_text state text same script is says =
    ap (λ t. after_lines line_after state (lines_of t) >>= (λ final. Ok (script_of final))) is ∙ says

says_behind : (state same : State) (text : List ℕ) (script : Script) → state ≡ same → Says same text script → Says state text script
says_behind state same text script is says =
    ap (λ s. after_lines line_after s (lines_of text) >>= (λ final. Ok (script_of final))) is ∙ says

six : (a b c d e f : Bool) → a ≡ true → b ≡ true → c ≡ true → d ≡ true → e ≡ true → f ≡ true → (a && b && c && d && e && f) ≡ true
six a b c d e f p q r s t u = λ i. p i && q i && r i && s i && t i && u i

-- ---- what stands behind lines and threads

-- the last thread with lines more
abbrev behind : List Variant → List (List Line) → List Line → Tally → Lines → State
behind values earlier thread tally made = standing (values ++ made.values) earlier (Some (thread ++ made.lines)) tally

-- a line, and those behind it
line_behind : (values : List Variant) (earlier : List (List Line)) (thread : List Line) (tally : Tally) (step : Step) (count : ℕ)
    → behind (values ++ step.values) earlier (thread ++ step.line ∷ []) tally (lines_from count (length (values ++ step.values)) step.after)
    ≡ behind values earlier thread tally (lines_behind step (lines_from count (length values + length step.values) step.after))
line_behind values earlier thread tally step count =
    λ i. standing (line_values values step count i) earlier (Some (line_lines values thread step count i)) tally

-- a script of what the header declares
abbrev script_with : List Variant → List (List Line) → Script
script_with values threads = record { attributes = function ∷ iteration ∷ []; channels = profile ∷ []; values = values; threads = threads; globals = [] }

abbrev script_behind : List Variant → List (List Line) → Threads → Script
script_behind values threads made = script_with (values ++ made.values) (threads ++ made.threads)

-- a thread, and those behind it
thread_behind : (values : List Variant) (threads : List (List Line)) (thread : Lines) (count lines x : ℕ)
    → script_behind (values ++ thread.values) (threads ++ thread.lines ∷ []) (threads_from count lines (length (values ++ thread.values)) x)
    ≡ script_behind values threads (threads_behind thread (threads_from count lines (length values + length thread.values) x))
thread_behind values threads thread count lines x =
    λ i. script_with (thread_values values thread count lines x i) (thread_threads values threads thread count lines x i)

module _ (threads lines : ℕ) (few : threads ≤ 64) (all : threads * lines ≤ 1048576) where
  -- the tree has room for the nodes of so many threads
  tree_fits : (begun words : ℕ) → begun ≤ threads → 1 ≤ threads → words ≤ 8 * lines → tree_words begun words ≤ 134217728
  tree_fits begun words within some small =
      let whole : (begun + 1) * words ≤ (threads + 1) * (8 * lines) = mul-le-mul (omega arith) small in
      let quarter : (begun + 1) * (words / 4) ≤ (begun + 1) * words = mul-le-mul (omega arith) (omega arith) in
      let one : lines ≤ lines * threads = le-mul_of_pos_right lines some in
      let split : (threads + 1) * (8 * lines) ≡ 8 * (threads * lines) + 8 * lines = grind arith in
      let turned : lines * threads ≡ threads * lines = grind arith in
      omega arith

  -- what stands is within the limits
  standing_fits : (values : List Variant) (earlier : List (List Line)) (thread : Option (List Line)) (tally : Tally)
      → length earlier + length (option_to_list thread) ≤ threads → 1 ≤ threads → tally.lines ≤ 1048576
      → tally.process_lines ≡ 0 → arena tally ≤ 8 * lines → fits (standing values earlier thread tally) ≡ true
  standing_fits values earlier thread tally within some short none small =
      let begun : ℕ = length earlier + length (option_to_list thread) in
      six true true (leb begun 64) (leb tally.lines 1048576) (leb tally.process_lines 65536) (leb (tree_words begun (arena tally)) 134217728)
      refl refl (le-leb begun 64 (omega arith)) (le-leb tally.lines 1048576 short) (le-leb tally.process_lines 65536 (omega (arith, none)))
      (le-leb (tree_words begun (arena tally)) 134217728 (tree_fits begun (arena tally) within some small))

  -- in a thread, before so many lines more
  record Within (earlier : List (List Line)) (tally : Tally) (count : ℕ) : Type 0 where
    begun : length earlier + 1 ≤ threads
    short : tally.lines + count ≤ 1048576
    process : tally.process_lines ≡ 0
    shared : tally.shared ≡ 0
    own : tally.own + 8 * count ≤ 8 * lines
    most : tally.most ≤ 8 * lines

  within_more : (earlier : List (List Line)) (tally : Tally) (count words : ℕ) → words ≤ 8 → Within earlier tally (suc count)
      → Within earlier (counted false words tally) count
  within_more earlier tally count words small within = record {
    begun = within.begun;
    short = omega (arith, within.short);
    process = within.process;
    shared = within.shared;
    own = omega (arith, within.own);
    most = within.most;
  }

  within_fits : (values : List Variant) (earlier : List (List Line)) (thread : List Line) (tally : Tally) (count : ℕ)
      → Within earlier tally count → fits (standing values earlier (Some thread) tally) ≡ true
  within_fits values earlier thread tally count within =
      standing_fits values earlier (Some thread) tally (omega (arith, within.begun)) (omega (arith, within.begun))
      (omega (arith, within.short)) within.process (omega (arith, within.shared, within.own, within.most))

  -- so many lines of a thread, and what follows them
  lines_say : (count x depth : ℕ) (values : List Variant) (earlier : List (List Line)) (thread : List Line) (tally : Tally)
      (more : List ℕ) (script : Script) → Within earlier tally count
      → ((after : Tally) → Within earlier after 0 → after.lines ≡ tally.lines + count
      → Says (behind values earlier thread after (lines_from count (length values) (record { x = x; depth = depth }))) more script)
      → Says (standing values earlier (Some thread) tally) ((gen.lines_from count (record { x = x; depth = depth })).text ++ more) script
  lines_say zero x depth values earlier thread tally more script within then =
      let same : standing values earlier (Some thread) tally ≡ standing (values ++ []) earlier (Some (thread ++ [])) tally =
      λ i. standing (sym (append-nil values) i) earlier (Some (sym (append-nil thread) i)) tally in
      says_behind _ _ more script same (then tally within (omega arith))
  lines_say (suc count) x depth values earlier thread tally more script within then =
      let s : gen.State = record { x = x; depth = depth } in
      let text : gen.Step = gen.line_from s in
      let step : Step = step_from (length values) s in
      let goes : Goes values earlier thread tally text.line step.values step.line =
      goes_move values earlier thread tally (gen.move_of (drawn 8 (next x)) depth) (record { x = next x; depth = depth }) in
      let after : Tally = counted false goes.words tally in
      let next : Within earlier after count = within_more earlier tally count goes.words goes.few within in
      let now : List Variant = values ++ step.values in
      let done : List Line = thread ++ step.line ∷ [] in
      let said = said_line (standing values earlier (Some thread) tally) (standing now earlier (Some done) after)
      text.line goes.clean goes.says goes.said (within_fits now earlier done after count next) in
      let says = lines_say count step.after.x step.after.depth now earlier done after more script next
      (λ last fine counts. says_behind _ _ more script (line_behind values earlier thread last step count)
      (then last fine (omega (arith, counts)))) in
      says_text _ _ _ script (append_assoc text.line (10 ∷ (gen.lines_from count text.after).text) more)
      (says_line (standing values earlier (Some thread) tally) _ text.line ((gen.lines_from count text.after).text ++ more) script goes.clean said says)

  -- between threads, before so many threads more
  record Between (earlier : List (List Line)) (thread : Option (List Line)) (tally : Tally) (count : ℕ) : Type 0 where
    begun : length earlier + length (option_to_list thread) + count ≤ threads
    short : tally.lines + count * lines ≤ 1048576
    process : tally.process_lines ≡ 0
    shared : tally.shared ≡ 0
    own : tally.own ≤ 8 * lines
    most : tally.most ≤ 8 * lines

  begins : (earlier : List (List Line)) (thread : Option (List Line)) (tally : Tally) (count : ℕ) → Between earlier thread tally (suc count)
      → Within (earlier ++ option_to_list thread) (next_thread tally) lines
  begins earlier thread tally count between =
      let product : suc count * lines ≡ count * lines + lines = grind arith in
      let joined = length-append earlier (option_to_list thread) in
      record {
        begun = omega (arith, between.begun);
        short = omega (arith, between.short);
        process = between.process;
        shared = between.shared;
        own = omega arith;
        most = omega (arith, between.own, between.most);
      }

  ends_thread : (earlier : List (List Line)) (thread : Option (List Line)) (done : List Line) (tally after : Tally) (count : ℕ)
      → Between earlier thread tally (suc count) → Within (earlier ++ option_to_list thread) after 0 → after.lines ≡ tally.lines + lines
      → Between (earlier ++ option_to_list thread) (Some done) after count
  ends_thread earlier thread done tally after count between within counts =
      let product : suc count * lines ≡ count * lines + lines = grind arith in
      let joined = length-append earlier (option_to_list thread) in
      record {
        begun = omega (arith, between.begun);
        short = omega (arith, between.short);
        process = within.process;
        shared = within.shared;
        own = omega (arith, within.own);
        most = within.most;
      }

  -- so many threads
  threads_say : (count x : ℕ) (values : List Variant) (earlier : List (List Line)) (thread : Option (List Line)) (tally : Tally)
      → Between earlier thread tally count → Says (standing values earlier thread tally) (gen.threads_from count lines x)
      (script_behind values (earlier ++ option_to_list thread) (threads_from count lines (length values) x))
  threads_say zero x values earlier thread tally between =
      let before : List (List Line) = earlier ++ option_to_list thread in
      λ i. Ok (script_with (sym (append-nil values) i) (sym (append-nil before) i))
  threads_say (suc count) x values earlier thread tally between =
      let text : gen.Lines = gen.lines_from lines (record { x = x; depth = 0 }) in
      let made : Lines = lines_from lines (length values) (record { x = x; depth = 0 }) in
      let more : List ℕ = gen.threads_from count lines text.x in
      let before : List (List Line) = earlier ++ option_to_list thread in
      let begun : Tally = next_thread tally in
      let within : Within before begun lines = begins earlier thread tally count between in
      let script : Script = script_behind values before (threads_from (suc count) lines (length values) x) in
      let clean = clean_line (codes "thread") [] refl (All-nil IsPlain) in
      let said = said_line (standing values earlier thread tally) (standing values before (Some []) begun) (codes "thread") clean refl refl
      (within_fits values before [] begun lines within) in
      says_line (standing values earlier thread tally) (standing values before (Some []) begun) (codes "thread") (text.text ++ more) script clean said
      (lines_say lines x 0 values before [] begun more script within
      (λ after fine counts. threads_say count text.x (values ++ made.values) before (Some made.lines) after
      (ends_thread earlier thread made.lines tally after count between fine counts)
      ∙ ap Ok (thread_behind values before made count lines text.x)))

-- ---- the whole text

abbrev start : Tally
start = record { lines = 0; process_lines = 0; shared = 0; own = 0; most = 0 }

abbrev first : List ℕ
first = codes "attribute function string 276"

abbrev second : List ℕ
second = codes "attribute iteration int 21"

abbrev third : List ℕ
third = codes "channel profile event,timer,aggregate"

header_says : (rest : List ℕ) (script : Script) → Says (standing [] [] None start) rest script → Says no_lines (gen.header ++ rest) script
header_says rest script says =
    let whole : State = standing [] [] None start in
    let none = All-nil IsPlain in
    let clean = clean_line first [] refl none in
    let clean2 = clean_line second [] refl none in
    let clean3 = clean_line third [] refl none in
    let one : State = record no_lines { attributes = take 1 whole.attributes } in
    let two : State = record no_lines { attributes = whole.attributes } in
    says_line no_lines one first (second ++ 10 ∷ (third ++ 10 ∷ rest)) script clean (said_line no_lines one first clean refl refl refl)
    (says_line one two second (third ++ 10 ∷ rest) script clean2 (said_line one two second clean2 refl refl refl)
    (says_line two whole third rest script clean3 (said_line two whole third clean3 refl refl refl) says))

-- the text of a seed and two sizes means the script that is defined by them
pub generated_means : (seed threads lines : ℕ) → threads ≤ 64 → threads * lines ≤ 1048576 → Means (gen.generated seed threads lines) (generated_script seed threads lines)
generated_means seed threads lines few all =
    let between : Between threads lines few all [] None start threads = record {
      begun = omega arith;
      short = omega arith;
      process = refl;
      shared = refl;
      own = omega arith;
      most = omega arith;
    } in
    header_says (gen.threads_from threads lines seed) (generated_script seed threads lines)
    (threads_say threads lines few all threads seed [] [] None start between)
