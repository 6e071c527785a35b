-- What each line of a generated script makes of what stands before it.
use Rattle.std.proofs.Common.{◌≡◌, ◌≢◌, ℕ, zero, suc, pos, ◌<◌, ◌≤◌, Bool, true, false, cond, eqb, List, [], ◌∷◌, ◌++◌, length, refl, sym, ap, ◌∙◌, arith, lit≤, lit<}
use Rattle.std.specs.Prelude.{Option, Some, None, Result, Ok, Err, codes, decimal, nat_lt, ◌&&◌, ◌==◌, not, slice_index}
use Rattle.std.specs.List.{All, list_all}
use Rattle.std.specs.Option.{ok_or}
use Rattle.std.specs.Cmp.{first_so, second_so}
use Rattle.std.specs.Str.{is_utf8}
use Rattle.std.proofs.lemmas.Bool.{le-leb}
use borrow.Author.Tests.{eqb-false, ltb-true}
use Rattle.std.proofs.lemmas.List.{append-nil}
use Rattle.std.proofs.lemmas.List.Elements.{All-nil, All-cons, All-head, All-tail, All-append, All-weaker}
use Rattle.std.proofs.lemmas.Str.{IsUtf8-from_ascii, is_utf8-from_IsUtf8}
use Rattle.cal_gen.specs.Draws.{drawn, next}
use Rattle.cal_gen.specs.Generated as gen
use Rattle.cal_gen.specs.declared.moves.Move as moves
use Rattle.cal_gen.specs.declared.moves.Move.TheVariants as move
use Rattle.cal_line.specs.FirstFault.{◌>>=◌}
use Rattle.cal_line.specs.Lines.{HasNoNewline}
use Rattle.cal_value.specs.Reading.{value_of}
use Rattle.cal_value.specs.declared.kind.Kind.TheVariants as kind
use Rattle.cal_value.specs.declared.variant.Variant.{Variant}
use Rattle.cal_value.specs.declared.variant.Variant.TheVariants as variant
use Rattle.cal_words.proofs.Bytes.{length-text_words}
use Rattle.cal_script.specs.Limits.{fits}
use Rattle.cal_script.specs.Lines.{is_skipped, words_of}
use Rattle.cal_script.specs.Parts.{allowed, number_said, value_said}
use Rattle.cal_script.specs.Reading.{limited, line_after, text_after, words_after}
use Rattle.cal_script.specs.State.{State, counted, node_length, opening, with_line, with_opening}
use Rattle.cal_script.specs.declared.kind.ScriptKind.{ScriptKind}
use Rattle.cal_script.specs.declared.kind.ScriptKind.TheVariants.{BadEscape, BadValue, NotText, TooMany, WrongArity}
use Rattle.cal_script.specs.declared.script.Line.{Line}
use Rattle.cal_script.specs.declared.script.Line.TheVariants as line
use Rattle.cal_script.specs.declared.tally.Tally.{Tally}
use Rattle.cal_script.specs.Ticks.{ticks_of}
use Rattle.cal_gen.specs.GeneratedScript.{function, iteration, line_of, name_value, number_value, opened, profile}
use Rattle.cal_gen.proofs.GenDigits.{IsPlain, decimal_int, decimal_plain, decimal_short, decimal_uint, decimal_word, plain_text, plain_word}

-- ---- bytes of a line

-- a byte of ASCII that ends no line
abbrev pub IsClean : ℕ → Type 0
IsClean byte = (byte < 128) × (byte ≢ 10)

abbrev pub is_clean : ℕ → Bool
is_clean byte = nat_lt byte 128 && not (byte == 10)

not_true : (b : Bool) → not b ≡ true → b ≡ false
not_true true is = absurd cc
not_true false is = refl

clean_byte : (byte : ℕ) → is_clean byte ≡ true → IsClean byte
clean_byte byte is =
    let small = first_so (nat_lt byte 128) (not (byte == 10)) is in
    let other = second_so (nat_lt byte 128) (not (byte == 10)) is in
    (ltb-true byte 128 small, eqb-false byte 10 (not_true (eqb byte 10) other))

clean_front : (front : List ℕ) → list_all is_clean front ≡ true → All IsClean front
clean_front [] is = All-nil IsClean
clean_front (byte ∷ front) is =
    let first = first_so (is_clean byte) (list_all is_clean front) is in
    let rest = second_so (is_clean byte) (list_all is_clean front) is in
    All-cons IsClean byte front (clean_byte byte first) (clean_front front rest)

pub clean_line : (front word : List ℕ) → list_all is_clean front ≡ true → All IsPlain word → All IsClean (front ++ word)
clean_line front word is plain =
    All-append IsClean front word (clean_front front is)
    (All-weaker IsPlain IsClean (λ byte fine. (omega arith, λ (same : byte ≡ 10). omega arith)) word plain)

ascii_at : (bytes : List ℕ) (i : ℕ) → All IsClean bytes → slice_index bytes i < 128
ascii_at [] i clean = lit< tt
ascii_at (byte ∷ bytes) zero clean = (All-head IsClean byte bytes clean).0
ascii_at (byte ∷ bytes) (suc i) clean = ascii_at bytes i (All-tail IsClean byte bytes clean)

pub clean_utf8 : (bytes : List ℕ) → All IsClean bytes → is_utf8 bytes ≡ true
clean_utf8 bytes clean = is_utf8-from_IsUtf8 bytes (IsUtf8-from_ascii bytes (λ i. ascii_at bytes i clean))

pub clean_whole : (bytes : List ℕ) → All IsClean bytes → HasNoNewline bytes
clean_whole bytes clean = All-weaker IsClean (λ byte. byte ≢ 10) (λ byte fine. fine.1) bytes clean

-- a line of text that fits says what its words say
pub said_line : (state after : State) (text : List ℕ) → All IsClean text → is_skipped text ≡ false
    → words_after state (words_of text) ≡ Ok after → fits after ≡ true → line_after state text ≡ Ok after
unfolding line_after
said_line state after text clean says said fine =
    ap (λ (utf8 : Bool). cond (not utf8) (Err NotText) (cond (is_skipped text) (Ok state) (text_after state text))) (clean_utf8 text clean)
    ∙ ap (λ (skipped : Bool). cond skipped (Ok state) (text_after state text)) says
    ∙ ap (λ (found : Result State ScriptKind). found >>= limited) said
    ∙ ap (λ (fine : Bool). cond fine (Ok after) (Err TooMany)) fine

-- ---- what stands in a generated script

-- what its header declares, and what its threads have done
abbrev pub standing : List Variant → List (List Line) → Option (List Line) → Tally → State
standing values earlier thread tally = record {
  attributes = function ∷ iteration ∷ [];
  channels = profile ∷ [];
  valued = false;
  globals = [];
  values = values;
  earlier = earlier;
  thread = thread;
  tally = tally;
}

name_read : (name : List ℕ) → All IsPlain name → length name ≤ 5 → value_said kind.Str name ≡ Ok (variant.Text name)
name_read name plain short =
    ap (λ (found : Option (List ℕ)). ok_or found BadEscape >>= (λ text. ok_or (value_of kind.Str text) BadValue >>= allowed)) (plain_text name plain)
    ∙ ap (λ (small : Bool). cond small (Ok (variant.Text name)) (Err BadValue)) (le-leb (length name) 4096 (omega arith))

number_read : (n : ℕ) → n < 10000 → value_said kind.Int (decimal n) ≡ Ok (variant.Int (pos n))
number_read n small =
    ap (λ (found : Option (List ℕ)). ok_or found BadEscape >>= (λ text. ok_or (value_of kind.Int text) BadValue >>= allowed)) (plain_text (decimal n) (decimal_plain n (omega arith)))
    ∙ ap (λ (found : Option Variant). ok_or found BadValue >>= allowed) (decimal_int n (omega arith))
    ∙ ap (λ (small : Bool). cond small (Ok (variant.Int (pos n))) (Err BadValue)) (le-leb n 9223372036854775807 (omega arith))

drawn_below : (count x : ℕ) → 0 < count → drawn count x < count
unfolding drawn
drawn_below count x some = omega arith

module _ (values : List Variant) (earlier : List (List Line)) (thread : List Line) (tally : Tally) where
  abbrev before : State
  before = standing values earlier (Some thread) tally

  -- the last thread with a line more, and the values with those that it opens
  abbrev behind : List Variant → Line → ℕ → State
  behind more l words = standing (values ++ more) earlier (Some (thread ++ l ∷ [])) (counted false words tally)

  -- A line is one more of the last thread, and makes a node of at most eight words.
  pub record Goes (text : List ℕ) (more : List Variant) (l : Line) : Type 0 where
    pub words : ℕ
    pub few : words ≤ 8
    pub clean : All IsClean text
    pub says : is_skipped text ≡ false
    pub said : words_after before (words_of text) ≡ Ok (behind more l words)

  -- a line that opens no value
  opens_none : (l : Line) (found : Result State ScriptKind) → found ≡ Ok (with_line l false 0 before) → found ≡ Ok (behind [] l 0)
  opens_none l found is = is ∙ ap (λ (now : List Variant). Ok (standing now earlier (Some (thread ++ l ∷ [])) (counted false 0 tally))) (sym (append-nil values))

  goes_begin : (n : ℕ) → n < 16 → Goes (codes "begin function f" ++ decimal n) (name_value n ∷ []) (line.Begin 0 (length values))
  goes_begin n small =
      let plain = decimal_plain n (omega arith) in
      let name : List ℕ = 102 ∷ decimal n in
      let name_plain = All-cons IsPlain 102 (decimal n) (lit≤ tt, lit< tt, λ (same : 102 ≡ 92). omega arith) plain in
      let short = decimal_short n (omega arith) in
      record {
        words = node_length (name_value n);
        few = omega (arith, length-text_words name);
        clean = clean_line (codes "begin function f") (decimal n) refl plain;
        says = refl;
        said =
            ap (λ (more : List (List ℕ)). words_after before (codes "begin" ∷ codes "function" ∷ more)) (plain_word name name_plain)
            ∙ ap (λ (said : Result Variant ScriptKind). (said >>= (λ v. Ok (opening 0 function v))) >>= (λ o. Ok (with_opening line.Begin o before)))
            (name_read name name_plain (omega arith));
      }

  goes_end : Goes (codes "end function") [] (line.End 0)
  goes_end = record {
    words = 0;
    few = lit≤ tt;
    clean = clean_line (codes "end function") [] refl (All-nil IsPlain);
    says = refl;
    said = opens_none (line.End 0) _ refl;
  }

  goes_iterate : (n : ℕ) → n < 1000 → Goes (codes "set iteration " ++ decimal n) (number_value n ∷ []) (line.Set 1 (length values))
  goes_iterate n small =
      let plain = decimal_plain n (omega arith) in
      record {
        words = 0;
        few = lit≤ tt;
        clean = clean_line (codes "set iteration ") (decimal n) refl plain;
        says = refl;
        said =
            ap (λ (more : List (List ℕ)). words_after before (codes "set" ∷ codes "iteration" ∷ more)) (plain_word (decimal n) plain)
            ∙ ap (λ (said : Result Variant ScriptKind). (said >>= (λ v. Ok (opening 1 iteration v))) >>= (λ o. Ok (with_opening line.Set o before)))
            (number_read n (omega arith));
      }

  goes_tick : (n : ℕ) → n < 10000 → Goes (codes "tick " ++ decimal n) [] (line.Tick (ticks_of n))
  goes_tick n small =
      let plain = decimal_plain n (omega arith) in
      record {
        words = 0;
        few = lit≤ tt;
        clean = clean_line (codes "tick ") (decimal n) refl plain;
        says = refl;
        said = opens_none (line.Tick (ticks_of n)) _
            (ap (λ (more : List (List ℕ)). words_after before (codes "tick" ∷ more)) (plain_word (decimal n) plain)
            ∙ ap (λ (some : Bool). ok_or (cond some (Some (decimal n)) None) WrongArity >>= (λ word. number_said word >>= (λ m. Ok (with_line (line.Tick (ticks_of m)) false 0 before))))
            (decimal_word n (omega arith))
            ∙ ap (λ (found : Option ℕ). ok_or found BadValue >>= (λ m. Ok (with_line (line.Tick (ticks_of m)) false 0 before))) (decimal_uint n (omega arith)));
      }

  goes_look : (flushes : Bool) → Goes (cond flushes (codes "flush profile") (codes "snapshot")) [] (cond flushes (line.Flush 0) line.Snapshot)
  goes_look true = record {
    words = 0;
    few = lit≤ tt;
    clean = clean_line (codes "flush profile") [] refl (All-nil IsPlain);
    says = refl;
    said = opens_none (line.Flush 0) _ refl;
  }
  goes_look false = record {
    words = 0;
    few = lit≤ tt;
    clean = clean_line (codes "snapshot") [] refl (All-nil IsPlain);
    says = refl;
    said = opens_none line.Snapshot _ refl;
  }

  -- the line of each move goes on
  pub goes_move : (m : moves.Move) (s : gen.State) → Goes (gen.moved m s).line (opened m s) (line_of m (length values) s)
  goes_move move.Begin s = goes_begin (drawn 16 (next s.x)) (drawn_below 16 (next s.x) (lit< tt))
  goes_move move.End s = goes_end
  goes_move move.Iterate s = goes_iterate (drawn 1000 (next s.x)) (drawn_below 1000 (next s.x) (lit< tt))
  goes_move move.Tick s = goes_tick (drawn 10000 (next s.x)) (drawn_below 10000 (next s.x) (lit< tt))
  goes_move move.Look s = goes_look (drawn 16 (next s.x) == 0)
