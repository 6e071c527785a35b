-- A text that is cut at a newline.
use Rattle.std.proofs.Common.{◌≡◌, ◌<◌, ◌≤◌, ◌+◌, ℕ, Bool, eqb, List, ◌∷◌, ◌++◌, length, get_or, take, drop, sym, ap, ◌∙◌, length-append, arith}
use Rattle.std.proofs.lemmas.List.{drop_more, get_or-take, get_or_default, length-take-le, take-append-drop}
use Rattle.std.specs.Prelude.{not}
use Rattle.std.specs.List.{prefix_len}
use Rattle.std.specs.Simd.Lanes.{chunk}
use Rattle.std.proofs.lemmas.Bool.{eqb-true, eq-eqb, both_ways}
use Rattle.std.proofs.lemmas.Simd.{run_in_chunk_fails, run_in_chunk_stops}
use Rattle.cal_line.specs.Lines.{HasNoNewline}
use Rattle.cal_line.proofs.Inputs.{lines_of-newline}
use Rattle.cal_script.specs.Lines.{lines_of}
use Rattle.cal_script.specs.Rests.{IsFirstNewline}
use Rattle.std.proofs.Math.Seq.{get_or-append_seam, take-append_seam, drop-append-add}

pub record IsCutAt (text line rest : List ℕ) : Type 0 where
  pub within : length line < length text
  pub newline : get_or text (length line) 0 ≡ 10
  pub line_is : take (length line) text ≡ line
  pub rest_is : drop (length line + 1) text ≡ rest

pub cut_at : (text line rest : List ℕ) → text ≡ line ++ 10 ∷ rest → IsCutAt text line rest
cut_at text line rest is = record {
  within = omega (arith, ap length is, length-append line (10 ∷ rest));
  newline = ap (λ l. get_or l (length line) 0) is ∙ get_or-append_seam line 10 rest 0;
  line_is = ap (take (length line)) is ∙ take-append_seam line (10 ∷ rest);
  rest_is = ap (drop (length line + 1)) is ∙ drop-append-add line (10 ∷ rest) 1;
}

-- a text is what stands before its first newline, and the lines behind that
pub lines_of-first : (text : List ℕ) (place : ℕ) → IsFirstNewline text place → lines_of text ≡ take place text ∷ lines_of (drop (place + 1) text)
lines_of-first text place first =
    let parts : text ≡ take place text ++ 10 ∷ drop (place + 1) text =
    sym (take-append-drop place text) ∙ ap (λ rest. take place text ++ rest) (drop_more text place 0 first.within ∙ ap (λ byte. byte ∷ drop (place + 1) text) first.newline)
    in
    let short : length (take place text) ≡ place = length-take-le place text (omega (arith, first.within)) in
    let none : HasNoNewline (take place text) = λ k d below is.
    first.before k (omega (arith, short, below)) (sym (get_or-take place text k 0 (omega (arith, short, below))) ∙ sym (get_or_default (take place text) k d 0 below) ∙ is)
    in
    ap lines_of parts ∙ lines_of-newline (take place text) (drop (place + 1) text) none

-- a newline that is the first among the first 32 bytes
pub first_newline_near : (bytes : List ℕ) (place : ℕ) → 32 ≤ length bytes → place ≡ prefix_len (λ byte. not (eqb byte 10)) (chunk 0 32 bytes) → place < 32
    → IsFirstNewline bytes place
first_newline_near bytes place long counted near =
    let is_newline : ℕ → Bool = λ byte. eqb byte 10 in
    let same : 0 + place ≡ place = omega arith in
    record {
      within = omega arith;
      newline = ap (λ n. get_or bytes n 0) (sym same) ∙ eqb-true (get_or bytes (0 + place) 0) 10 (run_in_chunk_stops is_newline bytes 0 32 place 0 (omega arith) counted near);
      before = λ k below is. both_ways (is_newline (get_or bytes k 0)) (run_in_chunk_fails is_newline bytes 0 32 place 0 (omega arith) counted k (omega arith) (omega arith)) (eq-eqb (get_or bytes k 0) 10 is);
    }
