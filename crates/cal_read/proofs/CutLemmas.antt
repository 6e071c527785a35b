-- Lines that end and begin, as bytes come.
use Rattle.std.proofs.Common.{◌≡◌, ◌≢◌, ℕ, ◌<◌, Bool, true, false, eqb, if◌then◌else◌, List, [], ◌∷◌, ◌++◌, length, refl, sym, ap, ◌∙◌, append_assoc, arith}
use Rattle.std.specs.List.{All, onto_first}
use Rattle.std.proofs.lemmas.Bool.{ne_eqb, cond-false}
use Rattle.std.proofs.lemmas.List.Elements.{All-append, All-head, All-push, All-tail}
use Rattle.std.proofs.lemmas.Grind.{flat_map-append}
use Rattle.cal_line.specs.Lines.{lines_of, HasNoNewline}
use Rattle.cal_line.proofs.Inputs.{lines_of-newline, lines_of-last}
use Rattle.cal_read.specs.Cuts.{onto_ended, ended_lines, joined, IsCut}

append-nil : {A : Type 0} (xs : List A) → xs ++ [] ≡ xs
append-nil [] = refl
append-nil (x ∷ xs) = ap (λ r. x ∷ r) (append-nil xs)

-- ---- what a cut says of the bytes

ended-other : (byte : ℕ) (bytes : List ℕ) → byte ≢ 10 → ended_lines (byte ∷ bytes) ≡ onto_ended byte (ended_lines bytes)
ended-other byte bytes other = cond-false (eqb byte 10) ([] ∷ ended_lines bytes) (onto_ended byte (ended_lines bytes)) (ne_eqb byte 10 other)

ended-begun : (begun : List ℕ) → HasNoNewline begun → ended_lines begun ≡ []
ended-begun [] none = refl
ended-begun (byte ∷ begun) none =
    ended-other byte begun (All-head (λ b. b ≢ 10) byte begun none)
    ∙ ap (onto_ended byte) (ended-begun begun (All-tail (λ b. b ≢ 10) byte begun none))

ended-newline : (line rest : List ℕ) → HasNoNewline line → ended_lines (line ++ 10 ∷ rest) ≡ line ∷ ended_lines rest
ended-newline [] rest none = refl
ended-newline (byte ∷ line) rest none =
    ended-other byte (line ++ 10 ∷ rest) (All-head (λ b. b ≢ 10) byte line none)
    ∙ ap (onto_ended byte) (ended-newline line rest (All-tail (λ b. b ≢ 10) byte line none))

joined-next : (line : List ℕ) (lines : List (List ℕ)) (rest : List ℕ) → joined (line ∷ lines) ++ rest ≡ line ++ 10 ∷ (joined lines ++ rest)
joined-next line lines rest = append_assoc (line ++ 10 ∷ []) (joined lines) rest ∙ append_assoc line (10 ∷ []) (joined lines ++ rest)

ended-joined : (lines : List (List ℕ)) (rest : List ℕ) → All HasNoNewline lines → ended_lines (joined lines ++ rest) ≡ lines ++ ended_lines rest
ended-joined [] rest ended = refl
ended-joined (line ∷ lines) rest ended =
    ap ended_lines (joined-next line lines rest)
    ∙ ended-newline line (joined lines ++ rest) (All-head HasNoNewline line lines ended)
    ∙ ap (λ r. line ∷ r) (ended-joined lines rest (All-tail HasNoNewline line lines ended))

lines-joined : (lines : List (List ℕ)) (begun : List ℕ) → All HasNoNewline lines → lines_of (joined lines ++ begun) ≡ lines ++ lines_of begun
lines-joined [] begun ended = refl
lines-joined (line ∷ lines) begun ended =
    ap lines_of (joined-next line lines begun)
    ∙ lines_of-newline line (joined lines ++ begun) (All-head HasNoNewline line lines ended)
    ∙ ap (λ r. line ∷ r) (lines-joined lines begun (All-tail HasNoNewline line lines ended))

module _ (bytes : List ℕ) (lines : List (List ℕ)) (begun : List ℕ) (cut : IsCut bytes lines begun) where
  pub cut-ended : ended_lines bytes ≡ lines
  cut-ended = ap ended_lines cut.bytes_are ∙ ended-joined lines begun cut.ended ∙ ap (λ r. lines ++ r) (ended-begun begun cut.begun_line) ∙ append-nil lines

  -- what comes behind lines that have ended
  pub cut-more : begun ≡ [] → (more : List ℕ) → ended_lines (bytes ++ more) ≡ lines ++ ended_lines more
  cut-more none more =
      ap (λ r. ended_lines (r ++ more)) (cut.bytes_are ∙ ap (λ r. joined lines ++ r) none ∙ append-nil (joined lines)) ∙ ended-joined lines more cut.ended

  -- the lines of the whole, where one has begun, and where none has
  pub cut-lines : 0 < length begun → lines_of bytes ≡ lines ++ begun ∷ []
  cut-lines some = ap lines_of cut.bytes_are ∙ lines-joined lines begun cut.ended ∙ ap (λ r. lines ++ r) (lines_of-last begun some cut.begun_line)

  pub cut-lines_none : begun ≡ [] → lines_of bytes ≡ lines
  cut-lines_none none = ap lines_of cut.bytes_are ∙ lines-joined lines begun cut.ended ∙ ap (λ r. lines ++ lines_of r) none ∙ append-nil lines

  -- more of the line that has begun
  pub cut-begin : (part : List ℕ) → HasNoNewline part → IsCut (bytes ++ part) lines (begun ++ part)
  cut-begin part none = record {
    bytes_are = ap (λ r. r ++ part) cut.bytes_are ∙ append_assoc (joined lines) begun part;
    ended = cut.ended;
    begun_line = All-append (λ b. b ≢ 10) begun part cut.begun_line none;
  }

  -- the line that has begun ends
  pub cut-end : IsCut (bytes ++ 10 ∷ []) (lines ++ begun ∷ []) []
  cut-end = record {
    bytes_are =
        ap (λ r. r ++ 10 ∷ []) cut.bytes_are ∙ append_assoc (joined lines) begun (10 ∷ [])
        ∙ sym (append-nil (joined (lines ++ begun ∷ [])) ∙ flat_map-append (λ line. line ++ 10 ∷ []) lines (begun ∷ []) ∙ ap (λ r. joined lines ++ r) (append-nil (begun ++ 10 ∷ [])));
    ended = All-push HasNoNewline lines begun cut.ended cut.begun_line;
    begun_line = λ k d l. absurd (omega (arith, l));
  }

pub cut-start : IsCut [] [] []
cut-start = record { bytes_are = refl; ended = λ k d l. absurd (omega (arith, l)); begun_line = λ k d l. absurd (omega (arith, l)) }

-- the lines that have ended are the first ones
front_more : (byte : ℕ) (ended lines more : List (List ℕ)) → lines ≡ ended ++ more → (rest : List (List ℕ)) × (onto_first byte lines ≡ onto_ended byte ended ++ rest)
front_more byte [] lines more is = (onto_first byte lines, refl)
front_more byte (line ∷ ended) lines more is = (more, ap (onto_first byte) is)

front_byte : (b : Bool) (byte : ℕ) (ended lines : List (List ℕ)) → (more : List (List ℕ)) × (lines ≡ ended ++ more)
    → (rest : List (List ℕ)) × ((if b then [] ∷ lines else onto_first byte lines) ≡ (if b then [] ∷ ended else onto_ended byte ended) ++ rest)
front_byte true byte ended lines front = (front.0, ap (λ r. [] ∷ r) front.1)
front_byte false byte ended lines front = front_more byte ended lines front.0 front.1

pub ended-front : (bytes : List ℕ) → (more : List (List ℕ)) × (lines_of bytes ≡ ended_lines bytes ++ more)
ended-front [] = ([], refl)
ended-front (byte ∷ bytes) = front_byte (eqb byte 10) byte (ended_lines bytes) (lines_of bytes) (ended-front bytes)
