-- A journal that stands behind the bytes of a script.
use Rattle.std.proofs.Common.{◌≡◌, ◌≢◌, ℕ, suc, Bool, true, false, cond, eqb, List, [], ◌∷◌, ◌++◌, length, take, drop, refl, sym, ap, subst, ◌∙◌, inl, inr}
use Rattle.std.specs.Prelude.{Ok, Err, Result, Some, codes, nat_eq}
use Rattle.std.specs.Cmp.{first_so, second_so}
use Rattle.std.specs.Cmp.Lexicographic.{same_text}
use Rattle.std.specs.List.{All, flat_map, onto_first, starts_with}
use Rattle.std.specs.Str.{is_utf8}
use Rattle.std.proofs.Math.Seq.{take-append_seam, drop-append_seam}
use Rattle.std.proofs.lemmas.Bool.{cases_Bool}
use Rattle.std.proofs.lemmas.List.{take-append-drop}
use Rattle.std.proofs.lemmas.List.Elements.{All-nil, All-cons, All-head, All-tail}
use Rattle.std.proofs.lemmas.List.Splits.{slice_split_at, slice_split_none}
use Rattle.cal_line.specs.FirstFault.{◌>>=◌, after_lines}
use Rattle.cal_line.specs.Lines.{HasNoNewline}
use Rattle.cal_line.proofs.Inputs.{lines_of-newline}
use Rattle.cal_script.specs.declared.journal.Journal.{Journal}
use Rattle.cal_script.specs.declared.kind.ScriptKind.{ScriptKind}
use Rattle.cal_script.specs.declared.kind.ScriptKind.TheVariants.{NotText, UnknownWord}
use Rattle.cal_script.specs.declared.script.Script.{Script}
use Rattle.cal_script.specs.Lines.{is_skipped, joined, lines_of, words_of}
use Rattle.cal_script.specs.Reading as scripts
use Rattle.cal_script.specs.State as states
use Rattle.cal_journal.specs.Both.{begins, ends_word, script_length}
use Rattle.cal_journal.specs.Marks.{printed}
use Rattle.cal_journal.specs.Printing.{journal_text, newline, op_text, threads_text}
use Rattle.cal_journal.specs.ReadBack.{EndsItsLines, HoldsJournal, IsReadBehind}
use Rattle.cal_journal.proofs.JournalRuns.{has_lines, said_at, script_length-cons}
use Rattle.cal_journal.proofs.PrintedRuns.{read_back, whole_text}
use Rattle.cal_journal.proofs.PrintedWords.{IsWordByte, joined_bytes, line_whole, no_spaces, word_bytes}

-- ---- lines behind lines

onto-append : (byte : ℕ) (lines more : List (List ℕ)) → lines ≢ []
    → onto_first byte (lines ++ more) ≡ onto_first byte lines ++ more
onto-append byte [] more some = absurd (some refl)
onto-append byte (line ∷ lines) more some = refl

-- bytes behind bytes that end their lines have the lines of both
lines_of-append : (bytes more : List ℕ) → EndsItsLines bytes
    → lines_of (bytes ++ more) ≡ lines_of bytes ++ lines_of more
lines_of-append [] more ends = refl
lines_of-append (byte ∷ []) more ends =
    let same : 10 ≡ byte = sym ends in
    subst (λ (b : ℕ). lines_of (b ∷ more) ≡ lines_of (b ∷ []) ++ lines_of more) same refl
lines_of-append (byte ∷ next ∷ bytes) more ends =
    let behind = lines_of-append (next ∷ bytes) more ends in
    let some = has_lines (next ∷ bytes) (λ (none : length (next ∷ bytes) ≡ 0). cc) in
    elim (cases_Bool (eqb byte 10)) [
      | inl is ↦ rw is (ap (λ ls. [] ∷ ls) behind)
      | inr is ↦ rw is (ap (onto_first byte) behind
          ∙ onto-append byte (lines_of (next ∷ bytes)) (lines_of more) some)
    ]

-- ---- lines of a script

-- The first word of a line is `journal`.
abbrev IsJournalLine : List ℕ → Type 0
IsJournalLine line =
    (byte : ℕ) × (rest : List ℕ) × (more : List (List ℕ)) × (line ≡ byte ∷ rest) × (byte ≡ 106)
    × (words_of line ≡ codes "journal" ∷ more)

spaceless : All (λ byte. eqb byte 32 ≡ false) (codes "journal")
spaceless = no_spaces (codes "journal") (word_bytes (codes "journal") refl)

journal_words : (behind : List ℕ) → ends_word behind ≡ true
    → (more : List (List ℕ)) × (words_of (codes "journal" ++ behind) ≡ codes "journal" ∷ more)
journal_words [] ends =
    ([], slice_split_none (λ byte. eqb byte 32) (codes "journal") spaceless)
journal_words (byte ∷ bytes) ends =
    (words_of bytes, slice_split_at (λ b. eqb b 32) (codes "journal") byte bytes spaceless ends)

journal_line : (line : List ℕ) → begins line ≡ true → IsJournalLine line
journal_line line is =
    let letters = first_so (starts_with nat_eq line (codes "journal")) (ends_word (drop 7 line)) is
    in
    let ends = second_so (starts_with nat_eq line (codes "journal")) (ends_word (drop 7 line)) is
    in
    let front : codes "journal" ≡ take 7 line =
    same_text (codes "journal") (take 7 line) (sym letters) in
    let whole : line ≡ codes "journal" ++ drop 7 line =
    sym (take-append-drop 7 line) ∙ ap (λ f. f ++ drop 7 line) (sym front) in
    let words = journal_words (drop 7 line) ends in
    (106, codes "ournal" ++ drop 7 line, words.0, whole, refl, ap words_of whole ∙ words.1)

-- such a line is no line of a script
refuses : (state : states.State) (line : List ℕ) (utf8 : Bool) → is_utf8 line ≡ utf8
    → IsJournalLine line
    → (kind : ScriptKind) × (scripts.line_after state line ≡ Err kind)
unfolding scripts.line_after
refuses state line false utf8 is = (NotText, rw utf8 refl)
refuses state line true utf8 is =
    let said : is_skipped line ≡ false = rw (is.3, is.4) refl in
    let text : scripts.text_after state line ≡ Err UnknownWord =
    ap (λ words. scripts.words_after state words >>= scripts.limited) is.5 in
    (UnknownWord, rw (utf8, said) text)

begins_none : (state next : states.State) (line : List ℕ) → scripts.line_after state line ≡ Ok next
    → begins line ≡ false
begins_none state next line stands =
    elim (cases_Bool (begins line)) [
      | inl is ↦ (let told = refuses state line (is_utf8 line) refl (journal_line line is) in
          let both : Ok next ≡ Err told.0 = sym stands ∙ told.1 in absurd cc)
      | inr is ↦ is
    ]

IsNoJournal : List ℕ → Type 0
IsNoJournal line = begins line ≡ false

first_stands : (made : Result states.State ScriptKind) (lines : List (List ℕ))
    (final : states.State)
    → (made >>= (λ next. after_lines scripts.line_after next lines)) ≡ Ok final
    → (next : states.State) × (made ≡ Ok next)
    × (after_lines scripts.line_after next lines ≡ Ok final)
first_stands (Ok next) lines final stands = (next, refl, stands)
first_stands (Err kind) lines final stands = absurd cc

-- no line of a script begins a journal
none_begins : (state final : states.State) (lines : List (List ℕ))
    → after_lines scripts.line_after state lines ≡ Ok final → All IsNoJournal lines
unfolding IsNoJournal
none_begins state final [] stands = All-nil IsNoJournal
none_begins state final (line ∷ lines) stands =
    let first = first_stands (scripts.line_after state line) lines final stands in
    All-cons IsNoJournal line lines (begins_none state first.0 line first.1)
    (none_begins first.0 final lines first.2)

-- ---- both

script_length-append : (lines : List (List ℕ)) (first : List ℕ) (rest : List (List ℕ))
    → All IsNoJournal lines → begins first ≡ true
    → script_length (lines ++ first ∷ rest) ≡ length lines
unfolding IsNoJournal
script_length-append [] first rest none is = rw is refl
script_length-append (line ∷ lines) first rest none is =
    script_length-cons line (lines ++ first ∷ rest) (All-head IsNoJournal line lines none)
    ∙ ap suc (script_length-append lines first rest (All-tail IsNoJournal line lines none) is)

whole_line : (clock : List ℕ) → All IsWordByte clock
    → HasNoNewline (joined (codes "journal" ∷ clock ∷ []))
whole_line clock is =
    line_whole (joined (codes "journal" ∷ clock ∷ []))
    (joined_bytes (codes "journal") (clock ∷ []) (word_bytes (codes "journal") refl)
    (All-cons (All IsWordByte) clock [] is (All-nil (All IsWordByte))))

-- the first line of a printed journal begins it
first_line : (real : Bool) (more : List ℕ) → (first : List ℕ) × (begins first ≡ true)
    × (lines_of (((codes "journal " ++ (cond real (codes "real") (codes "script"))) ++ newline)
    ++ more) ≡ first ∷ lines_of more)
first_line true more = (
  codes "journal real",
  refl,
  lines_of-newline (codes "journal real") more
      (whole_line (codes "real") (word_bytes (codes "real") refl)),
)
first_line false more = (
  codes "journal script",
  refl,
  lines_of-newline (codes "journal script") more
      (whole_line (codes "script") (word_bytes (codes "script") refl)),
)

meant : (made : Result states.State ScriptKind) (script : Script)
    → (made >>= (λ state. Ok (states.script_of state))) ≡ Ok script
    → (state : states.State) × (made ≡ Ok state) × (script ≡ states.script_of state)
meant (Ok state) script means = (state, refl, cc)
meant (Err kind) script means = absurd cc

pub read_behind : (bytes : List ℕ) (script : Script) (journal : Journal)
    → scripts.Means bytes script → EndsItsLines bytes → HoldsJournal journal
    → IsReadBehind bytes script journal
read_behind bytes script journal means ends holds =
    let front : List (List ℕ) = lines_of bytes in
    let text : List ℕ = journal_text journal in
    let lines : List (List ℕ) = lines_of (bytes ++ text) in
    let said = meant (after_lines scripts.line_after states.no_lines front) script means in
    let none = none_begins states.no_lines said.0 front said.1 in
    let rest : List ℕ =
    flat_map op_text journal.ops ++ (threads_text 0 journal.threads ++ (codes "end" ++ newline))
    in
    let first = first_line journal.real rest in
    let behind : lines_of text ≡ first.0 ∷ lines_of rest =
    ap lines_of (whole_text journal) ∙ first.2 in
    let all : lines ≡ front ++ lines_of text = lines_of-append bytes text ends in
    let parts : lines ≡ front ++ first.0 ∷ lines_of rest = all ∙ ap (λ ls. front ++ ls) behind in
    let count : script_length lines ≡ length front =
    ap script_length parts ∙ script_length-append front first.0 (lines_of rest) none first.1 in
    let taken : take (script_length lines) lines ≡ front =
    (λ i. take (count i) (all i)) ∙ take-append_seam front (lines_of text) in
    let left : drop (script_length lines) lines ≡ lines_of text =
    (λ i. drop (count i) (all i)) ∙ drop-append_seam front (lines_of text) in
    record {
      script = (said.0, ap (after_lines scripts.line_after states.no_lines) taken ∙ said.1, said.2);
      journal = said_at (Some (printed (length front) journal)) (script_length lines)
          (length front) (drop (script_length lines) lines) (lines_of text) count left
          (read_back (length front) journal holds);
    }
