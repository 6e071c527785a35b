-- The text of a journal is read as this journal, with its marks.
use Rattle.std.proofs.Common.{◌≡◌, ℕ, ◌+◌, ◌<◌, ◌^◌, Bool, true, false, cond, List, [], ◌∷◌, ◌++◌, length, refl, sym, ap, subst, ◌∙◌, arith, append_assoc, append-nil, length-append}
use Rattle.std.specs.Prelude.{Option, Some, None, Ok, Err, codes, decimal, IfSome, is_some, not, option_to_list, ◌==◌}
use Rattle.std.specs.List.{All, flat_map, range_with_len}
use Rattle.std.specs.Option.{ok_or}
use Rattle.std.specs.Str.{is_utf8}
use Rattle.std.proofs.lemmas.Bool.{ne_eqb}
use Rattle.std.proofs.lemmas.List.Elements.{All-nil, All-cons, All-head, All-tail}
use Rattle.cal_line.specs.FirstFault.{after_lines}
use Rattle.cal_line.proofs.Inputs.{lines_of-newline}
use Rattle.cal_script.specs.Lines.{joined, lines_of, words_of}
use Rattle.cal_script.specs.declared.journal.Journal.{Journal}
use Rattle.cal_script.specs.declared.journal.LineNote.{LineNote}
use Rattle.cal_script.specs.declared.journal.Placed.{Placed}
use Rattle.cal_script.specs.declared.journal.JournalText.{JournalText}
use Rattle.cal_script.specs.declared.journal.Reply.{Reply}
use Rattle.cal_script.specs.declared.journal.RowMark.{RowMark}
use Rattle.cal_script.specs.declared.journal.ThreadNote.{ThreadNote}
use Rattle.cal_script.specs.declared.journal.Reply.TheVariants as reply
use Rattle.cal_journal.specs.declared.kind.JournalKind.TheVariants.{After, Form}
use Rattle.cal_journal.specs.Marks.{note_marks, printed, thread_marks}
use Rattle.cal_journal.specs.Printing.{journal_text, newline, note_text, notes_text, op_text, reading_text, reply_text, spaced, thread_text, threads_text}
use Rattle.cal_journal.specs.ReadBack.{HoldsJournal, HoldsNote, HoldsOp, HoldsThread, IsReadBack}
use Rattle.cal_journal.specs.Reading.{State, ◌>>=◌, begin_at, begun, journal_of, line_after, next_line, with_mark, with_note, words_after}
use Rattle.cal_journal.proofs.PrintedWords.{IsWordByte, after_first, decimal_word, joined_bytes, line_utf8, line_whole, long_back, reading_back, reading_bytes, reading_word, reply_back, reply_bytes, reply_word, short_back, word_bytes, words_joined}

said_line : (state after : State) (line : List ℕ) → (length line == 0) ≡ false → is_some state.end ≡ false → is_utf8 line ≡ true
    → words_after (next_line state) (words_of line) ≡ Some after → line_after state line ≡ Ok after
unfolding line_after
said_line state after line some unended utf8 said =
    ap (λ (empty : Bool). cond empty (Ok (next_line state)) (cond (is_some state.end) (Err After) (cond (not (is_utf8 line)) (Err Form)
    (ok_or (words_after (next_line state) (words_of line)) Form)))) some
    ∙ ap (λ (ended : Bool). cond ended (Err After) (cond (not (is_utf8 line)) (Err Form) (ok_or (words_after (next_line state) (words_of line)) Form))) unended
    ∙ ap (λ (text : Bool). cond (not text) (Err Form) (ok_or (words_after (next_line state) (words_of line)) Form)) utf8
    ∙ ap (λ (found : Option State). ok_or found Form) said

joined_some : (byte : ℕ) (first : List ℕ) (words : List (List ℕ)) → (length (joined ((byte ∷ first) ∷ words)) == 0) ≡ false
joined_some byte first [] = ne_eqb (length (byte ∷ first)) 0 (λ (same : length (byte ∷ first) ≡ 0). omega arith)
joined_some byte first (next ∷ words) =
    ne_eqb (length (byte ∷ (first ++ 32 ∷ joined (next ∷ words)))) 0 (λ (same : length (byte ∷ (first ++ 32 ∷ joined (next ∷ words))) ≡ 0). omega arith)

-- what stands before `end`
abbrev standing : ℕ → Bool → List Placed → List ℕ → List ThreadNote → Option ThreadNote → List RowMark → State
standing line real ops op_lines earlier thread rows = record {
  line = line;
  clock = Some real;
  ops = ops;
  op_lines = op_lines;
  earlier = earlier;
  thread = thread;
  rows = rows;
  end = None;
}

reading_is : (reading : Option ℕ) → reading_text reading ≡ 32 ∷ reading_word reading
reading_is None = refl
reading_is (Some n) = refl

reply_is : (r : Reply) → reply_text r ≡ 32 ∷ reply_word r
reply_is reply.Done = refl
reply_is (reply.Mismatch top) = refl
reply_is reply.NotOpen = refl
reply_is reply.TooDeep = refl
reply_is reply.SlotsFull = refl
reply_is reply.Merged = refl
reply_is (reply.Busy holder) = refl

op_line : (op : Placed) (more : List ℕ) → op_text op ++ more ≡ joined (codes "op" ∷ decimal op.thread ∷ decimal op.line ∷ []) ++ 10 ∷ more
op_line op more = simp append_assoc

start_line : (thread : ℕ) (reading : Option ℕ) (rest more : List ℕ)
    → (codes "start" ++ spaced thread ++ reading_text reading ++ newline ++ rest) ++ more
    ≡ joined (codes "start" ∷ decimal thread ∷ reading_word reading ∷ []) ++ 10 ∷ (rest ++ more)
start_line thread reading rest more =
    ap (λ text. (codes "start" ++ spaced thread ++ text ++ newline ++ rest) ++ more) (reading_is reading) ∙ simp append_assoc

note_line : (thread line : ℕ) (note : LineNote) (rest more : List ℕ)
    → (note_text thread line note ++ rest) ++ more
    ≡ joined (codes "line" ∷ decimal thread ∷ decimal line ∷ reply_word note.reply ∷ decimal note.seen ∷ reading_word note.reading ∷ []) ++ 10 ∷ (rest ++ more)
note_line thread line note rest more =
    (λ i. ((codes "line" ++ spaced thread ++ spaced line ++ reply_is note.reply i ++ spaced note.seen ++ reading_is note.reading i ++ newline) ++ rest) ++ more)
    ∙ simp append_assoc

two_words : (a b : List ℕ) → All IsWordByte a → All IsWordByte b → All (All IsWordByte) (a ∷ b ∷ [])
two_words a b p q = All-cons (All IsWordByte) a (b ∷ []) p (All-cons (All IsWordByte) b [] q (All-nil (All IsWordByte)))

words_of_op : (op : Placed) → HoldsOp op → All (All IsWordByte) (decimal op.thread ∷ decimal op.line ∷ [])
words_of_op op holds =
    two_words (decimal op.thread) (decimal op.line) (decimal_word op.thread (omega (arith, holds.thread)))
    (decimal_word op.line (omega (arith, holds.line)))

words_of_start : (thread : ℕ) (reading : Option ℕ) → thread < 2 ^ 64 → IfSome reading (λ n. n < 2 ^ 64)
    → All (All IsWordByte) (decimal thread ∷ reading_word reading ∷ [])
words_of_start thread reading small fits =
    two_words (decimal thread) (reading_word reading) (decimal_word thread small) (reading_bytes reading fits)

words_of_note : (thread line : ℕ) (note : LineNote) → thread < 2 ^ 64 → line < 2 ^ 64 → HoldsNote note
    → All (All IsWordByte) (decimal thread ∷ decimal line ∷ reply_word note.reply ∷ decimal note.seen ∷ reading_word note.reading ∷ [])
words_of_note thread line note small short holds =
    let last : List (List ℕ) = decimal note.seen ∷ reading_word note.reading ∷ [] in
    All-cons (All IsWordByte) (decimal thread) (decimal line ∷ reply_word note.reply ∷ last) (decimal_word thread small)
    (All-cons (All IsWordByte) (decimal line) (reply_word note.reply ∷ last) (decimal_word line short)
    (All-cons (All IsWordByte) (reply_word note.reply) last (reply_bytes note.reply holds.reply)
    (two_words (decimal note.seen) (reading_word note.reading) (decimal_word note.seen holds.seen) (reading_bytes note.reading holds.reading))))

module _ (real : Bool) where
  op_said : (line : ℕ) (ops : List Placed) (op_lines : List ℕ) (rows : List RowMark) (op : Placed) → HoldsOp op
      → words_after (next_line (standing line real ops op_lines [] None rows)) (codes "op" ∷ decimal op.thread ∷ decimal op.line ∷ [])
      ≡ Some (standing (line + 1) real (ops ++ op ∷ []) (op_lines ++ (line + 1) ∷ []) [] None rows)
  op_said line ops op_lines rows op holds =
      let state : State = next_line (standing line real ops op_lines [] None rows) in
      let from : Option ℕ → Option ℕ → Option State = λ a b.
      (a >>= (λ t. b >>= (λ l. let p : Placed = record { thread = t; line = l } in Some p)))
      >>= (λ p. Some (record state { ops = state.ops ++ p ∷ []; op_lines = state.op_lines ++ state.line ∷ [] })) in
      λ i. from (short_back op.thread holds.thread i) (short_back op.line holds.line i)

  start_said : (line : ℕ) (ops : List Placed) (op_lines : List ℕ) (earlier : List ThreadNote) (last : Option ThreadNote) (rows : List RowMark)
      (thread : ℕ) (reading : Option ℕ) → thread < 2 ^ 64 → IfSome reading (λ n. n < 2 ^ 64)
      → words_after (next_line (standing line real ops op_lines earlier last rows)) (codes "start" ∷ decimal thread ∷ reading_word reading ∷ [])
      ≡ Some (standing (line + 1) real ops op_lines (earlier ++ option_to_list last) (Some (record { start = reading; lines = [] }))
      (rows ++ record { line = line + 1; thread = thread; number = 0 } ∷ []))
  start_said line ops op_lines earlier last rows thread reading small fits =
      let state : State = next_line (standing line real ops op_lines earlier last rows) in
      let from : Option ℕ → Option (Option ℕ) → Option State = λ a b.
      (a >>= (λ t. b >>= (λ r. let pair : ℕ × Option ℕ = (t, r) in Some pair))) >>= (λ said. Some (with_mark said.0 0 (begun said.1 state))) in
      λ i. from (long_back thread small i) (reading_back reading fits i)

  note_said : (line : ℕ) (ops : List Placed) (op_lines : List ℕ) (earlier : List ThreadNote) (last : ThreadNote) (rows : List RowMark)
      (thread number : ℕ) (note : LineNote) → thread < 2 ^ 64 → number < 2 ^ 64 → HoldsNote note
      → words_after (next_line (standing line real ops op_lines earlier (Some last) rows))
      (codes "line" ∷ decimal thread ∷ decimal number ∷ reply_word note.reply ∷ decimal note.seen ∷ reading_word note.reading ∷ [])
      ≡ Some (standing (line + 1) real ops op_lines earlier (Some (with_note note last)) (rows ++ record { line = line + 1; thread = thread; number = number } ∷ []))
  note_said line ops op_lines earlier last rows thread number note small short holds =
      let state : State = next_line (standing line real ops op_lines earlier (Some last) rows) in
      let from : Option ℕ → Option ℕ → Option Reply → Option ℕ → Option (Option ℕ) → Option State = λ a b c d e.
      (a >>= (λ t. b >>= (λ n. (c >>= (λ r. d >>= (λ s. e >>= (λ g. let made : LineNote = record { reply = r; seen = s; reading = g } in Some made))))
      >>= (λ made. let row : ℕ × ℕ × LineNote = (t, n, made) in Some row))))
      >>= (λ said. Some (with_mark said.0 said.1 (record state { thread = Some (with_note said.2 last) }))) in
      λ i. from (long_back thread small i) (long_back number short i) (reply_back note.reply holds.reply i) (long_back note.seen holds.seen i)
      (reading_back note.reading holds.reading i)

module _ (told : JournalText) where
  -- the text behind a state says the journal, with its marks
  Says : State → List ℕ → Type 0
  Says state text =
      (final : State) × (line : ℕ) × (after_lines line_after state (lines_of text) ≡ Ok final)
      × (final.end ≡ Some line) × (told ≡ journal_of final line)

  says_line : (state after : State) (byte : ℕ) (first : List ℕ) (words : List (List ℕ))
      (text more : List ℕ) → All IsWordByte (byte ∷ first) → All (All IsWordByte) words
      → is_some state.end ≡ false
      → words_after (next_line state) ((byte ∷ first) ∷ words) ≡ Some after
      → text ≡ joined ((byte ∷ first) ∷ words) ++ 10 ∷ more → Says after more → Says state text
  unfolding Says
  says_line state after byte first words text more is all unended said same says =
      let line : List ℕ = joined ((byte ∷ first) ∷ words) in
      let bytes = joined_bytes (byte ∷ first) words is all in
      let found = ap (words_after (next_line state)) (words_joined (byte ∷ first) words is all)
      ∙ said in
      let step = said_line state after line (joined_some byte first words) unended
      (line_utf8 line bytes) found in (
        says.0,
        says.1,
        ap (λ t. after_lines line_after state (lines_of t)) same
            ∙ ap (after_lines line_after state) (lines_of-newline line more (line_whole line bytes))
            ∙ after_first line_after state after line (lines_of more) step ∙ says.2,
        says.3,
        says.4,
      )

  module _ (real : Bool) where
    ops_say : (rest : List Placed) (line : ℕ) (ops : List Placed) (op_lines : List ℕ)
        (more : List ℕ) → All HoldsOp rest
        → ((now : ℕ) (lines : List ℕ) → now ≡ line + length rest
        → lines ≡ op_lines ++ range_with_len (line + 1) (length rest)
        → Says (standing now real (ops ++ rest) lines [] None []) more)
        → Says (standing line real ops op_lines [] None []) (flat_map op_text rest ++ more)
    ops_say [] line ops op_lines more holds then =
        subst (λ (o : List Placed). Says (standing line real o op_lines [] None []) more)
        (append-nil ops) (then line op_lines (omega arith) (sym (append-nil op_lines)))
    ops_say (op ∷ rest) line ops op_lines more holds then =
        let fine = All-head HoldsOp op rest holds in
        let mark : List ℕ = (line + 1) ∷ [] in
        let state : State = standing line real ops op_lines [] None [] in
        let after : State = standing (line + 1) real (ops ++ op ∷ []) (op_lines ++ mark) [] None []
        in
        says_line state after 111 (112 ∷ []) (decimal op.thread ∷ decimal op.line ∷ [])
        (flat_map op_text (op ∷ rest) ++ more) (flat_map op_text rest ++ more)
        (word_bytes (codes "op") refl) (words_of_op op fine) refl
        (op_said real line ops op_lines [] op fine)
        (append_assoc (op_text op) (flat_map op_text rest) more
        ∙ op_line op (flat_map op_text rest ++ more))
        (ops_say rest (line + 1) (ops ++ op ∷ []) (op_lines ++ mark) more
        (All-tail HoldsOp op rest holds)
        (λ now lines at are.
        subst (λ (o : List Placed). Says (standing now real o lines [] None []) more)
        (sym (append_assoc ops (op ∷ []) rest))
        (then now lines (omega (arith, at))
        (are ∙ append_assoc op_lines mark (range_with_len ((line + 1) + 1) (length rest))))))

    notes_say : (rest : List LineNote) (line : ℕ) (ops : List Placed) (op_lines : List ℕ)
        (earlier : List ThreadNote) (start : Option ℕ) (done : List LineNote)
        (rows : List RowMark) (thread number : ℕ) (more : List ℕ) → All HoldsNote rest
        → thread < 2 ^ 64 → number + length rest < 2 ^ 64
        → ((now : ℕ) (marks : List RowMark) → now ≡ line + length rest
        → marks ≡ rows ++ note_marks (line + 1) thread number rest
        → Says (standing now real ops op_lines earlier
        (Some (record { start = start; lines = done ++ rest })) marks) more)
        → Says (standing line real ops op_lines earlier
        (Some (record { start = start; lines = done })) rows)
        (notes_text thread number rest ++ more)
    notes_say [] line ops op_lines earlier start done rows thread number more holds small short
        then =
        subst (λ (l : List LineNote). Says (standing line real ops op_lines earlier
        (Some (record { start = start; lines = l })) rows) more) (append-nil done)
        (then line rows (omega arith) (sym (append-nil rows)))
    notes_say (note ∷ rest) line ops op_lines earlier start done rows thread number more holds
        small short then =
        let fine = All-head HoldsNote note rest holds in
        let last : ThreadNote = record { start = start; lines = done } in
        let mark : List RowMark =
        record { line = line + 1; thread = thread; number = number } ∷ [] in
        let state : State = standing line real ops op_lines earlier (Some last) rows in
        let after : State = standing (line + 1) real ops op_lines earlier
        (Some (with_note note last)) (rows ++ mark) in
        says_line state after 108 (105 ∷ 110 ∷ 101 ∷ [])
        (decimal thread ∷ decimal number ∷ reply_word note.reply ∷ decimal note.seen
        ∷ reading_word note.reading ∷ [])
        (notes_text thread number (note ∷ rest) ++ more)
        (notes_text thread (number + 1) rest ++ more)
        (word_bytes (codes "line") refl)
        (words_of_note thread number note small (omega arith) fine) refl
        (note_said real line ops op_lines earlier last rows thread number note small (omega arith)
        fine)
        (note_line thread number note (notes_text thread (number + 1) rest) more)
        (notes_say rest (line + 1) ops op_lines earlier start (done ++ note ∷ []) (rows ++ mark)
        thread (number + 1) more (All-tail HoldsNote note rest holds) small (omega arith)
        (λ now marks at are.
        subst (λ (l : List LineNote). Says (standing now real ops op_lines earlier
        (Some (record { start = start; lines = l })) marks) more)
        (sym (append_assoc done (note ∷ []) rest))
        (then now marks (omega (arith, at))
        (are ∙ append_assoc rows mark (note_marks ((line + 1) + 1) thread (number + 1) rest)))))

    length-note_marks : (rest : List LineNote) (line thread number : ℕ)
        → length (note_marks line thread number rest) ≡ length rest
    length-note_marks [] line thread number = refl
    length-note_marks (note ∷ rest) line thread number =
        omega (arith, length-note_marks rest (line + 1) thread (number + 1))

    -- the marks of a thread, and those of the threads behind it
    marks_on : (rows others final : List RowMark) (line from thread : ℕ) (note : ThreadNote)
        (rest : List ThreadNote) → from ≡ line + (1 + length note.lines)
        → others ≡ (rows ++ record { line = line; thread = thread; number = 0 } ∷ [])
        ++ note_marks (line + 1) thread 1 note.lines
        → final ≡ others ++ thread_marks from (thread + 1) rest
        → final ≡ rows ++ thread_marks line thread (note ∷ rest)
    marks_on rows others final line from thread note rest at are then =
        then ∙ (λ i. are i ++ thread_marks (at i) (thread + 1) rest) ∙ simp append_assoc

    length_on : (line from thread : ℕ) (note : ThreadNote) (rest : List ThreadNote)
        → from ≡ line + (1 + length note.lines) → length (thread_marks line thread (note ∷ rest))
        ≡ 1 + (length note.lines + length (thread_marks from (thread + 1) rest))
    length_on line from thread note rest at =
        let mine = note_marks (line + 1) thread 1 note.lines in
        let behind = thread_marks (line + (1 + length note.lines)) (thread + 1) rest in
        rw at (omega (
          arith,
          length-append mine behind,
          length-note_marks note.lines (line + 1) thread 1,
        ))

    threads_say : (rest : List ThreadNote) (line : ℕ) (ops : List Placed) (op_lines : List ℕ)
        (earlier : List ThreadNote) (last : Option ThreadNote) (rows : List RowMark)
        (thread : ℕ) (more : List ℕ) → All HoldsThread rest → thread + length rest < 2 ^ 64
        → ((now : ℕ) (before : List ThreadNote) (after : Option ThreadNote) (marks : List RowMark)
        → now ≡ line + length (thread_marks (line + 1) thread rest)
        → before ++ option_to_list after ≡ (earlier ++ option_to_list last) ++ rest
        → marks ≡ rows ++ thread_marks (line + 1) thread rest
        → Says (standing now real ops op_lines before after marks) more)
        → Says (standing line real ops op_lines earlier last rows)
        (threads_text thread rest ++ more)
    threads_say [] line ops op_lines earlier last rows thread more holds short then =
        then line earlier last rows (omega arith)
        (sym (append-nil (earlier ++ option_to_list last))) (sym (append-nil rows))
    threads_say (note ∷ rest) line ops op_lines earlier last rows thread more holds short then =
        let fine = All-head HoldsThread note rest holds in
        let before : List ThreadNote = earlier ++ option_to_list last in
        let behind : List ℕ = threads_text (thread + 1) rest ++ more in
        let mark : List RowMark = record { line = line + 1; thread = thread; number = 0 } ∷ [] in
        let none : ThreadNote = record { start = note.start; lines = [] } in
        let state : State = standing line real ops op_lines earlier last rows in
        let after : State = standing (line + 1) real ops op_lines before (Some none) (rows ++ mark)
        in
        says_line state after 115 (116 ∷ 97 ∷ 114 ∷ 116 ∷ [])
        (decimal thread ∷ reading_word note.start ∷ [])
        (threads_text thread (note ∷ rest) ++ more) (notes_text thread 1 note.lines ++ behind)
        (word_bytes (codes "start") refl)
        (words_of_start thread note.start (omega arith) fine.start) refl
        (start_said real line ops op_lines earlier last rows thread note.start (omega arith)
        fine.start)
        (append_assoc (thread_text thread note) (threads_text (thread + 1) rest) more
        ∙ start_line thread note.start (notes_text thread 1 note.lines) behind)
        (notes_say note.lines (line + 1) ops op_lines before note.start [] (rows ++ mark) thread 1
        behind fine.lines (omega arith) (omega (arith, fine.few))
        (λ now marks at are.
        threads_say rest now ops op_lines before (Some note) marks (thread + 1) more
        (All-tail HoldsThread note rest holds) (omega arith)
        (λ later others final all here same they.
        let from : now + 1 ≡ (line + 1) + (1 + length note.lines) = omega (arith, at) in
        let all_marks = marks_on rows marks all (line + 1) (now + 1) thread note rest from are they
        in
        let count = length_on (line + 1) (now + 1) thread note rest from in
        then later others final all (omega (arith, at, here, count))
        (same ∙ append_assoc before (note ∷ []) rest) all_marks)))

    end_says : (now : ℕ) (ops : List Placed) (op_lines : List ℕ) (before : List ThreadNote)
        (after : Option ThreadNote) (marks : List RowMark) → real ≡ told.journal.real
        → ops ≡ told.journal.ops → before ++ option_to_list after ≡ told.journal.threads
        → op_lines ≡ told.marks.ops → marks ≡ told.marks.rows → now + 1 ≡ told.marks.end
        → Says (standing now real ops op_lines before after marks) (codes "end" ++ newline)
    unfolding Says
    end_says now ops op_lines before after marks clock history threads lines rows end =
        let state : State = standing now real ops op_lines before after marks in
        let final : State = record state { line = now + 1; end = Some (now + 1) } in
        says_line state final 101 (110 ∷ 100 ∷ []) [] (codes "end" ++ newline) []
        (word_bytes (codes "end") refl) (All-nil (All IsWordByte)) refl refl refl (
          final,
          now + 1,
          refl,
          refl,
          sym (λ i. record {
            journal = record { real = clock i; ops = history i; threads = threads i };
            marks = record { ops = lines i; rows = rows i; end = end i };
          }),
        )

  clock_says : (real : Bool) (line : ℕ) (more : List ℕ)
      → Says (standing (line + 1) real [] [] [] None []) more
      → Says (begin_at line)
      (codes "journal " ++ (cond real (codes "real") (codes "script")) ++ newline ++ more)
  clock_says true line more says =
      says_line (begin_at line) (standing (line + 1) true [] [] [] None []) 106
      (111 ∷ 117 ∷ 114 ∷ 110 ∷ 97 ∷ 108 ∷ []) (codes "real" ∷ [])
      (codes "journal real\n" ++ more) more (word_bytes (codes "journal") refl)
      (All-cons (All IsWordByte) (codes "real") [] (word_bytes (codes "real") refl)
      (All-nil (All IsWordByte))) refl refl refl says
  clock_says false line more says =
      says_line (begin_at line) (standing (line + 1) false [] [] [] None []) 106
      (111 ∷ 117 ∷ 114 ∷ 110 ∷ 97 ∷ 108 ∷ []) (codes "script" ∷ [])
      (codes "journal script\n" ++ more) more (word_bytes (codes "journal") refl)
      (All-cons (All IsWordByte) (codes "script") [] (word_bytes (codes "script") refl)
      (All-nil (All IsWordByte))) refl refl refl says

pub whole_text : (journal : Journal) → journal_text journal
    ≡ ((codes "journal " ++ (cond journal.real (codes "real") (codes "script"))) ++ newline)
    ++ (flat_map op_text journal.ops
    ++ (threads_text 0 journal.threads ++ (codes "end" ++ newline)))
whole_text journal = simp append_assoc

whole_says : (line : ℕ) (journal : Journal) → HoldsJournal journal
    → Says (printed line journal) (begin_at line) (journal_text journal)
whole_says line journal holds =
    let told : JournalText = printed line journal in
    let end : List ℕ = codes "end" ++ newline in
    let ops = length journal.ops in
    subst (λ (text : List ℕ). Says told (begin_at line) text) (sym (whole_text journal))
    (clock_says told journal.real line
    (flat_map op_text journal.ops ++ (threads_text 0 journal.threads ++ end))
    (ops_say told journal.real journal.ops (line + 1) [] []
    (threads_text 0 journal.threads ++ end) holds.ops (λ now lines at are.
    threads_say told journal.real journal.threads now journal.ops lines [] None [] 0 end
    holds.threads (omega (arith, holds.few)) (λ later before after marks here same they.
    let from : now + 1 ≡ (line + 2) + ops = omega (arith, at) in
    let two : (line + 1) + 1 ≡ line + 2 = omega arith in
    let rows : marks ≡ told.marks.rows =
    they ∙ ap (λ n. thread_marks n 0 journal.threads) from in
    end_says told journal.real later journal.ops lines before after marks refl refl same
    (are ∙ ap (λ n. range_with_len n ops) two) rows
    (omega (arith, at, here, ap (λ n. length (thread_marks n 0 journal.threads)) from))))))

pub read_back : (line : ℕ) (journal : Journal) → HoldsJournal journal → IsReadBack line journal
unfolding Says
read_back line journal holds = whole_says line journal holds
