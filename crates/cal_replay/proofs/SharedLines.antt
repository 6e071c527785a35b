-- A line that is placed in the history.
use Rattle.std.proofs.Common.{◌≡◌, ℕ, ◌+◌, ◌<◌, ◌≤◌, List, [], ◌∷◌, ◌++◌, length, Bool, true, cond}
use Rattle.std.proofs.Common.{append_assoc, refl, sym, ap, ◌∙◌, subst, arith, inl, inr, ◌⊎◌}
use Rattle.std.specs.Prelude.{Option, if◌then◌else◌, unwrap_or}
use Rattle.std.proofs.lemmas.Bool.{cases_lt, ne_eqb}
use Rattle.std.proofs.lemmas.List.{length-append, length-map, map-append}
use Rattle.std.proofs.lemmas.List.Sums.{sum_by_push}
use Rattle.cal_notes.specs.Notes.{OfOthers, known_journal}
use Rattle.cal_notes.specs.Running.{Learns}
use Rattle.cal_once.proofs.Seen.{times-append}
use Rattle.cal_once.specs.Layout.{times}
use Rattle.cal_once.specs.Seats.{view}
use Rattle.cal_process.specs.Operations.{history_of, operation_in, placed_as, words_made}
use Rattle.cal_replay.proofs.OwnLines.{given-noted, is_due, merged-given, read-by}
use Rattle.cal_replay.proofs.ShowingLemmas.{reads-nothing}
use Rattle.cal_replay.proofs.ShownAsNoted.{shared-shown}
use Rattle.cal_replay.proofs.Takings.{taken-others}
use Rattle.cal_replay.specs.Steps.{KnowMore, Runs, Sees, SeesPlace, UsesWords, noted_with}
use Rattle.cal_replay.specs.Steps.{own_words, placed_words}
use Rattle.cal_replay.specs.Workers.{script_of}
use Rattle.cal_replay.specs.declared.shared.Shared.{Shared}
use Rattle.cal_replay.specs.declared.showing.ShownLine.{ShownLine}
use Rattle.cal_run.specs.Lawful.{IsRead}
use Rattle.cal_run.specs.Lines.{is_process_line}
use Rattle.cal_run.specs.Steps.{ThreadState, found_reply, is_accepted, looks}
use Rattle.cal_script.specs.declared.journal.LineNote.{LineNote}
use Rattle.cal_script.specs.declared.journal.Placed.{Placed}
use Rattle.cal_script.specs.declared.journal.Reply as replies
use Rattle.cal_script.specs.declared.journal.Reply.TheVariants as reply
use Rattle.cal_script.specs.declared.script.Line.{Line}
use Rattle.cal_script.specs.declared.script.Script.{Script}
use Rattle.cal_thread.proofs.ThreadLemmas.{shared-after}
use Rattle.cal_thread.specs.Lines.{MeetsShared, TakesOwn, words_of_line}
use Rattle.cal_thread.specs.Threads.{IsThread}
use Rattle.cal_thread.specs.declared.thread.Thread.{Thread}
use Rattle.cal_words.specs.declared.op.OpRec.{OpRec}

-- below the last of published places, and behind all others, none was published
none-before : (ps : List ℕ) (last seen place : ℕ) → ((q : ℕ) → 0 < times q ps → q < seen)
    → seen ≤ place → place < last → times place (ps ++ last ∷ []) ≡ 0
none-before ps last seen place below behind less = by (cases_lt 0 (times place ps))
  where
    sum : times place (ps ++ last ∷ []) ≡ times place ps
    sum =
        let add = times-append place ps (last ∷ []) in
        let none : times place (last ∷ []) ≡ 0 =
        ap (λ (b : Bool). cond b 1 0 + 0) (ne_eqb last place (λ e. omega (arith, e, less))) in
        omega (arith, add, none)

    by : (0 < times place ps) ⊎ (times place ps ≤ 0) → times place (ps ++ last ∷ []) ≡ 0
    by (inl some) = let is = below place some in absurd (omega (arith, is, behind))
    by (inr none) = omega (arith, sum, none)

module _ (shared : Shared) (old mid new : Thread) (l : Line) (op : OpRec)
    (answer : Option replies.Reply) (reading : Option ℕ) (done : ℕ) (h : List OpRec)
    (state : ThreadState) (process : is_process_line (script_of shared) l ≡ true)
    (thread : op.thread ≡ old.number) (next : op.line ≡ done + 1)
    (number : mid.number ≡ old.number)
    (w : IsThread shared.common old done h state)
    (m : MeetsShared shared.common old mid l op answer h state)
    (t : TakesOwn shared.common mid new op (h ++ m.ops) state)
    (read : IsRead (script_of shared) (known_journal shared.real (history_of h))
    (is_due (script_of shared) l answer) mid.clock reading)
    (knows : KnowMore old mid new) where
  abbrev script : Script
  script = script_of shared

  abbrev ops : List OpRec
  ops = m.ops ++ op ∷ []

  abbrev hist : List Placed
  hist = history_of h ++ history_of ops

  abbrev note : LineNote
  note = noted_with (record {
    reply = unwrap_or answer reply.Merged;
    reading = reading;
  }) new

  assoc : (h ++ m.ops) ++ op ∷ [] ≡ h ++ ops
  assoc = append_assoc h m.ops (op ∷ [])

  -- the history with the line's own operation at its end
  hist-is : history_of (h ++ m.ops) ++ placed_as op ∷ [] ≡ hist
  hist-is = sym (map-append placed_as (h ++ m.ops) (op ∷ [])) ∙ ap history_of assoc
      ∙ map-append placed_as h ops

  found : (n : LineNote) → n.seen ≡ new.process.seen → found_reply script hist l n state ≡ answer
  found n is = ap (λ (ps : List Placed). found_reply script ps l n state) (sym hist-is)
      ∙ m.found (placed_as op ∷ []) n (is ∙ t.seen)

  before : length h + length m.ops ≡ mid.process.seen
  before = sym (length-append h m.ops) ∙ m.placed.has.taken.long

  long : length hist ≡ new.process.seen
  long = ap length (sym (map-append placed_as h ops)) ∙ length-map (h ++ ops) placed_as
      ∙ ap length (sym assoc) ∙ t.kept.has.taken.long

  own : placed_as op ≡ record { thread = old.number; line = done + 1 }
  own = λ j. record { thread = thread j; line = next j }

  others : OfOthers old.number (history_of m.ops)
  others = subst (λ (n : ℕ). OfOthers n (history_of m.ops)) number
      (taken-others shared.common mid h m.ops state m.placed.has (λ place behind within.
      let was = w.has.taken.long in
      let sum = before in
      ap (times place) m.published ∙ none-before (view old.process.log).published
      mid.process.seen old.process.seen place w.below (omega (arith, behind, was))
      (omega (arith, within, sum))))

  sees : SeesPlace old new done ops
  sees = record {
    before = m.ops;
    op = op;
    ops_are = refl;
    own = own;
    published = t.learns.published ∙ m.published
        ∙ ap (λ (n : ℕ). (view old.process.log).published ++ n ∷ [])
        (sym before ∙ ap (λ (n : ℕ). n + length m.ops) w.has.taken.long);
    looks = t.looks ∙ m.looks;
  }

  words : UsesWords shared old new l ops
  words =
      let some : placed_words script l ≡ 7 = ap (λ (p : Bool). if p then 7 else 0) process in
      let none : own_words script l ≡ 0 =
      ap (λ (p : Bool). if p then 0 else words_of_line script l) process in
      let sum = sum_by_push (λ (o : OpRec). words_made script (operation_in o)) m.ops op in
      let before_own = m.words in
      let by_own = t.words in
      let placed = m.used in
      let learned = t.learns.used in
      record {
        placed = omega (arith, some, placed, learned);
        made = omega (arith, none, sum, before_own, by_own);
      }

  learns : Learns true (looks script hist l note state)
      (record { thread = old.number; line = done + 1 }) (history_of ops)
  learns = (
    history_of m.ops,
    others,
    (map-append placed_as m.ops (op ∷ [])
        ∙ ap (λ (p : Placed). history_of m.ops ++ p ∷ []) own),
  )

  abbrev told : ShownLine
  told = record { line = l; accepted = is_accepted answer; reading = unwrap_or reading 0 }

  pub shared-runs : Runs shared old mid new told l note done h state
  shared-runs = record {
    ops = ops;
    next = λ seen. record {
      seen = sym long;
      learns = subst (λ (p : Bool). Learns p (looks script hist l note state)
          (record { thread = old.number; line = done + 1 }) (history_of ops)) (sym process) learns;
      read = read-by script shared.real (history_of h) hist (is_due script l answer)
          (is_due script l (found_reply script hist l note state)) mid.clock state.clock reading
          (ap (is_due script l) (sym (found note refl))) m.placed.has.clock read;
      answered = given-noted script hist old done seen l new.process.seen reading state answer
          (unwrap_or answer reply.Merged) found (merged-given old.number answer) note refl;
    };
    sees = subst (λ (p : Bool). Sees shared old new done ops p (looks script hist l note state))
        (sym process) sees;
    words = words;
    told_as = record {
      before = m.ops;
      rest = op ∷ [];
      ops_are = refl;
      as_noted = shared-shown shared.common old mid mid told h state note (reads-nothing mid) refl
          op answer m m.placed.has process refl t.seen;
    };
    learns = knows;
    kept = subst (λ (s : ThreadState). IsThread shared.common new (done + 1) (h ++ ops) s)
        (sym (shared-after script hist l note state process))
        (subst (λ (os : List OpRec). IsThread shared.common new (done + 1) os state) assoc
        (subst (λ (n : ℕ). IsThread shared.common new n ((h ++ m.ops) ++ op ∷ []) state) next
        t.kept));
  }
