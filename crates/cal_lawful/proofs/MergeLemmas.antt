-- Which flushes were merged: the marks of the rows so far.
use Rattle.std.proofs.Common.{◌≡◌, ℕ, suc, zero, ◌+◌, ◌*◌, List, [], ◌∷◌, Bool}
use Rattle.std.proofs.Common.{true, false, length, get_or, map, ap, sym, refl, ◌∙◌}
use Rattle.std.proofs.Common.{replicate, ◌&&◌, ◌||◌}
use Rattle.std.specs.Prelude.{◌==◌, nat_lt, flat_map, zip, Any, ◌↔◌}
use Rattle.std.specs.List.{enumerate_from, list_any}
use Rattle.std.proofs.Math.Bool.{and-false}
use Rattle.std.proofs.lemmas.Bool.{eqb-true, eq-eqb}
use Rattle.std.proofs.lemmas.List.{length-replicate}
use Rattle.std.proofs.lemmas.List.Folds.{Any-from_list_any, list_any-append, list_any-from_Any}
use Rattle.cal_lawful.specs.Broken.{Row, all_rows, thread_rows}
use Rattle.cal_lawful.specs.Broken.{Noted}
use Rattle.cal_lawful.specs.Checking.{AreMerged, has_merged, is_channel, merged_channel, merges}
use Rattle.cal_run.specs.Lawful.{IsMerged, NotedLine, noted_lines, noted_of}
use Rattle.cal_script.specs.declared.journal.Journal.{Journal}
use Rattle.cal_script.specs.declared.journal.Reply as replies
use Rattle.cal_script.specs.declared.journal.Reply.TheVariants as reply
use Rattle.cal_script.specs.declared.journal.ThreadNote.{ThreadNote}
use Rattle.cal_script.specs.declared.script.Line as lines
use Rattle.cal_script.specs.declared.script.Line.TheVariants as line
use Rattle.cal_script.specs.declared.script.Script.{Script}

all-false : (n i : ℕ) → get_or (replicate n false) i false ≡ false
all-false zero i = refl
all-false (suc n) zero = refl
all-false (suc n) (suc i) = all-false n i

-- nothing is marked at first
pub none-merged : (n : ℕ) (marks : List Bool) → n ≡ 1024 → marks ≡ replicate n false
    → AreMerged [] marks
none-merged n marks long none = record {
  long = ap length none ∙ length-replicate n false ∙ long;
  marked = λ thread channel.
      ap (λ (b : Bool). nat_lt thread 64 && nat_lt channel 16 && b)
      (ap (λ (xs : List Bool). get_or xs (thread * 16 + channel) false) none
      ∙ all-false n (thread * 16 + channel))
      ∙ and-false (nat_lt thread 64 && nat_lt channel 16);
}

-- ---- the lines of all rows

any-lines : (p : Row → Bool) (ns : List NotedLine) → list_any p (map Noted ns) ≡ list_any
    (λ (n : NotedLine). p (Noted n)) ns
any-lines p [] = refl
any-lines p (n ∷ ns) = ap (λ (b : Bool). p (Noted n) || b) (any-lines p ns)

module _ (script : Script) (journal : Journal) (t c : ℕ) where
  abbrev merges-line : NotedLine → Bool
  merges-line n = merges t c (Noted n)

  any-threads : (k : ℕ) (ts : List (List lines.Line × ThreadNote))
      → list_any (merges t c) (flat_map (thread_rows script journal) (enumerate_from k ts))
      ≡ list_any merges-line (flat_map (noted_of script journal.ops) (enumerate_from k ts))
  any-threads k [] = refl
  any-threads k (x ∷ xs) =
      list_any-append (merges t c) (thread_rows script journal (k, x))
      (flat_map (thread_rows script journal) (enumerate_from (k + 1) xs))
      ∙ ap (λ (b : Bool). b || list_any (merges t c)
      (flat_map (thread_rows script journal) (enumerate_from (k + 1) xs)))
      (any-lines (merges t c) (noted_of script journal.ops (k, x)))
      ∙ ap (λ (b : Bool). list_any merges-line (noted_of script journal.ops (k, x)) || b)
      (any-threads (k + 1) xs)
      ∙ sym (list_any-append merges-line (noted_of script journal.ops (k, x))
      (flat_map (noted_of script journal.ops) (enumerate_from (k + 1) xs)))

  and-parts : (a b : Bool) → (a && b) ≡ true → (a ≡ true) × (b ≡ true)
  and-parts true b e = (refl, e)
  and-parts false b e = absurd (let no : false ≡ true = e in cc)

  flush-of : (l : lines.Line) (r : replies.Reply) → is_channel c (merged_channel l r) ≡ true
      → (l ≡ line.Flush c) × (r ≡ reply.Merged)
  flush-of (line.Flush d) reply.Merged e = (ap line.Flush (eqb-true d c e), refl)
  flush-of (line.Flush d) reply.Done e = absurd (let no : false ≡ true = e in cc)
  flush-of (line.Flush d) (reply.Mismatch top) e = absurd (let no : false ≡ true = e in cc)
  flush-of (line.Flush d) reply.NotOpen e = absurd (let no : false ≡ true = e in cc)
  flush-of (line.Flush d) reply.TooDeep e = absurd (let no : false ≡ true = e in cc)
  flush-of (line.Flush d) reply.SlotsFull e = absurd (let no : false ≡ true = e in cc)
  flush-of (line.Flush d) (reply.Busy holder) e = absurd (let no : false ≡ true = e in cc)
  flush-of (line.Begin a v) r e = absurd (let no : false ≡ true = e in cc)
  flush-of (line.End a) r e = absurd (let no : false ≡ true = e in cc)
  flush-of (line.Set a v) r e = absurd (let no : false ≡ true = e in cc)
  flush-of line.Snapshot r e = absurd (let no : false ≡ true = e in cc)
  flush-of (line.Tick m) r e = absurd (let no : false ≡ true = e in cc)

  merges-is : (n : NotedLine) → merges-line n ≡ true → IsMerged script journal t c n
  merges-is n e =
      let both = and-parts (n.thread == t) (is_channel c (merged_channel n.line n.note.reply)) e in
      let flush = flush-of n.line n.note.reply both.1 in
      (eqb-true n.thread t both.0, flush.0, flush.1)

  is-merges : (n : NotedLine) → IsMerged script journal t c n → merges-line n ≡ true
  is-merges n m =
      ap (λ (b : Bool). b && is_channel c (merged_channel n.line n.note.reply))
      (eq-eqb n.thread t m.0)
      ∙ ap (λ (l : lines.Line). is_channel c (merged_channel l n.note.reply)) m.1
      ∙ ap (λ (r : replies.Reply). is_channel c (merged_channel (line.Flush c) r)) m.2
      ∙ eq-eqb c c refl

  -- the marks say whether a flush was merged
  pub merged-any : (marks : List Bool) → AreMerged (all_rows script journal) marks
      → (has_merged marks t c ≡ true ↔ Any (IsMerged script journal t c)
      (noted_lines script journal))
  merged-any marks is = (
    (λ h. let found = Any-from_list_any merges-line (noted_lines script journal) (sym same
        ∙ sym (is.marked t c) ∙ h) in
        (found.0, found.1, found.2, found.3, merges-is found.1 found.4)),
    (λ a. is.marked t c ∙ same ∙ list_any-from_Any merges-line (noted_lines script journal)
        (a.0, a.1, a.2, a.3, is-merges a.1 a.4)),
  )
    where
      same : list_any (merges t c) (all_rows script journal) ≡ list_any merges-line
          (noted_lines script journal)
      same = any-threads 0 (zip script.threads journal.threads)
