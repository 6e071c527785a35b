-- What a channel has kept behind one line more of its worker.
use Rattle.std.proofs.Common.{◌≡◌, ◌⊎◌, ℕ, List, [], ◌∷◌, ◌++◌, length, ⊎_elim}
use Rattle.std.proofs.Common.{◌∙◌, sym, subst}
use Rattle.std.specs.Prelude.{Contains}
use Rattle.std.proofs.lemmas.List.Elements.{Contains-append_left, Contains-push}
use Rattle.cal_book.specs.Accounts.{more_given, more_met}
use Rattle.cal_channel.specs.Values.{ChannelValue, with_table}
use Rattle.cal_keeping.proofs.FlushedLines.{flushed-cases, flushed-earlier, flushed-now}
use Rattle.cal_keeping.specs.Hands.{AccountOf, Hands}
use Rattle.cal_keeping.specs.Runners.{HasKept}
use Rattle.cal_notes.specs.Running.{with_line}
use Rattle.cal_notes.specs.Together.{HasFlushed, WasFlushed}
use Rattle.cal_replay.specs.Channels.{HasShownLines}
use Rattle.cal_replay.specs.Workers.{lines_done, script_of}
use Rattle.cal_replay.specs.declared.shared.Shared.{Shared}
use Rattle.cal_replay.specs.declared.worker.Worker.{Worker}
use Rattle.cal_script.specs.declared.journal.LineNote.{LineNote}
use Rattle.cal_script.specs.declared.journal.Reply as replies
use Rattle.cal_script.specs.declared.journal.Reply.TheVariants as reply
use Rattle.cal_script.specs.declared.journal.ThreadNote.{ThreadNote}
use Rattle.cal_script.specs.declared.script.Channel.{Channel}
use Rattle.cal_script.specs.declared.script.Line as lines
use Rattle.cal_script.specs.declared.script.Line.TheVariants as line
use Rattle.cal_script.specs.declared.script.Script.{Script}
use Rattle.cal_table.specs.Tables.{TableValue, empty_table}
use Rattle.cal_value.specs.declared.attribute.Attribute.{Attribute}
use Rattle.cal_words.specs.declared.op.OpRec.{OpRec}

module _ (shared : Shared) (attributes : List Attribute) (old new : Worker) (h all : List OpRec)
    (l : lines.Line) (n : LineNote) (place : ℕ) (channel : Channel)
    (long : length old.note.lines ≡ length (lines_done (script_of shared) old))
    (lines_are : lines_done (script_of shared) new
    ≡ lines_done (script_of shared) old ++ l ∷ [])
    (noted : new.note ≡ with_line old.note n)
    (was mid : ChannelValue) (before : AccountOf)
    (kept : HasKept shared attributes old h place channel was before) where
  abbrev script : Script
  script = script_of shared

  abbrev ls : List lines.Line
  ls = lines_done script old

  -- by the lines done now the channel has taken what it should, its parts given so
  abbrev pub ShownNow : ChannelValue → List TableValue → Type 0
  ShownNow c given = HasShownLines shared.common attributes new.thread.tree all
      (lines_done script new) new.note channel c given

  -- ---- flushes

  to-new : (answer : replies.Reply) → HasFlushed place answer (ls ++ l ∷ []) (with_line old.note n)
      → HasFlushed place answer (lines_done script new) new.note
  to-new answer f =
      subst (λ (ks : List lines.Line). HasFlushed place answer ks new.note) (sym lines_are)
      (subst (λ (m : ThreadNote). HasFlushed place answer (ls ++ l ∷ []) m) (sym noted) f)

  earlier : (answer : replies.Reply) → HasFlushed place answer ls old.note
      → HasFlushed place answer (lines_done script new) new.note
  earlier answer f = to-new answer (flushed-earlier place answer ls old.note l n long f)

  now : (answer : replies.Reply) → l ≡ line.Flush place → n.reply ≡ answer
      → HasFlushed place answer (lines_done script new) new.note
  now answer is replied = to-new answer (flushed-now place answer ls old.note l n long is replied)

  cases : (answer : replies.Reply) → HasFlushed place answer (lines_done script new) new.note
      → HasFlushed place answer ls old.note ⊎ WasFlushed place answer (l, n)
  cases answer f = flushed-cases place answer ls old.note l n long
      (subst (λ (m : ThreadNote). HasFlushed place answer (ls ++ l ∷ []) m) noted
      (subst (λ (ks : List lines.Line). HasFlushed place answer ks new.note) lines_are f))

  -- ---- the line

  -- it isn't a flush of the channel
  pub kept-left : (l ≡ line.Flush place → ⊥) → ShownNow mid before.given
      → HasKept shared attributes new all place channel mid before
  kept-left other shown = record {
    shown = shown;
    busy = λ holder f. ⊎_elim (kept.busy holder) (λ here. absurd (other here.0))
        (cases (reply.Busy holder) f);
    merged = λ some. earlier reply.Merged (kept.merged some);
    turns = kept.turns;
  }

  -- it is one that was merged
  merged-now : (part : TableValue) → l ≡ line.Flush place → n.reply ≡ reply.Merged
      → ShownNow (with_table mid (empty_table part.shape)) (before.given ++ part ∷ [])
      → HasKept shared attributes new all place channel (with_table mid (empty_table part.shape))
      (more_given before part)
  merged-now part is replied shown = record {
    shown = shown;
    busy = λ holder f. ⊎_elim (kept.busy holder)
        (λ here. let both : reply.Merged ≡ reply.Busy holder = sym replied ∙ here.1 in
        absurd cc) (cases (reply.Busy holder) f);
    merged = λ some. now reply.Merged is replied;
    turns = kept.turns;
  }

  -- it is one that was busy
  busy-now : (holder : ℕ) → n.reply ≡ reply.Busy holder → ShownNow mid before.given
      → HasKept shared attributes new all place channel mid (more_met before holder)
  busy-now holder replied shown = record {
    shown = shown;
    busy = λ other f. ⊎_elim
        (λ met. Contains-append_left before.met (holder ∷ []) other (kept.busy other met))
        (λ here.
        let both : reply.Busy holder ≡ reply.Busy other = sym replied ∙ here.1 in
        let same : holder ≡ other = cc in
        subst (Contains (before.met ++ holder ∷ [])) same
        (Contains-push before.met holder)) (cases (reply.Busy other) f);
    merged = λ some. earlier reply.Merged (kept.merged some);
    turns = kept.turns;
  }

  -- it is a flush of the channel, which was answered
  pub kept-flushed : (thread : ℕ) (part : TableValue) (is : ChannelValue) (behind : AccountOf)
      (answer : replies.Reply) → l ≡ line.Flush place → n.reply ≡ answer
      → Hands thread before behind mid is part answer → ShownNow mid before.given
      → ShownNow (with_table mid (empty_table part.shape)) (before.given ++ part ∷ [])
      → HasKept shared attributes new all place channel is behind
  kept-flushed thread part is behind reply.Merged here replied handed shown given =
      subst (HasKept shared attributes new all place channel is) (sym handed.0)
      (subst (λ (c : ChannelValue). HasKept shared attributes new all place channel c
      (more_given before part)) (sym handed.1) (merged-now part here replied given))
  kept-flushed thread part is behind (reply.Busy holder) here replied handed shown given =
      subst (HasKept shared attributes new all place channel is) (sym handed.1)
      (subst (λ (c : ChannelValue). HasKept shared attributes new all place channel c
      (more_met before holder)) (sym handed.2) (busy-now holder replied shown))
  kept-flushed thread part is behind reply.Done here replied handed shown given = absurd handed
  kept-flushed thread part is behind (reply.Mismatch top) here replied handed shown given =
      absurd handed
  kept-flushed thread part is behind reply.NotOpen here replied handed shown given = absurd handed
  kept-flushed thread part is behind reply.TooDeep here replied handed shown given = absurd handed
  kept-flushed thread part is behind reply.SlotsFull here replied handed shown given = absurd handed
