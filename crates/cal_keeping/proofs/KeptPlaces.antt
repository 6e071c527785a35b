-- What a line leaves at each place of a thread's channels: of a flush one place is another, and of
-- another line none.
use Rattle.std.proofs.Common.{◌≡◌, ◌≢◌, ◌⊎◌, ℕ, List, inl, inr, ⊎_elim}
use Rattle.std.proofs.Common.{ap, sym, subst}
use Rattle.std.specs.Prelude.{Some, slice_get}
use Rattle.cal_book.proofs.Lists.{at_set}
use Rattle.cal_channel.specs.Values.{ChannelValue}
use Rattle.cal_keeping.specs.Hands.{AccountOf, Hands}
use Rattle.cal_keeping.specs.Kept.{IsFlushedAt}
use Rattle.cal_keeping.specs.declared.channels.Channels.{Channels}
use Rattle.cal_replay.specs.Steps.{Flushes}
use Rattle.cal_script.specs.declared.journal.Reply as replies
use Rattle.cal_script.specs.declared.script.Line as lines
use Rattle.cal_script.specs.declared.script.Line.TheVariants as line
use Rattle.cal_table.specs.Tables.{TableValue}

module _ {P H : Type 0} (account : H → ℕ → AccountOf) (had : Channels P H) (l : lines.Line)
    (place : ℕ) (c : ChannelValue) (behind : AccountOf) where
  -- the line was no flush of the channel, which was so before
  pub record IsLeft : Type 0 where
    pub other : l ≡ line.Flush place → ⊥
    pub channel_at : slice_get had.channels.items place ≡ Some c
    pub same : behind ≡ account had.hand place

  -- the line was a flush of the channel with this answer
  pub record IsTurned (answer : replies.Reply) : Type 0 where
    pub here : l ≡ line.Flush place
    pub was : ChannelValue
    pub part : TableValue
    pub channel_at : slice_get had.channels.items place ≡ Some was
    pub part_is : was.table ≡ Some part
    pub handed : Hands had.thread (account had.hand place) behind was c part answer

module _ {P H : Type 0} (account : H → ℕ → AccountOf) (stays : H → H → Type 0)
    (had has : Channels P H) (place : ℕ) (c : ChannelValue)
    (channel_at : slice_get has.channels.items place ≡ Some c) where
  untouched : (l : lines.Line) → (l ≡ line.Flush place → ⊥) → has ≡ had
      → IsLeft account had l place c (account has.hand place)
  untouched l other same = record {
    other = other;
    channel_at = subst (λ (k : Channels P H). slice_get k.channels.items place ≡ Some c) same
        channel_at;
    same = ap (λ (k : Channels P H). account k.hand place) same;
  }

  module _ (flushed : ℕ) (answer : replies.Reply)
      (f : IsFlushedAt account stays had has flushed answer) where
    turned-here : place ≡ flushed → f.is ≡ c
        → IsTurned account had (line.Flush flushed) place c (account has.hand place) answer
    turned-here at is = record {
      here = ap line.Flush (sym at);
      was = f.was;
      part = f.part;
      channel_at = subst (λ (p : ℕ). slice_get had.channels.items p ≡ Some f.was) (sym at)
          f.channel_at;
      part_is = f.part_is;
      handed = subst (λ (d : ChannelValue). Hands had.thread (account had.hand place)
          (account has.hand place) f.was d f.part answer) is
          (subst (λ (p : ℕ). Hands had.thread (account had.hand p) (account has.hand p) f.was f.is
          f.part answer) (sym at) f.handed);
    }

    left-there : place ≢ flushed → slice_get had.channels.items place ≡ Some c
        → IsLeft account had (line.Flush flushed) place c (account has.hand place)
    left-there other channel_was = record {
      other = λ e. other (let at : place ≡ flushed = cc in at);
      channel_at = channel_was;
      same = f.others place other;
    }

    flush-places : IsLeft account had (line.Flush flushed) place c (account has.hand place)
        ⊎ IsTurned account had (line.Flush flushed) place c (account has.hand place) answer
    flush-places =
        ⊎_elim (λ at. inr (turned-here at.0 at.1)) (λ no. inl (left-there no.0 no.1))
        (at_set had.channels.items flushed place f.is c
        (subst (λ (cs : List ChannelValue). slice_get cs place ≡ Some c) f.channels channel_at))

  pub places-after : (l : lines.Line) (answer : replies.Reply)
      → Flushes (IsFlushedAt account stays) had has l answer
      → IsLeft account had l place c (account has.hand place)
      ⊎ IsTurned account had l place c (account has.hand place) answer
  places-after (line.Begin a v) answer same = inl (untouched (line.Begin a v) (λ e. absurd cc) same)
  places-after (line.End a) answer same = inl (untouched (line.End a) (λ e. absurd cc) same)
  places-after (line.Set a v) answer same = inl (untouched (line.Set a v) (λ e. absurd cc) same)
  places-after line.Snapshot answer same = inl (untouched line.Snapshot (λ e. absurd cc) same)
  places-after (line.Flush k) answer f = flush-places k answer f
  places-after (line.Tick t) answer same = inl (untouched (line.Tick t) (λ e. absurd cc) same)
