-- Channels stay ready while lines are shown to them and while they are flushed.
use Rattle.std.proofs.Common.{◌≡◌, ◌≢◌, ◌⊎◌, ℕ, ◌+◌, ◌<◌, ◌≤◌, ◌^◌, List, ◌++◌, length}
use Rattle.std.proofs.Common.{Bool, true, refl, sym, ap, ◌∙◌, subst, inl, inr, arith, get_or}
use Rattle.std.proofs.Common.{drop, slice_set, take}
use Rattle.std.specs.Prelude.{Option, Some, None, IfSome, is_some, option_map, slice_get}
use Rattle.std.proofs.lemmas.List.{append-nil, drop_all, take_all}
use Rattle.std.proofs.lemmas.List.Sums.{sum_by_push}
use Rattle.std.proofs.lemmas.Option.{same_Some, slice_get-get_or, slice_get_read}
use Rattle.std.proofs.lemmas.Option.{slice_get_within}
use Rattle.cal_book.proofs.Lists.{at_set}
use Rattle.cal_channel.specs.Values.{ChannelValue, KeepsServices, unflushed_of}
use Rattle.cal_keeping.proofs.FreshChannels.{there}
use Rattle.cal_keeping.specs.Hands.{AccountOf, Hands, MayHand, given_by}
use Rattle.cal_keeping.specs.Kept.{AreEachReady, AreReady, IsReady}
use Rattle.cal_keeping.specs.declared.channels.Channels.{Channels}
use Rattle.cal_notes.specs.Notes.{IsFlushNote}
use Rattle.cal_process.specs.declared.common.Common.{Common}
use Rattle.cal_replay.specs.Showing.{AreShown, MayShow}
use Rattle.cal_replay.specs.declared.showing.ShownLine.{ShownLine}
use Rattle.cal_run.specs.declared.numbers.Numbers.{Numbers}
use Rattle.cal_script.specs.Valid.{IsFlushed}
use Rattle.cal_script.specs.declared.journal.Reply as replies
use Rattle.cal_script.specs.declared.journal.Reply.TheVariants as reply
use Rattle.cal_script.specs.declared.script.Channel.{Channel}
use Rattle.cal_script.specs.declared.script.Script.{Script}
use Rattle.cal_table.specs.Tables.{TableValue}
use Rattle.cal_table.specs.declared.shape.TableShape.{TableShape}
use Rattle.cal_thread.specs.declared.thread.Thread.{Thread}

-- ---- tables that may be there

same-there : (one other : Option TableValue)
    → option_map (λ (t : TableValue). t.shape) one ≡ option_map (λ (t : TableValue). t.shape) other
    → is_some one ≡ is_some other
same-there None None e = refl
same-there None (Some b) e = absurd cc
same-there (Some a) None e = absurd cc
same-there (Some a) (Some b) e = refl

same-made : (one other : Option TableValue) (shape : TableShape)
    → option_map (λ (t : TableValue). t.shape) one ≡ option_map (λ (t : TableValue). t.shape) other
    → IfSome other (λ (t : TableValue). t.shape ≡ shape)
    → IfSome one (λ (t : TableValue). t.shape ≡ shape)
same-made None other shape e h = tt
same-made (Some a) None shape e h = absurd cc
same-made (Some a) (Some b) shape e h = same_Some a.shape b.shape e ∙ h

room-in : (table : Option TableValue) (given left : ℕ)
    → given + unflushed_of table + (left + 1) ≤ 2 ^ 20
    → IfSome table (λ (t : TableValue). t.snapshots < 2 ^ 20)
room-in None given left few = tt
room-in (Some t) given left few = omega (arith, few)

some-there : (table : Option TableValue) → is_some table ≡ true
    → (t : TableValue) × (table ≡ Some t)
some-there None e = absurd cc
some-there (Some t) e = (t, refl)

-- ---- one channel

-- shown a line, for one line less
shown-ready : (left : ℕ) (channel : Channel) (shape : TableShape) (was is : ChannelValue)
    (account : AccountOf) → KeepsServices was is → IsReady (left + 1) channel shape was account
    → IsReady left channel shape is account
shown-ready left channel shape was is account keeps ready = record {
  traces = keeps.trace ∙ ready.traces;
  aggregates = same-there is.table was.table keeps.shape ∙ ready.aggregates;
  made = same-made is.table was.table shape keeps.shape ready.made;
  few =
      let more = keeps.few in
      let few = ready.few in
      omega (arith, more, few);
}

-- flushed, for as many
flushed-ready : (thread left : ℕ) (channel : Channel) (shape : TableShape)
    (was is : ChannelValue) (before behind : AccountOf) (part : TableValue)
    (answer : replies.Reply) → was.table ≡ Some part
    → Hands thread before behind was is part answer → IsReady left channel shape was before
    → IsReady left channel shape is behind
flushed-ready thread left channel shape was is before behind part reply.Merged part_is handed
    ready =
    let gave = handed.0 in
    let empties = handed.1 in
    record {
      traces = ap (λ (c : ChannelValue). is_some c.trace) empties ∙ ready.traces;
      aggregates = ap (λ (c : ChannelValue). is_some c.table) empties
          ∙ sym (ap is_some part_is) ∙ ready.aggregates;
      made = subst (λ (c : ChannelValue). IfSome c.table (λ (t : TableValue). t.shape ≡ shape))
          (sym empties)
          (subst (λ (o : Option TableValue). IfSome o (λ (t : TableValue). t.shape ≡ shape))
          part_is ready.made);
      few =
          let given : given_by behind ≡ given_by before + part.snapshots =
          ap given_by gave ∙ sum_by_push (λ (t : TableValue). t.snapshots) before.given part in
          let none : unflushed_of is.table ≡ 0 =
          ap (λ (c : ChannelValue). unflushed_of c.table) empties in
          let some : unflushed_of was.table ≡ part.snapshots = ap unflushed_of part_is in
          let few = ready.few in
          omega (arith, given, none, some, few);
    }
flushed-ready thread left channel shape was is before behind part (reply.Busy holder) part_is
    handed ready =
    let met = handed.1 in
    subst (λ (c : ChannelValue). IsReady left channel shape c behind) (sym handed.2) (record {
      traces = ready.traces;
      aggregates = ready.aggregates;
      made = ready.made;
      few =
          let given : given_by behind ≡ given_by before = ap given_by met in
          let few = ready.few in
          omega (arith, given, few);
    })
flushed-ready thread left channel shape was is before behind part _ part_is handed ready =
    absurd handed

-- a thread isn't busy with itself
pub flush-noted : (thread : ℕ) (before behind : AccountOf) (was is : ChannelValue)
    (part : TableValue) (answer : replies.Reply) → Hands thread before behind was is part answer
    → IsFlushNote thread answer
flush-noted thread before behind was is part reply.Merged handed = tt
flush-noted thread before behind was is part (reply.Busy holder) handed =
    λ same. handed.0 (sym same)
flush-noted thread before behind was is part _ handed = absurd handed

-- ---- all channels

-- and then they are ready for one line less
pub each-shown : (common : Common) (numbers : Numbers) (at : Thread) (shown : ShownLine)
    (left : ℕ) (shapes : List TableShape) (old new : List ChannelValue) (accounts : ℕ → AccountOf)
    → AreShown common numbers at shown old new
    → AreEachReady (left + 1) common.script.now.channels shapes old accounts
    → AreEachReady left common.script.now.channels shapes new accounts
each-shown common numbers at shown left shapes old new accounts told ready place channel shape c
    is_at shape_at had =
    let many = told.many in
    let less = slice_get_within new place c had in
    let was = there old place (omega (arith, many, less)) in
    shown-ready left channel shape was.0 c (accounts place)
    (told.each place channel was.0 c is_at was.1 had).services
    (ready place channel shape was.0 is_at shape_at was.1)

-- the same of channels that were lent whole and given back
pub told-whole : (common : Common) (numbers : Numbers) (at : Thread) (shown : ShownLine)
    (old lent new : List ChannelValue) (long : ℕ) → lent ≡ old → long ≡ length old
    → AreShown common numbers at shown lent new
    → AreShown common numbers at shown old (take long (new ++ drop (length new) old))
told-whole common numbers at shown old lent new long all many told =
    let told_old = subst (λ (was : List ChannelValue). AreShown common numbers at shown was new)
    all told in
    let same = told_old.many in
    let whole : take long (new ++ drop (length new) old) ≡ new =
    ap (λ (rest : List ChannelValue). take long (new ++ rest))
    (drop_all (length new) old (omega (arith, same))) ∙ ap (take long) (append-nil new)
    ∙ take_all long new (omega (arith, many, same)) in
    subst (λ (is : List ChannelValue). AreShown common numbers at shown old is) (sym whole) told_old

-- The channel at a place is flushed, and all are as ready as before.
module _ (old : List ChannelValue) (before behind : ℕ → AccountOf) (place : ℕ)
    (was is : ChannelValue) (thread : ℕ) (part : TableValue) (answer : replies.Reply) where
  pub each-flushed : slice_get old place ≡ Some was → was.table ≡ Some part
      → Hands thread (before place) (behind place) was is part answer
      → ((other : ℕ) → other ≢ place → behind other ≡ before other)
      → (left : ℕ) (channels : List Channel) (shapes : List TableShape)
      → AreEachReady left channels shapes old before
      → AreEachReady left channels shapes (slice_set old place is) behind
  each-flushed was_at part_is handed others left channels shapes ready i channel shape c chan_at
      shape_at had = by (at_set old place i is c had)
    where
      by : ((i ≡ place) × (is ≡ c)) ⊎ ((i ≢ place) × (slice_get old i ≡ Some c))
          → IsReady left channel shape c (behind i)
      by (inr other) = subst (IsReady left channel shape c) (sym (others i other.0))
          (ready i channel shape c chan_at shape_at other.1)
      by (inl here) =
          subst (λ (x : ChannelValue). IsReady left channel shape x (behind i)) here.1
          (subst (λ (p : ℕ). IsReady left channel shape is (behind p)) (sym here.0)
          (flushed-ready thread left channel shape was is (before place) (behind place) part
          answer part_is handed (ready place channel shape was
          (ap (slice_get channels) (sym here.0) ∙ chan_at)
          (ap (slice_get shapes) (sym here.0) ∙ shape_at) was_at)))

module _ {P H : Type 0} (account : H → ℕ → AccountOf) (takes : H → ℕ → List TableShape → Type 0)
    (script : Script) (kept : Channels P H) where
  -- a line may be shown to them
  pub may-show : (thread : Thread) (left : ℕ)
      → AreReady account takes script kept thread.timed (left + 1)
      → MayShow script thread kept.channels.items
  may-show thread left ready = record {
    many = ready.many;
    room = λ place c less.
        let many = ready.many in
        let shaped = ready.shaped in
        let cs = kept.channels.items in
        let within : place < length script.channels = omega (arith, many, less) in
        let channel = there script.channels place within in
        let shape = there ready.shapes place (omega (arith, shaped, within)) in
        room-in (get_or cs place c).table (given_by (account kept.hand place)) left
        (ready.each place channel.0 shape.0 (get_or cs place c) channel.1 shape.1
        (slice_get-get_or cs place c less)).few;
    timed = ready.timed_is;
  }

  -- A channel that a line flushes, among channels that are ready.
  module _ (timed : Bool) (left : ℕ) (ready : AreReady account takes script kept timed left)
      (place : ℕ) (declared : IsFlushed script.channels place) where
    in-script : place < length script.channels
    in-script = slice_get_within script.channels place declared.flushed declared.declared

    pub in-channels : place < length kept.channels.items
    in-channels = let less = in-script in let many = ready.many in omega (arith, less, many)

    -- it stands there
    pub asked-at : (c : ChannelValue) → c ≡ get_or kept.channels.items place c
        → slice_get kept.channels.items place ≡ Some c
    asked-at c is = let cs = kept.channels.items in
        slice_get_read cs (length cs) place c refl in-channels is

    -- it may be given to the hand
    pub may-hand : (c : ChannelValue) → slice_get kept.channels.items place ≡ Some c
        → MayHand account takes kept.hand place c
    may-hand c channel_at =
        let less = in-script in
        let shaped = ready.shaped in
        let shape = there ready.shapes place (omega (arith, less, shaped)) in
        let at = ready.each place declared.flushed shape.0 c declared.declared shape.1 channel_at in
        let part = some-there c.table (at.aggregates ∙ declared.aggregates) in
        let made : part.0.shape ≡ shape.0 =
        subst (λ (o : Option TableValue). IfSome o (λ (t : TableValue). t.shape ≡ shape.0)) part.1
        at.made in
        record {
          thread = kept.thread;
          shapes = ready.shapes;
          takes_them = ready.takes_them;
          part = part.0;
          part_is = part.1;
          shape_at = shape.1 ∙ ap Some (sym made);
          few =
              let some : unflushed_of c.table ≡ part.0.snapshots = ap unflushed_of part.1 in
              let few = at.few in
              omega (arith, some, few);
        }
