-- The threads of a run that have ended keep what a lawful journal asks of all of them.
use Rattle.std.proofs.Common.{◌≡◌, ◌≢◌, ℕ, zero, suc, ◌<◌, List, [], ◌∷◌, length, map}
use Rattle.std.proofs.Common.{◌⊎◌, inl, inr, refl, sym, ap, ◌∙◌, subst, arith}
use Rattle.std.specs.Prelude.{Option, Some, None, IsSomeAnd, option_map, slice_get, zip}
use Rattle.std.specs.List.{All, Contains}
use Rattle.std.proofs.lemmas.List.{length-map}
use Rattle.std.proofs.lemmas.List.Elements.{All-contains}
use Rattle.std.proofs.lemmas.Option.{get_or_from_slice_get, slice_get-map}
use Rattle.std.proofs.lemmas.Option.{same_Some, slice_get_within}
use Rattle.cal_book.specs.Accounts.{HadTurn, ThreadHadTurn}
use Rattle.cal_channel.specs.Values.{ChannelValue}
use Rattle.cal_finish.specs.Ended.{HasEnded, HaveAllEnded, accounts_at, journal_of}
use Rattle.cal_keeping.specs.Hands.{AccountOf}
use Rattle.cal_keeping.specs.Runners.{HasKept}
use Rattle.cal_keeping.specs.declared.runner.Runner.{Runner}
use Rattle.cal_notes.specs.Notes.{KeepsRules}
use Rattle.cal_notes.specs.Together as notes
use Rattle.cal_notes.specs.Together.{HasFlushed, HasMerged, HaveEnded, RanLines}
use Rattle.cal_process.specs.Operations.{history_of}
use Rattle.cal_replay.specs.Workers.{IsShared, lines_done, script_of}
use Rattle.cal_replay.specs.declared.shared.Shared.{Shared}
use Rattle.cal_script.specs.Valid.{IsFlushed, IsPlaced}
use Rattle.cal_script.specs.declared.journal.Journal.{Journal}
use Rattle.cal_script.specs.declared.journal.Placed.{Placed}
use Rattle.cal_script.specs.declared.journal.Reply as replies
use Rattle.cal_script.specs.declared.journal.Reply.TheVariants as reply
use Rattle.cal_script.specs.declared.journal.ThreadNote.{ThreadNote}
use Rattle.cal_script.specs.declared.script.Channel.{Channel}
use Rattle.cal_script.specs.declared.script.Line as lines
use Rattle.cal_script.specs.declared.script.Line.TheVariants as line
use Rattle.cal_script.specs.declared.script.Script.{Script}
use Rattle.cal_table.specs.Tables.{TableValue}
use Rattle.cal_table.specs.declared.shape.TableShape.{TableShape}
use Rattle.cal_value.specs.declared.attribute.Attribute.{Attribute}
use Rattle.cal_words.specs.declared.op.OpRec.{OpRec}

module _ {A : Type 0} where
  -- the item at a place of a list that is long enough
  pub record At (xs : List A) (place : ℕ) : Type 0 where
    pub item : A
    pub there : slice_get xs place ≡ Some item

  pub at-below : (xs : List A) (place : ℕ) → place < length xs → At xs place
  at-below [] place below = absurd (omega (arith, below))
  at-below (x ∷ xs) zero below = record { item = x; there = refl }
  at-below (x ∷ xs) (suc place) below =
      let found = at-below xs place (omega (arith, below)) in
      record { item = found.item; there = found.there }

  -- an item of a list of optional ones that is there
  some-of : (o : Option A) {P : A → Type 0} → IsSomeAnd o P → (x : A) × (o ≡ Some x) × P x
  some-of (Some x) is = (x, refl, is)
  some-of None is = absurd is

-- what stands at a place of a list that was mapped
mapped-at : {A B : Type 0} (f : A → B) (xs : List A) (k : ℕ) (y : B)
    → slice_get (map f xs) k ≡ Some y
    → (x : A) × (slice_get xs k ≡ Some x) × (y ≡ f x)
mapped-at f [] k y is = absurd cc
mapped-at f (x ∷ xs) zero y is = (x, refl, sym (same_Some (f x) y is))
mapped-at f (x ∷ xs) (suc k) y is = mapped-at f xs k y is

-- an item of two lists that go together, one behind the other
zipped-contains : {A B : Type 0} (xs : List A) (ys : List B) (x : A) (y : B)
    → Contains (zip xs ys) (x, y) → Contains xs x
zipped-contains [] ys x y has = absurd (let below = has.1 in omega (arith, below))
zipped-contains (w ∷ xs) [] x y has = absurd (let below = has.1 in omega (arith, below))
zipped-contains (w ∷ xs) (v ∷ ys) x y (zero, below, is) =
    (zero, omega arith, ap (λ p. p.0) is)
zipped-contains (w ∷ xs) (v ∷ ys) x y (suc k, below, is) =
    let found = zipped-contains xs ys x y (k, omega (arith, below), is) in
    (suc found.0, (let b = found.1 in omega (arith, b)), found.2)

module _ {P H : Type 0} (account : H → ℕ → AccountOf)
    (takes : H → ℕ → List TableShape → Type 0) (shared : Shared) (runners : List (Runner P H))
    (history : List Placed) (is_shared : IsShared shared)
    (ended : HaveAllEnded account takes shared runners history) where
  abbrev script : Script
  script = script_of shared

  abbrev journal : Journal
  journal = journal_of shared runners history

  -- the thread of a number, with what it has
  record TheThread (thread : ℕ) (ls : List lines.Line) (note : ThreadNote) : Type 0 where
    pub r : Runner P H
    pub there : slice_get runners thread ≡ Some r
    pub note_is : note ≡ r.worker.note
    pub end : HasEnded account takes shared history thread r
    pub lines_are : lines_done script r.worker ≡ ls

  the-thread : (thread : ℕ) (ls : List lines.Line) (note : ThreadNote)
      → RanLines script journal thread ls note → TheThread thread ls note
  the-thread thread ls note ran =
      let at = mapped-at (λ (r : Runner P H). r.worker.note) runners thread note ran.noted in
      let end = ended.ended thread at.0 at.1 in
      record {
        r = at.0;
        there = at.1;
        note_is = at.2;
        end = end;
        lines_are = end.run.all ∙ get_or_from_slice_get script.threads thread ls [] ran.ran;
      }

  has-ended : (thread : ℕ) (ls : List lines.Line) (note : ThreadNote)
      → RanLines script journal thread ls note → notes.HasEnded script journal thread ls note
  has-ended thread ls note ran =
      let t = the-thread thread ls note ran in record {
        known = history_of t.end.run.h;
        begins = t.end.begins;
        keeps = subst (λ n. KeepsRules script shared.real (history_of t.end.run.h) thread ls n)
            (sym t.note_is)
            (subst (λ l. KeepsRules script shared.real (history_of t.end.run.h) thread l
            t.r.worker.note) t.lines_are
            (subst (λ k. KeepsRules script shared.real (history_of t.end.run.h) k
            (lines_done script t.r.worker) t.r.worker.note) t.end.run.number
            t.end.run.is.worker.noted.rules));
      }

  -- what a thread has kept for the channel at a place
  record KeptAt (r : Runner P H) (h : List OpRec) (place : ℕ) : Type 0 where
    pub attributes : List Attribute
    pub channel : Channel
    pub c : ChannelValue
    pub kept : HasKept shared attributes r.worker h place channel c (account r.channels.hand place)

  kept-at : (thread : ℕ) (r : Runner P H) (end : HasEnded account takes shared history thread r)
      (place : ℕ) → place < length script.channels → KeptAt r end.run.h place
  kept-at thread r end place below =
      let ready = end.run.is.ready in
      let channel = at-below script.channels place below in
      let many = ready.many in
      let c = at-below r.channels.channels.items place (omega (arith, many, below)) in
      record {
        attributes = ready.named.0;
        channel = channel.item;
        c = c.item;
        kept = end.run.is.kept ready.named.0 ready.named.1 place channel.item c.item
            channel.there c.there;
      }

  -- a flush line of a thread is of a channel
  flushed-channel : (thread : ℕ) (ls : List lines.Line) (channel : ℕ)
      → slice_get script.threads thread ≡ Some ls → Contains ls (line.Flush channel)
      → channel < length script.channels
  flushed-channel thread ls channel at has =
      let all = is_shared.common.runnable.places thread []
      (slice_get_within script.threads thread ls at) in
      let placed : All (IsPlaced script.attributes script.channels script.values) ls =
      subst (All (IsPlaced script.attributes script.channels script.values))
      (get_or_from_slice_get script.threads thread ls [] at) all in
      let flush : IsFlushed script.channels channel =
      All-contains (IsPlaced script.attributes script.channels script.values) ls
      (line.Flush channel) placed has in
      slice_get_within script.channels channel flush.flushed flush.declared

  flush-among : (ls : List lines.Line) (note : ThreadNote) (channel : ℕ) (r : replies.Reply)
      → HasFlushed channel r ls note → Contains ls (line.Flush channel)
  flush-among ls note channel r (k, (l, n), below, is, (flush, answer)) =
      subst (Contains ls) flush (zipped-contains ls note.lines l n (k, below, is))

  -- a thread that has had a turn has merged then
  merged-there : (v : Type 0) (given : List TableValue) (given_up : ℕ)
      → given_up ≡ 0 → (0 < length given → v) → (given ≢ []) ⊎ (0 < given_up) → v
  merged-there v [] given_up none then (inl some) = absurd (some refl)
  merged-there v (x ∷ xs) given_up none then (inl some) = then (omega arith)
  merged-there v given given_up none then (inr up) = absurd (omega (arith, none, up))

  module _ (thread : ℕ) (ls : List lines.Line) (note : ThreadNote)
      (ran : RanLines script journal thread ls note) (channel holder : ℕ)
      (flushed : HasFlushed channel (reply.Busy holder) ls note) where
    t : TheThread thread ls note
    t = the-thread thread ls note ran

    below : channel < length script.channels
    below = flushed-channel thread ls channel ran.ran
        (flush-among ls note channel (reply.Busy holder) flushed)

    mine : KeptAt t.r t.end.run.h channel
    mine = kept-at thread t.r t.end channel below

    -- what the threads have done for the channel
    abbrev done : Runner P H → AccountOf
    done r = account r.channels.hand channel

    abbrev all : List AccountOf
    all = accounts_at account channel runners

    own : slice_get all thread ≡ Some (done t.r)
    own = slice_get-map done runners thread ∙ ap (option_map done) t.there

    -- the thread has met the holder's turn
    has-met : Contains (done t.r).met holder
    has-met = mine.kept.busy holder (subst (λ n. HasFlushed channel (reply.Busy holder)
        (lines_done script t.r.worker) n) t.note_is
        (subst (λ l. HasFlushed channel (reply.Busy holder) l note) (sym t.lines_are) flushed))

    had-turn : ThreadHadTurn all holder
    had-turn = All-contains (ThreadHadTurn all) (done t.r).met holder
        (subst (λ (a : AccountOf). All (ThreadHadTurn all) a.met)
        (get_or_from_slice_get all thread (done t.r) (done t.r) own)
        (ended.run.met channel below thread (done t.r)
        (slice_get_within all thread (done t.r) own)))
        has-met

    holder-account : (a : AccountOf) × (slice_get all holder ≡ Some a) × HadTurn a
    holder-account = some-of (slice_get all holder) had-turn

    other : (r : Runner P H) × (slice_get runners holder ≡ Some r) × (holder-account.0 ≡ done r)
    other = mapped-at done runners holder holder-account.0 holder-account.1

    other-end : HasEnded account takes shared history holder other.0
    other-end = ended.ended holder other.0 other.1

    theirs : KeptAt other.0 other-end.run.h channel
    theirs = kept-at holder other.0 other-end channel below

    has-flushed : HasFlushed channel reply.Merged (lines_done script other.0.worker)
        other.0.worker.note
    has-flushed = merged-there
        (HasFlushed channel reply.Merged (lines_done script other.0.worker) other.0.worker.note)
        (done other.0).given (done other.0).given_up theirs.kept.turns theirs.kept.merged
        (subst HadTurn other.2 holder-account.2)

    has-merged : HasMerged script journal holder channel
    has-merged =
        let many = ended.run.many in
        let within = slice_get_within runners holder other.0 other.1 in
        let ls = at-below script.threads holder (omega (arith, many, within)) in
        record {
          ls = ls.item;
          note = other.0.worker.note;
          ran = record {
            ran = ls.there;
            noted = slice_get-map (λ (r : Runner P H). r.worker.note) runners holder
                ∙ ap (option_map (λ (r : Runner P H). r.worker.note)) other.1;
          };
          merged = subst (λ l. HasFlushed channel reply.Merged l other.0.worker.note)
              (other-end.run.all ∙ get_or_from_slice_get script.threads holder ls.item [] ls.there)
              has-flushed;
        }

  pub have-ended : HaveEnded script journal
  have-ended = record {
    many = length-map runners (λ (r : Runner P H). r.worker.note) ∙ ended.run.many;
    known = ended.known;
    ended = has-ended;
    busy = has-merged;
  }
