-- Channels that are shown a line one after another, and a thread that only reads.
use Rattle.std.proofs.Common.{◌≡◌, ◌≢◌, ◌⊎◌, ℕ, suc, zero, ◌+◌, ◌<◌, ◌≤◌}
use Rattle.std.proofs.Common.{List, [], ◌∷◌, ◌++◌, length}
use Rattle.std.proofs.Common.{Bool, true, false, if◌then◌else◌, refl, sym, ap, ◌∙◌, subst, arith}
use Rattle.std.proofs.Common.{get_or, inl, inr, slice_set}
use Rattle.std.specs.Prelude.{Option, Some, ◌&&◌, ◌||◌, unwrap_or}
use Rattle.std.specs.List.{All, list_any, slice_get}
use Rattle.std.proofs.lemmas.Bool.{cases_lt}
use Rattle.std.proofs.lemmas.List.{append-nil, length-set}
use Rattle.std.proofs.lemmas.Option.{slice_get-get_or, slice_get_within}
use Rattle.cal_book.proofs.Lists.{at_set}
use Rattle.cal_channel.specs.Channels.{HasTaken}
use Rattle.cal_channel.specs.Values.{ChannelValue, HasRoom}
use Rattle.cal_once.specs.Layout.{times}
use Rattle.cal_once.specs.Seats.{view}
use Rattle.cal_once.specs.declared.view.View.{View}
use Rattle.cal_plog.specs.History.{OwnBefore}
use Rattle.cal_plog.specs.Seats.{slots_of}
use Rattle.cal_process.proofs.OperationLemmas.{Held-later}
use Rattle.cal_process.specs.Rooms.{UsesAtMost}
use Rattle.cal_process.specs.declared.common.Common.{Common}
use Rattle.cal_replay.specs.Showing.{AreShown, HaveRoomFor, IsShown, OnlyReads, is_taken_by}
use Rattle.cal_replay.specs.Showing.{sight_by, taken_of}
use Rattle.cal_replay.specs.declared.showing.ShownLine.{ShownLine}
use Rattle.cal_run.proofs.HeldLemmas.{slice_get-All}
use Rattle.cal_run.specs.Lines.{operation_of, takes}
use Rattle.cal_run.specs.Snapshots.{snapshot_of}
use Rattle.cal_run.specs.Steps.{ThreadState}
use Rattle.cal_run.specs.declared.numbers.Numbers.{Numbers}
use Rattle.cal_script.specs.declared.script.Channel.{Channel}
use Rattle.cal_thread.proofs.ThreadLemmas.{taken-later}
use Rattle.cal_thread.specs.Threads.{HasState, IsThread}
use Rattle.cal_thread.specs.declared.thread.Thread.{Thread}
use Rattle.cal_tree.specs.Seats.{IsTreeSeat}
use Rattle.cal_value.specs.declared.record.Rec.{Rec}
use Rattle.cal_words.specs.declared.op.OpRec.{OpRec}
use Rattle.cal_words.specs.declared.sort.NodeSort.{NodeSort}

-- ---- lists

-- the same element of a place
pub one-at : {A : Type 0} (a b : A) (o : Option A) → o ≡ Some a → o ≡ Some b → a ≡ b
one-at a b o is also = ap (λ p. unwrap_or p a) (sym is ∙ also)

-- where no element passes a test, that at a place doesn't
pub none-passes : {A : Type 0} (test : A → Bool) (xs : List A) (place : ℕ) (x : A)
    → list_any test xs ≡ false → slice_get xs place ≡ Some x → test x ≡ false
none-passes test [] place x none is = absurd cc
none-passes test (y ∷ ys) zero x none is =
    ap test (sym (one-at y x (Some y) refl is)) ∙ by (test y) none
  where
    by : (t : Bool) → (t || list_any test ys) ≡ false → t ≡ false
    by true e = e
    by false e = refl
none-passes test (y ∷ ys) (suc place) x none is = none-passes test ys place x (by (test y) none) is
  where
    by : (t : Bool) → (t || list_any test ys) ≡ false → list_any test ys ≡ false
    by true e = absurd cc
    by false e = e

-- an element at each place within
there : {A : Type 0} (xs : List A) (place : ℕ) → place < length xs
    → (x : A) × (slice_get xs place ≡ Some x)
there [] place less = absurd (omega (arith, less))
there (x ∷ xs) zero less = (x, refl)
there (x ∷ xs) (suc place) less = there xs place (omega (arith, less))

and-not : (b : Bool) → (b && false) ≡ false
and-not true = refl
and-not false = refl

nearer : (i place : ℕ) → i < place + 1 → i ≢ place → i < place
nearer i place less ne = near (cases_lt i place)
  where
    near : (i < place) ⊎ (place ≤ i) → i < place
    near (inl l) = l
    near (inr m) = absurd (ne (omega (arith, less, m)))

-- ---- channels

module _ (common : Common) (numbers : Numbers) (thread : Thread) (shown : ShownLine) where
  -- a channel that takes no snapshot of a line stays
  pub unshown : (channel : Channel) (c : ChannelValue)
      → is_taken_by common numbers thread shown channel ≡ false
      → IsShown common numbers thread shown channel c c
  unshown channel c not = record {
    takes = λ attributes h state named has taken unflushed was.
        let more : List Rec = taken_of common numbers thread shown channel
        (sight_by common numbers thread shown h state c.previous) in
        let one : List Rec = snapshot_of common.script.now
        (sight_by common numbers thread shown h state c.previous) channel
        (operation_of shown.line) ∷ [] in
        let empty : more ≡ [] = ap (λ (b : Bool). if b then one else []) not in
        let P : List Rec → List Rec → Type 0 =
        λ ts us. HasTaken attributes common.script.now common.tree thread.tree c ts us in
        subst (λ (m : List Rec). P (taken ++ m) (unflushed ++ m)) (sym empty)
        (subst (λ (ts : List Rec). P ts (unflushed ++ [])) (sym (append-nil taken))
        (subst (λ (us : List Rec). P taken us) (sym (append-nil unflushed)) was));
    previous = sym (ap (λ (b : Bool). if channel.timer && b then shown.reading else c.previous) not
        ∙ ap (λ (b : Bool). if b then shown.reading else c.previous) (and-not channel.timer));
    services = record { trace = refl; shape = refl; few = omega arith };
  }

  pub none-shown : (cs : List ChannelValue)
      → list_any (λ (channel : Channel). shown.accepted
      && takes common.script.now channel shown.line) common.script.now.channels ≡ false
      → AreShown common numbers thread shown cs cs
  none-shown cs none = record {
    many = refl;
    each = λ place channel was is at had has.
        subst (λ (c : ChannelValue). IsShown common numbers thread shown channel was c)
        (one-at was is (slice_get cs place) had has)
        (unshown channel was (none-passes (λ (channel : Channel). shown.accepted
        && takes common.script.now channel shown.line) common.script.now.channels place channel
        none at));
  }

  -- The channels before a place were shown the line, and the others are as before.
  pub record ShownUpTo (old : List ChannelValue) (place : ℕ) (now : List ChannelValue)
      : Type 0 where
    pub many : length now ≡ length old
    pub done : (i : ℕ) (channel : Channel) (was is : ChannelValue) → i < place
        → slice_get common.script.now.channels i ≡ Some channel → slice_get old i ≡ Some was
        → slice_get now i ≡ Some is → IsShown common numbers thread shown channel was is
    pub rest : (i : ℕ) (is : ChannelValue) → place ≤ i → slice_get now i ≡ Some is
        → slice_get old i ≡ Some is

  pub shown-none : (cs : List ChannelValue) → ShownUpTo cs 0 cs
  shown-none cs = record {
    many = refl;
    done = λ i channel was is less at had has. absurd (omega (arith, less));
    rest = λ i is from has. has;
  }

  -- those have room that had it
  pub room-at : (old now : List ChannelValue) (place : ℕ) (was : ChannelValue) → All HasRoom old
      → ShownUpTo old place now → slice_get now place ≡ Some was → HasRoom was
  room-at old now place was room h here =
      slice_get-All HasRoom old place was room (h.rest place was (omega arith) here)

  -- one channel more
  pub shown-next : (old now : List ChannelValue) (place : ℕ) (channel : Channel)
      (was is : ChannelValue) → ShownUpTo old place now
      → slice_get common.script.now.channels place ≡ Some channel
      → slice_get now place ≡ Some was → IsShown common numbers thread shown channel was is
      → ShownUpTo old (place + 1) (slice_set now place is)
  shown-next old now place channel was is h at here s = record {
    many = length-set now place is ∙ h.many;
    done = λ i channel' was' is' less at' had has.
        by-done i channel' was' is' less at' had (at_set now place i is is' has);
    rest = λ i is' from has. by-rest i is' from (at_set now place i is is' has);
  }
    where
      by-done : (i : ℕ) (channel' : Channel) (was' is' : ChannelValue) → i < place + 1
          → slice_get common.script.now.channels i ≡ Some channel' → slice_get old i ≡ Some was'
          → ((i ≡ place) × (is ≡ is')) ⊎ ((i ≢ place) × (slice_get now i ≡ Some is'))
          → IsShown common numbers thread shown channel' was' is'
      by-done i channel' was' is' less at' had (inr other) =
          let ne : i ≢ place = other.0 in
          h.done i channel' was' is' (nearer i place less ne) at' had other.1
      by-done i channel' was' is' less at' had (inl same) =
          let begun : slice_get old place ≡ Some was = h.rest place was (omega arith) here in
          let chan : channel ≡ channel' = one-at channel channel'
          (slice_get common.script.now.channels place) at
          (ap (slice_get common.script.now.channels) (sym same.0) ∙ at') in
          let before : was ≡ was' = one-at was was' (slice_get old place) begun
          (ap (slice_get old) (sym same.0) ∙ had) in
          subst (λ (c : Channel). IsShown common numbers thread shown c was' is') chan
          (subst (λ (w : ChannelValue). IsShown common numbers thread shown channel w is') before
          (subst (λ (w : ChannelValue). IsShown common numbers thread shown channel was w)
          same.1 s))

      by-rest : (i : ℕ) (is' : ChannelValue) → place + 1 ≤ i
          → ((i ≡ place) × (is ≡ is')) ⊎ ((i ≢ place) × (slice_get now i ≡ Some is'))
          → slice_get old i ≡ Some is'
      by-rest i is' from (inl same) = let e : i ≡ place = same.0 in absurd (omega (arith, e, from))
      by-rest i is' from (inr other) = h.rest i is' (omega (arith, from)) other.1

  -- and then all were
  pub shown-all : (old now : List ChannelValue) (place : ℕ) → ShownUpTo old place now
      → length common.script.now.channels ≤ place → AreShown common numbers thread shown old now
  shown-all old now place h all = record {
    many = h.many;
    each = λ i channel was is at had has. h.done i channel was is
        (let l = within i channel at in omega (arith, l, all)) at had has;
  }
    where
      within : (i : ℕ) (channel : Channel)
          → slice_get common.script.now.channels i ≡ Some channel
          → i < length common.script.now.channels
      within i channel at = slice_get_within common.script.now.channels i channel at

  -- and there is room for one snapshot less in each
  pub rooms-after : (old now : List ChannelValue) (left : ℕ)
      → length old ≡ length common.script.now.channels
      → AreShown common numbers thread shown old now → HaveRoomFor (left + 1) old
      → HaveRoomFor left now
  rooms-after old now left many shown room i d less =
      let same = shown.many in
      let within : i < length old = omega (arith, same, less) in
      let at = there common.script.now.channels i (omega (arith, many, within)) in
      let one = (shown.each i at.0 (get_or old i d) (get_or now i d) at.1
      (slice_get-get_or old i d within) (slice_get-get_or now i d less)).services.few in
      let had = room i d within in
      omega (arith, one, had)

-- room for more than is needed
pub rooms-stay : (cs : List ChannelValue) (left : ℕ) → HaveRoomFor (left + 1) cs
    → HaveRoomFor left cs
rooms-stay cs left room i d less = let had = room i d less in omega (arith, had)

-- ---- a thread that only reads

pub reads-nothing : (t : Thread) → OnlyReads t t
reads-nothing t = record { same = refl; learns = record { same = refl; more = λ i x s. s } }

-- a thread that has learned of the tree has its state
pub state-reads : (common : Common) (old new : Thread) (h : List OpRec) (state : ThreadState)
    → OnlyReads old new → IsTreeSeat common.tree new.tree → HasState common old h state
    → HasState common new h state
state-reads common old new h state reads at has =
    subst (λ (t : Thread). HasState common t h state) (sym reads.same) (record {
      taken = taken-later common old.tree new.tree old.process h at reads.learns.more has.taken;
      number = has.number;
      at_nodes = ap (λ (v : View NodeSort). v.number) reads.learns.same ∙ has.at_nodes;
      mine = Held-later common old.tree new.tree reads.learns.more old.board state.board has.mine;
      readings = has.readings;
      clock = has.clock;
    })

-- and has readings where it had them
pub timed-reads : (old new : Thread) (channels : List Channel) → OnlyReads old new
    → All (λ (channel : Channel). channel.timer ≡ true → old.timed ≡ true) channels
    → All (λ (channel : Channel). channel.timer ≡ true → new.timed ≡ true) channels
timed-reads old new channels reads timed =
    subst (λ (t : Thread). All (λ (channel : Channel). channel.timer ≡ true → t.timed ≡ true)
    channels) (sym reads.same) timed

-- it uses the words that it used
pub reads-uses : (common : Common) (old new : Thread) (h : List OpRec) (done : ℕ)
    → OnlyReads old new → UsesAtMost common (view old.tree) h old.number done
    → UsesAtMost common (view new.tree) h new.number done
reads-uses common old new h done reads uses =
    let used = ap (λ (v : View NodeSort). v.used) reads.learns.same in
    let number = ap (λ (t : Thread). t.number) reads.same in
    subst (λ (n : ℕ). UsesAtMost common (view new.tree) h n done) (sym number)
    (omega (arith, used, uses))

-- a thread that has learned of the tree is behind as many lines as before
pub thread-reads : (common : Common) (old new : Thread) (done : ℕ) (h : List OpRec)
    (state : ThreadState) → OnlyReads old new → HasState common new h state
    → IsThread common old done h state → IsThread common new done h state
thread-reads common old new done h state reads has w = record {
  has = has;
  own = subst (λ (t : Thread). OwnBefore (slots_of common.log) (view t.process.log) (done + 1))
      (sym reads.same) w.own;
  below = subst (λ (t : Thread). (place : ℕ) → 0 < times place (view t.process.log).published
      → place < t.process.seen) (sym reads.same) w.below;
  uses = reads-uses common old new h done reads w.uses;
}
