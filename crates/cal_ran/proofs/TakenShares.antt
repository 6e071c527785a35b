-- The traces of all threads in a channel, and their shares of its book, thread by thread.
use Rattle.std.proofs.Common.{◌≡◌, ℕ, zero, suc, true, List, [], ◌∷◌, ◌++◌, length, map}
use Rattle.std.proofs.Common.{get_or, refl, sym, ap, ◌∙◌, subst, arith}
use Rattle.std.specs.Prelude.{Option, Some, None, IfSome, is_some, slice_get, zip}
use Rattle.std.specs.List.{AllZip, cons_option}
use Rattle.std.proofs.lemmas.List.Elements.{All-head, All-push, All-same, All-tail}
use Rattle.std.proofs.lemmas.Option.{same_Some, slice_get-get_or}
use Rattle.cal_book.specs.declared.view.Account.{Account}
use Rattle.cal_channel.proofs.LawLemmas.{taken-later}
use Rattle.cal_channel.specs.Places.{at_place}
use Rattle.cal_channel.specs.Values.{ChannelValue}
use Rattle.cal_closing.proofs.Counting.{share-of}
use Rattle.cal_closing.specs.Parts.{AreMadeFor, AreOfShape, AreTablesOf}
use Rattle.cal_closing.specs.Seats.{given_by}
use Rattle.cal_closing.specs.Shares.{AreShares, IsShare}
use Rattle.cal_delivery.specs.Taken.{HasTrace}
use Rattle.cal_finish.proofs.LawfulRuns.{at-below}
use Rattle.cal_finish.specs.Ended.{accounts_at, notes_of}
use Rattle.cal_handover.specs.Places.{emptied, tables_at}
use Rattle.cal_keeping.specs.Hands.{AccountOf}
use Rattle.cal_keeping.specs.declared.runner.Runner.{Runner}
use Rattle.cal_once.specs.declared.seat.RowSeat.{RowSeat}
use Rattle.cal_process.specs.declared.common.Common.{Common}
use Rattle.cal_ran.proofs.Places.{channels_of, left-cons, left_of, tables-cons}
use Rattle.cal_ran.proofs.TakenLines.{HasTakenLines}
use Rattle.cal_run.specs.Runs.{taken_by_thread}
use Rattle.cal_script.specs.declared.journal.Placed.{Placed}
use Rattle.cal_script.specs.declared.script.Channel.{Channel}
use Rattle.cal_script.specs.declared.script.Line.{Line}
use Rattle.cal_script.specs.declared.script.Script.{Script}
use Rattle.cal_table.specs.Tables.{TableValue}
use Rattle.cal_table.specs.declared.shape.TableShape.{TableShape}
use Rattle.cal_tree.specs.declared.tree.Tree.{Tree}
use Rattle.cal_value.specs.declared.attribute.Attribute.{Attribute}
use Rattle.cal_value.specs.declared.record.Rec.{Rec}
use Rattle.cal_words.specs.declared.sort.NodeSort.{NodeSort}

-- what is there of an optional item that is
there : {A : Type 0} (o : Option A) → is_some o ≡ true → (x : A) × (o ≡ Some x)
there None is = absurd cc
there (Some x) is = (x, refl)

-- ---- what tables count

-- Tables are those that threads have left, and behind them one that stands for all parts that they
-- gave, which were made for it.
pub record IsCounted (shape : TableShape) (accounts : List AccountOf)
    (left tables : List TableValue) : Type 0 where
  pub closed : AreTablesOf shape (given_by accounts) left tables
  pub made : AreMadeFor shape accounts

-- and so are these, place by place
pub record AreCounted {P H : Type 0} (account : H → ℕ → AccountOf) (shapes : List TableShape)
    (runners : List (Runner P H)) (tables : List (List TableValue)) : Type 0 where
  pub many : length tables ≡ length shapes
  pub each : (place : ℕ) (shape : TableShape) (own : List TableValue)
      → slice_get shapes place ≡ Some shape → slice_get tables place ≡ Some own
      → IsCounted shape (accounts_at account place runners) (tables_at place (channels_of runners))
      own

-- ---- shares, one more

module _ (attributes : List Attribute) (script : Script) (tree : Tree)
    (seat : RowSeat NodeSort) (shape : TableShape) where
  abbrev Share : List TableValue → TableValue → List Rec → Type 0
  Share given left taken = IsShare attributes script tree seat shape given left taken

  abbrev Shares : List (Account TableValue) → List TableValue → List (List Rec) → Type 0
  Shares accounts lefts takens =
      AreShares attributes script tree seat shape accounts lefts takens

  shares-none : Shares [] [] []
  shares-none = record {
    lefts_are = refl;
    takens_are = refl;
    each = λ k account left taken at_account at_left at_taken. absurd cc;
  }

  shares-cons : (account : Account TableValue) (left : TableValue) (taken : List Rec)
      (accounts : List (Account TableValue)) (lefts : List TableValue)
      (takens : List (List Rec)) → Share account.given left taken
      → Shares accounts lefts takens → Shares (account ∷ accounts) (left ∷ lefts) (taken ∷ takens)
  shares-cons account left taken accounts lefts takens first rest = record {
    lefts_are = ap suc rest.lefts_are;
    takens_are = ap suc rest.takens_are;
    each = each;
  }
    where
      each : (k : ℕ) (a : Account TableValue) (l : TableValue) (t : List Rec)
          → slice_get (account ∷ accounts) k ≡ Some a → slice_get (left ∷ lefts) k ≡ Some l
          → slice_get (taken ∷ takens) k ≡ Some t → Share a.given l t
      each zero a l t at_a at_l at_t =
          subst (λ (x : Account TableValue). Share x.given l t) (same_Some account a at_a)
          (subst (λ (x : TableValue). Share account.given x t) (same_Some left l at_l)
          (subst (λ (x : List Rec). Share account.given left x) (same_Some taken t at_t) first))
      each (suc k) a l t at_a at_l at_t = rest.each k a l t at_a at_l at_t

  -- what is left is of the shape
  left-made : (accounts : List (Account TableValue)) (lefts : List TableValue)
      (takens : List (List Rec)) → Shares accounts lefts takens → AreOfShape shape lefts
  left-made accounts lefts takens h k d less =
      let many = h.lefts_are in
      let many_takens = h.takens_are in
      let account = at-below accounts k (omega (arith, less, many)) in
      let taken = at-below takens k (omega (arith, less, many, many_takens)) in
      (h.each k account.item (get_or lefts k d) taken.item account.there
      (slice_get-get_or lefts k d less) taken.there).left_made

  -- and so are all tables of the channel
  pub tables-made : (accounts : List (Account TableValue)) (lefts tables : List TableValue)
      (takens : List (List Rec)) → Shares accounts lefts takens
      → AreTablesOf shape (given_by accounts) lefts tables → AreOfShape shape tables
  tables-made accounts lefts tables takens h closed =
      let of : TableValue → Type 0 = λ table. table.shape ≡ shape in
      All-same of tables (lefts ++ closed.book ∷ []) closed.tables_are
      (All-push of lefts closed.book (left-made accounts lefts takens h) closed.merged.shape)

-- ---- a channel

module _ (attributes : List Attribute) (common : Common)
    (seat : RowSeat NodeSort) (history : List Placed) (place : ℕ) (channel : Channel)
    (shape : TableShape) where
  abbrev script : Script
  script = common.script.now

  module _ {P H : Type 0} where
    -- what a thread has taken, and what all threads have
    abbrev pub taken : List Line → Runner P H → List Rec
    taken ls r = taken_by_thread script history channel (ls, r.worker.note)

    abbrev pub takens : List (List Line) → List (Runner P H) → List (List Rec)
    takens threads runners =
        map (taken_by_thread script history channel) (zip threads (notes_of runners))

    module _ (account : H → ℕ → AccountOf) where
      abbrev Takes : List Line → Runner P H → Type 0
      Takes ls r = HasTakenLines account attributes common seat history place channel shape ls r

      trace-of : (ls : List Line) (r : Runner P H) (h : Takes ls r)
          → HasTrace attributes script common.tree seat channel (emptied h.c) (taken ls r)
      trace-of ls r h = record {
        has = h.traces;
        means = (taken-later attributes script common.tree r.worker.thread.tree seat h.knows h.c
            (taken ls r) h.shown.unflushed h.shown.taken).trace;
      }

      -- each thread's trace means what it has taken
      pub traces-at : (threads : List (List Line)) (runners : List (Runner P H))
          → AllZip Takes threads runners
          → AllZip (HasTrace attributes script common.tree seat channel)
          (at_place place (left_of runners)) (takens threads runners)
      traces-at [] [] all = tt
      traces-at [] (r ∷ runners) all = absurd all
      traces-at (ls ∷ threads) [] all = absurd all
      traces-at (ls ∷ threads) (r ∷ runners) all =
          subst (λ (cs : List ChannelValue).
          AllZip (HasTrace attributes script common.tree seat channel) cs
          (takens (ls ∷ threads) (r ∷ runners)))
          (sym (left-cons place r runners all.0.c all.0.channel_at))
          (trace-of ls r all.0, traces-at threads runners all.1)

      -- a thread's share, where the channel aggregates
      share-at : (ls : List Line) (r : Runner P H) (h : Takes ls r) (left : TableValue)
          → h.c.table ≡ Some left → AreOfShape shape (account r.channels.hand place).given
          → IsShare attributes script common.tree seat shape (account r.channels.hand place).given
          left (taken ls r)
      share-at ls r h left is made =
          share-of common attributes r.worker.thread.tree seat shape h.c
          (account r.channels.hand place).given left (taken ls r) h.last h.knows h.shown is made
          (subst (λ (o : Option TableValue). IfSome o (λ (t : TableValue). t.shape ≡ shape)) is
          h.made)

      -- what each thread has given, and what it has left, is its share
      pub shares-at : channel.aggregate ≡ true → (threads : List (List Line))
          (runners : List (Runner P H)) → AllZip Takes threads runners
          → AreMadeFor shape (accounts_at account place runners)
          → AreShares attributes script common.tree seat shape (accounts_at account place runners)
          (tables_at place (channels_of runners)) (takens threads runners)
      shares-at does [] [] all made = shares-none attributes script common.tree seat shape
      shares-at does [] (r ∷ runners) all made = absurd all
      shares-at does (ls ∷ threads) [] all made = absurd all
      shares-at does (ls ∷ threads) (r ∷ runners) all made =
          let h : Takes ls r = all.0 in
          let accounts : List AccountOf = accounts_at account place runners in
          let tables : List TableValue = tables_at place (channels_of runners) in
          let recs : List (List Rec) = takens (ls ∷ threads) (r ∷ runners) in
          let own : AccountOf = account r.channels.hand place in
          let left = there h.c.table (h.aggregates ∙ does) in
          let tables-are : tables_at place (channels_of (r ∷ runners)) ≡ left.0 ∷ tables =
          tables-cons place r runners h.c h.channel_at
          ∙ ap (λ (o : Option TableValue). cons_option o tables) left.1 in
          let parts : AccountOf → Type 0 = λ a. AreOfShape shape a.given in
          subst (λ (ts : List TableValue). AreShares attributes script common.tree seat shape
          (own ∷ accounts) ts recs) (sym tables-are)
          (shares-cons attributes script common.tree seat shape own left.0 (taken ls r) accounts
          tables (takens threads runners)
          (share-at ls r h left.0 left.1 (All-head parts own accounts made))
          (shares-at does threads runners all.1 (All-tail parts own accounts made)))
