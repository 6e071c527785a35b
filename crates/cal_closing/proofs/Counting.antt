-- What the tables of all threads count.
use Rattle.std.proofs.Common.{◌≡◌, ℕ, suc, Some, List, [], ◌∷◌, ◌++◌, refl, sym, subst, arith}
use Rattle.std.proofs.Common.{IsPermutation}
use Rattle.std.specs.List.{AllZip}
use Rattle.std.proofs.lemmas.List.Elements.{All-append, All-head, All-nil, All-tail}
use Rattle.std.proofs.lemmas.List.Sorted.{IsPermutation-refl}
use Rattle.cal_board.proofs.StandingLemmas.{AllZip-append, AllZip-weaken}
use Rattle.cal_book.specs.declared.view.Account.{Account}
use Rattle.cal_channel.proofs.LawLemmas.{counts-later, part-counts}
use Rattle.cal_channel.specs.Channels.{CountTogether, Counts, IsCounted}
use Rattle.cal_channel.specs.Values.{ChannelValue}
use Rattle.cal_closing.proofs.Given.{all-cons}
use Rattle.cal_closing.proofs.Orders.{joined-append, joined-snoc, order-more}
use Rattle.cal_closing.specs.Parts.{AreOfShape, AreTablesOf, all_of}
use Rattle.cal_closing.specs.Seats.{given_by}
use Rattle.cal_closing.specs.Shares.{AreShares, IsShare}
use Rattle.cal_once.specs.Seats.{view}
use Rattle.cal_once.specs.Views.{KnowsMore}
use Rattle.cal_once.specs.declared.seat.RowSeat.{RowSeat}
use Rattle.cal_process.specs.declared.common.Common.{Common}
use Rattle.cal_replay.specs.Channels.{HasShown, joined}
use Rattle.cal_script.specs.declared.script.Script.{Script}
use Rattle.cal_table.proofs.Standing.{StandsFor-merged}
use Rattle.cal_table.specs.Snapshots.{table_of}
use Rattle.cal_table.specs.TableLaws.{Same-refl, Same-trans}
use Rattle.cal_table.specs.Tables.{Same, TableValue, empty_table, merged_tables}
use Rattle.cal_table.specs.declared.shape.TableShape.{TableShape}
use Rattle.cal_tree.specs.declared.tree.Tree.{Tree}
use Rattle.cal_value.specs.declared.attribute.Attribute.{Attribute}
use Rattle.cal_value.specs.declared.record.Rec.{Rec}
use Rattle.cal_words.specs.declared.sort.NodeSort.{NodeSort}

module _ (attributes : List Attribute) (script : Script) (tree : Tree)
    (seat : RowSeat NodeSort) where
  abbrev Stands : TableValue → List Rec → Type 0
  Stands table recs = Counts attributes script tree seat table recs

  -- a table that stands for the same
  counts-same : (one other : TableValue) (recs : List Rec) → Same one other
      → Stands other recs → Stands one recs
  counts-same one other recs same h = record {
    snaps = h.snaps;
    means = h.means;
    stands = Same-trans one other (table_of one.shape h.snaps) same
        (subst (λ (q : TableShape). Same other (table_of q h.snaps)) (sym same.shape) h.stands);
  }

  -- two tables, merged
  counts-merged : (one other merged : TableValue) (xs ys : List Rec) → Stands one xs
      → Stands other ys → other.shape ≡ one.shape → Same merged (merged_tables one other)
      → Stands merged (xs ++ ys)
  counts-merged one other merged xs ys h k shape same = record {
    snaps = h.snaps ++ k.snaps;
    means = AllZip-append (IsCounted attributes script tree seat) h.snaps k.snaps xs ys h.means
        k.means;
    stands = StandsFor-merged h.snaps k.snaps one other merged h.stands k.stands shape same;
  }

  module _ (q : TableShape) where
    -- all parts that threads gave, as one table
    counts-parts : (parts : List TableValue) (flushed : List (List Rec)) → AreOfShape q parts
        → AllZip Stands parts flushed → Stands (all_of q parts) (joined flushed)
    counts-parts [] [] made zip =
        record { snaps = []; means = tt; stands = Same-refl (empty_table q) }
    counts-parts [] (recs ∷ flushed) made zip = absurd zip
    counts-parts (part ∷ parts) [] made zip = absurd zip
    counts-parts (part ∷ parts) (recs ∷ flushed) made zip =
        let of : TableValue → Type 0 = λ table. table.shape ≡ q in
        let first : part.shape ≡ q = All-head of part parts made in
        counts-merged part (all_of q parts) (all_of q (part ∷ parts)) recs (joined flushed) zip.0
        (counts-parts parts flushed (All-tail of part parts made) zip.1) (sym first)
        (all-cons q part parts first)

    -- What all threads have taken: each part that was given counts some of it, and each table that
    -- was left.
    record AreSplit (given lefts : List TableValue) (taken : List Rec) : Type 0 where
      pub flushed : List (List Rec)
      pub unflushed : List (List Rec)
      pub parts : AllZip Stands given flushed
      pub rests : AllZip Stands lefts unflushed
      pub made : AreOfShape q given
      pub order : IsPermutation (joined unflushed ++ joined flushed) taken

    -- one thread more
    split-more : (given : List TableValue) (left : TableValue) (taken : List Rec)
        (more lefts : List TableValue) (all : List Rec)
        → IsShare attributes script tree seat q given left taken → AreSplit more lefts all
        → AreSplit (given ++ more) (left ∷ lefts) (taken ++ all)
    split-more given left taken more lefts all h k = record {
      flushed = h.flushed ++ k.flushed;
      unflushed = h.unflushed ∷ k.unflushed;
      parts = AllZip-append Stands given more h.flushed k.flushed h.parts k.parts;
      rests = (h.rest, k.rests);
      made = All-append (λ (table : TableValue). table.shape ≡ q) given more h.made k.made;
      order =
          let before : List Rec = h.unflushed ++ joined k.unflushed in
          subst (λ (recs : List Rec). IsPermutation (before ++ recs) (taken ++ all))
          (sym (joined-append h.flushed k.flushed))
          (subst (λ (recs : List Rec).
          IsPermutation (before ++ (joined h.flushed ++ joined k.flushed)) (recs ++ all)) h.whole
          (order-more (joined h.flushed) h.unflushed (joined k.flushed) (joined k.unflushed) all
          k.order));
    }

    -- all threads
    split-shares : (accounts : List (Account TableValue)) (lefts : List TableValue)
        (takens : List (List Rec))
        → AreShares attributes script tree seat q accounts lefts takens
        → AreSplit (given_by accounts) lefts (joined takens)
    split-shares [] [] [] h = record {
      flushed = [];
      unflushed = [];
      parts = tt;
      rests = tt;
      made = All-nil (λ (table : TableValue). table.shape ≡ q);
      order = IsPermutation-refl [];
    }
    split-shares [] [] (taken ∷ takens) h = absurd (omega (arith, h.takens_are))
    split-shares [] (left ∷ lefts) takens h = absurd (omega (arith, h.lefts_are))
    split-shares (account ∷ accounts) [] takens h = absurd (omega (arith, h.lefts_are))
    split-shares (account ∷ accounts) (left ∷ lefts) [] h = absurd (omega (arith, h.takens_are))
    split-shares (account ∷ accounts) (left ∷ lefts) (taken ∷ takens) h =
        split-more account.given left taken (given_by accounts) lefts (joined takens)
        (h.each 0 account left taken refl refl refl)
        (split-shares accounts lefts takens record {
          lefts_are = omega (arith, h.lefts_are);
          takens_are = omega (arith, h.takens_are);
          each = λ k a l t a_at l_at t_at. h.each (suc k) a l t a_at l_at t_at;
        })

    -- the book's table
    split-book : (given lefts tables : List TableValue) (taken : List Rec)
        (h : AreSplit given lefts taken) (t : AreTablesOf q given lefts tables)
        → Stands t.book (joined h.flushed)
    split-book given lefts tables taken h t =
        counts-same t.book (all_of q given) (joined h.flushed) t.merged
        (counts-parts given h.flushed h.made h.parts)

    -- the tables of a channel, where all that was given stands behind all that was left
    split-together : (given lefts tables : List TableValue) (taken : List Rec)
        → AreSplit given lefts taken → AreTablesOf q given lefts tables
        → CountTogether attributes script tree seat tables taken
    split-together given lefts tables taken h t = record {
      parts = h.unflushed ++ joined h.flushed ∷ [];
      each = subst (λ (ts : List TableValue).
          AllZip Stands ts (h.unflushed ++ joined h.flushed ∷ [])) (sym t.tables_are)
          (AllZip-append Stands lefts (t.book ∷ []) h.unflushed (joined h.flushed ∷ []) h.rests
          (split-book given lefts tables taken h t, tt));
      whole = subst (λ (recs : List Rec). IsPermutation recs taken)
          (sym (joined-snoc h.unflushed (joined h.flushed))) h.order;
    }

  pub closed-counts : (shape : TableShape) (accounts : List (Account TableValue))
      (lefts : List TableValue) (takens : List (List Rec)) (tables : List TableValue)
      → AreShares attributes script tree seat shape accounts lefts takens
      → AreTablesOf shape (given_by accounts) lefts tables
      → CountTogether attributes script tree seat tables (joined takens)
  closed-counts shape accounts lefts takens tables h are =
      split-together shape (given_by accounts) lefts tables (joined takens)
      (split-shares shape accounts lefts takens h) are

-- a thread's share, as a seat knows it that knows more than the thread's own
pub share-of : (common : Common) (attributes : List Attribute) (own seat : RowSeat NodeSort)
    (shape : TableShape) (kept : ChannelValue) (given : List TableValue) (left : TableValue)
    (taken : List Rec) (last : ℕ) → KnowsMore (view own) (view seat)
    → HasShown common attributes own kept given taken last → kept.table ≡ Some left
    → AreOfShape shape given → left.shape ≡ shape
    → IsShare attributes common.script.now common.tree seat shape given left taken
share-of common attributes own seat shape kept given left taken last more h is made left_made =
    record {
      flushed = h.flushed;
      unflushed = h.unflushed;
      whole = h.whole;
      parts = AllZip-weaken (Counts attributes common.script.now common.tree own)
          (Counts attributes common.script.now common.tree seat)
          (λ table recs. counts-later attributes common.script.now common.tree own seat more recs
          table) given h.flushed h.parts;
      rest = counts-later attributes common.script.now common.tree own seat more h.unflushed left
          (part-counts attributes common.script.now common.tree own kept left taken h.unflushed is
          h.taken);
      made = made;
      left_made = left_made;
    }
