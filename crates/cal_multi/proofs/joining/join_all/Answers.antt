use Rattle.std.proofs.Common.{◌≡◌, ℕ, List, [], ◌∷◌, ◌++◌, Some, Option, Result, length}
use Rattle.std.proofs.Common.{append_assoc, append-nil, sym, ap, ◌∙◌, subst, arith}
use Rattle.std.specs.Prelude.{All}
use Rattle.std.specs.Vec.Iter.{into_iter_items}
use Rattle.std.proofs.lemmas.List.{length-append, length-map, map-append, nil_from_length}
use Rattle.cal_engine.specs.Standing.{HasFolded}
use Rattle.cal_engine.specs.declared.snapshot_fold.SnapshotFold.{SnapshotFold}
use Rattle.cal_query.specs.declared.end.RowsEnd.{RowsEnd}
use Rattle.cal_query.specs.declared.seeing.Seen.{Seen}
use Rattle.cal_value.specs.declared.record.Rec.{Rec}
use Rattle.cal_multi.proofs.Joins.{all-sound, first-bad, one-more}
use Rattle.cal_multi.proofs.Shared.{between}
use Rattle.cal_multi.specs.Many.{StopsMany, rows_of_all}
use Rattle.cal_multi.specs.Shares.{ComesTo, HaveJoined, HaveTaken, IsFolded, StopsAt}
use Rattle.cal_multi.specs.Shares.{bytes_of}
use Rattle.cal_multi.specs.declared.share.Share.{Share}
use Rattle.cal_multi.proofs.joining.join_all.Goals as goal
use Rattle.cal_multi.proofs.joining.join_all.Goals.{In-Some}

-- the shares so far, the next one, and the rest
split : (c : In-Some) → c.loop-share.yielded ++ c.in-Some.share ∷ into_iter_items c.next.new.self
    ≡ c.args.shares.items
split c = rw (← c.in-Some.ensures.steps.0) c.loop-share.invariant.whole

-- the next one was folded
folded : (c : In-Some) → IsFolded c.args.query.now c.in-Some.share
folded c = between (IsFolded c.args.query.now) c.loop-share.yielded
    (into_iter_items c.next.new.self) c.in-Some.share
    (subst (λ (ss : List Share). All (IsFolded c.args.query.now) ss) (sym (split c))
    c.requires.folded)

pub returns-in-Err-clause-refused : goal.returns-in-Err-clause-refused
returns-in-Err-clause-refused c =
    let s = (goal.at.returns-in-Err-clause-refused c).In-Some in
    let at = c.loop-share in
    let end = c.in-Err.end in
    let bytes = c.in-Some.share.bytes.now in
    let before = bytes_of at.yielded in
    let number : at.place ≡ length before =
    at.invariant.number ∙ sym (length-map at.yielded (λ (x : Share). x.bytes.now)) in
    subst (λ (files : List (List ℕ)). StopsMany end files)
    (sym (map-append (λ (x : Share). x.bytes.now) at.yielded
    (c.in-Some.share ∷ into_iter_items c.next.new.self)) ∙ ap bytes_of (split s))
    (first-bad before (bytes_of (into_iter_items c.next.new.self)) bytes end
    (all-sound before at.invariant.joined.all at.invariant.joined.streams)
    (subst (λ (n : ℕ). StopsAt end n bytes) number c.in-Err.ensures.refused))

pub loop-share-preserved : goal.loop-share-preserved
loop-share-preserved c =
    let s = (goal.at.loop-share-preserved c).In-Some in
    let at = c.loop-share in
    let share = c.in-Some.share in
    let query = c.args.query.now in
    let one = share ∷ [] in
    record {
      whole = append_assoc at.yielded one (into_iter_items c.next.new.self) ∙ split s;
      left =
          let was = at.invariant.left in
          let gone = c.in-Some.ensures.steps.1 in
          let short = ap length c.in-Some.ensures.steps.0 in
          omega arith;
      number =
          let was = at.invariant.number in
          let sum = length-append at.yielded one in
          omega (arith, was, sum);
      joined = subst (λ (files : List (List ℕ)). HaveJoined query files
          (Some c.in_ok-join.field-0))
          (sym (map-append (λ (x : Share). x.bytes.now) at.yielded one))
          (one-more query (bytes_of at.yielded) share.bytes.now at.joined c.in-Ok.fold
          c.in_ok-join.field-0 at.invariant.joined
          (subst (λ (came : Result (Seen SnapshotFold) RowsEnd).
          ComesTo query share.bytes.now came) c.in-Ok.ensures.own (folded s))
          c.in_ok-join.ensures);
    }

pub returns-in_default-clause-joined : goal.returns-in_default-clause-joined
returns-in_default-clause-joined c =
    let at = c.loop-share in
    let query = c.args.query.now in
    let own = c.in_ok-new_fold.field-0 in
    let none = c.in-None.ensures.steps in
    let left : List Share = into_iter_items at.share-iterator in
    let empty : left ≡ [] = nil_from_length left (sym at.invariant.left ∙ none.0) in
    let all : at.yielded ≡ c.args.shares.items = sym (append-nil at.yielded)
    ∙ ap (λ (ss : List Share). at.yielded ++ ss) (sym empty) ∙ at.invariant.whole in
    let joined = subst (λ (ss : List Share). HaveJoined query (bytes_of ss) at.joined) all
    at.invariant.joined in
    let rows : rows_of_all joined.all ≡ [] =
    subst (λ (o : Option (Seen SnapshotFold)). HaveTaken o (rows_of_all joined.all))
    c.in_default.is joined.taken in
    record {
      all = joined.all;
      streams = joined.streams;
      about = c.in_ok-new_fold.ensures.query;
      taken = subst (λ (rs : List Rec). HasFolded own.taker own.context rs) (sym rows)
          c.in_ok-new_fold.ensures.none;
    }
