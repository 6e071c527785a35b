use Rattle.std.proofs.Common.{◌≡◌, ◌<◌, List, [], ◌∷◌, ◌++◌, length, map, sym, ap, subst, ◌∙◌, append-nil, append_assoc, refl, rules}
use Rattle.std.specs.List.{All}
use Rattle.std.specs.Vec.Iter.{into_iter_items}
use Rattle.cal_value.specs.declared.record.Rec.{Rec}
use Rattle.cal_context.specs.Snapshots.{IsIn, entry_of, meaning}
use Rattle.cal_context.specs.declared.snapshot.Immediate.{Immediate}
use Rattle.cal_context.specs.declared.snapshot.Snapshot.{Snapshot}
use Rattle.cal_context.proofs.CallerLemmas.{TakesMore-trans}
use Rattle.cal_query.specs.Joining.{with_entries}
use Rattle.cal_query.proofs.Keepings.{all_first, all_rest}
use Rattle.cal_query.proofs.joining.hand_on.Goals as goal

pub loop-snapshot-init : goal.loop-snapshot-init
loop-snapshot-init g c =
    let items : into_iter_items c.into_iter-snapshot-iterator.result ≡ c.args.kept.items =
    search rules in
    let t = c.args.context.now in
    let joined : List Snapshot → List Rec = λ ss.
    map (with_entries (map (entry_of t) c.args.globals.items)) (map (meaning t) ss) in
    record {
      are_in = subst (All (IsIn t)) (sym items) c.requires.kept;
      globals = refl {A = List Immediate};
      handed = (
        [],
        (λ rs had. subst (λ (xs : List Rec). g.T.Taker.has_taken c.args.taker.now t xs)
            (sym (append-nil rs)) had),
        ap joined items,
      );
      about = refl;
    }

pub hand_on_one-requires-clause-row : goal.hand_on_one-requires-clause-row
hand_on_one-requires-clause-row g c =
    let first : into_iter_items c.loop-snapshot.snapshot-iterator
    ≡ c.in-Some.snapshot ∷ into_iter_items c.next.new.self = search rules in
    all_first (IsIn c.args.context.now) _ c.in-Some.snapshot _ first
    c.loop-snapshot.invariant.are_in

pub hand_on_one-requires-clause-globals : goal.hand_on_one-requires-clause-globals
hand_on_one-requires-clause-globals g c =
    subst
    (λ (is : List Immediate). All (λ i. i.attribute.0 < length c.args.context.now.attributes) is)
    (sym c.loop-snapshot.invariant.globals) c.requires.globals

pub loop-snapshot-preserved : goal.loop-snapshot-preserved
loop-snapshot-preserved g c =
    let t = c.args.context.now in
    let s = c.in-Some.snapshot in
    let first : into_iter_items c.loop-snapshot.snapshot-iterator
    ≡ s ∷ into_iter_items c.next.new.self = search rules in
    let same = c.loop-snapshot.invariant.globals in
    let has = λ (rs : List Rec). g.T.Taker.has_taken c.hand_on_one.new.taker t rs in
    let join : List Immediate → Rec → Rec = λ is. with_entries (map (entry_of t) is) in
    let joined : Rec → Rec = join c.args.globals.items in
    let handed = c.loop-snapshot.invariant.handed in
    let total = map joined (map (meaning t) c.args.kept.items) in
    let left : List Snapshot → List Rec = λ ss. handed.0 ++ map joined (map (meaning t) ss) in
    let whole : left (s ∷ into_iter_items c.next.new.self) ≡ total =
    ap left (sym first) ∙ handed.2 in
    record {
      are_in = all_rest (IsIn t) _ s _ first c.loop-snapshot.invariant.are_in;
      globals = ◌∙◌ {c = c.args.globals.items} c.in_ok-hand_on_one.ensures.globals same;
      handed = (
        handed.0 ++ joined (meaning t s) ∷ [],
        TakesMore-trans (g.T.Taker.has_taken c.args.taker.now t)
            (g.T.Taker.has_taken c.loop-snapshot.taker t)
            (g.T.Taker.has_taken c.hand_on_one.new.taker t) handed.0 (joined (meaning t s) ∷ [])
            handed.1
            (λ rs had. subst (λ (is : List Immediate). has (rs ++ join is (meaning t s) ∷ [])) same
            (c.in_ok-hand_on_one.ensures.taken rs had)),
        append_assoc handed.0 (joined (meaning t s) ∷ [])
            (map joined (map (meaning t) (into_iter_items c.next.new.self))) ∙ whole,
      );
      about = c.in_ok-hand_on_one.ensures.about ∙ c.loop-snapshot.invariant.about;
    }
