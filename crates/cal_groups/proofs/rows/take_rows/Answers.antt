use Rattle.std.proofs.Common.{◌≡◌, ◌∙◌, ◌+◌, ◌<◌, ◌≤◌, List, [], ◌∷◌, length, map, take, drop, ap}
use Rattle.std.proofs.Common.{refl, subst, sym, arith}
use Rattle.std.proofs.lemmas.List.{map_more, take_all}
use Rattle.std.specs.List.{AllZip}
use Rattle.cal_context.proofs.CallerLemmas.{TakesMore-trans}
use Rattle.cal_context.specs.Taking.{TakesMore}
use Rattle.cal_context.specs.declared.numbers.NodeNumber.{NodeNumber}
use Rattle.cal_groups.proofs.RowLemmas.{keyed_long, keys_numbered, left_more, may_take_at, no_row}
use Rattle.cal_groups.proofs.RowLemmas.{own_is, own_within, row_means_at}
use Rattle.cal_groups.proofs.rows.take_rows.Goals as goal
use Rattle.cal_groups.specs.ContextRows.{RowMeans}
use Rattle.cal_groups.specs.Keys.{numbers_of}
use Rattle.cal_profile.specs.TableRows.{KeyedRow, row_record}
use Rattle.cal_records.proofs.TakingLemmas.{takes-none}
use Rattle.cal_table.specs.Rows.{rows_of}
use Rattle.cal_value.specs.declared.record.Rec.{Rec}

pub numbers_of_keys-requires : goal.numbers_of_keys-requires
numbers_of_keys-requires g c =
    keys_numbered c.args.nodes.now c.args.context.now c.args.keys.now c.args.held.now
    c.requires.long c.requires.rows.keyed c.requires.rows.means

pub loop-place-init : goal.loop-place-init
loop-place-init g c = record {
  taken = λ keyed means. takes-none (g.T.Taker.has_taken c.args.taker.now c.args.context.now);
  within = omega arith;
  left = c.in_ok-numbers.ensures;
  about = refl;
}

pub part-own-requires : goal.part-own-requires
part-own-requires g c =
    let inv = c.loop-place.invariant in
    let from = c.loop-place.from in
    let many = length c.as_slice-many.result.now in
    subst (λ (numbers : List NodeNumber). from + many ≤ length numbers) (sym c.deref.ensures.value)
    (own_within c.args.nodes.now c.args.keys.now c.loop-place.place c.index-keys-place.result
    c.loop-place-test.true c.index-keys-place.is many (ap length c.as_slice-many.ensures)
    c.in_ok-numbers.numbers.items from inv.left inv.within)

pub fill-requires-clause-row : goal.fill-requires-clause-row
fill-requires-clause-row g c =
    let inv = c.loop-place.invariant in
    let from = c.loop-place.from in
    let many = length c.as_slice-many.result.now in
    let own = own_is c.args.nodes.now c.args.keys.now c.loop-place.place c.index-keys-place.result
    c.loop-place-test.true c.index-keys-place.is many (ap length c.as_slice-many.ensures)
    c.in_ok-numbers.numbers.items from inv.left in (
      c.args.nodes.now,
      c.part-own.ensures
          ∙ ap (λ (ns : List NodeNumber). take many (drop from ns)) c.deref.ensures.value ∙ own,
      may_take_at c.args.nodes.now c.args.context.now c.args.keys.now c.args.held.now
          c.requires.long c.loop-place.place c.index-keys-place.result c.index-held-place.result
          c.requires.rows c.loop-place-test.true c.index-keys-place.is c.index-held-place.is,
    )

-- one more record was taken
pub loop-place-preserved : goal.loop-place-preserved
loop-place-preserved g c =
    let inv = c.loop-place.invariant in
    let nodes = c.args.nodes.now in
    let keys = c.args.keys.now in
    let i = c.loop-place.place in
    let key = c.index-keys-place.result in
    let short = c.loop-place-test.true in
    let is = c.index-keys-place.is in
    let from = c.loop-place.from in
    let many = length c.as_slice-many.result.now in
    let long = ap length c.as_slice-many.ensures in
    let numbers = c.in_ok-numbers.numbers.items in
    let own : c.part-own.result.now ≡ numbers_of nodes key = c.part-own.ensures
    ∙ ap (λ (ns : List NodeNumber). take many (drop from ns)) c.deref.ensures.value
    ∙ own_is nodes keys i key short is many long numbers from inv.left in
    record {
      taken = λ keyed means.
          let has_taken = g.T.Taker.has_taken in
          let t = c.args.context.now in
          let channel = c.args.channel.now in
          let keys = c.args.keys.now in
          let held = c.args.held.now in
          let i = c.loop-place.place in
          let then = has_taken c.loop-place.taker t in
          let has = has_taken c.take.new.self t in
          let row = row_means_at c.args.nodes.now t keys held c.requires.long keyed i
          c.index-keys-place.result c.index-held-place.result means c.loop-place-test.true
          c.index-keys-place.is c.index-held-place.is in
          let short : i < length keyed =
          subst (λ n. i < n)
          (sym (keyed_long c.args.nodes.now t keys held c.requires.long keyed means))
          c.loop-place-test.true in
          subst (TakesMore (has_taken c.args.taker.now t) has)
          (sym (map_more (row_record channel) keyed i (no_row c.index-held-place.result) short))
          (TakesMore-trans (has_taken c.args.taker.now t) then has _ _
          (c.loop-place.invariant.taken keyed means)
          (subst (λ (r : Rec). TakesMore then has (r ∷ [])) (c.in_ok-fill.ensures.means
          c.args.nodes.now _ own row)
          c.in_ok-take.ensures.taken));
      within = own_within nodes keys i key short is many long numbers from inv.left inv.within;
      left = left_more nodes keys i key short is many long numbers from inv.left;
      about = c.in_ok-take.ensures.about ∙ inv.about;
    }

pub returns-clause-about : goal.returns-clause-about
returns-clause-about g c = c.loop-place.invariant.about

pub returns-clause-taken : goal.returns-clause-taken
returns-clause-taken g c = λ keyed means.
    let has_taken = g.T.Taker.has_taken in
    let t = c.args.context.now in
    let long = keyed_long c.args.nodes.now t c.args.keys.now c.args.held.now c.requires.long keyed
    means in
    subst (λ (l : List KeyedRow). TakesMore (has_taken c.args.taker.now t)
    (has_taken c.loop-place.taker t) (map (row_record c.args.channel.now) l))
    (take_all c.loop-place.place keyed (omega (arith, long, c.loop-place-test.false)))
    (c.loop-place.invariant.taken keyed means)
