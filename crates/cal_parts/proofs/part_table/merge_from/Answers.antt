use Rattle.std.proofs.Common.{◌+◌, refl, sym, ap, ◌∙◌, arith}
use Rattle.std.proofs.lemmas.List.{take_all}
use Rattle.cal_parts.specs.PartLists.{merged_at, merged_from}
use Rattle.cal_parts.proofs.PartLists.{from_more, from_none}
use Rattle.cal_parts.proofs.part_table.merge_from.Goals as goal

pub loop-place-init : goal.loop-place-init
loop-place-init c = record {
  long = refl;
  merged = sym (from_none c.args.list.now c.args.from);
}

pub loop-place-preserved : goal.loop-place-preserved
loop-place-preserved c =
    let n = c.loop-place.place in
    record {
      long = c.merge.ensures.long ∙ c.loop-place.invariant.long;
      merged =
          c.in_ok-merge.ensures.merged
          ∙ ap (λ ps. merged_at ps (c.args.from + n) c.index-parts-place.result) c.loop-place.invariant.merged
          ∙ from_more c.args.list.now c.args.parts.now c.args.from n c.index-parts-place.result (omega arith) c.index-parts-place.is;
    }

pub overflow_add-from : goal.overflow_add-from
overflow_add-from c = omega (arith, c.len.ensures, c.requires)

pub returns-clause-merged : goal.returns-clause-merged
returns-clause-merged c =
    c.loop-place.invariant.merged
    ∙ ap (merged_from c.args.list.now c.args.from) (take_all c.loop-place.place c.args.parts.now (omega arith))
