use Rattle.std.proofs.Common.{length, sym, ap, ◌∙◌, arith}
use Rattle.std.proofs.lemmas.Result.{on_ok_weaker}
use Rattle.cal_parts.specs.PartLists.{merged_at, parts_in}
use Rattle.cal_parts.proofs.PartLists.{at_set}
use Rattle.cal_parts.proofs.part_list.PartList.merge_wide.Goals as goal
use Rattle.cal_parts.proofs.part_list.PartList.merge_wide.Goals.{in-Wide, in-Narrow}

pub returns-clause-merged : goal.returns-clause-merged
returns-clause-merged c =
    let fresh = c.args.part.now in
    elim c.match-self.branch [
      | in-Wide w ↦
          let held = sym (ap parts_in w.in-Wide.is) ∙ c.self.view_is ∙ c.in_ok-widen.ensures in
          rw (w.result-is, w.self-inside-is) (on_ok_weaker w.merge.result
          (λ merged. at_set w.in-Wide.parts.items c.args.place w.index_mut.result.now w.merge.new.self fresh
          (omega (arith, c.requires, ap length held)) w.index_mut.ensures.value merged
          ∙ ap (λ ps. merged_at ps c.args.place fresh) held)
          w.merge.ensures.ok)
      | in-Narrow w ↦ rw w.result-is tt
    ]
