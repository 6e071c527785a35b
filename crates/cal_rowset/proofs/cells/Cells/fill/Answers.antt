use Rattle.std.proofs.Common.{◌≡◌, List, [], ◌∷◌, ◌++◌, sym, subst, ◌∙◌, arith}
use Rattle.std.proofs.lemmas.Grind.{common_steps}
use Rattle.std.proofs.lemmas.List.Elements.{filter-append}
use Rattle.cal_value.specs.Flat.{flat}
use Rattle.cal_value.specs.declared.attribute.Entry.{Entry}
use Rattle.cal_rowset.specs.Filling.{Holds, names}
use Rattle.cal_rowset.specs.Known.{is_known}
use Rattle.cal_rowset.proofs.cells.Cells.fill.Goals as goal

pub loop-entry-preserved : goal.loop-entry-preserved
loop-entry-preserved c =
    let kept = c.loop-entry.invariant in
    let e = c.in-Some.entry.now in
    record {
      same = c.in_ok-add_known.ensures.names ∙ kept.same;
      filled = λ before holds.
          let now = kept.filled before holds in
          let left : (now.0 ++ e ∷ []) ++ c.next.new.self ≡ flat c.args.row.now = grind (arith, common_steps, now.1, c.in-Some.ensures.steps) in
          let split = filter-append (λ (f : Entry). is_known (names c.args.self.now) f.attr.name) now.0 (e ∷ []) in
          (now.0 ++ e ∷ [], left, subst (λ (es : List Entry). Holds c.add_known.new.self es) (sym split) (rw kept.same at (c.in_ok-add_known.ensures.added _ now.2)));
    }
