use Rattle.std.proofs.Common.{List, ◌++◌, take}
use Rattle.cal_context.specs.Tree.{Grows}
use Rattle.cal_value.specs.declared.attribute.Entry.{Entry}
use Rattle.cal_keys.specs.Leading.{Leads}
use Rattle.cal_keys.proofs.stepping.reach_from.Given as goal

-- the path so far leads to the node
abbrev pub invariant-loop-entry : goal.invariant-loop-entry
invariant-loop-entry l = record {
  grows : Grows l.fn.context l.context;
  leads : (before : List Entry) → Leads l.fn.context before l.fn.from
      → Leads l.context (before ++ take l.entry-index l.path) l.node;
}
