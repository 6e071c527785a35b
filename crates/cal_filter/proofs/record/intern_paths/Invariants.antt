use Rattle.std.proofs.Common.{List, ◌++◌, take}
use Rattle.cal_context.specs.Tree.{Grows}
use Rattle.cal_value.specs.Flat.{joined}
use Rattle.cal_value.specs.declared.attribute.Entry.{Entry}
use Rattle.cal_filter.specs.Interned.{AreEntries}
use Rattle.cal_filter.proofs.record.intern_paths.Given as goal

-- those before this one are interned
abbrev pub invariant-loop-path : goal.invariant-loop-path
invariant-loop-path l = record {
  grows : Grows l.fn.context l.context;
  adds : (es : List Entry) → AreEntries l.fn.context l.fn.imms.items es
      → AreEntries l.context l.imms.items (es ++ joined (take l.path-index l.paths));
}
