use Rattle.std.proofs.Common.{◌≡◌, List, length, take}
use Rattle.std.specs.Prelude.{All, Contains}
use Rattle.std.specs.List.{AllZip}
use Rattle.cal_names.specs.Kept.{name_law}
use Rattle.cal_names.specs.declared.record.NameSort.{NameSort}
use Rattle.cal_naming.specs.Keeping.{Grows, IsList, IsListed}
use Rattle.cal_naming.specs.Told.{IsTold}
use Rattle.cal_once.specs.Sound.{IsSound}
use Rattle.cal_once.specs.declared.view.Plan.{Plan}
use Rattle.cal_once.specs.declared.view.View.{View}
use Rattle.cal_value.specs.declared.attribute.Attribute.{Attribute}
use Rattle.cal_naming.proofs.keep.keep_lines.Given as goal

-- the list has what is kept of the lines so far
abbrev pub invariant-loop-at : goal.invariant-loop-at
invariant-loop-at l = record {
  marks : length l.marks ≡ length l.fn.marks;
  kept : (plan : Plan NameSort) (v : View NameSort) (all : List Attribute)
      → IsSound name_law plan v → AllZip (IsTold plan v) l.lines l.answers
      → All (Contains all) l.lines → IsList plan v all l.fn.kept l.fn.marks
      → (Grows plan v all l.fn.kept l.kept l.marks)
      × AllZip (IsListed l.kept) (take l.at l.lines) (take l.at l.answers);
}
