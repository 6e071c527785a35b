-- No declaration is refused where the table and the seat's arena have room.
use Rattle.std.proofs.Common.{◌≡◌, ◌+◌, ◌≤◌, arith, length}
use Rattle.std.specs.Prelude.{Err}
use Rattle.cal_declarations.specs.Layout.{record_words}
use Rattle.cal_names.proofs.Walking.{nothing_by_looks}
use Rattle.cal_names.specs.Answers.{Answers}
use Rattle.cal_names.specs.Declarations.{name_words}
use Rattle.cal_names.specs.Kept.{name_law}
use Rattle.cal_names.specs.declared.declare.NamesFull.{NamesFull}
use Rattle.cal_names.specs.declared.declare.NamesFull.TheVariants as full
use Rattle.cal_names.specs.declared.record.NameSort.{NameSort}
use Rattle.cal_naming.proofs.Slots.{not-all-known}
use Rattle.cal_naming.specs.Told.{IsRoomy, declaration_of}
use Rattle.cal_once.specs.Sound.{IsSound}
use Rattle.cal_once.specs.declared.view.Plan.{Plan}
use Rattle.cal_once.specs.declared.view.View.{View}
use Rattle.cal_value.specs.declared.attribute.Attribute.{Attribute}

pub never-refused : (plan : Plan NameSort) (v w : View NameSort) (line : Attribute)
    (refusal : NamesFull) → IsRoomy plan → IsSound name_law plan w
    → v.used + record_words line ≤ plan.shape.arena
    → Answers plan (declaration_of line) v w (Err refusal) → ⊥
never-refused plan v w line full.RowsFull roomy sound room refused =
    not-all-known plan w sound roomy
    (λ place less. let h = refused.answers.0 place less in (h.slot, h.known))
never-refused plan v w line (full.ArenaFull used need) roomy sound room refused =
    let lacks = refused.answers in
    let before = (nothing_by_looks plan v refused.before refused.looks).used in
    let long : length (name_words (declaration_of line)) ≡ record_words line = omega arith in
    omega (arith, lacks.used_is, lacks.need_is, lacks.too_long, before, long, room)
