use Rattle.std.proofs.Common.{◌≤◌, length, string_bytes, arith, take}
use Rattle.std.specs.Str.{IsUtf8}
use Rattle.std.proofs.lemmas.Str.{IsCharBoundary-from_take, IsUtf8-string_bytes}
use Rattle.cal_value.proofs.text.Text.truncate.Goals as goal

-- what stays is a text, so the text may be cut there
pub truncate-requires : goal.truncate-requires
truncate-requires c = λ within.
    let bytes = string_bytes c.self.inside.string in
    let place : c.args.place ≤ length bytes = omega arith in
    let kept : IsUtf8 (take c.args.place bytes) = rw c.self.view_is c.requires in
    let all = IsUtf8-string_bytes c.self.inside.string in
    let boundary = IsCharBoundary-from_take bytes c.args.place all place kept in
    (place, λ _. boundary.1)
