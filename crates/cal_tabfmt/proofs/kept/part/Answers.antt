use Rattle.std.proofs.Common.{◌≡◌, false, true, ◌++◌}
use Rattle.std.specs.Str.{IsCharBoundary}
use Rattle.std.proofs.lemmas.Str.{IsCharBoundary-at_seam}
use Rattle.cal_tabfmt.proofs.KeptLemmas.{boundary_behind}
use Rattle.cal_tabfmt.proofs.kept.part.Goals as goal

pub returns-then-not-is_char_boundary : goal.returns-then-not-is_char_boundary
returns-then-not-is_char_boundary c =
    λ front part rest is from to utf8 after.
    let at : IsCharBoundary c.args.text.now c.args.start = rw from (IsCharBoundary-at_seam c.args.text.now front (part ++ rest) is utf8) in
    (let told : false ≡ true = c.if-not-is_char_boundary.ensures.test.1 at in cc)

pub returns-then-not-is_char_boundary-2 : goal.returns-then-not-is_char_boundary-2
returns-then-not-is_char_boundary-2 c =
    λ front part rest is from to utf8 after.
    let at = boundary_behind c.args.text.now front part rest c.args.end is to after in
    (let told : false ≡ true = c.if-not-is_char_boundary-2.ensures.test.1 at in cc)
