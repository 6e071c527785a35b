use Rattle.std.proofs.Common.{◌≡◌, append_assoc, sym, ◌∙◌}
use Rattle.std.specs.Prelude.{codes}
use Rattle.std.specs.Cmp.Lexicographic.{same_text}
use Rattle.cal_write.proofs.lines.write_sort.Goals as goal

pub returns-then-eq : goal.returns-then-eq
returns-then-eq c =
    let same : c.args.sort.now ≡ codes "ctx" = same_text c.args.sort.now (codes "ctx") (sym c.if-eq.true ∙ c.eq.ensures) in
    rw (c.in_ok-put.ensures, same) (sym (append_assoc c.args.out.now (codes "__rec=") (codes "ctx")))
