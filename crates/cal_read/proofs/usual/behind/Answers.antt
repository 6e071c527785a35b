use Rattle.std.proofs.Common.{◌≡◌, ◌++◌, length, drop, sym, ap, ◌∙◌, arith}
use Rattle.std.specs.List.{between}
use Rattle.std.proofs.lemmas.Bool.Decides.{Decides-eqb}
use Rattle.std.proofs.lemmas.List.{drop-drop, length-drop}
use Rattle.std.proofs.lemmas.Slice.{between_to_end}
use Rattle.std.proofs.lemmas.Slice.Eq.{starts_is}
use Rattle.cal_read.proofs.usual.behind.Goals as goal

pub returns-then-starts_with : goal.returns-then-starts_with
returns-then-starts_with c =
    let line = c.args.line.now in
    let bytes = c.args.bytes.now in
    let rest = between c.args.place (length line) line in
    let whole : rest ≡ drop c.args.place line = between_to_end line c.args.place (length line) (omega arith) in
    let value = rw c.as_bytes.ensures.value at c.starts_with.ensures.value in
    let bound = rw c.as_bytes.ensures.value at (c.starts_with.ensures.bound c.if-starts_with.true) in
    let is : rest ≡ bytes ++ drop (length bytes) rest = (starts_is Decides-eqb rest bytes c.starts_with.result value).0 c.if-starts_with.true in
    record {
      within = omega (arith, bound, ap length whole, length-drop c.args.place line, c.requires);
      read = sym whole ∙ is ∙ ap (λ l. bytes ++ drop (length bytes) l) whole ∙ ap (λ l. bytes ++ l) (drop-drop (length bytes) c.args.place line);
    }
