use Rattle.std.proofs.Common.{◌≡◌, Some, sym, ◌∙◌}
use Rattle.std.specs.Cmp.Lexicographic.{bytes_decides}
use Rattle.cal_script.specs.Lines.{one_word, words_of}
use Rattle.cal_script.proofs.FirstWords.{one_name_of}
use Rattle.cal_script.proofs.Naming.{alone_of}
use Rattle.cal_script.proofs.reader.Reader.alone.Goals as goal

pub returns-then-eq : goal.returns-then-eq
returns-then-eq c =
    let found = c.in-Some-declared_at.named in
    let text : c.in-Some.text.now ≡ found.attribute.now.name = (bytes_decides c.in-Some.text.now c.as_str.result.now).0 (sym c.if-eq.ensures) ∙ c.as_str.ensures in
    let one : one_word (words_of c.in-Some.text.now) ≡ Some found.attribute.now.name = rw text (one_name_of found.attribute.now.name c.in-Some-declared_at.ensures.word) in
    rw c.in-Some.is
    (sym (alone_of c.args.self.now.attributes.items (words_of c.in-Some.text.now) found.attribute.now.name (found.place, found.attribute.now) one c.in-Some-declared_at.ensures.named))
