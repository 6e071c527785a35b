use Rattle.std.proofs.Common.{◌≡◌, ℕ, List, [], ◌∷◌, ◌++◌, IsUtf8, sym, ap, ◌∙◌, subst}
use Rattle.json.specs.Print.{print}
use Rattle.cal_jsonfmt.proofs.WritingLemmas.{WritesValue-alone}
use Rattle.cal_jsonfmt.proofs.text.json_text.Goals as goal

pub utf8_text-text-requires : goal.utf8_text-text-requires
utf8_text-text-requires g c =
    let none : c.write_rows.new.writer.before ≡ [] = c.in_ok-write_rows.ensures.before ∙ c.new-writer.ensures.before ∙ c.new.ensures.items in
    subst IsUtf8 (sym (c.into_inner.ensures.items ∙ ap (λ (b : List ℕ). b ++ print c.write_rows.new.writer.tokens) none)) c.into_inner.ensures.utf8

pub returns : goal.returns
returns g c =
    c.in_ok-push_str.ensures.ok
    ∙ ap (λ (t : List ℕ). t ++ 10 ∷ []) (c.utf8_text-text.ensures ∙ c.into_inner.ensures.items
    ∙ WritesValue-alone c.new-writer.result c.write_rows.new.writer _ (c.new-writer.ensures.before ∙ c.new.ensures.items) c.new-writer.ensures.tokens c.in_ok-write_rows.ensures)
