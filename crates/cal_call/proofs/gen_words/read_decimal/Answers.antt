use Rattle.std.proofs.Common.{◌≡◌, ◌≢◌, ◌∙◌, get_or, rules}
use Rattle.std.specs.Prelude.{◌==◌}
use Rattle.cal_call.proofs.Decimals.{no_plus, uint_read}
use Rattle.cal_call.proofs.gen_words.read_decimal.Goals as goal

pub returns : goal.returns
returns c =
    let text = c.args.text.now in
    let tested : c.starts_with.result ≡ (get_or text 0 0 == 43) = search rules in
    c.ok.ensures.value
    ∙ uint_read text c.parse.result c.parse.ensures.value.0
    (no_plus text c.starts_with.result tested c.if-starts_with.false)
