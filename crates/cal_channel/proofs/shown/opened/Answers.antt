use Rattle.std.proofs.Common.{ap, sym, ◌∙◌}
use Rattle.std.specs.Prelude.{option_copied, unwrap_or}
use Rattle.std.proofs.lemmas.Option.{unwrap_or-slice_get}
use Rattle.cal_context.specs.Tree.{no_value}
use Rattle.cal_channel.proofs.shown.opened.Goals as goal

pub returns-in-None : goal.returns-in-None
returns-in-None c =
    ap (λ o. unwrap_or o no_value) (ap option_copied (sym c.in-None.is) ∙ c.get.ensures)
    ∙ unwrap_or-slice_get c.args.script.now.values c.args.place no_value
