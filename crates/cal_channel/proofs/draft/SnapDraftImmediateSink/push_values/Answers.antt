use Rattle.std.proofs.Common.{ap, ◌∙◌, ◌++◌, map}
use Rattle.cal_board.specs.Standing.{last_immediates}
use Rattle.cal_channel.proofs.MeaningLemmas.{plain-added}
use Rattle.cal_channel.specs.Shown.{immediate_shown}
use Rattle.cal_channel.proofs.draft.SnapDraftImmediateSink.push_values.Goals as goal

pub returns : goal.returns
returns g c values =
    plain-added values c.args.self.now.entries.items c.add_plain.new.entries.items
    c.deref.result.now c.in_ok-add_plain.ensures
    ∙ ap (λ is. map (immediate_shown values) c.args.self.now.entries.items ++ is)
    (c.deref.ensures.value ∙ c.in_ok-lasts.ensures.imms ∙ c.in_ok-push_values.ensures
    ∙ ap (λ is. is ++ last_immediates c.args.board.now) c.clear.ensures)
