use Rattle.std.proofs.Common.{◌<◌, ◌++◌, All, IsSome, ap, sym, ◌∙◌, subst}
use Rattle.crossbeam_channel.specs.Claims.{view}
use Rattle.cal_mail.specs.Messages.{of}
use Rattle.cal_mail.specs.Rule.{sent_at}
use Rattle.cal_mail.proofs.Ending.{all_told, whole_all}
use Rattle.cal_mail.proofs.collector.Collector.finish.Goals as goal

pub returns : goal.returns
returns g c =
    let before = c.args.self in
    let ended = c.args.ended.items in
    let taken = c.take_all.ensures.taken in
    let accounts = c.settle.ensures.accounts in
    let items = accounts.0 in
    record {
      whole = whole_all (view before.pass).got items ended
          (λ number. ap (λ got. of number (got ++ items)) (sym taken.got)
          ∙ accounts.1 (taken.sender ∙ before.collects)
          (subst (λ others. All IsSome others) (sym taken.others) (all_told ended)) number
          ∙ ap (λ others. sent_at others number) taken.others)
          (λ number below. c.requires.came number (subst (λ n. number < n) c.requires.all below));
    }
