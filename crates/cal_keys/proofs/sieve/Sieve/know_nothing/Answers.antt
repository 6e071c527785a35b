use Rattle.std.proofs.Common.{refl, ap, ◌∙◌}
use Rattle.cal_keys.specs.Shares.{with_nones}
use Rattle.cal_keys.proofs.SieveLemmas.{nothing_known}
use Rattle.cal_keys.proofs.sieve.Sieve.know_nothing.Goals as goal

pub returns : goal.returns
returns c = λ h.
    nothing_known c.args.context.now c.args.own.now c.has_each_once.ensures c.args.self.now
    (record { takers = c.args.self.now.takers; shares = c.put_nones.new.self }) refl
    (c.put_nones.ensures ∙ ap (with_nones c.args.self.now.shares) c.node_count.ensures) h
