use Rattle.std.proofs.Common.{sym}
use Rattle.cal_script.proofs.Kept.{kept_new}
use Rattle.cal_script.proofs.value_list.ValueList.add_new.Goals as goal

pub returns : goal.returns
returns c =
    rw (c.in_ok-push-2.ensures.ok, c.in_ok-push.ensures.ok, c.len-place.ensures, sym c.self.view_is)
    (kept_new c.self.inside.kept c.args.value c.self.inside.places c.self.invariant)
