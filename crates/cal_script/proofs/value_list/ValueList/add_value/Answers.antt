use Rattle.std.proofs.Common.{◌≡◌, Some, slice_get, sym}
use Rattle.cal_script.proofs.Kept.{kept_again}
use Rattle.cal_script.proofs.value_list.ValueList.add_value.Goals as goal

pub returns-then-is_number_at : goal.returns-then-is_number_at
returns-then-is_number_at c =
    let there : slice_get c.self.inside.kept c.likely-likely.result ≡ Some c.args.value = rw (sym c.as_slice.ensures) (c.is_number_at.ensures c.if-is_number_at.true) in
    rw (c.in_ok-push.ensures.ok, sym c.self.view_is)
    (kept_again c.self.inside.kept c.self.inside.places c.likely-likely.result c.args.value there)
