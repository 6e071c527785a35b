-- A row beside its group (private).
use Rattle.std.specs.Prelude.{List}
use Rattle.cal_profile.specs.Groups.{group_in}
use Rattle.cal_ql.specs.declared.query.Agg.{Agg}
use Rattle.cal_steps.specs.declared.groups.Grouped.{Grouped}
use Rattle.cal_value.specs.declared.record.Rec.{Rec}

abbrev pub beside : List Agg → Rec → Grouped
beside aggs row = record { group = group_in aggs row; row = row }
