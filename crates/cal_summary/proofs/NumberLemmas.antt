-- A summary and a measure, by their numbers.
use Rattle.std.proofs.Common.{◌≡◌, List, length}
use Rattle.cal_summary.specs.declared.summarizing.Summary.{Summary}
use Rattle.cal_value.specs.declared.record.Rec.{Rec}
use Rattle.cal_write.specs.CanonicalText.{canonical_text}
use Rattle.cal_write.specs.declared.measurer.Measure.{Measure}

-- how much rows are with globals
abbrev pub measure_of : List Rec → Rec → Measure
measure_of rows globals = record {
  rows = length rows;
  bytes = length (canonical_text (record { rows = rows; globals = globals }));
}

pub summary_one : (s t : Summary) → s.threads ≡ t.threads → s.lines ≡ t.lines → s.nodes ≡ t.nodes
    → s.snapshots ≡ t.snapshots → s.groups ≡ t.groups → s.bytes ≡ t.bytes → s ≡ t
summary_one s t threads lines nodes snapshots groups bytes = λ j. record {
  threads = threads j;
  lines = lines j;
  nodes = nodes j;
  snapshots = snapshots j;
  groups = groups j;
  bytes = bytes j;
}
