-- How large a run is, in six numbers. (Giltmoth's rule.)
use Rattle.std.specs.Prelude.{ℕ, List, ◌++◌, codes, decimal, length, sum_by}
use Rattle.cal_counts.specs.Counts.{group_count, snapshot_count}
use Rattle.cal_records.specs.Records.{records_of}
use Rattle.cal_run.specs.Paths.{nodes}
use Rattle.cal_script.specs.declared.journal.Journal.{Journal}
use Rattle.cal_script.specs.declared.script.Script.{Script}
use Rattle.cal_summary.specs.declared.summarizing.Summary.{Summary}
use Rattle.cal_write.specs.CanonicalText.{canonical_text}

-- The six numbers. The nodes are the different paths that boards hold in the run, and the bytes
-- those of the canonical text of its records.
abbrev pub summary_of : Script → Journal → Summary
summary_of script journal = record {
  threads = length script.threads;
  lines = sum_by length script.threads;
  nodes = nodes script journal;
  snapshots = snapshot_count script journal;
  groups = group_count script journal;
  bytes = length (canonical_text (records_of script journal));
}

-- a line of a name, with the space behind it, and a number
abbrev pub number_line : List ℕ → ℕ → List ℕ
number_line name number = name ++ (decimal number ++ codes "\n")

-- a summary, a line for each number
abbrev pub summary_text : Summary → List ℕ
summary_text s = number_line (codes "threads ") s.threads
    ++ number_line (codes "lines ") s.lines
    ++ number_line (codes "nodes ") s.nodes
    ++ number_line (codes "snapshots ") s.snapshots
    ++ number_line (codes "groups ") s.groups
    ++ number_line (codes "bytes ") s.bytes
