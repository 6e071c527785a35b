-- The rows of a run are those of the traces and the records of groups.
use Rattle.std.proofs.Common.{◌≡◌, ◌+◌, List, [], ◌∷◌, length, refl, arith}
use Rattle.std.specs.Prelude.{flat_map, sum_by}
use Rattle.std.proofs.lemmas.List.{length-append}
use Rattle.std.proofs.lemmas.List.Sums.{sum_by-cons}
use Rattle.cal_counts.specs.Counts.{group_count, traced_count}
use Rattle.cal_records.specs.Records.{channel_rows, grouped, run_rows, traced}
use Rattle.cal_script.specs.declared.journal.Journal.{Journal}
use Rattle.cal_script.specs.declared.script.Channel.{Channel}
use Rattle.cal_script.specs.declared.script.Script.{Script}

module _ (script : Script) (journal : Journal) where
  rows-of : (channels : List Channel)
      → length (flat_map (channel_rows script journal) channels)
      ≡ sum_by (λ (c : Channel). length (traced script journal c)) channels
      + sum_by (λ (c : Channel). length (grouped script journal c)) channels
  rows-of [] = refl
  rows-of (c ∷ cs) =
      let rest = rows-of cs in
      let both = length-append (channel_rows script journal c)
      (flat_map (channel_rows script journal) cs) in
      let here = length-append (traced script journal c) (grouped script journal c) in
      let traces = sum_by-cons (λ (c : Channel). length (traced script journal c)) c cs in
      let groups = sum_by-cons (λ (c : Channel). length (grouped script journal c)) c cs in
      omega (arith, rest, both, here, traces, groups)

  pub rows-split : length (run_rows script journal)
      ≡ traced_count script journal + group_count script journal
  rows-split = rows-of script.channels
