-- No sum over a part of what a channel takes in a run is too large.
use Rattle.std.proofs.Common.{◌++◌, List, [], ◌∷◌, arith, Contains, IsPermutation}
use Rattle.std.specs.List.{AllByRecursion}
use Rattle.std.proofs.lemmas.List.{length-append}
use Rattle.std.proofs.lemmas.List.Elements.{All-from_recursion, recursion_from_All}
use Rattle.std.proofs.lemmas.List.Sorted.{All-permutation, IsPermutation-sym, length_permutation}
use Rattle.cal_profile.specs.Declared.{HasSums}
use Rattle.cal_run.specs.Runs.{snapshots}
use Rattle.cal_script.specs.Reading.{IsValidScript}
use Rattle.cal_script.specs.declared.journal.Journal.{Journal}
use Rattle.cal_script.specs.declared.script.Channel.{Channel}
use Rattle.cal_script.specs.declared.script.Script.{Script}
use Rattle.cal_spelling.proofs.ReaderLines.{valid_writable}
use Rattle.cal_traces.proofs.ChannelNames.{script_named}
use Rattle.cal_traces.proofs.Names.{all_apart}
use Rattle.cal_traces.proofs.RunSums.{run_sums}
use Rattle.cal_traces.proofs.Shots.{IsShot}
use Rattle.cal_traces.proofs.Walks.{snapshots_shots}
use Rattle.cal_valid.proofs.Runnable.{valid_runnable}
use Rattle.cal_value.specs.declared.record.Rec.{Rec}

-- what holds of all items holds of those in front
all-front : {A : Type 0} (P : A → Type 0) (xs ys : List A) → AllByRecursion P (xs ++ ys)
    → AllByRecursion P xs
all-front P [] ys all = tt
all-front P (x ∷ xs) ys all = (all.0, all-front P xs ys all.1)

pub part_sums : (script : Script) (journal : Journal) (channel : Channel) → IsValidScript script
    → Contains script.channels channel → (part rest : List Rec)
    → IsPermutation (part ++ rest) (snapshots script journal channel)
    → HasSums channel.query part
part_sums script journal channel valid there part rest order =
    let apart = all_apart script.attributes (valid_writable script valid).header.each_attribute in
    let named = script_named script valid channel there in
    let taken = snapshots_shots script (valid_runnable script valid) journal channel in
    let trace = snapshots script journal channel in
    let few = taken.few in
    let one = length-append part rest in
    let same = length_permutation (part ++ rest) trace order in
    run_sums script apart channel.query named part
    (all-front (IsShot script) part rest
    (recursion_from_All (IsShot script) (part ++ rest)
    (All-permutation (IsShot script) trace (part ++ rest)
    (IsPermutation-sym (part ++ rest) trace order)
    (All-from_recursion (IsShot script) trace taken.shots))))
    (omega (arith, few, one, same))
