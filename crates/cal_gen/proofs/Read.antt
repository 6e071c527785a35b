-- What the text of a seed and two sizes means, by what the header's text means.
use Rattle.std.proofs.Common.{◌≡◌, ℕ, ◌*◌, ◌≤◌, List, [], ◌++◌, sym, ap, ◌∙◌, lit≤}
use Rattle.std.specs.Prelude.{Ok, Result}
use Rattle.cal_value.specs.declared.variant.Variant.{Variant}
use Rattle.cal_gen.specs.Generated.{generated, header}
use Rattle.cal_script.specs.Reading.{Means, meaning}
use Rattle.cal_script.specs.declared.kind.ScriptKind.{ScriptKind}
use Rattle.cal_script.specs.declared.script.Line.{Line}
use Rattle.cal_script.specs.declared.script.Script.{Script}
use Rattle.cal_gen.specs.GeneratedScript.{generated_script, threads_from}
use Rattle.cal_gen.specs.Steps.{next_threads}
use Rattle.cal_gen.proofs.GenRuns.{generated_means}

only_script : (script other : Script) (said : Result Script ScriptKind) → said ≡ Ok script → said ≡ Ok other → script ≡ other
only_script script other said one two = cc

-- the header is the text of no thread
pub header_read : (bytes : List ℕ) (script : Script) → bytes ≡ header → Means bytes script → script ≡ generated_script 0 0 0
header_read bytes script is means =
    only_script script (generated_script 0 0 0) (meaning header) (sym (ap meaning is) ∙ means) (generated_means 0 0 0 (lit≤ tt) (lit≤ tt))

-- and it means a script
pub header_stands : (bytes : List ℕ) → bytes ≡ header → (script : Script) × Means bytes script
header_stands bytes is = (generated_script 0 0 0, ap meaning is ∙ generated_means 0 0 0 (lit≤ tt) (lit≤ tt))

-- what the header declares, with the threads and their values
pub made_means : (seed threads lines : ℕ) (declared : Script) (none values : List Variant) (all : List (List Line))
    → threads ≤ 64 → threads * lines ≤ 1048576 → declared ≡ generated_script 0 0 0 → none ≡ []
    → values ≡ none ++ (next_threads threads lines none seed).values → all ≡ (next_threads threads lines none seed).threads
    → Means (generated seed threads lines) (record {
      attributes = declared.attributes;
      channels = declared.channels;
      values = values;
      threads = all;
      globals = declared.globals;
    })
made_means seed threads lines declared none values all few few_lines is none_is values_is all_is =
    let header : generated_script 0 0 0 ≡ declared = sym is in
    let opened : (threads_from threads lines 0 seed).values ≡ values =
    sym (values_is ∙ ap (λ front. front ++ (next_threads threads lines front seed).values) none_is) in
    let made : (threads_from threads lines 0 seed).threads ≡ all =
    sym (all_is ∙ ap (λ front. (next_threads threads lines front seed).threads) none_is) in
    generated_means seed threads lines few few_lines
    ∙ (λ i. Ok (record {
      attributes = (header i).attributes;
      channels = (header i).channels;
      values = opened i;
      threads = made i;
      globals = (header i).globals;
    }))
