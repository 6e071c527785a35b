use Rattle.cal_gen.specs.GeneratedScript.{generated_script}
use Rattle.cal_gen.proofs.GenRuns.{generated_means}
use Rattle.cal_gen.proofs.laws.generated_script_law.Goals as goal

pub returns : goal.returns
returns c = λ seed threads lines few all. (generated_script seed threads lines, generated_means seed threads lines few all)
