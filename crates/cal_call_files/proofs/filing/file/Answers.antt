use Rattle.std.proofs.Common.{◌∙◌, sym}
use Rattle.cal_call_files.proofs.Fewness.{few_names}
use Rattle.cal_call_files.proofs.filing.file.Goals as goal

-- the words name few files
pub file_by-requires-clause-few : goal.file_by-requires-clause-few
file_by-requires-clause-few g c κs within =
    few_names c.args.words.now c.in-Ok.command (sym c.read_files_words.ensures ∙ c.in-Ok.is)
