use Rattle.cal_ql.proofs.Meanings.{fault_or_query, means_or_reads, means_valid, one_fault, one_query}
use Rattle.cal_ql.proofs.laws.meaning_law.Goals as goal

pub returns : goal.returns
returns c = record { read = means_or_reads; one = one_query; one_fault = one_fault; fault = fault_or_query; valid = means_valid }
