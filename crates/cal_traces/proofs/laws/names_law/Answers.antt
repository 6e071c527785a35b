use Rattle.cal_spelling.proofs.ReaderLines.{valid_writable}
use Rattle.cal_traces.proofs.Names.{all_apart, declared_apart}
use Rattle.cal_traces.proofs.RunNames.{names-once}
use Rattle.cal_traces.proofs.laws.names_law.Goals as goal

pub returns-clause-declared : goal.returns-clause-declared
returns-clause-declared c = λ script valid.
    declared_apart script.attributes (valid_writable script valid).header.each_attribute

pub returns-clause-all : goal.returns-clause-all
returns-clause-all c = λ script attributes valid of once. names-once script
    (all_apart script.attributes (valid_writable script valid).header.each_attribute) attributes
    of once
