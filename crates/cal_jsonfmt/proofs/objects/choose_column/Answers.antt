use Rattle.std.proofs.Common.{sym, ap}
use Rattle.cal_jsonfmt.specs.Choosing.{with_choice}
use Rattle.cal_jsonfmt.proofs.ChoosingLemmas.{within-more}
use Rattle.cal_jsonfmt.proofs.objects.choose_column.Goals as goal

pub returns-in-Some-clause-within : goal.returns-in-Some-clause-within
returns-in-Some-clause-within c = λ all. within-more c.args.columns.now c.args.chosen.now.items c.args.place c.args.column c.requires.column c.requires.place all

pub returns-in-Some-clause-chosen : goal.returns-in-Some-clause-chosen
returns-in-Some-clause-chosen c = λ row shows. ap (with_choice c.args.chosen.now.items c.args.place c.args.column) (sym (c.in-Some.ensures row shows).there)

pub returns-in-None-clause-chosen : goal.returns-in-None-clause-chosen
returns-in-None-clause-chosen c = λ row shows. ap (with_choice c.args.chosen.now.items c.args.place c.args.column) (sym (c.in-None.ensures row shows))
