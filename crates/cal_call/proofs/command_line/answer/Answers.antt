use Rattle.std.proofs.Common.{rules}
use Rattle.cal_call.proofs.command_line.answer.Goals as goal

pub returns-in-Some-clause-served : goal.returns-in-Some-clause-served
returns-in-Some-clause-served g c = record {
  answer = c.without_journal.result.fault;
  journal = c.without_journal.result.journal;
  meant = c.end.ensures.status;
  told = c.end.ensures.told;
  shown = rw (c.without_journal.ensures.fault) (search rules);
  unasked = search rules;
  ran = search rules;
  decided = search rules;
  asked = search rules;
}
