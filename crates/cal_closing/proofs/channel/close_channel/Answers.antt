use Rattle.cal_closing.proofs.channel.close_channel.Goals as goal

pub returns-clause-closed : goal.returns-clause-closed
returns-clause-closed c = record {
  book = c.close_book-table.result;
  tables_are = c.in_ok-push.ensures.items;
  merged = c.close_book-table.ensures.merged;
}
