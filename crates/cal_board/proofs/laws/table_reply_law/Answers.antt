use Rattle.cal_board.proofs.TableReplies.{reply_to-table}
use Rattle.cal_board.proofs.laws.table_reply_law.Goals as goal

pub returns : goal.returns
returns g c b code a = reply_to-table b code a
