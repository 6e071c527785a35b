use Rattle.cal_ql.proofs.Meanings.{meant, refused, valid}
use Rattle.cal_ql.proofs.reading.parse_query.Goals as goal

pub returns : goal.returns
returns c =
    record {
      meant = meant c.args.text.now c.read.result c.read.ensures;
      valid = valid c.args.text.now c.read.result c.read.ensures;
      refused = refused c.args.text.now c.read.result c.read.ensures;
    }
