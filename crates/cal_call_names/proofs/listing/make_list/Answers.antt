use Rattle.cal_call_names.proofs.Replies.{few_replies}
use Rattle.cal_call_names.proofs.listing.make_list.Goals as goal

pub count_refused-refused-requires : goal.count_refused-refused-requires
count_refused-refused-requires g c =
    let named = c.in_ok-replies.field-0 in
    rw c.as_slice.ensures
    (few_replies c.args.all.now.threads named.kept named.replies c.requires.fits
    c.in_ok-replies.ensures)

-- what was sorted is the same naming
pub returns-clause-listed : goal.returns-clause-listed
returns-clause-listed g c =
    let named = c.in_ok-replies.field-0 in
    let sorted = c.in_ok-text.ensures in
    record {
      kept = sorted.0;
      naming = c.any_order_law.ensures c.args.all.now.threads named.kept sorted.0 named.replies
          sorted.1 c.in_ok-replies.ensures;
      order = sorted.2;
      listed = sorted.3;
    }
