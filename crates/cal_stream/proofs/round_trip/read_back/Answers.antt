use Rattle.std.proofs.Common.{◌≡◌, ◌∙◌}
use Rattle.cal_stream.proofs.Back.{only-memory, only-same, written}
use Rattle.cal_stream.proofs.round_trip.read_back.Goals as goal

pub returns-clause-same : goal.returns-clause-same
returns-clause-same c = λ readable.
    let rs = c.args.records.now in
    let bytes = c.as_bytes.result.now in
    let same : bytes ≡ c.in_ok-text.text = c.as_bytes.ensures.value ∙ c.as_str.ensures in
    only-same c.read_records.result bytes rs (c.one_reading.ensures.one bytes)
    (written rs c.in_ok-text.text bytes c.see_rows.ensures c.see_record.ensures
    c.in_ok-text.ensures c.see_length.ensures same readable)
    c.read_records.ensures.read

pub returns-clause-refused : goal.returns-clause-refused
returns-clause-refused c = λ readable.
    let rs = c.args.records.now in
    let bytes = c.as_bytes.result.now in
    let same : bytes ≡ c.in_ok-text.text = c.as_bytes.ensures.value ∙ c.as_str.ensures in
    only-memory c.read_records.result bytes
    (λ line kind. c.one_reading.ensures.none bytes rs line kind
    (written rs c.in_ok-text.text bytes c.see_rows.ensures c.see_record.ensures
    c.in_ok-text.ensures c.see_length.ensures same readable))
    c.read_records.ensures.fault
