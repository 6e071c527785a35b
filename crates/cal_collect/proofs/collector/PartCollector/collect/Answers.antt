use Rattle.std.proofs.Common.{◌≡◌, ℕ, false, Result, Ok, Err, List, OnOk, sym, ap, ◌∙◌, subst, rules}
use Rattle.std.specs.Result.{is_err}
use Rattle.cal_mail.specs.Ends.{received_by, senders_of}
use Rattle.cal_mail.specs.declared.mail.Received.{Received}
use Rattle.cal_table.specs.Tables.{TableValue}
use Rattle.cal_collect.specs.Collecting.{AreMerged, FitsAt, MergedAt}
use Rattle.cal_collect.specs.declared.part.Part.{Part}
use Rattle.cal_collect.proofs.Steps.{fits, next}
use Rattle.cal_collect.proofs.collector.PartCollector.collect.Goals as goal

when_ok : {T E : Type 0} (P : Type 0) (r : Result T E) → is_err r ≡ false → OnOk r P → P
when_ok P (Ok v) e h = h
when_ok P (Err x) e h = absurd cc

pub merge_in-requires : goal.merge_in-requires
merge_in-requires g c =
    let before = c.loop.self in
    let one = c.in-Some-receive.one in
    let lawful = c.in-Some-receive.ensures.lawful in
    let tables : c.receive.new.self.tables.items ≡ before.tables.items = ap (λ v. v.items) c.receive.ensures.tables in
    record {
      fits = subst (λ (ts : List TableValue). FitsAt ts one.part) (sym tables)
          (fits g.S.Shapes.shapes (senders_of before.collector) (received_by before.collector)
          before.tables.items one (c.loop.invariant.merged c.if-not-refused.true) lawful.0 lawful.1);
    }

pub loop-preserved-then-not-refused : goal.loop-preserved-then-not-refused
loop-preserved-then-not-refused g c =
    let before = c.loop.self in
    let after = c.receive.new.self in
    let one = c.in-Some-receive.one in
    let lawful = c.in-Some-receive.ensures.lawful in
    let shapes = g.S.Shapes.shapes in
    let stays = c.receive.ensures.stays in
    let new : List TableValue = c.merge_in.new.tables.items in
    let tables : after.tables.items ≡ before.tables.items = ap (λ v. v.items) c.receive.ensures.tables in
    record {
      next = search rules;
      finite = search rules;
      mailbox = stays.0 ∙ c.loop.invariant.mailbox;
      senders = stays.1 ∙ c.loop.invariant.senders;
      merged = λ well.
          subst (λ (n : ℕ). AreMerged shapes n (received_by after.collector) new) (sym stays.1)
          (subst (λ (received : List (Received Part)). AreMerged shapes (senders_of before.collector) received new)
          (sym c.in-Some-receive.ensures.received)
          (next shapes (senders_of before.collector) (received_by before.collector) before.tables.items one
          (c.loop.invariant.merged c.if-not-refused.true) lawful.0 lawful.1 new
          (subst (λ (ts : List TableValue). MergedAt ts one.part new) tables
          (when_ok (MergedAt after.tables.items one.part new) c.merge_in.result
          (sym c.is_err-refused.ensures.value ∙ well) c.merge_in.ensures.merged))));
    }
